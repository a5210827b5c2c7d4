-- Delayed reads: what answers make of a thread's values, and which requests are outstanding after a cycle.
use Rattle.std.proofs.Common.{◌≡◌, ◌≢◌, refl, sym, ap, ap₂, ◌∙◌, ℕ, zero, suc, ◌+◌, ◌<◌, Bool, true, false, ◌&&◌, ◌||◌, not, List, [], ◌∷◌, ◌++◌, length, Option, Some, None, is_none, ◌==◌, cond, if◌then◌else◌, arith, eq-eqb, slice_index, slice_index_or, slice_set, zero-add, add-suc, suc-add}
use Rattle.std.proofs.lemmas.List.{set_comm}
use Rattle.std.proofs.lemmas.Bool.{eqb-true, ne_eqb}
use Rattle.pdl_semantics.specs.Flat.{Arrays, Op, DelayedRead, Verify, Stmt, Pipe, list_all, all_hold, word_at}
use Rattle.pdl_semantics.specs.Stages.{in_stage}
use Rattle.pdl_semantics.specs.Machine.{Ask, is_answered, same_args}
use Rattle.pdl_semantics.specs.Cycle.{awaited_of}
use Rattle.pdl_semantics.specs.Moves.{is_empty}
use Rattle.pdl_theory_turns.specs.Derived.{Work, Around, Thread, State, Act, work_after, do_all, around, act, acts, asked_at, word_of, still, with_answers, awaits_mem, port_free, asks_of, find_ask, next_ask, next_asks, said}
use Rattle.pdl_theory_turns.proofs.Writes.{and_left, and_right}
use Rattle.pdl_theory_turns.proofs.Stages.{step, was_ready}

-- the values with these requests' answers from these arrays
abbrev pub caught : Arrays → List Ask → List ℕ → List ℕ
caught arrays [] env = env
caught arrays (q ∷ qs) env = caught arrays qs (slice_set env q.var (word_at arrays q.mem q.address))

-- the requests that this cycle doesn't answer
abbrev pub still_asks : Pipe → List Bool → List Ask → List Ask
still_asks p bits [] = []
still_asks p bits (q ∷ qs) = if is_answered p bits q.mem then still_asks p bits qs else q ∷ still_asks p bits qs

-- the reads that are awaited after a cycle are those of the requests that it doesn't answer
pub still_awaited : (p : Pipe) (bits : List Bool) (qs : List Ask) → still p bits (awaited_of qs) ≡ awaited_of (still_asks p bits qs)
still_awaited p bits [] = refl
still_awaited p bits (q ∷ qs) = at (is_answered p bits q.mem) (still_awaited p bits qs)
  where
    at : (b : Bool) → still p bits (awaited_of qs) ≡ awaited_of (still_asks p bits qs)
        → cond b (still p bits (awaited_of qs)) (record { mem = q.mem; var = q.var } ∷ still p bits (awaited_of qs))
        ≡ awaited_of (cond b (still_asks p bits qs) (q ∷ still_asks p bits qs))
    at true h = h
    at false h = ap (λ l. record { mem = q.mem; var = q.var } ∷ l) h

-- there are no requests where no read of one is awaited
pub none_awaited : (qs : List Ask) → is_empty (awaited_of qs) ≡ true → qs ≡ []
none_awaited [] h = refl
none_awaited (q ∷ qs) h = absurd (cc h)

-- requests for different memories and variables
abbrev Avoids : Ask → List Ask → Type 0
Avoids q [] = Unit {0}
Avoids q (r ∷ rs) = (q.var ≢ r.var) × (q.mem ≢ r.mem) × Avoids q rs

-- each two of these requests are for different memories and variables
abbrev pub Apart : List Ask → Type 0
Apart [] = Unit {0}
Apart (q ∷ qs) = Avoids q qs × Apart qs

avoids_still : (p : Pipe) (bits : List Bool) (q : Ask) (rs : List Ask) → Avoids q rs → Avoids q (still_asks p bits rs)
avoids_still p bits q [] h = tt
avoids_still p bits q (r ∷ rs) h = at (is_answered p bits r.mem) (avoids_still p bits q rs h.2)
  where
    at : (b : Bool) → Avoids q (still_asks p bits rs) → Avoids q (cond b (still_asks p bits rs) (r ∷ still_asks p bits rs))
    at true k = k
    at false k = (h.0, h.1, k)

-- requests for different memories and variables are that too without those that a cycle answers
pub apart_still : (p : Pipe) (bits : List Bool) (qs : List Ask) → Apart qs → Apart (still_asks p bits qs)
apart_still p bits [] h = tt
apart_still p bits (q ∷ qs) h = at (is_answered p bits q.mem) (apart_still p bits qs h.1)
  where
    at : (b : Bool) → Apart (still_asks p bits qs) → Apart (cond b (still_asks p bits qs) (q ∷ still_asks p bits qs))
    at true k = k
    at false k = (avoids_still p bits q qs h.0, k)

-- something that holds of each
abbrev pub AllAsks : (Ask → Type 0) → List Ask → Type 0
AllAsks P [] = Unit {0}
AllAsks P (q ∷ qs) = P q × AllAsks P qs

-- what holds of each request holds of each one that a cycle doesn't answer
pub all_still : (P : Ask → Type 0) (p : Pipe) (bits : List Bool) (qs : List Ask) → AllAsks P qs → AllAsks P (still_asks p bits qs)
all_still P p bits [] h = tt
all_still P p bits (q ∷ qs) h = at (is_answered p bits q.mem) (all_still P p bits qs h.1)
  where
    at : (b : Bool) → AllAsks P (still_asks p bits qs) → AllAsks P (cond b (still_asks p bits qs) (q ∷ still_asks p bits qs))
    at true k = k
    at false k = (h.0, k)

-- what follows from a property of requests holds of each of these, where the property does
pub all_more : (P Q : Ask → Type 0) (qs : List Ask) → ((q : Ask) → P q → Q q) → AllAsks P qs → AllAsks Q qs
all_more P Q [] f h = tt
all_more P Q (q ∷ qs) f h = (f q h.0, all_more P Q qs f h.1)

-- where two properties hold of each of these requests, both together do
pub all_both : (P Q : Ask → Type 0) (qs : List Ask) → AllAsks P qs → AllAsks Q qs → AllAsks (λ q. P q × Q q) qs
all_both P Q [] h k = tt
all_both P Q (q ∷ qs) h k = ((h.0, k.0), all_both P Q qs h.1 k.1)

-- what holds of these requests and of one more holds of each of them all
pub all_snoc : (P : Ask → Type 0) (qs : List Ask) (q : Ask) → AllAsks P qs → P q → AllAsks P (qs ++ q ∷ [])
all_snoc P [] q h k = (k, tt)
all_snoc P (r ∷ rs) q h k = (h.0, all_snoc P rs q h.1 k)

avoids_snoc : (r : Ask) (qs : List Ask) (q : Ask) → Avoids r qs → (r.var ≢ q.var) × (r.mem ≢ q.mem) → Avoids r (qs ++ q ∷ [])
avoids_snoc r [] q h k = (k.0, k.1, tt)
avoids_snoc r (s ∷ qs) q h k = (h.0, h.1, avoids_snoc r qs q h.2 k)

-- one more request for another memory and variable than each of these leaves all of them different
pub apart_snoc : (qs : List Ask) (q : Ask) → Apart qs → AllAsks (λ r. (r.var ≢ q.var) × (r.mem ≢ q.mem)) qs → Apart (qs ++ q ∷ [])
apart_snoc [] q h k = (tt, tt)
apart_snoc (r ∷ rs) q h k = (avoids_snoc r rs q h.0 k.0, apart_snoc rs q h.1 k.1)

-- ANSWERS

-- the value of a variable that none of these requests is for
pub caught_set : (arrays : Arrays) (x v : ℕ) (qs : List Ask) (env : List ℕ) → AllAsks (λ q. q.var ≢ x) qs
    → caught arrays qs (slice_set env x v) ≡ slice_set (caught arrays qs env) x v
caught_set arrays x v [] env h = refl
caught_set arrays x v (q ∷ qs) env h =
    ap (caught arrays qs) (set_comm env x q.var v (word_at arrays q.mem q.address) (λ e. h.0 (sym e)))
    ∙ caught_set arrays x v qs (slice_set env q.var (word_at arrays q.mem q.address)) h.1

-- a variable that no answer is for
answers_set : (p : Pipe) (st : State) (bits : List Bool) (q : Ask) (w : ℕ) (rs : List Ask) (env : List ℕ) → Avoids q rs
    → with_answers p st bits (awaited_of rs) (slice_set env q.var w) ≡ slice_set (with_answers p st bits (awaited_of rs) env) q.var w
answers_set p st bits q w [] env h = refl
answers_set p st bits q w (r ∷ rs) env h =
    ap (with_answers p st bits (awaited_of rs)) (at (is_answered p bits r.mem))
    ∙ answers_set p st bits q w rs (if is_answered p bits r.mem then slice_set env r.var (word_of st.arrays r.mem (asked_at st r.mem)) else env) h.2
  where
    at : (b : Bool)
        → cond b (slice_set (slice_set env q.var w) r.var (word_of st.arrays r.mem (asked_at st r.mem))) (slice_set env q.var w)
        ≡ slice_set (cond b (slice_set env r.var (word_of st.arrays r.mem (asked_at st r.mem))) env) q.var w
    at true = set_comm env q.var r.var w (word_of st.arrays r.mem (asked_at st r.mem)) h.0
    at false = refl

-- an answer is right: its request is outstanding, and the word at its address is the turn's
abbrev pub RightWord : State → Arrays → Ask → Type 0
RightWord st arrays q = (asked_at st q.mem ≡ Some q.address) × (word_at st.arrays q.mem q.address ≡ word_at arrays q.mem q.address)

-- with right answers what a thread will have stays the same
pub answers_caught : (p : Pipe) (st : State) (bits : List Bool) (arrays : Arrays) (qs : List Ask) (env : List ℕ)
    → Apart qs → AllAsks (RightWord st arrays) qs
    → caught arrays (still_asks p bits qs) (with_answers p st bits (awaited_of qs) env) ≡ caught arrays qs env
answers_caught p st bits arrays [] env a h = refl
answers_caught p st bits arrays (q ∷ qs) env a h =
    at (is_answered p bits q.mem)
    (answers_caught p st bits arrays qs (slice_set env q.var (word_of st.arrays q.mem (asked_at st q.mem))) a.1 h.1)
    (answers_caught p st bits arrays qs (slice_set env q.var (word_at arrays q.mem q.address)) a.1 h.1)
  where
    word : word_of st.arrays q.mem (asked_at st q.mem) ≡ word_at arrays q.mem q.address
    word = ap (word_of st.arrays q.mem) h.0.0 ∙ h.0.1

    at : (b : Bool)
        → caught arrays (still_asks p bits qs) (with_answers p st bits (awaited_of qs) (slice_set env q.var (word_of st.arrays q.mem (asked_at st q.mem))))
        ≡ caught arrays qs (slice_set env q.var (word_of st.arrays q.mem (asked_at st q.mem)))
        → caught arrays (still_asks p bits qs) (with_answers p st bits (awaited_of qs) (slice_set env q.var (word_at arrays q.mem q.address)))
        ≡ caught arrays qs (slice_set env q.var (word_at arrays q.mem q.address))
        → caught arrays (cond b (still_asks p bits qs) (q ∷ still_asks p bits qs))
        (with_answers p st bits (awaited_of qs) (cond b (slice_set env q.var (word_of st.arrays q.mem (asked_at st q.mem))) env))
        ≡ caught arrays qs (slice_set env q.var (word_at arrays q.mem q.address))
    at true f g = f ∙ ap (λ w. caught arrays qs (slice_set env q.var w)) word
    at false f g = ap (caught arrays (still_asks p bits qs)) (sym (answers_set p st bits q (word_at arrays q.mem q.address) qs env a.0)) ∙ g

-- REQUESTS AFTER A CYCLE

-- after a cycle a memory has its new request, or its old one if that isn't answered
pub request_at : (p : Pipe) (bits : List Bool) (qs : List Ask) (k : ℕ) (olds : List (Option ℕ)) (j : ℕ)
    → j < length olds
    → slice_index_or (next_asks p bits qs k olds) j None
    ≡ next_ask (find_ask qs (k + j)) (is_answered p bits (k + j)) (slice_index_or olds j None)
request_at p bits qs k [] j h = absurd (omega arith)
request_at p bits qs k (o ∷ olds) zero h = ap (λ n. next_ask (find_ask qs n) (is_answered p bits n) o) (let e : k ≡ k + 0 = omega arith in e)
request_at p bits qs k (o ∷ olds) (suc j) h =
    request_at p bits qs (suc k) olds j (omega arith)
    ∙ ap (λ n. next_ask (find_ask qs n) (is_answered p bits n) (slice_index_or olds j None)) (suc-add k j ∙ sym (add-suc k j))

-- a cycle leaves as many entries for requests as there were
pub requests_length : (p : Pipe) (bits : List Bool) (qs : List Ask) (k : ℕ) (olds : List (Option ℕ))
    → length (next_asks p bits qs k olds) ≡ length olds
requests_length p bits qs k [] = refl
requests_length p bits qs k (o ∷ olds) = ap suc (requests_length p bits qs (suc k) olds)

there : (olds : List (Option ℕ)) (j a : ℕ) → slice_index_or olds j None ≡ Some a → j < length olds
there [] j a h = absurd (clash h)
  where
    clash : None ≡ Some a → ⊥
    clash e = cc
there (o ∷ olds) zero a h = omega arith
there (o ∷ olds) (suc j) a h = let i = there olds j a h in omega arith

-- a request is outstanding
abbrev pub Out : List (Option ℕ) → Ask → Type 0
Out asked q = slice_index_or asked q.mem None ≡ Some q.address

-- one that isn't answered stays where nobody asks anew
stays_out : (p : Pipe) (bits : List Bool) (all : List Ask) (olds : List (Option ℕ)) (q : Ask) → Out olds q
    → is_answered p bits q.mem ≡ false → find_ask all q.mem ≡ None → Out (next_asks p bits all 0 olds) q
stays_out p bits all olds q h e f =
    request_at p bits all 0 olds q.mem (there olds q.mem q.address h)
    ∙ ap₂ (λ a b. next_ask a b (slice_index_or olds q.mem None)) (ap (find_ask all) (zero-add q.mem) ∙ f) (ap (is_answered p bits) (zero-add q.mem) ∙ e) ∙ h

-- a new request is outstanding after the cycle
pub new_out : (p : Pipe) (bits : List Bool) (all : List Ask) (olds : List (Option ℕ)) (q : Ask)
    → q.mem < length olds → find_ask all q.mem ≡ Some q.address → Out (next_asks p bits all 0 olds) q
new_out p bits all olds q low f =
    request_at p bits all 0 olds q.mem low
    ∙ ap (λ a. next_ask a (is_answered p bits (0 + q.mem)) (slice_index_or olds q.mem None)) (ap (find_ask all) (zero-add q.mem) ∙ f)

-- outstanding requests that a cycle doesn't answer stay outstanding, where it asks nothing new of their memories
pub all_out : (p : Pipe) (bits : List Bool) (all : List Ask) (olds : List (Option ℕ)) (qs : List Ask)
    → AllAsks (Out olds) qs → AllAsks (λ q. is_answered p bits q.mem ≡ false → find_ask all q.mem ≡ None) qs
    → AllAsks (Out (next_asks p bits all 0 olds)) (still_asks p bits qs)
all_out p bits all olds [] h f = tt
all_out p bits all olds (q ∷ qs) h f = at (is_answered p bits q.mem) refl (all_out p bits all olds qs h.1 f.1)
  where
    at : (b : Bool) → is_answered p bits q.mem ≡ b → AllAsks (Out (next_asks p bits all 0 olds)) (still_asks p bits qs)
        → AllAsks (Out (next_asks p bits all 0 olds)) (cond b (still_asks p bits qs) (q ∷ still_asks p bits qs))
    at true e k = k
    at false e k = (stays_out p bits all olds q h.0 e (f.0 e), k)

-- WHO ASKS

-- the first of two addresses that may be asked for, else the second
abbrev pub or_ask : Option ℕ → Option ℕ → Option ℕ
or_ask None k = k
or_ask (Some x) k = Some x

-- the request for m in two lists is that of the first, else that of the second
pub find_append : (qs rs : List Ask) (m : ℕ) → find_ask (qs ++ rs) m ≡ or_ask (find_ask qs m) (find_ask rs m)
find_append [] rs m = refl
find_append (q ∷ qs) rs m = at (q.mem == m) (find_append qs rs m)
  where
    at : (b : Bool) → find_ask (qs ++ rs) m ≡ or_ask (find_ask qs m) (find_ask rs m)
        → cond b (Some q.address) (find_ask (qs ++ rs) m) ≡ or_ask (cond b (Some q.address) (find_ask qs m)) (find_ask rs m)
    at true h = refl
    at false h = h

-- requests for different memories are each found
pub found : (qs : List Ask) → Apart qs → AllAsks (λ q. find_ask qs q.mem ≡ Some q.address) qs
found [] a = tt
found (q ∷ qs) a = (
  ap (λ b. cond b (Some q.address) (find_ask qs q.mem)) (eq-eqb q.mem q.mem refl),
  later qs qs a.0 (found qs a.1),
)
  where
    later : (rs all : List Ask) → Avoids q rs → AllAsks (λ r. find_ask all r.mem ≡ Some r.address) rs
        → AllAsks (λ r. cond (q.mem == r.mem) (Some q.address) (find_ask all r.mem) ≡ Some r.address) rs
    later [] all h f = tt
    later (r ∷ rs) all h f = (ap (λ b. cond b (Some q.address) (find_ask all r.mem)) (ne_eqb q.mem r.mem h.1) ∙ f.0, later rs all h.2 f.1)

-- who is ready asks only where the port is free
unasked_op : (o : Around) (op : Op) (w : Work) (m : ℕ)
    → o.free m ≡ false → (work_after o op w).ready ≡ true → find_ask (work_after o op w).asks m ≡ find_ask w.asks m
unasked_op o (DelayedRead x n a) w m h r = at (n == m) refl
  where
    no_more : (f : Option ℕ) → or_ask f None ≡ f
    no_more None = refl
    no_more (Some k) = refl

    at : (b : Bool) → (n == m) ≡ b → find_ask (w.asks ++ record { mem = n; var = x; address = slice_index w.env a } ∷ []) m ≡ find_ask w.asks m
    at true e = absurd (clash (sym h ∙ ap o.free (sym (eqb-true n m e)) ∙ and_right w.ready (o.free n) r))
      where
        clash : false ≡ true → ⊥
        clash k = cc
    at false e =
        find_append w.asks (record { mem = n; var = x; address = slice_index w.env a } ∷ []) m
        ∙ ap (λ b. or_ask (find_ask w.asks m) (cond b (Some (slice_index w.env a)) None)) e
        ∙ no_more (find_ask w.asks m)
unasked_op o (Verify last args) w m h r = at (same_args (said o last args w.env) w.guess)
  where
    at : (b : Bool)
        → find_ask (cond b w (record w { child = Some (said o last args w.env); guess = said o last args w.env; fails = true })).asks m ≡ find_ask w.asks m
    at true = refl
    at false = refl
unasked_op o _ w m h r = refl

-- statements that leave a thread ready make no new request for m where the port of m isn't free
pub unasked : (o : Around) (xs : List Stmt) (w : Work) (m : ℕ)
    → o.free m ≡ false → (do_all o xs w).ready ≡ true → find_ask (do_all o xs w).asks m ≡ find_ask w.asks m
unasked o [] w m h r = refl
unasked o (x ∷ xs) w m h r = unasked o xs (step o x w) m h r ∙ at (all_hold x.guards w.env) (was_ready o xs (step o x w) r)
  where
    at : (b : Bool) → (cond b (work_after o x.op w) w).ready ≡ true → find_ask (cond b (work_after o x.op w) w).asks m ≡ find_ask w.asks m
    at true k = unasked_op o x.op w m h k
    at false k = refl

-- a port that older threads hold is held for all younger ones
held_more : (p : Pipe) (st : State) (bits : List Bool) (a : Act) (older : List Act) (m : ℕ)
    → port_free p st bits older m ≡ false → port_free p st bits (a ∷ older) m ≡ false
held_more p st bits a older m h =
    at (is_none (asked_at st m)) (is_answered p bits m) (not (awaits_mem a.before.awaits m) || a.moves)
    (list_all (λ o. not (awaits_mem o.before.awaits m) || o.moves) older) h
  where
    at : (n b x y : Bool) → (n || (b && y)) ≡ false → (n || (b && (x && y))) ≡ false
    at true b x y k = absurd (cc k)
    at false false x y k = refl
    at false true false y k = refl
    at false true true y k = k

-- where the port of m isn't free for a thread, neither it nor a younger one asks for m
pub held_port : (p : Pipe) (st : State) (bits : List Bool) (older : List Act) (ts : List Thread) (m : ℕ)
    → port_free p st bits older m ≡ false → find_ask (asks_of (acts p st bits older ts)) m ≡ None
held_port p st bits older [] m h = refl
held_port p st bits older (t ∷ ts) m h =
    at (act p st bits older t).moves refl (held_port p st bits (act p st bits older t ∷ older) ts m (held_more p st bits (act p st bits older t) older m h))
  where
    at : (b : Bool) → (act p st bits older t).moves ≡ b → find_ask (asks_of (acts p st bits (act p st bits older t ∷ older) ts)) m ≡ None
        → find_ask
        (cond b ((act p st bits older t).work.asks ++ asks_of (acts p st bits (act p st bits older t ∷ older) ts))
        (asks_of (acts p st bits (act p st bits older t ∷ older) ts))) m
        ≡ None
    at true e k =
        find_append (act p st bits older t).work.asks (asks_of (acts p st bits (act p st bits older t ∷ older) ts)) m
        ∙ ap₂ or_ask
        (unasked (around p st bits older t.stage t.hint) (in_stage t.stage p.stmts) _ m h (and_right _ _ (and_left _ _ (and_left _ _ (and_left _ _ e))))) k
    at false e k = k
