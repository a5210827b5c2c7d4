-- Locations that a thread has blocked for reading, and those that it holds for writing, as its statements go by.
use Rattle.std.proofs.Common.{◌≡◌, refl, sym, ap, ◌∙◌, subst, ℕ, ◌≤◌, Bool, true, false, ◌&&◌, ◌||◌, not, List, [], ◌∷◌, Some, ◌==◌, cond, arith, slice_index, ◌+◌}
use Rattle.std.proofs.lemmas.Bool.{or_right, eqb-true}
use Rattle.pdl_semantics.specs.Flat.{Op, DelayedRead, Write, ReserveWrite, Block, Release, Verify, Pipe}
use Rattle.pdl_semantics.specs.Stages.{commit_stage}
use Rattle.pdl_semantics.specs.Machine.{HeldLocation, Deeds, deeds_after, is_held, let_go, held_after, same_args, checked_args}
use Rattle.pdl_theory_turns.specs.Alone.{Location, answered_op}
use Rattle.pdl_theory_turns.specs.Scans.{Phase, after_write, after_reserve, after_release, may_write, next_phase, Scan, has_location, scan_after, location}
use Rattle.pdl_machine_lockuse.proofs.Reservations.{one_if, uses, Single, uses_reserve, uses_write, uses_release, single_op}
use Rattle.pdl_theory_turns.proofs.Surroundings.{Right}
use Rattle.pdl_theory_simulation.proofs.FlowFacts.{use_ok}
use Rattle.pdl_word.proofs.Bools.{or_map}

-- BLOCKED FOR READING

-- a location among the blocked ones is clean up to the stage of its releases
pub right_at : (p : Pipe) (s : ℕ) (clean : ℕ → ℕ → Type 0) (ls : List Location) (env : List ℕ) (m a : ℕ)
    → has_location ls m a ≡ true → s ≤ commit_stage p m → Right p s clean ls env → clean m (slice_index env a)
right_at p s clean [] env m a h c r = absurd (cc h)
right_at p s clean (l ∷ ls) env m a h c r = at (l.mem == m) refl (l.var == a) refl h (λ t. right_at p s clean ls env m a t c r.2)
  where
    here : l.mem ≡ m → l.var ≡ a → clean m (slice_index env a)
    here i j = subst (λ n. clean n (slice_index env a)) i (subst (λ y. clean l.mem (slice_index env y)) j (r.1 (subst (λ n. s ≤ commit_stage p n) (sym i) c)))

    at : (b : Bool) → (l.mem == m) ≡ b → (d : Bool) → (l.var == a) ≡ d → ((b && d) || has_location ls m a) ≡ true
        → (has_location ls m a ≡ true → clean m (slice_index env a)) → clean m (slice_index env a)
    at true e true f t rest = here (eqb-true l.mem m e) (eqb-true l.var a f)
    at true e false f t rest = rest t
    at false e d f t rest = rest t

-- HELD FOR WRITING

-- what is held was reserved
abbrev pub Covers : List Location → List HeldLocation → Type 0
Covers ls hs = (m a : ℕ) → is_held hs m a ≡ true → has_location ls m a ≡ true

held_let_go : (hs : List HeldLocation) (n b m a : ℕ) → is_held (let_go hs n b) m a ≡ true → is_held hs m a ≡ true
held_let_go [] n b m a h = h
held_let_go (l ∷ hs) n b m a h = at ((l.mem == n) && (l.var == b)) h (held_let_go hs n b m a)
  where
    at : (t : Bool) → is_held (cond t hs (l ∷ let_go hs n b)) m a ≡ true → (is_held (let_go hs n b) m a ≡ true → is_held hs m a ≡ true)
        → (((l.mem == m) && (l.var == a)) || is_held hs m a) ≡ true
    at true k f = or_right ((l.mem == m) && (l.var == a)) (is_held hs m a) k
    at false k f = or_map ((l.mem == m) && (l.var == a)) (is_held (let_go hs n b) m a) (is_held hs m a) f k

covers_block : (b : Bool) (c : Scan) (l : Location) (hs : List HeldLocation) → Covers c.held hs
    → Covers (cond b c (record { held = c.held; blocked = l ∷ c.blocked })).held hs
covers_block true c l hs f = f
covers_block false c l hs f = f

-- after one statement more what is held for writing was reserved
pub covers_op : (c : Scan) (op : Op) (hs : List HeldLocation) → Covers c.held hs
    → Covers (scan_after (answered_op op) c).held (held_after op hs)
covers_op c (ReserveWrite n b) hs f = λ m a h. or_map ((n == m) && (b == a)) (is_held hs m a) (has_location c.held m a) (f m a) h
covers_op c (Release n b) hs f = λ m a h. f m a (held_let_go hs n b m a h)
covers_op c (Block n b) hs f = covers_block (has_location c.held n b) c (location n b) hs f
covers_op c (DelayedRead x n b) hs f = f
covers_op c _ hs f = f

-- the deeds after a statement hold what the statement leaves held
pub held_does : (read : ℕ → ℕ → ℕ) (op : Op) (d : Deeds) → (deeds_after read op d).held ≡ held_after op d.held
held_does read (Verify last args) d = at (same_args (checked_args last args d) d.guess)
  where
    at : (b : Bool) → (cond b d (record d { child = Some (checked_args last args d); guess = checked_args last args d; fails = true })).held ≡ d.held
    at true = refl
    at false = refl
held_does read _ d = refl

-- EACH LOCATION AT MOST ONCE

-- how often a location is held
abbrev pub count_at : ℕ → ℕ → List HeldLocation → ℕ
count_at m a [] = 0
count_at m a (l ∷ ls) = one_if ((l.mem == m) && (l.var == a)) + count_at m a ls

-- what is held of a memory are variables of its phase, each once
pub record HeldOnce (m : ℕ) (ph : Phase) (ls : List HeldLocation) : Type 0 where
  pub few : (a : ℕ) → count_at m a ls ≤ uses ph a
  pub single : Single ph

-- so each location is held at most once
pub held_once : (m : ℕ) (ph : Phase) (ls : List HeldLocation) → HeldOnce m ph ls → (a : ℕ) → count_at m a ls ≤ 1
held_once m ph ls o a = less (o.few a) (o.single a)
  where
    less : {i j : ℕ} → i ≤ j → j ≤ 1 → i ≤ 1
    less e f = omega (arith, e, f)

none_held : (m a : ℕ) (hs : List HeldLocation) → count_at m a hs ≡ 0 → is_held hs m a ≡ false
none_held m a [] e = refl
none_held m a (g ∷ hs) e = by ((g.mem == m) && (g.var == a)) e (none_held m a hs)
  where
    by : (b : Bool) → one_if b + count_at m a hs ≡ 0 → (count_at m a hs ≡ 0 → is_held hs m a ≡ false) → (b || is_held hs m a) ≡ false
    by true e go = absurd (omega (arith, e))
    by false e go = go (zero e)
      where
        zero : 0 + count_at m a hs ≡ 0 → count_at m a hs ≡ 0
        zero i = omega (arith, i)

-- what is released is held no more
pub released_here : (m a : ℕ) (ls : List HeldLocation) → count_at m a ls ≤ 1 → is_held (let_go ls m a) m a ≡ false
released_here m a [] h = refl
released_here m a (l ∷ ls) h = at ((l.mem == m) && (l.var == a)) refl h (λ i. released_here m a ls i)
  where
    at : (t : Bool) → ((l.mem == m) && (l.var == a)) ≡ t → one_if t + count_at m a ls ≤ 1
        → (count_at m a ls ≤ 1 → is_held (let_go ls m a) m a ≡ false) → is_held (cond t ls (l ∷ let_go ls m a)) m a ≡ false
    at true e i rest = none_held m a ls (omega (arith, i))
    at false e i rest = ap (λ b. b || is_held (let_go ls m a) m a) e ∙ rest (omega (arith, i))

fewer : (m x j a : ℕ) (ls : List HeldLocation) → count_at m x (let_go ls j a) ≤ count_at m x ls
fewer m x j a [] = omega arith
fewer m x j a (l ∷ ls) = at ((l.mem == j) && (l.var == a)) (one_if ((l.mem == m) && (l.var == x))) (fewer m x j a ls)
  where
    at : (t : Bool) (n : ℕ) → count_at m x (let_go ls j a) ≤ count_at m x ls
        → count_at m x (cond t ls (l ∷ let_go ls j a)) ≤ one_if ((l.mem == m) && (l.var == x)) + count_at m x ls
    at true n h = more (one_if ((l.mem == m) && (l.var == x))) (count_at m x ls)
      where
        more : (i k : ℕ) → k ≤ i + k
        more i k = omega arith
    at false n h = both (one_if ((l.mem == m) && (l.var == x))) (count_at m x (let_go ls j a)) (count_at m x ls) h
      where
        both : (i k c : ℕ) → k ≤ c → i + k ≤ i + c
        both i k c e = omega (arith, e)

-- what is held of a memory are variables of its phase, each once, after one statement more that uses it in order
pub once_op : (m : ℕ) (ph : Phase) (op : Op) (hs : List HeldLocation)
    → use_ok m ph op ≡ true → HeldOnce m ph hs → HeldOnce m (next_phase m ph op) (held_after op hs)
once_op m ph (ReserveWrite j a) hs k o = record { few = λ x. at x (j == m) refl; single = single_op m ph (ReserveWrite j a) k o.single }
  where
    both : (i k c : ℕ) → k ≤ c → i + k ≤ i + c
    both i k c e = omega (arith, e)

    at : (x : ℕ) (b : Bool) → (j == m) ≡ b → one_if ((j == m) && (a == x)) + count_at m x hs ≤ uses (cond b (after_reserve ph a) ph) x
    at x true e =
        subst (λ c. one_if (c && (a == x)) + count_at m x hs ≤ uses (after_reserve ph a) x) (sym e)
        (subst (λ n. one_if (a == x) + count_at m x hs ≤ n) (sym (uses_reserve ph a x)) (both (one_if (a == x)) (count_at m x hs) (uses ph x) (o.few x)))
    at x false e = subst (λ c. one_if (c && (a == x)) + count_at m x hs ≤ uses ph x) (sym e) (none (count_at m x hs) (uses ph x) (o.few x))
      where
        none : (i c : ℕ) → i ≤ c → 0 + i ≤ c
        none i c f = omega (arith, f)
once_op m ph (Write j a e) hs k o = record { few = λ x. at x (j == m) k; single = single_op m ph (Write j a e) k o.single }
  where
    at : (x : ℕ) (b : Bool) → (not b || may_write ph a) ≡ true → count_at m x hs ≤ uses (cond b (after_write ph a) ph) x
    at x true i = subst (λ n. count_at m x hs ≤ n) (sym (uses_write ph a x i)) (o.few x)
    at x false i = o.few x
once_op m ph (Release j a) hs k o = record { few = λ x. at x (j == m); single = single_op m ph (Release j a) k o.single }
  where
    less : (i n c : ℕ) → i ≤ n → n ≤ c → i ≤ c
    less i n c e f = omega (arith, e, f)

    at : (x : ℕ) (b : Bool) → count_at m x (let_go hs j a) ≤ uses (cond b (after_release ph a) ph) x
    at x true = subst (λ n. count_at m x (let_go hs j a) ≤ n) (sym (uses_release ph a x)) (less _ _ _ (fewer m x j a hs) (o.few x))
    at x false = less _ _ _ (fewer m x j a hs) (o.few x)
once_op m ph _ hs k o = o
