-- What is known of each live thread at the start of a cycle, and what the later stages tell it: the threads in later stages and the older ones are others only where a fork's branches stand, and there they don't matter.
use Rattle.std.proofs.Common.{◌≡◌, refl, sym, ap, ap₂, ◌∙◌, subst, ℕ, suc, ◌≤◌, ◌<◌, Bool, true, false, ◌&&◌, ◌||◌, not, List, [], ◌∷◌, ◌++◌, Some, ◌==◌, nat_lt, nat_le, cond, if◌then◌else◌, arith, append-nil, append_assoc, ltb-true, ltb-false, leb-true, leb-false}
use Rattle.std.proofs.lemmas.Bool.{eqb-true}
use Rattle.pdl_semantics.specs.Flat.{Pipe, Op, Verify, SpecBarrier, Stmt, all_hold}
use Rattle.pdl_semantics.specs.Stages.{stage_at, sides_of}
use Rattle.pdl_semantics.specs.Machine.{Deeds, deeds_after_all}
use Rattle.pdl_semantics.specs.Machine
use Rattle.pdl_theory_turns.specs.Scans.{none_of}
use Rattle.pdl_theory_simulation.proofs.FlowFacts.{trunk_only}
use Rattle.pdl_theory_turns.proofs.Writes.{and_left, and_right}
use Rattle.pdl_theory_simulation.proofs.Stretches.{Behind, less_home}
use Rattle.pdl_theory_simulation.proofs.Seats.{Live, seat, find, each_map, Ordered, Rises}
use Rattle.pdl_word.proofs.Bools.{same_bools}
use Rattle.pdl_word.specs.Each.{Each}

-- whether somebody stands in this stage
abbrev pub someone : ℕ → List Live → Bool
someone s [] = false
someone s (l ∷ ls) = (l.thread.stage == s) || someone s ls

-- somebody stands in a stage too where there is one thread more
pub someone_more : (s : ℕ) (l : Live) (ls : List Live) → someone s ls ≡ true → someone s (l ∷ ls) ≡ true
someone_more s l ls h = at (l.thread.stage == s)
  where
    at : (b : Bool) → (b || someone s ls) ≡ true
    at true = refl
    at false = h

-- a thread behind the one in stage s
pub behind_someone : (p : Pipe) (q s : ℕ) (ls : List Live) → Each (λ k. Behind p q k.thread.stage) ls → someone s ls ≡ true → Behind p q s
behind_someone p q s [] b h = absurd (cc h)
behind_someone p q s (l ∷ ls) b h = at (l.thread.stage == s) refl h (λ k. behind_someone p q s ls b.1 k)
  where
    at : (c : Bool) → (l.thread.stage == s) ≡ c → (c || someone s ls) ≡ true → (someone s ls ≡ true → Behind p q s) → Behind p q s
    at true e k f = subst (λ n. Behind p q n) (eqb-true _ _ e) b.0
    at false e k f = f k

-- FORKS

-- the branches of the threads inside a fork, oldest first
abbrev pub sides : Pipe → ℕ → List Live → List Bool
sides p f [] = []
sides p f (l ∷ ls) = sides p f ls ++ sides_of f (stage_at p l.thread.stage).branches

-- the branches inside a fork of two lists of threads are those of the second and then those of the first
pub sides_append : (p : Pipe) (f : ℕ) (xs ys : List Live) → sides p f (xs ++ ys) ≡ sides p f ys ++ sides p f xs
sides_append p f [] ys = sym (append-nil (sides p f ys))
sides_append p f (x ∷ xs) ys =
    ap (λ l. l ++ sides_of f (stage_at p x.thread.stage).branches) (sides_append p f xs ys) ∙ append_assoc (sides p f ys) (sides p f xs) _

-- THE THREADS BY THEIR STAGES

-- a live thread with the older ones
pub record Pair : Type 0 where
  pub live : Live
  pub older : List Live

-- each live thread with those older than it
abbrev pub pairs : List Live → List Pair
pairs [] = []
pairs (l ∷ ls) = record { live = l; older = ls } ∷ pairs ls

-- a thread with its older ones, put among others by its stage
abbrev pub place : Pair → List Pair → List Pair
place x [] = x ∷ []
place x (y ∷ ys) = if nat_lt x.live.thread.stage y.live.thread.stage then x ∷ y ∷ ys else y ∷ place x ys

-- the live threads, each with its older ones, in rising stages
abbrev pub sorted : List Live → List Pair
sorted [] = []
sorted (l ∷ ls) = place (record { live = l; older = ls }) (sorted ls)

-- the live threads of these pairs
abbrev pub lives_of : List Pair → List Live
lives_of [] = []
lives_of (x ∷ xs) = x.live ∷ lives_of xs

-- something that holds of each pair
abbrev pub EachPair : (Pair → Type 0) → List Pair → Type 0
EachPair holds [] = Unit {0}
EachPair holds (x ∷ xs) = holds x × EachPair holds xs

-- what follows from a property holds of each of these pairs, where the property does
pub pair_map : {A B : Pair → Type 0} → ((x : Pair) → A x → B x) → (xs : List Pair) → EachPair A xs → EachPair B xs
pair_map f [] h = tt
pair_map f (x ∷ xs) h = (f x h.0, pair_map f xs h.1)

-- what follows from two properties holds of each of these pairs, where both do
pub pair_both : {A B C : Pair → Type 0} → ((x : Pair) → A x → B x → C x) → (xs : List Pair) → EachPair A xs → EachPair B xs → EachPair C xs
pair_both f [] h k = tt
pair_both f (x ∷ xs) h k = (f x h.0 k.0, pair_both f xs h.1 k.1)

each_place : (A : Pair → Type 0) (x : Pair) (ys : List Pair) → A x → EachPair A ys → EachPair A (place x ys)
each_place A x [] h k = (h, tt)
each_place A x (y ∷ ys) h k = at (nat_lt x.live.thread.stage y.live.thread.stage) (each_place A x ys h k.1)
  where
    at : (b : Bool) → EachPair A (place x ys) → EachPair A (cond b (x ∷ y ∷ ys) (y ∷ place x ys))
    at true r = (h, (k.0, k.1))
    at false r = (k.0, r)

place_each : (A : Pair → Type 0) (x : Pair) (ys : List Pair) → EachPair A (place x ys) → A x × EachPair A ys
place_each A x [] h = h
place_each A x (y ∷ ys) h = at (nat_lt x.live.thread.stage y.live.thread.stage) h (λ k. place_each A x ys k)
  where
    at : (b : Bool) → EachPair A (cond b (x ∷ y ∷ ys) (y ∷ place x ys)) → (EachPair A (place x ys) → A x × EachPair A ys) → A x × EachPair A (y ∷ ys)
    at true h f = h
    at false h f = let r = f h.1 in (r.0, (h.0, r.1))

-- what holds of all holds of all in that order
pub sorted_each : (A : Pair → Type 0) (ls : List Live) → EachPair A (pairs ls) → EachPair A (sorted ls)
sorted_each A [] h = tt
sorted_each A (l ∷ ls) h = each_place A (record { live = l; older = ls }) (sorted ls) h.0 (sorted_each A ls h.1)

-- what holds of each thread in the order of stages holds of each in the order of age
pub each_sorted : (A : Pair → Type 0) (ls : List Live) → EachPair A (sorted ls) → EachPair A (pairs ls)
each_sorted A [] h = tt
each_sorted A (l ∷ ls) h = let r = place_each A (record { live = l; older = ls }) (sorted ls) h in (r.0, each_sorted A ls r.1)

-- what holds of each live thread holds of the thread in each pair
pub pairs_each : (A : Live → Type 0) (ls : List Live) → Each A ls → EachPair (λ x. A x.live) (pairs ls)
pairs_each A [] h = tt
pairs_each A (l ∷ ls) h = (h.0, pairs_each A ls h.1)

find_place : (q : ℕ) (x : Pair) (ys : List Pair)
    → EachPair (λ y. y.live.thread.stage ≡ x.live.thread.stage → ⊥) ys
    → find q (lives_of (place x ys)) ≡ find q (x.live ∷ lives_of ys)
find_place q x [] h = refl
find_place q x (y ∷ ys) h = at (nat_lt x.live.thread.stage y.live.thread.stage) (find_place q x ys h.1)
  where
    swap : (b c : Bool) → (y.live.thread.stage == q) ≡ b → (x.live.thread.stage == q) ≡ c
        → cond b (Some (seat y.live)) (cond c (Some (seat x.live)) (find q (lives_of ys)))
        ≡ cond c (Some (seat x.live)) (cond b (Some (seat y.live)) (find q (lives_of ys)))
    swap true true e f = absurd (h.0 (eqb-true _ _ e ∙ sym (eqb-true _ _ f)))
    swap true false e f = refl
    swap false c e f = refl

    at : (b : Bool) → find q (lives_of (place x ys)) ≡ find q (x.live ∷ lives_of ys)
        → find q (lives_of (cond b (x ∷ y ∷ ys) (y ∷ place x ys))) ≡ find q (x.live ∷ y.live ∷ lives_of ys)
    at true r = refl
    at false r = ap (λ t. cond (y.live.thread.stage == q) (Some (seat y.live)) t) r ∙ swap (y.live.thread.stage == q) (x.live.thread.stage == q) refl refl

rises_place : (lo hi : ℕ) (x : Pair) (ys : List Pair)
    → lo ≤ x.live.thread.stage → x.live.thread.stage < hi
    → EachPair (λ y. y.live.thread.stage ≡ x.live.thread.stage → ⊥) ys → Rises lo hi (lives_of ys)
    → Rises lo hi (lives_of (place x ys))
rises_place lo hi x [] a b h r = (a, b, tt)
rises_place lo hi x (y ∷ ys) a b h r = at (nat_lt x.live.thread.stage y.live.thread.stage) refl (λ i. rises_place (suc y.live.thread.stage) hi x ys i b h.1 r.2)
  where
    at : (c : Bool) → nat_lt x.live.thread.stage y.live.thread.stage ≡ c
        → (suc y.live.thread.stage ≤ x.live.thread.stage → Rises (suc y.live.thread.stage) hi (lives_of (place x ys)))
        → Rises lo hi (lives_of (cond c (x ∷ y ∷ ys) (y ∷ place x ys)))
    at true e f = (a, b, (ltb-true _ _ e, r.1, r.2))
    at false e f = (r.0, r.1, f (more (ltb-false _ _ e) (λ i. h.0 i)))
      where
        more : y.live.thread.stage ≤ x.live.thread.stage → (y.live.thread.stage ≡ x.live.thread.stage → ⊥) → suc y.live.thread.stage ≤ x.live.thread.stage
        more u v = omega arith

-- two threads stand in two stages
apart_of : (p : Pipe) (s b : ℕ) → Behind p s b → b ≡ s → ⊥
apart_of p s b h e = let i : s < b = less_home p _ _ h (ap (λ n. (stage_at p n).branches) (sym e)) in absurd (omega arith)

aparts : (p : Pipe) (l : Live) (ls : List Live) → Each (λ k. Behind p l.thread.stage k.thread.stage) ls
    → EachPair (λ y. y.live.thread.stage ≡ l.thread.stage → ⊥) (sorted ls)
aparts p l ls h =
    sorted_each (λ y. y.live.thread.stage ≡ l.thread.stage → ⊥) ls
    (pairs_each (λ k. k.thread.stage ≡ l.thread.stage → ⊥) ls (each_map (λ k b. apart_of p l.thread.stage k.thread.stage b) ls h))

-- who stands in a stage is the same, by stages or by age, where each thread stands behind all older ones
pub find_sorted : (p : Pipe) (q : ℕ) (ls : List Live) → Ordered p ls → find q (lives_of (sorted ls)) ≡ find q ls
find_sorted p q [] o = refl
find_sorted p q (l ∷ ls) o =
    find_place q (record { live = l; older = ls }) (sorted ls) (aparts p l ls o.0)
    ∙ ap (λ t. cond (l.thread.stage == q) (Some (seat l)) t) (find_sorted p q ls o.1)

-- the threads by stages stand in rising stages, where each one stands behind all older ones
pub rises_sorted : (p : Pipe) (hi : ℕ) (ls : List Live)
    → Each (λ k. k.thread.stage < hi) ls → Ordered p ls → Rises 0 hi (lives_of (sorted ls))
rises_sorted p hi [] h o = tt
rises_sorted p hi (l ∷ ls) h o =
    rises_place 0 hi (record { live = l; older = ls }) (sorted ls) (omega arith) h.0 (aparts p l ls o.0) (rises_sorted p hi ls h.1 o.1)

-- STATEMENTS OF BRANCHES

fails_op : (read : ℕ → ℕ → ℕ) (op : Op) (d : Deeds)
    → not (trunk_only op) ≡ true
    → ((Machine.deeds_after read op d).fails ≡ d.fails) × ((Machine.deeds_after read op d).barrier ≡ d.barrier)
fails_op read (Verify last args) d h = absurd (cc h)
fails_op read SpecBarrier d h = absurd (cc h)
fails_op read _ d h = (refl, refl)

-- statements that a fork's branch may hold bring no failing verify and no barrier
pub fails_none : (read : ℕ → ℕ → ℕ) (xs : List Stmt) (d : Deeds)
    → none_of trunk_only xs ≡ true
    → ((deeds_after_all read xs d).fails ≡ d.fails) × ((deeds_after_all read xs d).barrier ≡ d.barrier)
fails_none read [] d h = (refl, refl)
fails_none read (x ∷ xs) d h =
    let r = fails_none read xs (if all_hold x.guards d.env then Machine.deeds_after read x.op d else d) (and_right _ _ h) in
    let o = fails_op read x.op d (and_left _ _ h) in
    (r.0 ∙ by (all_hold x.guards d.env) o.0, r.1 ∙ by' (all_hold x.guards d.env) o.1)
  where
    by : (b : Bool) → (Machine.deeds_after read x.op d).fails ≡ d.fails → (cond b (Machine.deeds_after read x.op d) d).fails ≡ d.fails
    by true e = e
    by false e = refl

    by' : (b : Bool) → (Machine.deeds_after read x.op d).barrier ≡ d.barrier → (cond b (Machine.deeds_after read x.op d) d).barrier ≡ d.barrier
    by' true e = e
    by' false e = refl

-- whether each pair passes the test
abbrev pub all_pairs : (Pair → Bool) → List Pair → Bool
all_pairs h [] = true
all_pairs h (x ∷ xs) = h x && all_pairs h xs

pairs_true : (h : Pair → Bool) (xs : List Pair) → all_pairs h xs ≡ true → EachPair (λ x. h x ≡ true) xs
pairs_true h [] e = tt
pairs_true h (x ∷ xs) e = (and_left _ _ e, pairs_true h xs (and_right _ _ e))

true_pairs : (h : Pair → Bool) (xs : List Pair) → EachPair (λ x. h x ≡ true) xs → all_pairs h xs ≡ true
true_pairs h [] e = refl
true_pairs h (x ∷ xs) e = ap₂ (λ a b. a && b) e.0 (true_pairs h xs e.1)

-- what holds of each live thread holds of each that is older than one of them
pub view_older : (A : Pair → Type 0) (ys : List Live) (l : Live) (older : List Live) → EachPair A (pairs (ys ++ l ∷ older))
    → EachPair A (pairs older)
view_older A [] l older h = h.1
view_older A (y ∷ ys) l older h = view_older A ys l older h.1

view_all : (p : Pipe) (A : Pair → Type 0) (ys : List Live) (l : Live) (older : List Live) → Ordered p (ys ++ l ∷ older)
    → EachPair (λ y. Behind p y.live.thread.stage l.thread.stage → A y) (pairs (ys ++ l ∷ older))
    → A (record { live = l; older = older }) → EachPair A (pairs older) → EachPair A (pairs (ys ++ l ∷ older))
view_all p A [] l older o f a h = (a, h)
view_all p A (y ∷ ys) l older o f a h = (f.0 (first ys o.0), view_all p A ys l older o.1 f.1 a h)
  where
    first : (zs : List Live) → Each (λ k. Behind p y.thread.stage k.thread.stage) (zs ++ l ∷ older) → Behind p y.thread.stage l.thread.stage
    first [] b = b.0
    first (z ∷ zs) b = first zs b.1

view_behind : (p : Pipe) (ys : List Live) (l : Live) (older : List Live) → Ordered p (ys ++ l ∷ older)
    → EachPair (λ y. Behind p l.thread.stage y.live.thread.stage) (pairs older)
view_behind p [] l older o = pairs_each (λ k. Behind p l.thread.stage k.thread.stage) older o.0
view_behind p (y ∷ ys) l older o = view_behind p ys l older o.1

rises_each : (lo hi : ℕ) (xs : List Pair) → Rises lo hi (lives_of xs) → EachPair (λ x. lo ≤ x.live.thread.stage) xs
rises_each lo hi [] r = tt
rises_each lo hi (x ∷ xs) r = (
  r.0,
  pair_map (λ y h. let i = r.0 in let j : suc x.live.thread.stage ≤ y.live.thread.stage = h in omega arith) xs
      (rises_each (suc x.live.thread.stage) hi xs r.2),
)

-- a test passes of all pairs in later stages just where it does of all older ones, where it passes of those in the one group alone
pub later_older : (p : Pipe) (h : Pair → Bool) (all ys : List Live) (l : Live) (older : List Live) (later : List Pair) (hi : ℕ)
    → all ≡ ys ++ l ∷ older → Ordered p all → Rises (suc l.thread.stage) hi (lives_of later)
    → ((A : Pair → Type 0) → EachPair A (pairs all) → EachPair A later)
    → ((A : Pair → Type 0) → EachPair A later → EachPair (λ y. suc l.thread.stage ≤ y.live.thread.stage → A y) (pairs all))
    → EachPair
    (λ y. (Behind p y.live.thread.stage l.thread.stage → l.thread.stage < y.live.thread.stage → h y ≡ true)
    × (Behind p l.thread.stage y.live.thread.stage → y.live.thread.stage ≤ l.thread.stage → h y ≡ true))
    (pairs all)
    → all_pairs h later ≡ all_pairs h (pairs older)
later_older p h all ys l older later hi is o r up down spec = same_bools _ _ forth back
  where
    o' : Ordered p (ys ++ l ∷ older)
    o' = subst (λ x. Ordered p x) is o

    spec' : EachPair
        (λ y. (Behind p y.live.thread.stage l.thread.stage → l.thread.stage < y.live.thread.stage → h y ≡ true)
        × (Behind p l.thread.stage y.live.thread.stage → y.live.thread.stage ≤ l.thread.stage → h y ≡ true))
        (pairs (ys ++ l ∷ older))
    spec' =
        subst
        (λ x. EachPair
        (λ y. (Behind p y.live.thread.stage l.thread.stage → l.thread.stage < y.live.thread.stage → h y ≡ true)
        × (Behind p l.thread.stage y.live.thread.stage → y.live.thread.stage ≤ l.thread.stage → h y ≡ true))
        (pairs x)) is spec

    by : (y : Pair) (b : Bool) → nat_le y.live.thread.stage l.thread.stage ≡ b
        → (suc l.thread.stage ≤ y.live.thread.stage → h y ≡ true) → (y.live.thread.stage ≤ l.thread.stage → h y ≡ true)
        → h y ≡ true
    by y true e f g = g (leb-true _ _ e)
    by y false e f g = f (leb-false _ _ e)

    forth : all_pairs h later ≡ true → all_pairs h (pairs older) ≡ true
    forth e =
        true_pairs h (pairs older)
        (pair_both (λ y f g. by y (nat_le y.live.thread.stage l.thread.stage) refl f g) (pairs older)
        (view_older (λ y. suc l.thread.stage ≤ y.live.thread.stage → h y ≡ true) ys l older
        (subst (λ x. EachPair (λ y. suc l.thread.stage ≤ y.live.thread.stage → h y ≡ true) (pairs x)) is (down (λ y. h y ≡ true) (pairs_true h later e))))
        (pair_both (λ y f b. f.1 b) (pairs older) (view_older _ ys l older spec') (view_behind p ys l older o')))

    back : all_pairs h (pairs older) ≡ true → all_pairs h later ≡ true
    back e =
        true_pairs h later
        (pair_both (λ y f g. f g) later
        (up (λ y. suc l.thread.stage ≤ y.live.thread.stage → h y ≡ true)
        (subst (λ x. EachPair (λ y. suc l.thread.stage ≤ y.live.thread.stage → h y ≡ true) (pairs x)) (sym is)
        (view_all p (λ y. suc l.thread.stage ≤ y.live.thread.stage → h y ≡ true) ys l older o'
        (pair_map (λ y f. λ b i. f.0 b i) (pairs (ys ++ l ∷ older)) spec')
        (λ i. absurd (omega arith)) (pair_map (λ y g. λ i. g) (pairs older) (pairs_true h (pairs older) e)))))
        (rises_each (suc l.thread.stage) hi later r))
