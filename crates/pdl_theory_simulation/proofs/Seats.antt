-- The live threads with their numbers and kept answers, the youngest first; the acts of both machines in that order.
use Rattle.std.proofs.Common.{◌≡◌, refl, sym, ap, ap₂, ◌∙◌, subst, ℕ, suc, ◌+◌, ◌≤◌, ◌<◌, Bool, true, false, List, [], ◌∷◌, ◌++◌, length, Option, Some, None, ◌==◌, cond, if◌then◌else◌, arith, lt-ltb, add-suc, suc-add, append-nil, append_assoc, length-append}
use Rattle.std.proofs.lemmas.Bool.{eqb-true, eqb-false, ne_eqb}
use Rattle.pdl_semantics.specs.Flat.{Pipe, Stage}
use Rattle.pdl_semantics.specs.Locks.{Nothing}
use Rattle.pdl_semantics.specs.Machine.{Kept, State, Pending, with_answers, Deeds, youngest}
use Rattle.pdl_semantics.specs.Cycle.{for_stages}
use Rattle.pdl_semantics.specs.Machine
use Rattle.pdl_semantics.specs.Moves
use Rattle.pdl_theory_turns.specs.Derived.{work_of_stage, Work, latest, latest_in, pending, count_in, befores, around}
use Rattle.pdl_theory_turns.specs.Derived
use Rattle.pdl_theory_turns.proofs.Slots.{rev, stages_same}
use Rattle.pdl_theory_simulation.proofs.Stretches.{Behind}
use Rattle.pdl_theory_turns.proofs.Lists.{pend, youngest_append, youngest_older, length_pend}
use Rattle.pdl_word.specs.Each.{Each}

-- a live thread of the derived machine, its number, the values with which it came into its stage, and the answers and the advised values that the stated machine keeps for it
pub record Live : Type 0 where
  pub number : ℕ
  pub thread : Derived.Thread
  pub env : List ℕ
  pub kept : List Kept
  pub advice : List Kept

-- the thread of the stated machine
abbrev pub seat : Live → Machine.Thread
seat l = record { number = l.number; env = l.env; advice = l.advice; guess = l.thread.guess; awaits = l.thread.awaits; kept = l.kept }

-- the thread that stands in a stage, none where nobody stands there
abbrev pub find : ℕ → List Live → Option Machine.Thread
find q [] = None
find q (l ∷ ls) = if l.thread.stage == q then Some (seat l) else find q ls

-- the live threads as those of the derived machine
abbrev pub threads_of : List Live → List Derived.Thread
threads_of [] = []
threads_of (l ∷ ls) = l.thread ∷ threads_of ls

-- what follows from a property holds of each of these live threads, where the property does
pub each_map : {A B : Live → Type 0} → ((l : Live) → A l → B l) → (ls : List Live) → Each A ls → Each B ls
each_map f [] h = tt
each_map f (l ∷ ls) h = (f l h.0, each_map f ls h.1)

-- ORDER

-- each thread stands behind all older ones
abbrev pub Ordered : Pipe → List Live → Type 0
Ordered p [] = Unit {0}
Ordered p (l ∷ ls) = Each (λ k. Behind p l.thread.stage k.thread.stage) ls × Ordered p ls

-- stages rise towards the older ones, from lo on and below hi
abbrev pub Rises : ℕ → ℕ → List Live → Type 0
Rises lo hi [] = Unit {0}
Rises lo hi (l ∷ ls) = (lo ≤ l.thread.stage) × (l.thread.stage < hi) × Rises (suc l.thread.stage) hi ls

-- numbers fall towards the older ones
abbrev pub Falls : ℕ → List Live → Type 0
Falls bound [] = Unit {0}
Falls bound (l ∷ ls) = (l.number < bound) × Falls l.number ls

-- numbers that fall from below k fall from below each greater number too
pub falls_up : (k n : ℕ) (ls : List Live) → k ≤ n → Falls k ls → Falls n ls
falls_up k n [] h f = tt
falls_up k n (l ∷ ls) h f = (let i = f.0 in omega arith, f.1)

-- numbers that fall from below n are all below n
pub falls_each : (n : ℕ) (ls : List Live) → Falls n ls → Each (λ k. k.number < n) ls
falls_each n [] f = tt
falls_each n (l ∷ ls) f = (f.0, falls_each n ls (falls_up l.number n ls (let i = f.0 in omega arith) f.1))

-- ACTS

-- what each live thread does in the stated machine, the youngest first
abbrev pub sacts : Pipe → State → List Bool → List Live → List Moves.Act
sacts p st bits [] = []
sacts p st bits (l ∷ ls) = Moves.act p st bits (sacts p st bits ls) l.thread.stage (with_answers p st bits (seat l)) ∷ sacts p st bits ls

-- what each live thread does in the derived machine, the youngest first
abbrev pub dacts : Pipe → Derived.State → List Bool → List Live → List Derived.Act
dacts p d bits [] = []
dacts p d bits (l ∷ ls) = Derived.act p d bits (dacts p d bits ls) l.thread ∷ dacts p d bits ls

-- a thread's act in the derived machine, and what it does in the stated one
abbrev pub did : Pipe → Derived.State → List Bool → List Live → Live → Derived.Act
did p d bits ls l = Derived.act p d bits (dacts p d bits ls) l.thread

-- the thread of the derived machine with this cycle's answers
abbrev pub now_of : Pipe → Derived.State → List Bool → Live → Derived.Thread
now_of p d bits l = Derived.answered_thread p d bits l.thread

-- the work of a live thread's stage in the derived machine, behind these older ones
abbrev pub work_of_live : Pipe → Derived.State → List Bool → List Live → Live → Work
work_of_live p d bits ls l = work_of_stage p (around p d bits (dacts p d bits ls) l.thread.stage l.thread.hint) (Derived.answered_thread p d bits l.thread)

-- the deeds of a live thread's stage in the stated machine
abbrev pub deeds_of : Pipe → State → List Bool → Live → Deeds
deeds_of p st bits l = Machine.deeds p st l.thread.stage (with_answers p st bits (seat l))

-- a live thread with the advised values that it has at the end of its stage
abbrev pub advised : Pipe → State → List Bool → Live → Live
advised p st bits l = record l { advice = (deeds_of p st bits l).advice }

-- the stated act of a thread, as the derived machine decides it
abbrev pub lact : Pipe → State → Derived.State → List Bool → List Live → Live → Moves.Act
lact p st d bits ls l =
    record {
      stage = l.thread.stage;
      thread = with_answers p st bits (seat l);
      does = deeds_of p st bits l;
      moves = (did p d bits ls l).moves;
    }

-- the stated acts of these threads, as the derived machine decides them
abbrev pub lacts : Pipe → State → Derived.State → List Bool → List Live → List Moves.Act
lacts p st d bits [] = []
lacts p st d bits (l ∷ ls) = lact p st d bits ls l ∷ lacts p st d bits ls

-- what the threads do in the derived machine is done by them as they stood at the start
pub befores_are : (p : Pipe) (d : Derived.State) (bits : List Bool) (ls : List Live) → befores (dacts p d bits ls) ≡ threads_of ls
befores_are p d bits [] = refl
befores_are p d bits (l ∷ ls) = ap (λ ts. l.thread ∷ ts) (befores_are p d bits ls)

-- nobody stands in a stage before the one from which on the threads' stages rise
pub find_none : (lo hi q : ℕ) (ls : List Live) → Rises lo hi ls → q < lo → find q ls ≡ None
find_none lo hi q [] r h = refl
find_none lo hi q (l ∷ ls) r h =
    ap (λ b. cond b (Some (seat l)) (find q ls)) (ne_eqb l.thread.stage q (λ e. absurd (omega arith)))
    ∙ find_none (suc l.thread.stage) hi q ls r.2 (let k = r.0 in omega arith)

-- stages that rise from one on in which nobody stands rise from the next one on
pub rises_from : (lo lo' hi : ℕ) (ls : List Live) → Rises lo hi ls → find lo ls ≡ None → lo' ≡ suc lo → Rises lo' hi ls
rises_from lo lo' hi [] r h e = tt
rises_from lo lo' hi (l ∷ ls) r h e = (below (l.thread.stage == lo) refl, r.1, r.2)
  where
    below : (b : Bool) → (l.thread.stage == lo) ≡ b → lo' ≤ l.thread.stage
    below true k = absurd (not_some (sym (ap (λ b. cond b (Some (seat l)) (find lo ls)) k) ∙ h))
      where
        not_some : Some (seat l) ≡ None → ⊥
        not_some e = cc
    below false k = let n = eqb-false l.thread.stage lo k in let j = r.0 in omega arith

-- stages that rise below a bound rise below an equal one
pub rises_hi : (lo hi hi' : ℕ) (ls : List Live) → hi ≡ hi' → Rises lo hi ls → Rises lo hi' ls
rises_hi lo hi hi' ls e r = subst (λ h. Rises lo h ls) e r

-- the stages from s on, decided from the last down
pub acts_slots : (p : Pipe) (st : State) (bits : List Bool) (xs : List Stage) (s : ℕ) (ls : List Live) → Rises s (s + length xs) ls
    → Moves.acts p st bits s (for_stages (λ q. find q ls) s xs) ≡ sacts p st bits ls
acts_slots p st bits [] s [] r = refl
acts_slots p st bits [] s (l ∷ ls) r = absurd (let h = r.0 in let k = r.1 in omega arith)
acts_slots p st bits (x ∷ xs) s [] r = acts_slots p st bits xs (suc s) [] tt
acts_slots p st bits (x ∷ xs) s (l ∷ ls) r =
    at (l.thread.stage == s) refl
    (λ e. acts_slots p st bits xs (suc s) ls
    (subst (λ n. Rises (suc n) (suc s + length xs) ls) e (rises_hi (suc l.thread.stage) _ _ ls (add-suc s (length xs) ∙ sym (suc-add s (length xs))) r.2)))
    (λ e. acts_slots p st bits xs (suc s) (l ∷ ls)
    (rises_hi (suc s) _ _ (l ∷ ls) (add-suc s (length xs) ∙ sym (suc-add s (length xs))) (rises_from s (suc s) _ (l ∷ ls) r e refl)))
  where
    at : (b : Bool) → (l.thread.stage == s) ≡ b
        → (l.thread.stage ≡ s → Moves.acts p st bits (suc s) (for_stages (λ q. find q ls) (suc s) xs) ≡ sacts p st bits ls)
        → (find s (l ∷ ls) ≡ None → Moves.acts p st bits (suc s) (for_stages (λ q. find q (l ∷ ls)) (suc s) xs) ≡ sacts p st bits (l ∷ ls))
        → Moves.acts p st bits s (find s (l ∷ ls) ∷ for_stages (λ q. find q (l ∷ ls)) (suc s) xs) ≡ sacts p st bits (l ∷ ls)
    at true e here later =
        ap₂ (λ b stages. Moves.acts p st bits s (cond b (Some (seat l)) (find s ls) ∷ stages)) e
        (stages_same _ _ (suc s) xs
        (λ q k. ap (λ b. cond b (Some (seat l)) (find q ls)) (ne_eqb l.thread.stage q (λ i. absurd (let j = eqb-true l.thread.stage s e in omega arith)))))
        ∙ ap₂ (λ n older. Moves.act p st bits older n (with_answers p st bits (seat l)) ∷ older)
        (sym (eqb-true l.thread.stage s e)) (here (eqb-true l.thread.stage s e))
    at false e here later =
        let none : find s (l ∷ ls) ≡ None =
        ap (λ b. cond b (Some (seat l)) (find s ls)) e
        ∙ find_none (suc l.thread.stage) _ s ls r.2 (let j = r.0 in let k = eqb-false l.thread.stage s e in omega arith) in
        ap (λ o. Moves.acts p st bits s (o ∷ for_stages (λ q. find q (l ∷ ls)) (suc s) xs)) none ∙ later none

abbrev onto : {X : Type 0} → List X → List X → List X
onto [] ys = ys
onto (x ∷ xs) ys = onto xs (x ∷ ys)

onto_more : {X : Type 0} → (xs ys : List X) (x : X) → onto (xs ++ x ∷ []) ys ≡ x ∷ onto xs ys
onto_more [] ys x = refl
onto_more (y ∷ xs) ys x = onto_more xs (y ∷ ys) x

onto_rev : {X : Type 0} → (xs : List X) → onto (rev xs) [] ≡ xs
onto_rev [] = refl
onto_rev (x ∷ xs) = onto_more (rev xs) [] x ∙ ap (λ l. x ∷ l) (onto_rev xs)

acts_more : (p : Pipe) (d : Derived.State) (bits : List Bool) (older : List Derived.Act) (ts : List Derived.Thread) (t : Derived.Thread)
    → Derived.acts p d bits older (ts ++ t ∷ []) ≡ Derived.acts p d bits older ts
    ++ Derived.act p d bits (onto (Derived.acts p d bits older ts) older) t ∷ []
acts_more p d bits older [] t = refl
acts_more p d bits older (u ∷ ts) t = ap (λ l. Derived.act p d bits older u ∷ l) (acts_more p d bits (Derived.act p d bits older u ∷ older) ts t)

-- the derived acts in age order
pub acts_back : (p : Pipe) (d : Derived.State) (bits : List Bool) (ls : List Live)
    → Derived.acts p d bits [] (rev (threads_of ls)) ≡ rev (dacts p d bits ls)
acts_back p d bits [] = refl
acts_back p d bits (l ∷ ls) =
    acts_more p d bits [] (rev (threads_of ls)) l.thread
    ∙ ap (λ these. these ++ Derived.act p d bits (onto these []) l.thread ∷ []) (acts_back p d bits ls)
    ∙ ap (λ older. rev (dacts p d bits ls) ++ Derived.act p d bits older l.thread ∷ []) (onto_rev (dacts p d bits ls))

-- LOCKS' LISTS

-- a lock's list is the live threads' entries, the oldest thread's first
abbrev pub pends : ℕ → List Live → List Pending
pends m [] = []
pends m (l ∷ ls) = pends m ls ++ pend m l.number l.thread.entries

-- a lock's list of two lists of threads is that of the second, the older ones, and then that of the first
pub pends_append : (m : ℕ) (xs ys : List Live) → pends m (xs ++ ys) ≡ pends m ys ++ pends m xs
pends_append m [] ys = sym (append-nil (pends m ys))
pends_append m (x ∷ xs) ys = ap (λ l. l ++ pend m x.number x.thread.entries) (pends_append m xs ys) ∙ append_assoc (pends m ys) (pends m xs) _

-- what a thread finds in a lock's list of older threads is the latest of their pending writes
pub youngest_all : (m n a : ℕ) (ls : List Live) → Falls n ls → youngest (pends m ls) n a Nothing ≡ latest (threads_of ls) m a
youngest_all m n a [] h = refl
youngest_all m n a (l ∷ ls) h =
    youngest_append (pends m ls) (pend m l.number l.thread.entries) n a Nothing
    ∙ youngest_older m l.number n a l.thread.entries _ (lt-ltb _ _ h.0)
    ∙ ap (latest_in l.thread.entries m a) (youngest_all m n a ls (falls_up l.number n ls (let i = h.0 in omega arith) h.1))

-- a lock's list is as long as writes of its threads are pending
pub length_pends : (m : ℕ) (ls : List Live) → length (pends m ls) ≡ pending (threads_of ls) m
length_pends m [] = refl
length_pends m (l ∷ ls) =
    length-append (pends m ls) _ ∙ ap₂ (λ a b. a + b) (length_pends m ls) (length_pend m l.number l.thread.entries)
    ∙ flip (pending (threads_of ls) m) (count_in l.thread.entries m)
  where
    flip : (a b : ℕ) → a + b ≡ b + a
    flip a b = omega arith
