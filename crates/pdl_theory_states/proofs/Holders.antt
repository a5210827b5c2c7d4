-- A lock's list has one entry for each location that a live thread holds for writing, in thread order.
use Rattle.std.proofs.Common.{◌≡◌, refl, sym, ap, ap₂, ◌∙◌, ℕ, Bool, true, false, List, [], ◌∷◌, ◌++◌, ◌==◌, cond, append-nil, append_assoc}
use Rattle.pdl_semantics.specs.Flat.{Pipe}
use Rattle.pdl_semantics.specs.Machine.{State, Pending, HeldLocation, lock_of, same_args}
use Rattle.pdl_semantics.specs.Sound.{live, all_from, held_of, holders, owners, held_places}
use Rattle.pdl_semantics.specs.Sound
use Rattle.pdl_theory_turns.specs.Derived.{Entry}
use Rattle.pdl_theory_turns.specs.Derived
use Rattle.pdl_theory_turns.specs.Facts.{Sound}
use Rattle.pdl_theory_turns.proofs.Guesses.{same_args_refl}
use Rattle.pdl_theory_turns.proofs.Deeds.{places}
use Rattle.pdl_theory_turns.proofs.Lists.{own, pend}
use Rattle.pdl_theory_simulation.proofs.Seats.{Live, each_map, pends}
use Rattle.pdl_theory_states.proofs.OldestFirst.{told, oldest_first}
use Rattle.pdl_theory_states.proofs.Order.{from_all}
use Rattle.pdl_theory_states.proofs.ReachedStates.{Whole}
use Rattle.pdl_theory_states.proofs.AllThreads.{live_here}
use Rattle.pdl_word.specs.Each.{Each}
use Rattle.pdl_theory_simulation.proofs.SimulatedStates.{Sim}

owners_append : (xs ys : List Pending) → owners (xs ++ ys) ≡ owners xs ++ owners ys
owners_append [] ys = refl
owners_append (x ∷ xs) ys = ap (λ l. x.thread ∷ l) (owners_append xs ys)

held_snoc : (m n : ℕ) (hs : List HeldLocation) → held_of m n hs ++ n ∷ [] ≡ n ∷ held_of m n hs
held_snoc m n [] = refl
held_snoc m n (h ∷ hs) = at (h.mem == m) (held_snoc m n hs)
  where
    at : (b : Bool) → held_of m n hs ++ n ∷ [] ≡ n ∷ held_of m n hs
        → cond b (n ∷ held_of m n hs) (held_of m n hs) ++ n ∷ [] ≡ n ∷ cond b (n ∷ held_of m n hs) (held_of m n hs)
    at true e = ap (λ l. n ∷ l) e
    at false e = e

own_held : (m n : ℕ) (es : List Entry) → owners (pend m n es) ≡ held_of m n (places es)
own_held m n [] = refl
own_held m n (e ∷ es) =
    owners_append (pend m n es) (cond (e.mem == m) (own n e ∷ []) [])
    ∙ ap (λ l. l ++ owners (cond (e.mem == m) (own n e ∷ []) [])) (own_held m n es) ∙ at (e.mem == m)
  where
    at : (b : Bool) → held_of m n (places es) ++ owners (cond b (own n e ∷ []) []) ≡ cond b (n ∷ held_of m n (places es)) (held_of m n (places es))
    at true = held_snoc m n (places es)
    at false = append-nil (held_of m n (places es))

holders_snoc : (p : Pipe) (m : ℕ) (xs : List Sound.Live) (l : Sound.Live)
    → holders p m (xs ++ l ∷ []) ≡ holders p m xs ++ held_of m l.thread.number (held_places p l)
holders_snoc p m [] l = append-nil (held_of m l.thread.number (held_places p l))
holders_snoc p m (x ∷ xs) l =
    ap (λ k. held_of m x.thread.number (held_places p x) ++ k) (holders_snoc p m xs l)
    ∙ sym (append_assoc (held_of m x.thread.number (held_places p x)) (holders p m xs) (held_of m l.thread.number (held_places p l)))

owners_are : (p : Pipe) (m : ℕ) (ls : List Live)
    → Each (λ l. places l.thread.entries ≡ held_places p (told l)) ls
    → owners (pends m ls) ≡ holders p m (oldest_first ls)
owners_are p m [] h = refl
owners_are p m (l ∷ ls) h =
    owners_append (pends m ls) (pend m l.number l.thread.entries)
    ∙ ap₂ (λ a b. a ++ b) (owners_are p m ls h.1) (own_held m l.number l.thread.entries ∙ ap (held_of m l.number) h.0)
    ∙ sym (holders_snoc p m (oldest_first ls) (told l))

module _ (p : Pipe) (sound : Sound p) (st : State) (d : Derived.State) (ls : List Live) (sim : Sim p st d ls) (whole : Whole p st ls) where
  -- the threads of the entries in the list of m are those that hold locations of m for writing, once for each, in thread order
  pub holders_same : (m : ℕ) → same_args (owners (lock_of st m)) (holders p m (live st)) ≡ true
  holders_same m =
      ap₂ same_args (ap owners (sim.locks m) ∙ owners_are p m ls (each_map (λ l s. s.keeps_on.held) ls sim.seated))
      (ap (holders p m) (live_here p sound st d ls sim whole))
      ∙ same_args_refl (holders p m (oldest_first ls))

  -- of each memory of the pipe, the entries in its lock's list are those of the threads that hold its locations for writing
  pub holders_point : all_from (λ m. same_args (owners (lock_of st m)) (holders p m (live st))) 0 p.mems ≡ true
  holders_point = from_all _ 0 p.mems holders_same
