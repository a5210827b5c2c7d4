-- Threads behind one whose guess may still change.
use Rattle.std.proofs.Common.{◌≡◌, refl, sym, ap, ap₂, ◌∙◌, subst, ℕ, suc, ◌≤◌, ◌<◌, inl, inr, Bool, true, false, ◌&&◌, ◌||◌, not, List, [], ◌∷◌, ◌++◌, length, Some, is_none, nat_le, nat_lt, cond, arith, le_refl, le_of_lt, ltb-true, ltb-false}
use Rattle.std.proofs.lemmas.Bool.Decides.{leb_tells}
use Rattle.std.proofs.Math.Bool.{and-false}
use Rattle.pdl_semantics.specs.Flat.{Pipe, list_all}
use Rattle.pdl_semantics.specs.Stages.{verify_stage}
use Rattle.pdl_semantics.specs.Moves.{is_empty}
use Rattle.pdl_theory_turns.specs.Derived.{have_room, Thread, State, Act, act, acts, befores, barrier_clear, commits_of, can_enter, exit_of}
use Rattle.pdl_theory_turns.proofs.Nested.{within_all}
use Rattle.pdl_theory_turns.proofs.TurnFacts.{Trunk}
use Rattle.pdl_theory_turns.proofs.Courses.{Course}
use Rattle.pdl_theory_turns.proofs.ThreadOrder.{AllUnder, Stepped, Moves}
use Rattle.pdl_theory.proofs.Cycle.{ends_one}

-- the next older thread has not passed V, the stage of the verifies
abbrev pub Unsure : Pipe → ℕ → List ℕ → Type 0
Unsure p v [] = ⊥
Unsure p v (b ∷ bs) = (verify_stage p.stmts ≡ Some v) × (b ≤ v)

-- where nobody is behind, a squash changes nothing
pub same_none : (b : Bool) (l : List Thread) → l ≡ [] → cond b [] l ≡ []
same_none true l h = refl
same_none false l h = h

-- behind a failing check that moves nobody moves
pub held_back : (p : Pipe) (st : State) (bits : List Bool) (older : List Act) (ts : List Thread) → list_all (λ o. not (o.moves && o.work.fails)) older ≡ false
    → (commits_of (acts p st bits older ts) ≡ []) × (ends_one p (acts p st bits older ts) ≡ false)
held_back p st bits older [] h = (refl, refl)
held_back p st bits older (t ∷ ts) h =
    let a : Act = act p st bits older t in
    let stays : a.moves
    ≡ false = ap (λ b. b && a.work.ready && have_room p (befores older) a.work && is_empty a.now.awaits && can_enter p older (exit_of p a)) h in
    let rest = held_back p st bits (act p st bits older t ∷ older) ts
    (ap (λ b. not (a.moves && a.work.fails) && b) h ∙ and-false (not (a.moves && a.work.fails))) in
    (ap₂ (λ b l. cond b (a.work.commits ++ l) l) stays rest.0, ap₂ (λ b c. (b && is_none (exit_of p a)) || c) stays rest.1)

module _ (p : Pipe) (acc : Course p) where
  -- one that is behind it stands before V, and a barrier of the trunk is not clear for it
  pub unsure_older : (older : List Act) (bs bs' : List ℕ) (s : ℕ)
      → Moves p older bs bs' → AllUnder p bs s → Unsure p acc.v bs
      → (s < acc.v) × (Trunk p s → barrier_clear (verify_stage p.stmts) s (befores older) ≡ false)
  unsure_older [] [] bs' s m u k = absurd m
  unsure_older [] (b ∷ []) [] s m u k = absurd m
  unsure_older [] (b ∷ []) (b' ∷ []) s m u k =
      absurd (let i : length p.stages ≤ acc.v = subst (λ n. n ≤ acc.v) m.0 k.1 in let j : acc.v < length p.stages = acc.v_inside in omega arith)
  unsure_older [] (b ∷ []) (b' ∷ c' ∷ bs') s m u k = absurd m
  unsure_older [] (b ∷ c ∷ bs) bs' s m u k = absurd m
  unsure_older (o ∷ os) [] bs' s m u k = absurd m
  unsure_older (o ∷ os) (b ∷ bs) [] s m u k = absurd m
  unsure_older (o ∷ os) (b ∷ bs) (b' ∷ bs') s m u k =
      (shallow (nat_lt s acc.v) refl, λ t. subst (λ o'. barrier_clear o' s (befores (o ∷ os)) ≡ false) (sym k.0) (unclear (behind s t (le_refl s))))
    where
      behind : (r : ℕ) → Trunk p r → r ≤ s → r < b
      behind r t i = u.0 [] (within_all p _) (within_all p _) r t i

      shallow : (c : Bool) → nat_lt s acc.v ≡ c → s < acc.v
      shallow true e = ltb-true _ _ e
      shallow false e = absurd (let i : acc.v < b = behind acc.v acc.trunk_v (ltb-false _ _ e) in let j : b ≤ acc.v = k.1 in omega arith)

      unclear : s < b → barrier_clear (Some acc.v) s (befores (o ∷ os)) ≡ false
      unclear i =
          ap₂ (λ x y. (x || y) && barrier_clear (Some acc.v) s (befores os)) (ap (λ n. nat_le n s) m.0 ∙ above b s i)
          (ap (nat_lt acc.v) m.0 ∙ below b acc.v k.1)
        where
          above : (n r : ℕ) → r < n → nat_le n r ≡ false
          above n r h = grind (arith, leb_tells)

          below : (n r : ℕ) → n ≤ r → nat_lt r n ≡ false
          below n r h = at (nat_lt r n) refl
            where
              at : (c : Bool) → nat_lt r n ≡ c → nat_lt r n ≡ false
              at true e = absurd (let j : r < n = ltb-true r n e in omega arith)
              at false e = e

  -- and those behind it are behind one that is not sure
  pub unsure_more : (older : List Act) (bs bs' : List ℕ) (s : ℕ) → Moves p older bs bs' → AllUnder p bs s → Unsure p acc.v bs → Unsure p acc.v (s ∷ bs)
  unsure_more older [] bs' s m u k = absurd k
  unsure_more older (b ∷ bs) bs' s m u k = (k.0, le_of_lt (unsure_older older (b ∷ bs) bs' s m u k).0)

  -- who is not sure after a cycle was not sure before it
  pub unsure_before : (older : List Act) (bs bs' : List ℕ) → Moves p older bs bs' → Unsure p acc.v bs' → Unsure p acc.v bs
  unsure_before [] [] bs' m k = absurd m
  unsure_before [] (b ∷ []) [] m k = absurd m
  unsure_before [] (b ∷ []) (b' ∷ []) m k =
      absurd (let i : suc (length p.stages) ≤ acc.v = subst (λ n. n ≤ acc.v) m.1 k.1 in let j : acc.v < length p.stages = acc.v_inside in omega arith)
  unsure_before [] (b ∷ []) (b' ∷ c' ∷ bs') m k = absurd m
  unsure_before [] (b ∷ c ∷ bs) bs' m k = absurd m
  unsure_before (o ∷ os) [] bs' m k = absurd m
  unsure_before (o ∷ os) (b ∷ bs) [] m k = absurd m
  unsure_before (o ∷ os) (b ∷ bs) (b' ∷ bs') m k = (k.0, at m.1)
    where
      at : Stepped p o.moves b b' → b ≤ acc.v
      at (inl h) = subst (λ n. n ≤ acc.v) h.2 k.1
      at (inr h) = let i : b < b' = subst (λ n. b < n) (sym h.2) (acc.graph.up b h.0 h.3) in let j : b' ≤ acc.v = k.1 in omega arith
