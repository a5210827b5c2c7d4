-- Advisory writes leave every other memory as it is.
use Rattle.std.proofs.Common.{◌≡◌, refl, sym, ap, ap₂, ◌∙◌, ℕ, Bool, true, false, ◌&&◌, List, [], ◌∷◌, ◌++◌, ◌==◌, cond, if◌then◌else◌, Some}
use Rattle.std.proofs.lemmas.Bool.{eqb-true}
use Rattle.pdl_semantics.specs.Flat.{Arrays, with_value, is_advisory, list_all, Op, AdviceWrite, Verify, Stmt, Pipe, all_hold}
use Rattle.pdl_semantics.specs.Stages.{in_stage, mem_at}
use Rattle.pdl_semantics.specs.Machine.{Advised, Deeds, same_args, deeds_after_all, checked_args}
use Rattle.pdl_semantics.specs.Machine
use Rattle.pdl_semantics.specs.Moves.{Act, movers}
use Rattle.pdl_semantics.specs.Cycle.{with_advised, with_all_advised}
use Rattle.pdl_semantics.specs.Promises.{fits_kind}
use Rattle.pdl_theory_turns.proofs.Writes.{and_left, and_right}

-- writes of advisory memories alone
abbrev pub AllAdvisory : Pipe → List Advised → Type 0
AllAdvisory p [] = Unit {0}
AllAdvisory p (w ∷ ws) = (is_advisory (mem_at p w.mem).kind ≡ true) × AllAdvisory p ws

-- those of all these acts
abbrev pub EachAdvisory : Pipe → List Act → Type 0
EachAdvisory p [] = Unit {0}
EachAdvisory p (a ∷ these) = AllAdvisory p a.does.advises × EachAdvisory p these

module _ (p : Pipe) where
  one_more : (ws : List Advised) (w : Advised) → AllAdvisory p ws → is_advisory (mem_at p w.mem).kind ≡ true → AllAdvisory p (ws ++ w ∷ [])
  one_more [] w h k = (k, tt)
  one_more (x ∷ ws) w h k = (h.0, one_more ws w h.1 k)

  advises_op : (read : ℕ → ℕ → ℕ) (op : Op) (d : Deeds)
      → fits_kind p op ≡ true → AllAdvisory p d.advises → AllAdvisory p (Machine.deeds_after read op d).advises
  advises_op read (AdviceWrite m a e) d f h = one_more d.advises _ h f
  advises_op read (Verify last args) d f h = at (same_args (checked_args last args d) d.guess)
    where
      at : (b : Bool) → AllAdvisory p (cond b d (record d { child = Some (checked_args last args d); guess = checked_args last args d; fails = true })).advises
      at true = h
      at false = h
  advises_op read _ d f h = h

  -- statements that take their memories by kind write advisory memories alone, without a lock
  pub advises_all : (read : ℕ → ℕ → ℕ) (xs : List Stmt) (d : Deeds)
      → list_all (λ x. fits_kind p x.op) xs ≡ true → AllAdvisory p d.advises → AllAdvisory p (deeds_after_all read xs d).advises
  advises_all read [] d f h = h
  advises_all read (x ∷ xs) d f h =
      advises_all read xs (if all_hold x.guards d.env then Machine.deeds_after read x.op d else d) (and_right (fits_kind p x.op) _ f)
      (at (all_hold x.guards d.env))
    where
      at : (b : Bool) → AllAdvisory p (cond b (Machine.deeds_after read x.op d) d).advises
      at true = advises_op read x.op d (and_left _ _ f) h
      at false = h

  -- the statements of a stage take their memories by kind where all do
  pub fits_stage : (s : ℕ) (xs : List Stmt) → list_all (λ x. fits_kind p x.op) xs ≡ true → list_all (λ x. fits_kind p x.op) (in_stage s xs) ≡ true
  fits_stage s [] h = refl
  fits_stage s (x ∷ xs) h = at (x.stage == s) (fits_stage s xs (and_right (fits_kind p x.op) _ h))
    where
      at : (b : Bool)
          → list_all (λ x. fits_kind p x.op) (in_stage s xs) ≡ true
          → list_all (λ x. fits_kind p x.op) (cond b (x ∷ in_stage s xs) (in_stage s xs)) ≡ true
      at true k = ap₂ (λ a b. a && b) (and_left _ _ h) k
      at false k = k

  advised_apart : (n : ℕ) (ws : List Advised) (arrays : Arrays) → is_advisory (mem_at p n).kind ≡ false → AllAdvisory p ws → with_advised ws arrays n ≡ arrays n
  advised_apart n [] arrays f h = refl
  advised_apart n (w ∷ ws) arrays f h = advised_apart n ws _ f h.1 ∙ at (n == w.mem) refl
    where
      at : (b : Bool) → (n == w.mem) ≡ b → cond (n == w.mem) (with_value (arrays w.mem) w.address w.value) (arrays n) ≡ arrays n
      at true e = absurd (cc (sym h.0 ∙ ap (λ m. is_advisory (mem_at p m).kind) (sym (eqb-true _ _ e)) ∙ f))
      at false e = ap (λ b. cond b (with_value (arrays w.mem) w.address w.value) (arrays n)) e

  each_mover : (these : List Act) → EachAdvisory p these → EachAdvisory p (movers these)
  each_mover [] h = tt
  each_mover (a ∷ these) h = at a.moves (each_mover these h.1)
    where
      at : (b : Bool) → EachAdvisory p (movers these) → EachAdvisory p (cond b (a ∷ movers these) (movers these))
      at true k = (h.0, k)
      at false k = k

  all_apart : (n : ℕ) (ms : List Act) (arrays : Arrays) → is_advisory (mem_at p n).kind ≡ false → EachAdvisory p ms → with_all_advised ms arrays n ≡ arrays n
  all_apart n [] arrays f h = refl
  all_apart n (a ∷ ms) arrays f h = advised_apart n a.does.advises (with_all_advised ms arrays) f h.0 ∙ all_apart n ms arrays f h.1

  -- advisory writes leave the other memories as they are
  pub advice_apart : (n : ℕ) (these : List Act) (arrays : Arrays)
      → is_advisory (mem_at p n).kind ≡ false → EachAdvisory p these → with_all_advised (movers these) arrays n ≡ arrays n
  advice_apart n these arrays f h = all_apart n (movers these) arrays f (each_mover these h)
