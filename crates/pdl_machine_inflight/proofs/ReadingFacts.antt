-- Which statement a delayed read is, and to which stages a stage leads.
use Rattle.std.proofs.Common.{◌≡◌, refl, sym, ap, ◌∙◌, subst, ℕ, zero, suc, ◌<◌, inl, inr, Bool, true, false, ◌&&◌, List, [], ◌∷◌, length, Some, ◌==◌, arith}
use Rattle.std.specs.Prelude.{if◌then◌else◌, not, slice_index}
use Rattle.std.proofs.lemmas.Bool.{eqb-true, false≢true}
use Rattle.pdl_semantics.specs.Flat.{Op, Bind, CombRead, DelayedRead, Write, ReserveRead, ReserveWrite, Block, Release, Call, SpecCall, Verify, SpecCheck, SpecBarrier, AdviceBind, AdviceRead, AdviceWrite, Stmt, Next, Ends, Goes, Forks, Pipe}
use Rattle.pdl_semantics.specs.Stages.{in_stage, goes_to}
use Rattle.pdl_semantics.specs.Sound.{is_delayed_read}
use Rattle.pdl_theory_turns.specs.Scans.{none_of}
use Rattle.pdl_machine_inflight.specs.Readings.{reading, places_of, place_to, IsTheReading}
use Rattle.pdl_machine_inflight.specs.InFlight.{Some-of}
use Rattle.pdl_word.specs.Each.{Each}

-- a memory that a stage's statements read delayed is read there
pub read_in : (p : Pipe) (k m : ℕ) (xs : List Stmt) → Each (IsTheReading p) xs
    → none_of (is_delayed_read m) (in_stage k xs) ≡ false
    → (x : ℕ) × (reading p m ≡ Some (record { stage = k; var = x }))
read_in p k m [] h e = absurd (false≢true (sym e))
read_in p k m (y ∷ ys) h e = at (y.stage == k) refl e (read_in p k m ys h.1)
  where
    Goal : Type 0
    Goal = (x : ℕ) × (reading p m ≡ Some (record { stage = k; var = x }))

    op_is : (op : Op) → IsTheReading p (record y { op = op }) → y.stage ≡ k
        → (not (is_delayed_read m op) && none_of (is_delayed_read m) (in_stage k ys)) ≡ false
        → (none_of (is_delayed_read m) (in_stage k ys) ≡ false → Goal) → Goal
    op_is (DelayedRead x n a) g s f rest = by (n == m) refl f
      where
        by : (b : Bool) → (n == m) ≡ b → (not b && none_of (is_delayed_read m) (in_stage k ys)) ≡ false → Goal
        by true i f =
            (x, subst (λ j. reading p j ≡ Some (record { stage = k; var = x })) (eqb-true n m i) (g ∙ ap (λ j. Some (record { stage = j; var = x })) s))
        by false i f = rest f
    op_is (Bind x a) g s f rest = rest f
    op_is (CombRead x n a) g s f rest = rest f
    op_is (Write n a b) g s f rest = rest f
    op_is (ReserveRead n a) g s f rest = rest f
    op_is (ReserveWrite n a) g s f rest = rest f
    op_is (Block n a) g s f rest = rest f
    op_is (Release n a) g s f rest = rest f
    op_is (Call as') g s f rest = rest f
    op_is (SpecCall as') g s f rest = rest f
    op_is (Verify _ as') g s f rest = rest f
    op_is SpecCheck g s f rest = rest f
    op_is SpecBarrier g s f rest = rest f
    op_is (AdviceBind x a) g s f rest = rest f
    op_is (AdviceRead x n a) g s f rest = rest f
    op_is (AdviceWrite n a b) g s f rest = rest f

    at : (b : Bool) → (y.stage == k) ≡ b
        → none_of (is_delayed_read m) (if b then y ∷ in_stage k ys else in_stage k ys) ≡ false
        → (none_of (is_delayed_read m) (in_stage k ys) ≡ false → Goal) → Goal
    at true i f rest = op_is y.op h.0 (eqb-true y.stage k i) f rest
    at false i f rest = rest f

-- a stage that a stage may lead to is one of its places
pub is_place : (n : Next) (q : ℕ) (env : List ℕ) → goes_to n env ≡ Some q → Some-of (λ (r : ℕ). r ≡ q) (places_of n)
is_place Ends q env e = absurd (cc e)
is_place (Goes to) q env e = inl (cc e)
is_place (Forks x a b) q env e = at (slice_index env x == 1) e
  where
    at : (c : Bool) → Some (if c then a else b) ≡ Some q → Some-of (λ (r : ℕ). r ≡ q) (a ∷ b ∷ [])
    at true f = inl (cc f)
    at false f = inr (inl (cc f))

-- a thread goes to the place of its number
pub goes_to_place : (n : Next) (q : ℕ) (env : List ℕ)
    → goes_to n env ≡ Some q
    → (place_to n env < length (places_of n)) × (slice_index (places_of n) (place_to n env) ≡ q)
goes_to_place Ends q env e = absurd (cc e)
goes_to_place (Goes to) q env e = (omega arith, cc e)
goes_to_place (Forks x a b) q env e = at (slice_index env x == 1) e
  where
    at : (c : Bool) → Some (if c then a else b) ≡ Some q → ((if c then 0 else 1) < 2) × (slice_index (a ∷ b ∷ []) (if c then 0 else 1) ≡ q)
    at true f = (omega arith, cc f)
    at false f = (omega arith, cc f)

-- one of some elements by its number
pub numbered : (P : ℕ → Type 0) (xs : List ℕ) → Some-of P xs → (i : ℕ) × (i < length xs) × P (slice_index xs i)
numbered P [] h = absurd h
numbered P (x ∷ xs) (inl h) = (0, omega arith, h)
numbered P (x ∷ xs) (inr h) = let r = numbered P xs h in (suc r.0, (let l = r.1 in omega (arith, l)), r.2)

-- a place is led to by some values
pub place_leads : (n : Next) (i : ℕ) → i < length (places_of n) → (env : List ℕ) × (goes_to n env ≡ Some (slice_index (places_of n) i))
place_leads Ends i l = absurd (omega (arith, l))
place_leads (Goes to) zero l = ([], refl)
place_leads (Goes to) (suc i) l = absurd (omega (arith, l))
place_leads (Forks x a b) zero l = (ones x, ap (λ c. Some (if c then a else b)) (at_one x))
  where
    ones : ℕ → List ℕ
    ones zero = 1 ∷ []
    ones (suc n) = 0 ∷ ones n

    at_one : (n : ℕ) → (slice_index (ones n) n == 1) ≡ true
    at_one zero = refl
    at_one (suc n) = at_one n
place_leads (Forks x a b) (suc zero) l = ([], refl)
place_leads (Forks x a b) (suc (suc i)) l = absurd (omega (arith, l))
