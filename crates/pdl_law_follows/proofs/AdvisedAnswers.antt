-- Answers bind no advised variable: a memory's delayed read binds one that isn't.
use Rattle.std.proofs.Common.{◌≡◌, ℕ, zero, suc, Bool, true, false, List, [], ◌∷◌, Option, Some, None, refl, sym, ap, ◌∙◌, subst, ◌==◌}
use Rattle.std.specs.Prelude.{if◌then◌else◌}
use Rattle.std.proofs.lemmas.Bool.{false≢true, or_left, or_right, ne_eqb}
use Rattle.pdl_word.specs.Each.{Each}
use Rattle.pdl_word.proofs.Numbers.{eqb_self}
use Rattle.pdl_semantics.specs.Flat.{Op, DelayedRead, Stmt, Pipe}
use Rattle.pdl_semantics.specs.Forms.{on_delayed_read}
use Rattle.pdl_semantics.specs.Machine.{Awaited, State, is_answered}
use Rattle.pdl_net.specs.Signal.{Signal}
use Rattle.pdl_law_parts.specs.Lives.{guards_use}
use Rattle.pdl_law_parts.specs.Advice.{is_advised_in, op_plainly, row_plainly, IsAdvisedApart}
use Rattle.pdl_machine_inflight.specs.Readings.{Reading, reading_in, reading, places}
use Rattle.pdl_machine_inflight.specs.InFlight.{IsAwaited}
use Rattle.pdl_port.specs.Laws.{AnswerSignals}
use Rattle.pdl_law_sides.specs.Sides.{place_answer, memory_answer, some_answer}

-- what is read delayed isn't advised
read_plain : (p : Pipe) (m : ℕ) (r : Reading) (xs : List Stmt) → Each (λ (x : Stmt). (y : ℕ) → row_plainly x y ≡ true → is_advised_in p y ≡ false) xs
    → reading_in m xs ≡ Some r → is_advised_in p r.var ≡ false
read_plain p m r [] each e = absurd (cc e)
read_plain p m r (x ∷ xs) each e =
    at x.op (λ y u. each.0 y (or_right (guards_use x.guards y) (op_plainly x.op y) u)) (λ i. read_plain p m r xs each.1 i) e
  where
    some_is : {a b : Reading} → Some a ≡ Some b → a ≡ b
    some_is z = cc z

    at : (o : Op) → ((y : ℕ) → op_plainly o y ≡ true → is_advised_in p y ≡ false) → (reading_in m xs ≡ Some r → is_advised_in p r.var ≡ false)
        → on_delayed_read (λ y n a. if n == m then Some (record { stage = x.stage; var = y }) else reading_in m xs) (reading_in m xs) o ≡ Some r
        → is_advised_in p r.var ≡ false
    at (DelayedRead y n a) plain go e = choose (n == m) e
      where
        choose : (b : Bool) → (if b then Some (record { stage = x.stage; var = y }) else reading_in m xs) ≡ Some r → is_advised_in p r.var ≡ false
        choose true i = subst (λ (q : Reading). is_advised_in p q.var ≡ false) (some_is i) (plain y (or_left (y == y) (a == y) (eqb_self y)))
        choose false i = go i
    at _ plain go e = go e

module _ (p : Pipe) (apart : IsAdvisedApart p) (v : ℕ) (advised : is_advised_in p v ≡ true) where
  -- no memory's delayed read binds it
  reads_other : (m : ℕ) (r : Reading) → reading p m ≡ Some r → (r.var ≡ v) → ⊥
  reads_other m r is e = false≢true (sym (read_plain p m r p.stmts apart.rows is) ∙ ap (is_advised_in p) e ∙ advised)

  -- it has no answer of any memory
  pub not_answered : (answers : ℕ → ℕ → AnswerSignals) (k n m : ℕ) (rest : Signal) → some_answer p answers k v n m rest ≡ rest
  not_answered answers k zero m rest = refl
  not_answered answers k (suc n) m rest = at (reading p m) refl ∙ not_answered answers k n (suc m) rest
    where
      more : Signal
      more = some_answer p answers k v n (suc m) rest

      at : (o : Option Reading) → reading p m ≡ o → memory_answer p answers k v m o more ≡ more
      at None e = refl
      at (Some r) e = ap (λ b. if b then place_answer (answers m) k (places p r) 0 more else more) (ne_eqb r.var v (reads_other m r e))

  -- and no awaited answer is for it
  pub not_awaited : (st : State) (bits : List Bool) (k number : ℕ) (rs : List Awaited) → Each (IsAwaited p st k number) rs
      → Each (λ (q : Awaited). q.var ≡ v → is_answered p bits q.mem ≡ false) rs
  not_awaited st bits k number [] h = tt
  not_awaited st bits k number (q ∷ rs) h = (
    λ e. absurd (reads_other q.mem h.0.read h.0.is (h.0.var ∙ e)),
    not_awaited st bits k number rs h.1,
  )
