-- The delayed reads of a typed form: their variables are there, and as wide as the memories' words.
use Rattle.std.proofs.Common.{◌≡◌, ℕ, zero, suc, ◌<◌, ◌≤◌, ◌==◌, Bool, true, false, ◌&&◌, ◌||◌, List, [], ◌∷◌, length, refl, sym, ap, ◌∙◌, subst, arith}
use Rattle.std.specs.Prelude.{Option, Some, None, slice_index, if◌then◌else◌}
use Rattle.std.proofs.lemmas.Bool.{eqb-true}
use Rattle.std.proofs.lemmas.Option.{same_Some}
use Rattle.pdl_semantics.specs.Flat.{Op, Stmt, DelayedRead}
use Rattle.pdl_semantics.specs.Forms.{on_delayed_read}
use Rattle.pdl_semantics.specs.Stages.{mem_at, stage_at}
use Rattle.pdl_form.specs.Form.{Form}
use Rattle.pdl_form_types.specs.Stmts.{IsTypedForm, IsTypedOp, AreTypedStmts}
use Rattle.pdl_machine_facts.specs.Slots.{leads_to}
use Rattle.pdl_pipe_answers.specs.law_sides.Readings.{Reading, reading, reading_in}
use Rattle.pdl_pipe_answers.specs.Readings.{gets_one, gets_some, gets_answer}
use Rattle.pdl_pipe_answers.specs.Ports.{BindsWide}

-- the variable of a delayed read of memory m
pub record ReadsWord (f : Form) (m : ℕ) (r : Reading) : Type 0 where
  pub low : r.var < length f.widths
  pub wide : (mem_at f.pipe m).width ≡ slice_index f.widths r.var

reads_in : (f : Form) (m : ℕ) (r : Reading) (xs : List Stmt) → AreTypedStmts f xs → reading_in m xs ≡ Some r → ReadsWord f m r
reads_in f m r [] t is = absurd (cc is)
reads_in f m r (x ∷ xs) t is = by x.op t.0.1 is (reads_in f m r xs t.1)
  where
    this : (y n : ℕ) → y < length f.widths → slice_index f.widths y ≡ (mem_at f.pipe n).width
        → (reading_in m xs ≡ Some r → ReadsWord f m r) → (b : Bool) → (n == m) ≡ b
        → (if b then Some (record { stage = x.stage; var = y }) else reading_in m xs) ≡ Some r → ReadsWord f m r
    this y n w wide go false e h = go h
    this y n w wide go true e h =
        subst (ReadsWord f m)
        (same_Some (record { stage = x.stage; var = y }) r h) record { low = w; wide = ap (λ i. (mem_at f.pipe i).width) (sym (eqb-true n m e)) ∙ sym wide }

    by : (o : Op) → IsTypedOp f o
        → on_delayed_read (λ y n a. if n == m then Some (record { stage = x.stage; var = y }) else reading_in m xs) (reading_in m xs) o ≡ Some r
        → (reading_in m xs ≡ Some r → ReadsWord f m r) → ReadsWord f m r
    by (DelayedRead y n a) q h go = this y n q.0 q.2 go (n == m) refl h
    by _ q h go = go h

reads_word : (f : Form) (m : ℕ) (r : Reading) → IsTypedForm f → reading f.pipe m ≡ Some r → ReadsWord f m r
reads_word f m r t is = reads_in f m r f.pipe.stmts t.stmts is

-- in a typed form the variable of a delayed read is as wide as the words of the memory that is read
pub binds_wide : (f : Form) (x m : ℕ) → IsTypedForm f → BindsWide f.pipe x (slice_index f.widths x) m
binds_wide f x m t = λ r is e. (reads_word f m r t is).wide ∙ ap (slice_index f.widths) e

-- ---- no answer comes for a variable that isn't there

gets_none : (f : Form) (k x m : ℕ) (o : Option Reading)
    → length f.widths ≤ x → ((r : Reading) → o ≡ Some r → r.var < length f.widths) → gets_one f.pipe k x o ≡ false
gets_none f k x m None l h = refl
gets_none f k x m (Some r) l h = at (r.var == x) refl
  where
    at : (b : Bool) → (r.var == x) ≡ b → (b && leads_to (stage_at f.pipe r.stage).next k) ≡ false
    at false e = refl
    at true e = let same = eqb-true r.var x e in let low = h r refl in absurd (omega (arith, same, low, l))

-- in a typed form no answer comes for a number past those of its variables
pub past_unanswered : (f : Form) (k x : ℕ) → IsTypedForm f → length f.widths ≤ x → gets_answer f.pipe k x ≡ false
past_unanswered f k x t l = all (length f.pipe.mems) 0
  where
    all : (n m : ℕ) → gets_some f.pipe k x n m ≡ false
    all zero m = refl
    all (suc n) m =
        ap (λ b. b || gets_some f.pipe k x n (suc m)) (gets_none f k x m (reading f.pipe m) l (λ r is. (reads_word f m r t is).low)) ∙ all n (suc m)
