-- The values of a thread with the advised ones over them: those that aren't advised stay what they are.
use Rattle.std.proofs.Common.{◌≡◌, ℕ, zero, suc, true, false, List, [], ◌∷◌, length, sym, ap, ◌∙◌, refl, arith}
use Rattle.std.specs.Prelude.{slice_index, slice_set}
use Rattle.std.proofs.lemmas.Bool.{false≢true}
use Rattle.std.proofs.lemmas.List.{length-set, get_or-set_other}
use Rattle.pdl_semantics.specs.Flat.{Pipe}
use Rattle.pdl_semantics.specs.Machine.{Kept, Deeds, with_kept}
use Rattle.pdl_net.specs.Circuit.{State}
use Rattle.pdl_law_parts.specs.Lives.{lives_from}
use Rattle.pdl_law_parts.specs.Walk.{Walk}
use Rattle.pdl_law_parts.specs.Advice.{is_advised_in, AreAdvised}
use Rattle.pdl_law_parts.specs.Stands.{IsSo}

-- advised values leave the values of what isn't advised
pub plain_value : (p : Pipe) (ks : List Kept) (env : List ℕ) (y : ℕ) → AreAdvised p ks → is_advised_in p y ≡ false
    → slice_index (with_kept ks env) y ≡ slice_index env y
plain_value p [] env y h e = refl
plain_value p (q ∷ ks) env y h e =
    plain_value p ks (slice_set env q.var q.word) y h.1 e
    ∙ get_or-set_other env q.var y q.word 0 (λ g. absurd (false≢true (sym e ∙ ap (is_advised_in p) g ∙ h.0)))

-- where two lists of values agree, they agree with one more value set in both
set_alike : (e f : List ℕ) (x v y : ℕ) → length e ≡ length f → slice_index e y ≡ slice_index f y → slice_index (slice_set e x v) y ≡ slice_index (slice_set f x v) y
set_alike [] [] x v y l h = refl
set_alike [] (b ∷ f) x v y l h = absurd (omega (arith, l))
set_alike (a ∷ e) [] x v y l h = absurd (omega (arith, l))
set_alike (a ∷ e) (b ∷ f) zero v zero l h = refl
set_alike (a ∷ e) (b ∷ f) zero v (suc y) l h = h
set_alike (a ∷ e) (b ∷ f) (suc x) v zero l h = h
set_alike (a ∷ e) (b ∷ f) (suc x) v (suc y) l h = set_alike e f x v y (omega (arith, l)) h

-- where two lists of values agree, they agree with the same values over them
pub over_same : (ks : List Kept) (e f : List ℕ) (y : ℕ) → length e ≡ length f → slice_index e y ≡ slice_index f y
    → slice_index (with_kept ks e) y ≡ slice_index (with_kept ks f) y
over_same [] e f y l h = h
over_same (q ∷ ks) e f y l h =
    over_same ks (slice_set e q.var q.word) (slice_set f q.var q.word) y (length-set e q.var q.word ∙ l ∙ sym (length-set f q.var q.word))
    (set_alike e f q.var q.word y l h)

-- a variable that isn't advised has its signal's value among those of the thread alone
pub plain_env : (p : Pipe) (k : ℕ) (s : State) (w : Walk) (d : Deeds) (y : ℕ) → IsSo p k s w d → lives_from p k y ≡ true → is_advised_in p y ≡ false
    → slice_index d.env y ≡ (w.vars y).value s
plain_env p k s w d y h live plain = sym (plain_value p d.advice d.env y h.advice plain) ∙ h.env y live
