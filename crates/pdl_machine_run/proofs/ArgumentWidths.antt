-- The first thread's arguments have their widths.
use Rattle.std.proofs.Common.{◌≡◌, refl, ap, ℕ, zero, suc, ◌^◌, ◌<◌, List, [], ◌∷◌, length, slice_index, arith}
use Rattle.pdl_form.specs.Form.{Form}
use Rattle.pdl_form_types.specs.Stmts.{param_widths, AreBelow}
use Rattle.pdl_form_values.specs.Widths.{Fit}
use Rattle.pdl_machine_run.specs.Running.{IsRunnable}

module _ (f : Form) where
  below_count : (ws vs : List ℕ) → AreBelow ws vs → length vs ≡ length ws
  below_count [] [] h = refl
  below_count [] (v ∷ vs) h = absurd h
  below_count (w ∷ ws) [] h = absurd h
  below_count (w ∷ ws) (v ∷ vs) h = ap suc (below_count ws vs h.1)

  below_at : (ws vs : List ℕ) → AreBelow ws vs → (x : ℕ) → slice_index vs x < 2 ^ slice_index ws x
  below_at [] [] h x = omega arith
  below_at [] (v ∷ vs) h x = absurd h
  below_at (w ∷ ws) [] h x = absurd h
  below_at (w ∷ ws) (v ∷ vs) h zero = h.0
  below_at (w ∷ ws) (v ∷ vs) h (suc x) = below_at ws vs h.1 x

  -- the first thread's arguments have their widths
  pub start_fit : IsRunnable f → Fit (param_widths f) f.pipe.start
  start_fit run =
      record {
        count = below_count (param_widths f) f.pipe.start run.typed.start;
        below = below_at (param_widths f) f.pipe.start run.typed.start;
      }
