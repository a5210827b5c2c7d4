-- Choices that cost no cell: the arm that is known.
use Rattle.std.proofs.Common.{◌≡◌, ℕ, Bool, true, false, ◌==◌, refl, sym, ap, ◌∙◌}
use mathlib.Core.Path.{fun_ext}
use Rattle.std.specs.Prelude.{if◌then◌else◌}
use Rattle.pdl_word.specs.Words as words
use Rattle.pdl_net.specs.declared.Net.{Net}
use Rattle.pdl_net.specs.Circuit.{Circuit}
use Rattle.pdl_net.specs.Signal.{Signal, Value, mux_signal, mux_value, const_value}
use Rattle.pdl_net.specs.Meaning.{signal, IsThere, Means}

either : (b : Bool) (n : ℕ) → (if b then n else n) ≡ n
either true n = refl
either false n = refl

mux_same : (f a : Signal) → mux_signal f a a ≡ a
unfolding mux_value words.mux
mux_same f a = ap (λ (v : Value). record { width = a.width; value = v }) (fun_ext (λ s. either (f.value s == 1) (a.value s)))

mux_first : (a b : Signal) (v : ℕ) → (v == 1) ≡ true → record { width = a.width; value = mux_value (const_value v) a.value b.value } ≡ a
unfolding mux_value const_value words.mux
mux_first a b v e = ap (λ (t : Bool). record { width = a.width; value = λ s. if t then a.value s else b.value s }) e

mux_second : (a b : Signal) (v : ℕ)
    → (v == 1) ≡ false → a.width ≡ b.width
    → record { width = a.width; value = mux_value (const_value v) a.value b.value } ≡ b
unfolding mux_value const_value words.mux
mux_second a b v e w =
    ap (λ (t : Bool). record { width = a.width; value = λ s. if t then a.value s else b.value s }) e
    ∙ ap (λ (n : ℕ). record { width = n; value = b.value }) w

module _ (c : Circuit) (choice x y : Net) where
  -- a choice between a net and that net itself means the net
  pub same_arm : x ≡ y → IsThere c x → Means c x (mux_signal (signal c choice) (signal c x) (signal c y))
  same_arm e t =
      record {
        there = t;
        same = sym (ap (λ (z : Net). mux_signal (signal c choice) (signal c x) (signal c z)) (sym e) ∙ mux_same (signal c choice) (signal c x));
      }

  -- the first arm means what the choice does, where the choosing net is a constant that takes the first
  pub first_arm : (v : ℕ) → (signal c choice).value ≡ const_value v → (v == 1) ≡ true → IsThere c x
      → Means c x (mux_signal (signal c choice) (signal c x) (signal c y))
  first_arm v k e t =
      record {
        there = t;
        same =
            sym
            (ap (λ (f : Value). record { width = (signal c x).width; value = mux_value f (signal c x).value (signal c y).value }) k
            ∙ mux_first (signal c x) (signal c y) v e);
      }

  -- the second arm means what the choice does, where the choosing net is a constant that takes it and both arms have one width
  pub second_arm : (v : ℕ) → (signal c choice).value ≡ const_value v → (v == 1) ≡ false
      → (signal c x).width ≡ (signal c y).width → IsThere c y
      → Means c y (mux_signal (signal c choice) (signal c x) (signal c y))
  second_arm v k e w t =
      record {
        there = t;
        same =
            sym
            (ap (λ (f : Value). record { width = (signal c x).width; value = mux_value f (signal c x).value (signal c y).value }) k
            ∙ mux_second (signal c x) (signal c y) v e w);
      }
