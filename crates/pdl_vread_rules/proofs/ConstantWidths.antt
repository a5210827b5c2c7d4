-- Constants that fit, and the widths of inputs.
use Rattle.std.proofs.Common.{◌≡◌, ℕ, ◌+◌, ◌-◌, ◌^◌, ◌<◌, ◌≤◌, Bool, true, false, ◌&&◌, leb, ltb, List, [], ◌∷◌, ◌++◌, length, take, get_or, filter_map, refl, sym, ap, ◌∙◌, arith}
use Rattle.std.proofs.Math.Pow.{pow_mono}
use Rattle.std.proofs.lemmas.Bool.{leb-true, leb-false, lt-ltb, le-ltb}
use Rattle.std.proofs.lemmas.List.{take_more}
use Rattle.std.proofs.lemmas.List.Elements.{filter_map-append}
use Rattle.pdl_word.specs.Words.{mask}
use Rattle.pdl_vread_text.specs.declared.file.PortDecl.{PortDecl}
use Rattle.pdl_vread_rules.specs.Widths.{is_width, fits, input_width}

below : (v w : ℕ) → leb v (2 ^ w - 1) ≡ ltb v (2 ^ w)
below v w = go (leb v (2 ^ w - 1)) refl
  where
    go : (b : Bool) → leb v (2 ^ w - 1) ≡ b → b ≡ ltb v (2 ^ w)
    go true h =
        let p : 2 ^ 0 ≤ 2 ^ w = pow_mono {i = 0} {j = w} (omega arith) in
        let l = leb-true v (2 ^ w - 1) h in
        sym (lt-ltb v (2 ^ w) (omega arith))
    go false h =
        let l = leb-false v (2 ^ w - 1) h in
        sym (le-ltb v (2 ^ w) (omega arith))

-- a value up to the largest word fits
pub fits_word : (v w m : ℕ) → m ≡ mask w → is_width w ≡ true → leb v m ≡ fits v w
unfolding mask
fits_word v w m e h = ap (leb v) e ∙ (below v w ∙ ap (λ b. b && ltb v (2 ^ w)) (sym h))

-- with the i-th port the widths of inputs are those of the ports before it, and its own, if it is one
pub inputs_more : (ports : List PortDecl) (i : ℕ) (d : PortDecl)
    → i < length ports
    → filter_map input_width (take (i + 1) ports) ≡ filter_map input_width (take i ports) ++ filter_map input_width (get_or ports i d ∷ [])
inputs_more ports i d h = ap (filter_map input_width) (take_more ports i d h) ∙ filter_map-append input_width (take i ports) (get_or ports i d ∷ [])
