-- What is asked of a token, as one word or as a kind.
use Rattle.std.proofs.Common.{◌≡◌, Bool, List, ℕ, Option, Some, None, refl, ap, ◌∙◌}
use Rattle.std.specs.Prelude.{bytes_eq}
use Rattle.pdl_vread_text.specs.declared.field.Field.{Field}
use Rattle.pdl_vread_text.specs.declared.field.Field.TheVariants as f
use Rattle.pdl_vread_text.specs.Grammar.{fits, is_of_kind, word}

asked : Option (List ℕ) → Field → List ℕ → Bool
asked (Some w) g t = bytes_eq t w
asked None g t = is_of_kind g t

by_word : (g : Field) (t : List ℕ) → fits g t ≡ asked (word g) g t
unfolding asked
by_word f.Module t = refl
by_word _ t = refl

-- where one word alone is asked of a token, it fits just where it is that word
pub of_word : (g : Field) (t w : List ℕ) → word g ≡ Some w → fits g t ≡ bytes_eq t w
unfolding asked
of_word g t w e = by_word g t ∙ ap (λ o. asked o g t) e

-- where more than one word may be asked of a token, it fits just where it is of that kind
pub of_kind : (g : Field) (t : List ℕ) → word g ≡ None → fits g t ≡ is_of_kind g t
unfolding asked
of_kind g t e = by_word g t ∙ ap (λ o. asked o g t) e
