-- What the definition of tokens gives on some texts.
use Rattle.std.proofs.Common.{◌≡◌, ◌∷◌, [], Some, map, codes, refl}
use Rattle.pdl_syntax_tokens.specs.declared.token.TokenKind.TheVariants as kind
use Rattle.pdl_syntax_tokens.specs.declared.token.Mark.TheVariants as mark
use Rattle.pdl_syntax_tokens.specs.Tokens.{tokens, piece_at}

longest : map (λ t. t.kind)
    (tokens (codes "<-<<- ----"))
    ≡ kind.Mark mark.Arrow ∷ kind.Mark mark.ShiftLeft ∷ kind.Mark mark.Minus ∷ kind.Mark mark.Separator ∷ kind.Mark mark.Minus ∷ []
unfolding piece_at
longest = refl

literals : map (λ t. t.kind)
    (tokens (codes "4'd16 8'hff 4'x")) ≡ kind.Literal 4 (Some 16) ∷ kind.Literal 8 (Some 255) ∷ kind.Number 4 ∷ kind.Bad ∷ kind.Name ∷ []
unfolding piece_at
literals = refl

lines : map (λ t. t.span)
    (tokens (codes "a // b\n\n if")) ≡ record { start = 0; end = 1; line = 1 } ∷ record { start = 9; end = 11; line = 3 } ∷ []
unfolding piece_at
lines = refl
