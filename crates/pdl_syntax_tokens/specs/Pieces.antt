-- The pieces that values of the program stand for.
use Rattle.std.specs.Prelude.{◌≡◌, ℕ, List, [], ◌∷◌, Option, Some, None}
use Rattle.pdl_syntax_tokens.specs.declared.piece.Piece as r
use Rattle.pdl_syntax_tokens.specs.Tokens.{Piece, piece_at, line_after}

-- the piece that a value of the program stands for
abbrev pub piece_view : r.Piece → Piece
piece_view p = record { kind = p.kind; size = p.size }

-- what is answered is the piece at the front, none only where nothing is left
abbrev pub IsFront : List ℕ → Option r.Piece → Type 0
IsFront [] (Some p) = ⊥
IsFront [] None = Unit {0}
IsFront (c ∷ cs) (Some p) = piece_view p ≡ piece_at c (c ∷ cs)
IsFront (c ∷ cs) None = ⊥

-- the line after the piece at the front of bytes
abbrev pub IsLineAfter : List ℕ → ℕ → ℕ → Type 0
IsLineAfter [] before after = before ≡ after
IsLineAfter (c ∷ cs) before after = after ≡ line_after c before
