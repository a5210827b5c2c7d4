-- The pieces that values of the program stand for.
use Rattle.std.specs.Prelude.{◌≡◌, ℕ, List, [], ◌∷◌, Option, Some, None}
use Rattle.pdl_vread_text.specs.declared.piece.VerilogPiece as r
use Rattle.pdl_vread_text.specs.Tokens.{Piece, piece_at, line_after}

-- the piece that a piece of the program stands for
abbrev pub piece_view : r.VerilogPiece → Piece
piece_view p = record { is_token = p.is_token; size = p.size }

-- what is answered is the piece at the front, none only where nothing is left
abbrev pub IsFront : List ℕ → Option r.VerilogPiece → Type 0
IsFront [] (Some p) = ⊥
IsFront [] None = Unit {0}
IsFront (c ∷ cs) (Some p) = piece_view p ≡ piece_at c (c ∷ cs)
IsFront (c ∷ cs) None = ⊥

-- the line after the piece at the front of bytes
abbrev pub IsLineAfter : List ℕ → ℕ → ℕ → Type 0
IsLineAfter [] before after = before ≡ after
IsLineAfter (c ∷ cs) before after = after ≡ line_after c before
