-- The lines of a text, counted from 1.
use Rattle.std.specs.Prelude.{ℕ, List, [], ◌∷◌, ◌==◌, if◌then◌else◌}
use Rattle.std.specs.List.{onto_first}

-- a byte before the lines that follow: a line feed ends a line, any other byte begins the first of them
abbrev pub byte_before : ℕ → List (List ℕ) → List (List ℕ)
byte_before c ls = if c == 10 then [] ∷ ls else onto_first c ls

-- each line without its line feed, which the last one may lack; after a line feed that ends the text there is no further line
unfoldable pub lines : List ℕ → List (List ℕ)
lines [] = []
lines (c ∷ cs) = byte_before c (lines cs)
