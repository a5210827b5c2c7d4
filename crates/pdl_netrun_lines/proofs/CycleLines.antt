-- The lines of a cycle, memory by memory.
use Rattle.std.proofs.Common.{◌≡◌, ◌∙◌, ap, ap₂, refl, sym, ℕ, ◌+◌, ◌<◌, List, [], ◌∷◌, ◌++◌, append_assoc, get_or, drop, map, length}
use Rattle.std.proofs.lemmas.List.{drop_more}
use Rattle.pdl_kit.specs.declared.mem_info.MemInfo.{MemInfo}
use Rattle.pdl_semantics.specs.Lines.{Column, Put, put_line, mem_lines, cycle_lines}
use Rattle.pdl_law_parts.specs.Runs.{column_of}

-- the lines of a memory's words are those of the first of them, and those of the others
pub lines_append : (n : ℕ) (m : Column) (xs ys : List Put) → mem_lines n m (xs ++ ys) ≡ mem_lines n m xs ++ mem_lines n m ys
lines_append n m [] ys = refl
lines_append n m (x ∷ xs) ys =
    ap (λ l. put_line n m x ++ l) (lines_append n m xs ys) ∙ sym (append_assoc (put_line n m x) (mem_lines n m xs) (mem_lines n m ys))

-- the lines of these memories, where a memory commits as `f` says
abbrev pub lines_of : ℕ → (MemInfo → List Put) → List MemInfo → List ℕ
lines_of n f ms = cycle_lines n (map column_of ms) (map f ms)

-- the lines of the memories from the i-th on are those of the i-th memory and those of the memories after it
pub lines_next : (n : ℕ) (f : MemInfo → List Put) (at : ℕ → MemInfo) (order : List ℕ) (i : ℕ) (m : MemInfo) (r : List Put)
    → i < length order → m ≡ at (get_or order i 0) → r ≡ f (at (get_or order i 0))
    → lines_of n f (map at (drop i order)) ≡ mem_lines n (column_of m) r ++ lines_of n f (map at (drop (i + 1) order))
lines_next n f at order i m r low is shows =
    ap (λ l. lines_of n f (map at l)) (drop_more order i 0 low)
    ∙ ap₂ (λ y q. mem_lines n (column_of y) q ++ lines_of n f (map at (drop (i + 1) order))) (sym is) (sym shows)
