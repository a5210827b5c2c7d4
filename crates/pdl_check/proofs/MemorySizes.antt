-- A memory's width and depth fit their types.
use Rattle.std.proofs.Common.{◌≡◌, ℕ, zero, suc, ◌<◌, List, [], ◌∷◌, map, length, get_or, sym, subst, arith}
use Rattle.pdl_syntax_tree.specs.declared.tree.Mem as r_mem
use Rattle.pdl_syntax_tree.specs.View.{mem_view}
use Rattle.pdl_form_lower.specs.Sized.{IsSizedMem, AreSizedMems}

-- of memories whose sizes are in bounds, each one's are
pub sized_here : (xs : List r_mem.Mem) (i : ℕ) (x : r_mem.Mem) → AreSizedMems (map mem_view xs)
    → i < length xs → x ≡ get_or xs i x → IsSizedMem (mem_view x)
sized_here [] i x h below here = absurd (omega arith)
sized_here (y ∷ xs) zero x h below here = let P : r_mem.Mem → Type 0 = λ z. IsSizedMem (mem_view z) in subst P (sym here) h.0
sized_here (y ∷ xs) (suc i) x h below here = sized_here xs i x h.1 (omega arith) here
