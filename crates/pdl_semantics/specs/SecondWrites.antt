-- Which memories some path reserves twice for writing: of these a cycle can commit two writes.
use Rattle.std.specs.Prelude.{ℕ, suc, Bool, true, false, ◌&&◌, ◌||◌, not, List, [], ◌∷◌, ◌++◌, if◌then◌else◌, ◌==◌}
use Rattle.pdl_semantics.specs.Flat.{Guard, Stmt, Mem, list_all}
use Rattle.pdl_semantics.specs.Stages.{list_any, is_write_reserve}

-- how many of these statements reserve memory m for writing
abbrev pub write_reserves : ℕ → List Stmt → ℕ
write_reserves m [] = 0
write_reserves m (x ∷ xs) = if is_write_reserve m x.op then suc (write_reserves m xs) else write_reserves m xs

-- whether two truth values are the same
abbrev pub same_truth : Bool → Bool → Bool
same_truth true true = true
same_truth true false = false
same_truth false true = false
same_truth false false = true

-- whether two guards can hold together
abbrev pub agrees_with : Guard → Guard → Bool
agrees_with g h = not (h.var == g.var) || same_truth h.first g.first

-- whether no two of these guards ask for opposite values of a variable: there is a path on which all hold
abbrev pub are_consistent : List Guard → Bool
are_consistent [] = true
are_consistent (g ∷ gs) = list_all (agrees_with g) gs && are_consistent gs

-- whether a statement reserves a memory for writing on a path on which one under these guards stands
abbrev pub reserves_too : ℕ → List Guard → Stmt → Bool
reserves_too m gs x = is_write_reserve m x.op && are_consistent (gs ++ x.guards)

-- whether some path reserves memory m twice for writing
abbrev pub reserves_twice : ℕ → List Stmt → Bool
reserves_twice m [] = false
reserves_twice m (x ∷ xs) = (is_write_reserve m x.op && list_any (reserves_too m x.guards) xs) || reserves_twice m xs

-- of each of these memories, of which the first has number m, whether some path reserves it twice for writing
abbrev pub all_twice : List Stmt → ℕ → List Mem → List Bool
all_twice xs m [] = []
all_twice xs m (x ∷ ms) = reserves_twice m xs ∷ all_twice xs (suc m) ms
