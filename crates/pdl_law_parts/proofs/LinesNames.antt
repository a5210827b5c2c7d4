-- The names of the outputs of a compiled pipe.
use Rattle.std.proofs.Common.{ℕ, zero, suc, ◌≤◌, Bool, List, ◌∷◌, ◌++◌, if◌then◌else◌, length, codes, arith}
use Rattle.pdl_net.specs.Circuit.{Output}
use Rattle.pdl_law_parts.proofs.WellFormedPorts.{stage_names}

-- the name of an output
abbrev pub name_of_output : Output → List ℕ
name_of_output o = o.name

-- the names of the ports of a memory's second commit, where there are such ports, before others
abbrev pub second_names : Bool → List ℕ → List (List ℕ) → List (List ℕ)
second_names twice x rest = if twice then (codes "c2_" ++ x) ∷ (codes "ca2_" ++ x) ∷ (codes "cd2_" ++ x) ∷ rest else rest

-- ---- how many

-- with the names of stages' ports before others, there are no fewer names
pub some_stages : (k n : ℕ) (rest : List (List ℕ)) → length rest ≤ length (stage_names k n rest)
some_stages k zero rest = omega arith
some_stages k (suc n) rest = let e = some_stages (suc k) n rest in omega arith
