-- The memories of a pipe, as told and as they stand in the flat form.
use Rattle.std.proofs.Common.{◌≡◌, suc, refl, ap, List, [], ◌∷◌, length}
use Rattle.pdl_semantics.specs.Tree.{Mem}
use Rattle.pdl_semantics.specs.Flatten.{mems_of}
use Rattle.pdl_rules.specs.Memories.{infos_of}

-- as many memories are told as the flat form has
pub infos_count : (ms : List Mem) → length (infos_of ms) ≡ length (mems_of ms)
infos_count [] = refl
infos_count (m ∷ ms) = ap suc (infos_count ms)
