-- The memories of a pipe as they are told to later steps.
use Rattle.std.specs.Prelude.{List, map}
use Rattle.pdl_kit.specs.declared.mem_info.MemInfo.{MemInfo}
use Rattle.pdl_semantics.specs.Tree.{Mem}
use Rattle.pdl_semantics.specs.Flat.{is_delayed}

-- a memory as it is told: its name, width and depth, and whether it is delayed
abbrev pub info_of : Mem → MemInfo
info_of m = record { name = m.name.name; width = m.width.value; depth = m.depth.value; delayed = is_delayed m.kind }

-- memories as they are told, in their order
abbrev pub infos_of : List Mem → List MemInfo
infos_of ms = map info_of ms
