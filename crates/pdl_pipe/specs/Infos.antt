-- Memories as they are told, of one kind.
use Rattle.std.specs.Prelude.{Bool, true, false, not}
use Rattle.pdl_kit.specs.declared.mem_info.MemInfo.{MemInfo}

-- whether a memory is delayed, or answers at once
abbrev pub is_told : Bool → MemInfo → Bool
is_told true m = m.delayed
is_told false m = not m.delayed
