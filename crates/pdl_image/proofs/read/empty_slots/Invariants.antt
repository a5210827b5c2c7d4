use Rattle.std.proofs.Common.{◌≡◌, Bool, [], take}
use Rattle.pdl_image.specs.Slots.{all_slots}
use Rattle.pdl_image.proofs.read.empty_slots.Given as goal

abbrev pub invariant-loop-mem : goal.invariant-loop-mem
invariant-loop-mem l = (ranged : Bool) → l.slots.items ≡ all_slots ranged (take l.mem-index l.mems) []
