use Rattle.std.proofs.Common.{◌≡◌, ◌-◌}
use Rattle.pdl_image.specs.Images.{is_any_given}
use Rattle.pdl_image.specs.Slots.{slot_at}
use Rattle.pdl_image.proofs.slots.has_value.Given as goal

abbrev pub invariant-loop-address : goal.invariant-loop-address
invariant-loop-address l = l.found ≡ is_any_given (slot_at l.values) l.from (l.address - l.from)
