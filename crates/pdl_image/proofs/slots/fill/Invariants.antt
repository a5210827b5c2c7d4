use Rattle.std.proofs.Common.{◌≡◌, ◌-◌, length}
use Rattle.pdl_image.specs.Slots.{filled}
use Rattle.pdl_image.proofs.slots.fill.Given as goal

abbrev pub invariant-loop-address : goal.invariant-loop-address
invariant-loop-address l = record {
  filled : l.values ≡ filled l.fn.values l.from (l.address - l.from) l.value;
  len : length l.values ≡ length l.fn.values;
}
