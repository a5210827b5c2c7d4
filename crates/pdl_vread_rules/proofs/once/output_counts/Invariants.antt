use Rattle.std.proofs.Common.{◌≡◌, ℕ, ◌<◌, length, take, slice_index}
use Rattle.pdl_vread_rules.specs.Once.{output_drives}
use Rattle.pdl_vread_rules.proofs.once.output_counts.Given as goal

abbrev pub invariant-loop-drive : goal.invariant-loop-drive
invariant-loop-drive l = record {
  len : length l.counts.items ≡ l.ports;
  counts : (k : ℕ) → k < l.ports → slice_index l.counts.items k ≡ output_drives (take l.drive-index l.drives) k;
}
