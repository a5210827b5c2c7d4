use Rattle.std.proofs.Common.{◌≡◌, ℕ, ◌<◌, length, take, slice_index}
use Rattle.pdl_vread_rules.specs.Once.{reg_drives}
use Rattle.pdl_vread_rules.proofs.once.reg_counts.Given as goal

abbrev pub invariant-loop-drive : goal.invariant-loop-drive
invariant-loop-drive l = record {
  len : length l.counts.items ≡ l.regs;
  counts : (k : ℕ) → k < l.regs → slice_index l.counts.items k ≡ reg_drives (take l.drive-index l.drives) k;
}
