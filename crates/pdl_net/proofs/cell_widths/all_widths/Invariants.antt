use Rattle.std.proofs.Common.{◌≡◌, length}
use Rattle.pdl_net.specs.Circuit.{circuit_of}
use Rattle.pdl_net.specs.Width.{HasWidths}
use Rattle.pdl_net.proofs.cell_widths.all_widths.Given as goal

abbrev pub invariant-loop-k : goal.invariant-loop-k
invariant-loop-k l = record {
  widths : HasWidths (circuit_of l.n) l.widths.items;
  count : length l.widths.items ≡ l.k;
}
