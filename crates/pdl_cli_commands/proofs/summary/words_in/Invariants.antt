use Rattle.std.proofs.Common.{◌≡◌, ◌%◌, ◌^◌, map, slice_index}
use Rattle.std.specs.List.{range_with_len}
use Rattle.pdl_cli_commands.proofs.summary.words_in.Given as goal

-- those so far
abbrev pub invariant-loop-address : goal.invariant-loop-address
invariant-loop-address l = l.kept ≡ map (λ address. slice_index l.words address % 2 ^ l.mem.width) (range_with_len 0 l.address)
