use Rattle.std.proofs.Common.{◌≡◌, take}
use Rattle.pdl_cli_commands.specs.Summaries.{image_of}
use Rattle.pdl_cli_commands.proofs.summary.image_of.Given as goal

-- those of the memories so far
abbrev pub invariant-loop-mem : goal.invariant-loop-mem
invariant-loop-mem l = l.all ≡ image_of l.words (take l.mem-index l.mems)
