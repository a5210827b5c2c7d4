use Rattle.std.proofs.Common.{◌≡◌, drop}
use Rattle.toml.specs.View.{items_view}
use Rattle.pdl_asm_table.specs.Documents.{args_of}
use Rattle.pdl_asm_table.proofs.Joins.{joined}
use Rattle.pdl_asm_table.proofs.insns.read_args.Given as goal

-- what is read and what is to come are all
abbrev pub invariant-loop-value : goal.invariant-loop-value
invariant-loop-value l = joined l.args (args_of (items_view (drop l.value-index l.list))) ≡ args_of (items_view l.list)
