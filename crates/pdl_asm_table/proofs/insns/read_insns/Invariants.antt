use Rattle.std.proofs.Common.{◌≡◌, ◌+◌, drop}
use Rattle.toml.specs.View.{items_view}
use Rattle.pdl_asm_table.specs.Documents.{insns_of}
use Rattle.pdl_asm_table.proofs.Joins.{joined_ok}
use Rattle.pdl_asm_table.proofs.insns.read_insns.Given as goal

-- what is read and what is to come are all
abbrev pub invariant-loop-i : goal.invariant-loop-i
invariant-loop-i l = joined_ok l.insns (insns_of (l.i + 1) (items_view (drop l.i l.list))) ≡ insns_of 1 (items_view l.list)
