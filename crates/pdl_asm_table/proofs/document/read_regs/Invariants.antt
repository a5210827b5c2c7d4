use Rattle.std.proofs.Common.{◌≡◌, [], Some}
use Rattle.toml.specs.View.{members_view, table_view}
use Rattle.pdl_asm_table.specs.Documents.{regs_from}
use Rattle.pdl_asm_table.proofs.document.read_regs.Given as goal

-- what is read and what is to come are all
abbrev pub invariant-loop-name : goal.invariant-loop-name
invariant-loop-name l = regs_from (Some l.regs) (members_view l.name-iterator) ≡ regs_from (Some []) (table_view l.table)
