use Rattle.std.proofs.Common.{◌≡◌}
use Rattle.toml.specs.View.{table_view}
use Rattle.pdl_asm_table.specs.Documents.{has_only, insn_keys}
use Rattle.pdl_asm_table.proofs.Members.{all_known}
use Rattle.pdl_asm_table.proofs.document.has_insn_keys.Given as goal

-- the keys so far are known
abbrev pub invariant-loop-key : goal.invariant-loop-key
invariant-loop-key l = all_known insn_keys l.key-iterator ≡ has_only insn_keys (table_view l.table)
