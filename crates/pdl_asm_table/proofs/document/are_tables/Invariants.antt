use Rattle.std.proofs.Common.{◌≡◌, drop}
use Rattle.toml.specs.View.{items_view}
use Rattle.pdl_asm_table.specs.Documents.{are_tables}
use Rattle.pdl_asm_table.proofs.document.are_tables.Given as goal

-- those so far are tables
abbrev pub invariant-loop-value : goal.invariant-loop-value
invariant-loop-value l = are_tables (items_view (drop l.value-index l.list)) ≡ are_tables (items_view l.list)
