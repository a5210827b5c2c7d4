use Rattle.std.proofs.Common.{ap, sym, ◌∙◌, option_and_then}
use Rattle.pdl_asm_table.specs.Documents.{some_tables}
use Rattle.pdl_asm_table.proofs.Members.{some_tables_are}
use Rattle.pdl_asm_table.proofs.document.insns_in.Goals as goal

pub returns-then-are_tables : goal.returns-then-are_tables
returns-then-are_tables c =
    sym (some_tables_are c.in-Some.list.now (sym c.is_empty.ensures ∙ c.if-not-is_empty.true) (sym c.are_tables.ensures ∙ c.if-are_tables.true))
    ∙ ap (option_and_then some_tables) c.in-Some.ensures
