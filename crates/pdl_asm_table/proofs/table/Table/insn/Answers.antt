use Rattle.std.proofs.Common.{sym, ap, ◌∙◌, arith}
use Rattle.pdl_asm_table.specs.Tables.{TableValue}
use Rattle.pdl_asm_table.proofs.Entries.{wide_found}
use Rattle.pdl_asm_table.proofs.table.Table.insn.Goals as goal

pub returns-in-Some-clause-bits : goal.returns-in-Some-clause-bits
returns-in-Some-clause-bits c =
    wide_found c.self.inside.word c.self.inside.insns _ _ c.self.invariant.bits (sym c.in-Some.ensures) ∙ ap (λ (t : TableValue). t.word) c.self.view_is

pub returns-in-Some-clause-few : goal.returns-in-Some-clause-few
returns-in-Some-clause-few c =
    let e = wide_found c.self.inside.word c.self.inside.insns _ _ c.self.invariant.bits (sym c.in-Some.ensures) in
    omega (arith, e, c.self.invariant.high)
