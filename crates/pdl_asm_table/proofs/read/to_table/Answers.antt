use Rattle.std.proofs.Common.{◌≡◌, None, ap, sym, ◌∙◌, subst}
use Rattle.std.proofs.lemmas.Result.{err_from_is_err_and}
use Rattle.pdl_asm_table.specs.Tables.{AreWide, breaks_b3, breaks_b4, first_broken}
use Rattle.pdl_asm_table.proofs.Entries.{wide_if_none}
use Rattle.pdl_asm_table.proofs.PassedAnswers.{passed_on, refused_ok, whole_err}
use Rattle.pdl_asm_table.proofs.read.to_table.Goals as goal

pub returns-in_err-insns : goal.returns-in_err-insns
returns-in_err-insns c =
    let p = err_from_is_err_and c.from_residual.result c.from_residual.ensures.1 in
    let f : first_broken (breaks_b3 c.args.word) 1 c.args.insns ≡ None =
    ap (first_broken (breaks_b3 c.args.word) 1) (sym c.as_slice.ensures) ∙ sym c.in_default.ensures in
    let g : first_broken breaks_b4 1 c.args.insns ≡ None = ap (first_broken breaks_b4 1) (sym c.as_slice-2.ensures) ∙ sym c.in_default-first_b4.ensures in
    rw (p.1, p.2) (passed_on _ _ _ (λ e h. whole_err c.args.word c.args.mem c.args.regs c.args.insns e f g h) c.in_err-insns.ensures)

pub new-requires : goal.new-requires
new-requires c =
    let f : first_broken (breaks_b3 c.args.word) 1 c.args.insns ≡ None =
    ap (first_broken (breaks_b3 c.args.word) 1) (sym c.as_slice.ensures) ∙ sym c.in_default.ensures in
    record {
      low = c.requires.low;
      high = c.requires.high;
      mem = c.requires.name;
      bits = subst (AreWide c.args.word) (refused_ok _ _ _ _ c.in_ok-insns.ensures) (wide_if_none c.args.word 1 c.args.insns f);
    }
