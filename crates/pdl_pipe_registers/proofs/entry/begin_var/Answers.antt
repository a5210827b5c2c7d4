use Rattle.std.proofs.Common.{◌≤◌, sym, subst}
use Rattle.pdl_form.specs.FormView.{form}
use Rattle.pdl_pipe_registers.proofs.Widths.{wide_low, wide_high}
use Rattle.pdl_pipe_registers.proofs.entry.begin_var.Goals as goal
use Rattle.pdl_word.specs.Words.{widest}

pub begin_item-requires-clause-low : goal.begin_item-requires-clause-low
begin_item-requires-clause-low c =
    subst (λ n. 1 ≤ n) (sym c.width.ensures) (wide_low (form c.args.pipe.now).widths c.args.x c.requires.low c.requires.typed.wide)

pub begin_item-requires-clause-high : goal.begin_item-requires-clause-high
begin_item-requires-clause-high c =
    subst (λ n. n ≤ widest) (sym c.width.ensures) (wide_high (form c.args.pipe.now).widths c.args.x c.requires.low c.requires.typed.wide)
