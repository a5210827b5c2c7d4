use Rattle.std.proofs.Common.{◌≤◌, ◌<◌, ◌^◌, sym, subst, length}
use Rattle.std.specs.Prelude.{slice_index}
use Rattle.pdl_form.specs.FormView.{form}
use Rattle.pdl_pipe_registers.proofs.Widths.{wide_low, wide_high, start_fits}
use Rattle.pdl_pipe_registers.proofs.entry.first_var.Goals as goal
use Rattle.pdl_word.specs.Words.{widest}

pub keep-requires-clause-low : goal.keep-requires-clause-low
keep-requires-clause-low c = subst (λ n. 1 ≤ n) (sym c.width.ensures) (wide_low (form c.args.pipe.now).widths c.args.x c.requires.low c.requires.typed.wide)

pub keep-requires-clause-high : goal.keep-requires-clause-high
keep-requires-clause-high c = subst (λ n. n ≤ widest) (sym c.width.ensures) (wide_high (form c.args.pipe.now).widths c.args.x c.requires.low c.requires.typed.wide)

pub keep-requires-clause-fits : goal.keep-requires-clause-fits
keep-requires-clause-fits c =
    let low : c.args.x < length (form c.args.pipe.now).pipe.start = subst (λ xs. c.args.x < length xs) c.start.ensures c.if-x-start.true in
    subst (λ n. n < 2 ^ c.width.result) (sym c.start_of.ensures)
    (subst (λ n. slice_index (form c.args.pipe.now).pipe.start c.args.x < 2 ^ n) (sym c.width.ensures)
    (start_fits (form c.args.pipe.now).widths (form c.args.pipe.now).pipe.start c.args.x low c.requires.typed.start))
