use Rattle.std.proofs.Common.{◌≡◌, sym, ap, ◌∙◌, List, subst}
use Rattle.pdl_form.specs.FormView.{form}
use Rattle.pdl_net.specs.declared.Net.{Net}
use Rattle.pdl_net.specs.Meaning.{signal}
use Rattle.pdl_pipe_exprs.specs.Nets.{NetsThere, signals_in, widths_of}
use Rattle.pdl_pipe_walk.specs.Guesses.{choices}
use Rattle.pdl_pipe_walk.proofs.Choices.{same_length, choices_widths}
use Rattle.pdl_pipe_tails.specs.Tails.{IsCut}
use Rattle.pdl_pipe_tails.proofs.cut.cut_by.Goals as goal

pub row_at-early-requires : goal.row_at-early-requires
row_at-early-requires c = (c.requires.like c.in-Some.u (sym c.in-Some.ensures)).low

pub choose-requires-clause-ys : goal.choose-requires-clause-ys
choose-requires-clause-ys c =
    subst (NetsThere c.args.b.now) (sym (c.as_slice.ensures ∙ c.row_at-early.ensures)) (c.requires.like c.in-Some.u (sym c.in-Some.ensures)).there

pub choose-requires-clause-widths : goal.choose-requires-clause-widths
choose-requires-clause-widths c =
    sym
    (ap (λ (ns : List Net). widths_of (signals_in c.args.b.now ns)) (c.as_slice.ensures ∙ c.row_at-early.ensures)
    ∙ (c.requires.like c.in-Some.u (sym c.in-Some.ensures)).wide)

pub returns-clause-wide : goal.returns-clause-wide
returns-clause-wide c =
    let b = c.args.b.now in
    let xs = signals_in b c.args.last.now in
    let ys = signals_in b c.as_slice.result.now in
    let same : widths_of xs ≡ widths_of ys =
    sym
    (ap (λ (ns : List Net). widths_of (signals_in b ns)) (c.as_slice.ensures ∙ c.row_at-early.ensures)
    ∙ (c.requires.like c.in-Some.u (sym c.in-Some.ensures)).wide) in
    ap widths_of c.in_ok-cut-2.ensures.means ∙ choices_widths (signal b c.args.verify) xs ys (same_length xs ys same)

pub returns-clause-cut : goal.returns-clause-cut
returns-clause-cut c =
    let b = c.args.b.now in
    subst (IsCut b c.choose.new.b c.args.verify c.args.before.now c.args.last.now c.in_ok-cut-2.cut) c.in-Some.ensures
    (c.in_ok-cut-2.ensures.means
    ∙ ap (λ (ns : List Net). choices (signal b c.args.verify) (signals_in b c.args.last.now) (signals_in b ns)) (c.as_slice.ensures ∙ c.row_at-early.ensures))
