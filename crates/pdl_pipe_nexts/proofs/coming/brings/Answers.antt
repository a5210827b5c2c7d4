use Rattle.std.proofs.Common.{sym, ap, ◌∙◌, subst}
use Rattle.pdl_net.specs.Signal.{Signal}
use Rattle.pdl_pipe_exprs.specs.Nets.{signals_in}
use Rattle.pdl_pipe_registers.proofs.SettledItems.{ended_width}
use Rattle.pdl_pipe_nexts.specs.Lines.{line_form}
use Rattle.pdl_pipe_nexts.specs.Brings.{brought_width, IsBrought}
use Rattle.pdl_pipe_nexts.proofs.LineGrowth.{stage_now}
use Rattle.pdl_pipe_nexts.proofs.coming.brings.Goals as goal

pub returns-in-Some-clause-wide : goal.returns-in-Some-clause-wide
returns-in-Some-clause-wide c =
    let a = c.args.b.now in
    let x = c.args.line.now in
    let f = line_form x in
    let nexts = signals_in a x.shared.now.next in
    let s = c.stage_of.result.now in
    let now = c.requires.line.stages c.args.j s c.requires.low (sym c.stage_of.ensures) in
    let item = subst (IsBrought f) c.in-Some.is c.requires.what in
    ap (λ (g : Signal). g.width) c.ended.ensures.same
    ∙ ended_width a f nexts s c.in-Some.item (stage_now a f nexts c.args.j s now) item
    ∙ ap (brought_width f nexts) (sym c.in-Some.is)
