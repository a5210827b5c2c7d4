use Rattle.std.proofs.Common.{sym, subst}
use Rattle.pdl_form.specs.FormView.{form}
use Rattle.pdl_pipe_walk.specs.declared.nets.AskNet.{AskNet}
use Rattle.pdl_word.specs.Each.{Each}
use Rattle.std.specs.Prelude.{List}
use Rattle.pdl_pipe_beside.specs.Steps.{IsAskNet}
use Rattle.pdl_pipe_beside.proofs.EndGrowth.{end_is, end_asks}
use Rattle.pdl_pipe_beside.proofs.port_round.stage_asks.Goals as goal

pub asks_memory-requires-clause-asks : goal.asks_memory-requires-clause-asks
asks_memory-requires-clause-asks c =
    let f = form c.args.round.now.pipe.now in
    let a = c.args.b.now in
    let e = c.end_at-end.result in
    let is = end_is a f c.args.round.now.ends.now c.args.stage e c.requires.ends c.requires.stage c.end_at-end.ensures in
    subst (λ (qs : List AskNet). Each (IsAskNet a) qs) (sym c.as_slice.ensures) (end_asks a f e is)
