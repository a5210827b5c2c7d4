use Rattle.std.proofs.Common.{ℕ, List, sym, subst}
use Rattle.pdl_form.specs.FormView.{form}
use Rattle.pdl_semantics.specs.Stages.{stage_at}
use Rattle.pdl_form_types.specs.Stmts.{IsFork}
use Rattle.pdl_pipe_beside.proofs.EndGrowth.{end_is, fork_at}
use Rattle.pdl_pipe_beside.proofs.port_round.asks_into.Goals as goal

pub goes_to_place-requires-clause-fork : goal.goes_to_place-requires-clause-fork
goes_to_place-requires-clause-fork c =
    let f = form c.args.round.now.pipe.now in
    let a = c.args.b.now in
    let e = c.end_at-end.result in
    let is = end_is a f c.args.round.now.ends.now c.args.stage e c.requires.ends c.requires.stage c.end_at-end.ensures in
    let here = fork_at f.widths f.pipe.stages c.args.stage c.requires.stage c.requires.forks in
    let P : List ℕ → Type 0 = λ ws. IsFork ws (stage_at f.pipe c.args.stage).next in
    subst (IsFork _) (sym c.next_of-next.ensures) (subst P (sym is.walk.sized.vars) here)
