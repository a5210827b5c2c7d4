use Rattle.std.proofs.Common.{List, subst}
use Rattle.pdl_form.specs.FormView.{form}
use Rattle.pdl_net.specs.Signal.{Signal}
use Rattle.pdl_net.specs.Meaning.{Means}
use Rattle.pdl_pipe_exprs.specs.Nets.{signal_at}
use Rattle.pdl_pipe_walk.proofs.WalkGrowth.{slice_there, slice_same, slice_low}
use Rattle.pdl_pipe_walk.proofs.nets.WalkNets.variable.Goals as goal

pub variable-requires-clause-there : goal.variable-requires-clause-there
variable-requires-clause-there c =
    slice_there c.args.b.now (form c.args.pipe.now).pipe
    (form c.args.pipe.now).widths c.args.self.now c.requires.walk c.as_slice.result.now c.as_slice.ensures.value

pub variable-requires-clause-low : goal.variable-requires-clause-low
variable-requires-clause-low c =
    slice_low c.args.b.now (form c.args.pipe.now).pipe
    (form c.args.pipe.now).widths c.args.self.now c.requires.walk c.as_slice.result.now c.as_slice.ensures.value c.args.x c.requires.low

pub returns : goal.returns
returns c =
    subst (λ (fs : List Signal). Means c.args.b.now c.variable.result (signal_at fs c.args.x))
    (slice_same c.args.b.now (form c.args.pipe.now).pipe
    (form c.args.pipe.now).widths c.args.self.now c.requires.walk c.as_slice.result.now c.as_slice.ensures.value) c.variable.ensures
