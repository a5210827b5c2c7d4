use Rattle.std.proofs.Common.{List, subst}
use Rattle.std.specs.Prelude.{IfOk}
use Rattle.pdl_form.specs.FormView.{form}
use Rattle.pdl_form.specs.View.{guards_view}
use Rattle.pdl_net.specs.Signal.{Signal}
use Rattle.pdl_net.specs.Meaning.{Means}
use Rattle.pdl_pipe_exprs.specs.Conditions.{taken_signal}
use Rattle.pdl_pipe_walk.proofs.WalkGrowth.{slice_there, slice_same, slice_guards}
use Rattle.pdl_pipe_walk.proofs.nets.WalkNets.all_taken.Goals as goal

pub all_taken-requires-clause-there : goal.all_taken-requires-clause-there
all_taken-requires-clause-there c =
    slice_there c.args.b.now (form c.args.pipe.now).pipe
    (form c.args.pipe.now).widths c.args.self.now c.requires.walk c.as_slice.result.now c.as_slice.ensures.value

pub all_taken-requires-clause-guards : goal.all_taken-requires-clause-guards
all_taken-requires-clause-guards c =
    slice_guards c.args.b.now (form c.args.pipe.now).pipe
    (form c.args.pipe.now).widths c.args.self.now c.requires.walk c.as_slice.result.now c.as_slice.ensures.value
    (guards_view c.args.guards.now) c.requires.guards

pub returns-clause-means : goal.returns-clause-means
returns-clause-means c =
    subst (λ (fs : List Signal). IfOk c.all_taken.result (λ x. Means c.all_taken.new.b x (taken_signal fs (guards_view c.args.guards.now))))
    (slice_same c.args.b.now (form c.args.pipe.now).pipe
    (form c.args.pipe.now).widths c.args.self.now c.requires.walk c.as_slice.result.now c.as_slice.ensures.value) c.all_taken.ensures.means
