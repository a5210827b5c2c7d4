use Rattle.std.proofs.Common.{List, subst}
use Rattle.std.proofs.lemmas.Result.{IfOk-weaker}
use Rattle.std.specs.Prelude.{IfOk}
use Rattle.pdl_form.specs.FormView.{form}
use Rattle.pdl_form.specs.View.{expr_view}
use Rattle.pdl_net.specs.Signal.{Signal}
use Rattle.pdl_net.specs.Meaning.{Means}
use Rattle.pdl_pipe_exprs.specs.Values.{value_signal}
use Rattle.pdl_pipe_walk.proofs.WalkGrowth.{slice_there, slice_same, slice_typed, slice_wide}
use Rattle.pdl_pipe_walk.proofs.nets.WalkNets.value.Goals as goal

pub value-requires-clause-there : goal.value-requires-clause-there
value-requires-clause-there c =
    slice_there c.args.b.now (form c.args.pipe.now).pipe
    (form c.args.pipe.now).widths c.args.self.now c.requires.walk c.as_slice.result.now c.as_slice.ensures.value

pub value-requires-clause-typed : goal.value-requires-clause-typed
value-requires-clause-typed c =
    slice_typed c.args.b.now (form c.args.pipe.now).pipe
    (form c.args.pipe.now).widths c.args.self.now c.requires.walk c.as_slice.result.now c.as_slice.ensures.value
    (expr_view c.args.e.now) c.requires.typed

pub returns-clause-means : goal.returns-clause-means
returns-clause-means c =
    subst (λ (fs : List Signal). IfOk c.value.result (λ x. Means c.value.new.b x (value_signal fs (expr_view c.args.e.now))))
    (slice_same c.args.b.now (form c.args.pipe.now).pipe
    (form c.args.pipe.now).widths c.args.self.now c.requires.walk c.as_slice.result.now c.as_slice.ensures.value) c.value.ensures.means

pub returns-clause-wide : goal.returns-clause-wide
returns-clause-wide c =
    IfOk-weaker c.value.result _ _
    (λ x m. slice_wide c.args.b.now (form c.args.pipe.now).pipe
    (form c.args.pipe.now).widths c.args.self.now c.requires.walk c.as_slice.result.now c.as_slice.ensures.value c.value.new.b
    (expr_view c.args.e.now) x c.requires.typed m) c.value.ensures.means
