use Rattle.std.proofs.Common.{◌≡◌, List, subst}
use Rattle.std.proofs.lemmas.Result.{IfOk-weaker}
use Rattle.std.specs.Prelude.{IfOk}
use Rattle.pdl_form.specs.FormView.{form}
use Rattle.pdl_form.specs.View.{exprs_view}
use Rattle.pdl_form_types.specs.Stmts.{param_widths}
use Rattle.pdl_net.specs.Signal.{Signal}
use Rattle.pdl_pipe_exprs.specs.Nets.{signals_in}
use Rattle.pdl_pipe_exprs.specs.Values.{value_signals}
use Rattle.pdl_pipe_walk.proofs.WalkGrowth.{slice_there, slice_same, slice_all_typed, slice_all_wide}
use Rattle.pdl_pipe_walk.proofs.nets.WalkNets.values.Goals as goal

pub values-requires-clause-there : goal.values-requires-clause-there
values-requires-clause-there c =
    slice_there c.args.b.now (form c.args.pipe.now).pipe
    (form c.args.pipe.now).widths c.args.self.now c.requires.walk c.as_slice.result.now c.as_slice.ensures.value

pub values-requires-clause-typed : goal.values-requires-clause-typed
values-requires-clause-typed c =
    slice_all_typed c.args.b.now (form c.args.pipe.now).pipe
    (form c.args.pipe.now).widths c.args.self.now c.requires.walk c.as_slice.result.now c.as_slice.ensures.value
    (param_widths (form c.args.pipe.now))
    (exprs_view c.args.args.now) c.requires.typed

pub returns-clause-means : goal.returns-clause-means
returns-clause-means c =
    subst (λ (fs : List Signal). IfOk c.values.result (λ xs. signals_in c.values.new.b xs ≡ value_signals fs (exprs_view c.args.args.now)))
    (slice_same c.args.b.now (form c.args.pipe.now).pipe
    (form c.args.pipe.now).widths c.args.self.now c.requires.walk c.as_slice.result.now c.as_slice.ensures.value) c.values.ensures.means

pub returns-clause-wide : goal.returns-clause-wide
returns-clause-wide c =
    IfOk-weaker c.values.result _ _
    (λ xs m. slice_all_wide c.args.b.now (form c.args.pipe.now).pipe
    (form c.args.pipe.now).widths c.args.self.now c.requires.walk c.as_slice.result.now c.as_slice.ensures.value
    (param_widths (form c.args.pipe.now))
    (exprs_view c.args.args.now) (signals_in c.values.new.b xs) c.requires.typed m) c.values.ensures.means
