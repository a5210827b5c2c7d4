use Rattle.std.proofs.Common.{◌∙◌, ap, ap₂}
use Rattle.pdl_form.specs.FormView.{form}
use Rattle.pdl_semantics.specs.Stages.{stage_at}
use Rattle.pdl_semantics.specs.Updates.{squash_stages}
use Rattle.pdl_net.proofs.Keeps.{extends_keeps, extends_trans}
use Rattle.pdl_law_parts.specs.Walk.{both}
use Rattle.pdl_law_parts.specs.Views.{View}
use Rattle.pdl_law_sides.specs.Sides.{into_second, emptied_by}
use Rattle.pdl_pipe_beside.proofs.EndGrowth.{ends_kept}
use Rattle.pdl_pipe_beside.proofs.OrderSteps.{move_same, view_same, leaves_same, ports_same, squashes_keep, squashes_same}
use Rattle.pdl_pipe_beside.proofs.order_round.order_ports.Goals as goal

pub enters-requires-clause-ends : goal.enters-requires-clause-ends
enters-requires-clause-ends c =
    ends_kept (form c.args.round.now.pipe.now) c.args.round.now.ends.now c.args.b.now c.into_first.new.b c.requires.ends c.in_ok-first.ensures.extends

pub into_second-requires-clause-ends : goal.into_second-requires-clause-ends
into_second-requires-clause-ends c =
    let a = c.args.b.now in
    let e = extends_trans a c.into_first.new.b c.enters.new.b c.in_ok-first.ensures.extends c.in_ok-entered_first.ensures.extends in
    ends_kept (form c.args.round.now.pipe.now) c.args.round.now.ends.now a c.enters.new.b c.requires.ends e

pub enters-requires-2-clause-ends : goal.enters-requires-2-clause-ends
enters-requires-2-clause-ends c =
    let a = c.args.b.now in
    let e = extends_trans a c.into_first.new.b c.enters.new.b c.in_ok-first.ensures.extends c.in_ok-entered_first.ensures.extends in
    let g = extends_trans a c.enters.new.b c.into_second.new.b e c.in_ok-second.ensures.extends in
    ends_kept (form c.args.round.now.pipe.now) c.args.round.now.ends.now a c.into_second.new.b c.requires.ends g

pub leaves_fork-requires-clause-ends : goal.leaves_fork-requires-clause-ends
leaves_fork-requires-clause-ends c =
    let a = c.args.b.now in
    let e = extends_trans a c.into_first.new.b c.enters.new.b c.in_ok-first.ensures.extends c.in_ok-entered_first.ensures.extends in
    let g = extends_trans a c.enters.new.b c.into_second.new.b e c.in_ok-second.ensures.extends in
    let h = extends_trans a c.into_second.new.b c.enters-2.new.b g c.in_ok-entered_second.ensures.extends in
    ends_kept (form c.args.round.now.pipe.now) c.args.round.now.ends.now a c.enters-2.new.b c.requires.ends h

pub emptied-requires-clause-squashes : goal.emptied-requires-clause-squashes
emptied-requires-clause-squashes c =
    let a = c.args.b.now in
    let b1 = c.into_first.new.b in
    let b2 = c.enters.new.b in
    let b3 = c.into_second.new.b in
    let b4 = c.enters-2.new.b in
    let d = c.leaves_fork.new.b in
    let to2 = extends_trans a b1 b2 c.in_ok-first.ensures.extends c.in_ok-entered_first.ensures.extends in
    let to3 = extends_trans a b2 b3 to2 c.in_ok-second.ensures.extends in
    let to4 = extends_trans a b3 b4 to3 c.in_ok-entered_second.ensures.extends in
    squashes_keep a d c.args.squashes (extends_keeps a d (extends_trans a b4 d to4 c.in_ok-left.ensures.extends)) c.requires.squashes

pub returns-clause-same : goal.returns-clause-same
returns-clause-same c =
    let f = form c.args.round.now.pipe.now in
    let p = f.pipe in
    let es = c.args.round.now.ends.now in
    let k = c.args.fork in
    let n = (stage_at p k).next in
    let a = c.args.b.now in
    let b1 = c.into_first.new.b in
    let b2 = c.enters.new.b in
    let b3 = c.into_second.new.b in
    let b4 = c.enters-2.new.b in
    let b5 = c.leaves_fork.new.b in
    let d = c.emptied.new.b in
    let first = c.in_ok-first.ensures in
    let in_first = c.in_ok-entered_first.ensures in
    let second = c.in_ok-second.ensures in
    let in_second = c.in_ok-entered_second.ensures in
    let left = c.in_ok-left.ensures in
    let last = c.in_ok-emptied.ensures in
    let to2 = extends_trans a b1 b2 first.extends in_first.extends in
    let to3 = extends_trans a b2 b3 to2 second.extends in
    let to4 = extends_trans a b3 b4 to3 in_second.extends in
    let to5 = extends_trans a b4 b5 to4 left.extends in
    let rest4 = extends_trans b4 b5 d left.extends last.extends in
    let rest2 = extends_trans b2 b3 d second.extends (extends_trans b3 b4 d in_second.extends rest4) in
    ports_same a d p es c.args.squashes k
    (record {
      entered_first = c.in_ok-entered_first.entered_first;
      entered_second = c.in_ok-entered_second.entered_second;
      left = c.in_ok-left.left;
      emptied = c.in_ok-emptied.emptied;
    })
    (rest2.kept c.in_ok-entered_first.entered_first in_first.means.there ∙ in_first.means.same
    ∙ ap₂ both (move_same a b1 f es k (extends_keeps a b1 first.extends) c.requires.ends) first.means.same)
    (rest4.kept c.in_ok-entered_second.entered_second in_second.means.there ∙ in_second.means.same
    ∙ ap₂ both (move_same a b3 f es k (extends_keeps a b3 to3) c.requires.ends)
    (second.means.same ∙ ap (λ (v : View). into_second p k n v.ended) (view_same a b2 f es k (extends_keeps a b2 to2) c.requires.ends)))
    (last.extends.kept c.in_ok-left.left left.means.there ∙ left.means.same ∙ leaves_same a b4 f es k (extends_keeps a b4 to4) c.requires.ends)
    (last.means.same
    ∙ ap (emptied_by p k (squash_stages p.stmts)) (squashes_same a b5 p c.args.squashes (extends_keeps a b5 to5) c.requires.squashes))
