use Rattle.std.proofs.Common.{◌∙◌, ap, ap₂}
use Rattle.pdl_form.specs.FormView.{form}
use Rattle.pdl_semantics.specs.Cycle.{merges_by}
use Rattle.pdl_net.specs.Meaning.{signal}
use Rattle.pdl_pipe_beside.specs.Squashed.{either}
use Rattle.pdl_pipe_beside.proofs.SquashFolds.{emptied_is}
use Rattle.pdl_pipe_beside.proofs.order_round.emptied.Goals as goal

pub returns-clause-means : goal.returns-clause-means
returns-clause-means c =
    let p = (form c.args.round.now.pipe.now).pipe in
    let k = c.args.fork in
    let x = signal c.args.b.now c.args.squashes.verify in
    let y = signal c.args.b.now c.args.squashes.update in
    let m = c.in_ok-net.ensures.means in
    record {
      there = m.there;
      same = m.same
          ∙ ap₂ (λ i j. either i j x y) (c.is_emptied-verify.ensures ∙ ap (merges_by p k) c.verify_stage.ensures)
          (c.is_emptied-update.ensures ∙ ap (merges_by p k) c.update_stage.ensures)
          ∙ emptied_is p k x y;
    }
