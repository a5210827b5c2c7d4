use Rattle.std.proofs.Common.{◌≡◌, sym, ap, ap₂, ◌∙◌}
use Rattle.pdl_form.specs.FormView.{form}
use Rattle.pdl_net.specs.Signal.{Signal}
use Rattle.pdl_net.specs.Meaning.{signal}
use Rattle.pdl_law_parts.specs.Walk.{one, is_on}
use Rattle.pdl_law_sides.specs.Sides.{unsquashed}
use Rattle.pdl_semantics.specs.Updates.{update_stage, squash_stages}
use Rattle.pdl_pipe_beside.specs.Squashed.{squashes_in}
use Rattle.pdl_pipe_moves.specs.Gates.{kept_by}
use Rattle.pdl_pipe_moves.proofs.SquashedGates.{unsquashed_two}
use Rattle.pdl_pipe_moves.proofs.gates.unsquashed.Goals as goal

pub returns-clause-on : goal.returns-clause-on
returns-clause-on c =
    let p = (form c.args.pipe.now).pipe in
    let k = c.args.k in
    let a = c.args.b.now in
    let y = c.args.squashes in
    let first = c.unsquashed_by.ensures.extends in
    let rest = c.in_ok-rest.ensures.means in
    let net = c.in_ok-net.ensures in
    let rest_is = rest.same ∙ ap₂ (λ o f. kept_by o k (signal a y.update) f) c.update_stage.ensures c.requires.bits.one.same in
    let is : signal c.unsquashed_by-2.new.b c.in_ok-net.net ≡ unsquashed (squash_stages p.stmts) k (squashes_in a p y) =
    net.means.same
    ∙ ap₂ (λ (f g : Signal). kept_by c.verify_stage.result k f g) (first.kept y.verify c.requires.squashes.verify.there) rest_is
    ∙ ap (λ o. kept_by o k (signal a y.verify) (kept_by (update_stage p.stmts) k (signal a y.update) one)) c.verify_stage.ensures
    ∙ sym (unsquashed_two p.stmts k (signal a y.verify) (signal a y.update)) in
    record { bit = net.bit; on = λ s. ap (λ (f : Signal). is_on f s) is }
