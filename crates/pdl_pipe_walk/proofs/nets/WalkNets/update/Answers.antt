use Rattle.std.proofs.Common.{◌∙◌, sym, ap, ap₂, subst}
use Rattle.pdl_net.proofs.Keeps.{extends_refl, extends_keeps}
use Rattle.pdl_form.specs.FormView.{form}
use Rattle.pdl_form.specs.View.{guards_view, exprs_view}
use Rattle.pdl_pipe_exprs.specs.Nets.{signals_in}
use Rattle.pdl_pipe_exprs.specs.Conditions.{taken_signal}
use Rattle.pdl_pipe_exprs.specs.Values.{value_signals}
use Rattle.pdl_pipe_exprs.proofs.NetLists.{nets_there, nets_kept}
use Rattle.pdl_pipe_walk.specs.Parts.{Parts, parts_in}
use Rattle.pdl_pipe_walk.specs.Sized.{IsWalk}
use Rattle.pdl_pipe_walk.specs.Steps.{with_verify}
use Rattle.pdl_pipe_walk.proofs.WalkGrowth.{walk_more, parts_more}
use Rattle.pdl_pipe_walk.proofs.Updates.{guess_parts}
use Rattle.pdl_pipe_walk.proofs.ChangedNets.{guess_walk}
use Rattle.pdl_pipe_walk.proofs.nets.WalkNets.update.Goals as goal

pub verify-requires-clause-walk : goal.verify-requires-clause-walk
verify-requires-clause-walk c =
    walk_more c.args.b.now c.replaced.new.b c.replaced.ensures.extends (form c.args.pipe.now).pipe
    (form c.args.pipe.now).widths c.args.self.now c.requires.walk

pub returns-clause-walk : goal.returns-clause-walk
returns-clause-walk c =
    let b1 = c.replaced.new.b in
    let b2 = c.verify.new.b in
    let e = c.verify.ensures.extends in
    let ns = c.in_ok-guess.guess in
    let there = c.in_ok-guess.ensures.there in
    subst (IsWalk b2 (form c.args.pipe.now).pipe (form c.args.pipe.now).widths) (sym c.put_guess.ensures)
    (guess_walk b2 b2 (extends_refl b2) (form c.args.pipe.now).pipe
    (form c.args.pipe.now).widths c.verify.new.self c.in_ok-verify.ensures.walk ns (signals_in b1 ns) (nets_there b1 b2 ns e there)
    (nets_kept b1 b2 ns e there) c.in_ok-guess.ensures.wide)

pub returns-clause-parts : goal.returns-clause-parts
returns-clause-parts c =
    let a = c.args.b.now in
    let b1 = c.replaced.new.b in
    let b2 = c.verify.new.b in
    let e = c.verify.ensures.extends in
    let ns = c.in_ok-guess.guess in
    let gs = guards_view c.args.guards.now in
    let es = exprs_view c.args.args.now in
    ap (parts_in b2) c.put_guess.ensures
    ∙ guess_parts b2 b2 (extends_keeps b2 b2 (extends_refl b2)) c.verify.new.self c.in_ok-verify.ensures.walk.there ns (signals_in b1 ns)
    (nets_kept b1 b2 ns e c.in_ok-guess.ensures.there)
    ∙ ap₂ (λ (q : Parts) fs. record q { guess = fs })
    (c.in_ok-verify.ensures.parts
    ∙ ap (λ (q : Parts). with_verify (taken_signal q.vars gs) (value_signals q.vars es) q)
    (parts_more a b1 c.replaced.ensures.extends (form c.args.pipe.now).pipe (form c.args.pipe.now).widths c.args.self.now c.requires.walk))
    c.in_ok-guess.ensures.means
