use Rattle.std.proofs.Common.{◌∙◌, length, sym, ap, subst, arith}
use Rattle.pdl_net.specs.declared.Net.TheVariants.{Reg as RegNet}
use Rattle.pdl_net.specs.Signal.{Signal, reg_signal}
use Rattle.pdl_net.specs.Meaning.{signal}
use Rattle.pdl_net.proofs.Keeps.{extends_keeps, extends_trans}
use Rattle.pdl_pipe_tails.specs.Carried.{brought_tail, HaveTails}
use Rattle.pdl_pipe_tails.proofs.TailRegisters.{coming_keep, tails_keep, brought_keep, extends_new}
use Rattle.pdl_pipe_tails.proofs.carried.carried.Goals as goal

pub coming-requires-clause-arrivals : goal.coming-requires-clause-arrivals
coming-requires-clause-arrivals c =
    coming_keep c.args.b.now c.reg.new.self (length c.args.before.now) c.args.arrivals.now
    (extends_keeps c.args.b.now c.reg.new.self c.reg.ensures.extends) c.requires.arrivals

pub coming-requires-clause-before : goal.coming-requires-clause-before
coming-requires-clause-before c =
    let a = c.args.b.now in
    let b = c.reg.new.self in
    subst (λ w. HaveTails b c.args.mem w c.args.before.now)
    (sym (ap (λ (g : Signal). g.width) c.in_ok-r.ensures.has.same))
    (tails_keep a b c.args.mem c.args.width c.args.before.now (extends_keeps a b c.reg.ensures.extends) c.requires.before)

pub returns-clause-carried : goal.returns-clause-carried
returns-clause-carried c =
    let a = c.args.b.now in
    let b = c.reg.new.self in
    let f = c.coming.new.b in
    let d = c.next.new.self in
    let r = c.in_ok-r.r in
    let m = c.args.mem in
    let rows = c.args.before.now in
    let ys = c.args.arrivals.now in
    let new = c.in_ok-r.ensures.has in
    let place = c.in_ok-r.ensures.place in
    let there = c.coming.ensures.extends.there (RegNet r) new.there in
    let kept = c.next.ensures.extends.kept (RegNet r) there ∙ c.coming.ensures.extends.kept (RegNet r) new.there in
    let is = kept ∙ new.same in
    record {
      reg = r;
      above = (let n = place in omega (arith, n));
      has = c.next.ensures.extends.has_reg r (c.coming.ensures.extends.has_reg r new.has);
      same = is ∙ ap (λ w. reg_signal w r) (sym (ap (λ (g : Signal). g.width) is));
      takes = λ s. ap (λ (g : Signal). g.value s)
          (c.next.ensures.set
          ∙ c.in_ok-net.ensures.means.same
          ∙ brought_keep a b m c.args.width rows ys (signal b (RegNet r)) (extends_keeps a b c.reg.ensures.extends) c.requires.arrivals c.requires.before
          ∙ ap (brought_tail a rows m ys) (sym kept));
    }

pub returns-clause-extends : goal.returns-clause-extends
returns-clause-extends c =
    let a = c.args.b.now in
    let b = c.reg.new.self in
    let f = c.coming.new.b in
    let d = c.next.new.self in
    let r = c.in_ok-r.r in
    let place = c.in_ok-r.ensures.place in
    extends_new a f d r (omega (arith, place)) (extends_trans a b f c.reg.ensures.extends c.coming.ensures.extends) c.next.ensures.extends
