use Rattle.std.proofs.Common.{◌≡◌, ◌+◌, ◌-◌, length, get_or, refl, sym, ap, ◌∙◌, subst, arith}
use Rattle.pdl_form.specs.FormView.{form}
use Rattle.pdl_net.specs.Signal.{Signal}
use Rattle.pdl_net.specs.Meaning.{signal}
use Rattle.pdl_net.proofs.Keeps.{extends_trans, extends_keeps}
use Rattle.pdl_pipe_nexts.specs.Brings.{IsBirth}
use Rattle.pdl_pipe_registers.proofs.Lists.{each_at}
use Rattle.pdl_pipe_nexts.proofs.BirthsMade.{birth_keep, call_made}
use Rattle.pdl_pipe_nexts.proofs.births.picked_of.Goals as goal

pub brought-value-requires-clause-birth : goal.brought-value-requires-clause-birth
brought-value-requires-clause-birth c =
    let a = c.args.b.now in
    let b = c.loop-i.b in
    let d = c.both.new.b in
    let f = form c.args.pipe.now in
    let t = c.loop-i-test.true in
    let x = c.index-births-births.result in
    birth_keep a d f x (extends_keeps a d (extends_trans a b d c.loop-i.invariant.extends c.both.ensures.extends))
    (each_at (IsBirth a f) c.args.births.now (length c.args.births.now - 1 - c.loop-i.i) x (omega (arith, t)) (sym c.index-births-births.is) c.requires.births)

pub loop-i-preserved : goal.loop-i-preserved
loop-i-preserved c =
    let a = c.args.b.now in
    let b = c.loop-i.b in
    let e = c.both.new.b in
    let d = c.mux.new.self in
    let f = form c.args.pipe.now in
    let t = c.loop-i-test.true in
    let x = c.index-births-births.result in
    let xs = c.args.births.now in
    let k = length xs - (c.loop-i.i + 1) in
    let same : length xs - 1 - c.loop-i.i ≡ k = omega (arith, t) in
    let is : x ≡ get_or xs k x = subst (λ n. x ≡ get_or xs n x) same c.index-births-births.is in
    let birth = each_at (IsBirth a f) xs k x (omega (arith, t)) (sym is) c.requires.births in
    let more = extends_trans a b e c.loop-i.invariant.extends c.both.ensures.extends in
    record {
      means =
          call_made f.pipe a b e d
          (signal a c.args.moves) c.args.moves c.in_ok-comes.comes c.brought-value.result c.loop-i.net c.in_ok-net.net c.args.what xs k
          (length xs - c.loop-i.i) x (signal a c.args.rest)
          c.requires.what (omega (arith, t))
          (omega (arith, t)) is
          (extends_keeps a b c.loop-i.invariant.extends) c.both.ensures.extends c.mux.ensures.extends c.requires.moves.there refl birth.on.there birth.args c.loop-i.invariant.means.there
          c.in_ok-comes.ensures.means c.brought-value.ensures.means c.in_ok-net.ensures.means c.loop-i.invariant.means.same;
      wide = ap (λ (g : Signal). g.width) c.in_ok-net.ensures.means.same ∙ c.brought-value.ensures.wide ∙ sym c.requires.rest.width;
      extends = extends_trans a e d more c.mux.ensures.extends;
      regs = c.mux.ensures.regs ∙ c.both.ensures.regs ∙ c.loop-i.invariant.regs;
    }
