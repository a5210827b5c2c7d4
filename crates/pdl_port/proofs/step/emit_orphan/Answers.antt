use Rattle.std.proofs.Common.{◌∙◌, ap}
use Rattle.pdl_net.specs.Signal.{Signal}
use Rattle.pdl_net.specs.Growth.{Extends}
use Rattle.pdl_net.proofs.Keeps.{extends_trans, means_kept}
use Rattle.pdl_port.proofs.Steps.{orphan_net}
use Rattle.pdl_port.proofs.step.emit_orphan.Goals as goal

pub loop-k-preserved : goal.loop-k-preserved
loop-k-preserved c =
    let a = c.args.b.now in
    let b = c.loop-k.b in
    let m = c.mux-in-loop-k.new.self in
    let n = c.mux-in-loop-k-2.new.self in
    let d = c.mux-in-loop-k-3.new.self in
    let i = c.loop-k.invariant in
    let y = c.in_ok-open.ensures.extends in
    let z = c.in_ok-left.ensures.extends in
    let w = c.in_ok-orphan-2.ensures.extends in
    let x : Extends b d = extends_trans b m d y (extends_trans m n d z w) in
    let left = c.in_ok-left.ensures.means in
    let one = means_kept b m _ _ y i.one in
    record {
      extends = extends_trans a b d i.extends x;
      one = means_kept b d _ _ x i.one;
      zero = means_kept b d _ _ x i.zero;
      orphan =
          orphan_net a b m n d c.args.l c.args.r.now c.args.p.now c.loop-k.k _ _ c.loop-k.orphan _ _ c.net.result _ c.requires.places c.requires.nets c.loop-k-test.true i.extends y z i.one i.zero i.orphan c.net.ensures c.in_ok-open.ensures.means left c.in_ok-orphan-2.ensures.means;
      wide = ap (λ (g : Signal). g.width) c.in_ok-orphan-2.ensures.means.same ∙ ap (λ (g : Signal). g.width) left.same ∙ ap (λ (g : Signal). g.width) one.same;
    }
