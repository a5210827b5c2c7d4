use Rattle.std.proofs.Common.{◌≡◌, ◌-◌, ◌+◌, ℕ, sym, ap, subst, ◌∙◌, arith}
use Rattle.pdl_net.specs.Signal.{Signal}
use Rattle.pdl_net.specs.Meaning.{Means, signal}
use Rattle.pdl_net.proofs.Keeps.{extends_trans, means_kept}
use Rattle.pdl_squash.specs.Laws.{squash_signals, net_at}
use Rattle.pdl_squash.specs.Nets.{none_signal}
use Rattle.pdl_squash.proofs.Lists.{none_none, none_net, clear_set}
use Rattle.pdl_squash.proofs.emit_clear.Goals as goal

pub loop-n-init : goal.loop-n-init
loop-n-init c =
    let a = c.args.b.now in
    let b = c.constant.new.self in
    let d = c.constant-2.new.self in
    let m = c.in_ok-none.ensures.means in
    let f = squash_signals a c.args.p.now in
    record {
      extends = extends_trans a b d c.in_ok-zero.ensures.extends c.in_ok-none.ensures.extends;
      zero = means_kept b d _ _ c.in_ok-none.ensures.extends c.in_ok-zero.ensures.means;
      none = record { there = m.there; same = m.same ∙ sym (none_none f _) };
      one = ap (λ (g : Signal). g.width) m.same;
      clear =
          record {
            count = omega (arith, c.in_ok-clear.clear.ok.0, c.in_ok-clear.ensures.len);
            there = λ k lo hi. absurd (omega arith);
            same = λ k lo hi. absurd (omega arith);
          };
    }

pub loop-n-preserved : goal.loop-n-preserved
loop-n-preserved c =
    let a = c.args.b.now in
    let b = c.loop-n.b in
    let d = c.mux.new.self in
    let p = c.args.p.now in
    let f = squash_signals a p in
    let n = c.loop-n.n in
    let i = c.loop-n.invariant in
    let x = c.in_ok-none-2.none in
    let e = c.in_ok-none-2.ensures.extends in
    let valid : signal b c.net-valid.result ≡ f.valid (p.stage - n) =
    ap (signal b) c.net-valid.ensures
    ∙ i.extends.kept (net_at p.valid (p.stage - n)) (c.requires.valid.each (p.stage - n) (omega (arith, c.requires.stage))).there in
    let m = none_net b d f n c.net-valid.result c.in_ok-zero.zero c.loop-n.none x c.loop-n-test.true valid i.zero i.none c.in_ok-none-2.ensures.means in
    let j : p.stage - n ≡ p.stage - (n + 1) + 1 = omega arith in
    let P : ℕ → Type 0 = λ q. Means d x (none_signal f (n + 1) q) in
    record {
      extends = extends_trans a b d i.extends e;
      zero = means_kept b d _ _ e i.zero;
      none = subst P j m;
      one = ap (λ (g : Signal). g.width) c.in_ok-none-2.ensures.means.same ∙ ap (λ (g : Signal). g.width) i.zero.same;
      clear = clear_set b d f n c.loop-n.clear.items x c.loop-n-test.true i.clear e m;
    }
