use Rattle.std.proofs.Common.{◌∙◌, arith, inl, inr, ⊎_elim}
use Rattle.pdl_net.proofs.Keeps.{but_keeps, but_extends, but_trans}
use Rattle.pdl_build.specs.Change.{one_reg}
use Rattle.pdl_port.specs.Places.{owns_at}
use Rattle.pdl_port.specs.Nets.{own_places}
use Rattle.pdl_port.proofs.PortGrowth.{places_kept_but, but_wider}
use Rattle.pdl_port.proofs.Steps.{same_step, owns_same, places_next}
use Rattle.pdl_port.proofs.step.emit_places.Goals as goal

pub loop-k-preserved : goal.loop-k-preserved
loop-k-preserved c =
    let a = c.args.b.now in
    let b = c.loop-k.b in
    let m = c.emit_owner.new.b in
    let d = c.next.new.self in
    let l = c.args.l in
    let k = c.loop-k.k in
    let n = l.places in
    let i = c.loop-k.invariant in
    let x = c.in_ok-owns.ensures in
    let e = c.next.ensures in
    let s = same_step a b n c.args.r.now c.args.p.now c.requires.nets (but_keeps (own_places l) a b i.extends) in
    let h = c.loop-k-test.true in
    record {
      extends = but_trans (own_places l) a m d (but_trans (own_places l) a b m i.extends (but_extends (own_places l) b m x.extends))
          (but_wider (one_reg (owns_at l k))
          (own_places l) m d (λ r u. ⊎_elim (λ v. inl (omega arith)) (λ v. inr (omega arith)) u)
          (λ q u. inr (omega arith)) e.extends);
      next =
          places_next b m d l n _ k h
          (places_kept_but (own_places l) a b l n c.requires.places i.extends) i.next x.extends e.extends
          (e.set ∙ x.means.same ∙ owns_same l n _ _ k s h);
    }
