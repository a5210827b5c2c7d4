use Rattle.std.proofs.Common.{◌∙◌, arith, inl, inr, ⊎_elim}
use Rattle.pdl_net.proofs.Keeps.{extends_keeps, but_keeps, but_extends, but_trans, keeps_trans}
use Rattle.pdl_build.specs.Change.{one_reg}
use Rattle.pdl_port.specs.Nets.{own_all, own_places}
use Rattle.pdl_port.proofs.PortGrowth.{but_wider}
use Rattle.pdl_port.proofs.Steps.{same_step, places_same}
use Rattle.pdl_port.proofs.step.emit_all.Goals as goal

pub returns : goal.returns
returns c =
    let a = c.args.b.now in
    let b = c.emit_orphan.new.b in
    let m = c.next.new.self in
    let d = c.emit_places.new.b in
    let l = c.args.l in
    let x = c.in_ok-orphan.ensures.extends in
    let y = c.next.ensures.extends in
    let z = c.in_ok-emit_places.ensures.extends in
    let k = keeps_trans a b m (extends_keeps a b x) (but_keeps (one_reg l.from) b m y) in
    let s = same_step a m l.places c.args.r.now c.args.p.now c.requires.nets k in
    let there = k.has_reg l.from c.requires.places.has_orphan in
    record {
      next = record {
        places = places_same d l l.places _ _ s c.in_ok-emit_places.ensures.next;
        orphan = z.nexts l.from there (inl (omega arith)) ∙ c.next.ensures.set ∙ c.in_ok-orphan.ensures.means.same;
      };
      extends = but_trans (own_all l) a m d
          (but_trans (own_all l) a b m (but_extends (own_all l) a b x)
          (but_wider (one_reg l.from) (own_all l) b m (λ r u. ⊎_elim (λ v. inl v) (λ v. inr (omega arith)) u) (λ q u. inr (omega arith)) y))
          (but_wider (own_places l) (own_all l) m d (λ r u. ⊎_elim (λ v. inl (omega arith)) (λ v. inr (omega arith)) u) (λ q u. inr (omega arith)) z);
    }
