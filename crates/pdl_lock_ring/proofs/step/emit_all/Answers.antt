use Rattle.std.proofs.Common.{◌≡◌, ap, refl, sym, subst, inl, inr, arith}
use Rattle.pdl_net.specs.Growth.{Extends, Keeps}
use Rattle.pdl_net.proofs.Keeps.{keeps_trans, extends_keeps, extends_trans, but_keeps, but_trans}
use Rattle.pdl_lockapi.specs.Laws.{step_signals, StepSignals}
use Rattle.pdl_lockapi.proofs.LockGrowth.{same_signals}
use Rattle.pdl_lock_ring.specs.Oldest.{AreOldest, AreCommits}
use Rattle.pdl_lock_ring.specs.Steps.{oldest_addr, oldest_value, next_addr, next_value, NextAddrs, NextBits, NextContents, NextEnds, WritesArray, own_slots, own_contents, own_ends, own_array, own_all}
use Rattle.pdl_lock_ring.proofs.RingGrowth.{ports_kept, ports_kept_but, ready_kept, ready_kept_but, oldest_later}
use Rattle.pdl_lock_ring.proofs.StepCalls.{slots_in_all, ends_in_all, no_ports_kept, no_ports_extended, array_in_all, addrs_kept, bits_kept, contents_kept, ends_kept, commits_keep, same_two}
use Rattle.pdl_lock_ring.proofs.step.emit_all.Goals as goal

pub emit_commits-requires-clause-given : goal.emit_commits-requires-clause-given
emit_commits-requires-clause-given c =
    let x = extends_trans c.args.b.now c.emit_taken.new.b c.emit_oldest.new.b c.in_ok-taken.ensures.extends c.in_ok-oldest.ensures.extends in
    ports_kept c.args.b.now c.emit_oldest.new.b c.args.l c.args.p.now c.requires.given x

pub emit_commits-requires-clause-oldest : goal.emit_commits-requires-clause-oldest
emit_commits-requires-clause-oldest c =
    let b1 = c.emit_taken.new.b in
    let b2 = c.emit_oldest.new.b in
    let p = c.args.p.now in
    let h = ports_kept c.args.b.now b1 c.args.l p c.requires.given c.in_ok-taken.ensures.extends in
    let s : step_signals b2 p ≡ step_signals b1 p = same_signals b1 b2 p h.ports (extends_keeps b1 b2 c.in_ok-oldest.ensures.extends) in
    subst (λ g. AreOldest b2 c.args.l g c.in_ok-oldest.oldest) (sym s) c.in_ok-oldest.ensures.oldest

pub emit_slots-requires : goal.emit_slots-requires
emit_slots-requires c =
    let b1 = c.emit_taken.new.b in
    let b2 = c.emit_oldest.new.b in
    let b3 = c.emit_commits.new.b in
    record {
      ready = ready_kept b1 b3 c.args.l c.args.p.now c.in_ok-taken.taken c.in_ok-taken.ensures.ready
          (extends_trans b1 b2 b3 c.in_ok-oldest.ensures.extends c.in_ok-nets.ensures.extends);
    }

-- the circuits after the first three calls
pub emit_contents-requires : goal.emit_contents-requires
emit_contents-requires c =
    let a = c.args.b.now in
    let b1 = c.emit_taken.new.b in
    let b2 = c.emit_oldest.new.b in
    let b3 = c.emit_commits.new.b in
    let b4 = c.emit_slots.new.b in
    let l = c.args.l in
    let p = c.args.p.now in
    let x : Extends a b3 =
    extends_trans a b1 b3 c.in_ok-taken.ensures.extends (extends_trans b1 b2 b3 c.in_ok-oldest.ensures.extends c.in_ok-nets.ensures.extends) in
    record { given = ports_kept_but (own_slots l) b3 b4 l p (ports_kept a b3 l p c.requires.given x) c.in_ok-emit_slots.ensures.extends }

pub emit_ends-requires : goal.emit_ends-requires
emit_ends-requires c =
    let b1 = c.emit_taken.new.b in
    let b2 = c.emit_oldest.new.b in
    let b3 = c.emit_commits.new.b in
    let b4 = c.emit_slots.new.b in
    let b5 = c.emit_contents.new.b in
    let l = c.args.l in
    let p = c.args.p.now in
    let t = c.in_ok-taken.taken in
    let r3 = ready_kept b1 b3 l p t c.in_ok-taken.ensures.ready (extends_trans b1 b2 b3 c.in_ok-oldest.ensures.extends c.in_ok-nets.ensures.extends) in
    record {
      ready = ready_kept_but (own_contents l) b4 b5 l p t
          (ready_kept_but (own_slots l) b3 b4 l p t r3 c.in_ok-emit_slots.ensures.extends) c.in_ok-emit_contents.ensures.extends;
    }

pub emit_writes-requires : goal.emit_writes-requires
emit_writes-requires c =
    let a = c.args.b.now in
    let b1 = c.emit_taken.new.b in
    let b2 = c.emit_oldest.new.b in
    let b3 = c.emit_commits.new.b in
    let b4 = c.emit_slots.new.b in
    let b5 = c.emit_contents.new.b in
    let b6 = c.emit_ends.new.b in
    let l = c.args.l in
    let p = c.args.p.now in
    let x : Extends a b3 =
    extends_trans a b1 b3 c.in_ok-taken.ensures.extends (extends_trans b1 b2 b3 c.in_ok-oldest.ensures.extends c.in_ok-nets.ensures.extends) in
    let y4 = c.in_ok-emit_slots.ensures.extends in
    let y5 = c.in_ok-emit_contents.ensures.extends in
    let y6 = c.in_ok-emit_ends.ensures.extends in
    let h3 = ports_kept a b3 l p c.requires.given x in
    let h4 = ports_kept_but (own_slots l) b3 b4 l p h3 y4 in
    let h5 = ports_kept_but (own_contents l) b4 b5 l p h4 y5 in
    let h6 = ports_kept_but (own_ends l) b5 b6 l p h5 y6 in
    let k26 : Keeps b2 b6 =
    keeps_trans b2 b3 b6 (extends_keeps b2 b3 c.in_ok-nets.ensures.extends)
    (keeps_trans b3 b4 b6 (but_keeps (own_slots l) b3 b4 y4)
    (keeps_trans b4 b5 b6 (but_keeps (own_contents l) b4 b5 y5) (but_keeps (own_ends l) b5 b6 y6))) in
    let h1 = ports_kept a b1 l p c.requires.given c.in_ok-taken.ensures.extends in
    let k16 : Keeps b1 b6 = keeps_trans b1 b2 b6 (extends_keeps b1 b2 c.in_ok-oldest.ensures.extends) k26 in
    let s : step_signals b6 p ≡ step_signals b1 p = same_signals b1 b6 p h1.ports k16 in
    record {
      given = h6;
      same = c.requires.same;
      empty =
          no_ports_kept (own_ends l) b5 b6 l.array refl h5.slots.has_array
          (no_ports_kept (own_contents l) b4 b5 l.array refl h4.slots.has_array
          (no_ports_kept (own_slots l) b3 b4 l.array refl h3.slots.has_array
          (no_ports_extended a b3 l.array c.requires.given.slots.has_array c.requires.empty x) y4) y5) y6;
      oldest = oldest_later b2 b6 l (step_signals b1 p) (step_signals b6 p) c.in_ok-oldest.oldest (sym s) k26 c.in_ok-oldest.ensures.oldest;
    }

pub returns : goal.returns
returns c =
    let a = c.args.b.now in
    let b1 = c.emit_taken.new.b in
    let b2 = c.emit_oldest.new.b in
    let b3 = c.emit_commits.new.b in
    let b4 = c.emit_slots.new.b in
    let b5 = c.emit_contents.new.b in
    let b6 = c.emit_ends.new.b in
    let b7 = c.emit_writes.new.b in
    let l = c.args.l in
    let p = c.args.p.now in
    let f = step_signals a p in
    let x1 = c.in_ok-taken.ensures.extends in
    let x2 = c.in_ok-oldest.ensures.extends in
    let x3 = c.in_ok-nets.ensures.extends in
    let x12 : Extends a b2 = extends_trans a b1 b2 x1 x2 in
    let x : Extends a b3 = extends_trans a b2 b3 x12 x3 in
    let y4 = c.in_ok-emit_slots.ensures.extends in
    let y5 = c.in_ok-emit_contents.ensures.extends in
    let y6 = c.in_ok-emit_ends.ensures.extends in
    let y7 = c.in_ok-emit_writes.ensures.extends in
    let h3 = ports_kept a b3 l p c.requires.given x in
    let h4 = ports_kept_but (own_slots l) b3 b4 l p h3 y4 in
    let h5 = ports_kept_but (own_contents l) b4 b5 l p h4 y5 in
    let h6 = ports_kept_but (own_ends l) b5 b6 l p h5 y6 in
    let k2 : Keeps a b2 = extends_keeps a b2 x12 in
    let k3 : Keeps a b3 = extends_keeps a b3 x in
    let k4 : Keeps a b4 = keeps_trans a b3 b4 k3 (but_keeps (own_slots l) b3 b4 y4) in
    let k5 : Keeps a b5 = keeps_trans a b4 b5 k4 (but_keeps (own_contents l) b4 b5 y5) in
    let k6 : Keeps a b6 = keeps_trans a b5 b6 k5 (but_keeps (own_ends l) b5 b6 y6) in
    let k37 : Keeps b3 b7 =
    keeps_trans b3 b4 b7 (but_keeps (own_slots l) b3 b4 y4)
    (keeps_trans b4 b5 b7 (but_keeps (own_contents l) b4 b5 y5)
    (keeps_trans b5 b6 b7 (but_keeps (own_ends l) b5 b6 y6) (but_keeps (own_array l) b6 b7 y7))) in
    let s1 : step_signals b1 p ≡ f = same_signals a b1 p c.requires.given.ports (extends_keeps a b1 x1) in
    let s2 : step_signals b2 p ≡ f = same_signals a b2 p c.requires.given.ports k2 in
    let s3 : step_signals b3 p ≡ f = same_signals a b3 p c.requires.given.ports k3 in
    let s4 : step_signals b4 p ≡ f = same_signals a b4 p c.requires.given.ports k4 in
    let s5 : step_signals b5 p ≡ f = same_signals a b5 p c.requires.given.ports k5 in
    let s6 : step_signals b6 p ≡ f = same_signals a b6 p c.requires.given.ports k6 in
    let addrs4 = subst (λ g. NextAddrs b4 l g l.size) s3 c.in_ok-emit_slots.ensures.addrs in
    let bits4 = subst (λ g. NextBits b4 l g l.size) s3 c.in_ok-emit_slots.ensures.bits in
    let contents5 = subst (λ g. NextContents b5 l g l.size) s4 c.in_ok-emit_contents.ensures.next in
    let ends6 = subst (λ g. NextEnds b6 l g) s5 c.in_ok-emit_ends.ensures.next in
    let addrs5 = addrs_kept (own_contents l) b4 b5 l f l.size (omega arith) (λ k lt. inl (omega (arith, lt))) h4.slots addrs4 y5 in
    let bits5 = bits_kept (own_contents l) b4 b5 l f l.size (omega arith) (λ k lt. inl (omega (arith, lt))) h4.slots bits4 y5 in
    let addrs6 = addrs_kept (own_ends l) b5 b6 l f l.size (omega arith) (λ k lt. inr (omega arith)) h5.slots addrs5 y6 in
    let bits6 = bits_kept (own_ends l) b5 b6 l f l.size (omega arith) (λ k lt. inr (omega arith)) h5.slots bits5 y6 in
    let contents6 = contents_kept (own_ends l) b5 b6 l f l.size (omega arith) (λ k lt. inr (omega arith)) h5.slots contents5 y6 in
    let o = c.in_ok-oldest.oldest in
    let old6 =
    oldest_later b2 b6 l (step_signals b1 p) f o s1
    (keeps_trans b2 b3 b6 (extends_keeps b2 b3 x3)
    (keeps_trans b3 b4 b6 (but_keeps (own_slots l) b3 b4 y4)
    (keeps_trans b4 b5 b6 (but_keeps (own_contents l) b4 b5 y5) (but_keeps (own_ends l) b5 b6 y6)))) c.in_ok-oldest.ensures.oldest in
    let r : (step_signals b6 p).release ≡ f.release = ap (λ (g : StepSignals). g.release) s6 in
    let r2 : (step_signals b6 p).release2 ≡ f.release2 = ap (λ (g : StepSignals). g.release2) s6 in
    record {
      next = record {
        addrs = addrs_kept (own_array l) b6 b7 l f l.size (omega arith) (λ k lt. inr (omega arith)) h6.slots addrs6 y7;
        bits = bits_kept (own_array l) b6 b7 l f l.size (omega arith) (λ k lt. inr (omega arith)) h6.slots bits6 y7;
        contents = contents_kept (own_array l) b6 b7 l f l.size (omega arith) (λ k lt. inr (omega arith)) h6.slots contents6 y7;
        ends = ends_kept (own_array l) b6 b7 l f (inr (omega arith)) (inr (omega arith)) h6.slots ends6 y7;
        array =
            subst (WritesArray b7 l)
            (same_two _ _ _ _ _ _ f.release (oldest_addr l f) (oldest_value l f) f.release2 (next_addr l f)
            (next_value l f) r old6.addr.same old6.content.same r2 old6.addr2.same old6.content2.same) c.in_ok-emit_writes.ensures.write;
      };
      commits =
          subst (λ g. AreCommits b7 l g c.in_ok-nets.nets) s2 (commits_keep b3 b7 l (step_signals b2 p) c.in_ok-nets.nets c.in_ok-nets.ensures.commits k37);
      extends = but_trans (own_all l) a b6 b7 (ends_in_all l a b5 b6 (slots_in_all l a b3 b4 b5 x y4 y5) y6) (array_in_all l b6 b7 y7);
    }

pub returns-in_err-emit_ends-clause-extends : goal.returns-in_err-emit_ends-clause-extends
returns-in_err-emit_ends-clause-extends c =
    let a = c.args.b.now in
    let b1 = c.emit_taken.new.b in
    let b2 = c.emit_oldest.new.b in
    let b3 = c.emit_commits.new.b in
    let b4 = c.emit_slots.new.b in
    let b5 = c.emit_contents.new.b in
    let x : Extends a b3 =
    extends_trans a b1 b3 c.in_ok-taken.ensures.extends (extends_trans b1 b2 b3 c.in_ok-oldest.ensures.extends c.in_ok-nets.ensures.extends) in
    ends_in_all c.args.l a b5 c.emit_ends.new.b
    (slots_in_all c.args.l a b3 b4 b5 x c.in_ok-emit_slots.ensures.extends c.in_ok-emit_contents.ensures.extends) c.in_err-emit_ends.ensures.extends

pub returns-in_err-emit_writes-clause-extends : goal.returns-in_err-emit_writes-clause-extends
returns-in_err-emit_writes-clause-extends c =
    let a = c.args.b.now in
    let b1 = c.emit_taken.new.b in
    let b2 = c.emit_oldest.new.b in
    let b3 = c.emit_commits.new.b in
    let b4 = c.emit_slots.new.b in
    let b5 = c.emit_contents.new.b in
    let b6 = c.emit_ends.new.b in
    let b7 = c.emit_writes.new.b in
    let l = c.args.l in
    let x : Extends a b3 =
    extends_trans a b1 b3 c.in_ok-taken.ensures.extends (extends_trans b1 b2 b3 c.in_ok-oldest.ensures.extends c.in_ok-nets.ensures.extends) in
    let y =
    ends_in_all l a b5 b6
    (slots_in_all l a b3 b4 b5 x c.in_ok-emit_slots.ensures.extends c.in_ok-emit_contents.ensures.extends) c.in_ok-emit_ends.ensures.extends in
    but_trans (own_all l) a b6 b7 y (array_in_all l b6 b7 c.in_err-emit_writes.ensures.extends)
