use Rattle.std.proofs.Common.{◌≡◌, refl, sym, ap, ◌∙◌}
use Rattle.pdl_net.specs.Signal.{Signal, const_signal, mux_signal}
use Rattle.pdl_net.specs.Meaning.{Means, signal}
use Rattle.pdl_net.specs.Growth.{Extends}
use Rattle.pdl_net.proofs.Keeps.{extends_trans}
use Rattle.pdl_lockapi.specs.Laws.{step_signals}
use Rattle.pdl_lock_ring.specs.Steps.{oldest_addr, next_addr}
use Rattle.pdl_lock_ring.proofs.Ends.{release_is, release2_is}
use Rattle.pdl_lock_ring.proofs.RingGrowth.{means_as, same_mux, later_is}
use Rattle.pdl_rename.specs.Nets.{oldest_value, next_value}
use Rattle.pdl_rename.proofs.step.emit_commits.Goals as goal

pub returns-clause-commits : goal.returns-clause-commits
returns-clause-commits c =
    let a = c.args.b.now in
    let b1 = c.emit_words.new.b in
    let b2 = c.emit_commit.new.b in
    let b3 = c.emit_commit-2.new.b in
    let l = c.args.l in
    let p = c.args.p.now in
    let o = c.requires.oldest in
    let f = step_signals a p in
    let h = c.requires.given.ports in
    let w = c.in_ok-first.ensures in
    let e1 = c.in_ok-addr.ensures in
    let e2 = c.in_ok-addr2.ensures in
    let x1 = w.extends in
    let x2 = e1.extends in
    let x3 = e2.extends in
    let x12 : Extends a b2 = extends_trans a b1 b2 x1 x2 in
    let x13 : Extends a b3 = extends_trans a b2 b3 x12 x3 in
    let r1 : signal b1 p.release ≡ f.release = x1.kept p.release h.release ∙ sym (release_is a p) in
    let r2 : signal b2 p.release2 ≡ f.release2 = x12.kept p.release2 h.release2 ∙ sym (release2_is a p) in
    let addr : Means b2 c.in_ok-addr.addr (mux_signal f.release (oldest_addr l.slots f) (const_signal l.slots.bits 0)) =
    means_as b2 _ _ _ e1.addr (same_mux _ _ (const_signal l.slots.bits 0) _ _ (const_signal l.slots.bits 0) r1 (later_is a b1 _ _ x1 o.addr) refl) in
    let value : Means b2 c.in_ok-addr.value (mux_signal f.release (oldest_value l f) (const_signal l.slots.width 0)) =
    means_as b2 _ _ _ e1.value (same_mux _ _ (const_signal l.slots.width 0) _ _ (const_signal l.slots.width 0) r1 w.first.same refl) in
    let addr2 : Means b3 c.in_ok-addr2.addr2 (mux_signal f.release2 (next_addr l.slots f) (const_signal l.slots.bits 0)) =
    means_as b3 _ _ _ e2.addr (same_mux _ _ (const_signal l.slots.bits 0) _ _ (const_signal l.slots.bits 0) r2 (later_is a b2 _ _ x12 o.addr2) refl) in
    let value2 : Means b3 c.in_ok-addr2.value2 (mux_signal f.release2 (next_value l f) (const_signal l.slots.width 0)) =
    means_as b3 _ _ _ e2.value (same_mux _ _ (const_signal l.slots.width 0) _ _ (const_signal l.slots.width 0) r2 (later_is b1 b2 _ _ x2 w.second) refl) in
    record {
      commit = record { there = x13.there p.release h.release; same = x13.kept p.release h.release ∙ sym (release_is a p) };
      addr = record { there = x3.there _ addr.there; same = later_is b2 b3 _ _ x3 addr };
      value = record { there = x3.there _ value.there; same = later_is b2 b3 _ _ x3 value };
      commit2 = record { there = x13.there p.release2 h.release2; same = x13.kept p.release2 h.release2 ∙ sym (release2_is a p) };
      addr2 = addr2;
      value2 = value2;
      addr_wide = ap (λ (g : Signal). g.width) (later_is b2 b3 _ _ x3 e1.addr) ∙ ap (λ (g : Signal). g.width) (x1.kept _ o.addr.there) ∙ o.addr_wide;
      value_wide = ap (λ (g : Signal). g.width) (later_is b2 b3 _ _ x3 e1.value) ∙ w.first_wide;
      addr2_wide = ap (λ (g : Signal). g.width) e2.addr.same ∙ ap (λ (g : Signal). g.width) (x12.kept _ o.addr2.there) ∙ o.addr2_wide;
      value2_wide = ap (λ (g : Signal). g.width) e2.value.same ∙ ap (λ (g : Signal). g.width) (x2.kept _ w.second.there) ∙ w.second_wide;
    }
