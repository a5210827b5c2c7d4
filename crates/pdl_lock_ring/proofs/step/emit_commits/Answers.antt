use Rattle.std.proofs.Common.{◌≡◌, refl, ap, sym, ◌∙◌}
use Rattle.pdl_net.specs.Signal.{Signal, const_signal, mux_signal}
use Rattle.pdl_net.specs.Meaning.{Means, signal}
use Rattle.pdl_net.specs.Growth.{Extends}
use Rattle.pdl_net.proofs.Keeps.{extends_trans}
use Rattle.pdl_lockapi.specs.Laws.{step_signals}
use Rattle.pdl_lock_ring.specs.Steps.{oldest_addr, oldest_value, next_addr, next_value}
use Rattle.pdl_lock_ring.proofs.RingGrowth.{means_as, same_mux, later_is}
use Rattle.pdl_lock_ring.proofs.Ends.{release_is, release2_is}
use Rattle.pdl_lock_ring.proofs.step.emit_commits.Goals as goal

pub returns-clause-commits : goal.returns-clause-commits
returns-clause-commits c =
    let a = c.args.b.now in
    let b1 = c.emit_commit.new.b in
    let b2 = c.emit_commit-2.new.b in
    let l = c.args.l in
    let p = c.args.p.now in
    let o = c.requires.oldest in
    let f = step_signals a p in
    let h = c.requires.given.ports in
    let e1 = c.in_ok-addr.ensures in
    let e2 = c.in_ok-addr2.ensures in
    let x1 = e1.extends in
    let x2 = e2.extends in
    let x12 : Extends a b2 = extends_trans a b1 b2 x1 x2 in
    let r = release_is a p in
    let r2 : signal b1 p.release2 ≡ _ = x1.kept p.release2 h.release2 ∙ sym (release2_is a p) in
    let ga = mux_signal (signal a p.release) (signal a c.args.o.first.addr) (const_signal l.bits 0) in
    let gv = mux_signal (signal a p.release) (signal a c.args.o.first.content) (const_signal l.width 0) in
    let ga2 = mux_signal (signal b1 p.release2) (signal b1 c.args.o.second.addr) (const_signal l.bits 0) in
    let gv2 = mux_signal (signal b1 p.release2) (signal b1 c.args.o.second.content) (const_signal l.width 0) in
    let addr : Means b2 c.in_ok-addr.addr ga = record { there = x2.there _ e1.addr.there; same = later_is b1 b2 _ _ x2 e1.addr } in
    let value : Means b2 c.in_ok-addr.value gv = record { there = x2.there _ e1.value.there; same = later_is b1 b2 _ _ x2 e1.value } in
    record {
      commit = record { there = x12.there p.release h.release; same = x12.kept p.release h.release ∙ sym r };
      addr =
          means_as b2 _ ga _ addr
          (same_mux (signal a p.release) (signal a c.args.o.first.addr)
          (const_signal l.bits 0) f.release (oldest_addr l f) (const_signal l.bits 0) (sym r) o.addr.same refl);
      value =
          means_as b2 _ gv _ value
          (same_mux (signal a p.release) (signal a c.args.o.first.content)
          (const_signal l.width 0) f.release (oldest_value l f) (const_signal l.width 0) (sym r) o.content.same refl);
      commit2 = record { there = x12.there p.release2 h.release2; same = x12.kept p.release2 h.release2 ∙ sym (release2_is a p) };
      addr2 =
          means_as b2 _ ga2 _ e2.addr
          (same_mux (signal b1 p.release2) (signal b1 c.args.o.second.addr)
          (const_signal l.bits 0) f.release2 (next_addr l f)
          (const_signal l.bits 0) r2 (later_is a b1 _ _ x1 o.addr2) refl);
      value2 =
          means_as b2 _ gv2 _ e2.value
          (same_mux (signal b1 p.release2) (signal b1 c.args.o.second.content)
          (const_signal l.width 0) f.release2 (next_value l f)
          (const_signal l.width 0) r2 (later_is a b1 _ _ x1 o.content2) refl);
      addr_wide = ap (λ (g : Signal). g.width) addr.same ∙ o.addr_wide;
      value_wide = ap (λ (g : Signal). g.width) value.same ∙ o.content_wide ∙ c.requires.same;
      addr2_wide = ap (λ (g : Signal). g.width) e2.addr.same ∙ ap (λ (g : Signal). g.width) (x1.kept _ o.addr2.there) ∙ o.addr2_wide;
      value2_wide = ap (λ (g : Signal). g.width) e2.value.same ∙ ap (λ (g : Signal). g.width) (x1.kept _ o.content2.there) ∙ o.content2_wide ∙ c.requires.same;
    }
