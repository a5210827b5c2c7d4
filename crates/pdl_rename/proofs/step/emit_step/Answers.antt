use Rattle.std.proofs.Common.{◌≡◌, sym, subst, ◌∙◌}
use Rattle.pdl_net.specs.Growth.{Extends, Keeps}
use Rattle.pdl_net.proofs.Keeps.{keeps_trans, extends_keeps, extends_trans, but_keeps, but_extends, but_trans}
use Rattle.pdl_lockapi.specs.Laws.{step_signals}
use Rattle.pdl_lockapi.proofs.LockGrowth.{same_signals}
use Rattle.pdl_lock_ring.specs.Oldest.{AreOldest}
use Rattle.pdl_lock_ring.proofs.RingGrowth.{ports_keep, ready_keep, oldest_later}
use Rattle.pdl_rename.specs.RenameGrowth.{map_keep, store_keep}
use Rattle.pdl_rename.specs.Freed.{AreFreed}
use Rattle.pdl_rename.specs.Nets.{NextRename, AreRenamed, own_rename}
use Rattle.pdl_rename.proofs.StepCalls.{renamed_keep}
use Rattle.pdl_rename.proofs.step.emit_step.Goals as goal

pub emit_commits-requires : goal.emit_commits-requires
emit_commits-requires c =
    let a = c.args.b.now in
    let b1 = c.emit_taken.new.b in
    let b2 = c.emit_oldest.new.b in
    let l = c.args.l in
    let p = c.args.p.now in
    let h = c.requires.given in
    let x1 = c.in_ok-taken.ensures.extends in
    let k1 : Keeps a b1 = extends_keeps a b1 x1 in
    let k2 : Keeps a b2 = extends_keeps a b2 (extends_trans a b1 b2 x1 c.in_ok-oldest.ensures.extends) in
    let s : step_signals b1 p ≡ step_signals b2 p = same_signals a b1 p h.ports k1 ∙ sym (same_signals a b2 p h.ports k2) in
    record {
      renaming = c.requires.renaming;
      given = ports_keep a b2 l.slots p h k2;
      store = store_keep a b2 l c.requires.store k2;
      oldest = subst (λ g. AreOldest b2 l.slots g c.in_ok-oldest.oldest) s c.in_ok-oldest.ensures.oldest;
    }

pub emit_freed-requires : goal.emit_freed-requires
emit_freed-requires c =
    let a = c.args.b.now in
    let b1 = c.emit_taken.new.b in
    let b2 = c.emit_oldest.new.b in
    let b3 = c.emit_commits.new.b in
    let l = c.args.l in
    let p = c.args.p.now in
    let h = c.requires.given in
    let x1 = c.in_ok-taken.ensures.extends in
    let x12 : Extends a b2 = extends_trans a b1 b2 x1 c.in_ok-oldest.ensures.extends in
    let x3 = c.in_ok-nets.ensures.extends in
    let k3 : Keeps a b3 = extends_keeps a b3 (extends_trans a b2 b3 x12 x3) in
    let s : step_signals b1 p ≡ step_signals b3 p = same_signals a b1 p h.ports (extends_keeps a b1 x1) ∙ sym (same_signals a b3 p h.ports k3) in
    record {
      renaming = c.requires.renaming;
      map = map_keep a b3 l l.depth c.requires.map k3;
      given = ports_keep a b3 l.slots p h k3;
      oldest = oldest_later b2 b3 l.slots _ _ c.in_ok-oldest.oldest s (extends_keeps b2 b3 x3) c.in_ok-oldest.ensures.oldest;
    }

pub emit_nexts-requires : goal.emit_nexts-requires
emit_nexts-requires c =
    let a = c.args.b.now in
    let b1 = c.emit_taken.new.b in
    let b2 = c.emit_oldest.new.b in
    let b3 = c.emit_commits.new.b in
    let b4 = c.emit_freed.new.b in
    let l = c.args.l in
    let p = c.args.p.now in
    let h = c.requires.given in
    let x1 = c.in_ok-taken.ensures.extends in
    let x2 = c.in_ok-oldest.ensures.extends in
    let x3 = c.in_ok-nets.ensures.extends in
    let x24 : Extends b2 b4 = extends_trans b2 b3 b4 x3 c.in_ok-freed.ensures.extends in
    let x14 : Extends b1 b4 = extends_trans b1 b2 b4 x2 x24 in
    let x : Extends a b4 = extends_trans a b1 b4 x1 x14 in
    let k1 : Keeps a b1 = extends_keeps a b1 x1 in
    let k3 : Keeps a b3 = extends_keeps a b3 (extends_trans a b1 b3 x1 (extends_trans b1 b2 b3 x2 x3)) in
    let k4 : Keeps a b4 = extends_keeps a b4 x in
    let s4 = same_signals a b4 p h.ports k4 in
    let s1 : step_signals b1 p ≡ step_signals b4 p = same_signals a b1 p h.ports k1 ∙ sym s4 in
    let s3 : step_signals b3 p ≡ step_signals b4 p = same_signals a b3 p h.ports k3 ∙ sym s4 in
    record {
      renaming = c.requires.renaming;
      ready = ready_keep b1 b4 l.slots p c.in_ok-taken.taken c.in_ok-taken.ensures.ready (extends_keeps b1 b4 x14);
      oldest = oldest_later b2 b4 l.slots _ _ c.in_ok-oldest.oldest s1 (extends_keeps b2 b4 x24) c.in_ok-oldest.ensures.oldest;
      freed = subst (λ g. AreFreed b4 l g c.in_ok-freed.freed) s3 c.in_ok-freed.ensures.freed;
      map = map_keep a b4 l l.depth c.requires.map k4;
      store = store_keep a b4 l c.requires.store k4;
      empty = x.writes l.array c.requires.store.has_store ∙ c.requires.empty;
    }

pub returns : goal.returns
returns c =
    let a = c.args.b.now in
    let b1 = c.emit_taken.new.b in
    let b2 = c.emit_oldest.new.b in
    let b3 = c.emit_commits.new.b in
    let b4 = c.emit_freed.new.b in
    let b5 = c.emit_nexts.new.b in
    let l = c.args.l in
    let p = c.args.p.now in
    let f = step_signals a p in
    let h = c.requires.given in
    let n = c.in_ok-nets.nets in
    let x12 : Extends a b2 = extends_trans a b1 b2 c.in_ok-taken.ensures.extends c.in_ok-oldest.ensures.extends in
    let x34 : Extends b3 b4 = c.in_ok-freed.ensures.extends in
    let x : Extends a b4 = extends_trans a b2 b4 x12 (extends_trans b2 b3 b4 c.in_ok-nets.ensures.extends x34) in
    let y = c.in_ok-emit_nexts.ensures.extends in
    let k35 : Keeps b3 b5 = keeps_trans b3 b4 b5 (extends_keeps b3 b4 x34) (but_keeps (own_rename l) b4 b5 y) in
    let s2 : step_signals b2 p ≡ f = same_signals a b2 p h.ports (extends_keeps a b2 x12) in
    let s4 : step_signals b4 p ≡ f = same_signals a b4 p h.ports (extends_keeps a b4 x) in
    record {
      next = subst (λ g. NextRename b5 l g) s4 c.in_ok-emit_nexts.ensures.next;
      commits = subst (λ g. AreRenamed b5 l g n) s2 (renamed_keep b3 b5 l (step_signals b2 p) n c.in_ok-nets.ensures.commits k35);
      extends = but_trans (own_rename l) a b4 b5 (but_extends (own_rename l) a b4 x) y;
    }

pub returns-in_err-emit_nexts-clause-extends : goal.returns-in_err-emit_nexts-clause-extends
returns-in_err-emit_nexts-clause-extends c =
    let a = c.args.b.now in
    let b1 = c.emit_taken.new.b in
    let b2 = c.emit_oldest.new.b in
    let b3 = c.emit_commits.new.b in
    let b4 = c.emit_freed.new.b in
    let l = c.args.l in
    let x12 : Extends a b2 = extends_trans a b1 b2 c.in_ok-taken.ensures.extends c.in_ok-oldest.ensures.extends in
    let x34 : Extends b2 b4 = extends_trans b2 b3 b4 c.in_ok-nets.ensures.extends c.in_ok-freed.ensures.extends in
    but_trans (own_rename l) a b4 c.emit_nexts.new.b (but_extends (own_rename l) a b4 (extends_trans a b2 b4 x12 x34)) c.in_err-emit_nexts.ensures.extends
