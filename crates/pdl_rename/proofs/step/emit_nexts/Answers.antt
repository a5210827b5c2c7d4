use Rattle.std.proofs.Common.{◌≡◌, length, refl, sym, subst, ap, ◌∙◌, inl, inr, arith}
use Rattle.pdl_net.specs.Growth.{Keeps}
use Rattle.pdl_net.proofs.Keeps.{keeps_trans, but_keeps, but_trans}
use Rattle.pdl_lockapi.specs.Laws.{StepSignals, step_signals}
use Rattle.pdl_lockapi.proofs.LockGrowth.{same_signals}
use Rattle.pdl_lock_ring.specs.SlotGrowth.{slots_keep}
use Rattle.pdl_lock_ring.specs.Steps.{NextEnds, own_slots, own_ends, own_contents}
use Rattle.pdl_lock_ring.proofs.Fills.{writes_count}
use Rattle.pdl_lock_ring.proofs.RingGrowth.{ports_keep, ready_keep, oldest_later}
use Rattle.pdl_lock_ring.proofs.StepCalls.{addrs_kept, bits_kept, ends_kept}
use Rattle.pdl_rename.specs.RenameGrowth.{map_keep, store_keep}
use Rattle.pdl_rename.specs.Nets.{NextMap, NextPlaces, place_writes, own_map, own_store, own_rename}
use Rattle.pdl_rename.proofs.Turns.{freed_later}
use Rattle.pdl_rename.proofs.StepCalls.{slots_in_rename, ends_in_rename, places_in_rename, map_in_rename, store_in_rename, stays_empty, places_stay, map_stays}
use Rattle.pdl_rename.proofs.step.emit_nexts.Goals as goal

pub emit_ends-requires : goal.emit_ends-requires
emit_ends-requires c =
    let a = c.args.b.now in
    let b1 = c.emit_slots.new.b in
    let l = c.args.l.slots in
    record { ready = ready_keep a b1 l c.args.p.now c.args.t c.requires.ready (but_keeps (own_slots l) a b1 c.in_ok-emit_slots.ensures.extends) }

pub emit_places-requires : goal.emit_places-requires
emit_places-requires c =
    let a = c.args.b.now in
    let b1 = c.emit_slots.new.b in
    let b2 = c.emit_ends.new.b in
    let l = c.args.l in
    let p = c.args.p.now in
    let h = c.requires.ready.given in
    let k : Keeps a b2 =
    keeps_trans a b1 b2 (but_keeps (own_slots l.slots) a b1 c.in_ok-emit_slots.ensures.extends)
    (but_keeps (own_ends l.slots) b1 b2 c.in_ok-emit_ends.ensures.extends) in
    let s : step_signals b2 p ≡ step_signals a p = same_signals a b2 p h.ports k in
    record {
      renaming = c.requires.renaming;
      given = ports_keep a b2 l.slots p h k;
      freed = freed_later a b2 l (step_signals a p) (step_signals b2 p) c.args.f (sym s) k c.requires.freed;
    }

pub emit_map-requires : goal.emit_map-requires
emit_map-requires c =
    let a = c.args.b.now in
    let b1 = c.emit_slots.new.b in
    let b2 = c.emit_ends.new.b in
    let b3 = c.emit_places.new.b in
    let l = c.args.l in
    let p = c.args.p.now in
    let h = c.requires.ready.given in
    let k1 = but_keeps (own_slots l.slots) a b1 c.in_ok-emit_slots.ensures.extends in
    let k2 = but_keeps (own_ends l.slots) b1 b2 c.in_ok-emit_ends.ensures.extends in
    let k3 = but_keeps (own_contents l.slots) b2 b3 c.in_ok-emit_places.ensures.extends in
    let k : Keeps a b3 = keeps_trans a b1 b3 k1 (keeps_trans b1 b2 b3 k2 k3) in
    let s : step_signals b3 p ≡ step_signals a p = same_signals a b3 p h.ports k in
    record {
      renaming = c.requires.renaming;
      map = map_keep a b3 l l.depth c.requires.map k;
      given = ports_keep a b3 l.slots p h k;
      oldest = oldest_later a b3 l.slots (step_signals a p) (step_signals b3 p) c.args.o (sym s) k c.requires.oldest;
    }

pub emit_writes-requires : goal.emit_writes-requires
emit_writes-requires c =
    let a = c.args.b.now in
    let b1 = c.emit_slots.new.b in
    let b2 = c.emit_ends.new.b in
    let b3 = c.emit_places.new.b in
    let b4 = c.emit_map.new.b in
    let l = c.args.l in
    let p = c.args.p.now in
    let y1 = c.in_ok-emit_slots.ensures.extends in
    let y2 = c.in_ok-emit_ends.ensures.extends in
    let y3 = c.in_ok-emit_places.ensures.extends in
    let y4 = c.in_ok-emit_map.ensures.extends in
    let k1 : Keeps a b1 = but_keeps (own_slots l.slots) a b1 y1 in
    let k2 : Keeps a b2 = keeps_trans a b1 b2 k1 (but_keeps (own_ends l.slots) b1 b2 y2) in
    let k3 : Keeps a b3 = keeps_trans a b2 b3 k2 (but_keeps (own_contents l.slots) b2 b3 y3) in
    let k4 : Keeps a b4 = keeps_trans a b3 b4 k3 (but_keeps (own_map l) b3 b4 y4) in
    let h = c.requires.store in
    record {
      renaming = c.requires.renaming;
      given = ports_keep a b4 l.slots p c.requires.ready.given k4;
      store = store_keep a b4 l h k4;
      empty =
          stays_empty (own_map l) b3 b4 l refl (store_keep a b3 l h k3) y4
          (stays_empty (own_contents l.slots) b2 b3 l refl (store_keep a b2 l h k2) y3
          (stays_empty (own_ends l.slots) b1 b2 l refl (store_keep a b1 l h k1) y2 (stays_empty (own_slots l.slots) a b1 l refl h y1 c.requires.empty)));
    }

pub returns-clause-next : goal.returns-clause-next
returns-clause-next c =
    let a = c.args.b.now in
    let b1 = c.emit_slots.new.b in
    let b2 = c.emit_ends.new.b in
    let b3 = c.emit_places.new.b in
    let b4 = c.emit_map.new.b in
    let b5 = c.emit_writes.new.b in
    let l = c.args.l in
    let q = l.slots in
    let p = c.args.p.now in
    let f = step_signals a p in
    let y1 = c.in_ok-emit_slots.ensures.extends in
    let y2 = c.in_ok-emit_ends.ensures.extends in
    let y3 = c.in_ok-emit_places.ensures.extends in
    let y4 = c.in_ok-emit_map.ensures.extends in
    let y5 = c.in_ok-emit_writes.ensures.extends in
    let z = c.requires.renaming.map in
    let h = c.requires.ready.given in
    let k1 : Keeps a b1 = but_keeps (own_slots q) a b1 y1 in
    let k2 : Keeps a b2 = keeps_trans a b1 b2 k1 (but_keeps (own_ends q) b1 b2 y2) in
    let k3 : Keeps a b3 = keeps_trans a b2 b3 k2 (but_keeps (own_contents q) b2 b3 y3) in
    let k4 : Keeps a b4 = keeps_trans a b3 b4 k3 (but_keeps (own_map l) b3 b4 y4) in
    let s1 : step_signals b1 p ≡ f = same_signals a b1 p h.ports k1 in
    let s2 : step_signals b2 p ≡ f = same_signals a b2 p h.ports k2 in
    let s3 : step_signals b3 p ≡ f = same_signals a b3 p h.ports k3 in
    let s4 : step_signals b4 p ≡ f = same_signals a b4 p h.ports k4 in
    let h1 = slots_keep a b1 q h.slots k1 in
    let h2 = slots_keep a b2 q h.slots k2 in
    let h3 = slots_keep a b3 q h.slots k3 in
    let h4 = slots_keep a b4 q h.slots k4 in
    let addrs2 = addrs_kept (own_ends q) b1 b2 q f q.size (omega arith) (λ k lt. inr (omega arith)) h1 c.in_ok-emit_slots.ensures.addrs y2 in
    let bits2 = bits_kept (own_ends q) b1 b2 q f q.size (omega arith) (λ k lt. inr (omega arith)) h1 c.in_ok-emit_slots.ensures.bits y2 in
    let ends2 = subst (λ g. NextEnds b2 q g) s1 c.in_ok-emit_ends.ensures.next in
    let addrs3 = addrs_kept (own_contents q) b2 b3 q f q.size (omega arith) (λ k lt. inl (omega (arith, lt))) h2 addrs2 y3 in
    let bits3 = bits_kept (own_contents q) b2 b3 q f q.size (omega arith) (λ k lt. inl (omega (arith, lt))) h2 bits2 y3 in
    let ends3 = ends_kept (own_contents q) b2 b3 q f (inl (omega arith)) (inl (omega arith)) h2 ends2 y3 in
    let places3 = subst (λ g. NextPlaces b3 l g q.size) s2 c.in_ok-emit_places.ensures.next in
    let addrs4 = addrs_kept (own_map l) b3 b4 q f q.size (omega arith) (λ k lt. inl (omega (arith, lt, z))) h3 addrs3 y4 in
    let bits4 = bits_kept (own_map l) b3 b4 q f q.size (omega arith) (λ k lt. inl (omega (arith, lt, z))) h3 bits3 y4 in
    let ends4 = ends_kept (own_map l) b3 b4 q f (inl (omega (arith, z))) (inl (omega (arith, z))) h3 ends3 y4 in
    let places4 = places_stay (own_map l) b3 b4 l f (λ k lt. inl (omega (arith, lt, z))) h3 places3 y4 in
    let map4 = subst (λ g. NextMap b4 l g l.depth) s3 c.in_ok-emit_map.ensures.next in
    record {
      addrs = addrs_kept (own_store l) b4 b5 q f q.size (omega arith) (λ k lt. inr (omega arith)) h4 addrs4 y5;
      bits = bits_kept (own_store l) b4 b5 q f q.size (omega arith) (λ k lt. inr (omega arith)) h4 bits4 y5;
      ends = ends_kept (own_store l) b4 b5 q f (inr (omega arith)) (inr (omega arith)) h4 ends4 y5;
      places = places_stay (own_store l) b4 b5 l f (λ k lt. inr (omega arith)) h4 places4 y5;
      map = map_stays (own_store l) b4 b5 l f (λ k lt. inr (omega arith)) (map_keep a b4 l l.depth c.requires.map k4) map4 y5;
      store =
          c.in_ok-emit_writes.ensures.writes ∙ ap (λ (g : StepSignals). place_writes l g (length p.writes)) s4 ∙ ap (place_writes l f) (sym (writes_count a p));
    }

pub returns-clause-extends : goal.returns-clause-extends
returns-clause-extends c =
    let a = c.args.b.now in
    let b1 = c.emit_slots.new.b in
    let b2 = c.emit_ends.new.b in
    let b3 = c.emit_places.new.b in
    let b4 = c.emit_map.new.b in
    let b5 = c.emit_writes.new.b in
    let l = c.args.l in
    let w = own_rename l in
    let y1 = slots_in_rename l a b1 c.in_ok-emit_slots.ensures.extends in
    let y2 = but_trans w a b1 b2 y1 (ends_in_rename l b1 b2 c.in_ok-emit_ends.ensures.extends) in
    let y3 = but_trans w a b2 b3 y2 (places_in_rename l b2 b3 c.in_ok-emit_places.ensures.extends) in
    let y4 = but_trans w a b3 b4 y3 (map_in_rename l b3 b4 c.requires.renaming c.in_ok-emit_map.ensures.extends) in
    but_trans w a b4 b5 y4 (store_in_rename l b4 b5 c.in_ok-emit_writes.ensures.extends)

pub returns-in_err-emit_slots-clause-extends : goal.returns-in_err-emit_slots-clause-extends
returns-in_err-emit_slots-clause-extends c = slots_in_rename c.args.l c.args.b.now c.emit_slots.new.b c.in_err-emit_slots.ensures.extends

pub returns-in_err-emit_ends-clause-extends : goal.returns-in_err-emit_ends-clause-extends
returns-in_err-emit_ends-clause-extends c =
    let a = c.args.b.now in
    let b1 = c.emit_slots.new.b in
    let b2 = c.emit_ends.new.b in
    let l = c.args.l in
    but_trans (own_rename l) a b1 b2 (slots_in_rename l a b1 c.in_ok-emit_slots.ensures.extends) (ends_in_rename l b1 b2 c.in_err-emit_ends.ensures.extends)

pub returns-in_err-emit_places-clause-extends : goal.returns-in_err-emit_places-clause-extends
returns-in_err-emit_places-clause-extends c =
    let a = c.args.b.now in
    let b1 = c.emit_slots.new.b in
    let b2 = c.emit_ends.new.b in
    let b3 = c.emit_places.new.b in
    let l = c.args.l in
    let w = own_rename l in
    let y2 = but_trans w a b1 b2 (slots_in_rename l a b1 c.in_ok-emit_slots.ensures.extends) (ends_in_rename l b1 b2 c.in_ok-emit_ends.ensures.extends) in
    but_trans w a b2 b3 y2 (places_in_rename l b2 b3 c.in_err-emit_places.ensures.extends)

pub returns-in_err-emit_map-clause-extends : goal.returns-in_err-emit_map-clause-extends
returns-in_err-emit_map-clause-extends c =
    let a = c.args.b.now in
    let b1 = c.emit_slots.new.b in
    let b2 = c.emit_ends.new.b in
    let b3 = c.emit_places.new.b in
    let b4 = c.emit_map.new.b in
    let l = c.args.l in
    let w = own_rename l in
    let y2 = but_trans w a b1 b2 (slots_in_rename l a b1 c.in_ok-emit_slots.ensures.extends) (ends_in_rename l b1 b2 c.in_ok-emit_ends.ensures.extends) in
    let y3 = but_trans w a b2 b3 y2 (places_in_rename l b2 b3 c.in_ok-emit_places.ensures.extends) in
    but_trans w a b3 b4 y3 (map_in_rename l b3 b4 c.requires.renaming c.in_err-emit_map.ensures.extends)

pub returns-in_err-emit_writes-clause-extends : goal.returns-in_err-emit_writes-clause-extends
returns-in_err-emit_writes-clause-extends c =
    let a = c.args.b.now in
    let b1 = c.emit_slots.new.b in
    let b2 = c.emit_ends.new.b in
    let b3 = c.emit_places.new.b in
    let b4 = c.emit_map.new.b in
    let b5 = c.emit_writes.new.b in
    let l = c.args.l in
    let w = own_rename l in
    let y2 = but_trans w a b1 b2 (slots_in_rename l a b1 c.in_ok-emit_slots.ensures.extends) (ends_in_rename l b1 b2 c.in_ok-emit_ends.ensures.extends) in
    let y3 = but_trans w a b2 b3 y2 (places_in_rename l b2 b3 c.in_ok-emit_places.ensures.extends) in
    let y4 = but_trans w a b3 b4 y3 (map_in_rename l b3 b4 c.requires.renaming c.in_ok-emit_map.ensures.extends) in
    but_trans w a b4 b5 y4 (store_in_rename l b4 b5 c.in_err-emit_writes.ensures.extends)
