use Rattle.std.proofs.Common.{◌≡◌, refl, sym, subst}
use Rattle.pdl_net.specs.Signal.{Signal, mux_signal, const_signal}
use Rattle.pdl_net.specs.Growth.{Own}
use Rattle.pdl_net.specs.Meaning.{signal}
use Rattle.pdl_lockapi.specs.Laws.{step_signals, StepLaw, own, HasNoPorts}
use Rattle.pdl_lockapi.specs.Second.{Commit2Law}
use Rattle.pdl_lockapi.specs.SlotLaws.{StillLaw}
use Rattle.pdl_lock_ring.specs.declared.layout.RingLayout.{RingLayout}
use Rattle.pdl_lock_ring.specs.Slots.{layout_of, ticket_bits, Stands}
use Rattle.pdl_lock_ring.specs.Ready.{HasPorts}
use Rattle.pdl_lock_ring.specs.Oldest.{AreCommits}
use Rattle.pdl_lock_ring.specs.Steps.{NextValues, oldest_addr, oldest_value, next_addr, next_value}
use Rattle.pdl_lock_ring.proofs.StepLaw.{step_law, commit2_law}
use Rattle.pdl_lock_ring.proofs.Still.{still_law}
use Rattle.pdl_lock_ring.proofs.TicketWidths.{tickets_fit}
use Rattle.pdl_lock_ring.proofs.Module.{own_is, commit_nets, commit2_nets}
use Rattle.pdl_lock_ring.proofs.step.emit_step.Goals as goal

pub emit_all-requires : goal.emit_all-requires
emit_all-requires c =
    let l = layout_of c.args.size c.args.r.now in
    let H : RingLayout → Type 0 = λ y. HasPorts c.args.b.now y c.args.p.now in
    let E : RingLayout → Type 0 = λ y. HasNoPorts y.array c.args.b.now in
    let S : RingLayout → Type 0 = λ y. y.kept ≡ y.width in
    let given : HasPorts c.args.b.now l c.args.p.now =
    record { sized = c.requires.placed.sized; slots = c.requires.placed.slots; ports = c.requires.ports; fit = c.requires.fit } in
    record {
      given = subst H (sym c.of-l.ensures) given;
      same = subst S (sym c.of-l.ensures) refl;
      empty = subst E (sym c.of-l.ensures) c.requires.empty;
    }

pub returns-clause-nets : goal.returns-clause-nets
returns-clause-nets c =
    let a = c.args.b.now in
    let b = c.emit_all.new.b in
    let p = c.args.p.now in
    let l = layout_of c.args.size c.args.r.now in
    let n = c.in_ok-nets.nets in
    let C : RingLayout → Type 0 = λ y. AreCommits b y (step_signals a p) n in
    commit_nets a b l l.ticket p n c.requires.fit (subst C c.of-l.ensures c.in_ok-nets.ensures.commits)

pub returns-clause-nets2 : goal.returns-clause-nets2
returns-clause-nets2 c =
    let a = c.args.b.now in
    let b = c.emit_all.new.b in
    let p = c.args.p.now in
    let l = layout_of c.args.size c.args.r.now in
    let n = c.in_ok-nets.nets in
    let C : RingLayout → Type 0 = λ y. AreCommits b y (step_signals a p) n in
    commit2_nets a b l l.ticket p n c.requires.fit (subst C c.of-l.ensures c.in_ok-nets.ensures.commits)

pub returns-clause-law : goal.returns-clause-law
returns-clause-law c =
    let q = c.args.size in
    let r = c.args.r.now in
    let l = layout_of q r in
    let a = c.args.b.now in
    let b = c.emit_all.new.b in
    let p = c.args.p.now in
    let f = step_signals a p in
    let n = c.in_ok-nets.nets in
    let N : RingLayout → Type 0 = λ y. NextValues b y f in
    let C : RingLayout → Type 0 = λ y. AreCommits b y f n in
    let e = subst C c.of-l.ensures c.in_ok-nets.ensures.commits in
    let law =
    step_law b l f refl c.requires.placed.sized (tickets_fit a r.bits r.width l.ticket p c.requires.fit)
    (subst N c.of-l.ensures c.in_ok-nets.ensures.next) in
    let A0 = mux_signal f.release (oldest_addr l f) (const_signal l.bits 0) in
    let V0 = mux_signal f.release (oldest_value l f) (const_signal l.width 0) in
    let O : Own → Type 0 = λ o. StepLaw (Stands l) q (ticket_bits q) o b f f.release A0 V0 in
    let K : Signal → Type 0 = λ g. StepLaw (Stands l) q (ticket_bits q) (own r) b f g A0 V0 in
    let A : Signal → Type 0 = λ g. StepLaw (Stands l) q (ticket_bits q) (own r) b f (signal b n.commit) g V0 in
    let V : Signal → Type 0 = λ g. StepLaw (Stands l) q (ticket_bits q) (own r) b f (signal b n.commit) (signal b n.addr) g in
    subst V (sym e.value.same) (subst A (sym e.addr.same) (subst K (sym e.commit.same) (subst O (own_is q a r c.requires.placed) law)))

pub returns-clause-law2 : goal.returns-clause-law2
returns-clause-law2 c =
    let q = c.args.size in
    let r = c.args.r.now in
    let l = layout_of q r in
    let a = c.args.b.now in
    let b = c.emit_all.new.b in
    let p = c.args.p.now in
    let f = step_signals a p in
    let n = c.in_ok-nets.nets in
    let N : RingLayout → Type 0 = λ y. NextValues b y f in
    let C : RingLayout → Type 0 = λ y. AreCommits b y f n in
    let e = subst C c.of-l.ensures c.in_ok-nets.ensures.commits in
    let law =
    commit2_law b l f refl c.requires.placed.sized (tickets_fit a r.bits r.width l.ticket p c.requires.fit)
    (subst N c.of-l.ensures c.in_ok-nets.ensures.next) in
    let V0 = mux_signal f.release2 (next_value l f) (const_signal l.width 0) in
    let K : Signal → Type 0 = λ g. Commit2Law (Stands l) q (ticket_bits q) f g (mux_signal f.release2 (next_addr l f) (const_signal l.bits 0)) V0 in
    let A : Signal → Type 0 = λ g. Commit2Law (Stands l) q (ticket_bits q) f (signal b n.commit2) g V0 in
    let V : Signal → Type 0 = λ g. Commit2Law (Stands l) q (ticket_bits q) f (signal b n.commit2) (signal b n.addr2) g in
    subst V (sym e.value2.same) (subst A (sym e.addr2.same) (subst K (sym e.commit2.same) law))

pub returns-clause-still : goal.returns-clause-still
returns-clause-still c =
    let q = c.args.size in
    let r = c.args.r.now in
    let l = layout_of q r in
    let a = c.args.b.now in
    let b = c.emit_all.new.b in
    let p = c.args.p.now in
    let f = step_signals a p in
    let N : RingLayout → Type 0 = λ y. NextValues b y f in
    let O : Own → Type 0 = λ o. StillLaw (Stands l) q (ticket_bits q) o b f r in
    subst O (own_is q a r c.requires.placed)
    (still_law b l f r refl c.requires.placed.listed c.requires.placed.sized (tickets_fit a r.bits r.width l.ticket p c.requires.fit)
    (subst N c.of-l.ensures c.in_ok-nets.ensures.next))
