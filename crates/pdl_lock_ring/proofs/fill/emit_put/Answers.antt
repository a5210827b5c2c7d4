use Rattle.std.proofs.Common.{◌≡◌, sym, ap, ◌∙◌}
use Rattle.pdl_net.specs.declared.BinOp.TheVariants.{Eq}
use Rattle.pdl_net.specs.Signal.{Signal, mux_signal, bin_signal}
use Rattle.pdl_net.specs.Growth.{Extends}
use Rattle.pdl_net.specs.Meaning.{signal}
use Rattle.pdl_net.proofs.Keeps.{extends_trans}
use Rattle.pdl_lockapi.specs.Laws.{TicketSignal, step_signals, ticket_at, ticket_signal}
use Rattle.pdl_lock_ring.proofs.RingGrowth.{means_as, same_mux, same_bin}
use Rattle.pdl_lock_ring.proofs.Fills.{ticket_is}
use Rattle.pdl_lock_ring.proofs.fill.emit_put.Goals as goal

pub returns-clause-value : goal.returns-clause-value
returns-clause-value c =
    let a = c.args.b.now in
    let b1 = c.emit_written.new.b in
    let b2 = c.bin.new.self in
    let b3 = c.mux.new.self in
    let p = c.args.p.now in
    let q = c.write_port-port.result in
    let x1 = c.in_ok-written.ensures.extends in
    let x2 = c.in_ok-fills.ensures.extends in
    let x12 : Extends a b2 = extends_trans a b1 b2 x1 x2 in
    let port = ticket_is a p c.args.j q c.requires.within c.write_port-port.ensures in
    let slot = x1.kept c.args.slot c.requires.slot.there in
    let fills = c.in_ok-fills.ensures.means.same ∙ same_bin Eq _ _ _ _ c.in_ok-written.ensures.means.same slot in
    let value : signal b2 q.value ≡ (ticket_at (step_signals a p).writes c.args.j).value =
    x12.kept q.value (c.requires.given.ports.value c.args.j q c.requires.within c.write_port-port.ensures) ∙ ap (λ (g : TicketSignal). g.value) (sym port) in
    means_as b3 c.in_ok-put.put _ _ c.in_ok-put.ensures.means (same_mux _ _ _ _ _ _ fills value (x12.kept c.args.value c.requires.value.there))
