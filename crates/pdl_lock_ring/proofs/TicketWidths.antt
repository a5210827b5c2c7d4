-- The tickets of a step's ports have the width of a ticket.
use Rattle.std.proofs.Common.{◌≡◌, ℕ, ◌<◌, ap, ◌∙◌, arith, length}
use Rattle.std.specs.Prelude.{slice_index_or}
use Rattle.std.proofs.lemmas.List.{get_or_default}
use Rattle.pdl_net.specs.declared.Net.TheVariants.{Input}
use Rattle.pdl_net.specs.Circuit.{Circuit}
use Rattle.pdl_net.specs.Signal.{Signal}
use Rattle.pdl_lockapi.specs.declared.LockPorts.{LockPorts}
use Rattle.pdl_lockapi.specs.declared.TicketWrite.{TicketWrite}
use Rattle.pdl_lockapi.specs.Laws.{TicketSignal, step_signals, PortsFit}
use Rattle.pdl_lock_ring.proofs.Ends.{tail_is}
use Rattle.pdl_lock_ring.proofs.Fills.{ticket_is, writes_count}
use Rattle.pdl_lock_ring.proofs.FilledSlots.{TicketsFit}

-- the tickets of a step's write ports and of its squash have the width of a ticket, where its ports fit
pub tickets_fit : (c : Circuit) (bits width w : ℕ) (p : LockPorts) → PortsFit c bits width w p → TicketsFit w (step_signals c p)
tickets_fit c bits width w p f =
    let d : TicketWrite = record { enable = Input 0; ticket = Input 0; value = Input 0 } in
    record {
      tickets = λ k h.
          let lt : k < length p.writes = omega (arith, writes_count c p, h) in
          let q : TicketWrite = slice_index_or p.writes k d in
          let e : slice_index_or p.writes k q ≡ q = get_or_default p.writes k q d lt in
          ap (λ (g : TicketSignal). g.ticket.width) (ticket_is c p k q lt e) ∙ f.ticket_width k q lt e;
      tail = ap (λ (g : Signal). g.width) (tail_is c p) ∙ f.tail_width;
    }
