-- A slot that no reservation and no write of a cycle is of stays as it is; its place is not among its registers.
use Rattle.std.proofs.Common.{◌≡◌, ℕ, ◌<◌, List, length, sym, ap, ◌∙◌, subst, arith}
use Rattle.std.specs.Prelude.{slice_index}
use Rattle.pdl_net.specs.Circuit.{Circuit}
use Rattle.pdl_net.specs.Signal.{Signal, reg_value}
use Rattle.pdl_lockapi.specs.declared.LockRegs.{LockRegs}
use Rattle.pdl_lockapi.specs.Laws.{StepSignals}
use Rattle.pdl_lockapi.specs.SlotLaws.{StillLaw}
use Rattle.pdl_lock_ring.specs.Slots.{addr_at, has_at, slots_of}
use Rattle.pdl_lock_ring.proofs.FilledSlots.{TicketsFit, Cycle}
use Rattle.pdl_lock_ring.proofs.Still.{addr_still, bit_still}
use Rattle.pdl_rename.specs.declared.layout.Layout.{Layout}
use Rattle.pdl_rename.specs.Places.{IsRenaming, Stands, placed_signal}
use Rattle.pdl_rename.specs.Nets.{NextRename, own_rename}
use Rattle.pdl_rename.proofs.Module.{regs_are}
use Rattle.pdl_word.proofs.Lists.{either}

-- a slot that no reservation and no write of a cycle is of stays as it is, but for its place
pub still_law : (b : Circuit) (l : Layout) (f : StepSignals) (r : LockRegs) → IsRenaming l
    → r.slots ≡ slots_of l.slots l.slots.size → TicketsFit l.slots.ticket f → NextRename b l f
    → StillLaw (Stands l) l.slots.size l.slots.ticket (own_rename l) b f r
unfolding reg_value
still_law b l f r z listed t n = record {
  still = λ s u x a k j h d p o below within spared.
      let V = placed_signal l in
      let c : Cycle l.slots V s x f a = record { sized = z.sized; stands = h.entries; fit = t; drives = d; proper = p } in
      let regs = regs_are l r k z.place listed below in
      let P : ℕ → Type 0 = λ g. slice_index u.regs g ≡ slice_index s.regs g in
      let Q : List ℕ → Type 0 = λ gs. (j < length gs) → P (slice_index gs j) in
      subst Q (sym regs) (λ lt. either P (addr_at l.slots k) (has_at l.slots k)
      (o.regs (addr_at l.slots k) (omega arith) (omega (arith, below))
      ∙ ap (λ (g : Signal). g.value s) (n.addrs.addr k below) ∙ addr_still l.slots V s x f a c k below spared)
      (o.regs (has_at l.slots k) (omega arith) (omega (arith, below))
      ∙ ap (λ (g : Signal). g.value s) (n.bits.bit k below) ∙ bit_still l.slots V s x f a c k below spared)
      j lt) within;
}
