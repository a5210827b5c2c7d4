-- The renaming lock keeps the laws of the step and of the second commit.
use Rattle.pdl_net.specs.Circuit.{Circuit, State}
use Rattle.pdl_net.specs.Signal.{const_signal, mux_signal, const_value, mux_value}
use Rattle.pdl_lockapi.specs.Lock.{LockState, LockAct, entry_at, or_zero, filled_entries, Proper}
use Rattle.pdl_lockapi.specs.Laws.{StepSignals, Drives, StepLaw}
use Rattle.pdl_lockapi.specs.Second.{Commit2Law}
use Rattle.pdl_lock_ring.specs.Steps.{oldest_addr, next_addr}
use Rattle.pdl_lock_ring.proofs.FilledSlots.{TicketsFit}
use Rattle.pdl_lock_ring.proofs.StepLaw.{oldest_addr_is, next_addr_is, by_release, by_release2}
use Rattle.pdl_rename.specs.declared.layout.Layout.{Layout}
use Rattle.pdl_rename.specs.Places.{IsRenaming, Stands, placed_signal}
use Rattle.pdl_rename.specs.Nets.{oldest_value, next_value, NextRename, own_rename}
use Rattle.pdl_rename.proofs.Law.{AddressesFit, Turn, commit0, commit1, stands_next}

module _ (b : Circuit) (l : Layout) (f : StepSignals) (z : IsRenaming l) (w : TicketsFit l.slots.ticket f) (v : AddressesFit l.slots.bits f) where
  turn : (s : State) (x : LockState) (a : LockAct) → Stands l s x → Drives l.slots.ticket f s a → Proper l.slots.size x a → Turn l s x f a
  turn s x a h d p = record { renaming = z; stands = h; cycle = record { sized = z.sized; stands = h.entries; fit = w; drives = d; proper = p }; addresses = v }

  -- the renaming lock keeps the law of the step, where its registers and array take next what they have to
  pub step_law : NextRename b l f
      → StepLaw (Stands l) l.slots.size l.slots.ticket (own_rename l) b f f.release (mux_signal f.release (oldest_addr l.slots f) (const_signal l.slots.bits 0))
      (mux_signal f.release (oldest_value l f) (const_signal l.slots.width 0))
  unfolding mux_value const_value
  step_law n = record {
    commits = λ s x a h d p. d.release;
    commits_addr = λ s x a h d p. let c = turn s x a h d p in by_release l.slots (placed_signal l) s x f a c.cycle ((oldest_addr l.slots f).value s) (entry_at (filled_entries x a) 0).addr (oldest_addr_is l.slots (placed_signal l) s x f a c.cycle);
    commits_value = λ s x a h d p. let c = turn s x a h d p in by_release l.slots (placed_signal l) s x f a c.cycle ((oldest_value l f).value s) (or_zero (entry_at (filled_entries x a) 0).value) (commit0 l s x f a c);
    next = λ s u x a h d p o. stands_next l s x f a (turn s x a h d p) b u n o;
  }

  -- the renaming lock keeps the law of the second commit
  pub commit2_law : Commit2Law (Stands l) l.slots.size l.slots.ticket f f.release2 (mux_signal f.release2 (next_addr l.slots f) (const_signal l.slots.bits 0))
      (mux_signal f.release2 (next_value l f) (const_signal l.slots.width 0))
  unfolding mux_value const_value
  commit2_law = record {
    commits = λ s x a h d p. d.release2;
    commits_addr = λ s x a h d p. let c = turn s x a h d p in by_release2 l.slots (placed_signal l) s x f a c.cycle ((next_addr l.slots f).value s) (entry_at (filled_entries x a) 1).addr (next_addr_is l.slots (placed_signal l) s x f a c.cycle);
    commits_value = λ s x a h d p. let c = turn s x a h d p in by_release2 l.slots (placed_signal l) s x f a c.cycle ((next_value l f).value s) (or_zero (entry_at (filled_entries x a) 1).value) (commit1 l s x f a c);
  }
