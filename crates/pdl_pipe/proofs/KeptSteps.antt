-- Locks, ports and orders as they stand while registers are told what they take next.
use Rattle.std.proofs.Common.{◌≡◌, ◌<◌, ◌≤◌, ℕ, false, sym, ap, ◌∙◌, length, List, arith}
use Rattle.std.specs.Prelude.{Option}
use Rattle.pdl_semantics.specs.Flat.{Pipe, is_delayed}
use Rattle.pdl_semantics.specs.Stages.{mem_at}
use Rattle.pdl_law_parts.specs.Places.{comb_place}
use Rattle.pdl_net.specs.declared.Net.{Net}
use Rattle.pdl_net.specs.Circuit.{Circuit, HasArray}
use Rattle.pdl_net.specs.Meaning.{write_signals}
use Rattle.pdl_net.specs.Growth.{Keeps}
use Rattle.pdl_net.proofs.Keeps.{but_keeps, extends_keeps, keeps_trans}
use Rattle.pdl_lockapi.specs.declared.LockNets.{LockNets}
use Rattle.pdl_order.specs.declared.OrderRegs.{OrderRegs}
use Rattle.pdl_pipe_beside.specs.declared.ends.StageEnd.{StageEnd}
use Rattle.pdl_pipe_beside.specs.declared.ends.Squashes.{Squashes}
use Rattle.pdl_pipe_registers.specs.declared.nets.StageNets.{StageNets}
use Rattle.pdl_pipe_nexts.specs.declared.line.StageLine.{StageLine}
use Rattle.pdl_pipe_nexts.specs.Nexts.{regs_of}
use Rattle.pdl_pipe_emitted.specs.pipe_tails.declared.whole.TailNets.{TailNets}
use Rattle.pdl_pipe.specs.Emitted.{HasSteps}
use Rattle.pdl_pipe_exprs.specs.Nets.{NetsThere, signals_in, widths_of}
use Rattle.pdl_pipe_exprs.proofs.NetLists.{there_keeps, signals_keep}
use Rattle.pdl_pipe_walk.specs.declared.locks.MemLock.{MemLock}
use Rattle.pdl_pipe_walk.specs.Locked.{Members, AreLocked, AreTickets}
use Rattle.pdl_pipe_registers.specs.Staged.{AreApart, next_signals}
use Rattle.pdl_pipe_registers.proofs.TicketsMade.{next_same, tickets_fit}
use Rattle.pdl_pipe_locks.specs.Lawful.{AreUnwritten}

-- the next tickets stay those of the locks
pub next_kept : {T : Type 0} (l : Members T) (a b : Circuit) (p : Pipe) (xs : List (Option (MemLock T))) (ts : List Net)
    → Keeps a b → AreLocked l a p xs → NetsThere a ts → signals_in a ts ≡ next_signals a xs
    → signals_in b ts ≡ next_signals b xs
next_kept l a b p xs ts e locked there is = signals_keep a b ts e there ∙ is ∙ sym (next_same l a b e p xs locked)

-- tickets as wide as the next ones fit
pub cut_fits : {T : Type 0} (l : Members T) (a b c : Circuit) (p : Pipe) (xs : List (Option (MemLock T))) (ts ns : List Net)
    → Keeps b c → AreLocked l c p xs → NetsThere b ts → widths_of (signals_in b ts) ≡ widths_of (signals_in a ns)
    → signals_in c ns ≡ signals_in a ns → signals_in c ns ≡ next_signals c xs → AreTickets l c xs ts
cut_fits l a b c p xs ts ns e locked there wide same is =
    tickets_fit l c c p xs ts locked (there_keeps b c ts e there) (ap widths_of (signals_keep b c ts e there) ∙ wide ∙ ap widths_of (sym same ∙ is))

-- nothing writes arrays while registers alone are told
pub unwritten_kept : (a b : Circuit) (p : Pipe)
    → ((k : ℕ) → HasArray a k → write_signals b k ≡ write_signals a k)
    → ((m : ℕ) → m < length p.mems → is_delayed (mem_at p m).kind ≡ false → HasArray a (comb_place p m)) → AreUnwritten a p
    → AreUnwritten b p
unwritten_kept a b p same has h m low once = same (comb_place p m) (has m low once) ∙ h m low once

-- registers of stages stand apart from a lower one on too
pub apart_from : (low high high' : ℕ) (ss : List StageNets)
    → high ≤ high' → AreApart low high ss → (other : ℕ) → other ≤ low → AreApart other high' ss
apart_from low high high' ss l h other m = record {
  from = λ k s q is. let f = h.from k s q is in omega (arith, f, m);
  to = λ k s q is. let t = h.to k s q is in omega (arith, t, l);
  apart = h.apart;
}

-- all steps keep the nets
pub steps_keep : {T : Type 0} (l : Members T) (c i : Circuit) (x : StageLine) (locks : List (Option (MemLock T)))
    (forks : List (Option OrderRegs)) (es : List StageEnd) (squash : Net) (squashes : Squashes) (tails : TailNets)
    (commits : List (Option LockNets))
    → AreApart 0 (length c.regs) x.stages.now → HasSteps l c i x locks forks es squash squashes tails commits → Keeps c i
steps_keep l c i x locks forks es squash squashes tails commits apart s =
    let ce = but_keeps (regs_of 0 (length c.regs)) c s.e (s.to_nexts 0 apart) in
    let cf = keeps_trans c s.e s.f ce (extends_keeps s.e s.f s.to_tails) in
    let cg = keeps_trans c s.f s.g cf s.to_ports.keeps in
    let cj = keeps_trans c s.g s.j cg s.to_orders.keeps in
    keeps_trans c s.last.h i (keeps_trans c s.j s.last.h cj s.last.to_advice.keeps) s.last.to_locks.keeps
