-- The circuits of an emission: each keeps what those before it have, and most registers and arrays take next what they took.
use Rattle.std.proofs.Common.{◌≡◌, refl, sym, ap, subst, ℕ, ◌<◌, ◌≤◌, ◌∙◌, false, List, [], ◌++◌, length, inr, arith}
use Rattle.std.specs.Prelude.{Option, Some, None}
use Rattle.pdl_semantics.specs.Flat.{Pipe, is_delayed}
use Rattle.pdl_semantics.specs.Stages.{mem_at}
use Rattle.pdl_net.specs.Circuit.{HasArray}
use Rattle.pdl_net.specs.Meaning.{WriteSignal, next_signal, write_signals}
use Rattle.pdl_net.specs.Growth.{Outside, Keeps}
use Rattle.pdl_net.proofs.Keeps.{keeps_trans, extends_keeps, but_keeps}
use Rattle.pdl_lockapi.specs.Laws.{first_array, end_array, OwnKept}
use Rattle.pdl_port.specs.declared.PortRegs.{PortRegs}
use Rattle.pdl_port.specs.Laws as port_laws
use Rattle.pdl_order.specs.declared.OrderRegs.{OrderRegs}
use Rattle.pdl_order.specs.Laws as order_laws
use Rattle.pdl_law_parts.specs.Walk.{is_locked}
use Rattle.pdl_law_parts.specs.Places.{comb_place}
use Rattle.pdl_pipe_beside.specs.Parts as parts
use Rattle.pdl_pipe_walk.specs.declared.locks.MemLock.{MemLock}
use Rattle.pdl_pipe_walk.specs.Locked.{Members, some_at}
use Rattle.pdl_pipe_nexts.specs.Lines.{line_pipe}
use Rattle.pdl_pipe_nexts.specs.Nexts.{regs_of}
use Rattle.pdl_pipe_locks.specs.Advised.{advises_in}
use Rattle.pdl_pipe_locks.specs.Stepped.{own_of}
use Rattle.pdl_pipe_locks.proofs.Law.{plain_writes}
use Rattle.pdl_pipe_locks.proofs.Places.{own_place}
use Rattle.pdl_pipe_emitted.specs.Emitted.{Nets, Emission}
use Rattle.pdl_pipe_nexts.proofs.ConnectedRegisters.{has_low}

module _ {T : Type 0} (l : Members T) (n : Nets T) (em : Emission l n) where
  abbrev p : Pipe
  p = line_pipe n.line

  abbrev ports : List (Option PortRegs)
  ports = n.line.shared.now.ports.now

  -- ---- from circuit to circuit

  -- the circuit with the moves keeps what the first circuit has
  pub keeps_ab : Keeps em.a em.b
  keeps_ab = extends_keeps em.a em.b em.to_moves

  -- the circuit with the requests keeps what the one with the moves has
  pub keeps_bc : Keeps em.b em.c
  keeps_bc = extends_keeps em.b em.c em.to_requests

  -- the circuit with the stages connected keeps what the one with the requests has
  pub keeps_ce : Keeps em.c em.e
  keeps_ce = but_keeps (regs_of em.high (length em.c.regs)) em.c em.e em.to_nexts

  -- the circuit with the tails keeps what the one with the stages connected has
  pub keeps_ef : Keeps em.e em.f
  keeps_ef = extends_keeps em.e em.f em.to_tails

  -- the circuit after the steps of the orders keeps what the one with the tails has
  pub keeps_fj : Keeps em.f em.j
  keeps_fj = keeps_trans em.f em.g em.j em.to_ports.keeps em.to_orders.keeps

  -- the circuit after the advisory writes keeps what the one with the tails has
  pub keeps_fh : Keeps em.f em.h
  keeps_fh = keeps_trans em.f em.j em.h keeps_fj em.to_advice.keeps

  -- the circuit after the steps of the locks keeps what the one after the advisory writes has
  pub keeps_hi : Keeps em.h em.i
  keeps_hi = em.to_locks.keeps

  -- the circuit with the requests keeps what the first circuit has
  pub keeps_ac : Keeps em.a em.c
  keeps_ac = keeps_trans em.a em.b em.c keeps_ab keeps_bc

  -- the circuit with the stages connected keeps what the first circuit has
  pub keeps_ae : Keeps em.a em.e
  keeps_ae = keeps_trans em.a em.c em.e keeps_ac keeps_ce

  -- the circuit with the tails keeps what the first circuit has
  pub keeps_af : Keeps em.a em.f
  keeps_af = keeps_trans em.a em.e em.f keeps_ae keeps_ef

  -- the circuit after the steps of the ports keeps what the first circuit has
  pub keeps_ag : Keeps em.a em.g
  keeps_ag = keeps_trans em.a em.f em.g keeps_af em.to_ports.keeps

  -- the circuit after the steps of the orders keeps what the first circuit has
  pub keeps_aj : Keeps em.a em.j
  keeps_aj = keeps_trans em.a em.g em.j keeps_ag em.to_orders.keeps

  -- the circuit after the advisory writes keeps what the first circuit has
  pub keeps_ah : Keeps em.a em.h
  keeps_ah = keeps_trans em.a em.j em.h keeps_aj em.to_advice.keeps

  -- the circuit after the steps of the locks keeps what the first circuit has
  pub keeps_ai : Keeps em.a em.i
  keeps_ai = keeps_trans em.a em.h em.i keeps_ah keeps_hi

  -- the last circuit keeps what the first circuit has
  pub keeps_ad : Keeps em.a em.d
  keeps_ad = keeps_trans em.a em.i em.d keeps_ai em.keeps

  -- the circuit after the advisory writes keeps what the one with the stages connected has
  pub keeps_eh : Keeps em.e em.h
  keeps_eh = keeps_trans em.e em.f em.h keeps_ef keeps_fh

  -- the circuit after the advisory writes keeps what the one with the requests has
  pub keeps_ch : Keeps em.c em.h
  keeps_ch = keeps_trans em.c em.e em.h keeps_ce keeps_eh

  -- the circuit after the steps of the orders keeps what the one with the requests has
  pub keeps_cj : Keeps em.c em.j
  keeps_cj = keeps_trans em.c em.e em.j keeps_ce (keeps_trans em.e em.f em.j keeps_ef keeps_fj)

  -- the circuit after the advisory writes keeps what the one with the moves has
  pub keeps_bh : Keeps em.b em.h
  keeps_bh = keeps_trans em.b em.c em.h keeps_bc keeps_ch

  -- the last circuit keeps what the one after the advisory writes has
  pub keeps_hd : Keeps em.h em.d
  keeps_hd = keeps_trans em.h em.i em.d keeps_hi em.keeps

  -- the last circuit keeps what the one with the stages connected has
  pub keeps_ed : Keeps em.e em.d
  keeps_ed = keeps_trans em.e em.h em.d keeps_eh keeps_hd

  -- the last circuit keeps what the one with the tails has
  pub keeps_fd : Keeps em.f em.d
  keeps_fd = keeps_trans em.f em.h em.d keeps_fh keeps_hd

  -- the last circuit keeps what the one with the requests has
  pub keeps_cd : Keeps em.c em.d
  keeps_cd = keeps_trans em.c em.h em.d keeps_ch keeps_hd

  -- the last circuit keeps what the one with the moves has
  pub keeps_bd : Keeps em.b em.d
  keeps_bd = keeps_trans em.b em.c em.d keeps_bc keeps_cd

  -- ---- registers of the stages

  -- no port has a register from `mid` on, no order one from `high` on, and no lock one from `low` on
  after_port : (r : ℕ) → em.high ≤ r → (m : ℕ) → m < length p.mems → Outside (parts.own_at port_laws.own ports m).from (parts.own_at port_laws.own ports m).to r
  after_port r from m low = at (some_at ports m) refl
    where
      at : (o : Option PortRegs) → some_at ports m ≡ o → Outside (parts.own_of port_laws.own o).from (parts.own_of port_laws.own o).to r
      at None e = inr (omega arith)
      at (Some q) e = let to = em.layout.ports_to m q low e in let over = em.layout.order.1 in inr (omega (arith, to, over, from))

  after_order : (r : ℕ) → em.high ≤ r → (k : ℕ) → k < length p.stages
      → Outside (parts.own_at order_laws.own n.orders k).from (parts.own_at order_laws.own n.orders k).to r
  after_order r from k low = at (some_at n.orders k) refl
    where
      at : (o : Option OrderRegs) → some_at n.orders k ≡ o → Outside (parts.own_of order_laws.own o).from (parts.own_of order_laws.own o).to r
      at None e = inr (omega arith)
      at (Some q) e = let to = em.layout.orders_to k q low e in inr (omega (arith, to, from))

  after_lock : (r : ℕ) → em.high ≤ r → (m : ℕ) → m < length p.mems → Outside (own_of (some_at n.locks m)).from (own_of (some_at n.locks m)).to r
  after_lock r from m low = let to = em.layout.locks_to m low in let under = em.layout.order.0 in
      let over = em.layout.order.1 in inr (omega (arith, to, under, over, from))

  -- a stage's register takes next what it took once it was connected
  pub stage_nexts : (r : ℕ) → em.high ≤ r → r < length em.a.regs → next_signal em.d r ≡ next_signal em.e r
  stage_nexts r from to =
      let has = has_low em.a r to in
      em.nexts r (keeps_ai.has_reg r has)
      ∙ em.to_locks.nexts r (keeps_ah.has_reg r has) (after_lock r from)
      ∙ em.to_advice.nexts r (keeps_aj.has_reg r has)
      ∙ em.to_orders.nexts r (keeps_ag.has_reg r has) (after_order r from)
      ∙ em.to_ports.nexts r (keeps_af.has_reg r has) (after_port r from)
      ∙ em.to_tails.nexts r (keeps_ae.has_reg r has)

  -- ---- arrays

  -- nothing writes an array before the advisory writes
  unwritten_before : (m : ℕ) → m < length p.mems → is_delayed (mem_at p m).kind ≡ false → write_signals em.j (comb_place p m) ≡ []
  unwritten_before m low once =
      let i = comb_place p m in
      let has = em.layout.locked.has_array m low once in
      em.to_orders.writes i (keeps_ag.has_array i has)
      ∙ em.to_ports.writes i (keeps_af.has_array i has)
      ∙ em.to_tails.writes i (keeps_ae.has_array i has)
      ∙ em.to_nexts.writes i (keeps_ac.has_array i has) (inr (omega arith))
      ∙ em.to_requests.writes i (keeps_ab.has_array i has)
      ∙ em.to_moves.writes i has
      ∙ em.layout.unwritten m low once

  -- nothing else writes that of a memory without lock
  pub advised_after : (m : ℕ) → m < length p.mems → is_locked p m ≡ false → is_delayed (mem_at p m).kind ≡ false
      → write_signals em.d (comb_place p m) ≡ advises_in em.j n.deeds m
  advised_after m low free once =
      em.writes (comb_place p m) (keeps_ai.has_array (comb_place p m) (em.layout.locked.has_array m low once))
      ∙ plain_writes l em.a p n.locks em.layout.locked em.layout.lawful em.h em.i m keeps_ah em.to_locks once low free
      ∙ em.to_advice.plain m low free once
      ∙ ap (λ (ws : List WriteSignal). ws ++ advises_in em.j n.deeds m) (unwritten_before m low once)

  -- ---- registers and arrays of the locks

  -- registers and arrays of the locks take next what they took once the locks had their steps
  pub lock_kept : (m : ℕ) → m < length p.mems → OwnKept (own_of (some_at n.locks m)) em.i em.d
  lock_kept m low = at (some_at n.locks m) refl
    where
      at : (o : Option (MemLock T)) → some_at n.locks m ≡ o → OwnKept (own_of o) em.i em.d
      at None e = record {
        has_reg = λ k lo hi. absurd (omega (arith, hi));
        nexts = λ k lo hi. absurd (omega (arith, hi));
        has_array = λ k lo hi. absurd (omega (arith, hi));
        writes = λ k lo hi. absurd (omega (arith, hi));
      }
      at (Some y) e =
          let law = em.layout.lawful.laws m y low e in
          let it = em.layout.locked.locks m y low e in
          let there : (k : ℕ) → first_array y.regs.array ≤ k → k < end_array y.regs.array → HasArray em.i k = λ k lo hi.
          let q = own_place (mem_at p m) (comb_place p m) y.regs.array it.array k lo hi in
          subst (HasArray em.i) (sym q.1) (keeps_ai.has_array (comb_place p m) (em.layout.locked.has_array m low q.0)) in
          record {
            has_reg = λ k lo hi. keeps_ad.has_reg k (law.regs k lo hi);
            nexts = λ k lo hi. em.nexts k (keeps_ai.has_reg k (law.regs k lo hi));
            has_array = λ k lo hi. em.keeps.has_array k (there k lo hi);
            writes = λ k lo hi. em.writes k (there k lo hi);
          }
