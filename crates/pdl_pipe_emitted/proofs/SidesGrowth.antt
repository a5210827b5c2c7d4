-- How the circuits of an emission grow, one into the next, and which registers are left alone from where on.
use Rattle.std.proofs.Common.{◌≡◌, refl, ◌∙◌, ℕ, ◌<◌, ◌≤◌, inl, inr, length, arith}
use Rattle.std.specs.Prelude.{Option, Some, None}
use Rattle.pdl_semantics.specs.Flat.{Pipe}
use Rattle.pdl_net.specs.Circuit.{HasReg}
use Rattle.pdl_net.specs.Meaning.{next_signal}
use Rattle.pdl_net.specs.Growth.{Own, Outside, Keeps}
use Rattle.pdl_net.proofs.Keeps.{keeps_trans, extends_keeps, but_keeps, regs_grow}
use Rattle.pdl_lockapi.specs.Laws.{OwnKept}
use Rattle.pdl_port.specs.declared.PortRegs.{PortRegs}
use Rattle.pdl_port.specs.Laws as port_laws
use Rattle.pdl_order.specs.declared.OrderRegs.{OrderRegs}
use Rattle.pdl_order.specs.Laws as order_laws
use Rattle.pdl_law_sides.specs.HasSides.{HasOwn}
use Rattle.pdl_pipe_walk.specs.Locked.{Members, some_at}
use Rattle.pdl_pipe_beside.specs.Parts as parts
use Rattle.pdl_pipe_nexts.specs.Lines.{line_pipe}
use Rattle.pdl_pipe_nexts.specs.Nexts.{regs_of}
use Rattle.pdl_pipe_tails.specs.Tails.{GoOn}
use Rattle.pdl_pipe_emitted.specs.Emitted.{Nets, Emission}

-- what is so from some place on is outside each part that ends there or before, and each part that begins there or later leaves it out below
part_below : {X : Type 0} (own : X → Own) (o : Option X) (low r : ℕ) → ((x : X) → o ≡ Some x → (own x).to ≤ low)
    → low ≤ r → Outside (parts.own_of own o).from (parts.own_of own o).to r
part_below own None low r h l = inr (omega arith)
part_below own (Some x) low r h l = let e = h x refl in inr (omega (arith, e, l))

part_above : {X : Type 0} (own : X → Own) (o : Option X) (high r : ℕ) → ((x : X) → o ≡ Some x → high ≤ (own x).from)
    → r < high → Outside (parts.own_of own o).from (parts.own_of own o).to r
part_above own None high r h l = inr (omega arith)
part_above own (Some x) high r h l = let e = h x refl in inl (omega (arith, e, l))

module _ {T : Type 0} (l : Members T) (n : Nets T) (em : Emission l n) where
  abbrev p : Pipe
  p = line_pipe n.line

  -- ---- each circuit keeps what was there

  -- the circuit with the moves keeps what the first circuit has
  pub keeps_ab : Keeps em.a em.b
  keeps_ab = extends_keeps em.a em.b em.to_moves

  -- the circuit with the requests keeps what the one with the moves has
  pub keeps_bc : Keeps em.b em.c
  keeps_bc = extends_keeps em.b em.c em.to_requests

  -- the circuit with the stages connected keeps what the one with the requests has
  pub keeps_ce : Keeps em.c em.e
  keeps_ce = but_keeps (regs_of em.high (length em.c.regs)) em.c em.e em.to_nexts

  -- the circuit with the tails keeps what the one with the stages connected has
  pub keeps_ef : Keeps em.e em.f
  keeps_ef = extends_keeps em.e em.f em.to_tails

  -- the circuit after the steps of the ports keeps what the one with the tails has
  pub keeps_fg : Keeps em.f em.g
  keeps_fg = em.to_ports.keeps

  -- the circuit after the steps of the orders keeps what the one after the steps of the ports has
  pub keeps_gj : Keeps em.g em.j
  keeps_gj = em.to_orders.keeps

  -- the last circuit keeps what the one after the advisory writes has
  pub keeps_hd : Keeps em.h em.d
  keeps_hd = keeps_trans em.h em.i em.d em.to_locks.keeps em.keeps

  -- the last circuit keeps what the one after the steps of the orders has
  pub keeps_jd : Keeps em.j em.d
  keeps_jd = keeps_trans em.j em.h em.d em.to_advice.keeps keeps_hd

  -- the last circuit keeps what the one after the steps of the ports has
  pub keeps_gd : Keeps em.g em.d
  keeps_gd = keeps_trans em.g em.j em.d keeps_gj keeps_jd

  -- the last circuit keeps what the one with the tails has
  pub keeps_fd : Keeps em.f em.d
  keeps_fd = keeps_trans em.f em.g em.d keeps_fg keeps_gd

  -- the last circuit keeps what the one with the stages connected has
  pub keeps_ed : Keeps em.e em.d
  keeps_ed = keeps_trans em.e em.f em.d keeps_ef keeps_fd

  -- the last circuit keeps what the one with the requests has
  pub keeps_cd : Keeps em.c em.d
  keeps_cd = keeps_trans em.c em.e em.d keeps_ce keeps_ed

  -- the last circuit keeps what the one with the moves has
  pub keeps_bd : Keeps em.b em.d
  keeps_bd = keeps_trans em.b em.c em.d keeps_bc keeps_cd

  -- the circuit with the requests keeps what the first circuit has
  pub keeps_ac : Keeps em.a em.c
  keeps_ac = keeps_trans em.a em.b em.c keeps_ab keeps_bc

  -- the last circuit keeps what the first circuit has
  pub keeps_ad : Keeps em.a em.d
  keeps_ad = keeps_trans em.a em.b em.d keeps_ab keeps_bd

  -- the circuit with the stages connected keeps what the first circuit has
  pub keeps_ae : Keeps em.a em.e
  keeps_ae = keeps_trans em.a em.c em.e keeps_ac keeps_ce

  -- the circuit with the tails keeps what the one with the requests has
  pub keeps_cf : Keeps em.c em.f
  keeps_cf = keeps_trans em.c em.e em.f keeps_ce keeps_ef

  -- the circuit with the tails keeps what the first circuit has
  pub keeps_af : Keeps em.a em.f
  keeps_af = keeps_trans em.a em.e em.f keeps_ae keeps_ef

  -- the circuit after the steps of the ports keeps what the first circuit has
  pub keeps_ag : Keeps em.a em.g
  keeps_ag = keeps_trans em.a em.f em.g keeps_af keeps_fg

  -- the circuit after the steps of the ports keeps what the one with the requests has
  pub keeps_cg : Keeps em.c em.g
  keeps_cg = keeps_trans em.c em.f em.g keeps_cf keeps_fg

  -- the circuit with the tails keeps what the one with the moves has
  pub keeps_bf : Keeps em.b em.f
  keeps_bf = keeps_trans em.b em.c em.f keeps_bc keeps_cf

  -- the circuit after the steps of the ports keeps what the one with the moves has
  pub keeps_bg : Keeps em.b em.g
  keeps_bg = keeps_trans em.b em.f em.g keeps_bf keeps_fg

  -- ---- registers that are left alone

  -- from the registers of the ports on, once the orders have their steps
  after_orders : (r : ℕ) → em.low ≤ r → HasReg em.j r → next_signal em.d r ≡ next_signal em.j r
  after_orders r low has =
      let later = em.to_advice.keeps.has_reg r has in
      em.nexts r (em.to_locks.keeps.has_reg r later)
      ∙ em.to_locks.nexts r later (λ m k. let e = em.layout.locks_to m k in inr (omega (arith, e, low)))
      ∙ em.to_advice.nexts r has

  -- the registers of the ports take next what they took once the ports had their steps
  pub ports_alone : (r : ℕ) → em.low ≤ r → r < em.mid → HasReg em.g r → next_signal em.d r ≡ next_signal em.g r
  ports_alone r low high has =
      after_orders r low (keeps_gj.has_reg r has)
      ∙ em.to_orders.nexts r has (λ i k. part_above order_laws.own (some_at n.orders i) em.mid r (λ x e. em.layout.orders_from i x k e) high)

  -- the registers of the orders and later ones take next what they took once the orders had their steps
  pub orders_alone : (r : ℕ) → em.mid ≤ r → HasReg em.j r → next_signal em.d r ≡ next_signal em.j r
  orders_alone r low has = let order = em.layout.order.0 in after_orders r (omega (arith, order, low)) has

  -- the registers after those of the orders take next what they took once the tails had theirs
  pub later_alone : (r : ℕ) → em.high ≤ r → HasReg em.f r → next_signal em.d r ≡ next_signal em.f r
  later_alone r low has =
      let order = em.layout.order in
      let first = order.0 in
      let second = order.1 in
      after_orders r (omega (arith, first, second, low)) (keeps_gj.has_reg r (keeps_fg.has_reg r has))
      ∙ em.to_orders.nexts r (keeps_fg.has_reg r has)
      (λ i k. part_below order_laws.own (some_at n.orders i) em.high r (λ x e. em.layout.orders_to i x k e) low)
      ∙ em.to_ports.nexts r has
      (λ m k. part_below port_laws.own (some_at n.line.shared.now.ports.now m) em.mid r (λ x e. em.layout.ports_to m x k e) (omega (arith, second, low)))

  -- the registers of the tails take next what they took once the tails had theirs
  pub tails_alone : GoOn em.e em.f em.d
  tails_alone r low has =
      let grown = regs_grow em.a em.e keeps_ae in
      let order = em.layout.order in
      let last = order.2 in
      later_alone r (omega (arith, last, grown, low)) has

  -- ---- ports and orders keep what their registers take next

  -- what the registers of a memory's port take next stays as it is once the ports have their steps
  pub port_kept : (m : ℕ) (q : PortRegs) → m < length p.mems → some_at n.line.shared.now.ports.now m ≡ Some q
      → HasOwn em.a (port_laws.own q) → OwnKept (port_laws.own q) em.g em.d
  port_kept m q k e own =
      let low = em.layout.ports_from m q k e in
      let high = em.layout.ports_to m q k e in
      record {
        has_reg = λ r from to. keeps_ad.has_reg r (own.regs r from to);
        nexts = λ r from to. ports_alone r (omega (arith, low, from)) (omega (arith, high, to)) (keeps_ag.has_reg r (own.regs r from to));
        has_array = λ i from to. absurd (omega (arith, to));
        writes = λ i from to. absurd (omega (arith, to));
      }

  -- what the registers of a fork's order take next stays as it is once the orders have their steps
  pub order_kept : (i : ℕ) (q : OrderRegs) → i < length p.stages → some_at n.orders i ≡ Some q
      → HasOwn em.a (order_laws.own q) → OwnKept (order_laws.own q) em.j em.d
  order_kept i q k e own =
      let low = em.layout.orders_from i q k e in
      record {
        has_reg = λ r from to. keeps_ad.has_reg r (own.regs r from to);
        nexts = λ r from to. orders_alone r (omega (arith, low, from)) (keeps_gj.has_reg r (keeps_ag.has_reg r (own.regs r from to)));
        has_array = λ j from to. absurd (omega (arith, to));
        writes = λ j from to. absurd (omega (arith, to));
      }
