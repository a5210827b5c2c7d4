-- What the reserve ports ask, one port after the other.
use Rattle.std.proofs.Common.{◌≡◌, ℕ, zero, suc, ◌+◌, ◌<◌, refl, ap, sym, ◌∙◌, add-one, length}
use Rattle.std.specs.Prelude.{slice_index_or}
use Rattle.std.proofs.lemmas.List.{get_or-map, length-map}
use Rattle.pdl_net.specs.Circuit.{Circuit}
use Rattle.pdl_net.specs.declared.Net.{Net}
use Rattle.pdl_net.specs.Signal.{Signal, const_signal, mux_signal}
use Rattle.pdl_net.specs.Meaning.{signal, IsThere, Means}
use Rattle.pdl_net.specs.Growth.{Keeps}
use Rattle.pdl_net.proofs.Keeps.{means_keeps}
use Rattle.pdl_lockapi.specs.declared.LockPorts.{LockPorts}
use Rattle.pdl_lockapi.specs.declared.ReservePort.{ReservePort}
use Rattle.pdl_lockapi.specs.declared.Kind.{Kind}
use Rattle.pdl_lockapi.specs.declared.Kind.TheVariants.{R, W}
use Rattle.pdl_lockapi.specs.Laws.{PortsFit, enabled_reserve, StepSignals, step_signals, reserve_at, reserve_signal, no_reserve}
use Rattle.pdl_lock_ring.specs.declared.layout.RingLayout.{RingLayout}
use Rattle.pdl_lock_ring.specs.declared.taken.Asked.{Asked}
use Rattle.pdl_lock_ring.specs.Looks.{youngest_look, net_by_kind, slot_of, tail_signal, second_ticket}
use Rattle.pdl_lock_ring.specs.Asks.{IsAsked, IsAskedNext}
use Rattle.pdl_lock_ring.specs.Steps.{push_signal, push2_signal, last_addr, before_addr, pushes, pushes2, first_addr, second_addr, first_slot, second_slot}
use Rattle.pdl_lock_ring.proofs.RingGrowth.{wide_later}

-- whether a look at the youngest older write is ready is a signal of 1 bit, for reading and for writing
pub picked_width : (u : Kind) (f : Signal) → f.width ≡ 1 → (youngest_look u f).width ≡ 1
picked_width R f h = h
picked_width W f h = refl

-- whether a look is ready goes by its kind: a write waits for nothing
pub picked_means : (c : Circuit) (u : Kind) (ready one : Net) → IsThere c ready → Means c one (const_signal 1 1)
    → Means c (net_by_kind u ready one) (youngest_look u (signal c ready))
picked_means c R ready one h i = record { there = h; same = refl }
picked_means c W ready one h i = i

-- a reservation for reading takes no entry
pub taken_means : (c : Circuit) (u : Kind) (none enable : Net) → Means c none (const_signal 1 0) → IsThere c enable
    → Means c (net_by_kind u none enable) (enabled_reserve u (signal c enable))
taken_means c R none enable h i = h
taken_means c W none enable h i = record { there = i; same = refl }

-- the signals of a reserve port
pub reserve_is : (c : Circuit) (p : LockPorts) (k : ℕ) (q : ReservePort)
    → k < length p.reserves → slice_index_or p.reserves k q ≡ q
    → reserve_at (step_signals c p).reserves k ≡ reserve_signal c q
unfolding step_signals
reserve_is c p k q h e = get_or-map (reserve_signal c) p.reserves k q no_reserve h ∙ ap (reserve_signal c) e

enabled_one : (k : Kind) (f : Signal) → f.width ≡ 1 → (enabled_reserve k f).width ≡ 1
enabled_one R f h = refl
enabled_one W f h = h

-- the signal that enables a reserve port has 1 bit
pub reserve_width : (c : Circuit) (bits width w : ℕ) (p : LockPorts) (k : ℕ) (q : ReservePort)
    → PortsFit c bits width w p → k < length p.reserves → slice_index_or p.reserves k q ≡ q
    → (enabled_reserve q.kind (signal c q.enable)).width ≡ 1
reserve_width c bits width w p k q f h e = enabled_one q.kind (signal c q.enable) (f.ask_one k q h e)

-- a step has as many signals of reserve ports as it has reserve ports
pub reserves_count : (c : Circuit) (p : LockPorts) → length (step_signals c p).reserves ≡ length p.reserves
unfolding step_signals
reserves_count c p = length-map p.reserves (reserve_signal c)

push_more : (f : StepSignals) (k : ℕ)
    → push_signal f (k + 1) ≡ mux_signal (reserve_at f.reserves k).enable (const_signal 1 1) (push_signal f k)
unfolding push_signal
push_more f k = ap (λ n. push_signal f n) (add-one k)

push2_more : (f : StepSignals) (k : ℕ)
    → push2_signal f (k + 1) ≡ mux_signal (reserve_at f.reserves k).enable (push_signal f k) (push2_signal f k)
unfolding push2_signal
push2_more f k = ap (λ n. push2_signal f n) (add-one k)

last_more : (bits : ℕ) (f : StepSignals) (k : ℕ)
    → last_addr bits f (k + 1) ≡ mux_signal (reserve_at f.reserves k).enable (reserve_at f.reserves k).addr (last_addr bits f k)
unfolding last_addr
last_more bits f k = ap (λ n. last_addr bits f n) (add-one k)

before_more : (bits : ℕ) (f : StepSignals) (k : ℕ)
    → before_addr bits f (k + 1) ≡ mux_signal (reserve_at f.reserves k).enable (last_addr bits f k) (before_addr bits f k)
unfolding before_addr
before_more bits f k = ap (λ n. before_addr bits f n) (add-one k)

-- whether one of the first k reserve ports asks is a signal of 1 bit
pub push_width : (f : StepSignals) (k : ℕ) → (push_signal f k).width ≡ 1
unfolding push_signal
push_width f zero = refl
push_width f (suc k) = refl

-- whether two of the first k reserve ports ask is a signal of 1 bit
pub push2_width : (f : StepSignals) (k : ℕ) → (push2_signal f k).width ≡ 1
unfolding push2_signal
push2_width f zero = refl
push2_width f (suc k) = push_width f k

-- before the first port nothing is asked
pub asked_none : (c : Circuit) (l : RingLayout) (f : StepSignals) (nought none : Net)
    → Means c nought (const_signal 1 0) → Means c none (const_signal l.bits 0)
    → IsAsked c l f 0 (record { one = nought; two = nought; last = none; before = none })
unfolding push_signal push2_signal last_addr before_addr
asked_none c l f nought none m n = record {
  one = m;
  two = m;
  last = n;
  before = n;
  last_wide = ap (λ (g : Signal). g.width) n.same;
  before_wide = ap (λ (g : Signal). g.width) n.same;
}

same_choice : (c x y x' y' : Signal) → x ≡ x' → y ≡ y' → mux_signal c x y ≡ mux_signal c x' y'
same_choice c x y x' y' e f = cc

-- what was asked by the first k ports, and by one port more, is what was asked by k + 1 ports
pub asked_more : (a c : Circuit) (l : RingLayout) (f : StepSignals) (k : ℕ) (y x : Asked) → IsAsked a l f k y
    → IsAskedNext a c l f k y x → IsAsked c l f (k + 1) x
asked_more a c l f k y x i n =
    let e = (reserve_at f.reserves k).enable in
    record {
      one =
          record {
            there = n.one.there;
            same = n.one.same ∙ same_choice e (const_signal 1 1) (signal a y.one) (const_signal 1 1) (push_signal f k) refl i.one.same ∙ sym (push_more f k);
          };
      two =
          record {
            there = n.two.there;
            same =
                n.two.same ∙ same_choice e (signal a y.one) (signal a y.two) (push_signal f k) (push2_signal f k) i.one.same i.two.same ∙ sym (push2_more f k);
          };
      last =
          record {
            there = n.last.there;
            same =
                n.last.same
                ∙ same_choice e (reserve_at f.reserves k).addr (signal a y.last) (reserve_at f.reserves k).addr (last_addr l.bits f k) refl i.last.same
                ∙ sym (last_more l.bits f k);
          };
      before =
          record {
            there = n.before.there;
            same =
                n.before.same
                ∙ same_choice e (signal a y.last) (signal a y.before) (last_addr l.bits f k) (before_addr l.bits f k) i.last.same i.before.same
                ∙ sym (before_more l.bits f k);
          };
      last_wide = n.last_wide;
      before_wide = n.before_wide;
    }

asked_keep : (a b : Circuit) (l : RingLayout) (f : StepSignals) (k : ℕ) (x : Asked) → IsAsked a l f k x → Keeps a b → IsAsked b l f k x
asked_keep a b l f k x i y = record {
  one = means_keeps a b x.one _ y i.one;
  two = means_keeps a b x.two _ y i.two;
  last = means_keeps a b x.last _ y i.last;
  before = means_keeps a b x.before _ y i.before;
  last_wide = wide_later a b x.last _ l.bits y i.last i.last_wide;
  before_wide = wide_later a b x.before _ l.bits y i.before i.before_wide;
}

-- ---- what the reservations are given

-- the address of the first reservation: of the last but one port that asks where two do, else of the last
pub first_addr_is : (l : RingLayout) (f : StepSignals)
    → first_addr l f ≡ mux_signal (pushes2 f) (before_addr l.bits f (length f.reserves)) (last_addr l.bits f (length f.reserves))
unfolding first_addr
first_addr_is l f = refl

-- the address of the second reservation: that of the last port that asks
pub second_addr_is : (l : RingLayout) (f : StepSignals) → second_addr l f ≡ last_addr l.bits f (length f.reserves)
unfolding second_addr
second_addr_is l f = refl

-- the slot of the first reservation: that of the tail where a port asks, else the number of slots
pub first_slot_is : (l : RingLayout) (f : StepSignals)
    → first_slot l f ≡ mux_signal (pushes f) (slot_of l (tail_signal l)) (const_signal l.ticket l.size)
unfolding first_slot
first_slot_is l f = refl

-- the slot of the second reservation: that after the tail's where two ports ask, else the number of slots
pub second_slot_is : (l : RingLayout) (f : StepSignals)
    → second_slot l f ≡ mux_signal (pushes2 f) (slot_of l (second_ticket l)) (const_signal l.ticket l.size)
unfolding second_slot
second_slot_is l f = refl
