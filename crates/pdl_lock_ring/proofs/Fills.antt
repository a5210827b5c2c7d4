-- What the loops that fill the slots add in each turn.
use Rattle.std.proofs.Common.{◌≡◌, ℕ, zero, suc, ◌+◌, ◌<◌, refl, ap, ◌∙◌, add-one, length}
use Rattle.std.specs.Prelude.{slice_index_or}
use Rattle.std.proofs.lemmas.List.{get_or-map, length-map}
use Rattle.pdl_net.specs.Circuit.{Circuit}
use Rattle.pdl_net.specs.declared.BinOp.TheVariants.{Eq}
use Rattle.pdl_net.specs.Signal.{Signal, reg_signal, const_signal, bin_signal, mux_signal}
use Rattle.pdl_lockapi.specs.declared.LockPorts.{LockPorts}
use Rattle.pdl_lockapi.specs.declared.TicketWrite.{TicketWrite}
use Rattle.pdl_lockapi.specs.Laws.{StepSignals, step_signals, ticket_at, ticket_signal, no_ticket}
use Rattle.pdl_lock_ring.specs.declared.layout.RingLayout.{RingLayout}
use Rattle.pdl_lock_ring.specs.declared.layout.Content.TheVariants.{Value, Place}
use Rattle.pdl_lock_ring.specs.Slots.{has_at}
use Rattle.pdl_lock_ring.specs.Steps.{first_addr, second_addr, first_slot, second_slot, takes_first, takes_second, reserved_addr, written_slot, fills_slot, filled_bit, filled_value, content_after}

-- a write of a step has the signals of its write port's nets
pub ticket_is : (c : Circuit) (p : LockPorts) (k : ℕ) (q : TicketWrite)
    → k < length p.writes → slice_index_or p.writes k q ≡ q → ticket_at (step_signals c p).writes k ≡ ticket_signal c q
unfolding step_signals
ticket_is c p k q h e = get_or-map (ticket_signal c) p.writes k q no_ticket h ∙ ap (ticket_signal c) e

-- a step has as many writes as there are write ports
pub writes_count : (c : Circuit) (p : LockPorts) → length (step_signals c p).writes ≡ length p.writes
unfolding step_signals
writes_count c p = length-map p.writes (ticket_signal c)

-- a slot takes the address of the second reservation or of the first where that takes it, else keeps its own
pub reserved_addr_is : (l : RingLayout) (f : StepSignals) (a t : Signal)
    → reserved_addr l f a t ≡ mux_signal (bin_signal Eq (second_slot l f) t) (second_addr l f) (mux_signal (bin_signal Eq (first_slot l f) t) (first_addr l f) a)
unfolding reserved_addr
reserved_addr_is l f a t = refl

-- equal addresses of equal slots are equal after equal reservations
pub same_reserved : (l : RingLayout) (f f' : StepSignals) (a a' t t' : Signal) → f ≡ f' → a ≡ a' → t ≡ t'
    → reserved_addr l f a t ≡ reserved_addr l f' a' t'
same_reserved l f f' a a' t t' p q r = cc

-- equal values of equal slots are equal after as many equal write ports
pub same_filled : (l : RingLayout) (f f' : StepSignals) (a a' t t' : Signal) (j j' : ℕ) → f ≡ f' → a ≡ a' → t ≡ t' → j ≡ j'
    → filled_value l f a t j ≡ filled_value l f' a' t' j'
same_filled l f f' a a' t t' j j' p q r u = cc

-- equal contents of equal slots are equal after equal writes
pub same_content : (l : RingLayout) (f f' : StepSignals) (a a' t t' : Signal) → f ≡ f' → a ≡ a' → t ≡ t'
    → content_after l.content l f a t ≡ content_after l.content l f' a' t'
same_content l f f' a a' t t' p q r =
    ap (λ (g : StepSignals). content_after l.content l g a t) p
    ∙ ap (λ v. content_after l.content l f' v t) q ∙ ap (λ v. content_after l.content l f' a' v) r

-- before any write, a slot that a reservation takes has no value, and another keeps its bit
pub bit_none : (l : RingLayout) (f : StepSignals) (k : ℕ)
    → filled_bit l f k 0
    ≡ mux_signal (takes_second l f k) (const_signal 1 0) (mux_signal (takes_first l f k) (const_signal 1 0) (reg_signal 1 (has_at l k)))
unfolding filled_bit
bit_none l f k = refl

-- after one write port more, a slot has its value where that port fills it, and else as before
pub bit_more : (l : RingLayout) (f : StepSignals) (k j : ℕ)
    → filled_bit l f k (j + 1) ≡ mux_signal (fills_slot l f k j) (const_signal 1 1) (filled_bit l f k j)
unfolding filled_bit
bit_more l f k j = ap (λ n. filled_bit l f k n) (add-one j)

-- whether a slot has its value is told by 1 bit
pub bit_width : (l : RingLayout) (f : StepSignals) (k j : ℕ) → (filled_bit l f k j).width ≡ 1
unfolding filled_bit
bit_width l f k zero = refl
bit_width l f k (suc j) = refl

-- before any write, a slot's value is the one that it had
pub value_none : (l : RingLayout) (f : StepSignals) (v t : Signal) → filled_value l f v t 0 ≡ v
unfolding filled_value
value_none l f v t = refl

-- after one write port more, a slot has that port's value where it fills the slot, else what it had
pub value_more : (l : RingLayout) (f : StepSignals) (v t : Signal) (j : ℕ)
    → filled_value l f v t (j + 1) ≡ mux_signal (bin_signal Eq (written_slot l f j) t) (ticket_at f.writes j).value (filled_value l f v t j)
unfolding filled_value
value_more l f v t j = ap (λ n. filled_value l f v t n) (add-one j)

pub ruleset filling = (bit_none, bit_more, bit_width, value_none, value_more, writes_count)

-- what a slot holds after the writes
pub content_value : (l : RingLayout) (f : StepSignals) (v t : Signal)
    → l.content ≡ Value → content_after l.content l f v t ≡ filled_value l f v t (length f.writes)
content_value l f v t e = ap (λ x. content_after x l f v t) e

-- a slot that keeps a place keeps it through a step
pub content_place : (l : RingLayout) (f : StepSignals) (v t : Signal) → l.content ≡ Place → content_after l.content l f v t ≡ v
content_place l f v t e = ap (λ x. content_after x l f v t) e

pub ruleset contents = (content_value, content_place, writes_count)
