-- The calls of a step in turn, and what they leave.
use Rattle.std.proofs.Common.{List, [], ◌∷◌, ◌++◌, ◌≡◌, ℕ, ◌+◌, ◌*◌, ◌<◌, ◌≤◌, ap, ◌∙◌, sym, refl, arith, inl, inr, ⊎_elim}
use Rattle.std.specs.Prelude.{Option, Some, None}
use Rattle.pdl_net.specs.Circuit.{Circuit, State, HasArray}
use Rattle.pdl_net.specs.Signal.{Signal}
use Rattle.pdl_net.specs.Meaning.{next_signal, WriteSignal, write_signals}
use Rattle.pdl_net.specs.Growth.{Own, Outside, Keeps, Extends, ExtendsBut}
use Rattle.pdl_net.proofs.Keeps.{means_keeps, but_trans, but_extends}
use Rattle.pdl_lockapi.specs.declared.LockNets.{LockNets}
use Rattle.pdl_lockapi.specs.Laws.{StepSignals, HasNoPorts, after_writes}
use Rattle.pdl_lock_ring.specs.declared.layout.RingLayout.{RingLayout}
use Rattle.pdl_lock_ring.specs.Slots.{HasSlots, addr_at, has_at, value_at}
use Rattle.pdl_lock_ring.specs.Oldest.{AreCommits}
use Rattle.pdl_lock_ring.specs.Steps.{slot_addr, slot_bit, slot_value, NextAddrs, NextBits, NextContents, NextEnds, own_reg, own_row, own_slots, own_contents, own_ends, own_array, own_all, WritesArray, two_writes}
use Rattle.pdl_lock_ring.proofs.RingGrowth.{but_wider, wide_later}
use Rattle.pdl_lock_ring.proofs.RingValues.{if_zero}
use Rattle.pdl_word.proofs.Numbers.{upto}

-- no port writes the array after a change of registers alone
pub no_ports_kept : (o : Own) (a b : Circuit) (array : Option ℕ)
    → o.last ≡ 0 → ((m : ℕ) → array ≡ Some m → HasArray a m) → HasNoPorts array a → ExtendsBut o a b
    → HasNoPorts array b
no_ports_kept o a b None e h n x = tt
no_ports_kept o a b (Some m) e h n x = x.writes m (h m refl) (inr (omega (arith, e))) ∙ n

-- no port writes the array in an extended circuit, where none wrote it before
pub no_ports_extended : (a b : Circuit) (array : Option ℕ)
    → ((m : ℕ) → array ≡ Some m → HasArray a m) → HasNoPorts array a → Extends a b → HasNoPorts array b
no_ports_extended a b None h n x = tt
no_ports_extended a b (Some m) h n x = x.writes m (h m refl) ∙ n

-- a part of a row changes no more than the row
pub reg_in_row : (from n r : ℕ) (a b : Circuit) → from ≤ r → r < from + n → ExtendsBut (own_reg r) a b → ExtendsBut (own_row from n) a b
reg_in_row from n r a b lo hi x = but_wider (own_reg r) (own_row from n) a b
    (λ k o. ⊎_elim (λ (h : k < from). inl (omega (arith, h, lo))) (λ (h : from + n ≤ k). inr (omega (arith, h, hi))) o)
    (λ m o. inr (omega arith)) x

-- what changes only a part of a row of registers changes only the row
pub row_in_row : (from n first m : ℕ) (a b : Circuit)
    → from ≤ first → first + m ≤ from + n → ExtendsBut (own_row first m) a b → ExtendsBut (own_row from n) a b
row_in_row from n first m a b lo hi x = but_wider (own_row first m) (own_row from n) a b
    (λ k o. ⊎_elim (λ (h : k < from). inl (omega (arith, h, lo))) (λ (h : from + n ≤ k). inr (omega (arith, h, hi))) o)
    (λ k o. inr (omega arith)) x

-- what changes only a row of a ring's registers changes only the ring
pub row_in_all : (l : RingLayout) (from n : ℕ) (a b : Circuit)
    → l.from ≤ from → from + n ≤ l.from + (2 + 3 * l.size) → ExtendsBut (own_row from n) a b
    → ExtendsBut (own_all l) a b
row_in_all l from n a b lo hi x = but_wider (own_row from n) (own_all l) a b
    (λ k o. ⊎_elim (λ (h : k < l.from). inl (omega (arith, h, lo))) (λ (h : l.from + (2 + 3 * l.size) ≤ k). inr (omega (arith, h, hi))) o)
    (λ m o. inr (omega arith)) x

-- what changes only a ring's array changes only the ring
pub array_in_all : (l : RingLayout) (a b : Circuit) → ExtendsBut (own_array l) a b → ExtendsBut (own_all l) a b
array_in_all l a b x = but_wider (own_array l) (own_all l) a b (λ r o. inr (omega arith)) (λ m o. o) x

-- the calls of a step, one after the other
pub slots_in_all : (l : RingLayout) (a b c d : Circuit) → Extends a b → ExtendsBut (own_slots l) b c
    → ExtendsBut (own_contents l) c d → ExtendsBut (own_all l) a d
slots_in_all l a b c d x y z =
    but_trans (own_all l) a b d (but_extends (own_all l) a b x)
    (but_trans (own_all l) b c d (row_in_all l (l.from + 2) (2 * l.size) b c (omega arith) (omega arith) y)
    (row_in_all l (l.from + 2 + 2 * l.size) l.size c d (omega arith) (omega arith) z))

-- what changes the ring, and then head and tail, changes only the ring
pub ends_in_all : (l : RingLayout) (a b c : Circuit) → ExtendsBut (own_all l) a b → ExtendsBut (own_ends l) b c → ExtendsBut (own_all l) a c
ends_in_all l a b c x y = but_trans (own_all l) a b c x (row_in_all l l.from 2 b c (omega arith) (omega arith) y)

-- what registers take next stays where others change
pub addrs_kept : (o : Own) (a b : Circuit) (l : RingLayout) (f : StepSignals) (n : ℕ)
    → n ≤ l.size → ((k : ℕ) → k < n → Outside o.from o.to (addr_at l k)) → HasSlots a l → NextAddrs a l f n
    → ExtendsBut o a b → NextAddrs b l f n
addrs_kept o a b l f n few out h x y = record { addr = λ k lt. y.nexts (addr_at l k) (h.has_addr k (omega (arith, lt, few))) (out k lt) ∙ x.addr k lt }

-- value bits take next what they took where other registers change
pub bits_kept : (o : Own) (a b : Circuit) (l : RingLayout) (f : StepSignals) (n : ℕ)
    → n ≤ l.size → ((k : ℕ) → k < n → Outside o.from o.to (has_at l k)) → HasSlots a l → NextBits a l f n
    → ExtendsBut o a b → NextBits b l f n
bits_kept o a b l f n few out h x y = record { bit = λ k lt. y.nexts (has_at l k) (h.has_has k (omega (arith, lt, few))) (out k lt) ∙ x.bit k lt }

-- contents of slots take next what they took where other registers change
pub contents_kept : (o : Own) (a b : Circuit) (l : RingLayout) (f : StepSignals) (n : ℕ)
    → n ≤ l.size → ((k : ℕ) → k < n → Outside o.from o.to (value_at l k)) → HasSlots a l → NextContents a l f n
    → ExtendsBut o a b → NextContents b l f n
contents_kept o a b l f n few out h x y = record { value = λ k lt. y.nexts (value_at l k) (h.has_value k (omega (arith, lt, few))) (out k lt) ∙ x.value k lt }

-- head and tail take next what they took where other registers change
pub ends_kept : (o : Own) (a b : Circuit) (l : RingLayout) (f : StepSignals) → Outside o.from o.to l.from
    → Outside o.from o.to (l.from + 1) → HasSlots a l → NextEnds a l f → ExtendsBut o a b → NextEnds b l f
ends_kept o a b l f p q h x y = record {
  head = y.nexts l.from h.has_head p ∙ x.head;
  tail = y.nexts (l.from + 1) h.has_tail q ∙ x.tail;
}

-- one slot more takes its next address, where only that register changed
pub addrs_more : (a b : Circuit) (l : RingLayout) (f : StepSignals) (k : ℕ)
    → k < l.size → HasSlots a l → NextAddrs a l f k → ExtendsBut (own_reg (addr_at l k)) a b
    → next_signal b (addr_at l k) ≡ slot_addr l f k → NextAddrs b l f (k + 1)
addrs_more a b l f k h s x y e =
    let old = addrs_kept (own_reg (addr_at l k)) a b l f k (omega (arith, h)) (λ j lt. inl (omega (arith, lt))) s x y in
    record { addr = upto (λ j. next_signal b (addr_at l j) ≡ slot_addr l f j) k e old.addr }

-- one slot more takes its next value bit, where only that register changed
pub bits_more : (a b : Circuit) (l : RingLayout) (f : StepSignals) (k : ℕ)
    → k < l.size → HasSlots a l → NextBits a l f k → ExtendsBut (own_reg (has_at l k)) a b
    → next_signal b (has_at l k) ≡ slot_bit l f k → NextBits b l f (k + 1)
bits_more a b l f k h s x y e =
    let old = bits_kept (own_reg (has_at l k)) a b l f k (omega (arith, h)) (λ j lt. inl (omega (arith, lt))) s x y in
    record { bit = upto (λ j. next_signal b (has_at l j) ≡ slot_bit l f j) k e old.bit }

-- one slot more takes its next content, where only that register changed
pub contents_more : (a b : Circuit) (l : RingLayout) (f : StepSignals) (k : ℕ)
    → k < l.size → HasSlots a l → NextContents a l f k → ExtendsBut (own_reg (value_at l k)) a b
    → next_signal b (value_at l k) ≡ slot_value l f k → NextContents b l f (k + 1)
contents_more a b l f k h s x y e =
    let old = contents_kept (own_reg (value_at l k)) a b l f k (omega (arith, h)) (λ j lt. inl (omega (arith, lt))) s x y in
    record { value = upto (λ j. next_signal b (value_at l j) ≡ slot_value l f j) k e old.value }

-- the addresses of the first 0 slots take next what they are to take
pub addrs_none : (c : Circuit) (l : RingLayout) (f : StepSignals) → NextAddrs c l f 0
addrs_none c l f = record { addr = λ k h. absurd (omega arith) }

-- the value bits of the first 0 slots take next what they are to take
pub bits_none : (c : Circuit) (l : RingLayout) (f : StepSignals) → NextBits c l f 0
bits_none c l f = record { bit = λ k h. absurd (omega arith) }

-- the contents of the first 0 slots take next what they are to take
pub contents_none : (c : Circuit) (l : RingLayout) (f : StepSignals) → NextContents c l f 0
contents_none c l f = record { value = λ k h. absurd (omega arith) }

-- the nets of commits stay what they are in a circuit that keeps the old one
pub commits_keep : (a b : Circuit) (l : RingLayout) (f : StepSignals) (n : LockNets) → AreCommits a l f n → Keeps a b → AreCommits b l f n
commits_keep a b l f n x y = record {
  commit = means_keeps a b n.commit _ y x.commit;
  addr = means_keeps a b n.addr _ y x.addr;
  value = means_keeps a b n.value _ y x.value;
  commit2 = means_keeps a b n.commit2 _ y x.commit2;
  addr2 = means_keeps a b n.addr2 _ y x.addr2;
  value2 = means_keeps a b n.value2 _ y x.value2;
  addr_wide = wide_later a b n.addr _ l.bits y x.addr x.addr_wide;
  value_wide = wide_later a b n.value _ l.width y x.value x.value_wide;
  addr2_wide = wide_later a b n.addr2 _ l.bits y x.addr2 x.addr2_wide;
  value2_wide = wide_later a b n.value2 _ l.width y x.value2 x.value2_wide;
}

-- ---- the array's writes

no_ports : (array : Option ℕ) (a : Circuit) (m : ℕ) → array ≡ Some m → HasNoPorts array a → write_signals a m ≡ []
no_ports None a m e h = absurd (cc e)
no_ports (Some k) a m e h = let q : k ≡ m = cc e in ap (write_signals a) (sym q) ∙ h

one_off : (s : State) (w v : WriteSignal) (ws : List ℕ) → v.enable.value s ≡ 0 → after_writes s (w ∷ []) ws ≡ after_writes s (w ∷ v ∷ []) ws
one_off s w v ws e = sym (if_zero (v.enable.value s) _ _ e)

-- an array that is given its only write port is written as with a second one that is always off
pub writes_one : (a b : Circuit) (l : RingLayout) (m : ℕ) (w v : WriteSignal)
    → l.array ≡ Some m → HasNoPorts l.array a → write_signals b m ≡ write_signals a m ++ w ∷ []
    → ((s : State) → v.enable.value s ≡ 0) → WritesArray b l (w ∷ v ∷ [])
writes_one a b l m w v is none more off = record {
  words = λ k i s ws.
      let q : m ≡ k = cc (is, i) in
      let e : write_signals b m ≡ w ∷ [] = more ∙ ap (λ us. us ++ w ∷ []) (no_ports l.array a m is none) in
      ap (λ n. after_writes s (write_signals b n) ws) (sym q) ∙ ap (λ us. after_writes s us ws) e ∙ one_off s w v ws (off s);
}

-- an array without write ports that is given two is written by these
pub writes_two : (a b c : Circuit) (l : RingLayout) (m : ℕ) (w v : WriteSignal)
    → l.array ≡ Some m → HasNoPorts l.array a → write_signals b m ≡ write_signals a m ++ w ∷ []
    → write_signals c m ≡ write_signals b m ++ v ∷ [] → WritesArray c l (w ∷ v ∷ [])
writes_two a b c l m w v is none one more = record {
  words = λ k i s ws.
      let q : m ≡ k = cc (is, i) in
      let e : write_signals c m ≡ w ∷ v ∷ [] = more ∙ ap (λ us. us ++ v ∷ []) (one ∙ ap (λ us. us ++ w ∷ []) (no_ports l.array a m is none)) in
      ap (λ n. after_writes s (write_signals c n) ws) (sym q) ∙ ap (λ us. after_writes s us ws) e;
}

writes_none : (c : Circuit) (l : RingLayout) (ws : List WriteSignal) → l.array ≡ None → WritesArray c l ws
writes_none c l ws e = record { words = λ m i s us. absurd (cc (e, i)) }

-- a later circuit that keeps the array's ports
pub same_two : (e a v e' a' v' x y z x' y' z' : Signal)
    → e ≡ x → a ≡ y → v ≡ z → e' ≡ x' → a' ≡ y' → v' ≡ z' → two_writes e a v e' a' v' ≡ two_writes x y z x' y' z'
same_two e a v e' a' v' x y z x' y' z' p q r p' q' r' = cc

abbrev write_of : Signal → Signal → Signal → WriteSignal
write_of e a v = record { enable = e; addr = a; value = v }

-- writes with equal enable, address and value are equal
pub same_write : (e a v x y z : Signal) → e ≡ x → a ≡ y → v ≡ z → write_of e a v ≡ write_of x y z
same_write e a v x y z p q r = cc
