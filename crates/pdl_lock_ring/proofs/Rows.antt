-- Rows of registers as they are made, and the ring of them.
use Rattle.std.proofs.Common.{◌≡◌, ℕ, ◌+◌, ◌*◌, ◌^◌, ◌<◌, ◌≤◌, sym, ap, ◌∙◌, arith, ⊎_elim}
use Rattle.std.proofs.lemmas.Bool.{cases_lt}
use Rattle.pdl_net.specs.declared.Net.TheVariants.{Reg}
use Rattle.pdl_net.specs.Circuit.{Circuit, HasReg, reg_width, reg_reset}
use Rattle.pdl_net.specs.Meaning.{IsThere, signal}
use Rattle.pdl_net.specs.Growth.{Extends}
use Rattle.pdl_build.specs.Change.{IsNewReg}
use Rattle.pdl_lock_ring.specs.declared.choice.Registers.{Registers}
use Rattle.pdl_lock_ring.specs.declared.layout.RingLayout.{RingLayout}
use Rattle.pdl_lock_ring.specs.declared.layout.Content.TheVariants.{Value, Place}
use Rattle.pdl_lock_ring.specs.Slots.{HasOwnArray, HasSlots, AreFirst, AreReset, first_content_of}
use Rattle.pdl_lock_ring.specs.Registers.{HasRow, IsRowReset, register_of, row_of}
use Rattle.pdl_lock_ring.proofs.RingGrowth.{row_kept}
use Rattle.pdl_word.proofs.Numbers.{upto}

-- the first 0 registers of a row are in each circuit
pub row_none : (c : Circuit) (r : Registers) → HasRow c r 0
row_none c r = record {
  there = λ k h. absurd (omega arith);
  same = λ k h. absurd (omega arith);
  has = λ k h. absurd (omega arith);
  wide = λ k h. absurd (omega arith);
}

-- one register more of a row is in a circuit, where a new one was made after those before it
pub row_more : (c d : Circuit) (r : Registers) (k v : ℕ) → HasRow c r k → Extends c d
    → IsNewReg d (r.first + k) r.width v → HasRow d r (k + 1)
row_more c d r k v h e x =
    let g = row_kept c d r k h e in
    record {
      there = upto (λ j. IsThere d (Reg (r.first + j))) k x.there g.there;
      same = upto (λ j. signal d (Reg (r.first + j)) ≡ register_of r j) k x.same g.same;
      has = upto (λ j. HasReg d (r.first + j)) k x.has g.has;
      wide = upto (λ j. reg_width d (r.first + j) ≡ r.width) k x.width g.wide;
    }

-- the first 0 registers of a row hold first what they are to hold
pub reset_none : (c : Circuit) (r : Registers) (start step : ℕ) → IsRowReset c r start step 0
reset_none c r start step = record { reset = λ k h. absurd (omega arith) }

-- one register more of a row holds first what it is to hold, where it was made with that reset value
pub reset_more : (c d : Circuit) (r : Registers) (start step k : ℕ) → HasRow c r k → IsRowReset c r start step k
    → Extends c d → IsNewReg d (r.first + k) r.width (start + step * k) → IsRowReset d r start step (k + 1)
reset_more c d r start step k h i e x =
    record { reset = upto (λ j. reg_reset d (r.first + j) ≡ start + step * j) k x.reset (λ j l. e.reset (r.first + j) (h.has j l) ∙ i.reset j l) }

-- what the k-th holds first fits its register
pub fits : (start step k n w : ℕ) → start + step * n ≤ 2 ^ w → start < 2 ^ w → step ≤ 1 → k < n → start + step * k < 2 ^ w
fits start step k n w h b few lt = ⊎_elim
    (λ (e : step < 1).
    let z : step ≡ 0 = omega (arith, e) in
    let q : start + step * k ≡ start + 0 * k = ap (λ m. start + m * k) z in
    omega (arith, q, b))
    (λ (e : 1 ≤ step).
    let z : step ≡ 1 = omega (arith, e, few) in
    let q : start + step * k ≡ start + 1 * k = ap (λ m. start + m * k) z in
    let p : start + step * n ≡ start + 1 * n = ap (λ m. start + m * n) z in
    omega (arith, q, p, h, lt))
    (cases_lt step 1)

-- a new register stays so, with its reset value, in a circuit that is extended
pub new_kept : (a b : Circuit) (r w v : ℕ) → IsNewReg a r w v → Extends a b → IsNewReg b r w v
new_kept a b r w v x y = record {
  has = y.has_reg r x.has;
  there = y.there (Reg r) x.there;
  same = y.kept (Reg r) x.there ∙ x.same;
  width = y.width r x.has ∙ x.width;
  reset = y.reset r x.has ∙ x.reset;
  next = y.nexts r x.has ∙ x.next;
}

-- the array of a layout, where there is one, stays in a circuit that is extended
pub own_array_kept : (a b : Circuit) (l : RingLayout) → HasOwnArray a l → Extends a b → HasOwnArray b l
own_array_kept a b l x y = record {
  has_array = λ m e. y.has_array m (x.has_array m e);
  array_word = λ m e. y.word m (x.has_array m e) ∙ x.array_word m e;
  array_depth = λ m e. y.depth m (x.has_array m e) ∙ x.array_depth m e;
}

-- a circuit with head, tail, the rows of addresses, value bits and contents, and the array, has the slots of the ring
pub slots_made : (c : Circuit) (l : RingLayout) → IsNewReg c l.from l.ticket 0 → IsNewReg c (l.from + 1) l.ticket 0
    → HasRow c (row_of l (l.from + 2) l.bits) l.size → HasRow c (row_of l (l.from + 2 + l.size) 1) l.size
    → HasRow c (row_of l (l.from + 2 + 2 * l.size) l.kept) l.size → HasOwnArray c l → HasSlots c l
slots_made c l head tail addrs bits contents array = record {
  head_there = head.there;
  head = head.same;
  has_head = head.has;
  head_wide = head.width;
  tail_there = tail.there;
  tail = tail.same;
  has_tail = tail.has;
  tail_wide = tail.width;
  addr_there = addrs.there;
  addr = addrs.same;
  has_addr = addrs.has;
  addr_wide = addrs.wide;
  value_there = contents.there;
  value = contents.same;
  has_value = contents.has;
  value_wide = contents.wide;
  has_there = bits.there;
  holds = bits.same;
  has_has = bits.has;
  has_wide = bits.wide;
  has_array = array.has_array;
  array_word = array.array_word;
  array_depth = array.array_depth;
}

-- head and tail that were made with 0, and slots with what they hold first, are at reset
pub reset_made : (c : Circuit) (l : RingLayout) (place : ℕ) → IsNewReg c l.from l.ticket 0
    → IsNewReg c (l.from + 1) l.ticket 0 → AreFirst c l place → AreReset c l place
reset_made c l place head tail first = record { head = head.reset; tail = tail.reset; contents = first }

-- what the slots hold first, by what they keep
pub first_values : (c : Circuit) (l : RingLayout) (place : ℕ)
    → l.content ≡ Value → IsRowReset c (row_of l (l.from + 2 + 2 * l.size) l.kept) 0 0 l.size → AreFirst c l place
first_values c l place e r = record { content = λ k h. r.reset k h ∙ (let z : 0 + 0 * k ≡ 0 = omega arith in z) ∙ sym (ap (λ x. first_content_of x place k) e) }

-- what the slots hold first where they keep places: places that count up from a first one
pub first_places : (c : Circuit) (l : RingLayout) (place : ℕ)
    → l.content ≡ Place → IsRowReset c (row_of l (l.from + 2 + 2 * l.size) l.kept) place 1 l.size → AreFirst c l place
first_places c l place e r =
    record { content = λ k h. r.reset k h ∙ (let z : place + 1 * k ≡ place + k = omega arith in z) ∙ sym (ap (λ x. first_content_of x place k) e) }

pub ruleset contents_made = (first_values, first_places)

-- slots that keep values keep no places
pub value_has_no_place : Value ≡ Place → ⊥
value_has_no_place e = absurd (cc e)
