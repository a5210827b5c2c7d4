-- A slot that no reservation and no write of a cycle is of stays as it is.
use Rattle.std.proofs.Common.{◌≡◌, ◌≢◌, ℕ, zero, suc, ◌+◌, ◌%◌, ◌<◌, ◌≤◌, List, [], ◌∷◌, length, refl, sym, ap, ◌∙◌, subst, arith, ⊎_elim}
use Rattle.std.specs.Prelude.{true, false, slice_index, slice_index_or}
use Rattle.std.proofs.lemmas.Bool.{cases_Bool}
use Rattle.pdl_word.specs.Words as words
use Rattle.pdl_net.specs.Circuit.{Circuit, State}
use Rattle.pdl_net.specs.Signal.{Signal, reg_value, const_value, bin_value, mux_value}
use Rattle.pdl_lockapi.specs.declared.LockRegs.{LockRegs}
use Rattle.pdl_lockapi.specs.Lock.{LockState, LockAct, act_at}
use Rattle.pdl_lockapi.specs.Laws.{StepSignals}
use Rattle.pdl_lockapi.specs.SlotLaws.{slot_regs, IsSpared, StillLaw}
use Rattle.pdl_lock_ring.specs.declared.layout.RingLayout.{RingLayout}
use Rattle.pdl_lock_ring.specs.declared.layout.Content.TheVariants.{Value}
use Rattle.pdl_lock_ring.specs.Slots.{IsSized, Stands, content_signal, reg_of, addr_at, has_at, value_at, slot_numbers, slots_of}
use Rattle.pdl_lock_ring.specs.Steps.{first_addr, second_addr, first_slot, second_slot, takes_first, takes_second, fills_slot, filled_bit, filled_value, number_at, reserved_addr, slot_addr, slot_bit, NextValues, own_all}
use Rattle.pdl_lock_ring.proofs.RingValues.{mux_zero, eq_none, AreGiven}
use Rattle.pdl_lock_ring.proofs.Fills.{content_value}
use Rattle.pdl_lock_ring.proofs.FilledSlots.{TicketsFit, Cycle, are_given, fills_one, fills_none}
use Rattle.pdl_lock_ring.proofs.Sizes.{slots_at}

-- no reservation is given slot k
not_given : (n next k : ℕ) (ys : List ℕ) (t1 t2 a1 a2 : ℕ)
    → k < n → length ys ≤ 2 → ((i : ℕ) → i < length ys → (next + i) % n ≢ k) → AreGiven n next ys t1 t2 a1 a2
    → (t1 ≢ k) × (t2 ≢ k)
not_given n next k [] t1 t2 a1 a2 h two u g = ((λ e. omega (arith, e, g.0, h)), (λ e. omega (arith, e, g.1, h)))
not_given n next k (y ∷ []) t1 t2 a1 a2 h two u g =
    ((λ e. u 0 (omega arith) (ap (λ m. m % n) (let q : next + 0 ≡ next = omega arith in q) ∙ sym g.0 ∙ e)), (λ e. omega (arith, e, g.1, h)))
not_given n next k (y ∷ z ∷ []) t1 t2 a1 a2 h two u g =
    ((λ e. u 0 (omega arith) (ap (λ m. m % n) (let q : next + 0 ≡ next = omega arith in q) ∙ sym g.0 ∙ e)), (λ e. u 1 (omega arith) (sym g.1 ∙ e)))
not_given n next k (y ∷ z ∷ z' ∷ ys) t1 t2 a1 a2 h two u g = absurd (omega (arith, two))

module _ (l : RingLayout) (v : ℕ → Signal) (s : State) (x : LockState) (f : StepSignals) (a : LockAct)
    (c : Cycle l v s x f a) (k : ℕ) (below : k < l.size) (spared : IsSpared l.size x a k) where
  untaken : ((takes_first l f k).value s ≡ 0) × ((takes_second l f k).value s ≡ 0)
  unfolding bin_value const_value
  untaken =
      let n =
      not_given l.size (x.base + length x.entries) k a.reserves ((first_slot l f).value s)
      ((second_slot l f).value s) ((first_addr l f).value s)
      ((second_addr l f).value s) below c.proper.two spared.reserves (are_given l v s x f a c) in
      (eq_none ((first_slot l f).value s) k n.0, eq_none ((second_slot l f).value s) k n.1)

  unfilled : (j : ℕ) → j < length a.writes → (fills_slot l f k j).value s ≡ 0
  unfilled j lt = ⊎_elim
      (λ (o : (act_at a.writes j).on ≡ true). fills_one l v s x f a c k j lt o ∙ eq_none ((act_at a.writes j).ticket % l.size) k (spared.writes j lt o))
      (λ (o : (act_at a.writes j).on ≡ false). fills_none l v s x f a c k j below lt o)
      (cases_Bool (act_at a.writes j).on)

  -- a spared slot keeps its address
  pub addr_still : (slot_addr l f k).value s ≡ reg_of s (addr_at l k)
  unfolding reserved_addr mux_value reg_value
  addr_still = mux_zero ((takes_second l f k).value s) _ _ untaken.1 ∙ mux_zero ((takes_first l f k).value s) _ _ untaken.0

  bit_still_at : (j : ℕ) → j ≤ length a.writes → (filled_bit l f k j).value s ≡ reg_of s (has_at l k)
  unfolding filled_bit mux_value reg_value const_value
  bit_still_at zero h = mux_zero ((takes_second l f k).value s) _ _ untaken.1 ∙ mux_zero ((takes_first l f k).value s) _ _ untaken.0
  bit_still_at (suc j) h = mux_zero ((fills_slot l f k j).value s) _ _ (unfilled j (omega arith)) ∙ bit_still_at j (omega arith)

  -- a spared slot has its value after the cycle just where it had it before
  pub bit_still : (slot_bit l f k).value s ≡ reg_of s (has_at l k)
  bit_still = bit_still_at (length f.writes) (let e = c.drives.count in omega (arith, e))

  value_still_at : (g : Signal) (j : ℕ) → j ≤ length a.writes → (filled_value l f g (number_at l k) j).value s ≡ g.value s
  unfolding filled_value mux_value
  value_still_at g zero h = refl
  value_still_at g (suc j) h = mux_zero ((fills_slot l f k j).value s) _ _ (unfilled j (omega arith)) ∙ value_still_at g j (omega arith)

  -- a spared slot keeps its value, whatever signal has it
  pub value_still : (g : Signal) → (filled_value l f g (number_at l k) (length f.writes)).value s ≡ g.value s
  value_still g = value_still_at g (length f.writes) (let e = c.drives.count in omega (arith, e))

-- what is so of each register of a slot that keeps its value
pub each_reg : (P : ℕ → Type 0) (a b c : ℕ) → P a → P b → P c → (j : ℕ) → j < 3 → P (slice_index (a ∷ b ∷ c ∷ []) j)
each_reg P a b c p q r zero h = p
each_reg P a b c p q r (suc zero) h = q
each_reg P a b c p q r (suc (suc zero)) h = r
each_reg P a b c p q r (suc (suc (suc j))) h = absurd (omega arith)

-- the registers of slot k of a ring that keeps values: its address, its value and its value bit
pub regs_are : (l : RingLayout) (r : LockRegs) (k : ℕ)
    → l.content ≡ Value → r.slots ≡ slots_of l l.size → k < l.size
    → slot_regs r k ≡ addr_at l k ∷ value_at l k ∷ has_at l k ∷ []
regs_are l r k e listed h = ap (λ ss. slice_index_or ss k []) listed ∙ slots_at l l.size k h ∙ ap (λ x. slot_numbers x l k) e

-- a slot of a ring that keeps values stays as it is where no reservation and no write is of it
pub still_law : (b : Circuit) (l : RingLayout) (f : StepSignals) (r : LockRegs)
    → l.content ≡ Value → r.slots ≡ slots_of l l.size → IsSized l → TicketsFit l.ticket f → NextValues b l f
    → StillLaw (Stands l) l.size l.ticket (own_all l) b f r
unfolding reg_value
still_law b l f r e listed z t n = record {
  still = λ s u x a k j h d p o below within spared.
      let V = content_signal l in
      let c : Cycle l V s x f a = record { sized = z; stands = h.entries; fit = t; drives = d; proper = p } in
      let regs = regs_are l r k e listed below in
      let P : ℕ → Type 0 = λ g. slice_index u.regs g ≡ slice_index s.regs g in
      let Q : List ℕ → Type 0 = λ gs. (j < length gs) → P (slice_index gs j) in
      subst Q (sym regs) (λ lt. each_reg P (addr_at l k) (value_at l k) (has_at l k)
      (o.regs (addr_at l k) (omega arith) (omega (arith, below)) ∙ ap (λ (g : Signal). g.value s) (n.addrs.addr k below)
      ∙ addr_still l V s x f a c k below spared)
      (o.regs (value_at l k) (omega arith) (omega (arith, below))
      ∙ ap (λ (g : Signal). g.value s) (n.contents.value k below ∙ content_value l f (content_signal l k) (number_at l k) e)
      ∙ value_still l V s x f a c k below spared (V k))
      (o.regs (has_at l k) (omega arith) (omega (arith, below)) ∙ ap (λ (g : Signal). g.value s) (n.bits.bit k below) ∙ bit_still l V s x f a c k below spared)
      j lt) within;
}
