-- No written value comes into a register of a renaming lock.
use Rattle.std.proofs.Common.{◌≡◌, ℕ, zero, suc, ◌+◌, ◌-◌, ◌*◌, ◌^◌, ◌<◌, ◌≤◌, length, refl, sym, ap, ◌∙◌, subst, arith, ⊎_elim}
use Rattle.std.proofs.lemmas.Bool.{cases_eq, cases_lt}
use Rattle.std.proofs.Math.Nat.{two-pow-succ}
use Rattle.pdl_net.specs.Circuit.{Circuit, State}
use Rattle.pdl_net.specs.Signal.{Signal, reg_signal, reg_value, const_value, bin_value, mux_value, slice_value}
use Rattle.pdl_net.specs.Meaning.{next_signal}
use Rattle.pdl_lockapi.specs.Laws.{StepSignals, SameButValues, HidesValues, ticket_at}
use Rattle.pdl_lock_ring.specs.Slots.{addr_at, has_at, value_at, content_signal, reg_of}
use Rattle.pdl_lock_ring.specs.Choices.{selected_signal}
use Rattle.pdl_lock_ring.specs.Registers.{register_of}
use Rattle.pdl_lock_ring.specs.Looks.{head_signal, tail_signal, second_ticket, slot_of}
use Rattle.pdl_lock_ring.specs.Steps.{push_signal, push2_signal, last_addr, before_addr, first_addr, second_addr, first_slot, second_slot, takes_first, takes_second, number_at, reserved_addr, written_slot, fills_slot, slot_addr, filled_bit, next_head, head_after, tail_after, at_ticket, addr_of, content_of, oldest_addr, next_addr}
use Rattle.pdl_lock_ring.proofs.Fills.{content_place}
use Rattle.pdl_rename.specs.declared.layout.Layout.{Layout}
use Rattle.pdl_rename.specs.Places.{IsRenaming, map_at, map_signal}
use Rattle.pdl_rename.specs.Nets.{registers_of_map, mapped_place, oldest_place, next_place_of, freed_slot, freed2_slot, freed_place, freed2_place, next_place, first_map, next_map, NextRename, own_rename}

-- the next value of a register is the same in both states
abbrev IsSame : Circuit → State → State → ℕ → Type 0
IsSame c s t r = (next_signal c r).value s ≡ (next_signal c r).value t

same_next : (c : Circuit) (s t : State) (r : ℕ) (g : Signal) → next_signal c r ≡ g → g.value s ≡ g.value t → IsSame c s t r
same_next c s t r g e q = ap (λ (h : Signal). h.value s) e ∙ q ∙ sym (ap (λ (h : Signal). h.value t) e)

-- what is so of each register of a renaming lock
of_each : (l : Layout) (P : ℕ → Type 0)
    → l.map ≡ l.slots.from + (2 + 3 * l.slots.size) → P l.slots.from → P (l.slots.from + 1)
    → ((k : ℕ) → k < l.slots.size → P (addr_at l.slots k)) → ((k : ℕ) → k < l.slots.size → P (has_at l.slots k))
    → ((k : ℕ) → k < l.slots.size → P (value_at l.slots k)) → ((k : ℕ) → k < l.depth → P (map_at l k)) → (r : ℕ)
    → l.slots.from ≤ r → r < l.slots.from + (2 + 3 * l.slots.size + l.depth) → P r
of_each l P z head tail addr has value map r lo hi =
    let n = l.slots.size in
    let b = l.slots.from in
    ⊎_elim
    (λ (e : r ≡ b). subst P (sym e) head)
    (λ n0. ⊎_elim
    (λ (e : r ≡ b + 1). subst P (sym e) tail)
    (λ n1.
    let two : b + 2 ≤ r = omega (arith, lo, n0, n1) in
    ⊎_elim
    (λ (h : r < b + 2 + n). let k = r - (b + 2) in let e : addr_at l.slots k ≡ r = omega (arith, two) in subst P e (addr k (omega (arith, two, h))))
    (λ (g : b + 2 + n ≤ r). ⊎_elim
    (λ (h : r < b + 2 + n + n). let k = r - (b + 2 + n) in let e : has_at l.slots k ≡ r = omega (arith, g) in subst P e (has k (omega (arith, g, h))))
    (λ (g2 : b + 2 + n + n ≤ r). ⊎_elim
    (λ (h : r < b + 2 + 2 * n + n). let k = r - (b + 2 + 2 * n) in let e : value_at l.slots k ≡ r = omega (arith, g2) in
    subst P e (value k (omega (arith, g2, h))))
    (λ (g3 : b + 2 + 2 * n + n ≤ r). let k = r - l.map in let e : map_at l k ≡ r = omega (arith, g3, z) in subst P e (map k (omega (arith, g3, hi, z))))
    (cases_lt r (b + 2 + 2 * n + n)))
    (cases_lt r (b + 2 + n + n)))
    (cases_lt r (b + 2 + n)))
    (cases_eq r (b + 1)))
    (cases_eq r b)

module _ (l : Layout) (f : StepSignals) (s t : State) (z : IsRenaming l) (h : SameButValues (own_rename l) f s t) where
  reg_same : (r : ℕ) → l.slots.from ≤ r → r < l.slots.from + (2 + 3 * l.slots.size + l.depth) → reg_of s r ≡ reg_of t r
  reg_same r lo hi = h.regs r lo hi

  head_same : (head_signal l.slots).value s ≡ (head_signal l.slots).value t
  unfolding reg_value
  head_same = reg_same l.slots.from (omega arith) (omega arith)

  tail_same : (tail_signal l.slots).value s ≡ (tail_signal l.slots).value t
  unfolding reg_value
  tail_same = reg_same (l.slots.from + 1) (omega arith) (omega arith)

  content_same : (k : ℕ) → k < l.slots.size → (content_signal l.slots k).value s ≡ (content_signal l.slots k).value t
  unfolding reg_value
  content_same k lt = reg_same (value_at l.slots k) (omega arith) (omega (arith, lt))

  map_same : (k : ℕ) → k < l.depth → (map_signal l k).value s ≡ (map_signal l k).value t
  unfolding reg_value
  map_same k lt = reg_same (map_at l k) (omega (arith, z.map)) (omega (arith, z.map, lt))

  next_same : (next_head l.slots).value s ≡ (next_head l.slots).value t
  unfolding bin_value const_value
  next_same = cc head_same

  second_same : (second_ticket l.slots).value s ≡ (second_ticket l.slots).value t
  unfolding bin_value const_value
  second_same = cc tail_same

  slot_same : (g : Signal) → g.value s ≡ g.value t → (slot_of l.slots g).value s ≡ (slot_of l.slots g).value t
  unfolding bin_value const_value
  slot_same g e = cc e

  -- ---- the reservations

  push_same : (k : ℕ) → k ≤ length f.reserves → (push_signal f k).value s ≡ (push_signal f k).value t
  unfolding push_signal mux_value const_value
  push_same zero le = refl
  push_same (suc k) le = cc (h.ask k (omega arith), push_same k (omega arith))

  push2_same : (k : ℕ) → k ≤ length f.reserves → (push2_signal f k).value s ≡ (push2_signal f k).value t
  unfolding push2_signal mux_value const_value
  push2_same zero le = refl
  push2_same (suc k) le = cc (h.ask k (omega arith), push_same k (omega arith), push2_same k (omega arith))

  last_same : (k : ℕ) → k ≤ length f.reserves → (last_addr l.slots.bits f k).value s ≡ (last_addr l.slots.bits f k).value t
  unfolding last_addr mux_value const_value
  last_same zero le = refl
  last_same (suc k) le = cc (h.ask k (omega arith), h.addr k (omega arith), last_same k (omega arith))

  before_same : (k : ℕ) → k ≤ length f.reserves → (before_addr l.slots.bits f k).value s ≡ (before_addr l.slots.bits f k).value t
  unfolding before_addr mux_value const_value
  before_same zero le = refl
  before_same (suc k) le = cc (h.ask k (omega arith), last_same k (omega arith), before_same k (omega arith))

  first_addr_same : (first_addr l.slots f).value s ≡ (first_addr l.slots f).value t
  unfolding first_addr mux_value
  first_addr_same =
      cc (push2_same (length f.reserves) (omega arith), before_same (length f.reserves) (omega arith), last_same (length f.reserves) (omega arith))

  second_addr_same : (second_addr l.slots f).value s ≡ (second_addr l.slots f).value t
  unfolding second_addr
  second_addr_same = last_same (length f.reserves) (omega arith)

  first_slot_same : (first_slot l.slots f).value s ≡ (first_slot l.slots f).value t
  unfolding first_slot mux_value const_value
  first_slot_same = cc (push_same (length f.reserves) (omega arith), slot_same (tail_signal l.slots) tail_same)

  second_slot_same : (second_slot l.slots f).value s ≡ (second_slot l.slots f).value t
  unfolding second_slot mux_value const_value
  second_slot_same = cc (push2_same (length f.reserves) (omega arith), slot_same (second_ticket l.slots) second_same)

  takes_first_same : (k : ℕ) → (takes_first l.slots f k).value s ≡ (takes_first l.slots f k).value t
  unfolding bin_value const_value
  takes_first_same k = cc first_slot_same

  takes_second_same : (k : ℕ) → (takes_second l.slots f k).value s ≡ (takes_second l.slots f k).value t
  unfolding bin_value const_value
  takes_second_same k = cc second_slot_same

  reserved_same : (g d : Signal) → g.value s ≡ g.value t → d.value s ≡ d.value t
      → (reserved_addr l.slots f g d).value s ≡ (reserved_addr l.slots f g d).value t
  unfolding reserved_addr mux_value bin_value
  reserved_same g d p q = cc (first_slot_same, second_slot_same, first_addr_same, second_addr_same)

  addr_same : (k : ℕ) → k < l.slots.size → (reg_signal l.slots.bits (addr_at l.slots k)).value s ≡ (reg_signal l.slots.bits (addr_at l.slots k)).value t
  unfolding reg_value
  addr_same k lt = reg_same (addr_at l.slots k) (omega arith) (omega (arith, lt))

  slot_addr_same : (k : ℕ) → k < l.slots.size → (slot_addr l.slots f k).value s ≡ (slot_addr l.slots f k).value t
  unfolding const_value
  slot_addr_same k lt = reserved_same (reg_signal l.slots.bits (addr_at l.slots k)) (number_at l.slots k) (addr_same k lt) refl

  -- ---- the writes

  written_same : (j : ℕ) → j < length f.writes → (written_slot l.slots f j).value s ≡ (written_slot l.slots f j).value t
  unfolding mux_value const_value
  written_same j lt = cc (h.enable j lt, slot_same (ticket_at f.writes j).ticket (h.ticket j lt))

  fills_same : (k j : ℕ) → j < length f.writes → (fills_slot l.slots f k j).value s ≡ (fills_slot l.slots f k j).value t
  unfolding bin_value const_value
  fills_same k j lt = cc (written_same j lt)

  bit_same : (k : ℕ) → k < l.slots.size → (j : ℕ) → j ≤ length f.writes → (filled_bit l.slots f k j).value s ≡ (filled_bit l.slots f k j).value t
  unfolding filled_bit mux_value reg_value const_value
  bit_same k lt zero le = cc (takes_second_same k, takes_first_same k, reg_same (has_at l.slots k) (omega arith) (omega (arith, lt)))
  bit_same k lt (suc j) le = cc (fills_same k j (omega arith), bit_same k lt j (omega arith))

  -- ---- head and tail

  head_after_same : (head_after l.slots f).value s ≡ (head_after l.slots f).value t
  unfolding head_after mux_value bin_value const_value
  head_after_same = cc (h.release, h.release2, head_same)

  tail_after_same : (tail_after l.slots f).value s ≡ (tail_after l.slots f).value t
  unfolding tail_after mux_value bin_value const_value
  tail_after_same = cc (h.squash, h.tail, push_same (length f.reserves) (omega arith), push2_same (length f.reserves) (omega arith), tail_same)

  -- ---- the exchanges

  selected_same : (g : ℕ → Signal) (d : Signal) (m : ℕ) → ((k : ℕ) → k < m → (g k).value s ≡ (g k).value t)
      → d.value s ≡ d.value t → (b from : ℕ) → from + 2 ^ b ≤ m
      → (selected_signal g d b from).value s ≡ (selected_signal g d b from).value t
  unfolding selected_signal mux_value slice_value
  selected_same g d m u e zero from le = u from (omega (arith, le))
  selected_same g d m u e (suc b) from le =
      let p : 2 ^ suc b ≡ 2 ^ b + 2 ^ b = two-pow-succ b in
      cc (e, selected_same g d m u e b (from + 2 ^ b) (omega (arith, le, p)), selected_same g d m u e b from (omega (arith, le, p)))

  addr_of_same : (d : Signal) → d.value s ≡ d.value t → (addr_of l.slots f d).value s ≡ (addr_of l.slots f d).value t
  addr_of_same d e =
      reserved_same (at_ticket l.slots (λ k. reg_signal l.slots.bits (addr_at l.slots k)) d) (slot_of l.slots d)
      (selected_same (λ k. reg_signal l.slots.bits (addr_at l.slots k)) d l.slots.size addr_same e (l.slots.ticket - 1) 0 (omega (arith, z.sized.power)))
      (slot_same d e)

  content_of_same : (d : Signal) → d.value s ≡ d.value t → (content_of l.slots f d).value s ≡ (content_of l.slots f d).value t
  content_of_same d e =
      let g = at_ticket l.slots (content_signal l.slots) d in
      let p = content_place l.slots f g (slot_of l.slots d) z.place in
      ap (λ (h : Signal). h.value s) p
      ∙ selected_same (content_signal l.slots) d l.slots.size content_same e (l.slots.ticket - 1) 0 (omega (arith, z.sized.power))
      ∙ sym (ap (λ (h : Signal). h.value t) p)

  oldest_addr_same : (oldest_addr l.slots f).value s ≡ (oldest_addr l.slots f).value t
  oldest_addr_same = addr_of_same (head_signal l.slots) head_same

  next_addr_same : (next_addr l.slots f).value s ≡ (next_addr l.slots f).value t
  next_addr_same = addr_of_same (next_head l.slots) next_same

  oldest_place_same : (oldest_place l f).value s ≡ (oldest_place l f).value t
  oldest_place_same = content_of_same (head_signal l.slots) head_same

  next_place_of_same : (next_place_of l f).value s ≡ (next_place_of l f).value t
  next_place_of_same = content_of_same (next_head l.slots) next_same

  mapped_same : (g : Signal) → g.value s ≡ g.value t → (mapped_place l g).value s ≡ (mapped_place l g).value t
  mapped_same g e = selected_same (register_of (registers_of_map l)) g l.depth map_same e l.slots.bits 0 (omega (arith, z.depth))

  freed_slot_same : (freed_slot l f).value s ≡ (freed_slot l f).value t
  unfolding mux_value const_value
  freed_slot_same = cc (h.release, slot_same (head_signal l.slots) head_same)

  freed2_slot_same : (freed2_slot l f).value s ≡ (freed2_slot l f).value t
  unfolding mux_value const_value
  freed2_slot_same = cc (h.release2, slot_same (next_head l.slots) next_same)

  freed_same : (freed_place l f).value s ≡ (freed_place l f).value t
  freed_same = mapped_same (oldest_addr l.slots f) oldest_addr_same

  freed2_same : (freed2_place l f).value s ≡ (freed2_place l f).value t
  unfolding mux_value bin_value
  freed2_same = cc (next_addr_same, oldest_addr_same, oldest_place_same, mapped_same (next_addr l.slots f) next_addr_same)

  place_after_same : (k : ℕ) → k < l.slots.size → (next_place l f k).value s ≡ (next_place l f k).value t
  unfolding mux_value bin_value const_value
  place_after_same k lt = cc (freed_slot_same, freed2_slot_same, freed_same, freed2_same, content_same k lt)

  first_map_same : (k : ℕ) → k < l.depth → (first_map l f k).value s ≡ (first_map l f k).value t
  unfolding mux_value bin_value const_value
  first_map_same k lt = cc (h.release, oldest_addr_same, oldest_place_same, map_same k lt)

  map_after_same : (k : ℕ) → k < l.depth → (next_map l f k).value s ≡ (next_map l f k).value t
  unfolding mux_value bin_value const_value
  map_after_same k lt = cc (h.release2, next_addr_same, next_place_of_same, first_map_same k lt)

  -- ---- all registers

  all_same : (c : Circuit) → NextRename c l f → (r : ℕ) → l.slots.from ≤ r → r < l.slots.from + (2 + 3 * l.slots.size + l.depth) → IsSame c s t r
  all_same c n = of_each l (IsSame c s t) z.map
      (same_next c s t l.slots.from _ n.ends.head head_after_same)
      (same_next c s t (l.slots.from + 1) _ n.ends.tail tail_after_same)
      (λ k lt. same_next c s t (addr_at l.slots k) _ (n.addrs.addr k lt) (slot_addr_same k lt))
      (λ k lt. same_next c s t (has_at l.slots k) _ (n.bits.bit k lt) (bit_same k lt (length f.writes) (omega arith)))
      (λ k lt. same_next c s t (value_at l.slots k) _ (n.places.place k lt) (place_after_same k lt))
      (λ k lt. same_next c s t (map_at l k) _ (n.map.map k lt) (map_after_same k lt))

-- no written value comes into a register of a renaming lock, where these take what they should
pub hides_law : (c : Circuit) (l : Layout) (f : StepSignals) → IsRenaming l → NextRename c l f → HidesValues c (own_rename l) f
hides_law c l f z n = record {
  same = λ s t u v h i j r lo hi. i.regs r lo hi ∙ all_same l f s t z h c n r lo hi ∙ sym (j.regs r lo hi);
}
