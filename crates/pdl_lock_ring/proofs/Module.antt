-- What the calls of the module answer, for the layout of the registers that they are given.
use Rattle.std.proofs.Common.{◌≡◌, ℕ, ◌+◌, ◌-◌, ◌*◌, ◌%◌, ◌<◌, ◌≤◌, ◌++◌, List, [], ◌∷◌, length, get_or, refl, sym, ap, ◌∙◌, subst, arith}
use Rattle.std.specs.Prelude.{Option, slice_index, replicate}
use Rattle.std.proofs.lemmas.List.{append-nil}
use Rattle.std.proofs.lemmas.Nat.{mod_below}
use Rattle.pdl_semantics.specs.Tree.{Queue}
use Rattle.pdl_kit.specs.declared.mem_info.MemInfo.{MemInfo}
use Rattle.pdl_net.specs.Run.{filled_words}
use Rattle.pdl_net.specs.Circuit.{Circuit, State, HasReg}
use Rattle.pdl_net.specs.Signal.{Signal, reg_value}
use Rattle.pdl_net.specs.Growth.{Own, Extends}
use Rattle.pdl_net.proofs.KeptWidths.{width_meant}
use Rattle.pdl_lockapi.specs.declared.LockRegs.{LockRegs}
use Rattle.pdl_lockapi.specs.declared.LockPorts.{LockPorts}
use Rattle.pdl_lockapi.specs.declared.LockNets.{LockNets}
use Rattle.pdl_lockapi.specs.Laws.{own, first_reg, end_reg, first_array, end_array, IsFragment, HasCommitNets, HasImage, HasWords, StartLaw, step_signals, PortsFit}
use Rattle.pdl_lockapi.specs.SlotLaws.{slot_regs, SlotsLaw}
use Rattle.pdl_lock_ring.specs.declared.layout.Content.{Content}
use Rattle.pdl_lock_ring.specs.declared.layout.Content.TheVariants.{Value}
use Rattle.pdl_lock_ring.specs.declared.layout.RingLayout.{RingLayout}
use Rattle.pdl_lock_ring.specs.Slots.{IsSized, Holds, reg_of, content_signal, addr_at, has_at, value_at, HasSlots, ArePlaced, AreReset, Stands, IsLayout, IsMemArray, layout_of, ticket_bits, numbers_from, slots_of}
use Rattle.pdl_lock_ring.specs.Oldest.{AreCommits}
use Rattle.pdl_lock_ring.specs.Steps.{own_all}
use Rattle.pdl_lock_ring.proofs.Ends.{release_is, release2_is}
use Rattle.pdl_lock_ring.proofs.Sizes.{numbers_length, numbers_at, slots_length}
use Rattle.pdl_lock_ring.proofs.Still.{regs_are, each_reg}

-- a layout by its fields
abbrev fields : ℕ → ℕ → ℕ → ℕ → ℕ → ℕ → Option ℕ → Content → RingLayout
fields size ticket width kept bits from array content =
    record { size = size; ticket = ticket; width = width; kept = kept; bits = bits; from = from; array = array; content = content }

same_fields : (a b c d e f a' b' c' d' e' f' : ℕ) (x y : Option ℕ) (m n : Content)
    → a ≡ a' → b ≡ b' → c ≡ c' → d ≡ d' → e ≡ e' → f ≡ f' → x ≡ y → m ≡ n
    → fields a b c d e f x m ≡ fields a' b' c' d' e' f' y n
same_fields a b c d e f a' b' c' d' e' f' x y m n p q r s t u v w = cc

-- the first of a lock's registers has the number from which they are listed
pub first_is : (from count : ℕ) (regs : List ℕ) → 1 ≤ count → regs ≡ numbers_from from count → slice_index regs 0 ≡ from
first_is from count regs some e = ap (λ ns. get_or ns 0 0) e ∙ numbers_at from count 0 some ∙ (omega arith)

-- a lock whose registers are listed from one number on has as many of them as the list
pub count_is : (from count : ℕ) (regs : List ℕ) → regs ≡ numbers_from from count → length regs ≡ count
count_is from count regs e = ap length e ∙ numbers_length from count

-- the registers that are answered are those of the layout
pub layout_is : (q : ℕ) (m : MemInfo) (n : ℕ) (l : RingLayout) (r : LockRegs) → IsLayout q m n l
    → r.regs ≡ numbers_from l.from (2 + 3 * l.size) → r.width ≡ l.width → r.bits ≡ l.bits → r.array ≡ l.array
    → layout_of q r ≡ l
layout_is q m n l r i e w b a =
    same_fields q (ticket_bits q) r.width r.width r.bits (first_reg r) l.size l.ticket l.width l.kept l.bits l.from r.array l.array Value l.content (sym i.size)
    (sym i.ticket) w (w ∙ i.width ∙ sym i.kept) b (first_is l.from (2 + 3 * l.size) r.regs (omega arith) e) a (sym i.content)

-- slots whose registers were answered are in a circuit where the slots of their layout are
pub are_placed : (q : ℕ) (m : MemInfo) (n : ℕ) (c : Circuit) (l : RingLayout) (r : LockRegs) → IsLayout q m n l
    → layout_of q r ≡ l → r.regs ≡ numbers_from l.from (2 + 3 * l.size) → r.slots ≡ slots_of l l.size → IsSized l
    → HasSlots c l → ArePlaced q c r
are_placed q m n c l r i same e listed z h =
    let S : RingLayout → Type 0 = λ y. HasSlots c y in
    let L : RingLayout → Type 0 = λ y. r.slots ≡ slots_of y y.size in
    record {
      count = count_is l.from (2 + 3 * l.size) r.regs e ∙ ap (λ k. 2 + 3 * k) i.size;
      listed = subst L (sym same) listed;
      sized = subst IsSized (sym same) z;
      slots = subst S (sym same) h;
    }

-- registers that are listed after the old ones, and a memory's new array, are a fragment of the new circuit
pub is_fragment : (a b c : Circuit) (from count : ℕ) (m : MemInfo) (r : LockRegs)
    → 1 ≤ count → r.regs ≡ numbers_from from count → from ≡ length a.regs → length b.regs ≡ from + count
    → IsMemArray a b m r.array → Extends b c → IsFragment a c r
unfolding HasReg
is_fragment a b c from count m r some e place n x k =
    let f = first_is from count r.regs some e in
    let o = count_is from count r.regs e in
    record {
      some = omega (arith, o, some);
      listed = λ j lt. ap (λ ns. get_or ns j 0) e ∙ numbers_at from count j (omega (arith, o, lt)) ∙ ap (λ v. v + j) (sym f);
      above = omega (arith, f, place);
      has_reg = λ j lo hi. k.has_reg j (omega (arith, f, o, n, hi));
      array_above = λ j h. x.above j h;
      has_array = λ j h. k.has_array j (x.has j h);
    }

-- a register or an array of a lock's range
pub own_is : (q : ℕ) (c : Circuit) (r : LockRegs) → ArePlaced q c r → own_all (layout_of q r) ≡ own r
own_is q c r i =
    let f : ℕ → Own = λ n. record { from = first_reg r; to = first_reg r + n; first = first_array r.array; last = end_array r.array } in
    ap f (sym i.count)

-- an image as long as the array has nothing after it
filled_whole : (image : List ℕ) → filled_words (length image) image ≡ image
filled_whole image = let e : length image - length image ≡ 0 = omega arith in ap (λ n. image ++ replicate n 0) e ∙ append-nil image

words_held : (array : Option ℕ) (s : State) (image : List ℕ) → HasImage Queue array s image → HasWords array s image
words_held array s image h = subst (HasWords array s) (filled_whole image) h

-- slots of which none holds a pending write
pub none_hold : (n : ℕ) (A H X : ℕ → ℕ) → Holds n 0 A H X []
none_hold n A H X = record {
  room = omega arith;
  has_addr = λ i h. absurd (omega arith);
  is_full = λ i h. absurd (omega arith);
  has_value = λ i v h e. absurd (omega arith);
}

-- registers at reset and an array with a whole image stand for a lock that keeps values, at its start
pub start_law : (q : ℕ) (c : Circuit) (r : LockRegs) → ArePlaced q c r → AreReset c (layout_of q r) 0
    → StartLaw (Stands (layout_of q r)) Queue c r
start_law q c r i a =
    let l = layout_of q r in
    record {
      starts = λ s image z long words. record {
        entries = record {
          head = z.regs l.from (omega arith) (omega (arith, i.count)) ∙ a.head ∙ (omega arith);
          tail = z.regs (l.from + 1) (omega arith) (omega (arith, i.count)) ∙ a.tail ∙ (omega arith);
          slots = none_hold q (λ k. reg_of s (addr_at l k)) (λ k. reg_of s (has_at l k)) (λ k. (content_signal l k).value s);
        };
        words = words_held r.array s image words;
      };
    }

-- ---- the registers of the slots

long_is : (gs : List ℕ) (a b c : ℕ) → gs ≡ a ∷ b ∷ c ∷ [] → length gs ≡ 3
long_is gs a b c e = ap length e

-- the slots of a ring that keeps values follow the laws of a lock's slots
pub slots_law : (q : ℕ) (c : Circuit) (r : LockRegs) → ArePlaced q c r → SlotsLaw (Stands (layout_of q r)) Queue q r
unfolding reg_value
slots_law q c r i =
    let l = layout_of q r in
    let at = λ (k : ℕ) (h : k < q). regs_are l r k refl i.listed h in
    record {
      regs = record {
        count = ap length i.listed ∙ slots_length l q;
        least = λ k h. let e = long_is (slot_regs r k) (addr_at l k) (value_at l k) (has_at l k) (at k h) in omega (arith, e);
        within = λ k j h lt.
            let P : ℕ → Type 0 = λ g. (first_reg r ≤ g) × (g < end_reg r) in
            let Q : List ℕ → Type 0 = λ gs. (j < length gs) → P (slice_index gs j) in
            subst Q (sym (at k h))
            (λ m. each_reg P (addr_at l k) (value_at l k) (has_at l k) (omega arith, omega (arith, i.count, h))
            (omega arith, omega (arith, i.count, h)) (omega arith, omega (arith, i.count, h)) j m) lt;
      };
      addresses = record {
        addr = λ s x k h lt.
            let n = (x.base + k) % q in
            ap (λ gs. reg_of s (slice_index gs 0)) (at n (mod_below (x.base + k) q i.sized.some)) ∙ h.entries.slots.has_addr k lt;
      };
      values = record {
        value = λ s x k v h lt e.
            let n = (x.base + k) % q in
            ap (λ gs. reg_of s (slice_index gs 1)) (at n (mod_below (x.base + k) q i.sized.some)) ∙ h.entries.slots.has_value k v lt e;
      };
    }

-- ---- the commit nets

-- the nets of the first commit are there with their widths, where the step's ports fit
pub commit_nets : (a b : Circuit) (l : RingLayout) (w : ℕ) (p : LockPorts) (n : LockNets)
    → PortsFit a l.bits l.width w p → AreCommits b l (step_signals a p) n
    → HasCommitNets b l.bits l.width n.commit n.addr n.value
commit_nets a b l w p n fit c = record {
  commit = width_meant b n.commit (step_signals a p).release 1 c.commit (ap (λ (f : Signal). f.width) (release_is a p) ∙ fit.release_one);
  addr = record { there = c.addr.there; width = c.addr_wide };
  value = record { there = c.value.there; width = c.value_wide };
}

-- the nets of the second commit are there with their widths, where the step's ports fit
pub commit2_nets : (a b : Circuit) (l : RingLayout) (w : ℕ) (p : LockPorts) (n : LockNets)
    → PortsFit a l.bits l.width w p → AreCommits b l (step_signals a p) n
    → HasCommitNets b l.bits l.width n.commit2 n.addr2 n.value2
commit2_nets a b l w p n fit c = record {
  commit = width_meant b n.commit2 (step_signals a p).release2 1 c.commit2 (ap (λ (f : Signal). f.width) (release2_is a p) ∙ fit.release2_one);
  addr = record { there = c.addr2.there; width = c.addr2_wide };
  value = record { there = c.value2.there; width = c.value2_wide };
}
