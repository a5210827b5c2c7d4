-- The registers of a stage, one after the other, and what a stage begins with.
use Rattle.std.proofs.Common.{◌≡◌, inl, inr, ◌⊎◌, ℕ, suc, ◌+◌, ◌<◌, List, [], ◌∷◌, ◌++◌, length, append_assoc, append-nil, sym, ap, ◌∙◌, subst, arith}
use Rattle.std.proofs.lemmas.List.{get_or_append_left, length-append}
use Rattle.std.proofs.Math.Seq.{get_or-append_seam}
use Rattle.pdl_form.specs.Form.{Form}
use Rattle.pdl_net.specs.declared.Net.{Net}
use Rattle.pdl_net.specs.declared.Net.TheVariants.{Reg as RegNet}
use Rattle.pdl_net.specs.Circuit.{Circuit}
use Rattle.pdl_net.specs.Signal.{Signal, reg_signal}
use Rattle.pdl_net.specs.Meaning.{signal, IsThere}
use Rattle.pdl_net.specs.Growth.{Keeps, Extends}
use Rattle.pdl_net.proofs.Keeps.{extends_keeps}
use Rattle.pdl_pipe_registers.specs.declared.nets.Item.{Item}
use Rattle.pdl_pipe_registers.specs.declared.nets.Item.TheVariants.{Var}
use Rattle.pdl_pipe_registers.specs.declared.nets.StageRegs.{StageRegs}
use Rattle.pdl_pipe_registers.specs.Items.{item_at, item_width, first_value, IsOwn}
use Rattle.pdl_pipe_registers.specs.Stages.{reg_of, end_of, IsRegister, IsFrame, HasRegisters, IsBegunBy, AreOwn}
use Rattle.pdl_pipe_registers.specs.Begun.{with_item, MayAdd, IsLonger}
use Rattle.pdl_pipe_registers.proofs.Lists.{up_to}

register_keep : (a b : Circuit) (r w v : ℕ) → Keeps a b → IsRegister a r w v → IsRegister b r w v
register_keep a b r w v e h = record {
  has = e.has_reg r h.has;
  there = e.there (RegNet r) h.there;
  same = e.kept (RegNet r) h.there ∙ h.same;
  width = e.width r h.has ∙ h.width;
  reset = e.reset r h.has ∙ h.reset;
}

-- the registers of a stage stay in a circuit that keeps what stands in theirs
pub registers_keep : (a b : Circuit) (f : Form) (nexts : List Signal) (k : ℕ) (r : StageRegs) → Keeps a b
    → HasRegisters a f nexts k r → HasRegisters b f nexts k r
registers_keep a b f nexts k r e h = record {
  valid = register_keep a b r.valid 1 _ e h.valid;
  kept = λ i l. register_keep a b (reg_of r i) _ _ e (h.kept i l);
}

item_old : (xs : List Item) (i : Item) (j : ℕ) → j < length xs → item_at (xs ++ i ∷ []) j ≡ item_at xs j
item_old xs i j l = get_or_append_left xs (i ∷ []) (Var 0) j l

item_new : (xs : List Item) (i : Item) → item_at (xs ++ i ∷ []) (length xs) ≡ i
item_new xs i = get_or-append_seam xs i [] (Var 0)

count_new : (xs : List Item) (i : Item) → length (xs ++ i ∷ []) ≡ length xs + 1
count_new xs i = length-append xs (i ∷ [])

-- ---- registers

abbrev IsKeptIn : Form → List Signal → ℕ → Circuit → StageRegs → List Item → ℕ → Type 0
IsKeptIn f nexts k c r items j = IsRegister c (reg_of r j) (item_width f nexts (item_at items j)) (first_value f.pipe k (item_at items j))

module _ (f : Form) (nexts : List Signal) (k : ℕ) where
  frame_kept : (a b : Circuit) (r : StageRegs) → Extends a b → end_of r ≡ length b.regs → IsFrame a f nexts k r → IsFrame b f nexts k r
  frame_kept a b r x last h = record { last = last; registers = registers_keep a b f nexts k r (extends_keeps a b x) h.registers }

  frame_more : (a b : Circuit) (r : StageRegs) (i : Item) → Extends a b
      → IsRegister b (end_of r) (item_width f nexts i) (first_value f.pipe k i) → end_of (with_item r i) ≡ length b.regs
      → IsFrame a f nexts k r → IsFrame b f nexts k (with_item r i)
  frame_more a b r i x new last h = record {
    last = last;
    registers = record {
      valid = register_keep a b r.valid 1 _ (extends_keeps a b x) h.registers.valid;
      kept = λ j l. all j (let e = count_new r.items i in omega (arith, l, e));
    };
  }
    where
      old : (j : ℕ) → j < length r.items → IsKeptIn f nexts k b r (r.items ++ i ∷ []) j
      old j l =
          subst (λ (y : Item). IsRegister b (reg_of r j) (item_width f nexts y) (first_value f.pipe k y))
          (sym (item_old r.items i j l))
          (register_keep a b (reg_of r j) _ _ (extends_keeps a b x) (h.registers.kept j l))

      here : IsKeptIn f nexts k b r (r.items ++ i ∷ []) (length r.items)
      here = subst (λ (y : Item). IsRegister b (end_of r) (item_width f nexts y) (first_value f.pipe k y)) (sym (item_new r.items i)) new

      all : (j : ℕ) → j < length r.items + 1 → IsKeptIn f nexts k b r (r.items ++ i ∷ []) j
      all = up_to (IsKeptIn f nexts k b r (r.items ++ i ∷ [])) (length r.items) old here

  -- with one register more for an item, or none, a stage's registers are still the last ones
  pub frame_may : (a b : Circuit) (r t : StageRegs) (i : Item) (net : Net) (Settled : Signal → Type 0) → Extends a b
      → MayAdd b r t i (item_width f nexts i) (first_value f.pipe k i) net Settled → end_of t ≡ length b.regs
      → IsFrame a f nexts k r → IsFrame b f nexts k t
  frame_may a b r t i net Settled x (inl m) last h =
      subst (IsFrame b f nexts k) (sym m.regs) (frame_more a b r i x m.register (ap end_of (sym m.regs) ∙ last) h)
  frame_may a b r t i net Settled x (inr m) last h = subst (IsFrame b f nexts k) (sym m.regs) (frame_kept a b r x (ap end_of (sym m.regs) ∙ last) h)

-- ---- what they may keep

-- with an item that it may keep a stage's registers still keep what they may
pub own_more : (c : Circuit) (f : Form) (k : ℕ) (i : Item) (r t : StageRegs) (w v : ℕ) (net : Net) (S : Signal → Type 0)
    → MayAdd c r t i w v net S → ((t ≡ r) ⊎ IsOwn f k i) → AreOwn f k r → AreOwn f k t
own_more c f k i r t w v net S may (inl e) h = subst (AreOwn f k) (sym e) h
own_more c f k i r t w v net S (inr m) (inr o) h = subst (AreOwn f k) (sym m.regs) h
own_more c f k i r t w v net S (inl m) (inr o) h =
    subst (AreOwn f k) (sym m.regs)
    (λ j l. up_to (λ n. IsOwn f k (item_at (r.items ++ i ∷ []) n)) (length r.items)
    (λ n q. subst (IsOwn f k) (sym (item_old r.items i n q)) (h n q))
    (subst (IsOwn f k) (sym (item_new r.items i)) o) j
    (let e = count_new r.items i in omega (arith, l, e)))

-- ---- longer and longer

-- where no register was added, a stage's registers begin with those it had
pub longer_none : (r : StageRegs) → IsLonger r r
longer_none r = record { valid = Rattle.std.proofs.Common.refl; items = ([], sym (append-nil r.items)) }

-- registers that were added to registers with some added were added to the first ones too
pub longer_trans : (r s t : StageRegs) → IsLonger r s → IsLonger s t → IsLonger r t
longer_trans r s t h k = record {
  valid = k.valid ∙ h.valid;
  items = let a = h.items in let b = k.items in (a.0 ++ b.0, b.1 ∙ ap (λ l. l ++ b.0) a.1 ∙ append_assoc r.items a.0 b.0);
}

-- where one register may have been added, a stage's registers begin with those it had
pub longer_may : (c : Circuit) (r t : StageRegs) (i : Item) (w v : ℕ) (net : Net) (S : Signal → Type 0)
    → MayAdd c r t i w v net S → IsLonger r t
longer_may c r t i w v net S (inl m) =
    subst (IsLonger r) (sym m.regs) record { valid = Rattle.std.proofs.Common.refl; items = (i ∷ [], Rattle.std.proofs.Common.refl) }
longer_may c r t i w v net S (inr m) = subst (IsLonger r) (sym m.regs) (longer_none r)

-- ---- items

module _ (f : Form) (nexts : List Signal) where
  -- an item stays where more follow
  pub by_longer : (r t : StageRegs) (i : Item) (g : Signal) (S : Signal → Type 0) → IsLonger r t → IsBegunBy f nexts r i g S → IsBegunBy f nexts t i g S
  by_longer r t i g S h (inr q) = inr q
  by_longer r t i g S h (inl q) =
      let j = q.0 in
      let low : j < length r.items = q.1 in
      let same : item_at r.items j ≡ i = q.2 in
      let more = h.items.0 in
      let long : length t.items ≡ length r.items + length more = ap length h.items.1 ∙ length-append r.items more in
      inl (
        j,
        omega (arith, low, long),
        ap (λ xs. item_at xs j) h.items.1 ∙ get_or_append_left r.items more (Var 0) j low ∙ same,
        q.3 ∙ ap (λ n. reg_signal (item_width f nexts i) (suc (n + j))) (sym h.valid),
      )

  -- an item begins with the register that was added for it, or with the settled signal of its net
  pub by_new : (c : Circuit) (r t : StageRegs) (i : Item) (v : ℕ) (net : Net) (Settled : Signal → Type 0)
      → MayAdd c r t i (item_width f nexts i) v net Settled → IsBegunBy f nexts t i (signal c net) Settled
  by_new c r t i v net Settled (inr m) = inr m.settled
  by_new c r t i v net Settled (inl m) =
      subst (λ (u : StageRegs). IsBegunBy f nexts u i (signal c net) Settled) (sym m.regs)
      (inl (length r.items, (let e = count_new r.items i in omega (arith, e)), item_new r.items i, ap (signal c) m.net_is ∙ m.register.same))

  -- an item begins with a register, or with a signal that is so by a weaker demand
  pub by_weaker : (r : StageRegs) (i : Item) (g : Signal) (S Settled : Signal → Type 0) → (S g → Settled g)
      → IsBegunBy f nexts r i g S → IsBegunBy f nexts r i g Settled
  by_weaker r i g S Settled k (inl h) = inl h
  by_weaker r i g S Settled k (inr h) = inr (k h)

-- the net of an item is there, whether a register was added for it or not
pub may_there : (c : Circuit) (r t : StageRegs) (i : Item) (w v : ℕ) (net : Net) (S : Signal → Type 0)
    → MayAdd c r t i w v net S → IsThere c net
may_there c r t i w v net S (inl m) = subst (IsThere c) (sym m.net_is) m.register.there
may_there c r t i w v net S (inr m) = m.wide.there

-- the net of an item has its width, whether a register was added for it or not
pub may_wide : (c : Circuit) (r t : StageRegs) (i : Item) (w v : ℕ) (net : Net) (S : Signal → Type 0)
    → MayAdd c r t i w v net S → (signal c net).width ≡ w
may_wide c r t i w v net S (inl m) = ap (λ (x : Net). (signal c x).width) m.net_is ∙ ap (λ (g : Signal). g.width) m.register.same
may_wide c r t i w v net S (inr m) = m.wide.width
