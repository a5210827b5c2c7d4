-- The ring stays in a circuit when more is added, and so do the nets of a step.
use Rattle.std.proofs.Common.{◌≡◌, ℕ, ◌+◌, ap, sym, subst, ◌∙◌}
use Rattle.std.specs.Prelude.{Option, List}
use Rattle.pdl_kit.specs.declared.mem_info.MemInfo.{MemInfo}
use Rattle.pdl_net.specs.declared.Net.{Net}
use Rattle.pdl_net.specs.declared.Net.TheVariants.{Reg}
use Rattle.pdl_net.specs.Circuit.{Circuit, Shape}
use Rattle.pdl_net.specs.declared.BinOp.{BinOp}
use Rattle.pdl_net.specs.Signal.{Signal, bin_signal, mux_signal}
use Rattle.pdl_net.specs.Meaning.{Means, signal}
use Rattle.pdl_net.specs.Growth.{Extends, ExtendsBut, ExtendsArrays, Keeps, Own, Outside}
use Rattle.pdl_net.proofs.Keeps.{extends_keeps, but_keeps, means_keeps}
use Rattle.pdl_lockapi.specs.declared.LockPorts.{LockPorts}
use Rattle.pdl_lockapi.specs.Laws.{StepSignals, step_signals}
use Rattle.pdl_lockapi.proofs.LockGrowth.{ports_there, ports_fit, same_signals}
use Rattle.pdl_lock_ring.specs.declared.choice.Registers.{Registers}
use Rattle.pdl_lock_ring.specs.declared.layout.RingLayout.{RingLayout}
use Rattle.pdl_lock_ring.specs.declared.taken.Taken.{Taken}
use Rattle.pdl_lock_ring.specs.declared.step.Oldest.{Oldest}
use Rattle.pdl_lock_ring.specs.Slots.{HasSlots, IsMemArray, AreReset, value_at}
use Rattle.pdl_lock_ring.specs.Registers.{HasRow, IsRowReset}
use Rattle.pdl_lock_ring.specs.SlotGrowth.{slots_keep}
use Rattle.pdl_lock_ring.specs.Ready.{HasPorts, IsReady}
use Rattle.pdl_lock_ring.specs.Oldest.{AreOldest}
use Rattle.pdl_lock_ring.specs.Steps.{pushes, pushes2, first_addr, second_addr, first_slot, second_slot}

-- the slots of a lock stay in a circuit that is extended
pub slots_kept : (a b : Circuit) (l : RingLayout) → HasSlots a l → Extends a b → HasSlots b l
slots_kept a b l x y = slots_keep a b l x (extends_keeps a b y)

-- the slots of a lock stay in a circuit that is extended but for what a fragment takes next
pub slots_kept_but : (o : Own) (a b : Circuit) (l : RingLayout) → HasSlots a l → ExtendsBut o a b → HasSlots b l
slots_kept_but o a b l x y = slots_keep a b l x (but_keeps o a b y)

-- the first n registers of a row stay in a circuit that is extended
pub row_kept : (a b : Circuit) (r : Registers) (n : ℕ) → HasRow a r n → Extends a b → HasRow b r n
row_kept a b r n x y = record {
  there = λ k h. y.there (Reg (r.first + k)) (x.there k h);
  same = λ k h. y.kept (Reg (r.first + k)) (x.there k h) ∙ x.same k h;
  has = λ k h. y.has_reg (r.first + k) (x.has k h);
  wide = λ k h. y.width (r.first + k) (x.has k h) ∙ x.wide k h;
}

row_reset_kept : (a b : Circuit) (r : Registers) (start step n : ℕ) → HasRow a r n → IsRowReset a r start step n
    → Extends a b → IsRowReset b r start step n
row_reset_kept a b r start step n h x y = record { reset = λ k l. y.reset (r.first + k) (h.has k l) ∙ x.reset k l }

-- the array that was made for a memory stays so, without writes, in a circuit that is extended
pub mem_array_kept : (a b c : Circuit) (m : MemInfo) (array : Option ℕ) → IsMemArray a b m array → Extends b c → IsMemArray a c m array
mem_array_kept a b c m array x y = record {
  some = x.some;
  above = x.above;
  has = λ k e. y.has_array k (x.has k e);
  word = λ k e. y.word k (x.has k e) ∙ x.word k e;
  depth = λ k e. y.depth k (x.has k e) ∙ x.depth k e;
  empty = λ k e. y.writes k (x.has k e) ∙ x.empty k e;
}

-- what is added after an array
pub arrays_extends : (a b c : Circuit) (added : List Shape) → ExtendsArrays a b added → Extends b c → ExtendsArrays a c added
arrays_extends a b c added x y = record {
  there = λ n h. y.there n (x.there n h);
  kept = λ n h. y.kept n (x.there n h) ∙ x.kept n h;
  has_reg = λ r h. y.has_reg r (x.has_reg r h);
  width = λ r h. y.width r (x.has_reg r h) ∙ x.width r h;
  reset = λ r h. y.reset r (x.has_reg r h) ∙ x.reset r h;
  has_array = λ m h. y.has_array m (x.has_array m h);
  word = λ m h. y.word m (x.has_array m h) ∙ x.word m h;
  depth = λ m h. y.depth m (x.has_array m h) ∙ x.depth m h;
  nexts = λ r h. y.nexts r (x.has_reg r h) ∙ x.nexts r h;
  writes = λ m h. y.writes m (x.has_array m h) ∙ x.writes m h;
  ports = y.ports ∙ x.ports;
  shapes = y.shapes ∙ x.shapes;
}

-- head, tail and slots keep their reset values in a circuit that is extended
pub reset_kept : (a b : Circuit) (l : RingLayout) (p : ℕ) → HasSlots a l → AreReset a l p → Extends a b → AreReset b l p
reset_kept a b l p h x y = record {
  head = y.reset l.from h.has_head ∙ x.head;
  tail = y.reset (l.from + 1) h.has_tail ∙ x.tail;
  contents = record { content = λ k lt. y.reset (value_at l k) (h.has_value k lt) ∙ x.contents.content k lt };
}

-- what stays but for a range of registers and arrays stays but for a wider range
pub but_wider : (o w : Own) (a b : Circuit) → ((r : ℕ) → Outside w.from w.to r → Outside o.from o.to r)
    → ((m : ℕ) → Outside w.first w.last m → Outside o.first o.last m) → ExtendsBut o a b → ExtendsBut w a b
but_wider o w a b regs arrays x = record {
  there = x.there;
  kept = x.kept;
  has_reg = x.has_reg;
  width = x.width;
  reset = x.reset;
  has_array = x.has_array;
  word = x.word;
  depth = x.depth;
  nexts = λ r h u. x.nexts r h (regs r u);
  writes = λ m h u. x.writes m h (arrays m u);
  ports = x.ports;
  shapes = x.shapes;
}

-- a net that means a signal means the same one
pub means_as : (b : Circuit) (x : Net) (f g : Signal) → Means b x f → f ≡ g → Means b x g
means_as b x f g m e = record { there = m.there; same = m.same ∙ e }

-- choices between equal signals by equal signals are equal
pub same_mux : (c x y c' x' y' : Signal) → c ≡ c' → x ≡ x' → y ≡ y' → mux_signal c x y ≡ mux_signal c' x' y'
same_mux c x y c' x' y' p q r = cc

-- one operator makes equal signals of equal signals
pub same_bin : (o : BinOp) (x y x' y' : Signal) → x ≡ x' → y ≡ y' → bin_signal o x y ≡ bin_signal o x' y'
same_bin o x y x' y' p q = cc

-- a net that means a signal has that signal in a circuit that is extended
pub later_is : (a b : Circuit) (x : Net) (f : Signal) → Extends a b → Means a x f → signal b x ≡ f
later_is a b x f y m = y.kept x m.there ∙ m.same

-- ---- the nets of a step

-- the ring and the nets of a step's ports stay in a circuit that keeps what it had
pub ports_keep : (a b : Circuit) (l : RingLayout) (p : LockPorts) → HasPorts a l p → Keeps a b → HasPorts b l p
ports_keep a b l p x y = record {
  sized = x.sized;
  slots = slots_keep a b l x.slots y;
  ports = ports_there a b p x.ports y;
  fit = ports_fit a b l.bits l.width l.ticket p x.ports x.fit y;
}

-- a net that means the signal of a step's ports does so later
means_later : (a b : Circuit) (p : LockPorts) (x : Net) (g : StepSignals → Signal)
    → step_signals b p ≡ step_signals a p → Keeps a b → Means a x (g (step_signals a p))
    → Means b x (g (step_signals b p))
means_later a b p x g e y m = subst (λ f. Means b x (g f)) (sym e) (means_keeps a b x (g (step_signals a p)) y m)

-- a net that is there keeps its width in a circuit that keeps what it had
pub wide_later : (a b : Circuit) (x : Net) (f : Signal) (w : ℕ) → Keeps a b → Means a x f → (signal a x).width ≡ w → (signal b x).width ≡ w
wide_later a b x f w y m e = ap (λ (g : Signal). g.width) (y.kept x m.there) ∙ e

-- the nets of a cycle's reservations and ports stay in a circuit that keeps what it had
pub ready_keep : (a b : Circuit) (l : RingLayout) (p : LockPorts) (t : Taken) → IsReady a l p t → Keeps a b → IsReady b l p t
ready_keep a b l p t x y =
    let e = same_signals a b p x.given.ports y in
    record {
      given = ports_keep a b l p x.given y;
      one = means_later a b p t.one pushes e y x.one;
      two = means_later a b p t.two pushes2 e y x.two;
      first = means_later a b p t.first (first_addr l) e y x.first;
      second = means_later a b p t.second (second_addr l) e y x.second;
      first_slot = means_later a b p t.first_slot (first_slot l) e y x.first_slot;
      second_slot = means_later a b p t.second_slot (second_slot l) e y x.second_slot;
      first_wide = wide_later a b t.first (first_addr l (step_signals a p)) l.bits y x.first x.first_wide;
      second_wide = wide_later a b t.second (second_addr l (step_signals a p)) l.bits y x.second x.second_wide;
      first_slot_wide = wide_later a b t.first_slot (first_slot l (step_signals a p)) l.ticket y x.first_slot x.first_slot_wide;
      second_slot_wide = wide_later a b t.second_slot (second_slot l (step_signals a p)) l.ticket y x.second_slot x.second_slot_wide;
    }

-- the ring and the nets of a step's ports stay in a circuit that is extended
pub ports_kept : (a b : Circuit) (l : RingLayout) (p : LockPorts) → HasPorts a l p → Extends a b → HasPorts b l p
ports_kept a b l p x y = ports_keep a b l p x (extends_keeps a b y)

-- the ring and the nets of a step's ports stay in a circuit extended but for what a fragment takes next
pub ports_kept_but : (o : Own) (a b : Circuit) (l : RingLayout) (p : LockPorts) → HasPorts a l p → ExtendsBut o a b → HasPorts b l p
ports_kept_but o a b l p x y = ports_keep a b l p x (but_keeps o a b y)

-- the nets of a cycle's reservations and ports stay in a circuit that is extended
pub ready_kept : (a b : Circuit) (l : RingLayout) (p : LockPorts) (t : Taken) → IsReady a l p t → Extends a b → IsReady b l p t
ready_kept a b l p t x y = ready_keep a b l p t x (extends_keeps a b y)

-- the nets of a cycle's reservations and ports stay in a circuit extended but for what a fragment takes next
pub ready_kept_but : (o : Own) (a b : Circuit) (l : RingLayout) (p : LockPorts) (t : Taken) → IsReady a l p t
    → ExtendsBut o a b → IsReady b l p t
ready_kept_but o a b l p t x y = ready_keep a b l p t x (but_keeps o a b y)

-- the nets of the two oldest pending writes stay in a circuit that keeps what it had
pub oldest_keep : (a b : Circuit) (l : RingLayout) (f : StepSignals) (o : Oldest) → AreOldest a l f o → Keeps a b → AreOldest b l f o
oldest_keep a b l f o x y = record {
  addr = means_keeps a b o.first.addr _ y x.addr;
  content = means_keeps a b o.first.content _ y x.content;
  addr2 = means_keeps a b o.second.addr _ y x.addr2;
  content2 = means_keeps a b o.second.content _ y x.content2;
  addr_wide = wide_later a b o.first.addr _ l.bits y x.addr x.addr_wide;
  content_wide = wide_later a b o.first.content _ l.kept y x.content x.content_wide;
  addr2_wide = wide_later a b o.second.addr _ l.bits y x.addr2 x.addr2_wide;
  content2_wide = wide_later a b o.second.content _ l.kept y x.content2 x.content2_wide;
}

-- the nets of the two oldest pending writes stay in a circuit that is extended
pub oldest_kept : (a b : Circuit) (l : RingLayout) (f : StepSignals) (o : Oldest) → AreOldest a l f o → Extends a b → AreOldest b l f o
oldest_kept a b l f o x y = oldest_keep a b l f o x (extends_keeps a b y)

-- the nets of the two oldest pending writes stay in a later circuit where the step's signals are the same
pub oldest_later : (a b : Circuit) (l : RingLayout) (f g : StepSignals) (o : Oldest)
    → f ≡ g → Keeps a b → AreOldest a l f o → AreOldest b l g o
oldest_later a b l f g o e y x = subst (λ h. AreOldest b l h o) e (oldest_keep a b l f o x y)
