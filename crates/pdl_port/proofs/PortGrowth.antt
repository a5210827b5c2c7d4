-- A port stays in a circuit when more is added.
use Rattle.std.proofs.Common.{ℕ, List, refl, ◌∙◌, arith}
use Rattle.pdl_net.specs.declared.Net.{Net}
use Rattle.pdl_net.specs.declared.Net.TheVariants.{Reg}
use Rattle.pdl_net.specs.Circuit.{Circuit}
use Rattle.pdl_net.specs.Growth.{Keeps, Extends, ExtendsBut, Own, Outside}
use Rattle.pdl_net.proofs.Keeps.{extends_keeps, but_keeps}
use Rattle.pdl_net.proofs.KeptWidths.{width_keeps}
use Rattle.pdl_lockapi.specs.Laws.{OwnKept}
use Rattle.pdl_port.specs.declared.PortRegs.{PortRegs}
use Rattle.pdl_port.specs.declared.PortStep.{PortStep}
use Rattle.pdl_port.specs.declared.layout.PortLayout.{PortLayout}
use Rattle.pdl_port.specs.Laws.{places, own, IsFragment, HasBits, net_at}
use Rattle.pdl_port.specs.Places.{HasPlaces, HasStep, AreReset, ArePlaced, layout_of, owns_at}

places_keep : (a b : Circuit) (l : PortLayout) (n : ℕ) → HasPlaces a l n → Keeps a b → HasPlaces b l n
places_keep a b l n x y = record {
  orphan_there = y.there (Reg l.from) x.orphan_there;
  orphan = y.kept (Reg l.from) x.orphan_there ∙ x.orphan;
  has_orphan = y.has_reg l.from x.has_orphan;
  orphan_one = y.width l.from x.has_orphan ∙ x.orphan_one;
  owns_there = λ k h. y.there (Reg (owns_at l k)) (x.owns_there k h);
  owner = λ k h. y.kept (Reg (owns_at l k)) (x.owns_there k h) ∙ x.owner k h;
  has_owns = λ k h. y.has_reg (owns_at l k) (x.has_owns k h);
  owns_one = λ k h. y.width (owns_at l k) (x.has_owns k h) ∙ x.owns_one k h;
}

-- the registers of a port stay while the circuit grows
pub places_kept : (a b : Circuit) (l : PortLayout) (n : ℕ) → HasPlaces a l n → Extends a b → HasPlaces b l n
places_kept a b l n x y = places_keep a b l n x (extends_keeps a b y)

-- the registers of a port stay while those of a fragment are told what they take next
pub places_kept_but : (o : Own) (a b : Circuit) (l : PortLayout) (n : ℕ) → HasPlaces a l n → ExtendsBut o a b → HasPlaces b l n
places_kept_but o a b l n x y = places_keep a b l n x (but_keeps o a b y)

-- the reset values of a port's registers stay while the circuit grows
pub reset_kept : (a b : Circuit) (l : PortLayout) (n : ℕ) → HasPlaces a l n → AreReset a l n → Extends a b → AreReset b l n
reset_kept a b l n h x y = record {
  orphan = y.reset l.from h.has_orphan ∙ x.orphan;
  owns = λ k lt. y.reset (owns_at l k) (h.has_owns k lt) ∙ x.owns k lt;
}

-- a port stands in a circuit that keeps what it was made in
pub port_keeps : (a b : Circuit) (r : PortRegs) → Keeps a b → ArePlaced a r → ArePlaced b r
port_keeps a b r k x = record {
  count = x.count;
  small = x.small;
  reply = width_keeps a b r.reply 1 k x.reply;
  regs = places_keep a b (layout_of r) (places r) x.regs k;
}

-- nets of 1 bit stay there in a circuit that keeps what they were made in
pub bits_keep : (a b : Circuit) (nets : List Net) (n : ℕ) → HasBits a nets n → Keeps a b → HasBits b nets n
bits_keep a b nets n h e = record {
  count = h.count;
  each = λ k l. width_keeps a b (net_at nets k) 1 e (h.each k l);
}

-- nets of 1 bit stay while the circuit grows
pub bits_kept : (a b : Circuit) (nets : List Net) (n : ℕ) → HasBits a nets n → Extends a b → HasBits b nets n
bits_kept a b nets n h e = bits_keep a b nets n h (extends_keeps a b e)

-- a port's registers keep what they take next
pub own_here : (a b : Circuit) (r : PortRegs) → IsFragment a b r → OwnKept (own r) b b
own_here a b r f = record {
  has_reg = f.has_reg;
  nexts = λ k lo hi. refl;
  has_array = λ m lo hi. absurd (omega arith);
  writes = λ m lo hi. refl;
}

step_keeps : (a b : Circuit) (n : ℕ) (r : PortRegs) (p : PortStep) → HasStep a n r p → Keeps a b → HasStep b n r p
step_keeps a b n r p x k = record {
  reply = width_keeps a b r.reply 1 k x.reply;
  asked_count = x.asked_count;
  asked = λ j h. width_keeps a b (net_at p.asked j) 1 k (x.asked j h);
  moves_count = x.moves_count;
  moves = λ j h. width_keeps a b (net_at p.moves j) 1 k (x.moves j h);
  removed_count = x.removed_count;
  removed = λ j h. width_keeps a b (net_at p.removed j) 1 k (x.removed j h);
}

-- the nets of a port's step stay while the circuit grows
pub step_kept : (a b : Circuit) (n : ℕ) (r : PortRegs) (p : PortStep) → HasStep a n r p → Extends a b → HasStep b n r p
step_kept a b n r p x e = step_keeps a b n r p x (extends_keeps a b e)

-- the nets of a port's step stay while registers of a fragment are told what they take next
pub step_kept_but : (o : Own) (a b : Circuit) (n : ℕ) (r : PortRegs) (p : PortStep) → HasStep a n r p → ExtendsBut o a b → HasStep b n r p
step_kept_but o a b n r p x e = step_keeps a b n r p x (but_keeps o a b e)

-- what stays but for a range of registers stays but for a wider range
pub but_wider : (o w : Own) (a b : Circuit) → ((r : ℕ) → Outside w.from w.to r → Outside o.from o.to r)
    → ((m : ℕ) → Outside w.first w.last m → Outside o.first o.last m) → ExtendsBut o a b → ExtendsBut w a b
but_wider o w a b regs arrays x = record {
  there = x.there;
  kept = x.kept;
  has_reg = x.has_reg;
  width = x.width;
  reset = x.reset;
  has_array = x.has_array;
  word = x.word;
  depth = x.depth;
  nexts = λ r h u. x.nexts r h (regs r u);
  writes = λ m h u. x.writes m h (arrays m u);
  ports = x.ports;
  shapes = x.shapes;
}
