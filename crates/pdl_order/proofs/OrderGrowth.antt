-- An order stays in a circuit when more is added.
use Rattle.std.proofs.Common.{refl, ◌∙◌, arith}
use Rattle.pdl_net.specs.declared.Net.TheVariants.{Reg}
use Rattle.pdl_net.specs.Circuit.{Circuit}
use Rattle.pdl_net.specs.Growth.{Keeps, Extends}
use Rattle.pdl_net.proofs.Keeps.{extends_keeps}
use Rattle.pdl_net.proofs.KeptWidths.{width_keeps}
use Rattle.pdl_lockapi.specs.Laws.{OwnKept}
use Rattle.pdl_order.specs.declared.OrderRegs.{OrderRegs}
use Rattle.pdl_order.specs.declared.OrderPorts.{OrderPorts}
use Rattle.pdl_order.specs.declared.layout.OrderLayout.{OrderLayout}
use Rattle.pdl_order.specs.Laws.{own, IsFragment, HasPorts}
use Rattle.pdl_order.specs.Words.{sides_at, HasWords, ArePlaced, layout_of}

words_keep : (a b : Circuit) (l : OrderLayout) → HasWords a l → Keeps a b → HasWords b l
words_keep a b l x y = record {
  low = x.low;
  high = x.high;
  small = x.small;
  used_there = y.there (Reg l.from) x.used_there;
  used = y.kept (Reg l.from) x.used_there ∙ x.used;
  has_used = y.has_reg l.from x.has_used;
  used_width = y.width l.from x.has_used ∙ x.used_width;
  sides_there = y.there (Reg (sides_at l)) x.sides_there;
  sides = y.kept (Reg (sides_at l)) x.sides_there ∙ x.sides;
  has_sides = y.has_reg (sides_at l) x.has_sides;
  sides_width = y.width (sides_at l) x.has_sides ∙ x.sides_width;
}

-- the two registers of an order stay in a circuit that grows without other change
pub words_kept : (a b : Circuit) (l : OrderLayout) → HasWords a l → Extends a b → HasWords b l
words_kept a b l x y = words_keep a b l x (extends_keeps a b y)

-- an order stands in a circuit that keeps what it was made in
pub order_keeps : (a b : Circuit) (r : OrderRegs) → Keeps a b → ArePlaced a r → ArePlaced b r
order_keeps a b r k x = record { count = x.count; words = words_keep a b (layout_of r) x.words k }

-- the nets of an order's step stay there in a circuit that keeps what they were made in
pub ports_keep : (a b : Circuit) (p : OrderPorts) → HasPorts a p → Keeps a b → HasPorts b p
ports_keep a b p x k = record {
  entered_first = width_keeps a b p.entered_first 1 k x.entered_first;
  entered_second = width_keeps a b p.entered_second 1 k x.entered_second;
  left = width_keeps a b p.left 1 k x.left;
  emptied = width_keeps a b p.emptied 1 k x.emptied;
}

-- an order's registers keep what they take next
pub own_here : (a b : Circuit) (r : OrderRegs) → IsFragment a b r → OwnKept (own r) b b
own_here a b r f = record {
  has_reg = f.has_reg;
  nexts = λ k lo hi. refl;
  has_array = λ m lo hi. absurd (omega arith);
  writes = λ m lo hi. refl;
}
