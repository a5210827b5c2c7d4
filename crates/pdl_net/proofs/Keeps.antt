-- Growth is a preorder that keeps each fact on nets, registers and arrays.
use Rattle.std.proofs.Common.{◌≡◌, ℕ, List, ◌++◌, get_or, refl, ap, ◌∙◌, append_assoc, zero, suc, ◌≤◌, length, arith}
use Rattle.std.proofs.lemmas.List.{get_or-map}
use Rattle.pdl_net.specs.declared.Net.{Net}
use Rattle.pdl_net.specs.declared.Port.{Port}
use Rattle.pdl_net.specs.declared.Reg.{Reg}
use Rattle.pdl_net.specs.Circuit.{Circuit, State, Shape, shapes_of, no_reg, HasReg}
use Rattle.pdl_net.specs.Signal.{Signal}
use Rattle.pdl_net.specs.Meaning.{Means, next_signal}
use Rattle.pdl_net.specs.Growth.{Keeps, Extends, ExtendsBut, ExtendsPorts, ExtendsArrays, Own}
use Rattle.pdl_net.specs.Cycle.{net_value, next_regs}

-- a circuit keeps what it has
pub keeps_refl : (c : Circuit) → Keeps c c
keeps_refl c = record {
  there = λ x h. h;
  kept = λ x h. refl;
  has_reg = λ r h. h;
  width = λ r h. refl;
  reset = λ r h. refl;
  has_array = λ m h. h;
  word = λ m h. refl;
  depth = λ m h. refl;
}

-- what is kept from a circuit to a second and from that to a third is kept from the first to the third
pub keeps_trans : (a b c : Circuit) → Keeps a b → Keeps b c → Keeps a c
keeps_trans a b c x y = record {
  there = λ n h. y.there n (x.there n h);
  kept = λ n h. y.kept n (x.there n h) ∙ x.kept n h;
  has_reg = λ r h. y.has_reg r (x.has_reg r h);
  width = λ r h. y.width r (x.has_reg r h) ∙ x.width r h;
  reset = λ r h. y.reset r (x.has_reg r h) ∙ x.reset r h;
  has_array = λ m h. y.has_array m (x.has_array m h);
  word = λ m h. y.word m (x.has_array m h) ∙ x.word m h;
  depth = λ m h. y.depth m (x.has_array m h) ∙ x.depth m h;
}

-- each way to add keeps what was there
pub extends_keeps : (a b : Circuit) → Extends a b → Keeps a b
extends_keeps a b x =
    record { there = x.there; kept = x.kept; has_reg = x.has_reg; width = x.width; reset = x.reset; has_array = x.has_array; word = x.word; depth = x.depth }

-- a circuit that is extended but for what a fragment takes next keeps what it had
pub but_keeps : (o : Own) (a b : Circuit) → ExtendsBut o a b → Keeps a b
but_keeps o a b x =
    record { there = x.there; kept = x.kept; has_reg = x.has_reg; width = x.width; reset = x.reset; has_array = x.has_array; word = x.word; depth = x.depth }

-- a circuit that is extended with ports keeps what it had
pub ports_keeps : (a b : Circuit) (added : List Port) → ExtendsPorts a b added → Keeps a b
ports_keeps a b added x =
    record { there = x.there; kept = x.kept; has_reg = x.has_reg; width = x.width; reset = x.reset; has_array = x.has_array; word = x.word; depth = x.depth }

-- a circuit that is extended with arrays keeps what it had
pub arrays_keeps : (a b : Circuit) (added : List Shape) → ExtendsArrays a b added → Keeps a b
arrays_keeps a b added x =
    record { there = x.there; kept = x.kept; has_reg = x.has_reg; width = x.width; reset = x.reset; has_array = x.has_array; word = x.word; depth = x.depth }

-- a circuit extends itself
pub extends_refl : (c : Circuit) → Extends c c
extends_refl c = record {
  there = λ x h. h;
  kept = λ x h. refl;
  has_reg = λ r h. h;
  width = λ r h. refl;
  reset = λ r h. refl;
  has_array = λ m h. h;
  word = λ m h. refl;
  depth = λ m h. refl;
  nexts = λ r h. refl;
  writes = λ m h. refl;
  ports = refl;
  shapes = refl;
}

-- a circuit that extends a second, which extends a third, extends the third
pub extends_trans : (a b c : Circuit) → Extends a b → Extends b c → Extends a c
extends_trans a b c x y = record {
  there = λ n h. y.there n (x.there n h);
  kept = λ n h. y.kept n (x.there n h) ∙ x.kept n h;
  has_reg = λ r h. y.has_reg r (x.has_reg r h);
  width = λ r h. y.width r (x.has_reg r h) ∙ x.width r h;
  reset = λ r h. y.reset r (x.has_reg r h) ∙ x.reset r h;
  has_array = λ m h. y.has_array m (x.has_array m h);
  word = λ m h. y.word m (x.has_array m h) ∙ x.word m h;
  depth = λ m h. y.depth m (x.has_array m h) ∙ x.depth m h;
  nexts = λ r h. y.nexts r (x.has_reg r h) ∙ x.nexts r h;
  writes = λ m h. y.writes m (x.has_array m h) ∙ x.writes m h;
  ports = y.ports ∙ x.ports;
  shapes = y.shapes ∙ x.shapes;
}

-- two extensions in turn, each but for what a fragment takes next, are one but for it
pub but_trans : (o : Own) (a b c : Circuit) → ExtendsBut o a b → ExtendsBut o b c → ExtendsBut o a c
but_trans o a b c x y = record {
  there = λ n h. y.there n (x.there n h);
  kept = λ n h. y.kept n (x.there n h) ∙ x.kept n h;
  has_reg = λ r h. y.has_reg r (x.has_reg r h);
  width = λ r h. y.width r (x.has_reg r h) ∙ x.width r h;
  reset = λ r h. y.reset r (x.has_reg r h) ∙ x.reset r h;
  has_array = λ m h. y.has_array m (x.has_array m h);
  word = λ m h. y.word m (x.has_array m h) ∙ x.word m h;
  depth = λ m h. y.depth m (x.has_array m h) ∙ x.depth m h;
  nexts = λ r h u. y.nexts r (x.has_reg r h) u ∙ x.nexts r h u;
  writes = λ m h u. y.writes m (x.has_array m h) u ∙ x.writes m h u;
  ports = y.ports ∙ x.ports;
  shapes = y.shapes ∙ x.shapes;
}

-- an extension is one but for what a fragment takes next
pub but_extends : (o : Own) (a b : Circuit) → Extends a b → ExtendsBut o a b
but_extends o a b x = record {
  there = x.there;
  kept = x.kept;
  has_reg = x.has_reg;
  width = x.width;
  reset = x.reset;
  has_array = x.has_array;
  word = x.word;
  depth = x.depth;
  nexts = λ r h u. x.nexts r h;
  writes = λ m h u. x.writes m h;
  ports = x.ports;
  shapes = x.shapes;
}

-- two extensions in turn, each with arrays, are one with the arrays of both
pub arrays_trans : (a b c : Circuit) (front back : List Shape) → ExtendsArrays a b front → ExtendsArrays b c back
    → ExtendsArrays a c (front ++ back)
arrays_trans a b c front back x y = record {
  there = λ n h. y.there n (x.there n h);
  kept = λ n h. y.kept n (x.there n h) ∙ x.kept n h;
  has_reg = λ r h. y.has_reg r (x.has_reg r h);
  width = λ r h. y.width r (x.has_reg r h) ∙ x.width r h;
  reset = λ r h. y.reset r (x.has_reg r h) ∙ x.reset r h;
  has_array = λ m h. y.has_array m (x.has_array m h);
  word = λ m h. y.word m (x.has_array m h) ∙ x.word m h;
  depth = λ m h. y.depth m (x.has_array m h) ∙ x.depth m h;
  nexts = λ r h. y.nexts r (x.has_reg r h) ∙ x.nexts r h;
  writes = λ m h. y.writes m (x.has_array m h) ∙ x.writes m h;
  ports = y.ports ∙ x.ports;
  shapes = y.shapes ∙ ap (λ ss. ss ++ back) x.shapes ∙ append_assoc (shapes_of a) front back;
}

-- a net means its signal in a circuit that is extended
pub means_kept : (a b : Circuit) (x : Net) (f : Signal) → Extends a b → Means a x f → Means b x f
means_kept a b x f e m = record { there = e.there x m.there; same = e.kept x m.there ∙ m.same }

-- a net means its signal in a circuit that keeps what it had
pub means_keeps : (a b : Circuit) (x : Net) (f : Signal) → Keeps a b → Means a x f → Means b x f
means_keeps a b x f e m = record { there = e.there x m.there; same = e.kept x m.there ∙ m.same }

pub ruleset keeping = (keeps_refl, extends_keeps, but_keeps, ports_keeps, arrays_keeps)

-- a register's value after a cycle
pub next_reg : (c : Circuit) (s : State) (r : ℕ) → HasReg c r → get_or (next_regs c s) r 0 ≡ (next_signal c r).value s
unfolding HasReg next_regs next_signal
next_reg c s r h = get_or-map (λ (g : Reg). net_value c s g.next) c.regs r no_reg 0 h

-- a circuit that keeps what it had has no fewer registers
pub regs_grow : (a b : Circuit) → Keeps a b → length a.regs ≤ length b.regs
unfolding HasReg
regs_grow a b k = at (length a.regs) refl
  where
    at : (n : ℕ) → length a.regs ≡ n → n ≤ length b.regs
    at zero e = omega arith
    at (suc n) e = let h = k.has_reg n (omega (arith, e)) in omega (arith, h)
