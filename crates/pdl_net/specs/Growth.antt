-- What is kept where more is added to a circuit.
use Rattle.std.specs.Prelude.{◌≡◌, ℕ, ◌<◌, ◌≤◌, ◌⊎◌, List, ◌++◌, length, slice_index}
use Rattle.pdl_net.specs.declared.Net.{Net}
use Rattle.pdl_net.specs.declared.Cell.{Cell}
use Rattle.pdl_net.specs.declared.Port.{Port}
use Rattle.pdl_net.specs.Circuit.{Circuit, Shape, inputs_of, reg_at, array_at, shapes_of, HasReg, reg_width, reg_reset, HasArray, array_width, array_depth}
use Rattle.pdl_net.specs.Meaning.{signal, IsThere, next_signal, write_signals}

-- the new circuit has all nets, registers and arrays of the old one, which mean what they meant
pub record Keeps (old new : Circuit) : Type 0 where
  pub there : (x : Net) → IsThere old x → IsThere new x
  pub kept : (x : Net) → IsThere old x → signal new x ≡ signal old x
  pub has_reg : (r : ℕ) → HasReg old r → HasReg new r
  pub width : (r : ℕ) → HasReg old r → reg_width new r ≡ reg_width old r
  pub reset : (r : ℕ) → HasReg old r → reg_reset new r ≡ reg_reset old r
  pub has_array : (m : ℕ) → HasArray old m → HasArray new m
  pub word : (m : ℕ) → HasArray old m → array_width new m ≡ array_width old m
  pub depth : (m : ℕ) → HasArray old m → array_depth new m ≡ array_depth old m

-- the new circuit keeps the old one, has the same ports and arrays, and what the old registers and arrays take next is as it was
pub record Extends (old new : Circuit) : Type 0 where
  pub there : (x : Net) → IsThere old x → IsThere new x
  pub kept : (x : Net) → IsThere old x → signal new x ≡ signal old x
  pub has_reg : (r : ℕ) → HasReg old r → HasReg new r
  pub width : (r : ℕ) → HasReg old r → reg_width new r ≡ reg_width old r
  pub reset : (r : ℕ) → HasReg old r → reg_reset new r ≡ reg_reset old r
  pub has_array : (m : ℕ) → HasArray old m → HasArray new m
  pub word : (m : ℕ) → HasArray old m → array_width new m ≡ array_width old m
  pub depth : (m : ℕ) → HasArray old m → array_depth new m ≡ array_depth old m
  pub nexts : (r : ℕ) → HasReg old r → next_signal new r ≡ next_signal old r
  pub writes : (m : ℕ) → HasArray old m → write_signals new m ≡ write_signals old m
  pub ports : new.ports ≡ old.ports
  pub shapes : shapes_of new ≡ shapes_of old

-- the registers and arrays of one fragment: registers from `from` up to `to`, arrays from `first` up to `last`
pub record Own : Type 0 where
  pub from : ℕ
  pub to : ℕ
  pub first : ℕ
  pub last : ℕ

-- a number outside a range
abbrev pub Outside : ℕ → ℕ → ℕ → Type 0
Outside from to r = (r < from) ⊎ (to ≤ r)

-- the same as `Extends`, but for what a fragment's registers and arrays take next
pub record ExtendsBut (o : Own) (old new : Circuit) : Type 0 where
  pub there : (x : Net) → IsThere old x → IsThere new x
  pub kept : (x : Net) → IsThere old x → signal new x ≡ signal old x
  pub has_reg : (r : ℕ) → HasReg old r → HasReg new r
  pub width : (r : ℕ) → HasReg old r → reg_width new r ≡ reg_width old r
  pub reset : (r : ℕ) → HasReg old r → reg_reset new r ≡ reg_reset old r
  pub has_array : (m : ℕ) → HasArray old m → HasArray new m
  pub word : (m : ℕ) → HasArray old m → array_width new m ≡ array_width old m
  pub depth : (m : ℕ) → HasArray old m → array_depth new m ≡ array_depth old m
  pub nexts : (r : ℕ) → HasReg old r → Outside o.from o.to r → next_signal new r ≡ next_signal old r
  pub writes : (m : ℕ) → HasArray old m → Outside o.first o.last m → write_signals new m ≡ write_signals old m
  pub ports : new.ports ≡ old.ports
  pub shapes : shapes_of new ≡ shapes_of old

-- the same as `Extends`, but with these ports added
pub record ExtendsPorts (old new : Circuit) (added : List Port) : Type 0 where
  pub there : (x : Net) → IsThere old x → IsThere new x
  pub kept : (x : Net) → IsThere old x → signal new x ≡ signal old x
  pub has_reg : (r : ℕ) → HasReg old r → HasReg new r
  pub width : (r : ℕ) → HasReg old r → reg_width new r ≡ reg_width old r
  pub reset : (r : ℕ) → HasReg old r → reg_reset new r ≡ reg_reset old r
  pub has_array : (m : ℕ) → HasArray old m → HasArray new m
  pub word : (m : ℕ) → HasArray old m → array_width new m ≡ array_width old m
  pub depth : (m : ℕ) → HasArray old m → array_depth new m ≡ array_depth old m
  pub nexts : (r : ℕ) → HasReg old r → next_signal new r ≡ next_signal old r
  pub writes : (m : ℕ) → HasArray old m → write_signals new m ≡ write_signals old m
  pub ports : new.ports ≡ old.ports ++ added
  pub shapes : shapes_of new ≡ shapes_of old

-- the same as `Extends`, but with arrays of these shapes added
pub record ExtendsArrays (old new : Circuit) (added : List Shape) : Type 0 where
  pub there : (x : Net) → IsThere old x → IsThere new x
  pub kept : (x : Net) → IsThere old x → signal new x ≡ signal old x
  pub has_reg : (r : ℕ) → HasReg old r → HasReg new r
  pub width : (r : ℕ) → HasReg old r → reg_width new r ≡ reg_width old r
  pub reset : (r : ℕ) → HasReg old r → reg_reset new r ≡ reg_reset old r
  pub has_array : (m : ℕ) → HasArray old m → HasArray new m
  pub word : (m : ℕ) → HasArray old m → array_width new m ≡ array_width old m
  pub depth : (m : ℕ) → HasArray old m → array_depth new m ≡ array_depth old m
  pub nexts : (r : ℕ) → HasReg old r → next_signal new r ≡ next_signal old r
  pub writes : (m : ℕ) → HasArray old m → write_signals new m ≡ write_signals old m
  pub ports : new.ports ≡ old.ports
  pub shapes : shapes_of new ≡ shapes_of old ++ added

-- the cells of the old circuit are the first ones of the new, and so are its inputs, registers and arrays, with their widths
pub record Grows (old new : Circuit) : Type 0 where
  pub inputs : (i : ℕ) → i < length (inputs_of old) → (i < length (inputs_of new)) × (slice_index (inputs_of new) i ≡ slice_index (inputs_of old) i)
  pub regs : (r : ℕ) → r < length old.regs → (r < length new.regs) × ((reg_at new r).width ≡ (reg_at old r).width)
  pub arrays : (m : ℕ) → m < length old.arrays
      → (m < length new.arrays) × ((array_at new m).width ≡ (array_at old m).width) × ((array_at new m).depth ≡ (array_at old m).depth)
  pub more : List Cell
  pub cells : new.cells ≡ old.cells ++ more

-- a net stays there and means what it meant
pub record Kept (old new : Circuit) (x : Net) : Type 0 where
  pub there : IsThere new x
  pub same : signal new x ≡ signal old x

-- each net of the old circuit does
pub record KeepsNets (old new : Circuit) : Type 0 where
  pub nets : (x : Net) → IsThere old x → Kept old new x
