-- Marks that are being set, from what is used outside on.
use Rattle.std.specs.Prelude.{◌≡◌, ℕ, ◌+◌, zero, suc, Bool, cond, List, [], ◌∷◌, ◌++◌, length, Contains, ◌⊎◌, Option, Some, None}
use Rattle.pdl_word.specs.Each.{Each}
use Rattle.pdl_net.specs.declared.Net.{Net}
use Rattle.pdl_net.specs.declared.Net.TheVariants.{Input, Reg as RegNet, Cell as CellNet}
use Rattle.pdl_net.specs.Circuit.{Circuit}
use Rattle.pdl_net_needed.specs.Needed.{Choice, IsKept, IsNeeded, used_outside, sources}
use Rattle.pdl_net_needed.specs.Marks.{none_kept}

-- what is marked, and the marked nets whose sources are still to be marked
pub record Work : Type 0 where
  pub kept : Choice
  pub waiting : List Net

-- nothing is marked yet, and nothing is to be looked at
abbrev pub begun : Circuit → Work
begun c = record { kept = none_kept (length c.regs) (length c.cells); waiting = [] }

-- a register or a cell
abbrev pub IsPart : Net → Type 0
IsPart (Input i) = ⊥
IsPart (RegNet r) = Unit {0}
IsPart (CellNet j) = Unit {0}

-- how many marks aren't set
abbrev pub unset : List Bool → ℕ
unset [] = zero
unset (b ∷ bs) = cond b (unset bs) (suc (unset bs))

-- how many nets are still to be looked at, marked or not
abbrev pub left_of : Work → ℕ
left_of w = unset w.kept.regs + unset w.kept.cells + length w.waiting

-- these nets are marked, and of the nets marked since each is one of them and is still to be looked at
pub record Adds (old new : Work) (xs : List Net) : Type 0 where
  pub regs : length new.kept.regs ≡ length old.kept.regs
  pub cells : length new.kept.cells ≡ length old.kept.cells
  pub stays : (x : Net) → IsKept old.kept x → IsKept new.kept x
  pub marked : Each (IsKept new.kept) xs
  pub fresh : (x : Net) → IsKept new.kept x → IsKept old.kept x ⊎ (Contains xs x × Contains new.waiting x)
  pub waiting : (x : Net) → Contains old.waiting x → Contains new.waiting x
  pub added : (x : Net) → Contains new.waiting x → Contains old.waiting x ⊎ (IsPart x × IsKept new.kept x)
  pub left : left_of new ≡ left_of old

-- what is used outside is marked, all that is marked is needed, and its sources are marked or still to be marked
pub record IsMarking (c : Circuit) (w : Work) : Type 0 where
  pub regs : length w.kept.regs ≡ length c.regs
  pub cells : length w.kept.cells ≡ length c.cells
  pub ends : Each (IsKept w.kept) (used_outside c)
  pub needed : (x : Net) → IsPart x → IsKept w.kept x → IsNeeded c x
  pub done : (x : Net) → IsKept w.kept x → Contains w.waiting x ⊎ Each (IsKept w.kept) (sources c x)
  pub waiting : (x : Net) → Contains w.waiting x → IsPart x × IsKept w.kept x

-- the last of the nets that are still to be looked at is taken, if there is one
abbrev pub TakesLast : Work → Work → Option Net → Type 0
TakesLast old new None = (old.waiting ≡ []) × (new ≡ old)
TakesLast old new (Some x) = (old.waiting ≡ new.waiting ++ x ∷ []) × (new.kept ≡ old.kept)
