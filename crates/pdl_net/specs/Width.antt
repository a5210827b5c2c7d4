-- How a net's width comes from those of earlier nets.
use Rattle.std.specs.Prelude.{◌≡◌, ℕ, ◌+◌, ◌*◌, ◌<◌, ◌≤◌, List, length, slice_index}
use Rattle.pdl_net.specs.declared.Net.{Net}
use Rattle.pdl_net.specs.declared.Net.TheVariants.{Input, Reg as RegNet, Cell as CellNet}
use Rattle.pdl_net.specs.declared.width.Width.{Width}
use Rattle.pdl_net.specs.declared.width.Width.TheVariants.{Bits, Same, Sum, Times}
use Rattle.pdl_net.specs.Circuit.{Circuit}
use Rattle.pdl_net.specs.Meaning.{signal, IsThere}
use Rattle.pdl_word.specs.Words.{widest}

-- a net's place: the inputs and registers, then the cells in order
abbrev pub place : Net → ℕ
place (Input i) = 0
place (RegNet r) = 0
place (CellNet k) = k + 1

-- a net that is there, before a place
pub record IsBefore (c : Circuit) (a : Net) (n : ℕ) : Type 0 where
  pub there : IsThere c a
  pub before : place a < n

-- a width comes so from those of nets before a place
abbrev pub Widens : Circuit → ℕ → ℕ → Width → Type 0
Widens c n w (Bits b) = w ≡ b
Widens c n w (Same a) = IsBefore c a n × (w ≡ (signal c a).width)
Widens c n w (Sum a b) = IsBefore c a n × IsBefore c b n × ((signal c a).width + (signal c b).width ≤ widest) × (w ≡ (signal c a).width + (signal c b).width)
Widens c n w (Times k a) = IsBefore c a n × (k * (signal c a).width ≤ widest) × (w ≡ k * (signal c a).width)

-- these are the widths of the first cells
pub record HasWidths (c : Circuit) (ws : List ℕ) : Type 0 where
  pub each : (j : ℕ) → j < length ws → slice_index ws j ≡ (signal c (CellNet j)).width
