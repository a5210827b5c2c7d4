-- A net that is there, with its width.
use Rattle.std.specs.Prelude.{◌≡◌, ℕ}
use Rattle.pdl_net.specs.declared.Net.{Net}
use Rattle.pdl_net.specs.Circuit.{Circuit}
use Rattle.pdl_net.specs.Meaning.{IsThere, signal}

-- a net is there, and has this width
pub record HasWidth (c : Circuit) (x : Net) (w : ℕ) : Type 0 where
  pub there : IsThere c x
  pub width : (signal c x).width ≡ w
