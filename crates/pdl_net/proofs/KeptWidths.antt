-- Where a net's width is known.
use Rattle.std.proofs.Common.{◌≡◌, ℕ, ap, ◌∙◌}
use Rattle.pdl_net.specs.declared.Net.{Net}
use Rattle.pdl_net.specs.Circuit.{Circuit}
use Rattle.pdl_net.specs.Signal.{Signal}
use Rattle.pdl_net.specs.Meaning.{Means}
use Rattle.pdl_net.specs.HasWidth.{HasWidth}
use Rattle.pdl_net.specs.Growth.{Keeps, Extends}
use Rattle.pdl_net.proofs.Keeps.{extends_keeps}

-- a net has its width in a circuit that keeps what stands in its own
pub width_keeps : (a b : Circuit) (x : Net) (w : ℕ) → Keeps a b → HasWidth a x w → HasWidth b x w
width_keeps a b x w k h = record {
  there = k.there x h.there;
  width = ap (λ (g : Signal). g.width) (k.kept x h.there) ∙ h.width;
}

-- a net has its width in a circuit that is extended
pub width_kept : (a b : Circuit) (x : Net) (w : ℕ) → Extends a b → HasWidth a x w → HasWidth b x w
width_kept a b x w e h = width_keeps a b x w (extends_keeps a b e) h

-- a net that means a signal has that signal's width
pub width_meant : (c : Circuit) (x : Net) (f : Signal) (w : ℕ) → Means c x f → f.width ≡ w → HasWidth c x w
width_meant c x f w m e = record { there = m.there; width = ap (λ (g : Signal). g.width) m.same ∙ e }
