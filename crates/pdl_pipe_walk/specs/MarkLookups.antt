-- What a walk over the statements of a stage finds by numbers.
use Rattle.std.specs.Prelude.{ℕ, ◌==◌, ◌&&◌, List, [], ◌∷◌, if◌then◌else◌}
use Rattle.pdl_net.specs.declared.Net.{Net}
use Rattle.pdl_law_parts.specs.declared.Mark.{Mark}
use Rattle.pdl_law_parts.specs.Walk.{same_mark}
use Rattle.pdl_pipe_walk.specs.declared.nets.MarkNet.{MarkNet}

-- the net of the first entry of a location's mark, or this one
abbrev pub mark_net : List MarkNet → Net → Mark → ℕ → ℕ → Net
mark_net [] zero k m a = zero
mark_net (h ∷ hs) zero k m a = if same_mark h.mark k && ((h.mem == m) && (h.var == a)) then h.net else mark_net hs zero k m a
