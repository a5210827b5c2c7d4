-- Where a location stands among those that are held.
use Rattle.std.specs.Prelude.{ℕ, suc, ◌&&◌, ◌==◌, if◌then◌else◌, List, [], ◌∷◌}
use Rattle.pdl_semantics.specs.Machine.{HeldLocation}

-- the index of the first of these, their number where there is none
abbrev pub place_index : List HeldLocation → ℕ → ℕ → ℕ
place_index [] m a = 0
place_index (l ∷ ls) m a = if (l.mem == m) && (l.var == a) then 0 else suc (place_index ls m a)
