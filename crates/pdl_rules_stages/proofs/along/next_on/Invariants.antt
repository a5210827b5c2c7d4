use Rattle.std.proofs.Common.{◌≡◌, suc, ◌≤◌, List, map, take, drop}
use Rattle.pdl_rules.specs.Places.{Guard}
use Rattle.pdl_rules.specs.Stages as spec
use Rattle.pdl_paths.specs.Actions.{place_view}
use Rattle.pdl_rules_stages.specs.PathBits.{HavePaths, IsPath}
use Rattle.pdl_rules_stages.proofs.along.next_on.Given as goal

-- of the separators so far none is on the path
abbrev pub invariant-loop-j : goal.invariant-loop-j
invariant-loop-j l =
    ((gs on : List Guard) → HavePaths gs l.places → IsPath gs on l.path.bits
    → spec.next_on on l.begun (drop l.j (map place_view l.places))
    ≡ spec.next_on on (spec.stage_after (take l.k (map place_view l.places))) (drop (suc l.k) (map place_view l.places)))
    × (l.begun ≤ l.j)
