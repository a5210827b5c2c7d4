-- The stages of places, and kinds of places.
use Rattle.std.specs.Prelude.{ℕ, Bool, true, List, []}
use Rattle.pdl_rules.specs.Places.{Place}
use Rattle.pdl_rules.specs.Stages.{stages_that, reserves_memory, releases_memory}
use Rattle.pdl_rules.specs.Speculation.{is_verify, is_update}
use Rattle.pdl_rules_stages.specs.declared.first.SoughtPlace.{SoughtPlace}
use Rattle.pdl_rules_stages.specs.declared.first.SoughtPlace.TheVariants.{Reserve, Release, Verify, Update}

-- each place, as a test that all pass
abbrev pub each : Place → Bool
each x = true

-- the stage of each of these places
abbrev pub stages_in : List Place → List ℕ
stages_in xs = stages_that each [] xs

-- whether a place is of the kind
abbrev pub is_sought : SoughtPlace → Place → Bool
is_sought (Reserve m) x = reserves_memory m.now x
is_sought (Release m) x = releases_memory m.now x
is_sought Verify x = is_verify x
is_sought Update x = is_update x
