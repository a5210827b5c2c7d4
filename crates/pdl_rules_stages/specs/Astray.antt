-- Statements that stand in another stage than the first of their kind.
use Rattle.std.specs.Prelude.{◌≡◌, Bool, true, false, List}
use Rattle.pdl_rules.specs.Places.{Place}
use Rattle.pdl_rules.specs.Stages.{stage_of, is_elsewhere, breaks_l2}
use Rattle.pdl_rules.specs.Speculation.{breaks_s3, breaks_s7}
use Rattle.pdl_rules_stages.specs.declared.first.SoughtPlace.{SoughtPlace}
use Rattle.pdl_rules_stages.specs.declared.astray.Kinds.{Kinds}
use Rattle.pdl_rules_stages.specs.declared.astray.Kinds.TheVariants.{Locks, Verifies, Updates}
use Rattle.pdl_rules_stages.specs.Stages.{is_sought}

-- whether a place breaks the rule on these statements, after these places
abbrev pub is_astray : Kinds → List Place → Place → Bool
is_astray Locks before x = breaks_l2 before x
is_astray Verifies before x = breaks_s3 before x
is_astray Updates before x = breaks_s7 before x

-- a place that the rule asks nothing
abbrev pub IsUnasked : Kinds → Place → Type 0
IsUnasked kinds x = (before : List Place) → is_astray kinds before x ≡ false

-- a place is of this kind, and breaks the rule where it stands elsewhere than the first of the kind
pub record IsAsked (kinds : Kinds) (sought : SoughtPlace) (x : Place) : Type 0 where
  pub is_one : is_sought sought x ≡ true
  pub where_astray : (before : List Place) → is_astray kinds before x ≡ is_elsewhere (is_sought sought) before (stage_of before x)
