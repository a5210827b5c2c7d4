-- What is held of locations.
use Rattle.pdl_syntax_tree.specs.View.{kind_view}
use Rattle.pdl_rules.specs.Locks as spec
use Rattle.pdl_locks.specs.declared.hold.Hold.{Hold}
use Rattle.pdl_locks.specs.declared.hold.Hold.TheVariants.{Nothing, Reserved, Blocked, Released}

-- what a value of the program says is held of a location
abbrev pub hold_view : Hold → spec.Hold
hold_view Nothing = spec.Nothing
hold_view (Reserved k) = spec.Reserved (kind_view k)
hold_view (Blocked k) = spec.Blocked (kind_view k)
hold_view Released = spec.Released
