use Rattle.std.proofs.Common.{◌≡◌, drop}
use Rattle.pdl_semantics.specs.Flat.{list_all}
use Rattle.pdl_form.specs.View.{guard_view, guards_view}
use Rattle.pdl_semantics.specs.SecondWrites.{agrees_with}
use Rattle.pdl_form_values.proofs.twice.agrees_with_all.Given as goal

-- the guards left decide
abbrev pub invariant-loop-other : goal.invariant-loop-other
invariant-loop-other l =
    list_all (agrees_with (guard_view l.guard)) (guards_view (drop l.other-index l.guards))
    ≡ list_all (agrees_with (guard_view l.guard)) (guards_view l.guards)
