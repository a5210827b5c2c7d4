use Rattle.std.proofs.Common.{◌≡◌, drop}
use Rattle.pdl_semantics.specs.Flat.{all_hold}
use Rattle.pdl_form.specs.View.{guards_view}
use Rattle.pdl_form_values.proofs.guards.are_taken.Given as goal

-- the branches left decide
abbrev pub invariant-loop-guard : goal.invariant-loop-guard
invariant-loop-guard l = all_hold (guards_view (drop l.guard-index l.guards)) l.values ≡ all_hold (guards_view l.guards) l.values
