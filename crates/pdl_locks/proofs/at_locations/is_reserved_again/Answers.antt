use Rattle.std.proofs.Common.{◌≡◌, refl, sym, map, subst}
use Rattle.pdl_syntax_tree.specs.View.{span_view, location_view}
use Rattle.pdl_rules.specs.Locks as spec
use Rattle.pdl_paths.specs.declared.action.Action.{Action}
use Rattle.pdl_paths.specs.Actions.{place_at}
use Rattle.pdl_paths.specs.Guards.{branch_view}
use Rattle.pdl_locks.specs.Uses.{IsOwn, IsUsed}
use Rattle.pdl_locks.proofs.at_locations.is_reserved_again.Goals as goal

pub returns-in-Reserve : goal.returns-in-Reserve
returns-in-Reserve c earlier =
    let s = span_view c.args.place.now.span in
    let bs = map branch_view c.args.place.now.branches in
    subst (λ (a : Action). IsOwn IsUsed c.args.used earlier (place_at s bs a) → c.args.used.reserved ≡ spec.is_reserved_again earlier (place_at s bs a))
    (sym c.in-Reserve.is)
    (λ own. (own (location_view c.in-Reserve.field-0.now) refl).reserved)
