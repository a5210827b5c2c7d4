use Rattle.std.proofs.Common.{◌≡◌, refl, sym, map, subst}
use Rattle.pdl_syntax_tree.specs.View.{span_view, location_view}
use Rattle.pdl_rules.specs.Locks as spec
use Rattle.pdl_paths.specs.declared.action.Action.{Action}
use Rattle.pdl_paths.specs.Actions.{place_at}
use Rattle.pdl_paths.specs.Guards.{branch_view}
use Rattle.pdl_locks.specs.Uses.{IsOwn, IsTurn, IsUsed}
use Rattle.pdl_locks.proofs.turns.is_not_written_once.Goals as goal

pub returns-in-Write : goal.returns-in-Write
returns-in-Write c earlier =
    let s = span_view c.args.place.now.span in
    let bs = map branch_view c.args.place.now.branches in
    subst
    (λ (a : Action). IsOwn IsUsed c.args.used earlier (place_at s bs a) → IsTurn c.args.waits earlier (place_at s bs a)
    → c.args.waits ≡ spec.is_not_written_once earlier (place_at s bs a))
    (sym c.in-Write.is)
    (λ own turn. turn (location_view c.in-Write.field-0.now) refl)
