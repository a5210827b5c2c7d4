use Rattle.std.proofs.Common.{◌≡◌, sym, ap, ◌∙◌, Some}
use Rattle.pdl_rules.specs.Locks.{first_reserved}
use Rattle.pdl_paths.specs.Actions.{place_view}
use Rattle.pdl_locks.specs.Uses.{first_number}
use Rattle.pdl_locks.proofs.FirstReserved.{first_kept, first_comes, first_stays}
use Rattle.pdl_locks.proofs.WriteTurns.{numbered, unnumbered}
use Rattle.pdl_locks.proofs.turns.first_after.Goals as goal

pub returns-in-Some : goal.returns-in-Some
returns-in-Some c all earlier l own number was =
    let m = l.mem.name in
    let f = numbered all (first_reserved m earlier) c.in-Some.field-0 (sym c.in-Some.is ∙ was) in
    was ∙ ap (first_number all) (f.1 ∙ sym (first_kept m earlier (place_view c.args.place.now) f.0 f.1))

pub returns-then-is_reserve_for : goal.returns-then-is_reserve_for
returns-then-is_reserve_for c all earlier l own number was =
    let m = l.mem.name in
    let none = unnumbered all (first_reserved m earlier) (sym c.in-None.is ∙ was) in
    ap Some number
    ∙ sym (ap (first_number all)
    (first_comes m earlier (place_view c.args.place.now) l own (sym (c.is_reserve_for.ensures l own) ∙ c.if-is_reserve_for.true) none))

pub returns-else-is_reserve_for : goal.returns-else-is_reserve_for
returns-else-is_reserve_for c all earlier l own number was =
    let m = l.mem.name in
    let none = unnumbered all (first_reserved m earlier) (sym c.in-None.is ∙ was) in
    sym (ap (first_number all)
    (first_stays m earlier (place_view c.args.place.now) (sym (c.is_reserve_for.ensures l own) ∙ c.if-is_reserve_for.false) ∙ none))
