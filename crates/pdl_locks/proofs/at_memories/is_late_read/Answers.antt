use Rattle.std.proofs.Common.{◌≡◌, ◌∙◌, refl, sym, ap, ap₂, map, subst, not, ◌&&◌, nat_le}
use Rattle.pdl_semantics.specs.Tree.{W}
use Rattle.pdl_semantics.specs.Flatten.{is_advisory_mem}
use Rattle.pdl_syntax_tree.specs.View.{span_view, location_view, mem_view, pipe_view}
use Rattle.pdl_rules.specs.Locks as spec
use Rattle.pdl_paths.specs.declared.action.Action.{Action}
use Rattle.pdl_paths.specs.declared.action.Action.TheVariants.{Reserve}
use Rattle.pdl_paths.specs.Actions.{place_at}
use Rattle.pdl_paths.specs.Guards.{branch_view}
use Rattle.pdl_locks.specs.Uses.{IsOwn, IsUsedMemory}
use Rattle.pdl_locks.proofs.BoundedCounts.{some_counted}
use Rattle.pdl_locks.proofs.at_memories.is_late_read.Goals as goal

pub returns-in-R : goal.returns-in-R
returns-in-R c earlier =
    let s = span_view c.args.place.now.span in
    let bs = map branch_view c.args.place.now.branches in
    let is = c.in-Reserve.is ∙ ap (Reserve c.in-Reserve.field-0) c.in-R.is in
    subst (λ (a : Action). IsOwn IsUsedMemory c.args.used earlier (place_at s bs a) → nat_le 1 c.args.used.reserves ≡ spec.is_late_read (pipe_view c.args.pipe.now) earlier (place_at s bs a))
    (sym is)
    (λ own. some_counted (spec.is_reserve_of W (location_view c.in-Reserve.field-0.now).mem.name) earlier _ (own (location_view c.in-Reserve.field-0.now) refl).reserves)

pub returns-in-CombRead : goal.returns-in-CombRead
returns-in-CombRead c earlier =
    let s = span_view c.args.place.now.span in
    let bs = map branch_view c.args.place.now.branches in
    let at = location_view c.in-CombRead.at.now in
    subst
    (λ (a : Action). IsOwn IsUsedMemory c.args.used earlier (place_at s bs a)
    → c.reads_written.result ≡ spec.is_late_read (pipe_view c.args.pipe.now) earlier (place_at s bs a))
    (sym c.in-CombRead.is)
    (λ own. c.reads_written.ensures
    ∙ ap₂ (λ ms b. not (is_advisory_mem (map mem_view ms) at.mem.name) && b) c.as_slice.ensures (own at refl).written)

pub returns-in-DelayedRead : goal.returns-in-DelayedRead
returns-in-DelayedRead c earlier =
    let s = span_view c.args.place.now.span in
    let bs = map branch_view c.args.place.now.branches in
    subst (λ (a : Action). IsOwn IsUsedMemory c.args.used earlier (place_at s bs a) → c.args.used.written ≡ spec.is_late_read (pipe_view c.args.pipe.now) earlier (place_at s bs a))
    (sym c.in-DelayedRead.is)
    (λ own. (own (location_view c.in-DelayedRead.field-1.now) refl).written)
