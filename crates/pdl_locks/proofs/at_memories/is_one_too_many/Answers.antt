use Rattle.std.proofs.Common.{◌≡◌, ◌∙◌, ◌==◌, refl, sym, ap, map, subst, nat_le, count_by}
use Rattle.pdl_semantics.specs.Tree.{W}
use Rattle.pdl_syntax_tree.specs.View.{span_view, location_view, mem_view, pipe_view}
use Rattle.pdl_rules.specs.Locks as spec
use Rattle.pdl_paths.specs.declared.action.Action.{Action}
use Rattle.pdl_paths.specs.declared.action.Action.TheVariants.{Reserve}
use Rattle.pdl_paths.specs.Actions.{place_at}
use Rattle.pdl_paths.specs.Guards.{branch_view}
use Rattle.pdl_locks.specs.Uses.{IsOwn, IsUsedMemory}
use Rattle.pdl_locks.proofs.BoundedCounts.{up_to_four, up_to_most}
use Rattle.pdl_locks.proofs.at_memories.is_one_too_many.Goals as goal

pub returns-in-R : goal.returns-in-R
returns-in-R c earlier =
    let s = span_view c.args.place.now.span in
    let bs = map branch_view c.args.place.now.branches in
    let p = pipe_view c.args.pipe.now in
    let is = c.in-Reserve.is ∙ ap (Reserve c.in-Reserve.at) c.in-R.is in
    subst
    (λ (a : Action). IsOwn IsUsedMemory c.args.used earlier (place_at s bs a) → nat_le 4 c.args.used.reads ≡ spec.is_one_too_many p earlier (place_at s bs a))
    (sym is)
    (λ own. up_to_four _ _ (own (location_view c.in-Reserve.at.now) refl).reads)

pub returns-in-W : goal.returns-in-W
returns-in-W c earlier =
    let s = span_view c.args.place.now.span in
    let bs = map branch_view c.args.place.now.branches in
    let p = pipe_view c.args.pipe.now in
    let at = location_view c.in-Reserve.at.now in
    let is = c.in-Reserve.is ∙ ap (Reserve c.in-Reserve.at) c.in-W.is in
    let most : c.most_reserves.result ≡ spec.most_reservations p.mems W at.mem.name =
    c.most_reserves.ensures ∙ ap (λ ms. spec.most_reservations (map mem_view ms) W at.mem.name) c.as_slice.ensures in
    subst
    (λ (a : Action). IsOwn IsUsedMemory c.args.used earlier (place_at s bs a)
    → nat_le c.most_reserves.result c.args.used.reserves ≡ spec.is_one_too_many p earlier (place_at s bs a))
    (sym is)
    (λ own. ap (λ n. nat_le n c.args.used.reserves) most
    ∙ up_to_most (spec.lock_size p.mems at.mem.name == 1) c.args.used.reserves (count_by (spec.is_reserve_of W at.mem.name) earlier) (own at refl).reserves)
