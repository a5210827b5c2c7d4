use Rattle.std.proofs.Common.{◌∙◌, sym, ap, filter, get_or, ◌&&◌}
use Rattle.std.specs.List.{list_any}
use Rattle.pdl_syntax_tree.specs.View.{pipe_view}
use Rattle.pdl_rules.specs.Places.{on_path}
use Rattle.pdl_rules.specs.Locks as spec
use Rattle.pdl_paths.specs.Actions.{place_view}
use Rattle.pdl_locks.specs.declared.numbers.Keys.TheVariants.{Locations}
use Rattle.pdl_locks.specs.Uses.{IsUsed, is_open}
use Rattle.pdl_locks.specs.RuleQuestions.{breaks_at_location}
use Rattle.pdl_locks.proofs.UseSteps.{own}
use Rattle.pdl_locks.proofs.OpenLocations.{some_open}
use Rattle.pdl_locks.proofs.at_locations.AtLocationsPathRule.breaks.Goals as goal

pub returns-in-Held : goal.returns-in-Held
returns-in-Held c gs path before later s e is_on h =
    let x = place_view c.args.place.now in
    let uses = c.args.state.now.items in
    let earlier = filter (on_path path) before in
    let none = c.none.result in
    c.lacks_hold.ensures earlier
    (own Locations IsUsed c.args.self.now.places.now c.args.self.now.first.now before later x c.args.k uses none c.use_at-used.result earlier s e h
    (c.use_at-used.ensures ∙ ap (λ us. get_or us c.number_of.result none) c.deref.ensures.value ∙ ap (λ n. get_or uses n none) c.number_of.ensures))
    ∙ sym (ap (λ r. breaks_at_location r (pipe_view c.args.self.now.pipe.now) earlier x) c.in-Held.is)

pub returns-in-ReservedOnce : goal.returns-in-ReservedOnce
returns-in-ReservedOnce c gs path before later s e is_on h =
    let x = place_view c.args.place.now in
    let uses = c.args.state.now.items in
    let earlier = filter (on_path path) before in
    let none = c.none.result in
    c.is_reserved_again.ensures earlier
    (own Locations IsUsed c.args.self.now.places.now c.args.self.now.first.now before later x c.args.k uses none c.use_at-used.result earlier s e h
    (c.use_at-used.ensures ∙ ap (λ us. get_or us c.number_of.result none) c.deref.ensures.value ∙ ap (λ n. get_or uses n none) c.number_of.ensures))
    ∙ sym (ap (λ r. breaks_at_location r (pipe_view c.args.self.now.pipe.now) earlier x) c.in-ReservedOnce.is)

pub returns-then-is_end : goal.returns-then-is_end
returns-then-is_end c gs path before later s e is_on h =
    let x = place_view c.args.place.now in
    let uses = c.args.state.now.items in
    let first = c.args.self.now.first.now in
    let earlier = filter (on_path path) before in
    c.is_some_open.ensures
    ∙ ap (λ us. list_any (is_open us) first) c.deref-then-is_end.ensures.value
    ∙ some_open c.args.self.now.places.now first path before later x uses s h
    ∙ sym (c.is_end.ensures earlier ∙ ap (λ b. b && list_any (spec.leaves_open earlier) earlier) c.if-is_end.true)
    ∙ sym (ap (λ r. breaks_at_location r (pipe_view c.args.self.now.pipe.now) earlier x) c.in-Released.is)
