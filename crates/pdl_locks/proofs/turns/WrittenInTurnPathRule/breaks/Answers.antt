use Rattle.std.proofs.Common.{◌≡◌, ◌∙◌, sym, ap, subst, ◌<◌, ◌∷◌, map, filter, length, get_or, None}
use Rattle.pdl_rules.specs.Places.{on_path}
use Rattle.pdl_paths.specs.Actions.{place_view}
use Rattle.pdl_locks.specs.declared.numbers.Keys.TheVariants.{Locations, Memories}
use Rattle.pdl_locks.specs.Numbers.{first_place}
use Rattle.pdl_locks.specs.Uses.{AreKept, IsFirst, IsUsed}
use Rattle.pdl_locks.proofs.UseSteps.{own, own_number}
use Rattle.pdl_locks.proofs.FirstReserved.{first_there}
use Rattle.pdl_locks.proofs.turns.WrittenInTurnPathRule.breaks.Goals as goal

pub returns : goal.returns
returns c gs path before later s e is_on h =
    let x = place_view c.args.place.now in
    let rows = c.args.self.now.places.now in
    let all = map place_view rows in
    let uses = c.args.state.now.uses.items in
    let firsts = c.args.state.now.first.items in
    let k = c.args.k in
    let earlier = filter (on_path path) before in
    let none = c.none.result in
    c.is_not_written_once.ensures earlier
    (own Locations IsUsed rows c.args.self.now.locations.now before later x k uses none c.use_at-used.result earlier s.0 e h.0
    (c.use_at-used.ensures ∙ ap (λ us. get_or us c.number_of-number.result none) c.as_slice-uses.ensures.value ∙ ap (λ n. get_or uses n none) c.number_of-number.ensures))
    (λ l at. c.waits_for.ensures all earlier l x
    (subst (AreKept Locations IsUsed all earlier) (sym c.as_slice-uses.ensures.value) h.0)
    (own Memories (IsFirst all) rows c.args.self.now.memories.now before later x k firsts None c.use_at-first.result earlier s.1 e h.1
    (c.use_at-first.ensures ∙ ap (λ us. get_or us c.number_of.result None) c.as_slice.ensures.value ∙ ap (λ n. get_or firsts n None) c.number_of.ensures)
    l at)
    (λ f is. subst (λ xs. first_place Locations f xs < length xs) s.0.own (first_there l.mem.name f (on_path path) before (x ∷ later) is))
    (c.number_of-number.ensures ∙ own_number Locations rows c.args.self.now.locations.now before later x k l s.0 e at))
