use Rattle.std.proofs.Common.{◌≡◌, ◌+◌, ◌<◌, ◌∙◌, List, length, sym, ap, ap₂, subst, arith}
use Rattle.std.specs.Prelude.{slice_index, slice_index_or}
use Rattle.pdl_form.specs.FormView.{form}
use Rattle.pdl_form.specs.View.{next_view}
use Rattle.pdl_semantics.specs.Flat.{Next}
use Rattle.pdl_semantics.specs.Stages.{stage_at}
use Rattle.pdl_net.specs.declared.Net.{Net}
use Rattle.pdl_net.specs.Signal.{Signal}
use Rattle.pdl_net.specs.Meaning.{signal}
use Rattle.pdl_net.proofs.Keeps.{extends_keeps, extends_trans}
use Rattle.pdl_net.proofs.KeptWidths.{width_keeps}
use Rattle.pdl_machine_inflight.specs.Readings.{places, places_of, place_at}
use Rattle.pdl_pipe_answers.specs.Readings.{reading_view}
use Rattle.pdl_law_parts.specs.Walk.{both}
use Rattle.pdl_law_parts.specs.Views.{View}
use Rattle.pdl_law_sides.specs.Sides.{asked_into, goes_to_place}
use Rattle.pdl_pipe_beside.specs.Ends.{no_view, ends_in, moves_in, kills_in}
use Rattle.pdl_pipe_beside.specs.Steps.{AreNetsOf}
use Rattle.pdl_pipe_beside.proofs.EndGrowth.{end_is, move_at, kill_at, ends_keep, views_same, nets_more}
use Rattle.pdl_pipe_beside.proofs.port_round.step_nets.Goals as goal

pub asks_into-requires-clause-ends : goal.asks_into-requires-clause-ends
asks_into-requires-clause-ends c =
    let f = form c.args.round.now.pipe.now in
    let a = c.args.b.now in
    let b = c.loop-i.b in
    let e = extends_trans a c.stage_asks.new.b b c.in_ok-asks.ensures.extends c.loop-i.invariant.extends in
    ends_keep a b (extends_keeps a b e) f c.args.round.now.ends.now c.requires.ends

pub loop-i-preserved : goal.loop-i-preserved
loop-i-preserved c =
    let f = form c.args.round.now.pipe.now in
    let p = f.pipe in
    let es = c.args.round.now.ends.now in
    let r = reading_view c.args.r in
    let a = c.args.b.now in
    let o = c.stage_asks.new.b in
    let b = c.loop-i.b in
    let d = c.asks_into.new.b in
    let i = c.loop-i.i in
    let v = c.loop-i.invariant in
    let first = c.in_ok-asks.ensures in
    let asks = c.in_ok-asks.asks in
    let into = c.in_ok-asks_into.ensures in
    let x = c.in_ok-asks_into.field-0 in
    let e = c.end_at-end.result in
    let to_b = extends_trans a o b first.extends v.extends in
    let to_d = extends_trans a b d to_b into.extends in
    let next : next_view c.next_of-next.result ≡ (stage_at p r.stage).next = c.next_of-next.ensures in
    let low : i < length (places p r) = let n = c.place_count-i-end.ensures.count in
    let m = ap (λ (y : Next). length (places_of y)) next in
    omega (arith, c.loop-i-test.true, c.loop-i.auto.i-end, n, m) in
    let place_is : c.place.result ≡ place_at p r i = c.place.ensures ∙ ap (λ (y : Next). slice_index (places_of y) i) next in
    let known : c.place.result < length p.stages = let l = c.requires.to i low in omega (arith, l, place_is) in
    let within : c.place.result < length es = omega (arith, known, c.requires.ends.count) in
    let is = end_is a f es c.place.result e c.requires.ends known c.end_at-end.ensures in
    let views = views_same a b (extends_keeps a b to_b) f es c.requires.ends in
    let asked_is : signal d x ≡ asked_into p (ends_in a es) (moves_in a es) c.args.m r i =
    into.means.same
    ∙ ap₂ (λ (g : Signal) (vs : List View). both g (goes_to_place (stage_at p r.stage).next i (slice_index_or vs r.stage no_view).ended))
    (v.extends.kept asks first.means.there ∙ first.means.same) views in
    let moves = width_keeps a d e.moves 1 (extends_keeps a d to_d) is.moves in
    let killed = width_keeps a d e.killed 1 (extends_keeps a d to_d) is.killed in
    let moves_are = to_d.kept e.moves is.moves.there ∙ move_at a es c.place.result e within c.end_at-end.ensures ∙ ap (moves_in a es) place_is in
    let kills_are = to_d.kept e.killed is.killed.there ∙ kill_at a es c.place.result e within c.end_at-end.ensures ∙ ap (kills_in a es) place_is in
    record {
      asked = subst (λ (xs : List Net). AreNetsOf d xs (i + 1) (asked_into p (ends_in a es) (moves_in a es) c.args.m r)) (sym c.in_ok-push.ensures.ok)
          (nets_more b d c.loop-i.asked i (asked_into p (ends_in a es) (moves_in a es) c.args.m r) x v.asked into.extends (record { there = into.means.there; width = into.one }) asked_is);
      moves = subst (λ (xs : List Net). AreNetsOf d xs (i + 1) (λ j. moves_in a es (place_at p r j))) (sym c.in_ok-push-2.ensures.ok)
          (nets_more b d c.loop-i.moves i (λ j. moves_in a es (place_at p r j)) e.moves v.moves into.extends moves moves_are);
      removed = subst (λ (xs : List Net). AreNetsOf d xs (i + 1) (λ j. kills_in a es (place_at p r j))) (sym c.in_ok-push-3.ensures.ok)
          (nets_more b d c.loop-i.removed i (λ j. kills_in a es (place_at p r j)) e.killed v.removed into.extends killed kills_are);
      extends = extends_trans o b d v.extends into.extends;
    }
