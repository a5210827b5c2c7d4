use Rattle.std.proofs.Common.{◌<◌, length, sym, ap, ◌∙◌, arith}
use Rattle.pdl_semantics.specs.Flat.{Next}
use Rattle.pdl_net.specs.Signal.{Signal}
use Rattle.pdl_net.specs.Meaning.{signal}
use Rattle.pdl_net.proofs.Keeps.{extends_keeps}
use Rattle.pdl_net.proofs.KeptWidths.{width_meant, width_kept}
use Rattle.pdl_pipe_exprs.specs.Nets.{signals_in, signal_at}
use Rattle.pdl_pipe_exprs.proofs.NetLists.{length_signals}
use Rattle.pdl_law_parts.specs.Walk.{is_on}
use Rattle.pdl_law_parts.specs.Views.{View, way_on}
use Rattle.pdl_pipe_walk.specs.Parts.{parts_in}
use Rattle.pdl_pipe_walk.proofs.NetGrowth.{var_count, var_width}
use Rattle.pdl_pipe_nexts.proofs.pipe_registers.Lists.{view_at}
use Rattle.pdl_pipe_nexts.specs.Lines.{line_form, line_pipe, line_views}
use Rattle.pdl_pipe_nexts.proofs.ArrivalNets.{fork_at}
use Rattle.pdl_pipe_moves.specs.Gates.{turn_in}
use Rattle.pdl_pipe_moves.proofs.StageWays.{straight_low, first_low, second_low}
use Rattle.pdl_pipe_moves.proofs.TurnGrowth.{turns_keep, turn_same, mux_as}
use Rattle.pdl_pipe_moves.proofs.ways.way_turn.Goals as goal

pub turn-requires-clause-q : goal.turn-requires-clause-q
turn-requires-clause-q c = straight_low (line_pipe c.args.line.now) c.requires.inside c.args.k c.requires.low c.in-Goes.to (sym c.in-Goes.ensures)

pub turn-requires-in-Forks-clause-q : goal.turn-requires-in-Forks-clause-q
turn-requires-in-Forks-clause-q c =
    first_low (line_pipe c.args.line.now) c.requires.inside c.args.k c.requires.low c.in-Forks.x c.in-Forks.first c.in-Forks.second (sym c.in-Forks.ensures)

pub turn-requires-in-Forks-2-clause-q : goal.turn-requires-in-Forks-2-clause-q
turn-requires-in-Forks-2-clause-q c =
    second_low (line_pipe c.args.line.now) c.requires.inside c.args.k c.requires.low c.in-Forks.x c.in-Forks.first c.in-Forks.second (sym c.in-Forks.ensures)

pub turn-requires-in-Forks-2-clause-turns : goal.turn-requires-in-Forks-2-clause-turns
turn-requires-in-Forks-2-clause-turns c =
    turns_keep c.args.b.now c.turn-in-Forks.new.b (extends_keeps c.args.b.now c.turn-in-Forks.new.b c.turn-in-Forks.ensures.extends)
    (line_pipe c.args.line.now) c.args.orders.now c.requires.turns

pub variable-choice-requires-clause-low : goal.variable-choice-requires-clause-low
variable-choice-requires-clause-low c =
    let f = line_form c.args.line.now in
    let s = c.stage_of-s.result.now in
    let n = c.requires.line.count in
    let l = c.requires.low in
    let now = c.requires.line.stages c.args.k s (omega (arith, n, l)) (sym c.stage_of-s.ensures) in
    let low =
    (fork_at f.widths f.pipe.stages c.args.k c.in-Forks.x c.in-Forks.first c.in-Forks.second c.requires.low c.requires.line.forks
    (sym c.in-Forks.ensures)).0 in
    let count = var_count f.pipe f.widths (parts_in c.args.b.now s.end) now.walk.sized in
    let long = length_signals c.args.b.now s.end.vars.items in
    let same = ap length c.as_slice.ensures.value in
    omega (arith, low, count, long, same)

pub mux-requires-clause-choice : goal.mux-requires-clause-choice
mux-requires-clause-choice c =
    let a = c.args.b.now in
    let b = c.turn-in-Forks.new.b in
    let d = c.turn-in-Forks-2.new.b in
    let f = line_form c.args.line.now in
    let s = c.stage_of-s.result.now in
    let n = c.requires.line.count in
    let l = c.requires.low in
    let now = c.requires.line.stages c.args.k s (omega (arith, n, l)) (sym c.stage_of-s.ensures) in
    let one =
    (fork_at f.widths f.pipe.stages c.args.k c.in-Forks.x c.in-Forks.first c.in-Forks.second c.requires.low c.requires.line.forks
    (sym c.in-Forks.ensures)).1 in
    let choice = c.variable-choice.result in
    let at = ap (λ xs. signal_at (signals_in a xs) c.in-Forks.x) c.as_slice.ensures.value in
    width_kept b d choice 1 c.turn-in-Forks-2.ensures.extends
    (width_kept a b choice 1 c.turn-in-Forks.ensures.extends
    (width_meant a choice _ 1 c.variable-choice.ensures
    (ap (λ (g : Signal). g.width) at ∙ var_width f.pipe f.widths (parts_in a s.end) c.in-Forks.x now.walk.sized ∙ one)))

pub returns-in_ok-net-in-Forks-clause-on : goal.returns-in_ok-net-in-Forks-clause-on
returns-in_ok-net-in-Forks-clause-on c =
    let a = c.args.b.now in
    let b = c.turn-in-Forks.new.b in
    let d = c.turn-in-Forks-2.new.b in
    let x = c.args.line.now in
    let p = line_pipe x in
    let s = c.stage_of-s.result.now in
    let n = c.requires.line.count in
    let l = c.requires.low in
    let low : c.args.k < length x.stages.now = omega (arith, n, l) in
    let choice = c.variable-choice.result in
    let there = c.variable-choice.ensures.there in
    let kept =
    c.turn-in-Forks-2.ensures.extends.kept choice (c.turn-in-Forks.ensures.extends.there choice there)
    ∙ c.turn-in-Forks.ensures.extends.kept choice there in
    let at = ap (λ xs. signal_at (signals_in a xs) c.in-Forks.x) c.as_slice.ensures.value in
    let var =
    kept ∙ c.variable-choice.ensures.same ∙ at
    ∙ sym (ap (λ (v : View). v.ended.vars c.in-Forks.x) (view_at a x.stages.now c.args.k s low (sym c.stage_of-s.ensures))) in
    let e = extends_keeps a b c.turn-in-Forks.ensures.extends in
    let yes = c.in_ok-yes-in-Forks.ensures.on in
    let no = c.in_ok-no-in-Forks.ensures.on in
    let f = turn_in a p c.args.orders.now c.args.k in
    let under = second_low p c.requires.inside c.args.k c.requires.low c.in-Forks.x c.in-Forks.first c.in-Forks.second (sym c.in-Forks.ensures) in
    let means = c.in_ok-net-in-Forks.ensures.means in
    let var_a = (line_views a x c.args.k).ended.vars c.in-Forks.x in
    record {
      bit = width_meant _ _ _ 1 means (width_kept b d c.in_ok-yes-in-Forks.yes 1 c.turn-in-Forks-2.ensures.extends yes.bit).width;
      on = λ z.
          ap (λ (g : Signal). is_on g z) means.same
          ∙ mux_as (signal d choice) var_a (signal d c.in_ok-yes-in-Forks.yes) (signal d c.in_ok-no-in-Forks.no) (f c.in-Forks.first) (f c.in-Forks.second) var
          (λ y. ap (λ (g : Signal). is_on g y) (c.turn-in-Forks-2.ensures.extends.kept c.in_ok-yes-in-Forks.yes yes.bit.there) ∙ yes.on y)
          (λ y. no.on y ∙ ap (λ (g : Signal). is_on g y) (turn_same a b e p c.args.orders.now c.args.k c.in-Forks.second under c.requires.turns)) z
          ∙ ap (λ (m : Next). is_on (way_on m f (line_views a x c.args.k).ended) z) c.in-Forks.ensures;
    }
