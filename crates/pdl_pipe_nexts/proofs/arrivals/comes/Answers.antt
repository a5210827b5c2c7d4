use Rattle.std.proofs.Common.{refl, sym, ap, ◌∙◌, length, arith, eq-eqb, ne_eqb}
use Rattle.pdl_net.specs.Signal.{Signal}
use Rattle.pdl_net.proofs.KeptWidths.{width_kept, width_meant}
use Rattle.pdl_law_parts.specs.Walk.{is_on}
use Rattle.pdl_pipe_exprs.specs.Nets.{signals_in, signal_at}
use Rattle.pdl_pipe_exprs.proofs.NetLists.{length_signals}
use Rattle.pdl_pipe_walk.specs.Parts.{parts_in}
use Rattle.pdl_pipe_walk.proofs.NetGrowth.{var_count, var_width}
use Rattle.pdl_pipe_nexts.specs.Lines.{line_form, line_pipe, line_views, line_moves}
use Rattle.pdl_pipe_nexts.proofs.LineGrowth.{bits_there, bit_one}
use Rattle.pdl_pipe_nexts.proofs.ArrivalNets.{fork_at, straight, elsewhere, nowhere}
use Rattle.pdl_pipe_nexts.proofs.arrivals.comes.Goals as goal

pub variable-own-requires-clause-there : goal.variable-own-requires-clause-there
variable-own-requires-clause-there c = bits_there c.args.b.now c.args.line.now.moves.now c.requires.line.moves

pub variable-choice-requires-clause-low : goal.variable-choice-requires-clause-low
variable-choice-requires-clause-low c =
    let x = c.args.line.now in
    let f = line_form x in
    let s = c.stage_of-s.result.now in
    let n = c.requires.line.count in
    let l = c.requires.low in
    let now = c.requires.line.stages c.args.j s (omega (arith, n, l)) (sym c.stage_of-s.ensures) in
    let low =
    (fork_at f.widths f.pipe.stages c.args.j c.in-Forks.x c.in-Forks.first c.in-Forks.second c.requires.low c.requires.line.forks
    (sym c.in-Forks.ensures)).0 in
    let count = var_count f.pipe f.widths (parts_in c.args.b.now s.end) now.walk.sized in
    let long = length_signals c.args.b.now s.end.vars.items in
    let same = ap length c.as_slice.ensures.value in
    omega (arith, low, count, long, same)

pub way-requires-clause-choice : goal.way-requires-clause-choice
way-requires-clause-choice c =
    let x = c.args.line.now in
    let f = line_form x in
    let s = c.stage_of-s.result.now in
    let n = c.requires.line.count in
    let l = c.requires.low in
    let now = c.requires.line.stages c.args.j s (omega (arith, n, l)) (sym c.stage_of-s.ensures) in
    let one =
    (fork_at f.widths f.pipe.stages c.args.j c.in-Forks.x c.in-Forks.first c.in-Forks.second c.requires.low c.requires.line.forks
    (sym c.in-Forks.ensures)).1 in
    let at = ap (λ xs. signal_at (signals_in c.args.b.now xs) c.in-Forks.x) c.as_slice.ensures.value in
    width_meant c.args.b.now _ _ 1 c.variable-choice.ensures
    (ap (λ (g : Signal). g.width) at ∙ var_width f.pipe f.widths (parts_in c.args.b.now s.end) c.in-Forks.x now.walk.sized ∙ one)

pub both-requires-clause-x : goal.both-requires-clause-x
both-requires-clause-x c =
    let x = c.args.line.now in
    let n = c.requires.line.count in
    let m = c.requires.line.moves_count in
    let l = c.requires.low in
    let own =
    width_meant c.args.b.now _ _ 1 c.variable-own.ensures (bit_one c.args.b.now x.moves.now c.args.j (omega (arith, n, m, l)) c.requires.line.moves) in
    width_kept c.args.b.now c.way.new.b _ 1 c.way.ensures.extends own

pub returns-in-Goes-clause-arrives : goal.returns-in-Goes-clause-arrives
returns-in-Goes-clause-arrives c =
    let x = c.args.line.now in
    let a = c.args.b.now in
    let n = c.requires.line.count in
    let m = c.requires.line.moves_count in
    let l = c.requires.low in
    record {
      bit = width_meant a _ _ 1 c.variable-own.ensures (bit_one a x.moves.now c.args.j (omega (arith, n, m, l)) c.requires.line.moves);
      on =
          λ s. ap (λ (g : Signal). is_on g s) c.variable-own.ensures.same
          ∙ straight (line_pipe x) (line_views a x)
          (line_moves a x) c.args.q c.args.j c.in-Goes.to (sym c.in-Goes.ensures)
          (eq-eqb c.in-Goes.to c.args.q c.if-to-q.true) s;
    }

pub returns-in-Ends-clause-arrives : goal.returns-in-Ends-clause-arrives
returns-in-Ends-clause-arrives c =
    let x = c.args.line.now in
    let a = c.args.b.now in
    let zero = c.requires.line.shared.bits.zero in
    record {
      bit = width_meant a _ _ 1 zero refl;
      on =
          λ s. ap (λ (g : Signal). is_on g s) zero.same
          ∙ elsewhere (line_pipe x) (line_views a x)
          (line_moves a x) c.args.q c.args.j c.in-Goes.to (sym c.in-Goes.ensures)
          (ne_eqb c.in-Goes.to c.args.q c.if-to-q.false) s;
    }

pub returns-in-Ends-2-clause-arrives : goal.returns-in-Ends-2-clause-arrives
returns-in-Ends-2-clause-arrives c =
    let x = c.args.line.now in
    let a = c.args.b.now in
    let zero = c.requires.line.shared.bits.zero in
    record {
      bit = width_meant a _ _ 1 zero refl;
      on = λ s. ap (λ (g : Signal). is_on g s) zero.same ∙ nowhere (line_pipe x) (line_views a x) (line_moves a x) c.args.q c.args.j (sym c.in-Ends.ensures) s;
    }
