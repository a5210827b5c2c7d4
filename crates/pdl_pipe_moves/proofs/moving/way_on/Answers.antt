use Rattle.std.proofs.Common.{◌<◌, length, sym, ap, ap₂, ◌∙◌, arith}
use Rattle.pdl_semantics.specs.Flat.{Next}
use Rattle.pdl_net.specs.Signal.{Signal, mux_signal}
use Rattle.pdl_net.specs.Meaning.{signal}
use Rattle.pdl_net.proofs.Keeps.{extends_keeps}
use Rattle.pdl_net.proofs.KeptWidths.{width_kept, width_meant}
use Rattle.pdl_pipe_exprs.specs.Nets.{signals_in, signal_at}
use Rattle.pdl_pipe_exprs.proofs.NetLists.{length_signals}
use Rattle.pdl_law_parts.specs.Views.{View, free, way_on}
use Rattle.pdl_pipe_walk.specs.Parts.{parts_in}
use Rattle.pdl_pipe_walk.proofs.NetGrowth.{var_count, var_width}
use Rattle.pdl_pipe_nexts.proofs.pipe_registers.Lists.{view_at}
use Rattle.pdl_pipe_nexts.specs.Lines.{line_form, line_pipe, line_views, line_moves}
use Rattle.pdl_pipe_nexts.proofs.ArrivalNets.{fork_at}
use Rattle.pdl_pipe_nexts.proofs.LineGrowth.{line_keep, views_same, all_moves_same}
use Rattle.pdl_pipe_moves.proofs.StageWays.{straight_low, first_low, second_low}
use Rattle.pdl_pipe_moves.proofs.moving.way_on.Goals as goal

pub free-requires-clause-low : goal.free-requires-clause-low
free-requires-clause-low c = straight_low (line_pipe c.args.line.now) c.requires.inside c.args.k c.requires.low c.in-Goes.to (sym c.in-Goes.ensures)

pub free-requires-in-Forks-clause-low : goal.free-requires-in-Forks-clause-low
free-requires-in-Forks-clause-low c =
    first_low (line_pipe c.args.line.now) c.requires.inside c.args.k c.requires.low c.in-Forks.x c.in-Forks.first c.in-Forks.second (sym c.in-Forks.ensures)

pub free-requires-in-Forks-2-clause-low : goal.free-requires-in-Forks-2-clause-low
free-requires-in-Forks-2-clause-low c =
    second_low (line_pipe c.args.line.now) c.requires.inside c.args.k c.requires.low c.in-Forks.x c.in-Forks.first c.in-Forks.second (sym c.in-Forks.ensures)

pub free-requires-in-Forks-2-clause-line : goal.free-requires-in-Forks-2-clause-line
free-requires-in-Forks-2-clause-line c =
    line_keep c.args.b.now c.free-in-Forks.new.b c.args.line.now
    (extends_keeps c.args.b.now c.free-in-Forks.new.b c.free-in-Forks.ensures.extends) c.requires.line

pub variable-choice-requires-clause-low : goal.variable-choice-requires-clause-low
variable-choice-requires-clause-low c =
    let f = line_form c.args.line.now in
    let s = c.stage_of-s.result.now in
    let n = c.requires.line.count in
    let l = c.requires.low in
    let now = c.requires.line.stages c.args.k s (omega (arith, n, l)) (sym c.stage_of-s.ensures) in
    let low =
    (fork_at f.widths f.pipe.stages c.args.k c.in-Forks.x c.in-Forks.first c.in-Forks.second c.requires.low c.requires.line.forks
    (sym c.in-Forks.ensures)).0 in
    let count = var_count f.pipe f.widths (parts_in c.args.b.now s.end) now.walk.sized in
    let long = length_signals c.args.b.now s.end.vars.items in
    let same = ap length c.as_slice.ensures.value in
    omega (arith, low, count, long, same)

pub mux-requires-clause-choice : goal.mux-requires-clause-choice
mux-requires-clause-choice c =
    let a = c.args.b.now in
    let b = c.free-in-Forks.new.b in
    let d = c.free-in-Forks-2.new.b in
    let f = line_form c.args.line.now in
    let s = c.stage_of-s.result.now in
    let n = c.requires.line.count in
    let l = c.requires.low in
    let now = c.requires.line.stages c.args.k s (omega (arith, n, l)) (sym c.stage_of-s.ensures) in
    let one =
    (fork_at f.widths f.pipe.stages c.args.k c.in-Forks.x c.in-Forks.first c.in-Forks.second c.requires.low c.requires.line.forks
    (sym c.in-Forks.ensures)).1 in
    let choice = c.variable-choice.result in
    let at = ap (λ xs. signal_at (signals_in a xs) c.in-Forks.x) c.as_slice.ensures.value in
    width_kept b d choice 1 c.free-in-Forks-2.ensures.extends
    (width_kept a b choice 1 c.free-in-Forks.ensures.extends
    (width_meant a choice _ 1 c.variable-choice.ensures
    (ap (λ (g : Signal). g.width) at ∙ var_width f.pipe f.widths (parts_in a s.end) c.in-Forks.x now.walk.sized ∙ one)))

pub returns-in_ok-net-in-Forks-clause-means : goal.returns-in_ok-net-in-Forks-clause-means
returns-in_ok-net-in-Forks-clause-means c =
    let a = c.args.b.now in
    let b = c.free-in-Forks.new.b in
    let d = c.free-in-Forks-2.new.b in
    let x = c.args.line.now in
    let s = c.stage_of-s.result.now in
    let n = c.requires.line.count in
    let l = c.requires.low in
    let low : c.args.k < length x.stages.now = omega (arith, n, l) in
    let choice = c.variable-choice.result in
    let there = c.variable-choice.ensures.there in
    let kept =
    c.free-in-Forks-2.ensures.extends.kept choice (c.free-in-Forks.ensures.extends.there choice there)
    ∙ c.free-in-Forks.ensures.extends.kept choice there in
    let at = ap (λ xs. signal_at (signals_in a xs) c.in-Forks.x) c.as_slice.ensures.value in
    let var =
    kept ∙ c.variable-choice.ensures.same ∙ at
    ∙ sym (ap (λ (v : View). v.ended.vars c.in-Forks.x) (view_at a x.stages.now c.args.k s low (sym c.stage_of-s.ensures))) in
    let e = extends_keeps a b c.free-in-Forks.ensures.extends in
    let yes =
    c.free-in-Forks-2.ensures.extends.kept c.in_ok-yes-in-Forks.yes c.in_ok-yes-in-Forks.ensures.means.there ∙ c.in_ok-yes-in-Forks.ensures.means.same in
    let no =
    c.in_ok-no-in-Forks.ensures.means.same
    ∙ ap₂ (λ vs ms. free vs ms c.in-Forks.second) (views_same a b x e c.requires.line) (all_moves_same a b x e c.requires.line) in
    let f = free (line_views a x) (line_moves a x) in
    let means = c.in_ok-net-in-Forks.ensures.means in
    record {
      there = means.there;
      same = means.same
          ∙ ap₂ (λ (g h : Signal). mux_signal g h (signal d c.in_ok-no-in-Forks.no)) var yes
          ∙ ap (λ (h : Signal). mux_signal ((line_views a x c.args.k).ended.vars c.in-Forks.x) (f c.in-Forks.first) h) no
          ∙ ap (λ (m : Next). way_on m f (line_views a x c.args.k).ended) c.in-Forks.ensures;
    }
