use Rattle.std.proofs.Common.{◌<◌, length, sym, ap, ◌∙◌, arith}
use Rattle.pdl_semantics.specs.Stages.{stage_at}
use Rattle.pdl_net.specs.declared.Net.TheVariants.{Reg as RegNet}
use Rattle.pdl_net.specs.Signal.{Signal}
use Rattle.pdl_net.specs.Meaning.{signal}
use Rattle.pdl_net.proofs.Keeps.{extends_trans}
use Rattle.pdl_law_parts.specs.Walk.{both, is_on}
use Rattle.pdl_law_parts.specs.Views.{View, free, way_on}
use Rattle.pdl_pipe_answers.proofs.Bits.{both_as}
use Rattle.pdl_pipe_nexts.proofs.pipe_registers.Lists.{view_at}
use Rattle.pdl_pipe_nexts.specs.Lines.{line_pipe, line_views, line_moves}
use Rattle.pdl_pipe_moves.proofs.moving.stage_moves.Goals as goal

pub returns-clause-moves : goal.returns-clause-moves
returns-clause-moves c =
    let a = c.args.b.now in
    let b = c.way_on.new.b in
    let d1 = c.both_bits.new.b in
    let d2 = c.both_bits-2.new.b in
    let x = c.args.line.now in
    let p = line_pipe x in
    let k = c.args.k in
    let s = c.stage_of-s.result.now in
    let n = c.requires.line.count in
    let l = c.requires.low in
    let low : k < length x.stages.now = omega (arith, n, l) in
    let now = c.requires.line.stages k s low (sym c.stage_of-s.ensures) in
    let view = view_at a x.stages.now k s low (sym c.stage_of-s.ensures) in
    let ab = c.way_on.ensures.extends in
    let a1 = extends_trans a b d1 ab c.both_bits.ensures.extends in
    let a2 = extends_trans a d1 d2 a1 c.both_bits-2.ensures.extends in
    let valid = a2.kept (RegNet s.regs.valid) now.registers.valid.there ∙ now.registers.valid.same ∙ sym (ap (λ (v : View). v.valid) view) in
    let ready = a1.kept s.end.ready now.walk.there.ready ∙ sym (ap (λ (v : View). v.ended.ready) view) in
    let gate = ab.kept c.args.gate c.requires.gate.there in
    let way = way_on (stage_at p k).next (free (line_views a x) (line_moves a x)) (line_views a x k).ended in
    let g = signal a c.args.gate in
    let v = line_views a x k in
    let opens = c.in_ok-open.ensures.on in
    let lets = c.in_ok-ready.ensures.on in
    let moves = c.in_ok-moves.ensures.on in
    let later1 = c.both_bits-2.ensures.extends in
    record {
      bit = moves.bit;
      on = λ z.
          moves.on z
          ∙ both_as (signal d2 (RegNet s.regs.valid))
          (signal d2 c.in_ok-ready.ready) v.valid (both v.ended.ready (both g way))
          (λ y. ap (λ (f : Signal). is_on f y) valid)
          (λ y. lets.on y ∙ both_as (signal d1 s.end.ready) (signal d1 c.in_ok-open.open) v.ended.ready (both g way) (λ w. ap (λ (f : Signal). is_on f w) ready)
          (λ w. opens.on w
          ∙ both_as (signal b c.args.gate)
          (signal b c.in_ok-way.way) g way (λ u. ap (λ (f : Signal). is_on f u) gate)
          (λ u. ap (λ (f : Signal). is_on f u) c.in_ok-way.ensures.means.same) w) y) z;
    }
