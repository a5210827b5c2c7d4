use Rattle.std.proofs.Common.{◌≡◌, ◌+◌, ◌-◌, ◌<◌, List, map, length, get_or, refl, sym, ap, ◌∙◌, subst, arith}
use Rattle.pdl_net.specs.Meaning.{signal}
use Rattle.pdl_net.proofs.Keeps.{extends_keeps, extends_trans}
use Rattle.pdl_net.proofs.KeptWidths.{width_meant}
use Rattle.pdl_law_parts.specs.Walk.{Birth}
use Rattle.pdl_law_parts.specs.Views.{View, new_by, first_coming}
use Rattle.pdl_pipe_walk.specs.declared.nets.BirthNet.{BirthNet}
use Rattle.pdl_pipe_walk.specs.Parts.{birth_in}
use Rattle.pdl_pipe_walk.proofs.NetGrowth.{bits_keep}
use Rattle.pdl_pipe_registers.proofs.Lists.{view_at}
use Rattle.pdl_pipe_nexts.specs.Lines.{line_form, line_views, line_moves}
use Rattle.pdl_pipe_nexts.specs.Brings.{brought_signal, IsBirth}
use Rattle.pdl_pipe_nexts.proofs.LineGrowth.{bits_there, bit_one, line_keep, ended_same, moves_same}
use Rattle.pdl_pipe_nexts.proofs.BirthsMade.{births_of, stage_more}
use Rattle.pdl_pipe_nexts.proofs.births.new_coming.Goals as goal
use Rattle.pdl_word.specs.Each.{Each}

pub variable-moves-requires-clause-there : goal.variable-moves-requires-clause-there
variable-moves-requires-clause-there c =
    bits_there c.loop-i.b c.args.line.now.moves.now
    (line_keep c.args.b.now c.loop-i.b c.args.line.now (extends_keeps c.args.b.now c.loop-i.b c.loop-i.invariant.extends) c.requires.line).moves

pub picked_of-requires-clause-bits : goal.picked_of-requires-clause-bits
picked_of-requires-clause-bits c =
    bits_keep c.args.b.now c.loop-i.b c.args.line.now.shared.now.bits
    (extends_keeps c.args.b.now c.loop-i.b c.loop-i.invariant.extends) c.requires.line.shared.bits

pub picked_of-requires-clause-births : goal.picked_of-requires-clause-births
picked_of-requires-clause-births c =
    let a = c.args.b.now in
    let b = c.loop-i.b in
    let x = c.args.line.now in
    let f = line_form x in
    let t = c.loop-i-test.true in
    let s = c.stage_of-s.result.now in
    let line = line_keep a b x (extends_keeps a b c.loop-i.invariant.extends) c.requires.line in
    let now = line.stages (length x.stages.now - 1 - c.loop-i.i) s (omega (arith, t)) (sym c.stage_of-s.ensures) in
    subst (Each (IsBirth b f)) (sym c.as_slice.ensures.value) (births_of b f s.end.births.items now.walk.there.births now.walk.sized.births)

pub picked_of-requires-clause-moves : goal.picked_of-requires-clause-moves
picked_of-requires-clause-moves c =
    let x = c.args.line.now in
    let t = c.loop-i-test.true in
    let m = c.requires.line.moves_count in
    let line = line_keep c.args.b.now c.loop-i.b x (extends_keeps c.args.b.now c.loop-i.b c.loop-i.invariant.extends) c.requires.line in
    width_meant c.loop-i.b _ _ 1 c.variable-moves.ensures
    (bit_one c.loop-i.b x.moves.now (length x.stages.now - 1 - c.loop-i.i) (omega (arith, t, m)) line.moves)

pub loop-i-preserved : goal.loop-i-preserved
loop-i-preserved c =
    let a = c.args.b.now in
    let b = c.loop-i.b in
    let d = c.picked_of.new.b in
    let x = c.args.line.now in
    let ss = x.stages.now in
    let what = c.args.what in
    let rest = signal a c.args.rest in
    let t = c.loop-i-test.true in
    let s = c.stage_of-s.result.now in
    let vs = line_views a x in
    let j = length ss - 1 - c.loop-i.i in
    let k = length ss - (c.loop-i.i + 1) in
    let same : j ≡ k = omega (arith, t) in
    let low : k < length ss = omega (arith, t) in
    let is : get_or ss k s ≡ s = sym (subst (λ m. s ≡ get_or ss m s) same c.stage_of-s.ensures) in
    let e = extends_keeps a b c.loop-i.invariant.extends in
    let moved = signal b c.variable-moves.result in
    let births : map (birth_in b) s.end.births.items ≡ (vs k).ended.births =
    ap (λ (v : View). v.ended.births) (sym (view_at b ss k s low is))
    ∙ ap (λ (w : Rattle.pdl_law_parts.specs.Walk.Walk). w.births) (ended_same a b x e c.requires.line k low) in
    let moves : moved ≡ line_moves a x k = c.variable-moves.ensures.same ∙ moves_same a b x e c.requires.line j ∙ ap (line_moves a x) same in
    record {
      means = record {
        there = c.in_ok-net.ensures.means.there;
        same = c.in_ok-net.ensures.means.same
            ∙ ap
            (λ (ys : List BirthNet). first_coming (brought_signal what) (map (new_by moved) (map (birth_in b) ys))
            (signal b c.loop-i.net)) c.as_slice.ensures.value
            ∙ ap (λ (zs : List Birth). first_coming (brought_signal what) (map (new_by moved) zs) (signal b c.loop-i.net)) births
            ∙ ap (λ f. first_coming (brought_signal what) (map (new_by f) (vs k).ended.births) (signal b c.loop-i.net)) moves
            ∙ ap (λ f. first_coming (brought_signal what) (map (new_by (line_moves a x k)) (vs k).ended.births) f) c.loop-i.invariant.means.same
            ∙ sym (stage_more vs (line_moves a x) what c.loop-i.i (c.loop-i.i + 1) k (length ss - c.loop-i.i) rest refl (omega (arith, t)));
      };
      wide = c.in_ok-net.ensures.wide ∙ c.loop-i.invariant.wide;
      extends = extends_trans a b d c.loop-i.invariant.extends c.picked_of.ensures.extends;
      regs = c.picked_of.ensures.regs ∙ c.loop-i.invariant.regs;
    }
