use Rattle.std.proofs.Common.{◌≡◌, sym, ap, ◌∙◌, subst, length, arith}
use Rattle.pdl_word.specs.Each.{Each}
use Rattle.pdl_semantics.specs.Stages.{verify_stage}
use Rattle.pdl_net.specs.Meaning.{signal}
use Rattle.pdl_net.proofs.Keeps.{extends_keeps, extends_trans}
use Rattle.pdl_squash.specs.Laws.{net_at}
use Rattle.pdl_pipe_exprs.specs.Nets.{signals_in, signal_at}
use Rattle.pdl_pipe_answers.specs.Ports.{IsBit}
use Rattle.pdl_pipe_walk.proofs.NetGrowth.{bits_keep}
use Rattle.pdl_pipe_beside.specs.declared.ends.Squashes.{Squashes}
use Rattle.pdl_pipe_beside.proofs.PortSteps.{ports_stand}
use Rattle.pdl_pipe_nexts.specs.Lines.{line_pipe}
use Rattle.pdl_pipe_nexts.proofs.LineGrowth.{line_keep}
use Rattle.pdl_pipe_moves.specs.declared.controls.Controls.{Controls}
use Rattle.pdl_pipe_moves.specs.Signs.{signs_in, IsControlled}
use Rattle.pdl_pipe_moves.specs.Passed.{ArePassed}
use Rattle.pdl_pipe_moves.proofs.TurnGrowth.{turns_keep}
use Rattle.pdl_pipe_moves.proofs.FreePorts.{net_signal}
use Rattle.pdl_pipe_moves.proofs.AllMoves.{controls_keep, all_passed_keep, zero_bits, filled_bits, net_bit}
use Rattle.pdl_pipe_moves.proofs.SquashedGates.{verified_late, barrier_late, passed_alike}
use Rattle.pdl_pipe_moves.proofs.StageSquashes.{squash_keep}
use Rattle.pdl_pipe_moves.proofs.whole.verified_moves.Goals as goal

pub stage_squash-requires-clause-line : goal.stage_squash-requires-clause-line
stage_squash-requires-clause-line c =
    line_keep c.args.b.now c.pass_down.new.b c.args.line.now (extends_keeps c.args.b.now c.pass_down.new.b c.pass_down.ensures.extends) c.requires.line

pub stage_squash-requires-clause-moves : goal.stage_squash-requires-clause-moves
stage_squash-requires-clause-moves c =
    let it = c.in_ok-pass_down.ensures.passed in
    let l = c.requires.last in
    let n = it.moves_count in
    subst (IsBit c.pass_down.new.b)
    (sym (c.net_of-own.ensures ∙ ap (λ ns. net_at ns c.args.v) c.as_slice.ensures.value))
    (net_bit c.pass_down.new.b c.pass_down.new.self.moves.items c.args.v (omega (arith, l, n)) it.moves)

pub pass_down-requires-2-clause-line : goal.pass_down-requires-2-clause-line
pass_down-requires-2-clause-line c =
    let a = c.args.b.now in
    let b = c.stage_squash.new.b in
    line_keep a b c.args.line.now
    (extends_keeps a b (extends_trans a c.pass_down.new.b b c.pass_down.ensures.extends c.stage_squash.ensures.extends)) c.requires.line

pub pass_down-requires-2-clause-stand : goal.pass_down-requires-2-clause-stand
pass_down-requires-2-clause-stand c =
    let a = c.args.b.now in
    let b = c.stage_squash.new.b in
    ports_stand a b (line_pipe c.args.line.now) c.args.line.now.shared.now.ports.now
    (extends_keeps a b (extends_trans a c.pass_down.new.b b c.pass_down.ensures.extends c.stage_squash.ensures.extends)) c.requires.stand

pub pass_down-requires-2-clause-controls : goal.pass_down-requires-2-clause-controls
pass_down-requires-2-clause-controls c =
    let a = c.args.b.now in
    let b = c.stage_squash.new.b in
    let x = c.args.line.now in
    let e = extends_keeps a b (extends_trans a c.pass_down.new.b b c.pass_down.ensures.extends c.stage_squash.ensures.extends) in
    let zero = zero_bits b x.shared.now.bits (bits_keep a b x.shared.now.bits e c.requires.line.shared.bits) in
    let made = c.in_ok-squash.ensures.made in
    let same = c.as_slice-2.ensures.value in
    record {
      turns = turns_keep a b e (line_pipe x) c.args.orders.now c.requires.turns;
      squashes = record { verify = made.happens; update = zero };
      clear_count = ap length same ∙ made.clear_count;
      clear = subst (Each (IsBit b)) (sym same) made.clear;
    }

pub pass_down-requires-2-clause-passed : goal.pass_down-requires-2-clause-passed
pass_down-requires-2-clause-passed c =
    let a = c.args.b.now in
    let b1 = c.pass_down.new.b in
    let b2 = c.stage_squash.new.b in
    let x = c.args.line.now in
    let v = c.args.v in
    let zero = x.shared.now.bits.zero in
    let e1 = extends_keeps a b1 c.pass_down.ensures.extends in
    let none : Squashes = record { verify = zero; update = zero } in
    let calm : Controls = record { orders = c.args.orders; squashes = none; clear = c.args.blank } in
    let bit = zero_bits a x.shared.now.bits c.requires.line.shared.bits in
    let blank = c.requires.blank in
    let held : IsControlled a (line_pipe x) calm =
    record {
      turns = c.requires.turns;
      squashes = record { verify = bit; update = bit };
      clear_count = blank.count_is;
      clear = filled_bits a zero c.args.blank.now bit blank.each;
    } in
    let kept =
    all_passed_keep b1 b2 (extends_keeps b1 b2 c.stage_squash.ensures.extends) x calm
    (line_keep a b1 x e1 c.requires.line) c.requires.inside
    (ports_stand a b1 (line_pipe x) x.shared.now.ports.now e1 c.requires.stand)
    (controls_keep a b1 (line_pipe x) calm e1 held)
    c.pass_down.new.self.moves.items c.pass_down.new.self.frees.items v c.in_ok-pass_down.ensures.passed in
    let happens = c.in_ok-squash.squash.happens in
    passed_alike b2 x c.args.orders.now none (record { verify = happens; update = zero }) c.args.blank.now c.as_slice-2.result.now
    c.pass_down.new.self.moves.items c.pass_down.new.self.frees.items v
    (λ k l. verified_late (line_pipe x).stmts v k (signal b2 zero) (signal b2 zero) (signal b2 happens) (signal b2 zero) c.requires.stage l)
    (λ k h l. barrier_late (verify_stage (line_pipe x).stmts) v k c.requires.stage l h (signal_at (signals_in b2 c.args.blank.now) k)
    (signal_at (signals_in b2 c.as_slice-2.result.now) k)) kept

pub returns-clause-made : goal.returns-clause-made
returns-clause-made c =
    let a = c.args.b.now in
    let b1 = c.pass_down.new.b in
    let b2 = c.stage_squash.new.b in
    let d = c.pass_down-2.new.b in
    let x = c.args.line.now in
    let v = c.args.v in
    let zero = x.shared.now.bits.zero in
    let squash = c.in_ok-squash.squash in
    let moves1 = c.pass_down.new.self.moves.items in
    let moves2 = c.pass_down-2.new.self.moves.items in
    let a1 = c.pass_down.ensures.extends in
    let x12 = c.stage_squash.ensures.extends in
    let x2d = c.pass_down-2.ensures.extends in
    let e2d = extends_keeps b2 d x2d in
    let e1d = extends_keeps b1 d (extends_trans b1 b2 d x12 x2d) in
    let line2 = line_keep a b2 x (extends_keeps a b2 (extends_trans a b1 b2 a1 x12)) c.requires.line in
    let last = c.requires.last in
    let passed1 = c.in_ok-pass_down.ensures.passed in
    let passed2 = c.in_ok-pass_down-2.ensures.passed in
    let m1 = passed1.moves_count in
    let m2 = passed2.moves_count in
    let own : c.net_of-own.result ≡ net_at moves1 v = c.net_of-own.ensures ∙ ap (λ ns. net_at ns v) c.as_slice.ensures.value in
    let there = (net_bit b1 moves1 v (omega (arith, last, m1)) passed1.moves).there in
    let same = c.in_ok-pass_down-2.ensures.later v (omega arith) in
    let moved : signal b1 c.net_of-own.result ≡ signal_at (signals_in d moves2) v =
    ap (signal b1) own ∙ sym (e1d.kept (net_at moves1 v) there) ∙ ap (signal d) (sym same) ∙ net_signal d moves2 v (omega (arith, last, m2)) in
    record {
      passed =
          subst
          (λ cs. ArePassed d x (signs_in d x c.args.orders.now (record { verify = squash.happens; update = zero }) cs) moves2
          c.pass_down-2.new.self.frees.items c.args.low)
          c.as_slice-2.ensures.value passed2;
      squash = squash_keep b2 d x v (signal b1 c.net_of-own.result) (signal_at (signals_in d moves2) v) squash e2d line2 moved c.in_ok-squash.ensures.made;
    }
