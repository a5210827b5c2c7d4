use Rattle.std.proofs.Common.{◌≡◌, refl, sym, ap, ap₂, ◌∙◌, subst, length, arith}
use Rattle.pdl_word.specs.Each.{Each}
use Rattle.pdl_semantics.proofs.SquashStages.{update_before}
use Rattle.pdl_net.specs.Signal.{Signal, mux_signal}
use Rattle.pdl_net.specs.Meaning.{signal}
use Rattle.pdl_net.proofs.Keeps.{extends_keeps, extends_trans, keeps_trans}
use Rattle.pdl_squash.specs.Laws.{net_at}
use Rattle.pdl_law_parts.specs.Walk.{one}
use Rattle.pdl_pipe_exprs.specs.Nets.{signals_in, signal_at}
use Rattle.pdl_pipe_exprs.proofs.NetLists.{signals_keep}
use Rattle.pdl_pipe_answers.specs.Ports.{IsBit}
use Rattle.pdl_pipe_walk.proofs.NetGrowth.{bits_keep as constants_keep}
use Rattle.pdl_pipe_beside.specs.declared.ends.Squashes.{Squashes}
use Rattle.pdl_pipe_beside.proofs.PortSteps.{ports_stand}
use Rattle.pdl_pipe_nexts.specs.Lines.{line_pipe}
use Rattle.pdl_pipe_nexts.proofs.LineGrowth.{line_keep, bits_there}
use Rattle.pdl_pipe_moves.specs.declared.controls.Controls.{Controls}
use Rattle.pdl_pipe_moves.specs.Signs.{signs_in, IsControlled}
use Rattle.pdl_pipe_moves.specs.StageSquashes.{AreJoined}
use Rattle.pdl_pipe_moves.specs.Passed.{ArePassed}
use Rattle.pdl_pipe_moves.proofs.TurnGrowth.{turns_keep}
use Rattle.pdl_pipe_moves.proofs.FreePorts.{net_signal}
use Rattle.pdl_pipe_moves.proofs.GateParts.{bit_keep, bits_keep}
use Rattle.pdl_pipe_moves.proofs.AllMoves.{controls_keep, all_passed_keep, zero_bits, net_bit}
use Rattle.pdl_pipe_moves.proofs.SquashedGates.{updated_late, passed_alike}
use Rattle.pdl_pipe_moves.proofs.StageSquashes.{squash_keep}
use Rattle.pdl_pipe_moves.proofs.MovedStages.{move_later, moved_updated}
use Rattle.pdl_pipe_moves.proofs.whole.updating_moves.Goals as goal

pub verified_moves-requires-clause-low : goal.verified_moves-requires-clause-low
verified_moves-requires-clause-low c =
    let l = update_before (line_pipe c.args.line.now).stmts c.args.u c.args.v c.requires.update c.requires.stage in omega (arith, l)

pub stage_squash-requires-clause-line : goal.stage_squash-requires-clause-line
stage_squash-requires-clause-line c =
    let a = c.args.b.now in
    let b = c.verified_moves.new.b in
    line_keep a b c.args.line.now (extends_keeps a b c.verified_moves.ensures.extends) c.requires.line

pub stage_squash-requires-clause-low : goal.stage_squash-requires-clause-low
stage_squash-requires-clause-low c =
    let l = update_before (line_pipe c.args.line.now).stmts c.args.u c.args.v c.requires.update c.requires.stage in
    let m = c.requires.low in omega (arith, l, m)

pub stage_squash-requires-clause-moves : goal.stage_squash-requires-clause-moves
stage_squash-requires-clause-moves c =
    let it = c.in_ok-made.ensures.made.passed in
    let l = update_before (line_pipe c.args.line.now).stmts c.args.u c.args.v c.requires.update c.requires.stage in
    let m = c.requires.low in
    let n = it.moves_count in
    subst (IsBit c.verified_moves.new.b)
    (sym (c.net_of-own.ensures ∙ ap (λ ns. net_at ns c.args.u) c.as_slice.ensures.value))
    (net_bit c.verified_moves.new.b c.in_ok-made.made.found.moves.items c.args.u (omega (arith, l, m, n)) it.moves)

pub pass_down-requires-clause-line : goal.pass_down-requires-clause-line
pass_down-requires-clause-line c =
    let a = c.args.b.now in
    let b = c.stage_squash.new.b in
    line_keep a b c.args.line.now
    (extends_keeps a b (extends_trans a c.verified_moves.new.b b c.verified_moves.ensures.extends c.stage_squash.ensures.extends)) c.requires.line

pub pass_down-requires-clause-stand : goal.pass_down-requires-clause-stand
pass_down-requires-clause-stand c =
    let a = c.args.b.now in
    let b = c.stage_squash.new.b in
    ports_stand a b (line_pipe c.args.line.now) c.args.line.now.shared.now.ports.now
    (extends_keeps a b (extends_trans a c.verified_moves.new.b b c.verified_moves.ensures.extends c.stage_squash.ensures.extends)) c.requires.stand

pub pass_down-requires-clause-controls : goal.pass_down-requires-clause-controls
pass_down-requires-clause-controls c =
    let a = c.args.b.now in
    let b1 = c.verified_moves.new.b in
    let b2 = c.stage_squash.new.b in
    let x = c.args.line.now in
    let e12 = extends_keeps b1 b2 c.stage_squash.ensures.extends in
    let e = keeps_trans a b1 b2 (extends_keeps a b1 c.verified_moves.ensures.extends) e12 in
    let first = c.in_ok-made.ensures.made.squash in
    let same = c.as_slice-2.ensures.value in
    record {
      turns = turns_keep a b2 e (line_pipe x) c.args.orders.now c.requires.turns;
      squashes = record {
        verify = bit_keep b1 b2 c.in_ok-made.made.squash.happens e12 first.happens;
        update = c.in_ok-again.ensures.made.happens;
      };
      clear_count = ap length same ∙ first.clear_count;
      clear = subst (Each (IsBit b2)) (sym same) (bits_keep b1 b2 c.in_ok-made.made.squash.clear.items e12 first.clear);
    }

pub pass_down-requires-clause-passed : goal.pass_down-requires-clause-passed
pass_down-requires-clause-passed c =
    let a = c.args.b.now in
    let b1 = c.verified_moves.new.b in
    let b2 = c.stage_squash.new.b in
    let x = c.args.line.now in
    let u = c.args.u in
    let zero = x.shared.now.bits.zero in
    let made = c.in_ok-made.made in
    let first = c.in_ok-made.ensures.made in
    let again = c.in_ok-again.again.happens in
    let same = c.as_slice-2.ensures.value in
    let e1 = extends_keeps a b1 c.verified_moves.ensures.extends in
    let e12 = extends_keeps b1 b2 c.stage_squash.ensures.extends in
    let single : Squashes = record { verify = made.squash.happens; update = zero } in
    let calm : Controls = record { orders = c.args.orders; squashes = single; clear = c.as_slice-2.result } in
    let held : IsControlled b1 (line_pipe x) calm =
    record {
      turns = turns_keep a b1 e1 (line_pipe x) c.args.orders.now c.requires.turns;
      squashes = record {
        verify = first.squash.happens;
        update = zero_bits b1 x.shared.now.bits (constants_keep a b1 x.shared.now.bits e1 c.requires.line.shared.bits);
      };
      clear_count = ap length same ∙ first.squash.clear_count;
      clear = subst (Each (IsBit b1)) (sym same) first.squash.clear;
    } in
    let kept =
    all_passed_keep b1 b2 e12 x calm (line_keep a b1 x e1 c.requires.line) c.requires.inside
    (ports_stand a b1 (line_pipe x) x.shared.now.ports.now e1 c.requires.stand) held made.found.moves.items made.found.frees.items u
    (subst (λ cs. ArePassed b1 x (signs_in b1 x c.args.orders.now single cs) made.found.moves.items made.found.frees.items u) (sym same) first.passed) in
    passed_alike b2 x c.args.orders.now single (record { verify = made.squash.happens; update = again }) c.as_slice-2.result.now c.as_slice-2.result.now
    made.found.moves.items made.found.frees.items u
    (λ k l. updated_late (line_pipe x).stmts u k (signal b2 made.squash.happens) (signal b2 zero) (signal b2 again) c.requires.update l)
    (λ k h l. refl) kept

pub mux-requires-clause-choice : goal.mux-requires-clause-choice
mux-requires-clause-choice c =
    let b1 = c.verified_moves.new.b in
    let b2 = c.stage_squash.new.b in
    let b3 = c.pass_down.new.b in
    bit_keep b1 b3 c.in_ok-made.made.squash.happens
    (extends_keeps b1 b3 (extends_trans b1 b2 b3 c.stage_squash.ensures.extends c.pass_down.ensures.extends)) c.in_ok-made.ensures.made.squash.happens

pub mux-requires-clause-b_there : goal.mux-requires-clause-b_there
mux-requires-clause-b_there c =
    let b2 = c.stage_squash.new.b in
    let b3 = c.pass_down.new.b in
    (bit_keep b2 b3 c.in_ok-again.again.happens (extends_keeps b2 b3 c.pass_down.ensures.extends) c.in_ok-again.ensures.made.happens).there

pub mux-requires-clause-a_there : goal.mux-requires-clause-a_there
mux-requires-clause-a_there c =
    let a = c.args.b.now in
    let b1 = c.verified_moves.new.b in
    let b2 = c.stage_squash.new.b in
    let b3 = c.pass_down.new.b in
    let e = extends_trans a b2 b3 (extends_trans a b1 b2 c.verified_moves.ensures.extends c.stage_squash.ensures.extends) c.pass_down.ensures.extends in
    (constants_keep a b3 c.args.line.now.shared.now.bits (extends_keeps a b3 e) c.requires.line.shared.bits).one.there

pub mux-requires-clause-widths : goal.mux-requires-clause-widths
mux-requires-clause-widths c =
    let a = c.args.b.now in
    let b1 = c.verified_moves.new.b in
    let b2 = c.stage_squash.new.b in
    let b3 = c.pass_down.new.b in
    let e = extends_trans a b2 b3 (extends_trans a b1 b2 c.verified_moves.ensures.extends c.stage_squash.ensures.extends) c.pass_down.ensures.extends in
    let one = (constants_keep a b3 c.args.line.now.shared.now.bits (extends_keeps a b3 e) c.requires.line.shared.bits).one in
    let again = bit_keep b2 b3 c.in_ok-again.again.happens (extends_keeps b2 b3 c.pass_down.ensures.extends) c.in_ok-again.ensures.made.happens in
    ap (λ (f : Signal). f.width) one.same ∙ sym again.width

pub joined-requires-clause-bits : goal.joined-requires-clause-bits
joined-requires-clause-bits c =
    let a = c.args.b.now in
    let b1 = c.verified_moves.new.b in
    let b2 = c.stage_squash.new.b in
    let b3 = c.pass_down.new.b in
    let b4 = c.mux.new.self in
    let e = extends_trans a b2 b3 (extends_trans a b1 b2 c.verified_moves.ensures.extends c.stage_squash.ensures.extends) c.pass_down.ensures.extends in
    constants_keep a b4 c.args.line.now.shared.now.bits (extends_keeps a b4 (extends_trans a b3 b4 e c.mux.ensures.extends)) c.requires.line.shared.bits

pub joined-requires-clause-first : goal.joined-requires-clause-first
joined-requires-clause-first c =
    let b1 = c.verified_moves.new.b in
    let b2 = c.stage_squash.new.b in
    let b3 = c.pass_down.new.b in
    let b4 = c.mux.new.self in
    let e = extends_trans b1 b3 b4 (extends_trans b1 b2 b3 c.stage_squash.ensures.extends c.pass_down.ensures.extends) c.mux.ensures.extends in
    subst (Each (IsBit b4)) (sym c.as_slice-3.ensures.value)
    (bits_keep b1 b4 c.in_ok-made.made.squash.removed.items (extends_keeps b1 b4 e) c.in_ok-made.ensures.made.squash.removed)

pub joined-requires-clause-second : goal.joined-requires-clause-second
joined-requires-clause-second c =
    let b2 = c.stage_squash.new.b in
    let b3 = c.pass_down.new.b in
    let b4 = c.mux.new.self in
    let e = extends_trans b2 b3 b4 c.pass_down.ensures.extends c.mux.ensures.extends in
    subst (Each (IsBit b4)) (sym c.as_slice-4.ensures.value)
    (bits_keep b2 b4 c.in_ok-again.again.removed.items (extends_keeps b2 b4 e) c.in_ok-again.ensures.made.removed)

pub joined-requires-clause-count : goal.joined-requires-clause-count
joined-requires-clause-count c =
    ap length c.as_slice-4.ensures.value ∙ c.in_ok-again.ensures.made.removed_count
    ∙ sym (ap length c.as_slice-3.ensures.value ∙ c.in_ok-made.ensures.made.squash.removed_count)

pub returns-clause-moved : goal.returns-clause-moved
returns-clause-moved c =
    let a = c.args.b.now in
    let b1 = c.verified_moves.new.b in
    let b2 = c.stage_squash.new.b in
    let b3 = c.pass_down.new.b in
    let b4 = c.mux.new.self in
    let d = c.joined.new.b in
    let x = c.args.line.now in
    let v = c.args.v in
    let u = c.args.u in
    let made = c.in_ok-made.made in
    let first = c.in_ok-made.ensures.made in
    let again = c.in_ok-again.again in
    let second = c.in_ok-again.ensures.made in
    let moves1 = made.found.moves.items in
    let moves2 = c.pass_down.new.self.moves.items in
    let passed1 = first.passed in
    let passed2 = c.in_ok-pass_down.ensures.passed in
    let m1 = passed1.moves_count in
    let m2 = passed2.moves_count in
    let low = c.requires.low in
    let early = update_before (line_pipe x).stmts u v c.requires.update c.requires.stage in
    let e1 = extends_keeps a b1 c.verified_moves.ensures.extends in
    let e12 = extends_keeps b1 b2 c.stage_squash.ensures.extends in
    let e23 = extends_keeps b2 b3 c.pass_down.ensures.extends in
    let e34 = extends_keeps b3 b4 c.mux.ensures.extends in
    let e4d = extends_keeps b4 d c.joined.ensures.extends in
    let e3d = keeps_trans b3 b4 d e34 e4d in
    let e2d = keeps_trans b2 b3 d e23 e3d in
    let e1d = keeps_trans b1 b2 d e12 e2d in
    let e13 = keeps_trans b1 b2 b3 e12 e23 in
    let a3 = keeps_trans a b1 b3 e1 e13 in
    let line1 = line_keep a b1 x e1 c.requires.line in
    let line2 = line_keep b1 b2 x e12 line1 in
    let line3 = line_keep a b3 x a3 c.requires.line in
    let same = c.as_slice-2.ensures.value in
    let both : Squashes = record { verify = made.squash.happens; update = again.happens } in
    let controls : Controls = record { orders = c.args.orders; squashes = both; clear = c.as_slice-2.result } in
    let verify2 = bit_keep b1 b2 made.squash.happens e12 first.squash.happens in
    let held2 : IsControlled b2 (line_pipe x) controls =
    record {
      turns = turns_keep a b2 (keeps_trans a b1 b2 e1 e12) (line_pipe x) c.args.orders.now c.requires.turns;
      squashes = record { verify = verify2; update = second.happens };
      clear_count = ap length same ∙ first.squash.clear_count;
      clear = subst (Each (IsBit b2)) (sym same) (bits_keep b1 b2 made.squash.clear.items e12 first.squash.clear);
    } in
    let passed =
    all_passed_keep b3 d e3d x controls line3 c.requires.inside
    (ports_stand a b3 (line_pipe x) x.shared.now.ports.now a3 c.requires.stand)
    (controls_keep b2 b3 (line_pipe x) controls e23 held2) moves2 c.pass_down.new.self.frees.items 0 passed2 in
    let own : c.net_of-own.result ≡ net_at moves1 u = c.net_of-own.ensures ∙ ap (λ ns. net_at ns u) c.as_slice.ensures.value in
    let at_v = move_later b1 d moves1 moves2 v e1d passed1.moves (omega (arith, low, m1)) (omega (arith, low, m2))
    (c.in_ok-pass_down.ensures.later v (omega (arith, early))) in
    let at_u = ap (signal b1) own ∙ net_signal b1 moves1 u (omega (arith, low, m1, early))
    ∙ move_later b1 d moves1 moves2 u e1d passed1.moves (omega (arith, low, m1, early)) (omega (arith, low, m2, early))
    (c.in_ok-pass_down.ensures.later u (omega arith)) in
    let bits = c.requires.line.shared.bits in
    let either : signal d c.in_ok-either.either ≡ mux_signal (signal d made.squash.happens) one (signal d again.happens) =
    e4d.kept c.in_ok-either.either c.in_ok-either.ensures.means.there
    ∙ c.in_ok-either.ensures.means.same
    ∙ ap₂ (λ (f g : Signal). mux_signal f g (signal b3 again.happens))
    (sym (e3d.kept made.squash.happens (bit_keep b1 b3 made.squash.happens e13 first.squash.happens).there))
    (constants_keep a b3 x.shared.now.bits a3 bits).one.same
    ∙ ap (mux_signal (signal d made.squash.happens) one) (sym (e3d.kept again.happens (bit_keep b2 b3 again.happens e23 second.happens).there)) in
    let bit : IsBit d c.in_ok-either.either =
    record {
      there = e4d.there c.in_ok-either.either c.in_ok-either.ensures.means.there;
      width = ap (λ (f : Signal). f.width) either;
    } in
    let removed = made.squash.removed.items in
    let also = again.removed.items in
    let e14 = keeps_trans b1 b3 b4 e13 e34 in
    let e24 = keeps_trans b2 b3 b4 e23 e34 in
    let first_is : signals_in b4 c.as_slice-3.result.now ≡ signals_in d removed =
    ap (signals_in b4) c.as_slice-3.ensures.value
    ∙ sym (signals_keep b4 d removed e4d (bits_there b4 removed (bits_keep b1 b4 removed e14 first.squash.removed))) in
    let second_is : signals_in b4 c.as_slice-4.result.now ≡ signals_in d also =
    ap (signals_in b4) c.as_slice-4.ensures.value
    ∙ sym (signals_keep b4 d also e4d (bits_there b4 also (bits_keep b2 b4 also e24 second.removed))) in
    let kills = signals_in d c.in_ok-kills.kills.items in
    let joined =
    subst (λ n. AreJoined (signal_at (signals_in d removed)) (signal_at (signals_in d also)) u n kills) (ap length c.as_slice-3.ensures.value)
    (subst (λ gs. AreJoined (signal_at (signals_in d removed)) (signal_at gs) u (length c.as_slice-3.result.now) kills) second_is
    (subst (λ fs. AreJoined (signal_at fs) (signal_at (signals_in b4 c.as_slice-4.result.now)) u (length c.as_slice-3.result.now) kills) first_is
    c.in_ok-kills.ensures.joined)) in
    moved_updated d x c.args.orders.now
    (record {
      moves = c.pass_down.new.self.moves;
      frees = c.pass_down.new.self.frees;
      squash = c.in_ok-either.either;
      squashes = both;
      kills = c.in_ok-kills.kills;
      clear = made.squash.clear;
    })
    v u made.squash again c.requires.stage c.requires.update
    (squash_keep b1 d x v (signal_at (signals_in b1 moves1) v) (signal_at (signals_in d moves2) v) made.squash e1d line1 at_v first.squash)
    (squash_keep b2 d x u (signal b1 c.net_of-own.result) (signal_at (signals_in d moves2) u) again e2d line2 at_u second)
    (subst (λ cs. ArePassed d x (signs_in d x c.args.orders.now both cs) moves2 c.pass_down.new.self.frees.items 0) same passed)
    bit either c.in_ok-kills.ensures.bits joined
