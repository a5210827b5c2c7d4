use Rattle.std.proofs.Common.{sym, ap, ◌∙◌, subst, length}
use Rattle.pdl_word.specs.Each.{Each}
use Rattle.pdl_net.proofs.Keeps.{extends_keeps}
use Rattle.pdl_pipe_answers.specs.Ports.{IsBit}
use Rattle.pdl_pipe_walk.specs.Locked.{members}
use Rattle.pdl_pipe_nexts.specs.Lines.{line_pipe}
use Rattle.pdl_pipe_nexts.proofs.LineGrowth.{line_keep}
use Rattle.pdl_pipe.proofs.LineMoves.{has_turns, line_with, layout_with, moved_with}
use Rattle.pdl_pipe.proofs.emitting.emit_moves.Goals as goal

pub all_moves-requires-clause-turns : goal.all_moves-requires-clause-turns
all_moves-requires-clause-turns g c = has_turns c.args.b.now (line_pipe c.args.line.now) c.args.orders.now c.requires.can.forks c.requires.laid.3.stand_orders

pub emit_steps-requires-clause-line : goal.emit_steps-requires-clause-line
emit_steps-requires-clause-line g c =
    let a = c.args.b.now in
    let b = c.all_moves.new.b in
    let x = c.args.line.now in
    let it = c.in_ok-moves.ensures.moved in
    let moves = c.as_slice.ensures.value in
    let kills = c.as_slice-2.ensures.value in
    let e = extends_keeps a b c.all_moves.ensures.extends in
    let n = sym c.requires.line.count in
    line_with b x (record x { moves = c.as_slice.result; kills = c.as_slice-2.result })
    (line_keep a b x e c.requires.line) (ap length moves ∙ it.passed.moves_count ∙ n)
    (subst (Each (IsBit b)) (sym moves) it.passed.moves) (ap length kills ∙ it.kills_count ∙ n)
    (subst (Each (IsBit b)) (sym kills) it.kills)

pub emit_steps-requires-clause-moved : goal.emit_steps-requires-clause-moved
emit_steps-requires-clause-moved g c =
    let a = c.args.b.now in
    let b = c.all_moves.new.b in
    let x = c.args.line.now in
    let y = record x { moves = c.as_slice.result; kills = c.as_slice-2.result } in
    let laid = c.requires.laid in
    record {
      a = a;
      layout = (laid.0, laid.1, laid.2, layout_with (members g.L.LockModule) a x y c.args.locks.now c.args.orders.now laid.0 laid.1 laid.2 laid.3);
      to_moves = c.all_moves.ensures.extends;
      moved = moved_with b x y c.args.orders.now c.in_ok-moves.moves c.in_ok-moves.ensures.moved;
      line_moves_are = c.as_slice.ensures.value;
      line_kills_are = c.as_slice-2.ensures.value;
    }
