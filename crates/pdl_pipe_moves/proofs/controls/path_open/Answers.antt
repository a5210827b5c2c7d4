use Rattle.std.proofs.Common.{◌<◌, length, sym, ap, ap₂, ◌∙◌, subst, map, arith}
use Rattle.pdl_net.specs.Signal.{Signal}
use Rattle.pdl_net.proofs.Keeps.{extends_keeps, extends_trans}
use Rattle.pdl_net.proofs.KeptWidths.{width_meant}
use Rattle.pdl_pipe_exprs.specs.Nets.{signals_in, signal_at}
use Rattle.pdl_pipe_exprs.proofs.NetLists.{signals_keep}
use Rattle.pdl_semantics.specs.Stages.{stage_at, verify_stage}
use Rattle.pdl_law_parts.specs.Walk.{both}
use Rattle.pdl_law_parts.specs.Views.{View, way_on}
use Rattle.pdl_law_sides.specs.Sides.{barrier_open}
use Rattle.pdl_pipe_walk.specs.Parts.{ask_in}
use Rattle.pdl_pipe_nexts.proofs.pipe_registers.Lists.{view_at}
use Rattle.pdl_pipe_nexts.specs.Lines.{line_form, line_pipe, line_views}
use Rattle.pdl_pipe_nexts.proofs.LineGrowth.{bits_there, bit_one}
use Rattle.pdl_word.specs.Each.{Each}
use Rattle.pdl_pipe_answers.specs.Ports.{IsBitFor}
use Rattle.pdl_pipe_walk.proofs.NetGrowth.{walk_keep}
use Rattle.pdl_pipe_moves.specs.Gates.{opens_by, turn_in, IsAsked}
use Rattle.pdl_pipe_moves.proofs.GateParts.{bits_keep, both_after, asks_same, are_asked}
use Rattle.pdl_pipe_moves.proofs.controls.path_open.Goals as goal

pub variable-clear-requires-clause-there : goal.variable-clear-requires-clause-there
variable-clear-requires-clause-there c =
    bits_there c.way_turn.new.b c.args.controls.now.clear.now
    (bits_keep c.args.b.now c.way_turn.new.b c.args.controls.now.clear.now
    (extends_keeps c.args.b.now c.way_turn.new.b c.way_turn.ensures.extends) c.requires.controls.clear)

pub barrier_open-requires-clause-clear : goal.barrier_open-requires-clause-clear
barrier_open-requires-clause-clear c =
    let a = c.args.b.now in
    let b = c.way_turn.new.b in
    let e = extends_keeps a b c.way_turn.ensures.extends in
    let n = c.requires.controls.clear_count in
    let l = c.requires.low in
    let means = c.variable-clear.ensures in
    width_meant b _ _ 1 means
    (bit_one b c.args.controls.now.clear.now c.args.k (omega (arith, n, l)) (bits_keep a b c.args.controls.now.clear.now e c.requires.controls.clear))

pub ports_open-requires-clause-asks : goal.ports_open-requires-clause-asks
ports_open-requires-clause-asks c =
    let a = c.args.b.now in
    let b1 = c.way_turn.new.b in
    let b2 = c.barrier_open.new.b in
    let b3 = c.both_bits.new.b in
    let e =
    extends_keeps a b3
    (extends_trans a b1 b3 c.way_turn.ensures.extends (extends_trans b1 b2 b3 c.barrier_open.ensures.extends c.both_bits.ensures.extends)) in
    let f = line_form c.args.line.now in
    let s = c.stage_of-s.result.now in
    let n = c.requires.line.count in
    let l = c.requires.low in
    let now = c.requires.line.stages c.args.k s (omega (arith, n, l)) (sym c.stage_of-s.ensures) in
    let walk = walk_keep a b3 e f.pipe f.widths s.end now.walk in
    subst (λ qs. Each (IsAsked b3 c.args.frees.now) qs) (sym c.as_slice.ensures)
    (are_asked b3 f.pipe c.args.frees.now s.end.asks c.requires.count walk.there.asks walk.sized.asks)

pub ports_open-requires-clause-frees : goal.ports_open-requires-clause-frees
ports_open-requires-clause-frees c =
    let a = c.args.b.now in
    let b1 = c.way_turn.new.b in
    let b2 = c.barrier_open.new.b in
    let b3 = c.both_bits.new.b in
    let e =
    extends_keeps a b3
    (extends_trans a b1 b3 c.way_turn.ensures.extends (extends_trans b1 b2 b3 c.barrier_open.ensures.extends c.both_bits.ensures.extends)) in
    bits_keep a b3 c.args.frees.now e c.requires.frees

pub returns-clause-on : goal.returns-clause-on
returns-clause-on c =
    let a = c.args.b.now in
    let b1 = c.way_turn.new.b in
    let b2 = c.barrier_open.new.b in
    let b3 = c.both_bits.new.b in
    let b4 = c.ports_open.new.b in
    let b5 = c.both_bits-2.new.b in
    let x = c.args.line.now in
    let y = c.args.controls.now in
    let k = c.args.k in
    let p = line_pipe x in
    let f = line_form x in
    let s = c.stage_of-s.result.now in
    let n = c.requires.line.count in
    let l = c.requires.low in
    let low : k < length x.stages.now = omega (arith, n, l) in
    let now = c.requires.line.stages k s low (sym c.stage_of-s.ensures) in
    let view = view_at a x.stages.now k s low (sym c.stage_of-s.ensures) in
    let e1 = extends_keeps a b1 c.way_turn.ensures.extends in
    let e3 =
    extends_keeps a b3
    (extends_trans a b1 b3 c.way_turn.ensures.extends (extends_trans b1 b2 b3 c.barrier_open.ensures.extends c.both_bits.ensures.extends)) in
    let v = line_views a x k in
    let clear =
    c.variable-clear.ensures.same ∙ ap (λ fs. signal_at fs k) (signals_keep a b1 y.clear.now e1 (bits_there a y.clear.now c.requires.controls.clear)) in
    let barrier = e1.kept s.end.barrier now.walk.there.barrier ∙ sym (ap (λ (w : View). w.ended.barrier) view) in
    let g = barrier_open (verify_stage p.stmts) k v.ended.barrier (signal_at (signals_in a y.clear.now) k) in
    let way = way_on (stage_at p k).next (turn_in a p y.orders.now k) v.ended in
    let opens : IsBitFor b2 c.in_ok-barrier.barrier g =
    subst (IsBitFor b2 c.in_ok-barrier.barrier)
    (ap₂ (λ (h i : Signal). barrier_open (verify_stage p.stmts) k h i) barrier clear) c.in_ok-barrier.ensures.on in
    let later : IsBitFor b3 c.in_ok-later.later (both g way) =
    both_after b1 b2 b3 c.in_ok-barrier.barrier c.in_ok-turn.turn c.in_ok-later.later g way
    (extends_keeps b1 b2 c.barrier_open.ensures.extends) opens c.in_ok-turn.ensures.on c.in_ok-later.ensures.on in
    let asks = ap (map (ask_in b3)) c.as_slice.ensures ∙ asks_same a b3 e3 s.end.asks now.walk.there.asks ∙ sym (ap (λ (w : View). w.ended.asks) view) in
    let frees = signals_keep a b3 c.args.frees.now e3 (bits_there a c.args.frees.now c.requires.frees) in
    let o = opens_by (signal_at (signals_in a c.args.frees.now)) v.ended.asks in
    let ports : IsBitFor b4 c.in_ok-ports.ports o =
    subst (IsBitFor b4 c.in_ok-ports.ports) (ap₂ (λ fs qs. opens_by (signal_at fs) qs) frees asks) c.in_ok-ports.ensures.on in
    both_after b3 b4 b5 c.in_ok-ports.ports c.in_ok-later.later c.in_ok-path.path o (both g way)
    (extends_keeps b3 b4 c.ports_open.ensures.extends) ports later c.in_ok-path.ensures.on
