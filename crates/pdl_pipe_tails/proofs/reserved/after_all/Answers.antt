use Rattle.std.proofs.Common.{◌≡◌, ◌∙◌, List, map, sym, ap, subst, arith}
use Rattle.pdl_word.specs.Each.{Each}
use Rattle.pdl_net.specs.Meaning.{signal}
use Rattle.pdl_net.proofs.Keeps.{extends_keeps, extends_trans}
use Rattle.pdl_net.proofs.KeptWidths.{width_meant}
use Rattle.pdl_pipe_exprs.specs.Nets.{signals_in, signal_at}
use Rattle.pdl_law_parts.specs.Walk.{Walk, Reservation}
use Rattle.pdl_law_parts.specs.Views.{View}
use Rattle.pdl_law_parts.specs.Ports.{reserves_to}
use Rattle.pdl_pipe_walk.specs.declared.nets.ReserveNet.{ReserveNet}
use Rattle.pdl_pipe_walk.specs.Parts.{reservation_in}
use Rattle.pdl_pipe_nexts.proofs.pipe_registers.Lists.{view_at}
use Rattle.pdl_pipe_nexts.specs.Lines.{line_pipe, line_views, line_moves}
use Rattle.pdl_pipe_nexts.proofs.LineGrowth.{bits_there, bit_one, line_keep, ended_same, moves_same}
use Rattle.pdl_pipe_tails.specs.Reserved.{IsReserve, IsAfter}
use Rattle.pdl_pipe_tails.proofs.ReservedTickets.{reserves_of, stages_more}
use Rattle.pdl_pipe_tails.proofs.reserved.after_all.Goals as goal

pub variable-moves-requires-clause-there : goal.variable-moves-requires-clause-there
variable-moves-requires-clause-there c =
    bits_there c.loop-k.b c.args.line.now.moves.now
    (line_keep c.args.b.now c.loop-k.b c.args.line.now (extends_keeps c.args.b.now c.loop-k.b c.loop-k.invariant.extends) c.requires.line).moves

pub after_stage-requires-clause-reserves : goal.after_stage-requires-clause-reserves
after_stage-requires-clause-reserves c =
    let a = c.args.b.now in
    let b = c.loop-k.b in
    let x = c.args.line.now in
    let s = c.stage_of-s.result.now in
    let line = line_keep a b x (extends_keeps a b c.loop-k.invariant.extends) c.requires.line in
    let now = line.stages c.loop-k.k s c.loop-k-test.true (sym c.stage_of-s.ensures) in
    subst (Each (IsReserve b)) (sym c.as_slice-in-loop-k.ensures) (reserves_of b (line_pipe x) s.end.reserves now.walk.there.reserves now.walk.sized.reserves)

pub after_stage-requires-clause-moves : goal.after_stage-requires-clause-moves
after_stage-requires-clause-moves c =
    let a = c.args.b.now in
    let b = c.loop-k.b in
    let x = c.args.line.now in
    let t = c.loop-k-test.true in
    let m = c.requires.line.moves_count in
    let line = line_keep a b x (extends_keeps a b c.loop-k.invariant.extends) c.requires.line in
    width_meant b _ _ 1 c.variable-moves.ensures (bit_one b x.moves.now c.loop-k.k (omega (arith, t, m)) line.moves)

pub loop-k-preserved : goal.loop-k-preserved
loop-k-preserved c =
    let a = c.args.b.now in
    let b = c.loop-k.b in
    let d = c.after_stage.new.b in
    let x = c.args.line.now in
    let ss = x.stages.now in
    let k = c.loop-k.k in
    let m = c.args.mem in
    let s = c.stage_of-s.result.now in
    let v = c.loop-k.invariant in
    let low = c.loop-k-test.true in
    let is = sym c.stage_of-s.ensures in
    let e = extends_keeps a b v.extends in
    let moved = c.variable-moves.ensures.same ∙ moves_same a b x e c.requires.line k in
    let reserved : map (reservation_in b) s.end.reserves ≡ (line_views a x k).ended.reserves =
    ap (λ (u : View). u.ended.reserves) (sym (view_at b ss k s low is)) ∙ ap (λ (w : Walk). w.reserves) (ended_same a b x e c.requires.line k low) in
    let first = signal b c.loop-k.net in
    let last = signal d c.in_ok-net.net in
    let by_list =
    subst
    (λ (rs : List ReserveNet). IsAfter first last
    (reserves_to m (signal b c.variable-moves.result) (map (reservation_in b) rs))) c.as_slice-in-loop-k.ensures c.in_ok-net.ensures.after in
    let by_view = subst (λ (rs : List Reservation). IsAfter first last (reserves_to m (signal b c.variable-moves.result) rs)) reserved by_list in
    let now = subst (λ f. IsAfter first last (reserves_to m f (line_views a x k).ended.reserves)) moved by_view in
    record {
      there = c.in_ok-net.ensures.there;
      after = stages_more m (line_views a x) (line_moves a x) (signal_at (signals_in a x.shared.now.next) m) first last k v.after now;
      extends = extends_trans a b d v.extends c.after_stage.ensures.extends;
      regs = c.after_stage.ensures.regs ∙ v.regs;
    }
