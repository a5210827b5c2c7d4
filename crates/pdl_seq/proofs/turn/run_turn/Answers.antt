use Rattle.std.proofs.Common.{◌≡◌, ◌≤◌, ◌+◌, ◌∙◌, sym, ap, subst, List, [], ◌∷◌, drop, length, arith}
use Rattle.std.specs.Prelude.{vec_capacity}
use Rattle.pdl_semantics.specs.Flat.{Stmt, all_hold}
use Rattle.pdl_semantics.specs.Sequential.{Run, run_all}
use Rattle.pdl_form.specs.FormView.{form}
use Rattle.pdl_form.specs.View.{stmt_view, stmts_view, guards_view, act_view}
use Rattle.pdl_seq.specs.Turns.{Rooms, run_view}
use Rattle.pdl_seq.specs.Fits.{AreFitting}
use Rattle.pdl_seq.proofs.StatementWidths.{fits_if, shaped_same}
use Rattle.pdl_seq.proofs.Safety.{safe_op}
use Rattle.pdl_seq.proofs.TurnSteps.{writes_grow, next_stmt, typed_next}
use Rattle.pdl_seq.proofs.turn.run_turn.Goals as goal

pub run_stmt-requires-clause-safe : goal.run_stmt-requires-clause-safe
run_stmt-requires-clause-safe c on =
    let f = form c.args.pipe.now in
    let x = c.stmt-item.result in
    let typed =
    typed_next f c.stmts-stmt-items.result.now c.loop-stmt.stmt-index x c.stmts-stmt-items.ensures c.requires.run.typed.stmts c.loop-stmt-test.true c.stmt-item.is in
    let same : vec_capacity c.loop-stmt.turn.next ≡ vec_capacity c.args.turn.now.next = ap (λ (r : Rooms). r.next) c.loop-stmt.invariant.rooms in
    let room : length f.pipe.start ≤ vec_capacity c.args.turn.now.next = c.requires.next in
    safe_op f c.requires.run.typed c.loop-stmt.turn.memories.items c.loop-stmt.invariant.fit.shaped
    (run_view c.loop-stmt.turn) c.loop-stmt.invariant.fit.fitting (vec_capacity c.loop-stmt.turn.next)
    (omega arith) (act_view x.op) typed.1

pub run_stmt-requires-clause-room : goal.run_stmt-requires-clause-room
run_stmt-requires-clause-room c =
    let f = form c.args.pipe.now in
    let items = c.stmts-stmt-items.result.now in
    let x = c.stmt-item.result in
    let now = run_view c.loop-stmt.turn in
    let one = run_all (stmt_view x ∷ []) now in
    let rest = stmts_view (drop (c.loop-stmt.stmt-index + 1) items) in
    let split : stmts_view (drop c.loop-stmt.stmt-index items) ≡ stmt_view x ∷ rest =
    next_stmt items c.loop-stmt.stmt-index x c.loop-stmt-test.true c.stmt-item.is in
    let grow : length one.writes ≤ length (run_all rest one).writes = writes_grow rest one in
    let whole : run_all rest one ≡ run_all f.pipe.stmts (run_view c.args.turn.now) =
    ap (λ (ss : List Stmt). run_all ss now) (sym split) ∙ c.loop-stmt.invariant.run
    ∙ ap (λ (ss : List Stmt). run_all ss (run_view c.args.turn.now)) c.stmts-stmt-items.ensures in
    let long : length (run_all rest one).writes ≡ length (run_all f.pipe.stmts (run_view c.args.turn.now)).writes = ap (λ (r : Run). length r.writes) whole in
    let same : vec_capacity c.loop-stmt.turn.commits ≡ vec_capacity c.args.turn.now.commits = ap (λ (r : Rooms). r.commits) c.loop-stmt.invariant.rooms in
    let room : length (run_all f.pipe.stmts (run_view c.args.turn.now)).writes ≤ vec_capacity c.args.turn.now.commits = c.requires.room in
    let most : length one.writes ≤ vec_capacity c.loop-stmt.turn.commits = omega arith in
    most

pub loop-stmt-preserved : goal.loop-stmt-preserved
loop-stmt-preserved c =
    let f = form c.args.pipe.now in
    let items = c.stmts-stmt-items.result.now in
    let x = c.stmt-item.result in
    let now = run_view c.loop-stmt.turn in
    let rest = stmts_view (drop (c.loop-stmt.stmt-index + 1) items) in
    let split : stmts_view (drop c.loop-stmt.stmt-index items) ≡ stmt_view x ∷ rest =
    next_stmt items c.loop-stmt.stmt-index x c.loop-stmt-test.true c.stmt-item.is in
    let typed = typed_next f items c.loop-stmt.stmt-index x c.stmts-stmt-items.ensures c.requires.run.typed.stmts c.loop-stmt-test.true c.stmt-item.is in
    record {
      run = ap (run_all rest) c.run_stmt.ensures.run ∙ ap (λ (ss : List Stmt). run_all ss now) (sym split) ∙ c.loop-stmt.invariant.run;
      fit = record {
        shaped =
            shaped_same f.pipe c.loop-stmt.turn.memories.items c.run_stmt.new.turn.memories.items c.run_stmt.ensures.shape c.loop-stmt.invariant.fit.shaped;
        fitting =
            subst (AreFitting f) (sym c.run_stmt.ensures.run)
            (fits_if f c.requires.run.typed.wide (all_hold (guards_view x.guards) c.loop-stmt.turn.values.items)
            (act_view x.op) now typed.1 c.loop-stmt.invariant.fit.fitting);
      };
      rooms = c.run_stmt.ensures.rooms ∙ c.loop-stmt.invariant.rooms;
    }
