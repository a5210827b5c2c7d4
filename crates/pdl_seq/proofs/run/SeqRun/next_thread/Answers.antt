use Rattle.std.proofs.Common.{◌≡◌, ◌≤◌, ◌+◌, ◌-◌, ◌++◌, ◌∙◌, List, refl, sym, ap, ap₂, subst, suc, map, length, arith}
use Rattle.std.specs.Prelude.{vec_len, vec_capacity}
use Rattle.pdl_semantics.specs.Flat.{arrays_of}
use Rattle.pdl_semantics.proofs.Advice.{same_seq}
use Rattle.pdl_semantics.proofs.Updates.{seq_alike}
use Rattle.pdl_semantics.specs.Sequential.{Run, run_all, thread}
use Rattle.pdl_form.specs.FormView.{form}
use Rattle.pdl_seq.specs.Turns.{Rooms, rooms, commits_view, run_view}
use Rattle.pdl_seq.specs.Runs.{Running, HasRun, numbered_write}
use Rattle.pdl_seq.specs.declared.commit.Commit as r_commit
use Rattle.pdl_seq.proofs.WriteLimit.{few, few_lent}
use Rattle.pdl_seq.specs.declared.commit.Write.{Write}
use Rattle.pdl_seq.proofs.NumberedWrites.{told_more, told_less}
use Rattle.pdl_seq.proofs.Rooms.{room_next, room_left, room_same}
use Rattle.pdl_seq.proofs.Threads.{arrays_next, args_next, told_next}
use Rattle.pdl_seq.proofs.run.SeqRun.next_thread.Goals as goal

pub begin-requires : goal.begin-requires
begin-requires c =
    let fit = c.self.invariant.fit.fitting in
    let params = c.self.invariant.runnable.typed.params in
    omega (arith, fit.next_args.few, fit.values.count, params)

pub run_turn-requires-clause-fit : goal.run_turn-requires-clause-fit
run_turn-requires-clause-fit c = c.begin.ensures.fit (form c.self.inside.pipe.now) c.self.invariant.runnable c.self.invariant.fit

pub run_turn-requires-clause-room : goal.run_turn-requires-clause-room
run_turn-requires-clause-room c =
    let f = form c.self.inside.pipe.now in
    let begun : length (run_all f.pipe.stmts (run_view c.begin.new.turn)).writes
    ≡ length (thread f.pipe (arrays_of c.self.inside.turn.memories.items) c.self.inside.turn.next.items).writes =
    ap (λ (r : Run). length (run_all f.pipe.stmts r).writes)
    (c.begin.ensures.run (form c.self.inside.pipe.now) c.self.invariant.runnable c.self.invariant.fit) in
    let most = few f c.self.invariant.runnable (arrays_of c.self.inside.turn.memories.items) c.self.inside.turn.next.items in
    let same : vec_capacity c.begin.new.turn.commits ≡ vec_capacity c.self.inside.turn.commits = ap (λ (r : Rooms). r.commits) c.begin.ensures.rooms in
    let room : 32 ≤ vec_capacity c.self.inside.turn.commits = c.self.invariant.commits in
    omega arith

pub tell-requires : goal.tell-requires
tell-requires c =
    let p = (form c.self.inside.pipe.now).pipe in
    let ran : run_view c.run_turn.new.turn ≡ thread p (arrays_of c.self.inside.turn.memories.items) c.self.inside.turn.next.items =
    c.run_turn.ensures.run ∙ ap (run_all p.stmts) (c.begin.ensures.run (form c.self.inside.pipe.now) c.self.invariant.runnable c.self.invariant.fit) in
    let most =
    few_lent (form c.self.inside.pipe.now) c.self.invariant.runnable _ _
    (run_view c.run_turn.new.turn) c.run_turn.new.turn.commits.items c.as_slice.result.now ran refl c.as_slice.ensures.value in
    let run : c.self.inside.run ≡ c.args.self.now.run = ap (λ (r : Running). r.run) c.self.view_is in
    let threads : c.self.inside.threads ≡ c.args.self.now.threads = ap (λ (r : Running). r.threads) c.self.view_is in
    let left = c.requires in
    let fits =
    room_next c.self.inside.streams (vec_len c.self.inside.writes) (vec_len c.forget.new.writes)
    (c.self.inside.threads - c.self.inside.run) (c.self.inside.threads - (c.self.inside.run + 1))
    (vec_capacity c.self.inside.writes)
    (length c.as_slice.result.now) c.self.invariant.writes (omega arith) c.forget.ensures.count most in
    record { room = omega (arith, fits, c.forget.ensures.room) }

pub invariant_of-self : goal.invariant_of-self
invariant_of-self c =
    let f = form c.self.inside.pipe.now in
    let ran : run_view c.run_turn.new.turn ≡ thread f.pipe (arrays_of c.self.inside.turn.memories.items) c.self.inside.turn.next.items =
    c.run_turn.ensures.run ∙ ap (run_all f.pipe.stmts) (c.begin.ensures.run (form c.self.inside.pipe.now) c.self.invariant.runnable c.self.invariant.fit) in
    let most =
    few_lent f c.self.invariant.runnable _ _
    (run_view c.run_turn.new.turn) c.run_turn.new.turn.commits.items c.as_slice.result.now ran refl c.as_slice.ensures.value in
    let run : c.self.inside.run ≡ c.args.self.now.run = ap (λ (r : Running). r.run) c.self.view_is in
    let threads : c.self.inside.threads ≡ c.args.self.now.threads = ap (λ (r : Running). r.threads) c.self.view_is in
    let left = c.requires in
    let kept =
    room_left c.self.inside.streams (vec_len c.self.inside.writes) (vec_len c.forget.new.writes)
    (c.self.inside.threads - c.self.inside.run) (c.self.inside.threads - (c.self.inside.run + 1))
    (vec_capacity c.self.inside.writes)
    (length c.as_slice.result.now) c.self.invariant.writes (omega arith) c.forget.ensures.count most in
    let same : rooms c.run_turn.new.turn ≡ rooms c.self.inside.turn = c.run_turn.ensures.rooms ∙ c.begin.ensures.rooms in
    record {
      runnable = c.self.invariant.runnable;
      fit = c.run_turn.ensures.fit;
      next = subst (λ (r : Rooms). length f.pipe.start ≤ r.next) (sym same) c.self.invariant.next;
      commits = subst (λ (r : Rooms). 32 ≤ r.commits) (sym same) c.self.invariant.commits;
      writes =
          room_same c.self.inside.streams (vec_len c.tell.new.writes)
          (vec_len c.forget.new.writes + length c.as_slice.result.now)
          (c.self.inside.threads - (c.self.inside.run + 1)) (vec_capacity c.tell.new.writes)
          (vec_capacity c.self.inside.writes) kept
          c.tell.ensures.count (c.tell.ensures.room ∙ c.forget.ensures.room);
      count = omega arith;
      told =
          told_more f.pipe
          (c.self.inside.run + 1) c.forget.new.writes.items c.tell.new.writes.items c.as_slice.result.now c.run_turn.new.turn.commits.items c.tell.ensures.writes c.as_slice.ensures.value
          (told_less f.pipe c.self.inside.streams c.self.inside.writes.items c.forget.new.writes.items c.forget.ensures.writes c.self.invariant.told) c.run_turn.ensures.fit.fitting.commits;
    }

pub returns-clause-run : goal.returns-clause-run
returns-clause-run c = λ image h.
    let p = (form c.self.inside.pipe.now).pipe in
    let k = c.self.inside.run in
    let old = subst (λ (r : Running). HasRun r image) (sym c.self.view_is) h in
    let start = arrays_of image in
    let more : k + 1 ≡ suc k = omega arith in
    let arrays = arrays_of c.self.inside.turn.memories.items in
    let args = c.self.inside.turn.next.items in
    let ran : run_view c.run_turn.new.turn ≡ thread p arrays args =
    c.run_turn.ensures.run ∙ ap (run_all p.stmts) (c.begin.ensures.run (form c.self.inside.pipe.now) c.self.invariant.runnable c.self.invariant.fit) in
    record {
      writes =
          told_next p start k (k + 1) more arrays args
          (run_view c.run_turn.new.turn) old.memories old.next ran c.self.inside.streams c.self.inside.writes.items c.tell.new.writes.items old.writes
          (c.tell.ensures.writes
          ∙ ap₂
          (λ (ws : List Write) (cs : List r_commit.Commit). ws
          ++ map (numbered_write (k + 1)) (commits_view cs)) c.forget.ensures.writes c.as_slice.ensures.value);
      memories = arrays_next p start k (k + 1) more arrays args (run_view c.run_turn.new.turn) old.memories old.next ran;
      next = args_next p start k (k + 1) more arrays args (run_view c.run_turn.new.turn) old.memories old.next ran;
    }

pub returns-clause-advice : goal.returns-clause-advice
returns-clause-advice c image other h differ m =
    same_seq (form c.self.inside.pipe.now).pipe (arrays_of image) (arrays_of other) c.self.invariant.runnable.sound.advice differ m (c.self.inside.run + 1)

pub returns-clause-updates : goal.returns-clause-updates
returns-clause-updates c image h m = seq_alike (form c.self.inside.pipe.now).pipe (arrays_of image) m (c.self.inside.run + 1)
