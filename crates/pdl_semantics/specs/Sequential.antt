-- The sequential meaning of a pipe (PLDI 2022, "PDL: a high-level hardware design language for pipelined processors"): threads one after another on plain arrays, with no stages, locks, guesses or clock.
use Rattle.std.specs.Prelude.{ℕ, zero, suc, true, false, List, [], ◌∷◌, ◌++◌, if◌then◌else◌, slice_index, slice_set}
use Rattle.pdl_semantics.specs.Flat.{Arrays, Op, Bind, CombRead, DelayedRead, Write, ReserveRead, ReserveWrite, Block, Release, Call, SpecCall, Verify, SpecCheck, SpecBarrier, Stmt, Pipe, value_of, values_of, all_hold, start_env, word_at, with_word, Commit, of_mem, AdviceBind, AdviceRead, AdviceWrite}

-- a thread on its way: the arrays, its variables, its writes so far, and the next thread's arguments
pub record Run : Type 0 where
  pub arrays : Arrays
  pub env : List ℕ
  pub writes : List Commit
  pub next : List ℕ

-- one statement: a read looks in the array and a write changes it at once; reservations, blocks, releases and guesses do nothing
abbrev pub run_after : Op → Run → Run
run_after (Bind x e) r = record r { env = slice_set r.env x (value_of e r.env) }
run_after (CombRead x m a) r = record r { env = slice_set r.env x (word_at r.arrays m (slice_index r.env a)) }
run_after (DelayedRead x m a) r = record r { env = slice_set r.env x (word_at r.arrays m (slice_index r.env a)) }
run_after (Write m a e) r =
    record r {
      arrays = with_word r.arrays m (slice_index r.env a) (value_of e r.env);
      writes = r.writes ++ record { mem = m; address = slice_index r.env a; value = value_of e r.env } ∷ [];
    }
run_after (Call args) r = record r { next = values_of args r.env }
run_after (Verify true args) r = record r { next = values_of args r.env }
run_after (Verify false args) r = r
run_after (ReserveRead m a) r = r
run_after (ReserveWrite m a) r = r
run_after (Block m a) r = r
run_after (Release m a) r = r
run_after (SpecCall args) r = r
run_after SpecCheck r = r
run_after SpecBarrier r = r
run_after (AdviceBind x e) r = r
run_after (AdviceRead x m a) r = r
run_after (AdviceWrite m a e) r = r

-- the statements in text order, those whose guards hold
abbrev pub run_all : List Stmt → Run → Run
run_all [] r = r
run_all (x ∷ xs) r = run_all xs (if all_hold x.guards r.env then run_after x.op r else r)

-- a whole thread, from its arguments
abbrev pub thread : Pipe → Arrays → List ℕ → Run
thread p arrays args = run_all p.stmts (record { arrays = arrays; env = start_env p args; writes = []; next = [] })

-- the writes of each of k threads, one after another from these arrays and arguments
abbrev pub threads_from : Pipe → ℕ → Arrays → List ℕ → List (List Commit)
threads_from p zero arrays args = []
threads_from p (suc k) arrays args = let r = thread p arrays args in r.writes ∷ threads_from p k r.arrays r.next

-- the writes of each of the first k threads
abbrev pub threads : Pipe → Arrays → ℕ → List (List Commit)
threads p image k = threads_from p k image p.start

-- all writes of k threads from these arrays and arguments
abbrev pub writes_from : Pipe → ℕ → Arrays → List ℕ → List Commit
writes_from p zero arrays args = []
writes_from p (suc k) arrays args = let r = thread p arrays args in r.writes ++ writes_from p k r.arrays r.next

-- the writes to m of the first k threads
abbrev pub seqwrites : Pipe → Arrays → ℕ → ℕ → List Commit
seqwrites p image m k = of_mem m (writes_from p k image p.start)

-- the arrays and the next arguments after k threads from these
abbrev pub turn_at : Pipe → Arrays → List ℕ → ℕ → Run
turn_at p arrays args zero = record { arrays = arrays; env = []; writes = []; next = args }
turn_at p arrays args (suc k) = thread p (turn_at p arrays args k).arrays (turn_at p arrays args k).next

-- the arrays and the next arguments after the first k threads
abbrev pub after_turns : Pipe → Arrays → ℕ → Run
after_turns p image k = turn_at p image p.start k
