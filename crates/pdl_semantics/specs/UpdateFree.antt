-- A source without its `update` statements: it does what the source does, only later.
use Rattle.std.specs.Prelude.{◌≡◌, ℕ, Bool, List}
use Rattle.pdl_semantics.specs.Tree.{Stmt, Separator, CombRead, Bind, SpecCall, DelayedRead, Write, Reserve, Block, Release, If, Call, Verify, Update, SpecCheck, SpecBarrier, Stmts, Nil, Cons, Pipe}
use Rattle.pdl_semantics.specs.Flat.{Arrays, Commit}
use Rattle.pdl_semantics.specs.Flatten.{flat}
use Rattle.pdl_semantics.specs.Sequential.{seqwrites}
use Rattle.pdl_semantics.specs.Cycle.{turns, commits}
use Rattle.pdl_semantics.specs.Promises.{IsPrefix}

abbrev mutual
  -- a statement before others, without the updates in it; an update itself is left out
  pub with_before : Stmt → Stmts → Stmts
  with_before (Update _ guess args) rest = rest
  with_before (If span c when otherwise) rest = Cons (If span c (update_free when) (update_free otherwise)) rest
  with_before (Separator span) rest = Cons (Separator span) rest
  with_before (CombRead span x from) rest = Cons (CombRead span x from) rest
  with_before (Bind span x e) rest = Cons (Bind span x e) rest
  with_before (SpecCall span guess args) rest = Cons (SpecCall span guess args) rest
  with_before (DelayedRead span x from) rest = Cons (DelayedRead span x from) rest
  with_before (Write span to e) rest = Cons (Write span to e) rest
  with_before (Reserve span at kind) rest = Cons (Reserve span at kind) rest
  with_before (Block span at) rest = Cons (Block span at) rest
  with_before (Release span at) rest = Cons (Release span at) rest
  with_before (Call span args) rest = Cons (Call span args) rest
  with_before (Verify span guess args) rest = Cons (Verify span guess args) rest
  with_before (SpecCheck span) rest = Cons (SpecCheck span) rest
  with_before (SpecBarrier span) rest = Cons (SpecBarrier span) rest

  -- the statements but for the updates, in branches too
  pub update_free : Stmts → Stmts
  update_free Nil = Nil
  update_free (Cons s ss) = with_before s (update_free ss)

-- the source without its updates
abbrev pub without_update : Pipe → Pipe
without_update p = record p { body = update_free p.body }

-- updates change nothing but how soon: without them the threads write the same, and what both commit to a memory, each with any replies, begins one list
pub record UpdatesAreIdle (p : Pipe) (image : Arrays) (schedule replies : List (List Bool)) : Type 0 where
  pub writes : (m k : ℕ) → seqwrites (flat (without_update p)) image m k ≡ seqwrites (flat p) image m k
  pub commits : (m : ℕ) → (all : List Commit)
      × IsPrefix (commits m (turns (flat p) image schedule)) all × IsPrefix (commits m (turns (flat (without_update p)) image replies)) all
