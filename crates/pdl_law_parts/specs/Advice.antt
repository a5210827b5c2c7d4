-- What is advised in a pipe: the variables that get what advisory memories say. Guesses, updates of these and what is advisory itself use them, and nothing else does.
use Rattle.std.specs.Prelude.{◌≡◌, ℕ, Bool, true, false, ◌==◌, ◌||◌, List}
use Rattle.pdl_word.specs.Each.{Each}
use Rattle.pdl_semantics.specs.Flat.{Op, Bind, CombRead, DelayedRead, Write, ReserveRead, ReserveWrite, Block, Release, Call, SpecCall, Verify, SpecCheck, SpecBarrier, AdviceBind, AdviceRead, AdviceWrite, Stmt, Pipe, is_advisory}
use Rattle.pdl_semantics.specs.Stages.{list_any, mem_at, stage_at}
use Rattle.pdl_semantics.specs.Machine.{Kept}
use Rattle.pdl_law_parts.specs.Lives.{uses_var, are_using, guards_use, forks_by}
use Rattle.pdl_law_parts.specs.Walk.{is_locked}

-- whether a statement binds the variable to what is advised
abbrev pub advises_var : Op → ℕ → Bool
advises_var (AdviceBind y e) x = y == x
advises_var (AdviceRead y m a) x = y == x
advises_var (AdviceWrite _ _ _) x = false
advises_var (Bind _ _) x = false
advises_var (CombRead _ _ _) x = false
advises_var (DelayedRead _ _ _) x = false
advises_var (Write _ _ _) x = false
advises_var (ReserveRead _ _) x = false
advises_var (ReserveWrite _ _) x = false
advises_var (Block _ _) x = false
advises_var (Release _ _) x = false
advises_var (Call _) x = false
advises_var (SpecCall _) x = false
advises_var (Verify _ _) x = false
advises_var SpecCheck x = false
advises_var SpecBarrier x = false

-- whether a variable of the pipe is advised: some statement binds it so
abbrev pub is_advised_in : Pipe → ℕ → Bool
is_advised_in p x = list_any (λ (r : Stmt). advises_var r.op x) p.stmts

-- whether a statement binds the variable, or uses it, as one that isn't advised
abbrev pub op_plainly : Op → ℕ → Bool
op_plainly (Bind y e) x = (y == x) || uses_var e x
op_plainly (CombRead y m a) x = (y == x) || (a == x)
op_plainly (DelayedRead y m a) x = (y == x) || (a == x)
op_plainly (Write m a e) x = uses_var e x
op_plainly (ReserveRead _ _) x = false
op_plainly (ReserveWrite m a) x = a == x
op_plainly (Block m a) x = a == x
op_plainly (Release _ _) x = false
op_plainly (Call args) x = are_using args x
op_plainly (SpecCall _) x = false
op_plainly (Verify true args) x = are_using args x
op_plainly (Verify false _) x = false
op_plainly SpecCheck x = false
op_plainly SpecBarrier x = false
op_plainly (AdviceBind _ _) x = false
op_plainly (AdviceRead _ _ _) x = false
op_plainly (AdviceWrite _ _ _) x = false

-- the same of a statement with its guards
abbrev pub row_plainly : Stmt → ℕ → Bool
row_plainly r x = guards_use r.guards x || op_plainly r.op x

-- no statement binds or uses an advised variable as one that isn't advised, no stage forks by one, and no advisory memory has a lock
pub record IsAdvisedApart (p : Pipe) : Type 0 where
  pub rows : Each (λ (r : Stmt). (x : ℕ) → row_plainly r x ≡ true → is_advised_in p x ≡ false) p.stmts
  pub forks : (k x : ℕ) → forks_by (stage_at p k).next x ≡ true → is_advised_in p x ≡ false
  pub locks : (m : ℕ) → is_locked p m ≡ true → is_advisory (mem_at p m).kind ≡ false

-- each of these values is that of an advised variable
abbrev pub AreAdvised : Pipe → List Kept → Type 0
AreAdvised p ks = Each (λ (q : Kept). is_advised_in p q.var ≡ true) ks
