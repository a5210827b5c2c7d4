-- Which variables, and which marks of locations, the rows from a stage on still use.
use Rattle.std.specs.Prelude.{ℕ, Bool, false, ◌==◌, ◌&&◌, ◌||◌, List, [], ◌∷◌, nat_le, drop}
use Rattle.pdl_semantics.specs.Flat.{Expr, Op, Bind, CombRead, DelayedRead, Write, ReserveRead, ReserveWrite, Block, Release, Call, SpecCall, Verify, SpecCheck, SpecBarrier, AdviceBind, AdviceRead, AdviceWrite, Guard, Stmt, Next, Ends, Goes, Forks, Stage, Pipe}
use Rattle.pdl_semantics.specs.Stages.{list_any, is_verify}
use Rattle.pdl_source_stages.specs.Facts.{uses_in, uses_any}
use Rattle.pdl_law_parts.specs.declared.Mark.{Mark}
use Rattle.pdl_law_parts.specs.declared.Mark.TheVariants.{Held, Late}

-- whether an expression uses a variable
abbrev pub uses_var : Expr → ℕ → Bool
uses_var e x = uses_in x e

-- one of these expressions uses a variable
abbrev pub are_using : List Expr → ℕ → Bool
are_using es x = uses_any x es

-- whether a statement uses a variable; a write and a release find their location without its address, an advised write doesn't
abbrev pub op_uses : Op → ℕ → Bool
op_uses (Bind y e) x = uses_var e x
op_uses (CombRead y m a) x = a == x
op_uses (DelayedRead y m a) x = a == x
op_uses (Write m a e) x = uses_var e x
op_uses (ReserveRead _ _) x = false
op_uses (ReserveWrite m a) x = a == x
op_uses (Block m a) x = a == x
op_uses (Release _ _) x = false
op_uses (Call args) x = are_using args x
op_uses (SpecCall args) x = are_using args x
op_uses (Verify last args) x = are_using args x
op_uses SpecCheck x = false
op_uses SpecBarrier x = false
op_uses (AdviceBind y e) x = uses_var e x
op_uses (AdviceRead y m a) x = a == x
op_uses (AdviceWrite m a e) x = (a == x) || uses_var e x

-- one of these guards is by the variable
abbrev pub guards_use : List Guard → ℕ → Bool
guards_use [] x = false
guards_use (g ∷ gs) x = (g.var == x) || guards_use gs x

-- a row uses a variable, by a guard or by what it does
abbrev pub row_uses : Stmt → ℕ → Bool
row_uses r x = guards_use r.guards x || op_uses r.op x

-- whether a stage forks by a variable
abbrev pub forks_by : Next → ℕ → Bool
forks_by Ends x = false
forks_by (Goes _) x = false
forks_by (Forks y first second) x = y == x

-- a row or a fork of a stage from k on uses the variable
abbrev pub lives_from : Pipe → ℕ → ℕ → Bool
lives_from p k x = list_any (λ (r : Stmt). nat_le k r.stage && row_uses r x) p.stmts || list_any (λ (s : Stage). forks_by s.next x) (drop k p.stages)

-- a row asks whether a location is held
abbrev pub asks_held : Op → ℕ → ℕ → Bool
asks_held (Bind _ _) m a = false
asks_held (CombRead _ _ _) m a = false
asks_held (DelayedRead _ _ _) m a = false
asks_held (Write _ _ _) m a = false
asks_held (ReserveRead _ _) m a = false
asks_held (ReserveWrite _ _) m a = false
asks_held (Block n b) m a = (n == m) && (b == a)
asks_held (Release n b) m a = (n == m) && (b == a)
asks_held (Call _) m a = false
asks_held (SpecCall _) m a = false
asks_held (Verify _ _) m a = false
asks_held SpecCheck m a = false
asks_held SpecBarrier m a = false
asks_held (AdviceBind _ _) m a = false
asks_held (AdviceRead _ _ _) m a = false
asks_held (AdviceWrite _ _ _) m a = false

-- a row asks whether the reservation of a location is the second one: its write goes by that
abbrev pub asks_late : Op → ℕ → ℕ → Bool
asks_late (Bind _ _) m a = false
asks_late (CombRead _ _ _) m a = false
asks_late (DelayedRead _ _ _) m a = false
asks_late (Write n b _) m a = (n == m) && (b == a)
asks_late (ReserveRead _ _) m a = false
asks_late (ReserveWrite _ _) m a = false
asks_late (Block _ _) m a = false
asks_late (Release _ _) m a = false
asks_late (Call _) m a = false
asks_late (SpecCall _) m a = false
asks_late (Verify _ _) m a = false
asks_late SpecCheck m a = false
asks_late SpecBarrier m a = false
asks_late (AdviceBind _ _) m a = false
asks_late (AdviceRead _ _ _) m a = false
asks_late (AdviceWrite _ _ _) m a = false

-- a row asks for a mark of a location
abbrev pub asks_mark : Mark → Op → ℕ → ℕ → Bool
asks_mark Held op m a = asks_held op m a
asks_mark Late op m a = asks_late op m a

-- one of a stage from k on does
abbrev pub mark_from : Pipe → ℕ → Mark → ℕ → ℕ → Bool
mark_from p k mark m a = list_any (λ (r : Stmt). nat_le k r.stage && asks_mark mark r.op m a) p.stmts

-- a row of a stage from k on verifies the guess; an update of it stands before that
abbrev pub verifies_from : Pipe → ℕ → Bool
verifies_from p k = list_any (λ (r : Stmt). nat_le k r.stage && is_verify r.op) p.stmts
