-- What the parts of the parser ensure.
use Rattle.std.specs.Prelude.{◌≡◌, ◌≢◌, ℕ, List, map, [], ◌∷◌, ◌++◌, Option, Some, None, Result, Ok, Err}
use Rattle.pdl_semantics.specs.Tree.{Span, Ident, Number, Expr, Location, Kind, Stmt, Stmts, Param, LockDecl, MemKind, Mem, Start}
use Rattle.pdl_syntax_grammar.specs.declared.item.GrammarItem.{GrammarItem}
use Rattle.pdl_syntax_grammar.specs.declared.item.GrammarItem.TheVariants.{One, Two}
use Rattle.pdl_syntax_grammar.specs.declared.item.ReservedEnd as r_reserved
use Rattle.pdl_syntax_grammar.specs.declared.item.Held as r_held
use Rattle.pdl_syntax_grammar.specs.declared.item.BranchEnd as r_branch
use Rattle.pdl_syntax_grammar.specs.declared.item.ExprEnd as r_expr_end
use Rattle.pdl_syntax_grammar.specs.declared.item.ArgsEnd as r_args_end
use Rattle.pdl_syntax_grammar.specs.declared.item.AgainstEnd as r_against_end
use Rattle.pdl_syntax_grammar.specs.declared.item.Purpose as r_purpose
use Rattle.pdl_syntax_grammar.specs.declared.item.MemShape as r_shape
use Rattle.pdl_syntax_grammar.specs.declared.item.Keeping as r_keeping
use Rattle.pdl_syntax_grammar.specs.declared.item.Head as r_head
use Rattle.pdl_syntax_grammar.specs.declared.item.Rest as r_rest
use Rattle.pdl_syntax_grammar.specs.declared.item.Bounds as r_bounds
use Rattle.pdl_syntax_grammar.specs.declared.item.Pair as r_pair
use Rattle.pdl_syntax_grammar.specs.declared.item.Sized as r_sized
use Rattle.pdl_syntax_grammar.specs.declared.error.GrammarError.{GrammarError}
use Rattle.pdl_syntax_grammar.specs.declared.error.GrammarError.TheVariants as error
use Rattle.pdl_syntax_grammar.specs.declared.stop.Stop.{Stop}
use Rattle.pdl_syntax_grammar.specs.declared.stop.Stop.TheVariants.{NoMemory as no_memory}
use Rattle.pdl_syntax_tokens.specs.Tokens.{Row}
use Rattle.pdl_syntax_grammar.specs.Grammar.{prepend}
use Rattle.pdl_syntax_grammar.specs.Reading.{Outcome}
use Rattle.pdl_syntax_grammar.specs.Text.{IsText, IsOutOfPlace}
use Rattle.pdl_syntax_tree.specs.declared.tree.Pipe as r_pipe
use Rattle.pdl_syntax_tree.specs.View.{span_view, ident_view, number_view, kind_view, location_view, expr_view, stmt_view, stmts_view, param_view, maybe_lock_view, mem_kind_view, mem_view, start_view, pipe_view}

-- what is read is what the rule reads, or the tokens left begin with the one that it refuses, unless memory ran out
abbrev pub Reads : {A B : Type 0} → (A → B) → Outcome B → Result A Stop → Row → Type 0
Reads view outcome (Ok a) left = outcome ≡ Ok (view a, left)
Reads view outcome (Err e) left = e ≢ no_memory → outcome ≡ Err left

-- the statements of an item
abbrev pub item_view : GrammarItem → List Stmt
item_view (One s) = stmt_view s ∷ []
item_view (Two s t) = stmt_view s ∷ stmt_view t ∷ []

-- an expression, and where the semicolon stands
abbrev pub expr_end_view : r_expr_end.ExprEnd → Expr × Span
expr_end_view v = (expr_view v.e, span_view v.end)

-- arguments, and where the semicolon stands
abbrev pub args_end_view : r_args_end.ArgsEnd → List Expr × Span
args_end_view v = (map expr_view v.args, span_view v.end)

-- a guess, the arguments that it is held against, and where the semicolon stands
abbrev pub against_end_view : r_against_end.AgainstEnd → Ident × List Expr × Span
against_end_view v = (ident_view v.guess, map expr_view v.args, span_view v.end)

-- what a location is reserved for, and where the semicolon stands
abbrev pub purpose_view : r_purpose.Purpose → Kind × Span
purpose_view v = (kind_view v.kind, span_view v.end)

-- a location, what it is reserved for, and where the semicolon stands
abbrev pub reserved_view : r_reserved.ReservedEnd → Location × Kind × Span
reserved_view v = (location_view v.at, kind_view v.kind, span_view v.end)

-- a location, and where the semicolon stands
abbrev pub held_view : r_held.Held → Location × Span
held_view v = (location_view v.at, span_view v.end)

-- the statements of a branch, and where its closing brace stands
abbrev pub branch_view : r_branch.BranchEnd → Stmts × Span
branch_view v = (stmts_view v.stmts, span_view v.end)

-- the two numbers of a slice
abbrev pub bounds_view : r_bounds.Bounds → Number × Number
bounds_view v = (number_view v.high, number_view v.low)

-- two expressions
abbrev pub pair_view : r_pair.Pair → Expr × Expr
pair_view v = (expr_view v.a, expr_view v.b)

-- an expression and a number
abbrev pub sized_view : r_sized.Sized → Expr × Number
sized_view v = (expr_view v.e, number_view v.width)

-- what stands after the name of a memory
abbrev pub shape_view : r_shape.MemShape → Number × Number × MemKind × Option LockDecl
shape_view v = (number_view v.width, number_view v.depth, mem_kind_view v.kind, maybe_lock_view v.lock)

-- the kind of a memory, and its lock or none
abbrev pub keeping_view : r_keeping.Keeping → MemKind × Option LockDecl
keeping_view v = (mem_kind_view v.kind, maybe_lock_view v.lock)

-- what stands before the body of a pipe
abbrev pub head_view : r_head.Head → Ident × List Param × List Mem
head_view v = (ident_view v.name, map param_view v.params, map mem_view v.mems)

-- a body, where its closing brace stands, and the start clause
abbrev pub rest_view : r_rest.Rest → Stmts × Span × Start
rest_view v = (stmts_view v.body, span_view v.end, start_view v.start)

-- the same of a whole text
abbrev pub ReadsWhole : {A B : Type 0} → (A → B) → Result B Row → Result A Stop → Row → Type 0
ReadsWhole view outcome (Ok a) left = outcome ≡ Ok (view a)
ReadsWhole view outcome (Err e) left = e ≢ no_memory → outcome ≡ Err left

-- the values that were read before, and those of this outcome after them
abbrev pub after : {A : Type 0} → List A → Outcome (List A) → Outcome (List A)
after xs (Ok p) = Ok (xs ++ p.0, p.1)
after xs (Err ts) = Err ts

-- the statements that were read before, and those of this outcome after them
abbrev pub after_stmts : List Stmt → Outcome Stmts → Outcome Stmts
after_stmts ss (Ok p) = Ok (prepend ss p.0, p.1)
after_stmts ss (Err ts) = Err ts

-- the line at hand, or the last
abbrev pub line_at : Option ℕ → ℕ → ℕ
line_at (Some line) last = line
line_at None last = last

-- the tree of the text, or a refusal at the first token out of place
abbrev pub IsRead : List ℕ → Result r_pipe.Pipe GrammarError → Type 0
IsRead bytes (Ok p) = IsText bytes (pipe_view p)
IsRead bytes (Err (error.Misplaced line)) = IsOutOfPlace bytes line
IsRead bytes (Err error.NoMemory) = Unit {0}
