-- The places of a source in text order, and its paths: the ways in which its `if`s can go.
use Rattle.std.specs.Prelude.{ℕ, suc, Bool, true, false, not, ◌&&◌, List, [], ◌∷◌, ◌++◌, map, filter, fold, drop, length, if◌then◌else◌, ◌==◌, bytes_eq}
use Rattle.std.specs.List.{list_any, list_all}
use Rattle.pdl_semantics.specs.Tree.{Span, Expr, Constant, Variable, Slice, Not, Binary, Cat, LessSigned, ZeroExtend, SignExtend, Choose, Stmt, Separator, CombRead, Bind, SpecCall, DelayedRead, Write, Reserve, Block, Release, If, Call, Verify, Update, SpecCheck, SpecBarrier, Stmts, Nil, Cons, Param, Mem, Start, Pipe}
use Rattle.pdl_rules.specs.Forms.{of_if}

-- GUARDS

-- what decides an `if`: a variable, with every other `if` on that variable, or a condition of its own, known by the byte at which its `if` begins
pub data Guard : Type 0 where
  Shared : (name : List ℕ) → Guard
  Own : (at : ℕ) → Guard

-- the guard of an `if`, by where it stands and by its condition
abbrev pub guard_of : Span → Expr → Guard
guard_of s (Constant _) = Own s.start
guard_of s (Variable x) = Shared x.name
guard_of s (Slice _ _ _) = Own s.start
guard_of s (Not _) = Own s.start
guard_of s (Binary _ _ _) = Own s.start
guard_of s (Cat _ _) = Own s.start
guard_of s (LessSigned _ _) = Own s.start
guard_of s (ZeroExtend _ _) = Own s.start
guard_of s (SignExtend _ _) = Own s.start
guard_of s (Choose _ _ _) = Own s.start

-- whether two guards are the same: one variable, or conditions whose `if`s begin at one byte
abbrev pub same_guard : Guard → Guard → Bool
same_guard (Shared x) (Shared y) = bytes_eq x y
same_guard (Own m) (Own n) = m == n
same_guard (Shared _) (Own _) = false
same_guard (Own _) (Shared _) = false

-- whether a guard is one of these
abbrev pub is_among : Guard → List Guard → Bool
is_among g gs = list_any (same_guard g) gs

-- a branch: it is taken where the guard has this truth value; and the statements inside it
pub record Branch : Type 0 where
  pub guard : Guard
  pub truth : Bool
  pub inside : Stmts

-- PLACES

-- a part of a source that a rule can name; a statement comes with the branches that it stands in, the outermost first
pub data Place : Type 0 where
  Parameter : (param : Param) → Place
  Memory : (mem : Mem) → Place
  Statement : (stmt : Stmt) (branches : List Branch) → Place
  End : (at : Span) → Place
  StartClause : (start : Start) → Place

-- what is told of a statement in its branches; of any other place the same
abbrev pub at_statement : {T : Type 0} → T → (Stmt → List Branch → T) → Place → T
at_statement other told (Parameter _) = other
at_statement other told (Memory _) = other
at_statement other told (Statement s bs) = told s bs
at_statement other told (End _) = other
at_statement other told (StartClause _) = other

abbrev mutual
  -- the place of a statement in these branches, and after it those of what stands inside it
  pub with_inner : List Branch → Stmt → List Place
  with_inner bs (Separator s) = Statement (Separator s) bs ∷ []
  with_inner bs (CombRead s x at) = Statement (CombRead s x at) bs ∷ []
  with_inner bs (Bind s x e) = Statement (Bind s x e) bs ∷ []
  with_inner bs (SpecCall s g args) = Statement (SpecCall s g args) bs ∷ []
  with_inner bs (DelayedRead s x at) = Statement (DelayedRead s x at) bs ∷ []
  with_inner bs (Write s at e) = Statement (Write s at e) bs ∷ []
  with_inner bs (Reserve s at k) = Statement (Reserve s at k) bs ∷ []
  with_inner bs (Block s at) = Statement (Block s at) bs ∷ []
  with_inner bs (Release s at) = Statement (Release s at) bs ∷ []
  with_inner bs (If s c when otherwise) =
      Statement (If s c when otherwise) bs
      ∷ (statements (bs ++ record { guard = guard_of s c; truth = true; inside = when } ∷ []) when
      ++ statements (bs ++ record { guard = guard_of s c; truth = false; inside = otherwise } ∷ []) otherwise)
  with_inner bs (Call s args) = Statement (Call s args) bs ∷ []
  with_inner bs (Verify s g args) = Statement (Verify s g args) bs ∷ []
  with_inner bs (Update s g args) = Statement (Update s g args) bs ∷ []
  with_inner bs (SpecCheck s) = Statement (SpecCheck s) bs ∷ []
  with_inner bs (SpecBarrier s) = Statement (SpecBarrier s) bs ∷ []

  -- the places of some statements in these branches, in text order
  pub statements : List Branch → Stmts → List Place
  statements bs Nil = []
  statements bs (Cons s ss) = with_inner bs s ++ statements bs ss

-- all places in text order
abbrev pub places : Pipe → List Place
places p =
    map Parameter p.params
    ++ map Memory p.mems
    ++ statements [] p.body
    ++ End p.end ∷ StartClause p.start ∷ []

-- the places after one that has these before it
abbrev pub places_after : Pipe → List Place → List Place
places_after p before = drop (suc (length before)) (places p)

-- where a statement stands
abbrev pub span_of : Stmt → Span
span_of (Separator s) = s
span_of (CombRead s _ _) = s
span_of (Bind s _ _) = s
span_of (SpecCall s _ _) = s
span_of (DelayedRead s _ _) = s
span_of (Write s _ _) = s
span_of (Reserve s _ _) = s
span_of (Block s _) = s
span_of (Release s _) = s
span_of (If s _ _ _) = s
span_of (Call s _) = s
span_of (Verify s _ _) = s
span_of (Update s _ _) = s
span_of (SpecCheck s) = s
span_of (SpecBarrier s) = s

-- the line of a place's first token
abbrev pub line_of : Place → ℕ
line_of (Parameter a) = a.name.span.line
line_of (Memory m) = m.name.span.line
line_of (Statement s _) = (span_of s).line
line_of (End s) = s.line
line_of (StartClause s) = s.span.line

-- PATHS

-- the guards of these places, each once
abbrev pub with_guard : List Guard → Place → List Guard
with_guard gs x =
    at_statement gs (λ s bs. of_if gs (λ from c. if is_among (guard_of from c) gs then gs else gs ++ guard_of from c ∷ []) s) x

-- the guards of places in text order, each once
abbrev pub guards : List Place → List Guard
guards xs = fold with_guard [] xs

-- all choices of some of these guards
abbrev pub choices : List Guard → List (List Guard)
choices [] = [] ∷ []
choices (g ∷ gs) = choices gs ++ map (λ c. g ∷ c) (choices gs)

-- each path, as the guards that are true on it
abbrev pub paths : Pipe → List (List Guard)
paths p = choices (guards (places p))

-- whether two truth values are the same
abbrev pub same_truth : Bool → Bool → Bool
same_truth true b = b
same_truth false b = not b

-- whether a path takes a branch
abbrev pub is_taken : List Guard → Branch → Bool
is_taken path b = same_truth b.truth (is_among b.guard path)

-- whether a path leads through a place
abbrev pub on_path : List Guard → Place → Bool
on_path path x = at_statement true (λ s bs. list_all (is_taken path) bs) x

-- whether some path leads through the place x where what stands before x on that path passes the test
abbrev pub on_some_path : (List Place → Bool) → Pipe → List Place → Place → Bool
on_some_path test p before x = list_any (λ path. on_path path x && test (filter (on_path path) before)) (paths p)
