-- Widths: rules W1 to W6, and F5. The widths of expressions are always defined.
use Rattle.std.specs.Prelude.{ℕ, ◌+◌, ◌^◌, Bool, true, false, not, ◌||◌, ◌==◌, nat_eq, nat_lt, nat_le, List, [], ◌∷◌, ◌++◌, map, fold, count_by, if◌then◌else◌, bytes_eq, Option, Some, None}
use Rattle.std.specs.Cmp.Lexicographic.{pointwise}
use Rattle.std.specs.List.{list_any}
use Rattle.pdl_semantics.specs.Tree.{Literal, Expr, Constant, Variable, Slice, Not, Binary, Cat, LessSigned, ZeroExtend, SignExtend, Choose, Location, Stmt, Separator, CombRead, Bind, SpecCall, DelayedRead, Write, Reserve, Block, Release, If, Call, Verify, Update, SpecCheck, SpecBarrier, Param, Mem, Pipe}
use Rattle.pdl_semantics.specs.Flatten.{Var, var_width, mem_width, width_of, is_advisory_mem, is_advised}
use Rattle.pdl_rules.specs.Places.{Place, Parameter, Memory, Statement, End, StartClause, at_statement, places}
use Rattle.pdl_rules.specs.Forms.{of_if, writes}
use Rattle.pdl_rules.specs.Parts.{NoExpressions, One, Arguments, Expressions, parts_of, some_part, some_expr, some_literal, some_location}
use Rattle.pdl_rules.specs.Limits.{depths}
use Rattle.pdl_semantics.specs.Words.{widest}

-- VARIABLES

-- the variables and one more, unless it is defined already
abbrev pub with_variable : List Var → List ℕ → ℕ → Bool → List Var
with_variable vs x w advised = if list_any (λ (v : Var). bytes_eq x v.name) vs then vs else vs ++ record { name = x; width = w; advised = advised } ∷ []

-- the variables after a statement: a binding has its expression's width, a read its memory's
abbrev pub after_statement : List Mem → List Var → Stmt → List Var
after_statement ms vs (Separator _) = vs
after_statement ms vs (CombRead _ x at) = with_variable vs x.name (mem_width ms at.mem.name) (is_advisory_mem ms at.mem.name)
after_statement ms vs (Bind _ x e) = with_variable vs x.name (width_of vs e) (is_advised vs e)
after_statement ms vs (SpecCall _ _ _) = vs
after_statement ms vs (DelayedRead _ x at) = with_variable vs x.name (mem_width ms at.mem.name) false
after_statement ms vs (Write _ _ _) = vs
after_statement ms vs (Reserve _ _ _) = vs
after_statement ms vs (Block _ _) = vs
after_statement ms vs (Release _ _) = vs
after_statement ms vs (If _ _ _ _) = vs
after_statement ms vs (Call _ _) = vs
after_statement ms vs (Verify _ _ _) = vs
after_statement ms vs (Update _ _ _) = vs
after_statement ms vs (SpecCheck _) = vs
after_statement ms vs (SpecBarrier _) = vs

-- the variables after a place
abbrev pub after_place : List Mem → List Var → Place → List Var
after_place ms vs (Parameter a) = with_variable vs a.name.name a.width.value false
after_place ms vs (Memory _) = vs
after_place ms vs (Statement s _) = after_statement ms vs s
after_place ms vs (End _) = vs
after_place ms vs (StartClause _) = vs

-- the variables of a pipe with their widths, each by its first definition in the text
abbrev pub variables : Pipe → List Var
variables p = fold (after_place p.mems) [] (places p)

-- EXPRESSIONS

-- whether an expression has operands, or arms of a choice, of two widths
abbrev pub is_unequal : List Var → Expr → Bool
is_unequal vs (Constant _) = false
is_unequal vs (Variable _) = false
is_unequal vs (Slice _ _ _) = false
is_unequal vs (Not _) = false
is_unequal vs (Binary _ a b) = not (width_of vs a == width_of vs b)
is_unequal vs (Cat _ _) = false
is_unequal vs (LessSigned a b) = not (width_of vs a == width_of vs b)
is_unequal vs (ZeroExtend _ _) = false
is_unequal vs (SignExtend _ _) = false
is_unequal vs (Choose _ a b) = not (width_of vs a == width_of vs b)

-- W1 at a place: an expression with operands, or arms of a choice, of two widths
abbrev pub breaks_w1 : Pipe → Place → Bool
breaks_w1 p x = some_expr (some_part (is_unequal (variables p))) x

-- whether a literal is too large for its width
abbrev pub is_too_large : Literal → Bool
is_too_large l = too_large l.value
  where
    too_large : Option ℕ → Bool
    too_large None = true
    too_large (Some v) = nat_le (2 ^ l.width) v

-- whether an extension from one width to another is to less, or to more than the widest word has
abbrev pub is_no_extension : ℕ → ℕ → Bool
is_no_extension w n = nat_lt n w || nat_lt widest n

-- whether an expression is a slice that isn't there, a wrong extension, or more bits side by side than the widest word has
abbrev pub is_out_of_range : List Var → Expr → Bool
is_out_of_range vs (Constant _) = false
is_out_of_range vs (Variable _) = false
is_out_of_range vs (Slice x high low) = nat_lt high.value low.value || nat_le (var_width vs x.name) high.value
is_out_of_range vs (Not _) = false
is_out_of_range vs (Binary _ _ _) = false
is_out_of_range vs (Cat a b) = nat_lt widest (width_of vs a + width_of vs b)
is_out_of_range vs (LessSigned _ _) = false
is_out_of_range vs (ZeroExtend a n) = is_no_extension (width_of vs a) n.value
is_out_of_range vs (SignExtend a n) = is_no_extension (width_of vs a) n.value
is_out_of_range vs (Choose _ _ _) = false

-- W2 at a place: a literal that is too large for its width, or an expression that is out of range
abbrev pub breaks_w2 : Pipe → Place → Bool
breaks_w2 p x = some_literal is_too_large x || some_expr (some_part (is_out_of_range (variables p))) x

-- whether an expression is a choice on a condition that isn't one bit
abbrev pub is_wide_choice : List Var → Expr → Bool
is_wide_choice vs (Constant _) = false
is_wide_choice vs (Variable _) = false
is_wide_choice vs (Slice _ _ _) = false
is_wide_choice vs (Not _) = false
is_wide_choice vs (Binary _ _ _) = false
is_wide_choice vs (Cat _ _) = false
is_wide_choice vs (LessSigned _ _) = false
is_wide_choice vs (ZeroExtend _ _) = false
is_wide_choice vs (SignExtend _ _) = false
is_wide_choice vs (Choose c _ _) = not (width_of vs c == 1)

-- whether a place is an `if` on a condition that isn't one bit
abbrev pub is_wide_if : List Var → Place → Bool
is_wide_if vs x = at_statement false (λ s bs. of_if false (λ from c. not (width_of vs c == 1)) s) x

-- W3 at a place: the condition of an `if`, or of a choice, isn't one bit
abbrev pub breaks_w3 : Pipe → Place → Bool
breaks_w3 p x = is_wide_if (variables p) x || some_expr (some_part (is_wide_choice (variables p))) x

-- STATEMENTS

-- the depth of a memory by its name
abbrev pub mem_depth : List Mem → List ℕ → ℕ
mem_depth [] m = 0
mem_depth (x ∷ xs) m = if bytes_eq x.name.name m then x.depth.value else mem_depth xs m

-- the bits of an address: of the depths 2, 4, 8 and so on, as many aren't over this one
abbrev pub address_bits : ℕ → ℕ
address_bits d = count_by (λ n. nat_le n d) depths

-- whether the address of a location hasn't its memory's address bits
abbrev pub is_wrong_address : Pipe → Location → Bool
is_wrong_address p at = not (var_width (variables p) at.address.name == address_bits (mem_depth p.mems at.mem.name))

-- W4 at a place: a location whose address hasn't its memory's address bits
abbrev pub breaks_w4 : Pipe → Place → Bool
breaks_w4 p x = some_location (is_wrong_address p) x

-- whether these widths aren't those of the parameters, one for each
abbrev pub are_no_arguments : Pipe → List ℕ → Bool
are_no_arguments p ws = not (pointwise nat_eq ws (map (λ (a : Param). a.width.value) p.params))

-- whether expressions are arguments that don't have the parameters' number and widths
abbrev pub has_wrong_arguments : Pipe → Expressions → Bool
has_wrong_arguments p NoExpressions = false
has_wrong_arguments p (One e) = false
has_wrong_arguments p (Arguments es) = are_no_arguments p (map (width_of (variables p)) es)

-- W5 at a place: arguments, of a statement or of the start, that don't have the parameters' number and widths
abbrev pub breaks_w5 : Pipe → Place → Bool
breaks_w5 p (Parameter _) = false
breaks_w5 p (Memory _) = false
breaks_w5 p (Statement s _) = has_wrong_arguments p (parts_of s).expressions
breaks_w5 p (End _) = false
breaks_w5 p (StartClause s) = are_no_arguments p (map (λ (l : Literal). l.width) s.args)

-- W6 at a place: a write of a value that hasn't its memory's width
abbrev pub breaks_w6 : Pipe → Place → Bool
breaks_w6 p x =
    at_statement false (λ s bs. writes (λ at e. not (width_of (variables p) e == mem_width p.mems at.mem.name)) s) x
