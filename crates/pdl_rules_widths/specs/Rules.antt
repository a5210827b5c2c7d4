-- The rules on widths of a place, where the variables, the memories and the parameters are told.
use Rattle.std.specs.Prelude.{◌≡◌, ℕ, Bool, false, not, ◌||◌, ◌==◌, nat_eq, List, map}
use Rattle.std.specs.Cmp.Lexicographic.{pointwise}
use Rattle.pdl_semantics.specs.Tree.{Literal, Location, Param, Mem}
use Rattle.pdl_semantics.specs.Flatten.{Var, var_width, mem_width, width_of}
use Rattle.pdl_rules.specs.Places.{Place, Parameter, Memory, Statement, End, StartClause, at_statement}
use Rattle.pdl_rules.specs.Forms.{writes}
use Rattle.pdl_rules.specs.Parts.{Expressions, NoExpressions, One, Arguments, parts_of, some_part, some_expr, some_literal, some_location}
use Rattle.pdl_rules.specs.Widths.{address_bits, mem_depth, is_unequal, is_too_large, is_out_of_range, is_wide_if, is_wide_choice}
use Rattle.pdl_rules_widths.specs.declared.faults.Faults.{Faults}

-- an address that hasn't its memory's address bits
abbrev pub is_wrong_address : List Var → List Mem → Location → Bool
is_wrong_address vs ms at = not (var_width vs at.address.name == address_bits (mem_depth ms at.mem.name))

-- arguments that aren't as many as the parameters, or have other widths
abbrev pub are_wrong : List Param → List ℕ → Bool
are_wrong params ws = not (pointwise nat_eq ws (map (λ (a : Param). a.width.value) params))

-- whether expressions are arguments that don't have the parameters' number and widths
abbrev pub are_wrong_arguments : List Var → List Param → Expressions → Bool
are_wrong_arguments vs params NoExpressions = false
are_wrong_arguments vs params (One e) = false
are_wrong_arguments vs params (Arguments es) = are_wrong params (map (width_of vs) es)

-- whether the arguments at a place, of a statement or of the start, don't have the parameters' number and widths
abbrev pub has_wrong_arguments : List Var → List Param → Place → Bool
has_wrong_arguments vs params (Parameter _) = false
has_wrong_arguments vs params (Memory _) = false
has_wrong_arguments vs params (Statement s _) = are_wrong_arguments vs params (parts_of s).expressions
has_wrong_arguments vs params (End _) = false
has_wrong_arguments vs params (StartClause s) = are_wrong params (map (λ (l : Literal). l.width) s.args)

-- a written value that hasn't its memory's width
abbrev pub is_wrong_value : List Var → List Mem → Place → Bool
is_wrong_value vs ms x =
    at_statement false (λ s bs. writes (λ at e. not (width_of vs e == mem_width ms at.mem.name)) s) x

-- the rules that a place breaks
pub record AreFaults (vs : List Var) (ms : List Mem) (params : List Param) (x : Place) (f : Faults) : Type 0 where
  pub w1 : f.w1 ≡ some_expr (some_part (is_unequal vs)) x
  pub w2 : f.w2 ≡ (some_literal is_too_large x || some_expr (some_part (is_out_of_range vs)) x)
  pub w3 : f.w3 ≡ (is_wide_if vs x || some_expr (some_part (is_wide_choice vs)) x)
  pub w4 : f.w4 ≡ some_location (is_wrong_address vs ms) x
  pub w5 : f.w5 ≡ has_wrong_arguments vs params x
  pub w6 : f.w6 ≡ is_wrong_value vs ms x
