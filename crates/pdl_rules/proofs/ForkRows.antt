-- Forks and delayed reads: pipes that are accepted, and for each rule some that break it; computed.
use Rattle.std.specs.Prelude.{◌≡◌, ℕ, List, [], ◌∷◌, Option, Some, None, refl}
use Rattle.pdl_kit.specs.declared.rule.Rule.{Rule}
use Rattle.pdl_kit.specs.declared.rule.Rule.TheVariants.{N3, F1, F2, F3, F4, L2, L8}
use Rattle.pdl_semantics.specs.Tree.{ZeroExtend, R, W}
use Rattle.pdl_rules.specs.Refusal.{Refused, refusal}
use Rattle.pdl_rules.proofs.Texts.{number, literal, constant, variable, slice, plus, Line, separator, choice, bind, read, delayed_read, write, reserve, block, release, call, spec_check, queue, param, comb, slow, whole}

-- the refusal of a short source with this body, which begins on line 3; m is a comb memory with a lock, t one without, d and q are delayed, q with a lock
abbrev of_body : List Line → Option Refused
of_body body =
    refusal []
    (whole (param "n" 4 ∷ [])
    (comb 2 "m" 8 4 (queue 4) ∷ comb 2 "t" 8 4 None ∷ slow 2 "d" 8 4 None ∷ slow 2 "q" 8 4 (queue 4) ∷ []) body (literal 4 0 ∷ []))

abbrev at_line : Rule → ℕ → Option Refused
at_line r k = Some (record { rule = r; line = k })

-- two addresses, a value, a condition, and the call
abbrev a : Line
a = bind "a" (slice "n" 1 0)

abbrev b : Line
b = bind "b" (slice "n" 3 2)

abbrev v : Line
v = bind "v" (ZeroExtend (variable "n") (number 8))

abbrev g : Line
g = bind "g" (slice "n" 0 0)

abbrev next : Line
next = call (plus (variable "n") (constant 4 1) ∷ [])

-- FORKS

forked :
    of_body (a ∷ v ∷ g ∷ reserve "m" "a" W ∷ next ∷ choice "g" (separator ∷ []) (separator ∷ separator ∷ []) ∷ separator
    ∷ block "m" "a" ∷ write "m" "a" (variable "v") ∷ release "m" "a" ∷ [])
    ≡ None
forked = refl

released_in_branch :
    of_body (a ∷ g ∷ reserve "m" "a" R ∷ block "m" "a" ∷ next ∷ choice "g" (separator ∷ release "m" "a" ∷ []) (separator ∷ []) ∷ separator ∷ [])
    ≡ at_line F1 19
released_in_branch = refl

-- at any depth
call_deep_inside : of_body (g ∷ choice "g" (separator ∷ choice "g" (next ∷ []) [] ∷ []) [] ∷ separator ∷ next ∷ []) ≡ at_line F1 25
call_deep_inside = refl

-- each branch by its own text
check_in_other_branch : of_body (g ∷ next ∷ choice "g" (spec_check ∷ []) (separator ∷ []) ∷ separator ∷ []) ≡ None
check_in_other_branch = refl

not_followed : of_body (g ∷ next ∷ choice "g" (separator ∷ []) [] ∷ a ∷ separator ∷ []) ≡ at_line F2 5
not_followed = refl

fork_at_end : of_body (g ∷ next ∷ choice "g" [] (separator ∷ []) ∷ []) ≡ at_line F2 5
fork_at_end = refl

-- a fork in a branch of another, after the branch's first separator
abbrev inner : List Line → List Line
inner body = choice "g" (separator ∷ body) [] ∷ separator ∷ []

fork_after_separator : of_body (g ∷ next ∷ inner (inner [])) ≡ None
fork_after_separator = refl

fork_of_level_four : of_body (g ∷ next ∷ inner (inner (inner (inner [])))) ≡ None
fork_of_level_four = refl

fork_of_level_five : of_body (g ∷ next ∷ inner (inner (inner (inner (inner []))))) ≡ at_line F2 49
fork_of_level_five = refl

-- the separator after the outer fork doesn't follow the inner one, nor does one in the other branch
inner_fork_not_followed : of_body (g ∷ next ∷ choice "g" (separator ∷ choice "g" (separator ∷ []) [] ∷ []) [] ∷ separator ∷ []) ≡ at_line F2 16
inner_fork_not_followed = refl

followed_in_other_branch : of_body (g ∷ next ∷ choice "g" (separator ∷ choice "g" (separator ∷ []) [] ∷ []) (separator ∷ []) ∷ separator ∷ []) ≡ at_line F2 16
followed_in_other_branch = refl

fork_in_branch : of_body (g ∷ next ∷ choice "g" (choice "g" (separator ∷ []) [] ∷ separator ∷ []) [] ∷ separator ∷ []) ≡ at_line F2 15
fork_in_branch = refl

-- DELAYED READS

read_in_last_stage : of_body (a ∷ next ∷ separator ∷ delayed_read "x" "d" "a" ∷ []) ≡ at_line F3 6
read_in_last_stage = refl

read_before_merge : of_body (a ∷ g ∷ next ∷ choice "g" (separator ∷ delayed_read "x" "d" "a" ∷ []) [] ∷ separator ∷ []) ≡ None
read_before_merge = refl

second_read : of_body (a ∷ delayed_read "x" "d" "a" ∷ delayed_read "y" "d" "a" ∷ next ∷ separator ∷ []) ≡ at_line F3 5
second_read = refl

-- of a comb memory too
second_of_comb : of_body (a ∷ delayed_read "x" "t" "a" ∷ delayed_read "y" "t" "a" ∷ next ∷ separator ∷ []) ≡ at_line F3 5
second_of_comb = refl

comb_of_delayed : of_body (a ∷ read "x" "d" "a" ∷ next ∷ []) ≡ at_line F4 4
comb_of_delayed = refl

delayed_of_comb : of_body (a ∷ delayed_read "x" "t" "a" ∷ next ∷ separator ∷ []) ≡ at_line F4 4
delayed_of_comb = refl

-- what is read is there after the next separator
used_at_once : of_body (a ∷ delayed_read "x" "d" "a" ∷ bind "y" (variable "x") ∷ next ∷ separator ∷ []) ≡ at_line N3 5
used_at_once = refl

used_in_next_stage : of_body (a ∷ delayed_read "x" "d" "a" ∷ next ∷ separator ∷ bind "y" (variable "x") ∷ []) ≡ None
used_in_next_stage = refl

-- on the path
used_in_branch : of_body (a ∷ g ∷ next ∷ delayed_read "x" "d" "a" ∷ choice "g" (separator ∷ bind "y" (variable "x") ∷ []) [] ∷ separator ∷ [])
    ≡ None
used_in_branch = refl

used_in_other_branch :
    of_body (a ∷ g ∷ next ∷ delayed_read "x" "d" "a" ∷ choice "g" (separator ∷ []) (bind "y" (variable "x") ∷ []) ∷ separator ∷ []) ≡ at_line N3 27
used_in_other_branch = refl

-- STAGES

-- the second branch of the fork stands in the fork's stage, though a separator stands before it
reserved_in_second_branch :
    of_body (a ∷ b ∷ g ∷ reserve "m" "a" R ∷ next ∷ choice "g" (separator ∷ []) (reserve "m" "b" R ∷ []) ∷ separator
    ∷ block "m" "a" ∷ choice "g" [] (block "m" "b" ∷ []) ∷ release "m" "a" ∷ choice "g" [] (release "m" "b" ∷ []) ∷ [])
    ≡ None
reserved_in_second_branch = refl

reserved_after_fork :
    of_body (a ∷ b ∷ g ∷ reserve "m" "a" R ∷ next ∷ choice "g" (separator ∷ []) [] ∷ separator ∷ reserve "m" "b" R
    ∷ block "m" "a" ∷ block "m" "b" ∷ release "m" "a" ∷ release "m" "b" ∷ [])
    ≡ at_line L2 10
reserved_after_fork = refl

bound_in_time : of_body (a ∷ reserve "q" "a" R ∷ block "q" "a" ∷ delayed_read "x" "q" "a" ∷ next ∷ separator ∷ release "q" "a" ∷ []) ≡ None
bound_in_time = refl

bound_late : of_body (a ∷ reserve "q" "a" R ∷ block "q" "a" ∷ delayed_read "x" "q" "a" ∷ release "q" "a" ∷ next ∷ separator ∷ [])
    ≡ at_line L8 6
bound_late = refl

-- by path: bound in the branch's stage, or in the merge, where the release stands
bound_by_path :
    of_body (a ∷ g ∷ reserve "q" "a" R ∷ block "q" "a" ∷ next ∷ delayed_read "x" "q" "a" ∷ choice "g" (separator ∷ separator ∷ []) [] ∷ separator
    ∷ release "q" "a" ∷ [])
    ≡ None
bound_by_path = refl

-- a release under a condition, before the next separator
bound_under_choice :
    of_body (a ∷ g ∷ next ∷ choice "g" (reserve "q" "a" R ∷ block "q" "a" ∷ delayed_read "x" "q" "a" ∷ []) [] ∷ separator
    ∷ choice "g" (release "q" "a" ∷ []) [] ∷ [])
    ≡ None
bound_under_choice = refl
