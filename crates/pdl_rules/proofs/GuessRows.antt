-- Guesses: pipes that are accepted, and for each rule some that break it; computed.
use Rattle.std.specs.Prelude.{◌≡◌, ℕ, List, [], ◌∷◌, ◌++◌, Option, Some, None, refl}
use Rattle.pdl_kit.specs.declared.rule.Rule.{Rule}
use Rattle.pdl_kit.specs.declared.rule.Rule.TheVariants.{N1, N2, N3, S1, S2, S3, S4, S5, S6, S7}
use Rattle.pdl_semantics.specs.Tree.{ZeroExtend, R, W}
use Rattle.pdl_rules.specs.Refusal.{Refused, refusal}
use Rattle.pdl_rules.proofs.Texts.{number, constant, variable, slice, plus, Line, separator, choice, bind, write, reserve, block, release, call, spec_call, verify, update, spec_check, spec_barrier, pipe}

-- the refusal of a short source with this body, which begins on line 3
abbrev of_body : List Line → Option Refused
of_body body = refusal [] (pipe body)

abbrev at_line : Rule → ℕ → Option Refused
at_line r k = Some (record { rule = r; line = k })

-- an address, a value, a condition; the guess and its verify
abbrev a : Line
a = bind "a" (slice "n" 1 0)

abbrev v : Line
v = bind "v" (ZeroExtend (variable "n") (number 8))

abbrev g : Line
g = bind "g" (slice "n" 0 0)

abbrev guess : Line
guess = spec_call "s" (plus (variable "n") (constant 4 1) ∷ [])

abbrev verified : Line
verified = verify "s" (plus (variable "n") (constant 4 1) ∷ [])

guessed : of_body (spec_check ∷ guess ∷ separator ∷ verified ∷ []) ≡ None
guessed = refl

-- NAMES

no_guess : of_body (spec_check ∷ guess ∷ separator ∷ verified ∷ verify "t" (variable "n" ∷ []) ∷ []) ≡ at_line N1 7
no_guess = refl

-- a variable is no guess
variable_verified : of_body (g ∷ spec_check ∷ guess ∷ separator ∷ verify "g" (variable "n" ∷ []) ∷ []) ≡ at_line N1 7
variable_verified = refl

verified_before : of_body (verified ∷ separator ∷ spec_check ∷ guess ∷ []) ≡ at_line N3 3
verified_before = refl

guessed_on_one_path : of_body (g ∷ choice "g" (spec_check ∷ guess ∷ []) [] ∷ separator ∷ verified ∷ []) ≡ at_line N3 6
guessed_on_one_path = refl

-- VERIFIES

called_too : of_body (spec_check ∷ guess ∷ call (variable "n" ∷ []) ∷ separator ∷ verified ∷ []) ≡ at_line S1 5
called_too = refl

never_verified : of_body (spec_check ∷ guess ∷ separator ∷ []) ≡ at_line S2 4
never_verified = refl

verified_twice : of_body (spec_check ∷ guess ∷ separator ∷ verified ∷ verified ∷ []) ≡ at_line S2 4
verified_twice = refl

verified_at_once : of_body (spec_check ∷ guess ∷ verified ∷ []) ≡ at_line S2 4
verified_at_once = refl

verified_on_one_path : of_body (g ∷ spec_check ∷ guess ∷ separator ∷ choice "g" (verified ∷ []) [] ∷ []) ≡ at_line S2 5
verified_on_one_path = refl

verified_on_each_path : of_body (g ∷ spec_check ∷ guess ∷ separator ∷ choice "g" (verified ∷ []) (verified ∷ []) ∷ []) ≡ None
verified_on_each_path = refl

verified_in_two_stages : of_body (g ∷ spec_check ∷ guess ∷ separator ∷ choice "g" (verified ∷ []) [] ∷ separator ∷ choice "g" [] (verified ∷ []) ∷ [])
    ≡ at_line S3 29
verified_in_two_stages = refl

-- BARRIERS AND CHECKS

-- reserved, written and released in the stage of the guess
abbrev written : List Line
written = reserve "m" "a" W ∷ block "m" "a" ∷ write "m" "a" (variable "v") ∷ release "m" "a" ∷ []

released_unsure : of_body (a ∷ v ∷ spec_check ∷ written ++ guess ∷ separator ∷ verified ∷ []) ≡ at_line S4 9
released_unsure = refl

released_after_barrier : of_body (a ∷ v ∷ spec_barrier ∷ written ++ guess ∷ separator ∷ verified ∷ []) ≡ None
released_after_barrier = refl

barrier_on_one_path : of_body (a ∷ v ∷ g ∷ spec_check ∷ choice "g" (spec_barrier ∷ []) [] ∷ written ++ guess ∷ separator ∷ verified ∷ [])
    ≡ at_line S4 11
barrier_on_one_path = refl

-- the release of a read reservation changes nothing
read_released : of_body (a ∷ spec_check ∷ reserve "m" "a" R ∷ block "m" "a" ∷ release "m" "a" ∷ guess ∷ separator ∷ verified ∷ []) ≡ None
read_released = refl

-- in the stage of the verifies the release is sure
released_with_verify : of_body (a ∷ v ∷ spec_check ∷ guess ∷ separator ∷ verified ∷ written) ≡ None
released_with_verify = refl

guess_unchecked : of_body (guess ∷ separator ∷ verified ∷ []) ≡ at_line S5 3
guess_unchecked = refl

checked_a_stage_before :
    of_body (a ∷ spec_check ∷ guess ∷ separator ∷ reserve "m" "a" R ∷ separator ∷ verified ∷ block "m" "a" ∷ release "m" "a" ∷ []) ≡ at_line S5 7
checked_a_stage_before = refl

checked_on_one_path : of_body (g ∷ choice "g" (spec_check ∷ []) [] ∷ guess ∷ separator ∷ verified ∷ []) ≡ at_line S5 5
checked_on_one_path = refl

checked_after : of_body (guess ∷ spec_check ∷ separator ∷ verified ∷ []) ≡ at_line S5 3
checked_after = refl

-- UPDATES

abbrev again : Line
again = update "s" (plus (variable "n") (constant 4 2) ∷ [])

updated : of_body (spec_check ∷ guess ∷ separator ∷ again ∷ separator ∷ verified ∷ []) ≡ None
updated = refl

updated_nothing : of_body (spec_check ∷ again ∷ guess ∷ separator ∷ verified ∷ []) ≡ at_line N3 4
updated_nothing = refl

-- an update in the stage of its guess, and one in the stage of the verify
updated_at_once : of_body (spec_check ∷ guess ∷ again ∷ separator ∷ verified ∷ []) ≡ at_line S6 5
updated_at_once = refl

updated_with_verify : of_body (spec_check ∷ guess ∷ separator ∷ again ∷ verified ∷ []) ≡ at_line S6 6
updated_with_verify = refl

updated_twice : of_body (spec_check ∷ guess ∷ separator ∷ again ∷ again ∷ separator ∷ verified ∷ []) ≡ at_line S6 7
updated_twice = refl

updated_on_each_path : of_body (g ∷ spec_check ∷ guess ∷ separator ∷ choice "g" (again ∷ []) (again ∷ []) ∷ separator ∷ verified ∷ []) ≡ None
updated_on_each_path = refl

-- updates of two paths in two stages
updated_in_two_stages :
    of_body (g ∷ spec_check ∷ guess ∷ separator ∷ choice "g" (again ∷ []) [] ∷ separator ∷ choice "g" [] (again ∷ []) ∷ separator ∷ verified ∷ [])
    ≡ at_line S7 29
updated_in_two_stages = refl

-- a guess needs a name of its own
guess_named_again : of_body (a ∷ spec_check ∷ spec_call "a" (plus (variable "n") (constant 4 1) ∷ []) ∷ separator ∷ verify "a" (variable "n" ∷ []) ∷ [])
    ≡ at_line N2 5
guess_named_again = refl

-- what stands in a branch is checked on the paths through it alone
checked_in_branch :
    of_body (a ∷ g ∷ choice "g" (spec_check ∷ reserve "m" "a" R ∷ []) [] ∷ spec_check ∷ guess ∷ separator ∷ verified
    ∷ choice "g" (block "m" "a" ∷ release "m" "a" ∷ []) [] ∷ [])
    ≡ None
checked_in_branch = refl
