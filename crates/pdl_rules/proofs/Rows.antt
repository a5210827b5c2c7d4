-- A source that is accepted, and for each rule one that breaks it, with the line; computed.
use Prim.Native.String.{String}
use Rattle.std.specs.Prelude.{Bool, true, false, ◌≡◌, ℕ, List, [], ◌∷◌, ◌++◌, map, replicate, Option, Some, None, refl}
use Rattle.pdl_kit.specs.declared.rule.Rule.{Rule}
use Rattle.pdl_kit.specs.declared.rule.Rule.TheVariants.{Z4, Z7, N1, N2, N3, W1, W2, W3, W4, W5, W6, F5, L1, L2, L3, L4, L5, L6, L7, S1}
use Rattle.pdl_semantics.specs.Tree.{ZeroExtend, SignExtend, Cat, Choose, R, W, Pipe}
use Rattle.pdl_rules.specs.Places.{Parameter, Statement}
use Rattle.pdl_rules.specs.Limits.{breaks_z2, breaks_z3, breaks_z5}
use Rattle.pdl_rules.specs.Stages.{breaks_l8}
use Rattle.pdl_rules.specs.Refusal.{Refused, refusal}
use Rattle.pdl_rules.proofs.Texts.{ident, number, literal, constant, variable, slice, plus, Line, separator, choice, bind, read, write, reserve, block, release, call, queue, param, comb, whole, pipe, from_line}

-- the refusal of a short source
abbrev of_pipe : Pipe → Option Refused
of_pipe p = refusal [] p

abbrev at_line : Rule → ℕ → Option Refused
at_line r k = Some (record { rule = r; line = k })

-- the body of a pipe that is accepted: the address, a write through the lock, and the call
abbrev address : Line
address = bind "a" (slice "n" 1 0)

abbrev value : Line
value = bind "v" (ZeroExtend (variable "n") (number 8))

abbrev written : List Line
written = reserve "m" "a" W ∷ block "m" "a" ∷ write "m" "a" (variable "v") ∷ release "m" "a" ∷ []

abbrev next : Line
next = call (plus (variable "n") (constant 4 1) ∷ [])

accepted : of_pipe (pipe (address ∷ value ∷ written ++ next ∷ [])) ≡ None
accepted = refl

-- a read and a write, each with its reservation, and a read of the memory without lock
reads_and_writes :
    of_pipe (pipe (address ∷ reserve "m" "a" R ∷ block "m" "a" ∷ read "x" "m" "a" ∷ read "y" "t" "a" ∷ release "m" "a"
    ∷ bind "b" (slice "n" 3 2) ∷ reserve "m" "b" W ∷ block "m" "b" ∷ write "m" "b" (plus (variable "x") (variable "y")) ∷ release "m" "b" ∷ next ∷ []))
    ≡ None
reads_and_writes = refl

-- LIMITS

seventeen_memories : of_pipe (whole (param "n" 4 ∷ []) (replicate 16 (comb 2 "m" 8 4 None) ++ comb 9 "m" 8 4 None ∷ []) (next ∷ []) (literal 4 0 ∷ []))
    ≡ at_line Z4 9
seventeen_memories = refl

wide_parameter : of_pipe (whole (param "n" 129 ∷ []) [] (next ∷ []) (literal 4 0 ∷ [])) ≡ at_line Z7 1
wide_parameter = refl

no_power_of_two : of_pipe (whole (param "n" 4 ∷ []) (comb 2 "m" 8 4 None ∷ comb 5 "t" 8 6 None ∷ []) (next ∷ []) (literal 4 0 ∷ []))
    ≡ at_line Z7 5
no_power_of_two = refl

no_size : of_pipe (whole (param "n" 4 ∷ []) (comb 2 "m" 8 4 (queue 3) ∷ []) (next ∷ []) (literal 4 0 ∷ [])) ≡ at_line Z7 2
no_size = refl

wide_literal : of_pipe (pipe (address ∷ bind "v" (constant 129 0) ∷ next ∷ [])) ≡ at_line Z7 4
wide_literal = refl

-- a limit is broken by the first place over it, and by no other
first_over : breaks_z2 (replicate 1024 (Statement (next 7) [])) (Statement (next 8) []) ≡ true
first_over = refl

not_yet_over : breaks_z2 (replicate 1023 (Statement (next 7) [])) (Statement (next 8) []) ≡ false
not_yet_over = refl

-- 63 separators cut a pipe into 64 stages
one_separator_too_many : breaks_z3 (replicate 63 (Statement (separator 7) [])) (Statement (separator 8) []) ≡ true
one_separator_too_many = refl

most_separators : breaks_z3 (replicate 62 (Statement (separator 7) [])) (Statement (separator 8) []) ≡ false
most_separators = refl

one_binding_too_many : breaks_z5 (Parameter (param "n" 4) ∷ replicate 511 (Statement (address 7) [])) (Statement (address 8) []) ≡ true
one_binding_too_many = refl

-- NAMES

no_variable : of_pipe (pipe (address ∷ bind "b" (variable "k") ∷ next ∷ [])) ≡ at_line N1 4
no_variable = refl

-- a variable where a memory has to stand
no_memory : of_pipe (pipe (address ∷ read "x" "n" "a" ∷ next ∷ [])) ≡ at_line N1 4
no_memory = refl

twice_defined : of_pipe (pipe (address ∷ bind "b" (variable "n") ∷ address ∷ next ∷ [])) ≡ at_line N2 5
twice_defined = refl

named_as_the_pipe : of_pipe (pipe (bind "p" (variable "n") ∷ next ∷ [])) ≡ at_line N2 3
named_as_the_pipe = refl

-- a name of two kinds breaks the rule on definitions alone
of_two_kinds : of_pipe (pipe (bind "m" (slice "n" 1 0) ∷ read "x" "m" "m" ∷ next ∷ [])) ≡ at_line N2 3
of_two_kinds = refl

used_before : of_pipe (pipe (bind "b" (variable "a") ∷ address ∷ next ∷ [])) ≡ at_line N3 3
used_before = refl

used_in_itself : of_pipe (pipe (bind "b" (variable "b") ∷ next ∷ [])) ≡ at_line N3 3
used_in_itself = refl

-- WIDTHS

unequal : of_pipe (pipe (address ∷ call (plus (variable "n") (constant 8 1) ∷ []) ∷ [])) ≡ at_line W1 4
unequal = refl

too_large : of_pipe (pipe (address ∷ bind "b" (constant 4 16) ∷ next ∷ [])) ≡ at_line W2 4
too_large = refl

too_large_at_start : of_pipe (whole (param "n" 4 ∷ []) [] (next ∷ []) (literal 4 16 ∷ [])) ≡ at_line W2 5
too_large_at_start = refl

slice_past_the_end : of_pipe (pipe (bind "b" (slice "n" 4 0) ∷ next ∷ [])) ≡ at_line W2 3
slice_past_the_end = refl

slice_the_wrong_way : of_pipe (pipe (bind "b" (slice "n" 1 2) ∷ next ∷ [])) ≡ at_line W2 3
slice_the_wrong_way = refl

extended_to_less : of_pipe (pipe (bind "b" (ZeroExtend (variable "n") (number 3)) ∷ next ∷ [])) ≡ at_line W2 3
extended_to_less = refl

extended_too_far : of_pipe (pipe (bind "b" (SignExtend (variable "n") (number 129)) ∷ next ∷ [])) ≡ at_line W2 3
extended_too_far = refl

too_many_together : of_pipe (pipe (bind "b" (ZeroExtend (variable "n") (number 126)) ∷ bind "c" (Cat (variable "b") (variable "n")) ∷ next ∷ []))
    ≡ at_line W2 4
too_many_together = refl

wide_condition : of_pipe (pipe (bind "b" (Choose (variable "n") (variable "n") (variable "n")) ∷ next ∷ [])) ≡ at_line W3 3
wide_condition = refl

wide_address : of_pipe (pipe (read "x" "t" "n" ∷ next ∷ [])) ≡ at_line W4 3
wide_address = refl

too_many_arguments : of_pipe (pipe (call (variable "n" ∷ variable "n" ∷ []) ∷ [])) ≡ at_line W5 3
too_many_arguments = refl

wide_argument_at_start : of_pipe (whole (param "n" 4 ∷ []) [] (next ∷ []) (literal 5 0 ∷ [])) ≡ at_line W5 5
wide_argument_at_start = refl

narrow_value : of_pipe (pipe (address ∷ write "m" "a" (variable "n") ∷ next ∷ [])) ≡ at_line W6 4
narrow_value = refl

-- LOCKS

no_lock : of_pipe (pipe (address ∷ value ∷ reserve "t" "a" R ∷ next ∷ [])) ≡ at_line F5 5
no_lock = refl

write_without_lock : of_pipe (pipe (address ∷ value ∷ write "t" "a" (variable "v") ∷ next ∷ [])) ≡ at_line F5 5
write_without_lock = refl

read_without_block : of_pipe (pipe (address ∷ reserve "m" "a" R ∷ read "x" "m" "a" ∷ block "m" "a" ∷ release "m" "a" ∷ next ∷ []))
    ≡ at_line L1 5
read_without_block = refl

read_of_a_write : of_pipe (pipe (address ∷ reserve "m" "a" W ∷ block "m" "a" ∷ read "x" "m" "a" ∷ next ∷ [])) ≡ at_line L1 6
read_of_a_write = refl

released_twice : of_pipe (pipe (address ∷ value ∷ written ++ release "m" "a" ∷ next ∷ [])) ≡ at_line L1 9
released_twice = refl

late_reservation : of_pipe (pipe (address ∷ value ∷ bind "b" (slice "n" 3 2) ∷ written ++ reserve "m" "b" R ∷ block "m" "b" ∷ release "m" "b" ∷ next ∷ []))
    ≡ at_line L3 10
late_reservation = refl

read_after_write :
    of_pipe (pipe (address ∷ value ∷ bind "b" (slice "n" 3 2) ∷ reserve "m" "b" R ∷ block "m" "b" ∷ written ++ read "x" "m" "b" ∷ release "m" "b" ∷ next ∷ []))
    ≡ at_line L3 12
read_after_write = refl

two_writes :
    of_pipe
    (pipe
    (address ∷ value ∷ bind "b" (slice "n" 3 2) ∷ written
    ++ reserve "m" "b" W ∷ block "m" "b" ∷ write "m" "b" (variable "v") ∷ release "m" "b" ∷ next ∷ []))
    ≡ at_line L4 10
two_writes = refl

-- a pipe with room for this many writes, two of which each thread makes: b is the second address
abbrev two_words : ℕ → List Line → Pipe
two_words size body = whole (param "n" 2 ∷ []) (comb 2 "m" 8 4 (queue size) ∷ []) body (literal 2 0 ∷ [])

abbrev to_both : List Line
to_both =
    bind "b" (plus (variable "n") (constant 2 1)) ∷ bind "z" (ZeroExtend (variable "n") (number 8)) ∷ reserve "m" "n" W
    ∷ reserve "m" "b" W ∷ block "m" "n" ∷ block "m" "b" ∷ []

abbrev into_first : Line
into_first = write "m" "n" (variable "z")

abbrev into_second : Line
into_second = write "m" "b" (plus (variable "z") (constant 8 4))

abbrev after_both : List Line
after_both = release "m" "n" ∷ release "m" "b" ∷ call (plus (variable "n") (constant 2 2) ∷ []) ∷ []

two_words_accepted : of_pipe (two_words 2 (to_both ++ into_first ∷ into_second ∷ after_both)) ≡ None
two_words_accepted = refl

writes_exchanged : of_pipe (two_words 2 (to_both ++ into_second ∷ into_first ∷ after_both)) ≡ at_line L6 9
writes_exchanged = refl

room_for_one : of_pipe (two_words 1 (to_both ++ into_first ∷ into_second ∷ after_both)) ≡ at_line L4 6
room_for_one = refl

third_reserved : of_pipe (two_words 4 (bind "c" (plus (variable "n") (constant 2 3)) ∷ to_both ++ reserve "m" "c" W ∷ into_first ∷ into_second ∷ after_both)) ≡ at_line L4 10
third_reserved = refl

-- the releases may stand in the other order, and the second reservation may follow the first one's release
released_exchanged : of_pipe (two_words 2 (to_both ++ into_first ∷ into_second ∷ release "m" "b" ∷ release "m" "n" ∷ call (plus (variable "n") (constant 2 2) ∷ []) ∷ [])) ≡ None
released_exchanged = refl

one_after_the_other :
    of_pipe (two_words 2 (bind "b" (plus (variable "n") (constant 2 1)) ∷ bind "z" (ZeroExtend (variable "n") (number 8))
    ∷ reserve "m" "n" W ∷ block "m" "n" ∷ into_first ∷ release "m" "n" ∷ reserve "m" "b" W ∷ block "m" "b" ∷ into_second
    ∷ release "m" "b" ∷ call (plus (variable "n") (constant 2 2) ∷ []) ∷ [])) ≡ None
one_after_the_other = refl

reserved_again : of_pipe (pipe (address ∷ reserve "m" "a" R ∷ reserve "m" "a" R ∷ block "m" "a" ∷ release "m" "a" ∷ next ∷ []))
    ≡ at_line L5 5
reserved_again = refl

never_written : of_pipe (pipe (address ∷ reserve "m" "a" W ∷ block "m" "a" ∷ release "m" "a" ∷ next ∷ [])) ≡ at_line L6 6
never_written = refl

written_twice :
    of_pipe
    (pipe (address ∷ value ∷ reserve "m" "a" W ∷ block "m" "a" ∷ write "m" "a" (variable "v") ∷ write "m" "a" (variable "v") ∷ release "m" "a" ∷ next ∷ []))
    ≡ at_line L6 9
written_twice = refl

never_released : of_pipe (pipe (address ∷ reserve "m" "a" R ∷ next ∷ [])) ≡ at_line L7 6
never_released = refl

-- STAGES

-- reserved in the first stage, blocked in the second, written and released in the third
abbrev three_stages : List Line
three_stages = address ∷ value ∷ reserve "m" "a" W ∷ separator ∷ block "m" "a" ∷ next ∷ separator ∷ write "m" "a" (variable "v") ∷ release "m" "a" ∷ []

three_accepted : of_pipe (pipe three_stages) ≡ None
three_accepted = refl

-- two reservations in one stage, two releases in another, with a stage between and a read there
read_between :
    of_pipe (pipe (address ∷ bind "b" (slice "n" 3 2) ∷ reserve "m" "a" R ∷ reserve "m" "b" W ∷ next ∷ separator ∷ block "m" "a" ∷ read "x" "m" "a"
    ∷ separator ∷ block "m" "b" ∷ write "m" "b" (variable "x") ∷ release "m" "b" ∷ release "m" "a" ∷ []))
    ≡ None
read_between = refl

reserved_in_two_stages :
    of_pipe
    (pipe
    (address ∷ bind "b" (slice "n" 3 2) ∷ reserve "m" "a" R ∷ separator ∷ reserve "m" "b" R ∷ block "m" "a"
    ∷ block "m" "b" ∷ release "m" "a" ∷ release "m" "b" ∷ next ∷ []))
    ≡ at_line L2 7
reserved_in_two_stages = refl

released_in_two_stages :
    of_pipe
    (pipe
    (address ∷ bind "b" (slice "n" 3 2) ∷ reserve "m" "a" R ∷ reserve "m" "b" R ∷ block "m" "a" ∷ block "m" "b"
    ∷ release "m" "a" ∷ separator ∷ release "m" "b" ∷ next ∷ []))
    ≡ at_line L2 11
released_in_two_stages = refl

-- whether a read of the memory after these statements breaks L8
abbrev is_late : String → List Line → Bool
is_late m body = breaks_l8 (pipe (body ++ read "x" m "a" ∷ [])) (map (λ s. Statement s []) (from_line 3 body)) (Statement (read "x" m "a" 9) [])

after_release : is_late "m" (reserve "m" "a" R ∷ release "m" "a" ∷ separator ∷ []) ≡ true
after_release = refl

-- in the stage of the releases a read is in time, and so it is before them, and of a memory without lock
with_release : is_late "m" (reserve "m" "a" R ∷ separator ∷ release "m" "a" ∷ []) ≡ false
with_release = refl

never_released_yet : is_late "m" (reserve "m" "a" R ∷ separator ∷ []) ≡ false
never_released_yet = refl

without_lock : is_late "t" (release "t" "a" ∷ separator ∷ []) ≡ false
without_lock = refl

-- CALLS

two_calls : of_pipe (pipe (next ∷ address ∷ next ∷ [])) ≡ at_line S1 5
two_calls = refl

no_call : of_pipe (pipe (address ∷ [])) ≡ at_line S1 4
no_call = refl

-- PATHS

-- what one branch leaves out is missing on its path
blocked_on_one_path :
    of_pipe (pipe (address ∷ bind "g" (slice "n" 0 0) ∷ reserve "m" "a" R ∷ choice "g" (block "m" "a" ∷ []) [] ∷ release "m" "a" ∷ next ∷ [])) ≡ at_line L1 7
blocked_on_one_path = refl

-- two choices on one variable go the same way
same_way :
    of_pipe (pipe (address ∷ bind "g" (slice "n" 0 0)
    ∷ choice "g" (reserve "m" "a" R ∷ []) [] ∷ choice "g" (block "m" "a" ∷ release "m" "a" ∷ []) [] ∷ next ∷ []))
    ≡ None
same_way = refl

defined_on_one_path :
    of_pipe (pipe (bind "g" (slice "n" 0 0) ∷ choice "g" (address ∷ []) [] ∷ read "x" "t" "a" ∷ next ∷ [])) ≡ at_line N3 5
defined_on_one_path = refl

-- ORDER

-- of two rules of one letter the lower, though its place is later
lower_rule_first : of_pipe (pipe (bind "b" (constant 4 16) ∷ call (plus (variable "n") (constant 8 1) ∷ []) ∷ [])) ≡ at_line W1 4
lower_rule_first = refl

-- of two places the lower
lower_place_first : of_pipe (pipe (bind "b" (constant 4 16) ∷ bind "c" (constant 4 17) ∷ next ∷ [])) ≡ at_line W2 3
lower_place_first = refl

-- of two letters the earlier
earlier_letter_first : of_pipe (pipe (bind "b" (constant 4 16) ∷ next ∷ bind "c" (variable "k") ∷ next ∷ [])) ≡ at_line N1 5
earlier_letter_first = refl

-- NO OTHER ROW

-- a use on no path needs a definition before it in the text too
used_on_no_path :
    of_pipe (pipe (bind "g" (slice "n" 0 0) ∷ choice "g" (choice "g" [] (bind "x" (variable "y") ∷ []) ∷ []) [] ∷ bind "y" (variable "n") ∷ next ∷ []))
    ≡ at_line N3 34
used_on_no_path = refl

-- a start clause stands where it begins, also with its name on another line
abbrev wrong_start : Pipe
wrong_start = whole (param "n" 4 ∷ []) [] (next ∷ []) (literal 4 16 ∷ [])

start_over_two_lines : of_pipe (record wrong_start { start = record wrong_start.start { name = ident 6 "p" } }) ≡ at_line W2 5
start_over_two_lines = refl

-- a slice the wrong way, and bits side by side that are too many, have one bit, so that beside one bit they break W2 and no W1
wrong_slice_has_a_bit : of_pipe (pipe (bind "b" (plus (slice "n" 1 2) (constant 1 1)) ∷ next ∷ [])) ≡ at_line W2 3
wrong_slice_has_a_bit = refl

wide_cat_has_a_bit :
    of_pipe (pipe (bind "b" (ZeroExtend (variable "n") (number 126)) ∷ bind "c" (plus (Cat (variable "b") (variable "n")) (constant 1 1)) ∷ next ∷ []))
    ≡ at_line W2 4
wide_cat_has_a_bit = refl
