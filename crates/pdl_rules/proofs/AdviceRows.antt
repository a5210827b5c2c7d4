-- Advisory memories: pipes that are accepted, and for each rule on them some that break it; computed.
use Rattle.std.specs.Prelude.{◌≡◌, ℕ, List, [], ◌∷◌, ◌++◌, Option, Some, None, refl}
use Rattle.pdl_kit.specs.declared.rule.Rule.{Rule}
use Rattle.pdl_kit.specs.declared.rule.Rule.TheVariants.{F4, F5, L1, P1}
use Rattle.pdl_semantics.specs.Tree.{W, Pipe}
use Rattle.pdl_rules.specs.Places.{places}
use Rattle.pdl_rules.specs.Refusal.{Refused, refusal, broken_line}
use Rattle.pdl_rules.proofs.Texts.{literal, constant, variable, slice, plus, Line, separator, choice, bind, read, delayed_read, write, reserve, block, release, call, spec_call, update, verify, spec_check, param, comb, slow, advisory, queue, whole}

-- a pipe with an advisory memory t, a locked memory m and a delayed one d, of 4 words of 8 bits, whose guess is the sum of its argument and of what is learnt in t; `guess` stands behind the read of t, and `last` behind the verify
abbrev predicting : Line → List Line → List Line → Pipe
predicting checked guess last =
    whole (param "n" 8 ∷ []) (advisory 2 "t" 8 4 ∷ comb 2 "m" 8 4 (queue 1) ∷ slow 2 "d" 8 4 (queue 1) ∷ [])
    (spec_check ∷ bind "a" (slice "n" 1 0) ∷ read "g" "t" "a" ∷ guess ++ separator ∷ bind "u" (plus (variable "n") (constant 8 2)) ∷ separator ∷ checked ∷ last)
    (literal 8 0 ∷ [])

-- what refuses it
abbrev predicted : Line → List Line → List Line → Option Refused
predicted checked guess last = refusal [] (predicting checked guess last)

-- where it breaks the rule on advice, whatever else it breaks
abbrev advice_broken : Pipe → Option ℕ
advice_broken p = broken_line P1 p [] (places p)

abbrev guess : Line
guess = spec_call "s" (plus (variable "n") (variable "g") ∷ [])

abbrev right : Line
right = verify "s" (variable "u" ∷ [])

abbrev learn : Line
learn = write "t" "a" (constant 8 2)

abbrev commit : List Line
commit = reserve "m" "a" W ∷ block "m" "a" ∷ write "m" "a" (variable "n") ∷ release "m" "a" ∷ []

abbrev at_line : ℕ → Option Refused
at_line k = Some (record { rule = P1; line = k })

abbrev other : Rule → ℕ → Option Refused
other r k = Some (record { rule = r; line = k })

learnt : predicted right (guess ∷ []) (learn ∷ commit) ≡ None
learnt = refl

-- an advised variable, and one that is bound by it, in guesses, in bindings, and in reads and writes of advisory memories
advised_in_guess : predicted right (bind "h" (plus (variable "g") (constant 8 1)) ∷ spec_call "s" (variable "h" ∷ []) ∷ []) (learn ∷ commit) ≡ None
advised_in_guess = refl

advised_address : predicted right (bind "b" (slice "g" 1 0) ∷ read "h" "t" "b" ∷ write "t" "b" (variable "h") ∷ guess ∷ []) [] ≡ None
advised_address = refl

-- in a verify
advised_verify : predicted (verify "s" (plus (variable "u") (variable "g") ∷ [])) (guess ∷ []) (learn ∷ commit) ≡ at_line 10
advised_verify = refl

-- in an update, which replaces the guess; the verify is refused as ever
advised_update : predicted right (guess ∷ separator ∷ update "s" (variable "g" ∷ []) ∷ []) commit ≡ None
advised_update = refl

advised_update_and_verify : predicted (verify "s" (variable "g" ∷ [])) (guess ∷ separator ∷ update "s" (variable "g" ∷ []) ∷ []) commit ≡ at_line 12
advised_update_and_verify = refl

advised_condition : predicted right (bind "c" (slice "g" 0 0) ∷ choice "c" [] [] ∷ guess ∷ []) commit ≡ at_line 7
advised_condition = refl

advised_value : predicted right (guess ∷ []) (reserve "m" "a" W ∷ block "m" "a" ∷ write "m" "a" (variable "g") ∷ release "m" "a" ∷ []) ≡ at_line 13
advised_value = refl

advised_place : predicted right (bind "b" (slice "g" 1 0) ∷ guess ∷ []) (reserve "m" "b" W ∷ block "m" "b" ∷ write "m" "b" (variable "n") ∷ release "m" "b" ∷ []) ≡ at_line 12
advised_place = refl

-- the address of a write is asked by itself, also where no reservation of it is there to be asked first
advised_write : advice_broken (predicting right (bind "b" (slice "g" 1 0) ∷ guess ∷ []) (write "m" "b" (variable "n") ∷ [])) ≡ Some 12
advised_write = refl

advised_call : predicted (bind "w" (variable "g")) (call (variable "g" ∷ []) ∷ []) [] ≡ at_line 6
advised_call = refl

-- reads after writes, and two writes of one word: no rule of locks speaks of such a memory
read_after_write : predicted right (guess ∷ learn ∷ read "h" "t" "a" ∷ []) (learn ∷ []) ≡ None
read_after_write = refl

-- no reserve, block or release of it, and no delayed read
advisory_reserve : predicted right (guess ∷ []) (reserve "t" "a" W ∷ commit) ≡ other F5 11
advisory_reserve = refl

advisory_block : predicted right (guess ∷ []) (block "t" "a" ∷ commit) ≡ other F5 11
advisory_block = refl

advisory_release : predicted right (guess ∷ []) (release "t" "a" ∷ commit) ≡ other F5 11
advisory_release = refl

advisory_delayed : predicted right (guess ∷ delayed_read "h" "t" "a" ∷ []) commit ≡ other F4 7
advisory_delayed = refl

-- a write of a memory with a lock needs its hold as ever
unblocked : predicted right (guess ∷ []) (write "m" "a" (variable "n") ∷ []) ≡ other L1 11
unblocked = refl
