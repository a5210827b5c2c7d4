-- What each address has, while lines are taken one after another.
use Rattle.std.specs.Prelude.{◌≡◌, ℕ, ℤ, pos, negsuc, nat_lt, Bool, false, ◌&&◌, List, [], map, slice_index_or, slice_set, Option, Some, None, is_some, Result, Ok, Err, if◌then◌else◌}
use Rattle.std.specs.List.{range_with_len}
use Rattle.pdl_kit.specs.declared.rule.Rule.{Rule}
use Rattle.pdl_asm_table.specs.Tables.{TableValue}
use Rattle.pdl_asm.specs.Values.{Labels}
use Rattle.pdl_asm.specs.Assembly.{Placed, addresses, first_wrong, written_word}
use Rattle.pdl_asm.specs.declared.asm_error.AsmError.{AsmError}
use Rattle.pdl_asm.specs.declared.asm_error.AsmError.TheVariants.{Refused, NoMemory}

-- the words that lines write at the addresses
unfoldable pub slots_of : TableValue → Labels → List Placed → List (Option ℕ)
slots_of t labels before = map (written_word t labels before) (range_with_len 0 addresses)

-- a place is an address that has a word
abbrev pub is_taken_in : List (Option ℕ) → ℤ → Bool
is_taken_in slots (pos n) = nat_lt n 65536 && is_some (slice_index_or slots n None)
is_taken_in slots (negsuc n) = false

-- what each address has with a word more, if it is one and its place an address
abbrev pub with_word : List (Option ℕ) → ℤ → Option ℕ → List (Option ℕ)
with_word slots place None = slots
with_word slots (pos n) (Some w) = if nat_lt n 65536 then slice_set slots n (Some w) else slots
with_word slots (negsuc n) (Some w) = slots

-- the refusal of a line with this number for the rule that it breaks, unless memory ran out
abbrev pub IsRefusal : Option Rule → ℕ → AsmError → Type 0
IsRefusal broken number NoMemory = Unit {0}
IsRefusal broken number (Refused rule line) = (broken ≡ Some rule) × (line ≡ number)

-- the lines were taken one after another: each address has the word that they write, or the first wrong line is the answer
abbrev pub AreWritten : TableValue → Labels → List Placed → Result (List (Option ℕ)) AsmError → Type 0
AreWritten t labels ps (Ok slots) = (first_wrong t labels [] 1 ps ≡ None) × (slots ≡ slots_of t labels ps)
AreWritten t labels ps (Err NoMemory) = Unit {0}
AreWritten t labels ps (Err (Refused rule line)) = first_wrong t labels [] 1 ps ≡ Some (Refused rule line)
