-- The table that a TOML text is.
use Rattle.std.specs.Prelude.{◌≡◌, ℕ, ℤ, pos, negsuc, ◌+◌, ◌^◌, ◌==◌, nat_le, nat_lt, Bool, true, not, ◌&&◌, List, [], ◌∷◌, filter, Option, Some, None, is_some, Result, Ok, Err, bytes_eq, codes, option_and_then, option_map, if◌then◌else◌}
use Rattle.std.specs.List.{list_any}
use Rattle.std.specs.Str.{is_utf8}
use Rattle.toml.specs.Data.{Data, Items, no_items, item, Members, no_members, member, get_member, as_str, as_integer, as_array, as_table}
use Rattle.toml.specs.Parse.{parse_document}
use Rattle.pdl_kit.specs.declared.rule.Rule.TheVariants.{B1, B2}
use Rattle.pdl_image.specs.Images.{is_letter, is_name}
use Rattle.pdl_asm_table.specs.Names.{is_pipe_name}
use Rattle.pdl_asm_table.specs.Dictionaries.{with_definition}
use Rattle.pdl_asm_table.specs.Tables.{Named, TableValue, table_with}
use Rattle.pdl_asm_table.specs.declared.table.ArgumentKind.{ArgumentKind}
use Rattle.pdl_asm_table.specs.declared.table.ArgumentKind.TheVariants.{Reg, Uint, Sint, Rel}
use Rattle.pdl_asm_table.specs.declared.table.Arg.{Arg}
use Rattle.pdl_asm_table.specs.declared.table_error.TableError.{TableError}
use Rattle.pdl_asm_table.specs.declared.table_error.TableError.TheVariants.{Refused, NoMemory}
use Rattle.pdl_word.specs.Words.{widest}

-- the text at a key
abbrev pub text_at : List ℕ → Members → Option (List ℕ)
text_at key ms = option_and_then as_str (get_member key ms)

-- the value, where it passes
abbrev pub where_is : {T : Type 0} → (T → Bool) → T → Option T
where_is passes x = if passes x then Some x else None

-- there is no other key than these
abbrev pub has_only : List (List ℕ) → Members → Bool
has_only keys no_members = true
has_only keys (member k d ms) = list_any (λ key. bytes_eq k key) keys && has_only keys ms

-- ---- an instruction

-- what an argument is, by its word
abbrev pub kind_of : List ℕ → Option ArgumentKind
kind_of w =
    if bytes_eq w (codes "reg") then Some Reg
    else if bytes_eq w (codes "uint") then Some Uint
    else if bytes_eq w (codes "sint") then Some Sint
    else if bytes_eq w (codes "rel") then Some Rel
    else None

-- an argument of a letter
abbrev pub letter_argument : ℕ → Option ArgumentKind → Option Arg
letter_argument c None = None
letter_argument c (Some k) = if is_letter c then Some (record { letter = c; kind = k }) else None

-- an argument `<letter>:<kind>`
abbrev pub arg_of : List ℕ → Option Arg
arg_of (c ∷ d ∷ w) = if d == 58 then letter_argument c (kind_of w) else None
arg_of _ = None

-- an argument before those after it, if each is there
abbrev pub with_arg : Option Arg → Option (List Arg) → Option (List Arg)
with_arg (Some a) (Some later) = Some (a ∷ later)
with_arg _ _ = None

-- the arguments of an array
abbrev pub args_of : Items → Option (List Arg)
args_of no_items = Some []
args_of (item d ds) = with_arg (option_and_then arg_of (as_str d)) (args_of ds)

-- `bits` without its spaces
abbrev pub text_without_spaces : List ℕ → List ℕ
text_without_spaces bits = filter (λ c. not (c == 32)) bits

-- an instruction of its parts, if each is there
abbrev pub insn_from : Option (List ℕ) → Option (List Arg) → Option (List ℕ) → Option Named
insn_from (Some n) (Some args) (Some b) = Some (n, record { args = args; bits = text_without_spaces b })
insn_from _ _ _ = None

-- the keys of an instruction
abbrev pub insn_keys : List (List ℕ)
insn_keys = codes "name" ∷ codes "args" ∷ codes "bits" ∷ []

-- an instruction with exactly its keys, and values of their types and forms
abbrev pub insn_of_members : Members → Option Named
insn_of_members ms =
    if has_only insn_keys ms
    then insn_from
    (option_and_then (where_is is_name) (text_at (codes "name") ms))
    (option_and_then args_of (option_and_then as_array (get_member (codes "args") ms)))
    (text_at (codes "bits") ms)
    else None

-- the instruction that a value is, if it is a table with an instruction's members
abbrev pub insn_of : Data → Option Named
insn_of d = option_and_then insn_of_members (as_table d)

-- B2: the instruction k before those after it, or the first of them that lacks its form
abbrev pub with_insn : ℕ → Option Named → Result (List Named) TableError → Result (List Named) TableError
with_insn k None later = Err (Refused B2 k)
with_insn k (Some i) (Ok is) = Ok (i ∷ is)
with_insn k (Some i) (Err e) = Err e

-- the instructions of an array, counted from k
abbrev pub insns_of : ℕ → Items → Result (List Named) TableError
insns_of k no_items = Ok []
insns_of k (item d ds) = with_insn k (insn_of d) (insns_of (k + 1) ds)

-- ---- what stands in no instruction

-- a width of 1 to widest bits
abbrev pub width_of : ℤ → Option ℕ
width_of (pos n) = where_is (λ w. nat_le 1 w && nat_le w widest) n
width_of (negsuc n) = None

-- a register's number, below 2^32
abbrev pub number_of : ℤ → Option ℕ
number_of (pos n) = where_is (λ r. nat_lt r (2 ^ 32)) n
number_of (negsuc n) = None

-- a register more, if its name has the form and its number the range
abbrev pub with_reg : Option (List (List ℕ × ℕ)) → List ℕ → Data → Option (List (List ℕ × ℕ))
with_reg None name d = None
with_reg (Some regs) name d = if is_name name then option_map (λ r. with_definition regs name r) (option_and_then number_of (as_integer d)) else None

-- registers, and those of members after them
abbrev pub regs_from : Option (List (List ℕ × ℕ)) → Members → Option (List (List ℕ × ℕ))
regs_from regs no_members = regs
regs_from regs (member name d ms) = regs_from (with_reg regs name d) ms

-- the registers of the value at `regs`, which may be missing
abbrev pub regs_of : Option Data → Option (List (List ℕ × ℕ))
regs_of None = Some []
regs_of (Some d) = option_and_then (regs_from (Some [])) (as_table d)

-- each item is a table
abbrev pub are_tables : Items → Bool
are_tables no_items = true
are_tables (item d ds) = is_some (as_table d) && are_tables ds

-- an array of at least one table
abbrev pub some_tables : Items → Option Items
some_tables no_items = None
some_tables ds = where_is are_tables ds

-- the keys of a table
abbrev pub table_keys : List (List ℕ)
table_keys = codes "word" ∷ codes "mem" ∷ codes "regs" ∷ codes "insn" ∷ []

-- ---- the table

-- the table of instructions that have their form
abbrev pub table_of_insns : ℕ → List ℕ → List (List ℕ × ℕ) → Result (List Named) TableError → Result TableValue TableError
table_of_insns word mem regs (Ok is) = table_with word mem regs is
table_of_insns word mem regs (Err e) = Err e

-- the table of its parts, if each is there
abbrev pub table_from : Option ℕ → Option (List ℕ) → Option (List (List ℕ × ℕ)) → Option Items → Result TableValue TableError
table_from (Some word) (Some mem) (Some regs) (Some ds) = table_of_insns word mem regs (insns_of 1 ds)
table_from _ _ _ _ = Err (Refused B2 0)

-- the table of a document's members
abbrev pub table_of_members : Members → Result TableValue TableError
table_of_members ms =
    if has_only table_keys ms
    then table_from
    (option_and_then width_of (option_and_then as_integer (get_member (codes "word") ms)))
    (option_and_then (where_is is_pipe_name) (text_at (codes "mem") ms))
    (regs_of (get_member (codes "regs") ms))
    (option_and_then some_tables (option_and_then as_array (get_member (codes "insn") ms)))
    else Err (Refused B2 0)

-- the members of a text that is TOML
abbrev pub document_of : List ℕ → Option Members
document_of text = if is_utf8 text then parse_document text else None

-- B1: a text that isn't TOML
abbrev pub table_of_document : Option Members → Result TableValue TableError
table_of_document None = Err (Refused B1 0)
table_of_document (Some ms) = table_of_members ms

-- the table of a text, or its refusal: the lowest rule, there the lowest instruction, counted from 1; 0 is what stands in none
unfoldable pub table : List ℕ → Result TableValue TableError
table text = table_of_document (document_of text)

-- an answer is what is meant, or memory ran out
abbrev pub Meets : {T : Type 0} → Result T TableError → Result T TableError → Type 0
Meets meant (Ok x) = meant ≡ Ok x
Meets meant (Err NoMemory) = Unit {0}
Meets meant (Err (Refused rule insn)) = meant ≡ Err (Refused rule insn)

-- a text is no document, or memory ran out
abbrev pub IsNoDocument : List ℕ → TableError → Type 0
IsNoDocument text NoMemory = Unit {0}
IsNoDocument text (Refused rule insn) = (document_of text ≡ None) × (rule ≡ B1) × (insn ≡ 0)
