-- What single tokens may be: numbers, constants, operators, and names of each kind.
use Rattle.std.specs.Prelude.{ℕ, ◌+◌, Bool, false, not, ◌&&◌, ◌||◌, ◌==◌, nat_eq, nat_le, nat_lt, cond, List, [], ◌∷◌, length, take, drop, codes, Option, Some, None, bytes_eq}
use Rattle.std.specs.List.{list_all, starts_with, prefix_len}
use Rattle.std.specs.Str.Parse.{digits_value}
use Rattle.pdl_net.specs.declared.BinOp.{BinOp}
use Rattle.pdl_net.specs.declared.BinOp.TheVariants.{Add, Sub, Mul, And, Or, Xor, Eq, Ne, Lt, Shl, Shr}
use Rattle.pdl_vread_text.specs.declared.numbers.Constant.{Constant}
use Rattle.pdl_vread_text.specs.Tokens.{is_lower, is_digit}
use Rattle.pdl_word.specs.Digits.{are_digits, most_hex}

-- ---- numbers

-- the value of 1 to 6 decimal digits
unfoldable pub number_of : List ℕ → Option ℕ
number_of text = cond (are_digits 10 6 text) (Some (digits_value 10 text)) None

-- the value of `'h` and 1 to most_hex lower hexadecimal digits
abbrev pub hex_part : List ℕ → Option ℕ
hex_part text = cond (starts_with nat_eq text (codes "'h"))
    (cond (are_digits 16 most_hex (drop 2 text)) (Some (digits_value 16 (drop 2 text))) None) None

-- a constant of a width and a value, if both are there
abbrev pub with_parts : Option ℕ → Option ℕ → Option Constant
with_parts (Some w) (Some v) = Some (record { width = w; value = v })
with_parts _ _ = None

-- the constant that a number, `'h` and 1 to most_hex lower hexadecimal digits write, with no space inside
unfoldable pub constant_of : List ℕ → Option Constant
constant_of text = with_parts (number_of (take (prefix_len is_digit text) text)) (hex_part (drop (prefix_len is_digit text) text))

-- ---- operators

-- the comparison or shift that a symbol is, if it is one
abbrev pub comparison_or_shift : List ℕ → Option BinOp
comparison_or_shift text =
    cond (bytes_eq text (codes "==")) (Some Eq)
    (cond (bytes_eq text (codes "!=")) (Some Ne)
    (cond (bytes_eq text (codes "<")) (Some Lt)
    (cond (bytes_eq text (codes "<<")) (Some Shl)
    (cond (bytes_eq text (codes ">>")) (Some Shr) None))))

-- the operator between two operands that a symbol is
unfoldable pub operator_of : List ℕ → Option BinOp
operator_of text =
    cond (bytes_eq text (codes "+")) (Some Add)
    (cond (bytes_eq text (codes "-")) (Some Sub)
    (cond (bytes_eq text (codes "*")) (Some Mul)
    (cond (bytes_eq text (codes "&")) (Some And)
    (cond (bytes_eq text (codes "|")) (Some Or)
    (cond (bytes_eq text (codes "^")) (Some Xor) (comparison_or_shift text))))))

-- ---- names

-- what may follow a name's first letter
abbrev pub is_name_byte : ℕ → Bool
is_name_byte c = is_lower c || is_digit c || c == 95

-- a keyword of PDL's statements and expressions
abbrev pub is_statement_keyword : List ℕ → Bool
is_statement_keyword t =
    bytes_eq t (codes "if") || bytes_eq t (codes "else") || bytes_eq t (codes "call") || bytes_eq t (codes "spec_call") || bytes_eq t (codes "verify")
    || bytes_eq t (codes "update") || bytes_eq t (codes "spec_check") || bytes_eq t (codes "spec_barrier") || bytes_eq t (codes "reserve")
    || bytes_eq t (codes "acquire") || bytes_eq t (codes "block") || bytes_eq t (codes "release") || bytes_eq t (codes "cat")
    || bytes_eq t (codes "zext") || bytes_eq t (codes "sext") || bytes_eq t (codes "lts")

-- the keywords for branches, calls and speculation
abbrev pub is_flow_keyword : List ℕ → Bool
is_flow_keyword t =
    bytes_eq t (codes "if") || bytes_eq t (codes "else") || bytes_eq t (codes "call") || bytes_eq t (codes "spec_call") || bytes_eq t (codes "verify")
    || bytes_eq t (codes "update") || bytes_eq t (codes "spec_check") || bytes_eq t (codes "spec_barrier")

-- a keyword of PDL's pipes, memories and locks
abbrev pub is_declaration_keyword : List ℕ → Bool
is_declaration_keyword t =
    bytes_eq t (codes "pipe") || bytes_eq t (codes "start") || bytes_eq t (codes "uint") || bytes_eq t (codes "comb") || bytes_eq t (codes "delayed")
    || bytes_eq t (codes "advisory") || bytes_eq t (codes "lock") || bytes_eq t (codes "queue") || bytes_eq t (codes "bypass") || bytes_eq t (codes "rename")

-- a lower letter, and then letters, digits and `_`, at most 32 characters together
abbrev pub has_name_form : List ℕ → Bool
has_name_form [] = false
has_name_form (c ∷ cs) = is_lower c && (nat_lt (length cs) 32 && list_all is_name_byte cs)

-- a name of PDL, which is no keyword of it
unfoldable pub is_name : List ℕ → Bool
is_name t = has_name_form t && not (is_statement_keyword t) && not (is_declaration_keyword t)

-- decimal digits, at least one
abbrev pub are_decimals : List ℕ → Bool
are_decimals [] = false
are_decimals (c ∷ cs) = is_digit c && list_all is_digit cs

-- a prefix with a name of PDL
abbrev pub is_named : List ℕ → List ℕ → Bool
is_named prefix t = starts_with nat_eq t prefix && is_name (drop (length prefix) t)

-- a prefix with decimal digits
abbrev pub is_counted : List ℕ → List ℕ → Bool
is_counted prefix t = starts_with nat_eq t prefix && are_decimals (drop (length prefix) t)

-- a prefix with 1 to 10 decimal digits
abbrev pub is_stage_port : List ℕ → List ℕ → Bool
is_stage_port prefix t = is_counted prefix t && nat_le (length t) (length prefix + 10)

-- the name of a module: `pdl_` with a name of PDL
abbrev pub is_module : List ℕ → Bool
is_module t = is_named (codes "pdl_") t

-- the name of an input: `p_` or `pd_` with a name of PDL
abbrev pub is_input : List ℕ → Bool
is_input t = is_named (codes "p_") t || is_named (codes "pd_") t

-- the name of an output of what a memory commits: `c_`, `ca_` or `cd_`, and of a second commit `c2_`, `ca2_` or `cd2_`, with a name of PDL
abbrev pub is_commit_output : List ℕ → Bool
is_commit_output t =
    is_named (codes "c_") t || is_named (codes "ca_") t || is_named (codes "cd_") t
    || is_named (codes "c2_") t || is_named (codes "ca2_") t || is_named (codes "cd2_") t

-- the name of a memory's output: one of what it commits, or `q_` or `qa_` with a name of PDL
abbrev pub is_memory_output : List ℕ → Bool
is_memory_output t = is_commit_output t || is_named (codes "q_") t || is_named (codes "qa_") t

-- the name of a port, the clock and the reset apart
unfoldable pub is_port : List ℕ → Bool
is_port t =
    bytes_eq t (codes "ended") || bytes_eq t (codes "squash") || is_stage_port (codes "v_") t
    || is_stage_port (codes "g_") t || is_input t || is_memory_output t

-- the name of a register
abbrev pub is_reg : List ℕ → Bool
is_reg t = is_counted (codes "r") t

-- the name of an array
abbrev pub is_array : List ℕ → Bool
is_array t = is_named (codes "a_") t

-- the name of a cell's wire
abbrev pub is_cell : List ℕ → Bool
is_cell t = is_counted (codes "n") t

-- what may be an operand: a wire, a register, or the name of an input
unfoldable pub is_operand : List ℕ → Bool
is_operand t = is_cell t || is_reg t || is_input t
