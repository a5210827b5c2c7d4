-- What is wrong with the instructions of a table, and the table that is right.
use Rattle.std.specs.Prelude.{◌≡◌, ℕ, ◌+◌, ◌==◌, ◌≤◌, Bool, true, not, ◌&&◌, ◌||◌, List, [], ◌∷◌, ◌++◌, length, count_by, Option, Some, None, is_some, Result, Ok, Err, if◌then◌else◌}
use Rattle.std.specs.List.{list_all, list_any}
use Rattle.pdl_kit.specs.declared.rule.Rule.{Rule}
use Rattle.pdl_kit.specs.declared.rule.Rule.TheVariants.{B3, B4, B5}
use Rattle.pdl_image.specs.Images.{is_letter}
use Rattle.pdl_asm_table.specs.Dictionaries.{value_of}
use Rattle.pdl_asm_table.specs.Names.{is_pipe_name}
use Rattle.pdl_asm_table.specs.declared.table.Arg.{Arg}
use Rattle.pdl_asm_table.specs.declared.table.Insn.{Insn}
use Rattle.pdl_asm_table.specs.declared.table_error.TableError.{TableError}
use Rattle.pdl_asm_table.specs.declared.table_error.TableError.TheVariants.{Refused}
use Rattle.pdl_word.specs.Words.{widest}

-- a table as contracts see it
pub record TableValue : Type 0 where
  pub word : ℕ
  pub mem : List ℕ
  pub regs : List (List ℕ × ℕ)
  pub insns : List (List ℕ × Insn)

-- each instruction has as many bits
abbrev pub AreWide : ℕ → List (List ℕ × Insn) → Type 0
AreWide bits [] = Unit {0}
AreWide bits (i ∷ is) = (length i.1.bits ≡ bits) × AreWide bits is

-- what every table keeps: a word has 1 to widest bits, the memory has a name of the pipeline language, and each instruction has the bits of a word
pub record IsTable (t : TableValue) : Type 0 where
  pub low : 1 ≤ t.word
  pub high : t.word ≤ widest
  pub mem : is_pipe_name t.mem ≡ true
  pub bits : AreWide t.word t.insns

-- an instruction by its name
abbrev pub Named : Type 0
Named = List ℕ × Insn

-- B3: `bits` has something else than `0`, `1` and letters, or isn't as long as a word
abbrev pub is_bit : ℕ → Bool
is_bit c = c == 48 || (c == 49 || is_letter c)

-- an instruction breaks B3 in a table with words of this width
abbrev pub breaks_b3 : ℕ → Insn → Bool
breaks_b3 word i = not (list_all is_bit i.bits && length i.bits == word)

-- how many arguments have a letter
abbrev pub arguments : List Arg → ℕ → ℕ
arguments args c = count_by (λ a. a.letter == c) args

-- B4: a letter of `bits` hasn't one argument, or an argument's letter isn't in `bits`
abbrev pub breaks_b4 : Insn → Bool
breaks_b4 i =
    not (list_all (λ c. not (is_letter c) || arguments i.args c == 1) i.bits && list_all (λ (a : Arg). list_any (λ c. c == a.letter) i.bits) i.args)

-- the number, counted from k, of the first instruction that breaks a rule
abbrev pub first_broken : (Insn → Bool) → ℕ → List Named → Option ℕ
first_broken broken k [] = None
first_broken broken k (i ∷ is) = if broken i.1 then Some k else first_broken broken (k + 1) is

-- B5: the number of the first instruction whose name an earlier one has
abbrev pub first_repeated : List Named → ℕ → List Named → Option ℕ
first_repeated before k [] = None
first_repeated before k (i ∷ is) = if is_some (value_of before i.0) then Some k else first_repeated (before ++ i ∷ []) (k + 1) is

-- the refusal at an instruction, where there is one, else what comes otherwise
abbrev pub refused_at : {T : Type 0} → Rule → Option ℕ → Result T TableError → Result T TableError
refused_at rule None otherwise = otherwise
refused_at rule (Some k) otherwise = Err (Refused rule k)

-- the table with these instructions: the lowest rule of B3 to B5 that one breaks, there the lowest instruction, refuses it
abbrev pub table_with : ℕ → List ℕ → List (List ℕ × ℕ) → List Named → Result TableValue TableError
table_with word mem regs is =
    refused_at B3 (first_broken (breaks_b3 word) 1 is)
    (refused_at B4 (first_broken breaks_b4 1 is)
    (refused_at B5 (first_repeated [] 1 is)
    (Ok (record { word = word; mem = mem; regs = regs; insns = is }))))
