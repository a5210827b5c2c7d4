-- The command that words are, none of which begins with `-`.
use Rattle.std.specs.Prelude.{◌≡◌, ℕ, Bool, false, ◌==◌, List, [], ◌∷◌, Option, None, Some, codes, option_map, if◌then◌else◌}
use Rattle.std.specs.Str.{bytes_eq}
use Rattle.pdl_cli_args.specs.Number.{number_of}
use Rattle.pdl_cli_args.specs.Line.{Command, check, run, seq, asm, gen, build, sim, wave, view, line}

-- whether a word begins with `-` (45)
abbrev pub begins_dashed : List ℕ → Bool
begins_dashed [] = false
begins_dashed (c ∷ cs) = c == 45

-- words none of which does
pub data AreUndashed : List (List ℕ) → Type 0 where
  no_word : AreUndashed []
  one_more : {word : List ℕ} {words : List (List ℕ)} → begins_dashed word ≡ false → AreUndashed words → AreUndashed (word ∷ words)

-- one word: the name of a file
abbrev pub of_file : (List ℕ → Command) → List (List ℕ) → Option Command
of_file make (file ∷ []) = Some (make file)
of_file make _ = None

-- two words: the names of two files
abbrev pub of_files : (List ℕ → List ℕ → Command) → List (List ℕ) → Option Command
of_files make (first ∷ second ∷ []) = Some (make first second)
of_files make _ = None

-- three words: the names of two files, and a number up to 1,000,000
abbrev pub of_count : (List ℕ → List ℕ → ℕ → Command) → List (List ℕ) → Option Command
of_count make (first ∷ second ∷ count ∷ []) = option_map (make first second) (number_of 7 1000000 count)
of_count make _ = None

-- one word: a number below 2 ^ 31
abbrev pub of_number : List (List ℕ) → Option Command
of_number (number ∷ []) = option_map gen (number_of 10 2147483647 number)
of_number _ = None

-- the command of this name, by the words after it
abbrev pub command_named : List ℕ → List (List ℕ) → Option Command
command_named name words =
    if bytes_eq (codes "check") name then of_file check words
    else if bytes_eq (codes "build") name then of_file build words
    else if bytes_eq (codes "asm") name then of_files asm words
    else if bytes_eq (codes "gen") name then of_number words
    else if bytes_eq (codes "seq") name then of_count seq words
    else if bytes_eq (codes "run") name then of_count (λ source image cycles. run source image cycles None) words
    else if bytes_eq (codes "sim") name then of_count (λ netlist image cycles. sim netlist image cycles None) words
    else if bytes_eq (codes "wave") name then of_count (λ source image cycles. wave source image cycles None) words
    else if bytes_eq (codes "view") name then of_count (λ source image cycles. view source image cycles None) words
    else None

-- the command that these words are: its name first
abbrev pub plain_line : List (List ℕ) → Option Command
plain_line [] = None
plain_line (name ∷ words) = command_named name words

-- words none of which begins with `-` are that command, or none
abbrev pub ReadsUndashed : Type 0
ReadsUndashed = (words : List (List ℕ)) → AreUndashed words → line words ≡ plain_line words
