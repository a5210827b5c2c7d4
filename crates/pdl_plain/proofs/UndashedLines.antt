-- Words none of which begins with `-`.
use Rattle.std.proofs.Common.{◌≡◌, refl, sym, ap, ◌∙◌, Bool, true, false, List, [], ◌∷◌, None, codes, drop}
use Rattle.std.specs.Prelude.{Option, option_map, if◌then◌else◌}
use Rattle.std.specs.Str.{bytes_eq}
use Rattle.std.proofs.lemmas.Slice.Eq.{bytes_eq-Decides}
use Rattle.clap.specs.Walk.{Text, idle, nothing_held, subcommand_met}
use Rattle.clap.proofs.OnLiterals.{clap_on_literals}
use Rattle.pdl_cli_args.specs.Line.{line, Command}
use Rattle.pdl_plain.specs.CommandLines.{AreUndashed, no_word, one_more, begins_dashed, command_named, ReadsUndashed}
use Rattle.pdl_plain.proofs.WordSteps.{run_to}
use Rattle.pdl_plain.proofs.CommandStarts.{names, entering, unknown, helped, skipped}
use Rattle.pdl_plain.proofs.ShortCommands.{leaf, check_words, asm_words, gen_words, build_words, seq_words}
use Rattle.pdl_plain.proofs.RunCommands.{run_words, sim_words, wave_words, view_words}

-- by whether a first word is this name
picked : (key name : Text) (words : List Text) (x other : Option Command) → (key ≡ name → line (name ∷ words) ≡ x)
    → (bytes_eq key name ≡ false → line (name ∷ words) ≡ other) → line (name ∷ words) ≡ (if bytes_eq key name then x else other)
picked key name words x other same apart = by (bytes_eq key name) refl
  where
    by : (b : Bool) → bytes_eq key name ≡ b → line (name ∷ words) ≡ (if b then x else other)
    by true e = same ((bytes_eq-Decides key name).0 e)
    by false e = apart e

check_first : (words : List Text) → line (codes "check" ∷ words) ≡ run_to (leaf 0) nothing_held 1 words
unfolding clap_on_literals
check_first words = entering (codes "check") (leaf 0) words refl refl refl

build_first : (words : List Text) → line (codes "build" ∷ words) ≡ run_to (leaf 5) nothing_held 1 words
unfolding clap_on_literals
build_first words = entering (codes "build") (leaf 5) words refl refl refl

asm_first : (words : List Text) → line (codes "asm" ∷ words) ≡ run_to (leaf 3) nothing_held 1 words
unfolding clap_on_literals
asm_first words = entering (codes "asm") (leaf 3) words refl refl refl

gen_first : (words : List Text) → line (codes "gen" ∷ words) ≡ run_to (leaf 4) nothing_held 1 words
unfolding clap_on_literals
gen_first words = entering (codes "gen") (leaf 4) words refl refl refl

seq_first : (words : List Text) → line (codes "seq" ∷ words) ≡ run_to (leaf 2) nothing_held 1 words
unfolding clap_on_literals
seq_first words = entering (codes "seq") (leaf 2) words refl refl refl

run_first : (words : List Text) → line (codes "run" ∷ words) ≡ run_to (leaf 1) nothing_held 1 words
unfolding clap_on_literals
run_first words = entering (codes "run") (leaf 1) words refl refl refl

sim_first : (words : List Text) → line (codes "sim" ∷ words) ≡ run_to (leaf 6) nothing_held 1 words
unfolding clap_on_literals
sim_first words = entering (codes "sim") (leaf 6) words refl refl refl

wave_first : (words : List Text) → line (codes "wave" ∷ words) ≡ run_to (leaf 7) nothing_held 1 words
unfolding clap_on_literals
wave_first words = entering (codes "wave") (leaf 7) words refl refl refl

view_first : (words : List Text) → line (codes "view" ∷ words) ≡ run_to (leaf 8) nothing_held 1 words
unfolding clap_on_literals
view_first words = entering (codes "view") (leaf 8) words refl refl refl

-- a word that is the name of no subcommand
none_met : (name : Text) → bytes_eq (codes "check") name ≡ false
    → bytes_eq (codes "run") name ≡ false
    → bytes_eq (codes "seq") name ≡ false
    → bytes_eq (codes "asm") name ≡ false
    → bytes_eq (codes "gen") name ≡ false
    → bytes_eq (codes "build") name ≡ false
    → bytes_eq (codes "sim") name ≡ false
    → bytes_eq (codes "wave") name ≡ false
    → bytes_eq (codes "view") name ≡ false
    → bytes_eq (codes "help") name ≡ false
    → subcommand_met names idle name ≡ None
none_met name f0 f1 f2 f3 f4 f5 f6 f7 f8 f9 =
    ap (option_map (λ s. s.0)) (skipped name (codes "check") (drop 1 names) f0
    ∙ skipped name (codes "run") (drop 2 names) f1
    ∙ skipped name (codes "seq") (drop 3 names) f2
    ∙ skipped name (codes "asm") (drop 4 names) f3
    ∙ skipped name (codes "gen") (drop 5 names) f4
    ∙ skipped name (codes "build") (drop 6 names) f5
    ∙ skipped name (codes "sim") (drop 7 names) f6
    ∙ skipped name (codes "wave") (drop 8 names) f7
    ∙ skipped name (codes "view") (drop 9 names) f8
    ∙ skipped name (codes "help") (drop 10 names) f9)

other_name : (name : Text) (words : List Text) → begins_dashed name ≡ false → bytes_eq (codes "check") name ≡ false
    → bytes_eq (codes "run") name ≡ false
    → bytes_eq (codes "seq") name ≡ false
    → bytes_eq (codes "asm") name ≡ false
    → bytes_eq (codes "gen") name ≡ false
    → bytes_eq (codes "build") name ≡ false
    → bytes_eq (codes "sim") name ≡ false
    → bytes_eq (codes "wave") name ≡ false
    → bytes_eq (codes "view") name ≡ false
    → line (name ∷ words) ≡ None
other_name name words e f0 f1 f2 f3 f4 f5 f6 f7 f8 = by (bytes_eq (codes "help") name) refl
  where
    by : (b : Bool) → bytes_eq (codes "help") name ≡ b → line (name ∷ words) ≡ None
    by true h = ap (λ n. line (n ∷ words)) (sym ((bytes_eq-Decides (codes "help") name).0 h)) ∙ helped words
    by false h = unknown name words e (none_met name f0 f1 f2 f3 f4 f5 f6 f7 f8 h)

-- a first word that is no command's name, and the words after it
named : (name : Text) (words : List Text) → begins_dashed name ≡ false → AreUndashed words → line (name ∷ words) ≡ command_named name words
named name words e u =
    picked (codes "check") name words _ _ (λ s. ap (λ n. line (n ∷ words)) (sym s) ∙ check_first words ∙ check_words words u) (λ f0.
    picked (codes "build") name words _ _ (λ s. ap (λ n. line (n ∷ words)) (sym s) ∙ build_first words ∙ build_words words u) (λ f5.
    picked (codes "asm") name words _ _ (λ s. ap (λ n. line (n ∷ words)) (sym s) ∙ asm_first words ∙ asm_words words u) (λ f3.
    picked (codes "gen") name words _ _ (λ s. ap (λ n. line (n ∷ words)) (sym s) ∙ gen_first words ∙ gen_words words u) (λ f4.
    picked (codes "seq") name words _ _ (λ s. ap (λ n. line (n ∷ words)) (sym s) ∙ seq_first words ∙ seq_words words u) (λ f2.
    picked (codes "run") name words _ _ (λ s. ap (λ n. line (n ∷ words)) (sym s) ∙ run_first words ∙ run_words words u) (λ f1.
    picked (codes "sim") name words _ _ (λ s. ap (λ n. line (n ∷ words)) (sym s) ∙ sim_first words ∙ sim_words words u) (λ f6.
    picked (codes "wave") name words _ _ (λ s. ap (λ n. line (n ∷ words)) (sym s) ∙ wave_first words ∙ wave_words words u) (λ f7.
    picked (codes "view") name words _ _ (λ s. ap (λ n. line (n ∷ words)) (sym s) ∙ view_first words ∙ view_words words u) (λ f8.
    other_name name words e f0 f1 f2 f3 f4 f5 f6 f7 f8)))))))))

no_words : line [] ≡ None
unfolding clap_on_literals line
no_words = refl

-- for every list of words none of which begins with `-`
pub reads : ReadsUndashed
reads [] no_word = no_words
reads (name ∷ words) (one_more e u) = named name words e u
