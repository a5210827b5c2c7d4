-- What `clap` makes of the first word: the name of a command, or none.
use Rattle.std.proofs.Common.{◌≡◌, refl, ap, ap₂, ◌∙◌, Bool, false, List, [], ◌∷◌, Some, None, codes}
use Rattle.std.specs.Prelude.{Option, ◌||◌, fold, find, is_some, option_map, if◌then◌else◌}
use Rattle.std.specs.Option.{option_map_or}
use Rattle.std.specs.Str.{bytes_eq}
use Rattle.clap.specs.Walk.{Names, Text, Walk, idle, walked, walk, walk_from, nothing_held, subcommand_met, subcommand_or_other, answers_to, finished, settled}
use Rattle.clap.specs.Simple.{App, Shape, built, names_of, label_of, entered, rows_at}
use Rattle.clap.specs.Kinds.{Kinds, or_else}
use Rattle.clap.specs.Faults.{walk_fault, turn_fault, step_fault, other_fault, settle_fault, defaults_fault, check_fault, entered_fault, level_fault}
use Rattle.clap.specs.declared.error.kind.ErrorKind.TheVariants.{UnknownArgument, InvalidSubcommand}
use Rattle.pdl_cli_args.specs.App.{pdl_app}
use Rattle.pdl_cli_args.specs.Line.{line, where_taken, Command}
use Rattle.pdl_plain.specs.CommandLines.{begins_dashed}
use Rattle.pdl_plain.proofs.WordSteps.{at, met, clean, stays, none_after, run_to}

-- the whole command, as it is built
abbrev pub app : App
app = built pdl_app

-- the names of its subcommands
abbrev pub names : Names
names = names_of app

-- the command, by what is wrong with the words and the walk at their end
abbrev top_outcome : Kinds → Walk → Option Command
top_outcome wrong end =
    where_taken (or_else wrong (or_else (entered_fault app end.stopped) (or_else (settle_fault app.top.rules app.top.args_override_self end.held)
    (or_else (defaults_fault (settled app.top.rules end.held).rows app.top.rules)
    (check_fault app.top (finished app.top.rules end.held) (is_some (entered app end.stopped))))))) (entered app end.stopped)

line_is : (words : List Text) → line words ≡ top_outcome (walk_fault app.top names (walk_from nothing_held) words) (walk app.top.rules names nothing_held words)
unfolding line
line_is words = refl

-- by the subcommand that its name finds
abbrev found_outcome : List Text → Option Shape → Option Command
found_outcome rest found =
    where_taken (or_else (option_map_or (λ s. level_fault s [] nothing_held rest false []) found [])
    (check_fault app.top (finished app.top.rules nothing_held) (is_some (option_map (λ s. rows_at s rest) found))))
    (option_map (λ s. rows_at s rest) found)

top_found : (name : Text) (rest : List Text) → top_outcome [] (record (at nothing_held 1) { stopped = Some (name, rest) })
    ≡ found_outcome rest (find (λ s. answers_to name (label_of s)) app.subs)
unfolding defaults_fault
top_found name rest = refl

found_is : (s : Shape) (rest : List Text) → found_outcome rest (Some s) ≡ run_to s nothing_held 1 rest
found_is s rest = refl

-- the name of a subcommand begins its own walk
pub entering : (name : Text) (s : Shape) (rest : List Text)
    → walked app.top.rules names (walk_from nothing_held) name ≡ record (at nothing_held 1) { stopped = Some (name, []) }
    → turn_fault app.top names (walk_from nothing_held) name ≡ []
    → find (λ s. answers_to name (label_of s)) app.subs ≡ Some s
    → line (name ∷ rest) ≡ run_to s nothing_held 1 rest
unfolding walk_fault
entering name s rest step right found =
    line_is (name ∷ rest)
    ∙ ap₂ top_outcome
    (ap₂ or_else right (ap (λ w. walk_fault app.top names w rest) step ∙ none_after app.top names nothing_held 1 name [] rest))
    (ap (λ w. fold (walked app.top.rules names) w rest) step ∙ stays app.top.rules names nothing_held 1 name [] rest)
    ∙ top_found name rest ∙ ap (found_outcome rest) found ∙ found_is s rest

-- what is wrong with a first word, by the subcommand that it names
abbrev first_fault : Text → Option Text → Kinds
first_fault name met =
    or_else (other_fault app.top met name nothing_held)
    (step_fault app.top 1 (subcommand_or_other app.top.rules met idle 1 name nothing_held).0
    (subcommand_or_other app.top.rules met idle 1 name nothing_held).1)

no_name : (name : Text) → begins_dashed name ≡ false → first_fault name None ≡ UnknownArgument ∷ InvalidSubcommand ∷ []
no_name name e = ap₂ (λ (k : Kinds) m. or_else k (step_fault app.top 1 m.0 m.1)) (clean app.top name nothing_held e) (met app.top.rules 1 name nothing_held e)

-- a first word that is no name
pub unknown : (name : Text) (rest : List Text) → begins_dashed name ≡ false → subcommand_met names idle name ≡ None → line (name ∷ rest) ≡ None
unfolding walk_fault
unknown name rest e none =
    line_is (name ∷ rest)
    ∙ ap (λ (wrong : Kinds). top_outcome (or_else wrong (walk_fault app.top names (walked app.top.rules names (walk_from nothing_held) name) rest))
    (walk app.top.rules names nothing_held (name ∷ rest))) (ap (first_fault name) none ∙ no_name name e)

-- nor is `help` a command
pub helped : (rest : List Text) → line (codes "help" ∷ rest) ≡ None
unfolding line walk_fault walked
helped rest = refl

-- a name that is another one is passed over
pub skipped : (name key : Text) (more : Names) → bytes_eq key name ≡ false → find (answers_to name) ((key, []) ∷ more) ≡ find (answers_to name) more
skipped name key more e = ap (λ (b : Bool). if b || false then Some (key, []) else find (answers_to name) more) e
