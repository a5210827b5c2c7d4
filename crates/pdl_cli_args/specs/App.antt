-- The command line in `clap`'s own words: one command, and a subcommand for each thing that it does.
use Rattle.std.specs.Prelude.{true, Some, codes}
use Rattle.clap.specs.Walk.{Rule, Text}
use Rattle.clap.specs.Simple.{App, new_app, new_rule, with_rule, with_subcommand, on_top}
use Rattle.clap.specs.declared.builder.action.ArgAction.TheVariants.{Set}

-- a word that must be there
abbrev pub word_rule : Text → Rule
word_rule id = record (new_rule id) { required = true; action = Some Set }

-- an option with a value, as `--delays F`, that may be left out
abbrev pub option_rule : Text → Rule
option_rule name = record (new_rule name) { long = Some name; action = Some Set }

-- `check SRC`
abbrev pub check_app : App
check_app = with_rule (new_app (codes "check")) (word_rule (codes "source"))

-- `run SRC IMG CYCLES [--delays F]`
abbrev pub run_app : App
run_app =
    with_rule (with_rule (with_rule (with_rule (new_app (codes "run"))
    (word_rule (codes "source"))) (word_rule (codes "image"))) (word_rule (codes "cycles"))) (option_rule (codes "delays"))

-- `seq SRC IMG THREADS`
abbrev pub seq_app : App
seq_app =
    with_rule (with_rule (with_rule (new_app (codes "seq"))
    (word_rule (codes "source"))) (word_rule (codes "image"))) (word_rule (codes "threads"))

-- `asm TABLE TEXT`
abbrev pub asm_app : App
asm_app = with_rule (with_rule (new_app (codes "asm")) (word_rule (codes "table"))) (word_rule (codes "text"))

-- `gen N`
abbrev pub gen_app : App
gen_app = with_rule (new_app (codes "gen")) (word_rule (codes "number"))

-- `build SRC`
abbrev pub build_app : App
build_app = with_rule (new_app (codes "build")) (word_rule (codes "source"))

-- `sim V IMG CYCLES [--delays F]`
abbrev pub sim_app : App
sim_app =
    with_rule (with_rule (with_rule (with_rule (new_app (codes "sim"))
    (word_rule (codes "netlist"))) (word_rule (codes "image"))) (word_rule (codes "cycles"))) (option_rule (codes "delays"))

-- `wave SRC IMG CYCLES [--delays F]`
abbrev pub wave_app : App
wave_app =
    with_rule (with_rule (with_rule (with_rule (new_app (codes "wave"))
    (word_rule (codes "source"))) (word_rule (codes "image"))) (word_rule (codes "cycles"))) (option_rule (codes "delays"))

-- `view SRC IMG CYCLES [--delays F]`
abbrev pub view_app : App
view_app =
    with_rule (with_rule (with_rule (with_rule (new_app (codes "view"))
    (word_rule (codes "source"))) (word_rule (codes "image"))) (word_rule (codes "cycles"))) (option_rule (codes "delays"))

-- the command without its subcommands, over the words after the program's name
abbrev pub bare_app : App
bare_app = on_top (λ s. record s { no_binary_name = true }) (new_app (codes "pdl"))

-- the whole command `pdl`, with its subcommands
abbrev pub pdl_app : App
pdl_app =
    with_subcommand (with_subcommand (with_subcommand (with_subcommand (with_subcommand
    (with_subcommand (with_subcommand (with_subcommand (with_subcommand bare_app
    check_app.top) run_app.top) seq_app.top) asm_app.top) gen_app.top) build_app.top) sim_app.top) wave_app.top) view_app.top
