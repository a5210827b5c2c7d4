-- The command that a list of words is.
use Rattle.std.specs.Prelude.{ℕ, List, [], ◌∷◌, Option, Some, None, codes, option_map, option_and_then, if◌then◌else◌}
use Rattle.std.specs.Str.{bytes_eq}
use Rattle.clap.specs.Walk.{Row, Text, first_of}
use Rattle.clap.specs.Simple.{subcommand_of}
use Rattle.clap.specs.Faults.{fault_of}
use Rattle.clap.specs.Kinds.{Kinds}
use Rattle.pdl_cli_args.specs.App.{pdl_app}
use Rattle.pdl_cli_args.specs.Number.{number_of}

-- a command with its words, of which the last may be left out where it is optional: the name of a delay file
pub data Command : Type 0 where
  check : (source : Text) → Command
  run : (source image : Text) (cycles : ℕ) (delays : Option Text) → Command
  seq : (source image : Text) (threads : ℕ) → Command
  asm : (table text : Text) → Command
  gen : (number : ℕ) → Command
  build : (source : Text) → Command
  sim : (netlist image : Text) (cycles : ℕ) (delays : Option Text) → Command
  wave : (source image : Text) (cycles : ℕ) (delays : Option Text) → Command
  view : (source image : Text) (cycles : ℕ) (delays : Option Text) → Command

-- `check`
abbrev pub check_of : Option Text → Option Command
check_of (Some source) = Some (check source)
check_of None = None

-- `run`, with a number of cycles up to 1,000,000, and a delay file or none
abbrev pub run_of : Option Text → Option Text → Option Text → Option Text → Option Command
run_of (Some source) (Some image) (Some cycles) delays = option_map (λ k. run source image k delays) (number_of 7 1000000 cycles)
run_of _ _ _ _ = None

-- `seq`, with a number of threads up to 1,000,000
abbrev pub seq_of : Option Text → Option Text → Option Text → Option Command
seq_of (Some source) (Some image) (Some threads) = option_map (seq source image) (number_of 7 1000000 threads)
seq_of _ _ _ = None

-- `asm`
abbrev pub asm_of : Option Text → Option Text → Option Command
asm_of (Some table) (Some text) = Some (asm table text)
asm_of _ _ = None

-- `gen`, with a number below 2 ^ 31
abbrev pub gen_of : Option Text → Option Command
gen_of (Some number) = option_map gen (number_of 10 2147483647 number)
gen_of None = None

-- `build`
abbrev pub build_of : Option Text → Option Command
build_of (Some source) = Some (build source)
build_of None = None

-- `sim`, with a number of cycles up to 1,000,000, and a delay file or none
abbrev pub sim_of : Option Text → Option Text → Option Text → Option Text → Option Command
sim_of (Some netlist) (Some image) (Some cycles) delays = option_map (λ k. sim netlist image k delays) (number_of 7 1000000 cycles)
sim_of _ _ _ _ = None

-- `wave`, with a number of cycles up to 1,000,000, and a delay file or none
abbrev pub wave_of : Option Text → Option Text → Option Text → Option Text → Option Command
wave_of (Some source) (Some image) (Some cycles) delays = option_map (λ k. wave source image k delays) (number_of 7 1000000 cycles)
wave_of _ _ _ _ = None

-- `view`, with a number of cycles up to 1,000,000, and a delay file or none
abbrev pub view_of : Option Text → Option Text → Option Text → Option Text → Option Command
view_of (Some source) (Some image) (Some cycles) delays = option_map (λ k. view source image k delays) (number_of 7 1000000 cycles)
view_of _ _ _ _ = None

-- the command of a subcommand that shows or reads a netlist, by its name, with the words that it was given
abbrev pub netlist_command_of : Text × List Row → Option Command
netlist_command_of (name, rows) =
    if bytes_eq name (codes "build")
    then build_of (first_of (codes "source") rows)
    else
    if bytes_eq name (codes "sim")
    then sim_of (first_of (codes "netlist") rows) (first_of (codes "image") rows) (first_of (codes "cycles") rows) (first_of (codes "delays") rows)
    else
    if bytes_eq name (codes "wave")
    then wave_of (first_of (codes "source") rows) (first_of (codes "image") rows) (first_of (codes "cycles") rows) (first_of (codes "delays") rows)
    else None

-- the command of a subcommand's name with the words that it was given
abbrev pub command_of : Text × List Row → Option Command
command_of (name, rows) =
    if bytes_eq name (codes "check")
    then check_of (first_of (codes "source") rows)
    else
    if bytes_eq name (codes "run")
    then run_of (first_of (codes "source") rows) (first_of (codes "image") rows) (first_of (codes "cycles") rows) (first_of (codes "delays") rows)
    else
    if bytes_eq name (codes "seq")
    then seq_of (first_of (codes "source") rows) (first_of (codes "image") rows) (first_of (codes "threads") rows)
    else
    if bytes_eq name (codes "asm")
    then asm_of (first_of (codes "table") rows) (first_of (codes "text") rows)
    else
    if bytes_eq name (codes "gen")
    then gen_of (first_of (codes "number") rows)
    else
    if bytes_eq name (codes "view")
    then view_of (first_of (codes "source") rows) (first_of (codes "image") rows) (first_of (codes "cycles") rows) (first_of (codes "delays") rows)
    else netlist_command_of (name, rows)

-- the command of a subcommand, where `clap` has no fault to name
abbrev pub where_taken : Kinds → Option (Text × List Row) → Option Command
where_taken [] found = option_and_then command_of found
where_taken (k ∷ ks) found = None

-- the command that the words are, by what `clap` takes
unfoldable pub line : List Text → Option Command
line words = where_taken (fault_of pdl_app words) (subcommand_of pdl_app words)
