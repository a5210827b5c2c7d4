-- What single lists of words are.
use Rattle.std.proofs.Common.{◌≡◌, [], ◌∷◌, Some, None, codes, refl}
use Rattle.clap.proofs.OnLiterals.{clap_on_literals}
use Rattle.pdl_cli_args.specs.Line.{line, check, run, seq, asm, gen, build, sim, wave, view}

ran : line (codes "run" ∷ codes "a.pdl" ∷ codes "e.img" ∷ codes "17" ∷ []) ≡ Some (run (codes "a.pdl") (codes "e.img") 17 None)
unfolding clap_on_literals line
ran = refl

most_cycles : line (codes "run" ∷ codes "a" ∷ codes "b" ∷ codes "1000000" ∷ []) ≡ Some (run (codes "a") (codes "b") 1000000 None)
unfolding clap_on_literals line
most_cycles = refl

no_cycles : line (codes "run" ∷ codes "a" ∷ codes "b" ∷ codes "0" ∷ []) ≡ Some (run (codes "a") (codes "b") 0 None)
unfolding clap_on_literals line
no_cycles = refl

seven_digits : line (codes "run" ∷ codes "a" ∷ codes "b" ∷ codes "0000000" ∷ []) ≡ Some (run (codes "a") (codes "b") 0 None)
unfolding clap_on_literals line
seven_digits = refl

eight_digits : line (codes "run" ∷ codes "a" ∷ codes "b" ∷ codes "00000001" ∷ []) ≡ None
unfolding clap_on_literals line
eight_digits = refl

above_most : line (codes "run" ∷ codes "a" ∷ codes "b" ∷ codes "1000001" ∷ []) ≡ None
unfolding clap_on_literals line
above_most = refl

signed : line (codes "run" ∷ codes "a" ∷ codes "b" ∷ codes "+5" ∷ []) ≡ None
unfolding clap_on_literals line
signed = refl

minus : line (codes "run" ∷ codes "a" ∷ codes "b" ∷ codes "-5" ∷ []) ≡ None
unfolding clap_on_literals line
minus = refl

no_number : line (codes "run" ∷ codes "a" ∷ codes "b" ∷ codes "5x" ∷ []) ≡ None
unfolding clap_on_literals line
no_number = refl

empty_number : line (codes "run" ∷ codes "a" ∷ codes "b" ∷ codes "" ∷ []) ≡ None
unfolding clap_on_literals line
empty_number = refl

empty_names : line (codes "run" ∷ codes "" ∷ codes "" ∷ codes "5" ∷ []) ≡ Some (run (codes "") (codes "") 5 None)
unfolding clap_on_literals line
empty_names = refl

dash_names : line (codes "run" ∷ codes "-" ∷ codes "-" ∷ codes "5" ∷ []) ≡ Some (run (codes "-") (codes "-") 5 None)
unfolding clap_on_literals line
dash_names = refl

after_dashes : line (codes "run" ∷ codes "--" ∷ codes "-a" ∷ codes "--b" ∷ codes "5" ∷ []) ≡ Some (run (codes "-a") (codes "--b") 5 None)
unfolding clap_on_literals line
after_dashes = refl

dashes_between : line (codes "run" ∷ codes "a" ∷ codes "--" ∷ codes "-b" ∷ codes "5" ∷ []) ≡ Some (run (codes "a") (codes "-b") 5 None)
unfolding clap_on_literals line
dashes_between = refl

dashes_at_the_end : line (codes "run" ∷ codes "a" ∷ codes "b" ∷ codes "5" ∷ codes "--" ∷ []) ≡ Some (run (codes "a") (codes "b") 5 None)
unfolding clap_on_literals line
dashes_at_the_end = refl

dashes_alone : line (codes "run" ∷ codes "a" ∷ codes "b" ∷ codes "--" ∷ codes "--" ∷ []) ≡ None
unfolding clap_on_literals line
dashes_alone = refl

dashes_before : line (codes "--" ∷ codes "run" ∷ codes "a" ∷ codes "b" ∷ codes "5" ∷ []) ≡ None
unfolding clap_on_literals line
dashes_before = refl

help_flag : line (codes "--help" ∷ []) ≡ None
unfolding clap_on_literals line
help_flag = refl

help_letter : line (codes "-h" ∷ []) ≡ None
unfolding clap_on_literals line
help_letter = refl

help_word : line (codes "help" ∷ []) ≡ None
unfolding clap_on_literals line
help_word = refl

help_of_run : line (codes "help" ∷ codes "run" ∷ []) ≡ None
unfolding clap_on_literals line
help_of_run = refl

help_below : line (codes "run" ∷ codes "a" ∷ codes "b" ∷ codes "5" ∷ codes "--help" ∷ []) ≡ None
unfolding clap_on_literals line
help_below = refl

help_letter_below : line (codes "run" ∷ codes "-h" ∷ []) ≡ None
unfolding clap_on_literals line
help_letter_below = refl

version : line (codes "--version" ∷ []) ≡ None
unfolding clap_on_literals line
version = refl

version_below : line (codes "run" ∷ codes "a" ∷ codes "b" ∷ codes "5" ∷ codes "-V" ∷ []) ≡ None
unfolding clap_on_literals line
version_below = refl

no_words : line [] ≡ None
unfolding clap_on_literals line
no_words = refl

no_command : line (codes "a" ∷ []) ≡ None
unfolding clap_on_literals line
no_command = refl

another_case : line (codes "Run" ∷ codes "a" ∷ codes "b" ∷ codes "5" ∷ []) ≡ None
unfolding clap_on_literals line
another_case = refl

start_of_a_name : line (codes "ru" ∷ codes "a" ∷ codes "b" ∷ codes "5" ∷ []) ≡ None
unfolding clap_on_literals line
start_of_a_name = refl

command_alone : line (codes "run" ∷ []) ≡ None
unfolding clap_on_literals line
command_alone = refl

one_word : line (codes "run" ∷ codes "a" ∷ []) ≡ None
unfolding clap_on_literals line
one_word = refl

two_words : line (codes "run" ∷ codes "a" ∷ codes "b" ∷ []) ≡ None
unfolding clap_on_literals line
two_words = refl

four_words : line (codes "run" ∷ codes "a" ∷ codes "b" ∷ codes "5" ∷ codes "6" ∷ []) ≡ None
unfolding clap_on_literals line
four_words = refl

option_without_value : line (codes "run" ∷ codes "a" ∷ codes "b" ∷ codes "5" ∷ codes "--delays" ∷ []) ≡ None
unfolding clap_on_literals line
option_without_value = refl

option_before : line (codes "run" ∷ codes "--delays=f" ∷ codes "a" ∷ codes "b" ∷ codes "5" ∷ [])
    ≡ Some (run (codes "a") (codes "b") 5 (Some (codes "f")))
unfolding clap_on_literals line
option_before = refl

option_between : line (codes "sim" ∷ codes "a" ∷ codes "--delays" ∷ codes "f" ∷ codes "b" ∷ codes "5" ∷ [])
    ≡ Some (sim (codes "a") (codes "b") 5 (Some (codes "f")))
unfolding clap_on_literals line
option_between = refl

option_after : line (codes "wave" ∷ codes "a" ∷ codes "b" ∷ codes "5" ∷ codes "--delays" ∷ codes "f" ∷ [])
    ≡ Some (wave (codes "a") (codes "b") 5 (Some (codes "f")))
unfolding clap_on_literals line
option_after = refl

option_twice : line (codes "run" ∷ codes "a" ∷ codes "b" ∷ codes "5" ∷ codes "--delays" ∷ codes "f" ∷ codes "--delays" ∷ codes "g" ∷ [])
    ≡ None
unfolding clap_on_literals line
option_twice = refl

option_of_seq : line (codes "seq" ∷ codes "a" ∷ codes "b" ∷ codes "5" ∷ codes "--delays" ∷ codes "f" ∷ []) ≡ None
unfolding clap_on_literals line
option_of_seq = refl

start_of_the_option : line (codes "run" ∷ codes "a" ∷ codes "b" ∷ codes "5" ∷ codes "--delay" ∷ codes "f" ∷ []) ≡ None
unfolding clap_on_literals line
start_of_the_option = refl

a_letter : line (codes "run" ∷ codes "-x" ∷ codes "a" ∷ codes "b" ∷ codes "5" ∷ []) ≡ None
unfolding clap_on_literals line
a_letter = refl

checked : line (codes "check" ∷ codes "a.pdl" ∷ []) ≡ Some (check (codes "a.pdl"))
unfolding clap_on_literals line
checked = refl

check_alone : line (codes "check" ∷ []) ≡ None
unfolding clap_on_literals line
check_alone = refl

check_two : line (codes "check" ∷ codes "a.pdl" ∷ codes "e.img" ∷ []) ≡ None
unfolding clap_on_literals line
check_two = refl

help_of_check : line (codes "help" ∷ codes "check" ∷ []) ≡ None
unfolding clap_on_literals line
help_of_check = refl

assembled : line (codes "asm" ∷ codes "t.toml" ∷ codes "p.s" ∷ []) ≡ Some (asm (codes "t.toml") (codes "p.s"))
unfolding clap_on_literals line
assembled = refl

asm_one : line (codes "asm" ∷ codes "t.toml" ∷ []) ≡ None
unfolding clap_on_literals line
asm_one = refl

asm_three : line (codes "asm" ∷ codes "a" ∷ codes "b" ∷ codes "c" ∷ []) ≡ None
unfolding clap_on_literals line
asm_three = refl

sequential : line (codes "seq" ∷ codes "a.pdl" ∷ codes "e.img" ∷ codes "17" ∷ []) ≡ Some (seq (codes "a.pdl") (codes "e.img") 17)
unfolding clap_on_literals line
sequential = refl

most_threads : line (codes "seq" ∷ codes "a" ∷ codes "b" ∷ codes "1000000" ∷ []) ≡ Some (seq (codes "a") (codes "b") 1000000)
unfolding clap_on_literals line
most_threads = refl

above_most_threads : line (codes "seq" ∷ codes "a" ∷ codes "b" ∷ codes "1000001" ∷ []) ≡ None
unfolding clap_on_literals line
above_most_threads = refl

seq_two : line (codes "seq" ∷ codes "a" ∷ codes "b" ∷ []) ≡ None
unfolding clap_on_literals line
seq_two = refl

generated : line (codes "gen" ∷ codes "0" ∷ []) ≡ Some (gen 0)
unfolding clap_on_literals line
generated = refl

most_number : line (codes "gen" ∷ codes "2147483647" ∷ []) ≡ Some (gen 2147483647)
unfolding clap_on_literals line
most_number = refl

above_most_number : line (codes "gen" ∷ codes "2147483648" ∷ []) ≡ None
unfolding clap_on_literals line
above_most_number = refl

eleven_digits : line (codes "gen" ∷ codes "00000000001" ∷ []) ≡ None
unfolding clap_on_literals line
eleven_digits = refl

gen_alone : line (codes "gen" ∷ []) ≡ None
unfolding clap_on_literals line
gen_alone = refl

built : line (codes "build" ∷ codes "a.pdl" ∷ []) ≡ Some (build (codes "a.pdl"))
unfolding clap_on_literals line
built = refl

build_alone : line (codes "build" ∷ []) ≡ None
unfolding clap_on_literals line
build_alone = refl

build_two : line (codes "build" ∷ codes "a.pdl" ∷ codes "e.img" ∷ []) ≡ None
unfolding clap_on_literals line
build_two = refl

simulated : line (codes "sim" ∷ codes "a.v" ∷ codes "e.img" ∷ codes "17" ∷ []) ≡ Some (sim (codes "a.v") (codes "e.img") 17 None)
unfolding clap_on_literals line
simulated = refl

most_simulated : line (codes "sim" ∷ codes "v" ∷ codes "i" ∷ codes "1000000" ∷ []) ≡ Some (sim (codes "v") (codes "i") 1000000 None)
unfolding clap_on_literals line
most_simulated = refl

above_most_simulated : line (codes "sim" ∷ codes "v" ∷ codes "i" ∷ codes "1000001" ∷ []) ≡ None
unfolding clap_on_literals line
above_most_simulated = refl

sim_two : line (codes "sim" ∷ codes "v" ∷ codes "i" ∷ []) ≡ None
unfolding clap_on_literals line
sim_two = refl

dumped : line (codes "wave" ∷ codes "a.pdl" ∷ codes "e.img" ∷ codes "17" ∷ []) ≡ Some (wave (codes "a.pdl") (codes "e.img") 17 None)
unfolding clap_on_literals line
dumped = refl

most_dumped : line (codes "wave" ∷ codes "a" ∷ codes "b" ∷ codes "1000000" ∷ []) ≡ Some (wave (codes "a") (codes "b") 1000000 None)
unfolding clap_on_literals line
most_dumped = refl

above_most_dumped : line (codes "wave" ∷ codes "a" ∷ codes "b" ∷ codes "1000001" ∷ []) ≡ None
unfolding clap_on_literals line
above_most_dumped = refl

wave_two : line (codes "wave" ∷ codes "a" ∷ codes "b" ∷ []) ≡ None
unfolding clap_on_literals line
wave_two = refl

viewed : line (codes "view" ∷ codes "a.pdl" ∷ codes "e.img" ∷ codes "17" ∷ []) ≡ Some (view (codes "a.pdl") (codes "e.img") 17 None)
unfolding clap_on_literals line
viewed = refl

viewed_late : line (codes "view" ∷ codes "a" ∷ codes "b" ∷ codes "5" ∷ codes "--delays" ∷ codes "f" ∷ [])
    ≡ Some (view (codes "a") (codes "b") 5 (Some (codes "f")))
unfolding clap_on_literals line
viewed_late = refl

most_viewed : line (codes "view" ∷ codes "a" ∷ codes "b" ∷ codes "1000000" ∷ []) ≡ Some (view (codes "a") (codes "b") 1000000 None)
unfolding clap_on_literals line
most_viewed = refl

above_most_viewed : line (codes "view" ∷ codes "a" ∷ codes "b" ∷ codes "1000001" ∷ []) ≡ None
unfolding clap_on_literals line
above_most_viewed = refl

view_two : line (codes "view" ∷ codes "a" ∷ codes "b" ∷ []) ≡ None
unfolding clap_on_literals line
view_two = refl
