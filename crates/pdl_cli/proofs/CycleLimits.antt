-- The number of cycles of a command line.
use Rattle.std.proofs.Common.{◌≡◌, ℕ, ◌≤◌, Bool, true, false, ◌&&◌, List, [], ◌∷◌, Option, Some, None, codes, refl, subst}
use Rattle.std.specs.Prelude.{option_map, option_and_then, nat_le, if◌then◌else◌}
use Rattle.std.specs.Str.{bytes_eq}
use Rattle.std.specs.Str.Parse.{digits_value}
use Rattle.std.proofs.lemmas.Bool.{leb-true}
use Rattle.clap.specs.Walk.{Row, Text, first_of}
use Rattle.clap.specs.Simple.{subcommand_of}
use Rattle.clap.specs.Faults.{fault_of}
use Rattle.clap.specs.Kinds.{Kinds}
use Rattle.pdl_cli_args.specs.App.{pdl_app}
use Rattle.pdl_cli_args.specs.Number.{number_of, is_numeral_of}
use Rattle.pdl_cli.specs.Top.{IsFew}
use Rattle.pdl_cli_args.specs.Line.{Command, check, run, seq, asm, gen, build, sim, wave, view, check_of, run_of, seq_of, asm_of, gen_of, build_of, sim_of, wave_of, view_of, netlist_command_of, command_of, where_taken, line}

tested : (a b : Bool) (n m : ℕ) → (b ≡ true → n ≤ m) → (c : ℕ) → (if a && b then Some n else None) ≡ Some c → c ≤ m
tested true true n m h c e = let s : n ≡ c = cc e in rw (← s) (h refl)
tested true false n m h c e = absurd (cc e)
tested false b n m h c e = absurd (cc e)

number_small : (digits most : ℕ) (t : List ℕ) (c : ℕ) → number_of digits most t ≡ Some c → c ≤ most
number_small digits most t c e =
    tested (is_numeral_of digits t) (nat_le (digits_value 10 t) most) (digits_value 10 t) most (leb-true (digits_value 10 t) most) c e

few_same : (a c : Command) → IsFew a → Some a ≡ Some c → IsFew c
few_same a c h e = let same : a ≡ c = cc e in subst IsFew same h

few_mapped : (f : ℕ → Command) (o : Option ℕ) (c : Command) → ((k : ℕ) → o ≡ Some k → IsFew (f k)) → option_map f o ≡ Some c → IsFew c
few_mapped f None c h e = absurd (cc e)
few_mapped f (Some k) c h e = few_same (f k) c (h k refl) e

of_check : (s : Option Text) (c : Command) → check_of s ≡ Some c → IsFew c
of_check None c e = absurd (cc e)
of_check (Some s) c e = few_same (check s) c tt e

of_run : (s i t d : Option Text) (c : Command) → run_of s i t d ≡ Some c → IsFew c
of_run None i t d c e = absurd (cc e)
of_run (Some s) None t d c e = absurd (cc e)
of_run (Some s) (Some i) None d c e = absurd (cc e)
of_run (Some s) (Some i) (Some t) d c e = few_mapped (λ k. run s i k d) (number_of 7 1000000 t) c (number_small 7 1000000 t) e

of_seq : (s i t : Option Text) (c : Command) → seq_of s i t ≡ Some c → IsFew c
of_seq None i t c e = absurd (cc e)
of_seq (Some s) None t c e = absurd (cc e)
of_seq (Some s) (Some i) None c e = absurd (cc e)
of_seq (Some s) (Some i) (Some t) c e = few_mapped (seq s i) (number_of 7 1000000 t) c (λ k h. tt) e

of_asm : (t s : Option Text) (c : Command) → asm_of t s ≡ Some c → IsFew c
of_asm None s c e = absurd (cc e)
of_asm (Some t) None c e = absurd (cc e)
of_asm (Some t) (Some s) c e = few_same (asm t s) c tt e

of_gen : (t : Option Text) (c : Command) → gen_of t ≡ Some c → IsFew c
of_gen None c e = absurd (cc e)
of_gen (Some t) c e = few_mapped gen (number_of 10 2147483647 t) c (λ k h. tt) e

of_build : (s : Option Text) (c : Command) → build_of s ≡ Some c → IsFew c
of_build None c e = absurd (cc e)
of_build (Some s) c e = few_same (build s) c tt e

of_sim : (v i t d : Option Text) (c : Command) → sim_of v i t d ≡ Some c → IsFew c
of_sim None i t d c e = absurd (cc e)
of_sim (Some v) None t d c e = absurd (cc e)
of_sim (Some v) (Some i) None d c e = absurd (cc e)
of_sim (Some v) (Some i) (Some t) d c e = few_mapped (λ k. sim v i k d) (number_of 7 1000000 t) c (number_small 7 1000000 t) e

of_wave : (s i t d : Option Text) (c : Command) → wave_of s i t d ≡ Some c → IsFew c
of_wave None i t d c e = absurd (cc e)
of_wave (Some s) None t d c e = absurd (cc e)
of_wave (Some s) (Some i) None d c e = absurd (cc e)
of_wave (Some s) (Some i) (Some t) d c e = few_mapped (λ k. wave s i k d) (number_of 7 1000000 t) c (number_small 7 1000000 t) e

of_view : (s i t d : Option Text) (c : Command) → view_of s i t d ≡ Some c → IsFew c
of_view None i t d c e = absurd (cc e)
of_view (Some s) None t d c e = absurd (cc e)
of_view (Some s) (Some i) None d c e = absurd (cc e)
of_view (Some s) (Some i) (Some t) d c e = few_mapped (λ k. view s i k d) (number_of 7 1000000 t) c (number_small 7 1000000 t) e

of_none : (c : Command) → None ≡ Some c → IsFew c
of_none c e = absurd (cc e)

of_if : (b : Bool) (o rest : Option Command) (c : Command)
    → (o ≡ Some c → IsFew c) → (rest ≡ Some c → IsFew c) → (if b then o else rest) ≡ Some c → IsFew c
of_if true o rest c h k e = h e
of_if false o rest c h k e = k e

of_netlist : (f : Text × List Row) (c : Command) → netlist_command_of f ≡ Some c → IsFew c
of_netlist f c e =
    let source : Option Text = first_of (codes "source") f.1 in
    let netlist : Option Text = first_of (codes "netlist") f.1 in
    let image : Option Text = first_of (codes "image") f.1 in
    let cycles : Option Text = first_of (codes "cycles") f.1 in
    let delays : Option Text = first_of (codes "delays") f.1 in
    let dumped : Option Command = if bytes_eq f.0 (codes "wave") then wave_of source image cycles delays else None in
    let simulated : Option Command = if bytes_eq f.0 (codes "sim") then sim_of netlist image cycles delays else dumped in
    of_if (bytes_eq f.0 (codes "build")) (build_of source) simulated c (of_build source c)
    (of_if (bytes_eq f.0 (codes "sim")) (sim_of netlist image cycles delays) dumped c (of_sim netlist image cycles delays c)
    (of_if (bytes_eq f.0 (codes "wave")) (wave_of source image cycles delays) None c (of_wave source image cycles delays c) (of_none c))) e

of_found : (found : Option (Text × List Row)) (c : Command) → option_and_then command_of found ≡ Some c → IsFew c
of_found None c e = absurd (cc e)
of_found (Some f) c e =
    let source : Option Text = first_of (codes "source") f.1 in
    let image : Option Text = first_of (codes "image") f.1 in
    let cycles : Option Text = first_of (codes "cycles") f.1 in
    let delays : Option Text = first_of (codes "delays") f.1 in
    let table : Option Text = first_of (codes "table") f.1 in
    let text : Option Text = first_of (codes "text") f.1 in
    let threads : Option Text = first_of (codes "threads") f.1 in
    let number : Option Text = first_of (codes "number") f.1 in
    let viewed : Option Command = if bytes_eq f.0 (codes "view") then view_of source image cycles delays else netlist_command_of f in
    let generated : Option Command = if bytes_eq f.0 (codes "gen") then gen_of number else viewed in
    let assembled : Option Command = if bytes_eq f.0 (codes "asm") then asm_of table text else generated in
    let in_turn : Option Command = if bytes_eq f.0 (codes "seq") then seq_of source image threads else assembled in
    let ran : Option Command = if bytes_eq f.0 (codes "run") then run_of source image cycles delays else in_turn in
    of_if (bytes_eq f.0 (codes "check")) (check_of source) ran c (of_check source c)
    (of_if (bytes_eq f.0 (codes "run")) (run_of source image cycles delays) in_turn c (of_run source image cycles delays c)
    (of_if (bytes_eq f.0 (codes "seq")) (seq_of source image threads) assembled c (of_seq source image threads c)
    (of_if (bytes_eq f.0 (codes "asm")) (asm_of table text) generated c (of_asm table text c)
    (of_if (bytes_eq f.0 (codes "gen")) (gen_of number) viewed c (of_gen number c)
    (of_if (bytes_eq f.0 (codes "view")) (view_of source image cycles delays)
    (netlist_command_of f) c (of_view source image cycles delays c) (of_netlist f c)))))) e

of_taken : (kinds : Kinds) (found : Option (Text × List Row)) (c : Command) → where_taken kinds found ≡ Some c → IsFew c
of_taken [] found c e = of_found found c e
of_taken (k ∷ ks) found c e = absurd (cc e)

-- a line asks for at most 1,000,000 cycles
pub few : (words : List Text) (command : Command) → line words ≡ Some command → IsFew command
unfolding line
few words c e = of_taken (fault_of pdl_app words) (subcommand_of pdl_app words) c e
