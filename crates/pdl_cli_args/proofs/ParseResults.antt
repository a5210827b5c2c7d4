-- What a parse says of the words.
use Rattle.std.proofs.Common.{◌≡◌, ◌≢◌, true, List, [], ◌∷◌, Option, None, inl, inr, refl, sym, ap, ap₂, ◌∙◌}
use Rattle.std.specs.Prelude.{option_and_then}
use Rattle.clap.specs.Words.{App, Kinds, HasKind, HasMatchesOf, Row, Text, fault_of, is_simple, is_simple_and_free, kind_of, subcommand_rows_of, subcommand_of}
use Rattle.clap.specs.declared.error.Error.{Error}
use Rattle.clap.specs.declared.error.ErrorKind.TheVariants.{OutOfMemory}
use Rattle.clap.specs.declared.parser.matches.ArgMatches.{ArgMatches}
use Rattle.clap.proofs.OnLiterals.{clap_on_literals}
use Rattle.pdl_cli_args.specs.App.{pdl_app}
use Rattle.pdl_cli_args.specs.Line.{where_taken, line, command_of}

is_free : is_simple_and_free pdl_app ≡ true
unfolding clap_on_literals
is_free = refl

simple : is_simple pdl_app ≡ true
unfolding clap_on_literals
simple = refl

-- where memory did not run out, there is a kind
refused : (kinds : Kinds) (e : Error) (o : Option (Text × List Row)) → HasKind kinds e → kind_of e ≢ OutOfMemory
    → where_taken kinds o ≡ None
refused [] e o (inl m) n = absurd (n m)
refused [] e o (inr m) n = absurd m
refused (k ∷ ks) e o h n = refl

-- an error that is not for memory
pub err_line : (a : App) (ws : List Text) (e : Error)
    → a ≡ pdl_app → (is_simple_and_free a ≡ true → HasKind (fault_of a ws) e) → kind_of e ≢ OutOfMemory → line ws ≡ None
unfolding line
err_line a ws e is h n =
    ap (λ (x : App). where_taken (fault_of x ws) (subcommand_of pdl_app ws)) (sym is)
    ∙ refused (fault_of a ws) e (subcommand_of pdl_app ws) (h (ap is_simple_and_free is ∙ is_free)) n

-- where the words match the command line of pdl, they are read as the command that the matches give
pub ok_line : (a : App) (ws : List Text) (m : ArgMatches)
    → a ≡ pdl_app → (is_simple_and_free a ≡ true → fault_of a ws ≡ []) → HasMatchesOf a ws m
    → line ws ≡ option_and_then command_of (subcommand_rows_of m)
unfolding line
ok_line a ws m is clean has =
    ap₂ where_taken (ap (λ (x : App). fault_of x ws) (sym is) ∙ clean (ap is_simple_and_free is ∙ is_free))
    (ap (λ (x : App). subcommand_of x ws) (sym is) ∙ sym ((has (ap is_simple is ∙ simple)).1))
