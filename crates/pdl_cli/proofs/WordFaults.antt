-- Words that are no command, or for which memory runs out: nothing is read.
use Rattle.std.proofs.Common.{◌≡◌, ℕ, List, [], Option, Some, None, refl, sym, subst, ap, arith}
use Rattle.std.specs.Prelude.{Result, Err, IsErrOf}
use Rattle.pdl_system.specs.Answers.{Answer, Since}
use Rattle.pdl_cli_args.specs.declared.line.LineError.{LineError}
use Rattle.pdl_cli_args.specs.declared.line.LineError.TheVariants as line
use Rattle.pdl_cli_args.specs.Line.{Command}
use Rattle.pdl_cli_failure.specs.declared.failure.Failure.{Failure}
use Rattle.pdl_cli_failure.specs.declared.failure.Failure.TheVariants.{Usage, NoMemory}
use Rattle.pdl_cli_failure.specs.Failures.{of_line}
use Rattle.pdl_cli_commands.specs.Reading.{files, IsReading}
use Rattle.pdl_cli_commands.specs.Outcomes.{seen_of, ReadsInOrder, Explains}
use Rattle.pdl_cli_commands.proofs.Explanations.{none_since}

nothing_read : (command : Option Command) → ReadsInOrder command []
nothing_read None = refl
nothing_read (Some command) =
    record { unread = files command; in_order = refl; given = λ k l. absurd (omega (arith, l)); right = λ k l. absurd (omega (arith, l)) }

fails_so : {T : Type 0} (command : Option Command) (e : LineError) (faults faults_now : ℕ) (written : Option (List ℕ)) (writes writes_now : ℕ)
    → (e ≡ line.Usage → command ≡ None)
    → Explains {T = T} command (seen_of [] faults faults_now written written writes writes_now) (Err (of_line e))
fails_so None line.Usage faults faults_now written writes writes_now none = record { order = refl; cause = refl }
fails_so (Some command) line.Usage faults faults_now written writes writes_now none = absurd (cc (none refl))
fails_so None line.NoMemory faults faults_now written writes writes_now none = record { order = refl; cause = refl }
fails_so (Some command) line.NoMemory faults faults_now written writes writes_now none =
    record { order = nothing_read (Some command); cause = refl }

-- what explains that words are no command
pub words_fail : {T : Type 0} (command : Option Command) (e : LineError) (f : Failure) (old : List Answer) (faults faults_now : ℕ)
    (written : Option (List ℕ)) (writes writes_now : ℕ) → f ≡ of_line e → (e ≡ line.Usage → command ≡ None)
    → Since old old (λ reads. Explains {T = T} command (seen_of reads faults faults_now written written writes writes_now) (Err f))
words_fail {T} command e f old faults faults_now written writes writes_now is none =
    none_since old old (λ reads. Explains {T = T} command (seen_of reads faults faults_now written written writes writes_now) (Err f)) refl
    (subst (λ (x : Failure). Explains {T = T} command (seen_of [] faults faults_now written written writes writes_now) (Err x)) (sym is)
    (fails_so command e faults faults_now written writes writes_now none))
