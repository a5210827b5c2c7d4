-- What explains the outcome of a command, from what its parts say.
use Rattle.std.proofs.Common.{◌≡◌, ℕ, ◌≤◌, List, [], ◌∷◌, ◌++◌, Option, Vec, Global, Some, refl, sym, ap, ◌∙◌, subst, arith, append_assoc, append-nil}
use Rattle.std.specs.Prelude.{Result, Ok, Err, IfOk, IfErr, MatchResult}
use Rattle.pdl_kit.specs.declared.rule.Rule.{Rule}
use Rattle.pdl_kit.specs.Counts.{HasCause, Rose}
use Rattle.pdl_kit.specs.declared.sink.WriteFailed.{WriteFailed}
use Rattle.pdl_system.specs.Answers.{Answer, Since, gave}
use Rattle.pdl_cli_failure.specs.declared.failure.Position.{Position}
use Rattle.pdl_cli_failure.specs.declared.failure.Failure.{Failure}
use Rattle.pdl_cli_failure.specs.declared.failure.Failure.TheVariants.{Usage, Refused, ReadFault, WriteFault, NoMemory}
use Rattle.pdl_cli_failure.specs.Failures.{of_text}
use Rattle.pdl_trace.specs.declared.text_error.TextError.{TextError}
use Rattle.pdl_trace.specs.declared.text_error.TextError.TheVariants as error
use Rattle.pdl_trace.specs.Passed.{Streams, WritesText}
use Rattle.pdl_gen.specs.Generated as generated
use Rattle.pdl_cli_args.specs.Line.{Command, gen}
use Rattle.pdl_cli_commands.specs.Commands.{Writes, IsWrongFor, IsGenerated, TextFails}
use Rattle.pdl_cli_commands.specs.Reading.{files, texts, IsReading, AreAllGiven}
use Rattle.pdl_cli_commands.specs.Begun.{FileFails}
use Rattle.pdl_cli_commands.specs.Outcomes.{Seen, seen_of, IsMade, Fails, Explains, Streamed}
use Rattle.pdl_cli_commands.proofs.Readings.{may_first, none_wrong_yet, first_read, file_fails}

-- ---- texts that are written while they are made

-- a text that is streamed is one of its kind
pub streamed : (IsText : List ℕ → Type 0) (text : List ℕ) (old new : Option (List ℕ)) (before now : ℕ)
    (r : Result (Unit {0}) TextError) (o : Result (Unit {0}) Failure)
    → o ≡ of_text r → IsText text → Streams old new before now text r → Streamed IsText old new before now o
streamed IsText text old new before now r o e is w = subst (Streamed IsText old new before now) (sym e) (go r w)
  where
    go : (r : Result (Unit {0}) TextError) → Streams old new before now text r → Streamed IsText old new before now (of_text r)
    go (Ok x) w = (text, is, w)
    go (Err error.NoMemory) w = w
    go (Err error.WriteFailed) w = (w.0, text, is, w.1)

-- a text that is written once its memory is there is one of its kind
pub written_streamed : (IsText : List ℕ → Type 0) (text : List ℕ) (old new : Option (List ℕ)) (before now : ℕ)
    (r : Result (Unit {0}) WriteFailed) (o : Result (Unit {0}) Failure)
    → MatchResult r (λ x. o ≡ Ok x) (λ e. o ≡ Err WriteFault) → IsText text → WritesText old new r text
    → HasCause before now r → Streamed IsText old new before now o
written_streamed IsText text old new before now (Ok x) o e is w cause = subst (Streamed IsText old new before now) (sym e) (text, is, w)
written_streamed IsText text old new before now (Err f) o e is w cause = subst (Streamed IsText old new before now) (sym e) (cause.failed, text, is, w)

-- ---- a command that streams

-- a command that streams what it writes of its files' texts
pub streamed_explains : {T : Type 0} (command : Command) (s : Seen) (r : Result T Failure) (IsText : List ℕ → Type 0)
    → IsReading command s.reads → AreAllGiven command s.reads
    → ((text : List ℕ) → IsText text → Writes command (texts s.reads) text)
    → Streamed IsText s.written s.written_now s.writes s.writes_now r → Explains (Some command) s r
streamed_explains command s (Ok x) IsText order all is w = record { order = order; cause = (all, w.0, is w.0 w.1, w.2) }
streamed_explains command s (Err Usage) IsText order all is w = absurd w
streamed_explains command s (Err (Refused rule position)) IsText order all is w = absurd w
streamed_explains command s (Err ReadFault) IsText order all is w = absurd w
streamed_explains command s (Err WriteFault) IsText order all is w = record { order = order; cause = (w.0, all, w.1, is w.1 w.2, w.3) }
streamed_explains command s (Err NoMemory) IsText order all is w = record { order = order; cause = w }

-- ---- failures before anything is written

-- a command that fails before anything is written leaves out as it was
pub silent : {T : Type 0} (command : Command) (s : Seen) (f : Failure) → Fails command s.reads s.faults s.faults_now f
    → s.written_now ≡ s.written → Explains {T = T} (Some command) s (Err f)
silent command s Usage w e = absurd w.cause
silent command s (Refused rule position) w e = record { order = w.order; cause = (w.cause, e) }
silent command s ReadFault w e = record { order = w.order; cause = (w.cause.0, w.cause.1, e) }
silent command s WriteFault w e = absurd w.cause
silent command s NoMemory w e = record { order = w.order; cause = e }

-- a count that rose since some moment rose since an earlier one, where it had not fallen between
pub rose_before : (before mid now : ℕ) → before ≤ mid → Rose mid now → Rose before now
rose_before before mid now h r = omega (arith, h, r)

-- what fails since a later moment fails since an earlier one
pub fails_before : (command : Command) (reads : List Answer) (before mid now : ℕ) (f : Failure) → before ≤ mid
    → Fails command reads mid now f → Fails command reads before now f
fails_before command reads before mid now Usage h w = absurd w.cause
fails_before command reads before mid now (Refused rule position) h w = record { order = w.order; cause = w.cause }
fails_before command reads before mid now ReadFault h w =
    record { order = w.order; cause = (w.cause.0, rose_before before mid now h w.cause.1) }
fails_before command reads before mid now WriteFault h w = absurd w.cause
fails_before command reads before mid now NoMemory h w = record { order = w.order; cause = tt }

-- ---- what is seen from a later moment on

-- what explains a command seen from after a file was read explains it seen from before
pub explained_before : {T : Type 0} (before mid now : ℕ) (reads : List Answer) (old new : Option (List ℕ))
    (writes writes_now : ℕ) (command : Command) (r : Result T Failure)
    → before ≤ mid → Explains (Some command) (seen_of reads mid now old new writes writes_now) r
    → Explains (Some command) (seen_of reads before now old new writes writes_now) r
explained_before before mid now reads old new writes writes_now command (Ok x) h w = record { order = w.order; cause = w.cause }
explained_before before mid now reads old new writes writes_now command (Err Usage) h w = absurd w.cause
explained_before before mid now reads old new writes writes_now command (Err (Refused rule position)) h w =
    record { order = w.order; cause = w.cause }
explained_before before mid now reads old new writes writes_now command (Err ReadFault) h w =
    record { order = w.order; cause = (w.cause.0, rose_before before mid now h w.cause.1, w.cause.2) }
explained_before before mid now reads old new writes writes_now command (Err WriteFault) h w =
    record { order = w.order; cause = w.cause }
explained_before before mid now reads old new writes writes_now command (Err NoMemory) h w =
    record { order = w.order; cause = w.cause }

-- what is so of the reads after one that was made is so of the reads with it
pub read_before : (old mid new : List Answer) (a : Answer) (P : List Answer → Type 0)
    → mid ≡ old ++ a ∷ [] → Since mid new (λ reads. P (a ∷ reads)) → Since old new P
read_before old mid new a P e w = record {
  reads = a ∷ w.reads;
  since = w.since ∙ ap (λ rs. rs ++ w.reads) e ∙ append_assoc old (a ∷ []) w.reads;
  so = w.so;
}

-- what follows from what is so of the reads
pub since_as : (old new : List Answer) (P Q : List Answer → Type 0) → ((reads : List Answer) → P reads → Q reads)
    → Since old new P → Since old new Q
since_as old new P Q f w = record { reads = w.reads; since = w.since; so = f w.reads w.so }

-- where nothing was read it is so of no reads
pub none_since : (old new : List Answer) (P : List Answer → Type 0) → new ≡ old → P [] → Since old new P
none_since old new P e so = record { reads = []; since = e ∙ sym (append-nil old); so = so }

-- what explains a command from after its first file was read explains it from before
pub after_first : {T : Type 0} (command : Command) (r : Result T Failure) (old mid new : List Answer) (a : Answer) (before later now : ℕ)
    (written written_now : Option (List ℕ)) (writes writes_now : ℕ) → mid ≡ old ++ a ∷ [] → before ≤ later
    → Since mid new (λ reads. Explains (Some command) (seen_of (a ∷ reads) later now written written_now writes writes_now) r)
    → Since old new (λ reads. Explains (Some command) (seen_of reads before now written written_now writes writes_now) r)
after_first command r old mid new a before later now written written_now writes writes_now e h w =
    read_before old mid new a (λ reads. Explains (Some command) (seen_of reads before now written written_now writes writes_now) r) e
    (since_as mid new (λ reads. Explains (Some command) (seen_of (a ∷ reads) later now written written_now writes writes_now) r)
    (λ reads. Explains (Some command) (seen_of (a ∷ reads) before now written written_now writes writes_now) r)
    (λ reads x. explained_before before later now (a ∷ reads) written written_now writes writes_now command r h x) w)

-- a command that fails after its first file before anything is written
pub silent_since : {T : Type 0} (command : Command) (f : Failure) (old new front : List Answer) (faults faults_now : ℕ)
    (written : Option (List ℕ)) (writes writes_now : ℕ)
    → Since old new (λ reads. Fails command (front ++ reads) faults faults_now f)
    → Since old new (λ reads. Explains {T = T} (Some command) (seen_of (front ++ reads) faults faults_now written written writes writes_now) (Err f))
silent_since {T} command f old new front faults faults_now written writes writes_now w =
    since_as old new (λ reads. Fails command (front ++ reads) faults faults_now f)
    (λ reads. Explains {T = T} (Some command) (seen_of (front ++ reads) faults faults_now written written writes writes_now) (Err f))
    (λ reads x. silent command (seen_of (front ++ reads) faults faults_now written written writes writes_now) f x refl) w

-- a command whose first file isn't there
pub first_fails : {T : Type 0} (command : Command) (name : List ℕ) (rest : List (List ℕ)) (refused : List ℕ → Rule → Position → Type 0)
    (old new : List Answer) (faults faults_now : ℕ) (written : Option (List ℕ)) (writes writes_now : ℕ) (f : Failure)
    → files command ≡ name ∷ rest
    → ((text : List ℕ) (rule : Rule) (position : Position) → refused text rule position → IsWrongFor command (text ∷ []) rule position)
    → FileFails refused old new faults faults_now name f
    → Since old new (λ reads. Explains {T = T} (Some command) (seen_of reads faults faults_now written written writes writes_now) (Err f))
first_fails command name rest refused old new faults faults_now written writes writes_now f named wrong w =
    silent_since command f old new [] faults faults_now written writes writes_now
    (file_fails command [] name (may_first command name rest named (none_wrong_yet command name rest named)) refused wrong old new faults faults_now f w)

-- memory runs out once the first file is read
pub out_of_memory : {T : Type 0} (command : Command) (name b : List ℕ) (rest : List (List ℕ)) → files command ≡ name ∷ rest
    → (old : List Answer) (faults faults_now : ℕ) (written : Option (List ℕ)) (writes writes_now : ℕ)
    → Since old old (λ reads. Explains {T = T} (Some command) (seen_of (gave name b ∷ reads) faults faults_now written written writes writes_now) (Err NoMemory))
out_of_memory {T} command name b rest named old faults faults_now written writes writes_now =
    none_since old old (λ reads. Explains {T = T} (Some command) (seen_of (gave name b ∷ reads) faults faults_now written written writes writes_now) (Err NoMemory))
    refl (record { order = first_read command name rest named (Some b); cause = refl })

-- ---- texts that are made whole

-- a text that is made whole is written where it is there, else nothing is
pub text_explains : {T : Type 0} (command : Command) (old new : List Answer) (faults faults_now : ℕ) (written written_now : Option (List ℕ))
    (writes writes_now : ℕ) (text : Result (Vec ℕ Global) Failure) (r : Result T Failure)
    → IfOk text (λ t. Since old new (λ reads. IsMade command reads t.items))
    → IfErr text (λ f. Since old new (λ reads. Fails command reads faults faults_now f))
    → IfOk text (λ t. Streamed (λ bytes. bytes ≡ t.items) written written_now writes writes_now r)
    → IfErr text (λ f. (r ≡ Err f) × (written_now ≡ written))
    → Since old new (λ reads. Explains (Some command) (seen_of reads faults faults_now written written_now writes writes_now) r)
text_explains command old new faults faults_now written written_now writes writes_now (Ok t) r is wrong made failed =
    since_as old new (λ reads. IsMade command reads t.items)
    (λ reads. Explains (Some command) (seen_of reads faults faults_now written written_now writes writes_now) r)
    (λ reads m. streamed_explains command (seen_of reads faults faults_now written written_now writes writes_now) r (λ bytes. bytes ≡ t.items)
    m.order m.given (λ bytes e. subst (Writes command (texts reads)) (sym e) m.written) made) is
text_explains {T} command old new faults faults_now written written_now writes writes_now (Err f) r is wrong made failed =
    since_as old new (λ reads. Fails command reads faults faults_now f)
    (λ reads. Explains (Some command) (seen_of reads faults faults_now written written_now writes writes_now) r)
    (λ reads w. subst (λ (x : Result T Failure). Explains (Some command) (seen_of reads faults faults_now written written_now writes writes_now) x)
    (sym failed.0) (silent command (seen_of reads faults faults_now written written_now writes writes_now) f w failed.1)) wrong

-- ---- a command that reads nothing

-- nothing is read of a generated run
pub generated_reading : (number : ℕ) → IsReading (gen number) []
generated_reading number =
    record { unread = []; in_order = refl; given = λ k l. absurd (omega (arith, l)); right = λ k l. absurd (omega (arith, l)) }

-- its text is made of no file
generated_made : (number : ℕ) (old new : List Answer) (text : Result (Vec ℕ Global) Failure) → new ≡ old
    → IfOk text (λ t. IsGenerated number t.items) → IfOk text (λ t. Since old new (λ reads. IsMade (gen number) reads t.items))
generated_made number old new (Ok t) e is =
    none_since old new (λ reads. IsMade (gen number) reads t.items) e (record { order = generated_reading number; given = refl; written = is })
generated_made number old new (Err f) e is = tt

-- and why it isn't made
generated_fails : (number : ℕ) (old new : List Answer) (faults faults_now : ℕ) (text : Result (Vec ℕ Global) Failure) → new ≡ old
    → IfErr text (TextFails (generated.source number))
    → IfErr text (λ f. Since old new (λ reads. Fails (gen number) reads faults faults_now f))
generated_fails number old new faults faults_now (Ok t) e w = tt
generated_fails number old new faults faults_now (Err f) e w =
    none_since old new (λ reads. Fails (gen number) reads faults faults_now f) e (fails f w)
  where
    fails : (f : Failure) → TextFails (generated.source number) f → Fails (gen number) [] faults faults_now f
    fails Usage w = absurd w
    fails (Refused rule position) w = record { order = generated_reading number; cause = w }
    fails ReadFault w = absurd w
    fails WriteFault w = absurd w
    fails NoMemory w = record { order = generated_reading number; cause = tt }

-- so what explains its outcome
pub generated_explains : {T : Type 0} (number : ℕ) (old : List Answer) (faults faults_now : ℕ) (written written_now : Option (List ℕ))
    (writes writes_now : ℕ) (text : Result (Vec ℕ Global) Failure) (r : Result T Failure)
    → IfOk text (λ t. IsGenerated number t.items) → IfErr text (TextFails (generated.source number))
    → IfOk text (λ t. Streamed (λ bytes. bytes ≡ t.items) written written_now writes writes_now r)
    → IfErr text (λ f. (r ≡ Err f) × (written_now ≡ written))
    → Since old old (λ reads. Explains (Some (gen number)) (seen_of reads faults faults_now written written_now writes writes_now) r)
generated_explains number old faults faults_now written written_now writes writes_now text r is wrong =
    text_explains (gen number) old old faults faults_now written written_now writes writes_now text r
    (generated_made number old old text refl is) (generated_fails number old old faults faults_now text refl wrong)
