-- A command that writes its text has no wrong file; so what is seen decides the status, but for want of memory.
use Rattle.std.proofs.Common.{◌≡◌, ℕ, ◌<◌, ◌≤◌, List, [], ◌∷◌, Option, Some, None, Result, Ok, Err, length, inl, inr, refl, sym, subst, ◌∙◌, arith}
use Rattle.pdl_kit.specs.declared.rule.Rule.{Rule}
use Rattle.pdl_system.specs.Answers.{Answer, Since}
use Rattle.pdl_semantics.specs.Tree.{Pipe}
use Rattle.pdl_semantics.specs.Flatten.{flat}
use Rattle.pdl_syntax_grammar.proofs.Places.{one_tree}
use Rattle.pdl_net.specs.declared.Netlist.{Netlist}
use Rattle.pdl_net.specs.Run.{delayed_mems}
use Rattle.pdl_law_parts.specs.Places.{delayed_count}
use Rattle.pdl_image.specs.Delays.{delays as delay_rows}
use Rattle.pdl_image.specs.declared.file_error.FileError.TheVariants as file
use Rattle.pdl_asm_table.specs.declared.table_error.TableError.TheVariants as table_error
use Rattle.pdl_asm_table.specs.Tables.{TableValue}
use Rattle.pdl_asm_table.specs.Documents as documents
use Rattle.pdl_asm.specs.declared.asm_error.AsmError.TheVariants as asm_error
use Rattle.pdl_asm.specs.Assembly as assembly
use Rattle.pdl_gen.specs.Generated.{source}
use Rattle.pdl_cli_args.specs.Line.{Command, check, run, seq, asm, gen, build, sim, wave, view}
use Rattle.pdl_cli_failure.specs.declared.failure.Position.{Position}
use Rattle.pdl_cli_failure.specs.declared.failure.Position.TheVariants.{Line, Insn}
use Rattle.pdl_cli_failure.specs.declared.failure.Failure.{Failure}
use Rattle.pdl_cli_failure.specs.declared.failure.Failure.TheVariants.{Usage, Refused, ReadFault, WriteFault, NoMemory}
use Rattle.pdl_cli_failure.specs.Failures.{status_of, text_of}
use Rattle.pdl_cli_commands.specs.Assembled.{IsWrongText, IsAssembled}
use Rattle.pdl_cli_commands.specs.Replies.{IsSchedule, DelaysRefused}
use Rattle.pdl_cli_commands.specs.Simulated.{IsWrongReplies, IsWrongSim, IsSimulated}
use Rattle.pdl_cli_commands.specs.Commands.{IsAccepted, IsLoaded, IsWrongDelays, IsWrongRun, IsWrongFor, Writes}
use Rattle.pdl_cli_commands.specs.Reading.{files, texts, IsReading, AreAllGiven, HasFailed}
use Rattle.pdl_cli_commands.specs.Outcomes.{Seen, seen_of, Explains}
use Rattle.pdl_cli.specs.Top.{IsDecided, Answers, Decides}
use Rattle.pdl_cli_commands.proofs.OneNetlist.{one_netlist, read_right}
use Rattle.pdl_cli_commands.proofs.RightSources.{kept_unrefused, image_unrefused, start_unrefused}
use Rattle.pdl_cli_commands.proofs.Readings.{few_reads, last_given}

-- ---- texts that are taken

-- the delay file that replies are taken from isn't refused
replies_unrefused : (text : List ℕ) (more : List (List ℕ)) (count cycles : ℕ) (schedule : List ℕ) (rule : Rule) (line : ℕ)
    → IsSchedule (text ∷ more) count cycles schedule → DelaysRefused count text rule line → ⊥
replies_unrefused text more count cycles schedule rule line a w =
    let k : delay_rows count text ≡ Err (file.Refused rule line) = w in
    let l : delay_rows count text ≡ Ok a.0 = a.1 in absurd cc

-- ---- commands on a source

run_right : (b i : List ℕ) (ds : List (List ℕ)) (cycles : ℕ) (schedule : List ℕ) (rule : Rule) (line : ℕ) (p : Pipe) (words : List (List ℕ))
    → IsLoaded b i p words → IsSchedule ds (delayed_count (flat p)) cycles schedule → IsWrongRun (b ∷ i ∷ ds) rule line → ⊥
run_right b i [] cycles schedule rule line p words l a w = image_unrefused b i rule line p words l w
run_right b i (d ∷ []) cycles schedule rule line p words l a w =
    let q : w.pipe ≡ p = one_tree b w.pipe p w.loaded.accepted.text l.accepted.text in
    replies_unrefused d [] (delayed_count (flat p)) cycles schedule rule line a
    (subst (λ (o : Pipe). DelaysRefused (delayed_count (flat o)) d rule line) q w.refused)
run_right b i (d ∷ e ∷ ds) cycles schedule rule line p words l a w = w

sim_right : (b i : List ℕ) (ds : List (List ℕ)) (cycles : ℕ) (text : List ℕ) (rule : Rule) (line : ℕ)
    → IsSimulated b i cycles ds text → IsWrongSim (b ∷ i ∷ ds) rule line → ⊥
sim_right b i [] cycles text rule line s w = start_unrefused b i s.netlist s.words rule line s.started w
sim_right b i (d ∷ []) cycles text rule line s w =
    let n : w.netlist ≡ s.netlist = one_netlist b w.netlist s.netlist w.started.read s.started.read in
    replies_unrefused d [] (length (delayed_mems s.netlist)) cycles s.schedule rule line s.replies
    (subst (λ (k : Netlist). DelaysRefused (length (delayed_mems k)) d rule line) n w.refused)
sim_right b i (d ∷ e ∷ ds) cycles text rule line s w = w

-- a table has one value
pub one_table : (t : List ℕ) (v w : TableValue) → documents.table t ≡ Ok v → documents.table t ≡ Ok w → v ≡ w
one_table t v w a b = cc (a, b)

program_right : (t p text : List ℕ) (rule : Rule) (line : ℕ) → IsAssembled t p text → IsWrongText t p rule line → ⊥
program_right t p text rule line a w =
    let v : w.value ≡ a.value = one_table t w.value a.value w.tabled a.tabled in
    let k : assembly.image a.value p ≡ Err (asm_error.Refused rule line) =
    subst (λ (x : TableValue). assembly.image x p ≡ Err (asm_error.Refused rule line)) v w.refused in
    let l : assembly.image a.value p ≡ Ok text = a.made in absurd cc

-- ---- all commands

-- a command that writes its text has no wrong file
pub exclusive : (command : Command) (ts : List (List ℕ)) (text : List ℕ) (rule : Rule) (position : Position)
    → Writes command ts text → IsWrongFor command ts rule position → ⊥
exclusive (check s) (b ∷ []) text rule (Line n) o w = kept_unrefused b o.pipe rule n o.accepted w
exclusive (check s) (b ∷ []) text rule (Insn n) o w = w
exclusive (check s) [] text rule position o w = o
exclusive (check s) (b ∷ i ∷ ds) text rule position o w = o
exclusive (run s i' c d) (b ∷ i ∷ ds) text rule (Line n) o w = run_right b i ds c o.schedule rule n o.pipe o.words o.loaded o.replies w
exclusive (run s i' c d) (b ∷ i ∷ ds) text rule (Insn n) o w = w
exclusive (run s i' c d) [] text rule position o w = o
exclusive (run s i' c d) (b ∷ []) text rule position o w = o
exclusive (seq s i' k) (b ∷ i ∷ []) text rule (Line n) o w = image_unrefused b i rule n o.pipe o.words o.loaded w
exclusive (seq s i' k) (b ∷ i ∷ []) text rule (Insn n) o w = w
exclusive (seq s i' k) [] text rule position o w = o
exclusive (seq s i' k) (b ∷ []) text rule position o w = o
exclusive (seq s i' k) (b ∷ i ∷ e ∷ ds) text rule position o w = o
exclusive (asm t' p') (t ∷ p ∷ []) text rule (Line n) o w = program_right t p text rule n o w
exclusive (asm t' p') (t ∷ p ∷ []) text rule (Insn n) o w = w
exclusive (asm t' p') [] text rule position o w = o
exclusive (asm t' p') (t ∷ []) text rule position o w = o
exclusive (asm t' p') (t ∷ p ∷ e ∷ ds) text rule position o w = o
exclusive (gen number) [] text rule (Line n) o w = kept_unrefused (source number) o.summary.pipe rule n o.summary.accepted w
exclusive (gen number) [] text rule (Insn n) o w = w
exclusive (gen number) (b ∷ ds) text rule position o w = o
exclusive (build s) (b ∷ []) text rule (Line n) o w = kept_unrefused b o.pipe rule n o.accepted w
exclusive (build s) (b ∷ []) text rule (Insn n) o w = w
exclusive (build s) [] text rule position o w = o
exclusive (build s) (b ∷ i ∷ ds) text rule position o w = o
exclusive (sim v i' c d) (b ∷ i ∷ ds) text rule (Line n) o w = sim_right b i ds c text rule n o w
exclusive (sim v i' c d) (b ∷ i ∷ ds) text rule (Insn n) o w = w
exclusive (sim v i' c d) [] text rule position o w = o
exclusive (sim v i' c d) (b ∷ []) text rule position o w = o
exclusive (wave s i' c d) (b ∷ i ∷ ds) text rule (Line n) o w = run_right b i ds c o.schedule rule n o.pipe o.words o.loaded o.replies w
exclusive (wave s i' c d) (b ∷ i ∷ ds) text rule (Insn n) o w = w
exclusive (wave s i' c d) [] text rule position o w = o
exclusive (wave s i' c d) (b ∷ []) text rule position o w = o
exclusive (view s i' c d) (b ∷ i ∷ ds) text rule (Line n) o w = run_right b i ds c o.schedule rule n o.pipe o.words o.loaded o.replies w
exclusive (view s i' c d) (b ∷ i ∷ ds) text rule (Insn n) o w = w
exclusive (view s i' c d) [] text rule position o w = o
exclusive (view s i' c d) (b ∷ []) text rule position o w = o

-- ---- the status

-- where all files gave their texts, none failed
none_failed : (command : Command) (reads : List Answer) → IsReading command reads → AreAllGiven command reads → HasFailed reads → ⊥
none_failed command reads order all failed =
    let few = few_reads command reads order in
    let each : length (texts reads) ≡ length (files command) = all in
    let short : length (texts reads) < length reads = failed in
    absurd (omega (arith, few, each, short))

of_command : (command : Command) (s : Seen) (o : Result (Unit {0}) Failure) → Explains (Some command) s o
    → IsDecided command s (status_of o)
of_command command s (Ok x) e = record {
  usage = λ u. absurd (cc u);
  wrong = λ rule position w. absurd (exclusive command (texts s.reads) e.cause.1 rule position e.cause.2 w);
  failed = λ f. absurd (none_failed command s.reads e.order e.cause.0 f);
  right = λ no reads writes. inl refl;
}
of_command command s (Err Usage) e = absurd e.cause
of_command command s (Err (Refused rule position)) e = record {
  usage = λ u. absurd (cc u);
  wrong = λ r l w. inl refl;
  failed = λ f. absurd (last_given command s.reads e.order f rule position e.cause.0);
  right = λ no reads writes. absurd (no rule position e.cause.0);
}
of_command command s (Err ReadFault) e = record {
  usage = λ u. absurd (cc u);
  wrong = λ rule position w. absurd (last_given command s.reads e.order e.cause.0 rule position w);
  failed = λ f. inl refl;
  right = λ no reads writes. absurd (reads e.cause.1);
}
of_command command s (Err WriteFault) e = record {
  usage = λ u. absurd (cc u);
  wrong = λ rule position w. absurd (exclusive command (texts s.reads) e.cause.2 rule position e.cause.3 w);
  failed = λ f. absurd (none_failed command s.reads e.order e.cause.1 f);
  right = λ no reads writes. absurd (writes e.cause.0);
}
of_command command s (Err NoMemory) e = record {
  usage = λ u. absurd (cc u);
  wrong = λ rule position w. inr refl;
  failed = λ f. inr refl;
  right = λ no reads writes. inr refl;
}

of_none : (s : Seen) (o : Result (Unit {0}) Failure) → Explains None s o → Decides None s (status_of o)
of_none s (Ok x) e = absurd e.cause
of_none s (Err Usage) e = inl refl
of_none s (Err (Refused rule position)) e = absurd e.cause
of_none s (Err ReadFault) e = absurd e.cause
of_none s (Err WriteFault) e = absurd e.cause
of_none s (Err NoMemory) e = inr refl

-- what explains an outcome decides its status
pub decided : (command : Option Command) (s : Seen) (o : Result (Unit {0}) Failure) → Explains command s o → Decides command s (status_of o)
decided None s o e = of_none s o e
decided (Some command) s o e = of_command command s o e

module _ (command : Option Command) (old new : List Answer) (faults faults_now : ℕ) (written written_now : Option (List ℕ)) (writes writes_now : ℕ)
    (o : Result (Unit {0}) Failure) (status : ℕ) (is : status ≡ status_of o)
    (explained : Since old new (λ reads. Explains command (seen_of reads faults faults_now written written_now writes writes_now) o)) where
  -- the status is that of the outcome which is explained, with the reads that were made since
  pub answers_since : (Said : List ℕ → Type 0) → Said (text_of o)
      → Since old new (λ reads. Answers command (seen_of reads faults faults_now written written_now writes writes_now) Said status)
  answers_since Said said = record { reads = explained.reads; since = explained.since; so = (o, is, explained.so, said) }

  -- and is decided by them
  pub decided_since : Since old new (λ reads. Decides command (seen_of reads faults faults_now written written_now writes writes_now) status)
  decided_since =
      let s = seen_of explained.reads faults faults_now written written_now writes writes_now in
      record {
        reads = explained.reads;
        since = explained.since;
        so = subst (Decides command s) (sym is) (decided command s o explained.so);
      }
