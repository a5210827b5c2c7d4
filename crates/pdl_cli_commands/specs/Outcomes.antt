-- What came of a command, as it is seen from outside: what the files answered, and what the sink took.
use Rattle.std.specs.Prelude.{◌≡◌, ℕ, List, [], Option, Some, None, Result, Ok, Err}
use Rattle.pdl_kit.specs.Counts.{Rose}
use Rattle.pdl_kit.specs.Sinks.{TakesPrefix, with_bytes}
use Rattle.pdl_system.specs.Answers.{Answer}
use Rattle.pdl_cli_args.specs.Line.{Command}
use Rattle.pdl_cli_failure.specs.declared.failure.Failure.{Failure}
use Rattle.pdl_cli_failure.specs.declared.failure.Failure.TheVariants.{Usage, Refused, ReadFault, WriteFault, NoMemory}
use Rattle.pdl_cli_commands.specs.Commands.{IsWrongFor, Writes}
use Rattle.pdl_cli_commands.specs.Reading.{IsReading, AreAllGiven, HasFailed, texts}

-- what is seen from outside: the answers to the reads that were made, the files' count of faults before and now, what out had and has, and its count of faults before and now
pub record Seen : Type 0 where
  pub reads : List Answer
  pub faults : ℕ
  pub faults_now : ℕ
  pub written : Option (List ℕ)
  pub written_now : Option (List ℕ)
  pub writes : ℕ
  pub writes_now : ℕ

-- what is seen from outside, from its parts
abbrev pub seen_of : List Answer → ℕ → ℕ → Option (List ℕ) → Option (List ℕ) → ℕ → ℕ → Seen
seen_of reads faults faults_now written written_now writes writes_now = record {
  reads = reads;
  faults = faults;
  faults_now = faults_now;
  written = written;
  written_now = written_now;
  writes = writes;
  writes_now = writes_now;
}

-- files are read in order, and none after a wrong one; where the words are no command, none is read
abbrev pub ReadsInOrder : Option Command → List Answer → Type 0
ReadsInOrder None reads = reads ≡ []
ReadsInOrder (Some command) reads = IsReading command reads

-- all is done: the files gave their texts, and out took the whole text that the command writes of them
abbrev pub IsDone : Option Command → Seen → Type 0
IsDone None s = ⊥
IsDone (Some command) s =
    AreAllGiven command s.reads
    × (text : List ℕ) × Writes command (texts s.reads) text × (s.written_now ≡ with_bytes text s.written)

-- out has what it had
abbrev pub IsSilent : Seen → Type 0
IsSilent s = s.written_now ≡ s.written

-- a failure comes where its cause is seen: words that are no command; a file that was read last and is wrong; a file that wasn't read, where the files had a fault; a fault of out, which then took a prefix of the text. Want of memory is free
abbrev pub FailsAs : Option Command → Seen → Failure → Type 0
FailsAs None s Usage = IsSilent s
FailsAs None s NoMemory = IsSilent s
FailsAs (Some command) s (Refused rule position) =
    IsWrongFor command (texts s.reads) rule position × IsSilent s
FailsAs (Some command) s ReadFault = HasFailed s.reads × Rose s.faults s.faults_now × IsSilent s
FailsAs (Some command) s WriteFault =
    Rose s.writes s.writes_now × AreAllGiven command s.reads
    × (text : List ℕ) × Writes command (texts s.reads) text × TakesPrefix s.written s.written_now text
FailsAs (Some command) s NoMemory = IsSilent s
FailsAs _ s _ = ⊥

-- a command read its files in order, all gave their texts, and it writes this text of them
pub record IsMade (command : Command) (reads : List Answer) (text : List ℕ) : Type 0 where
  pub order : IsReading command reads
  pub given : AreAllGiven command reads
  pub written : Writes command (texts reads) text

-- why a command fails before anything is written
abbrev pub HasFault : Command → List Answer → ℕ → ℕ → Failure → Type 0
HasFault command reads faults faults_now Usage = ⊥
HasFault command reads faults faults_now (Refused rule position) = IsWrongFor command (texts reads) rule position
HasFault command reads faults faults_now ReadFault = HasFailed reads × Rose faults faults_now
HasFault command reads faults faults_now WriteFault = ⊥
HasFault command reads faults faults_now NoMemory = Unit {0}

-- a command read its files in order, and fails before anything is written
pub record Fails (command : Command) (reads : List Answer) (faults faults_now : ℕ) (f : Failure) : Type 0 where
  pub order : IsReading command reads
  pub cause : HasFault command reads faults faults_now f

-- what came of a command has its cause in what is seen
abbrev pub HasCome : {T : Type 0} → Option Command → Seen → Result T Failure → Type 0
HasCome command s (Ok x) = IsDone command s
HasCome command s (Err f) = FailsAs command s f

-- what came of a command is explained by what is seen: files were read in order, and what came has its cause
pub record Explains {T : Type 0} (command : Option Command) (s : Seen) (result : Result T Failure) : Type 0 where
  pub order : ReadsInOrder command s.reads
  pub cause : HasCome command s result

-- a text of this kind is written while it is made: the whole; a prefix, where a write failed and the sink's count of faults rose; nothing, where memory was wanting
abbrev pub Streamed : {T : Type 0} → (List ℕ → Type 0) → Option (List ℕ) → Option (List ℕ) → ℕ → ℕ → Result T Failure → Type 0
Streamed IsText old new before now (Ok x) = (text : List ℕ) × IsText text × (new ≡ with_bytes text old)
Streamed IsText old new before now (Err WriteFault) =
    Rose before now × (text : List ℕ) × IsText text × TakesPrefix old new text
Streamed IsText old new before now (Err NoMemory) = new ≡ old
Streamed IsText old new before now (Err _) = ⊥
