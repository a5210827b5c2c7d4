-- How a command fails: the status of each cause, and the text that it leaves.
use Rattle.std.specs.Prelude.{ℕ, List, [], Result, Ok, Err, codes}
use Rattle.pdl_kit.specs.declared.rule.Rule.{Rule}
use Rattle.pdl_cli_failure.specs.declared.failure.Position.{Position}
use Rattle.pdl_cli_failure.specs.declared.failure.Position.TheVariants.{Line, Insn}
use Rattle.pdl_cli_failure.specs.declared.failure.Failure.{Failure}
use Rattle.pdl_cli_failure.specs.declared.failure.Failure.TheVariants.{Usage, Refused, ReadFault, WriteFault, NoMemory}
use Rattle.pdl_kit.specs.declared.files.ReadError.{ReadError}
use Rattle.pdl_kit.specs.declared.files.ReadError.TheVariants.{Failed, NoMemory as read_memory}
use Rattle.pdl_kit.specs.declared.refusal.Refusal.{Refusal}
use Rattle.pdl_kit.specs.declared.refusal.Refusal.TheVariants as check
use Rattle.pdl_image.specs.declared.file_error.FileError.{FileError}
use Rattle.pdl_image.specs.declared.file_error.FileError.TheVariants as file
use Rattle.pdl_asm_table.specs.declared.table_error.TableError.{TableError}
use Rattle.pdl_asm_table.specs.declared.table_error.TableError.TheVariants as table
use Rattle.pdl_asm.specs.declared.asm_error.AsmError.{AsmError}
use Rattle.pdl_asm.specs.declared.asm_error.AsmError.TheVariants as asm
use Rattle.pdl_vread.specs.declared.read.VError.{VError}
use Rattle.pdl_vread.specs.declared.read.VError.TheVariants as netlist
use Rattle.pdl_cli_args.specs.declared.line.LineError.{LineError}
use Rattle.pdl_cli_args.specs.declared.line.LineError.TheVariants as line
use Rattle.pdl_trace.specs.declared.text_error.TextError.{TextError}
use Rattle.pdl_trace.specs.declared.text_error.TextError.TheVariants as text
use Rattle.pdl_cli_failure.specs.Texts.{refusal_text, refused_insn_text}

-- why a file was not read
abbrev pub of_read : ReadError → Failure
of_read Failed = ReadFault
of_read read_memory = NoMemory

-- the status of each cause
abbrev pub failure_status : Failure → ℕ
failure_status Usage = 1
failure_status (Refused rule position) = 2
failure_status ReadFault = 3
failure_status WriteFault = 4
failure_status NoMemory = 5

-- what is said of a refused file
abbrev pub refused_at : Rule → Position → List ℕ
refused_at rule (Line n) = refusal_text rule n
refused_at rule (Insn n) = refused_insn_text rule n

-- the text that each cause leaves
abbrev pub failure_text : Failure → List ℕ
failure_text Usage = codes "usage\n"
failure_text (Refused rule position) = refused_at rule position
failure_text ReadFault = codes "read fault\n"
failure_text WriteFault = []
failure_text NoMemory = codes "no memory\n"

-- the status of a command: 0 where it is done, else that of its failure
abbrev pub status_of : {T : Type 0} → Result T Failure → ℕ
status_of (Ok x) = 0
status_of (Err f) = failure_status f

-- the text that a command leaves as it fails, and none where it is done
abbrev pub text_of : {T : Type 0} → Result T Failure → List ℕ
text_of (Ok x) = []
text_of (Err f) = failure_text f

-- why a source was not accepted, an image not taken, and words are no command
abbrev pub of_check : Refusal → Failure
of_check (check.Refused rule line) = Refused rule (Line line)
of_check check.NoMemory = NoMemory

-- why an image or a delay file was not taken
abbrev pub of_file : FileError → Failure
of_file (file.Refused rule line) = Refused rule (Line line)
of_file file.NoMemory = NoMemory

-- why a table was not taken, and a text not assembled
abbrev pub of_table : TableError → Failure
of_table (table.Refused rule insn) = Refused rule (Insn insn)
of_table table.NoMemory = NoMemory

-- why a text was not assembled
abbrev pub of_asm : AsmError → Failure
of_asm (asm.Refused rule line) = Refused rule (Line line)
of_asm asm.NoMemory = NoMemory

-- why a text was not read as a netlist
abbrev pub of_netlist : VError → Failure
of_netlist (netlist.Refused rule line) = Refused rule (Line line)
of_netlist netlist.NoMemory = NoMemory

-- why words are no command
abbrev pub of_line : LineError → Failure
of_line line.Usage = Usage
of_line line.NoMemory = NoMemory

-- what came of a text that was written while it was made
abbrev pub of_text : Result (Unit {0}) TextError → Result (Unit {0}) Failure
of_text (Ok x) = Ok x
of_text (Err text.NoMemory) = Err NoMemory
of_text (Err text.WriteFailed) = Err WriteFault
