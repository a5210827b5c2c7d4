-- What is had of the files of a command while they are read, and why it isn't there.
use Rattle.std.specs.Prelude.{◌≡◌, ℕ, ◌⊎◌, List, [], ◌∷◌, ◌++◌, length, Option, Some, None, Ok, Err}
use Rattle.pdl_kit.specs.declared.rule.Rule.{Rule}
use Rattle.pdl_kit.specs.Counts.{Rose}
use Rattle.pdl_kit.specs.declared.mem_info.MemInfo.{MemInfo}
use Rattle.pdl_system.specs.Answers.{Answer, gave, failed}
use Rattle.pdl_image.specs.Images.{IsImage, image}
use Rattle.pdl_image.specs.declared.file_error.FileError.TheVariants as file
use Rattle.pdl_vread.specs.Reads.{Breaks}
use Rattle.pdl_asm_table.specs.Tables.{TableValue}
use Rattle.pdl_asm.specs.declared.asm_error.AsmError.TheVariants as asm_error
use Rattle.pdl_asm.specs.Assembly as assembly
use Rattle.pdl_netrun_lines.specs.Printed.{schedule as scheduled}
use Rattle.pdl_cli_failure.specs.declared.failure.Position.{Position}
use Rattle.pdl_cli_failure.specs.declared.failure.Failure.{Failure}
use Rattle.pdl_cli_failure.specs.declared.failure.Failure.TheVariants as failure
use Rattle.pdl_cli_commands.specs.Assembled.{IsWrongTable}
use Rattle.pdl_cli_commands.specs.Commands.{AtLine, AtInsn, SourceRefused}
use Rattle.pdl_cli_commands.specs.Reading.{listed}
use Rattle.pdl_cli_commands.specs.Replies.{IsSchedule, DelaysRefused}

-- why a file that is read next is not there: the text that it gave is refused; it wasn't read, and the files had a fault; or memory ran out
abbrev pub FileFails : (List ℕ → Rule → Position → Type 0) → List Answer → List Answer → ℕ → ℕ → List ℕ → Failure → Type 0
FileFails refused old new before now name failure.Usage = ⊥
FileFails refused old new before now name (failure.Refused rule position) =
    (text : List ℕ) × (new ≡ old ++ gave name text ∷ []) × refused text rule position
FileFails refused old new before now name failure.ReadFault = (new ≡ old ++ failed name ∷ []) × Rose before now
FileFails refused old new before now name failure.WriteFault = ⊥
FileFails refused old new before now name failure.NoMemory =
    (bytes : Option (List ℕ)) × (new ≡ old ++ record { name = name; bytes = bytes } ∷ [])

-- a text is no accepted source
abbrev pub IsRefusedSource : List ℕ → Rule → Position → Type 0
IsRefusedSource source rule = AtLine (SourceRefused source rule)

-- a text is no image for these memories
abbrev pub IsRefusedImage : List MemInfo → List ℕ → Rule → Position → Type 0
IsRefusedImage mems text rule = AtLine (λ line. image mems text ≡ Err (file.Refused rule line))

-- a text is no table of an instruction set
abbrev pub IsRefusedTable : List ℕ → Rule → Position → Type 0
IsRefusedTable text rule = AtInsn (IsWrongTable text rule)

-- a text is no program by this table
abbrev pub IsRefusedProgram : TableValue → List ℕ → Rule → Position → Type 0
IsRefusedProgram value text rule = AtLine (λ line. assembly.image value text ≡ Err (asm_error.Refused rule line))

-- a text is no netlist
abbrev pub IsRefusedNetlist : List ℕ → Rule → Position → Type 0
IsRefusedNetlist text rule = AtLine (Breaks text rule)

-- a text is no delay file for so many delayed memories
abbrev pub AreRefusedDelays : ℕ → List ℕ → Rule → Position → Type 0
AreRefusedDelays count text rule = AtLine (DelaysRefused count text rule)

-- the texts of files, each of which has a name
abbrev pub gave_each : List (List ℕ) → List (List ℕ) → List Answer
gave_each [] texts = []
gave_each (name ∷ names) [] = []
gave_each (name ∷ names) (text ∷ texts) = gave name text ∷ gave_each names texts

-- the rows of a delay file for so many delayed memories, if one is named
pub record HasReplies (old new : List Answer) (delays : Option (List ℕ)) (count : ℕ) (rows : List ℕ) : Type 0 where
  pub texts : List (List ℕ)
  pub each : length texts ≡ length (listed delays)
  pub given : new ≡ old ++ gave_each (listed delays) texts
  pub replies : (cycles : ℕ) → IsSchedule texts count cycles (scheduled rows cycles)

-- why they are not there
abbrev pub DelaysFail : Option (List ℕ) → ℕ → List Answer → List Answer → ℕ → ℕ → Failure → Type 0
DelaysFail None count old new before now f = ⊥
DelaysFail (Some name) count old new before now f = FileFails (AreRefusedDelays count) old new before now name f

-- an image file gives these memories these words, and the delayed ones, so many, have the replies of these rows
pub record IsBegun (old new : List Answer) (image' : List ℕ) (delays : Option (List ℕ)) (mems : List MemInfo)
    (count : ℕ) (words : List (List ℕ)) (rows : List ℕ) : Type 0 where
  pub image_text : List ℕ
  pub taken : image mems image_text ≡ Ok words
  pub fits : IsImage mems words
  pub replies : HasReplies (old ++ gave image' image_text ∷ []) new delays count rows

-- why these are not there: the image isn't, or it is taken, and the delay file isn't
abbrev pub StartFails : List Answer → List Answer → ℕ → ℕ → List ℕ → Option (List ℕ) → List MemInfo → ℕ → Failure → Type 0
StartFails old new before now image' delays mems count f =
    FileFails (IsRefusedImage mems) old new before now image' f
    ⊎ ((text : List ℕ) × (words : List (List ℕ)) × (image mems text ≡ Ok words)
    × DelaysFail delays count (old ++ gave image' text ∷ []) new before now f)
