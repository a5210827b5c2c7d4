-- Why a file is not there, from what its reader answered of its text.
use Rattle.std.proofs.Common.{◌≡◌, ℕ, List, [], ◌∷◌, ◌++◌, sym, subst}
use Rattle.std.specs.Prelude.{Some, Err}
use Rattle.pdl_kit.specs.declared.rule.Rule.{Rule}
use Rattle.pdl_kit.specs.declared.refusal.Refusal.{Refusal}
use Rattle.pdl_kit.specs.declared.refusal.Refusal.TheVariants as check
use Rattle.pdl_kit.specs.declared.mem_info.MemInfo.{MemInfo}
use Rattle.pdl_system.specs.Answers.{Answer, gave}
use Rattle.pdl_check.specs.Answers.{IsCause}
use Rattle.pdl_image.specs.Images.{IsRefusal, image}
use Rattle.pdl_image.specs.Delays.{delays}
use Rattle.pdl_image.specs.declared.file_error.FileError.{FileError}
use Rattle.pdl_image.specs.declared.file_error.FileError.TheVariants as file
use Rattle.pdl_vread.specs.declared.read.VError.{VError}
use Rattle.pdl_vread.specs.declared.read.VError.TheVariants as netlist
use Rattle.pdl_vread.specs.Reads.{Breaks, Refuses}
use Rattle.pdl_asm_table.specs.Documents as documents
use Rattle.pdl_asm_table.specs.Tables.{TableValue}
use Rattle.pdl_asm_table.specs.declared.table_error.TableError.{TableError}
use Rattle.pdl_asm_table.specs.declared.table_error.TableError.TheVariants as table
use Rattle.pdl_asm.specs.Assembly as assembly
use Rattle.pdl_asm.specs.declared.asm_error.AsmError.{AsmError}
use Rattle.pdl_asm.specs.declared.asm_error.AsmError.TheVariants as asm
use Rattle.pdl_cli_failure.specs.declared.failure.Position.{Position}
use Rattle.pdl_cli_failure.specs.declared.failure.Failure.{Failure}
use Rattle.pdl_cli_failure.specs.Failures.{of_check, of_file, of_netlist, of_table, of_asm}
use Rattle.pdl_cli_commands.specs.Begun.{FileFails, IsRefusedSource, IsRefusedImage, IsRefusedTable, IsRefusedProgram, IsRefusedNetlist, AreRefusedDelays}

module _ (old new : List Answer) (before now : ℕ) (name : List ℕ) where
  module _ (text : List ℕ) (read : new ≡ old ++ gave name text ∷ []) where
    -- its text is no accepted source
    pub source_refused : (e : Refusal) (f : Failure) → f ≡ of_check e → IsCause text e → FileFails IsRefusedSource old new before now name f
    source_refused (check.Refused rule line) f is cause =
        subst (FileFails IsRefusedSource old new before now name) (sym is) (text, read, cause)
    source_refused check.NoMemory f is cause = subst (FileFails IsRefusedSource old new before now name) (sym is) (Some text, read)

    -- no image
    pub image_refused : (mems : List MemInfo) (e : FileError) (f : Failure) → f ≡ of_file e → IsRefusal (image mems text) e
        → FileFails (IsRefusedImage mems) old new before now name f
    image_refused mems (file.Refused rule line) f is cause =
        subst (FileFails (IsRefusedImage mems) old new before now name) (sym is) (text, read, cause)
    image_refused mems file.NoMemory f is cause = subst (FileFails (IsRefusedImage mems) old new before now name) (sym is) (Some text, read)

    -- no delay file
    pub delays_refused : (count : ℕ) (e : FileError) (f : Failure) → f ≡ of_file e → IsRefusal (delays count text) e
        → FileFails (AreRefusedDelays count) old new before now name f
    delays_refused count (file.Refused rule line) f is cause =
        subst (FileFails (AreRefusedDelays count) old new before now name) (sym is) (text, read, cause)
    delays_refused count file.NoMemory f is cause = subst (FileFails (AreRefusedDelays count) old new before now name) (sym is) (Some text, read)

    -- no netlist
    pub netlist_refused : (e : VError) (f : Failure) → f ≡ of_netlist e → Refuses (Breaks text) e
        → FileFails IsRefusedNetlist old new before now name f
    netlist_refused (netlist.Refused rule line) f is cause =
        subst (FileFails IsRefusedNetlist old new before now name) (sym is) (text, read, cause)
    netlist_refused netlist.NoMemory f is cause = subst (FileFails IsRefusedNetlist old new before now name) (sym is) (Some text, read)

    -- no table of an instruction set
    pub table_refused : (e : TableError) (f : Failure) → f ≡ of_table e → documents.Meets (documents.table text) (Err e)
        → FileFails IsRefusedTable old new before now name f
    table_refused (table.Refused rule insn) f is cause =
        subst (FileFails IsRefusedTable old new before now name) (sym is) (text, read, cause)
    table_refused table.NoMemory f is cause = subst (FileFails IsRefusedTable old new before now name) (sym is) (Some text, read)

    -- no program
    pub program_refused : {T : Type 0} (bytes : T → List ℕ) (value : TableValue) (e : AsmError) (f : Failure) → f ≡ of_asm e
        → assembly.Meets bytes (assembly.image value text) (Err e) → FileFails (IsRefusedProgram value) old new before now name f
    program_refused bytes value (asm.Refused rule line) f is cause =
        subst (FileFails (IsRefusedProgram value) old new before now name) (sym is) (text, read, cause)
    program_refused bytes value asm.NoMemory f is cause = subst (FileFails (IsRefusedProgram value) old new before now name) (sym is) (Some text, read)
