-- What `asm` does with the texts of the files that it names.
use Rattle.std.specs.Prelude.{◌≡◌, ℕ, List, Ok, Err}
use Rattle.pdl_kit.specs.declared.rule.Rule.{Rule}
use Rattle.pdl_asm_table.specs.declared.table_error.TableError.TheVariants as table_error
use Rattle.pdl_asm_table.specs.Tables.{TableValue}
use Rattle.pdl_asm_table.specs.Documents as documents
use Rattle.pdl_asm.specs.declared.asm_error.AsmError.TheVariants as asm_error
use Rattle.pdl_asm.specs.Assembly.{image}

-- the table of an instruction set is wrong, at this instruction
abbrev pub IsWrongTable : List ℕ → Rule → ℕ → Type 0
IsWrongTable table rule insn = documents.table table ≡ Err (table_error.Refused rule insn)

-- the table is taken, and the program wrong, at this line
pub record IsWrongText (table program : List ℕ) (rule : Rule) (line : ℕ) : Type 0 where
  pub value : TableValue
  pub tabled : documents.table table ≡ Ok value
  pub refused : image value program ≡ Err (asm_error.Refused rule line)

-- the text that `asm` writes where all is well: the image that the program is with the table
pub record IsAssembled (table program : List ℕ) (text : List ℕ) : Type 0 where
  pub value : TableValue
  pub tabled : documents.table table ≡ Ok value
  pub made : image value program ≡ Ok text
