-- Lists read so far, and what comes after them.
use Rattle.std.proofs.Common.{List, ◌++◌, Option, Some, None}
use Rattle.std.specs.Prelude.{Result, Ok, Err}
use Rattle.pdl_asm_table.specs.Tables.{Named}
use Rattle.pdl_asm_table.specs.declared.table.Arg.{Arg}
use Rattle.pdl_asm_table.specs.declared.table_error.TableError.{TableError}

-- the arguments read so far and those to come, if all are read
abbrev pub joined : List Arg → Option (List Arg) → Option (List Arg)
joined xs (Some ys) = Some (xs ++ ys)
joined xs None = None

-- the instructions read so far and those to come, or the first error
abbrev pub joined_ok : List Named → Result (List Named) TableError → Result (List Named) TableError
joined_ok xs (Ok ys) = Ok (xs ++ ys)
joined_ok xs (Err e) = Err e
