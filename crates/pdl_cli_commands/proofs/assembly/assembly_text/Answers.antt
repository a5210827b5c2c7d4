use Rattle.std.proofs.lemmas.Result.{IfOk-weaker, IfErr-weaker, err_from_is_err_and}
use Rattle.pdl_cli_commands.proofs.Starts.{assembled, program_off, table_off}
use Rattle.pdl_cli_commands.proofs.assembly.assembly_text.Goals as goal

pub returns-in_err-table-clause-err : goal.returns-in_err-table-clause-err
returns-in_err-table-clause-err g c =
    let e = err_from_is_err_and c.from_residual.result c.from_residual.ensures.1 in
    rw (e.1, e.2)
    (table_off c.args.table.now c.args.program.now (g.F.Files.answers c.args.files.now) (g.F.Files.answers c.table_of_file.new.files)
    (g.F.Files.faults c.args.files.now) (g.F.Files.faults c.table_of_file.new.files) c.in_err-table.field-0.0 c.in_err-table.ensures.err)

pub returns-clause-ok : goal.returns-clause-ok
returns-clause-ok g c =
    let t = c.in_ok-table.ensures.ok in
    IfOk-weaker c.assemble_file.result _ _
    (λ image w. assembled c.args.table.now c.args.program.now (g.F.Files.answers c.args.files.now) (g.F.Files.answers c.table_of_file.new.files)
    (g.F.Files.answers c.assemble_file.new.files) t.0 c.in_ok-table.table t.1 t.2 w.0 image.items w.1 w.2)
    c.assemble_file.ensures.ok

pub returns-clause-err : goal.returns-clause-err
returns-clause-err g c =
    let t = c.in_ok-table.ensures.ok in
    IfErr-weaker c.assemble_file.result _ _
    (λ f w. program_off c.args.table.now c.args.program.now (g.F.Files.answers c.args.files.now) (g.F.Files.answers c.table_of_file.new.files)
    (g.F.Files.answers c.assemble_file.new.files) t.0 c.in_ok-table.table t.1 t.2 (g.F.Files.faults c.args.files.now)
    (g.F.Files.faults c.table_of_file.new.files) (g.F.Files.faults c.assemble_file.new.files) f c.table_of_file.ensures.later w)
    c.assemble_file.ensures.err
