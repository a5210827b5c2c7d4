use Rattle.std.proofs.Common.{refl, sym, subst}
use Rattle.std.proofs.lemmas.Result.{IfOk-weaker, IfErr-weaker, err_from_is_err_and}
use Rattle.pdl_system.specs.Answers.{Since}
use Rattle.pdl_cli_args.specs.Line as command
use Rattle.pdl_cli_failure.proofs.InMemory.{made_so}
use Rattle.pdl_cli_commands.specs.Begun.{IsRefusedSource}
use Rattle.pdl_cli_commands.specs.Outcomes.{Fails}
use Rattle.pdl_cli_commands.proofs.Starts.{source_made, source_off, source_out}
use Rattle.pdl_cli_commands.proofs.built.build.Goals as goal

pub text_of-requires : goal.text_of-requires
text_of-requires g c = let a = c.in_ok-accepted.ensures.ok in (a.0, a.2)

pub returns-clause-ok : goal.returns-clause-ok
returns-clause-ok g c =
    let a = c.in_ok-accepted.ensures.ok in
    let source = c.args.source.now in
    IfOk-weaker c.in_memory-text.result _ _
    (λ t f. source_made (command.build source) source refl (g.F.Files.answers c.args.files.now) (g.F.Files.answers c.accept.new.files)
    a.0 t.items a.1 (f a.0 a.2))
    (made_so c.text_of.result c.in_memory-text.result _ c.in_memory-text.ensures.ok c.text_of.ensures)

pub returns-clause-err : goal.returns-clause-err
returns-clause-err g c =
    let a = c.in_ok-accepted.ensures.ok in
    let source = c.args.source.now in
    let old = g.F.Files.answers c.args.files.now in
    let new = g.F.Files.answers c.accept.new.files in
    let before = g.F.Files.faults c.args.files.now in
    let now = g.F.Files.faults c.accept.new.files in
    IfErr-weaker c.in_memory-text.result _ _
    (λ f e. subst (λ x. Since old new (λ reads. Fails (command.build source) reads before now x)) (sym e)
    (source_out (command.build source) source refl old new a.0 before now a.1)) c.in_memory-text.ensures.err

pub returns-in_err-accepted-clause-err : goal.returns-in_err-accepted-clause-err
returns-in_err-accepted-clause-err g c =
    let e = err_from_is_err_and c.from_residual.result c.from_residual.ensures.1 in
    let source = c.args.source.now in
    rw (e.1, e.2)
    (source_off (command.build source) source refl (g.F.Files.answers c.args.files.now) (g.F.Files.answers c.accept.new.files) IsRefusedSource
    (g.F.Files.faults c.args.files.now) (g.F.Files.faults c.accept.new.files) c.in_err-accepted.field-0.0 (λ text rule position r. r)
    c.in_err-accepted.ensures.err)
