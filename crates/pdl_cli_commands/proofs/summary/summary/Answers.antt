use Rattle.std.proofs.Common.{rules}
use Rattle.std.proofs.lemmas.Result.{IfOk-weaker}
use Rattle.pdl_syntax_tree.specs.View.{pipe_view}
use Rattle.pdl_cli_commands.specs.Commands.{IsAccepted}
use Rattle.pdl_cli_failure.proofs.InMemory.{made_so}
use Rattle.pdl_cli_commands.proofs.summary.summary.Goals as goal

pub returns-clause-ok : goal.returns-clause-ok
returns-clause-ok c =
    let a : IsAccepted c.args.source.now (pipe_view c.in_ok-accepted.accepted.typed.pipe) = search rules in
    IfOk-weaker c.in_memory-line.result _ _ (λ line f. f c.args.source.now a)
    (made_so c.end_of.result c.in_memory-line.result _ c.in_memory-line.ensures.ok c.end_of.ensures)
