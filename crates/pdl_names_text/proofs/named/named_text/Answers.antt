use Rattle.std.proofs.lemmas.Result.{IfOk-weaker}
use Rattle.pdl_syntax_tree.specs.View.{pipe_view}
use Rattle.pdl_cli_failure.proofs.InMemory.{made_so}
use Rattle.pdl_names_text.proofs.named.named_text.Goals as goal

pub text_of-requires : goal.text_of-requires
text_of-requires c =
    let a = c.in_ok-accepted.ensures in
    (c.args.source.now, record { text = a.found; kept = a.kept })

pub returns : goal.returns
returns c =
    let a = c.in_ok-accepted.ensures in
    IfOk-weaker c.in_memory-text.result _ _
    (λ t written. record {
      pipe = pipe_view c.in_ok-accepted.accepted.typed.pipe;
      accepted = record { text = a.found; kept = a.kept };
      written = written;
    })
    (made_so c.text_of.result c.in_memory-text.result _ c.in_memory-text.ensures.ok c.text_of.ensures)
