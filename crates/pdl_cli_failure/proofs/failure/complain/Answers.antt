use Rattle.std.proofs.Common.{ap, sym, subst, List, ℕ}
use Rattle.pdl_cli_failure.specs.Texts.{Says}
use Rattle.pdl_cli_failure.specs.Failures as spec
use Rattle.pdl_cli_failure.proofs.failure.complain.Goals as goal

pub returns-in-ReadFault : goal.returns-in-ReadFault
returns-in-ReadFault g c =
    subst
    (λ (t : List ℕ). Says (g.E.Sink.written c.args.err.now) (g.E.Sink.written c.say-in-ReadFault.new.err)
    (g.E.Sink.faults c.args.err.now) (g.E.Sink.faults c.say-in-ReadFault.new.err) t)
    (sym (ap spec.failure_text c.in-ReadFault.is)) c.say-in-ReadFault.ensures
