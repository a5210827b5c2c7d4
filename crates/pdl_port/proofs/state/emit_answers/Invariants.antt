use Rattle.pdl_net.specs.Growth.{Extends}
use Rattle.pdl_net.specs.Meaning.{signal}
use Rattle.pdl_port.specs.Nets.{AreAnswers}
use Rattle.pdl_port.proofs.state.emit_answers.Given as goal

abbrev pub invariant-loop-k : goal.invariant-loop-k
invariant-loop-k l = record {
  extends : Extends l.fn.b l.b;
  answers : AreAnswers l.b l.l (signal l.fn.b l.reply) (signal l.fn.b l.word) l.answers l.k;
}
