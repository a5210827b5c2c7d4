use Rattle.pdl_net.specs.Meaning.{signal}
use Rattle.pdl_pipe_registers.proofs.SettledItems.{constant_is}
use Rattle.pdl_pipe_registers.proofs.registers.is_fixed.Goals as goal

pub returns-in-Some : goal.returns-in-Some
returns-in-Some c = λ t. constant_is (signal c.args.b.now c.args.net) _ c.in-Some.ensures.value
