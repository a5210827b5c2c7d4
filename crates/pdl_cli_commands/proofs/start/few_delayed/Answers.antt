use Rattle.std.proofs.Common.{arith}
use Rattle.pdl_netrun.proofs.Environment as environment
use Rattle.pdl_cli_commands.proofs.start.few_delayed.Goals as goal

pub overflow_cast-result : goal.overflow_cast-result
overflow_cast-result c = let few = (environment.few_delayed c.args.netlist.now c.requires.pipe).1 in omega (arith, few, c.count_delayed.ensures)

pub returns-clause-few : goal.returns-clause-few
returns-clause-few c = let few = (environment.few_delayed c.args.netlist.now c.requires.pipe).1 in omega (arith, few, c.count_delayed.ensures)
