use Rattle.std.proofs.Common.{length}
use Rattle.pdl_rules_walk.specs.Course.{by_bits}
use Rattle.pdl_rules_walk.proofs.Steps.{none_yet}
use Rattle.pdl_rules_walk.proofs.alone.AlonePathRules.unbroken.Goals as goal

pub returns : goal.returns
returns g c gs xs e = none_yet (by_bits (g.R.PathRule.breaks_on c.args.self.now.0) gs xs) (length xs) c.args.count e
