use Rattle.std.proofs.Common.{sym}
use Rattle.pdl_rules_judge.proofs.order.ask_forks.Goals as goal

pub forks_broken-requires : goal.forks_broken-requires
forks_broken-requires c = sym c.requires.of
