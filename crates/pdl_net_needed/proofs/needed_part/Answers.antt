use Rattle.pdl_net_needed.proofs.PrunedFacts.{all_pruned}
use Rattle.pdl_net_needed.proofs.needed_part.Goals as goal

pub returns-clause-pruned : goal.returns-clause-pruned
returns-clause-pruned c = all_pruned c.args.net.now c.in_ok-kept.kept c.kept_part.result c.in_ok-kept.ensures c.kept_part.ensures.same
