use Rattle.std.proofs.Common.{length, []}
use Rattle.pdl_paths.specs.Masks.{path_of}
use Rattle.pdl_rules_walk.specs.Course.{by_bits}
use Rattle.pdl_rules_walk.proofs.Steps.{begun}
use Rattle.pdl_rules_walk.proofs.alone.AlonePathRules.start.Goals as goal

pub returns : goal.returns
returns g c gs xs suits found =
    let rule = c.args.self.now.0 in
    let bits = c.args.path.bits in
    begun (by_bits (g.R.PathRule.breaks_on rule) gs xs)
    (g.R.PathRule.stands rule (path_of gs bits) [] c.in_ok-state.state) bits (length xs) c.args.lowest found (c.in_ok-state.ensures gs xs suits)
