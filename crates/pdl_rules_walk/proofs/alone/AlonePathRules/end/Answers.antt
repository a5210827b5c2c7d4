use Rattle.std.proofs.Common.{take, length}
use Rattle.pdl_paths.specs.Masks.{path_of}
use Rattle.pdl_rules_walk.specs.Course.{by_bits}
use Rattle.pdl_rules_walk.proofs.Steps.{walked}
use Rattle.pdl_rules_walk.proofs.alone.AlonePathRules.end.Goals as goal

pub returns : goal.returns
returns g c gs xs bits h =
    let rule = c.args.self.now.0 in
    walked (by_bits (g.R.PathRule.breaks_on rule) gs xs)
    (g.R.PathRule.stands rule (path_of gs bits) (take (length xs) xs) c.args.courses.state) bits (length xs) c.args.courses.lowest h
