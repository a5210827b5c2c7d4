use Rattle.std.proofs.Common.{◌∙◌, map}
use Rattle.pdl_paths.specs.Actions.{place_view}
use Rattle.pdl_rules_walk.proofs.Lines.{found_line}
use Rattle.pdl_rules_walk.proofs.alone.AlonePathRules.lines.Goals as goal

pub returns : goal.returns
returns g c gs h = c.line_at.ensures ∙ found_line (g.R.PathRule.breaks_on c.args.self.now.0) gs (map place_view c.args.places.now) c.args.lowest h
