use Rattle.std.proofs.Common.{◌∙◌, map}
use Rattle.pdl_paths.specs.Actions.{place_view}
use Rattle.pdl_rules_names.proofs.Firsts.{missing}
use Rattle.pdl_rules_names.proofs.rules.MissingUseTest.of_memory.Goals as goal

pub returns : goal.returns
returns c = missing _ (map place_view c.args.self.now.places.now) c.number.result _ c.is_none.ensures (c.number.ensures ∙ c.requires.memories c.args.name.now)
