use Rattle.pdl_rules_widths.proofs.Entries.{number_found}
use Rattle.pdl_rules_widths.proofs.variables.Variables.position.Goals as goal

pub returns : goal.returns
returns c = number_found c.self.inside.types.entries _ _ _ c.get_index_of.ensures.index c.self.view_is
