use Rattle.std.proofs.Common.{Some, None}
use Rattle.pdl_rules_widths.proofs.Entries.{found_among}
use Rattle.pdl_rules_widths.proofs.variables.Variables.find.Goals as goal

pub returns-in-Some : goal.returns-in-Some
returns-in-Some c = found_among c.self.inside.types.entries _ _ (Some c.in-Some.of.now) c.in-Some.ensures.value c.self.view_is

pub returns-in-None : goal.returns-in-None
returns-in-None c = found_among c.self.inside.types.entries _ _ None c.in-None.ensures.value c.self.view_is
