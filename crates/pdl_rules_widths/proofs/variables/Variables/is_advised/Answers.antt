use Rattle.pdl_rules_widths.proofs.Entries.{advised_found}
use Rattle.std.proofs.Common.{Some, None}
use Rattle.pdl_rules_widths.proofs.variables.Variables.is_advised.Goals as goal

pub returns-in-Some : goal.returns-in-Some
returns-in-Some c = advised_found c.self.inside.types.entries _ _ (Some c.in-Some.of.now) c.in-Some.ensures.value c.self.view_is

pub returns-in-None : goal.returns-in-None
returns-in-None c = advised_found c.self.inside.types.entries _ _ None c.in-None.ensures.value c.self.view_is
