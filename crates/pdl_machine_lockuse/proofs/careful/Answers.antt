use Rattle.pdl_machine_lockuse.proofs.FromRules.{careful_source}
use Rattle.pdl_machine_lockuse.proofs.CarefulTest.{tested}
use Rattle.pdl_machine_lockuse.proofs.careful.Goals as goal

pub returns-clause-source : goal.returns-clause-source
returns-clause-source c = careful_source

pub returns-clause-tested : goal.returns-clause-tested
returns-clause-tested c = tested
