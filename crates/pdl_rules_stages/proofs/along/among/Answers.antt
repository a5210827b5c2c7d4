use Rattle.pdl_rules_stages.proofs.Bits.{among_path}
use Rattle.pdl_rules_stages.proofs.along.among.Goals as goal

pub returns : goal.returns
returns c gs e = among_path gs c.args.path.bits c.args.all.bits e
