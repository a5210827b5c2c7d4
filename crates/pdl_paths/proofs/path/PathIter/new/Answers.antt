use Rattle.pdl_paths.proofs.EachPath.{each_path}
use Rattle.pdl_paths.proofs.path.PathIter.new.Goals as goal

pub returns-clause-choices : goal.returns-clause-choices
returns-clause-choices c test = each_path test c.args.guards.now _ c.path_count.ensures
