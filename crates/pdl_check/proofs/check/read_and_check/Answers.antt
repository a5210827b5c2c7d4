use Rattle.pdl_syntax_tree.specs.View.{pipe_view}
use Rattle.pdl_source.proofs.Texts.{source_of, named_of}
use Rattle.pdl_check.proofs.CheckAnswers.{judged_checked}
use Rattle.pdl_check.proofs.check.read_and_check.Goals as goal

pub judge-requires : goal.judge-requires
judge-requires c =
    let read = c.in-Ok.ensures in
    record {
      source = source_of c.args.source.now (pipe_view c.in-Ok.pipe) read.0;
      letters = named_of c.args.source.now (pipe_view c.in-Ok.pipe) read.0;
    }

pub returns-in-Ok : goal.returns-in-Ok
returns-in-Ok c = let read = c.in-Ok.ensures in judged_checked c.args.source.now (pipe_view c.in-Ok.pipe) c.judge.result read.0 read.1 c.judge.ensures
