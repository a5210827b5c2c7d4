use Rattle.std.proofs.Common.{subst}
use Rattle.pdl_syntax.specs.Text.{IsRefusal}
use Rattle.pdl_check.proofs.CheckAnswers.{read_long}
use Rattle.pdl_check.proofs.read.read.Goals as goal

pub returns-in-Err-Limit : goal.returns-in-Err-Limit
returns-in-Err-Limit c =
    let source = c.args.source.now in
    read_long source c.in-Err-Limit.rule c.in-Err-Limit.line (subst (IsRefusal source) c.in-Err-Limit.field-0-is c.in-Err-Limit.ensures.refused)
