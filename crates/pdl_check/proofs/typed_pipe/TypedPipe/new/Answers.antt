use Rattle.std.proofs.Common.{ap, ◌∙◌}
use Rattle.pdl_syntax_tree.specs.View.{pipe_view}
use Rattle.pdl_check.specs.Narrow.{are_narrow}
use Rattle.pdl_check.proofs.Unbroken.{keeps_widths}
use Rattle.pdl_check.proofs.VariableWidths.{variables_narrow}
use Rattle.pdl_check.proofs.typed_pipe.TypedPipe.new.Goals as goal

pub invariant_of-result : goal.invariant_of-result
invariant_of-result c =
    let p = pipe_view c.args.pipe in
    record {
      told = c.requires.told;
      narrow = ap are_narrow c.requires.told ∙ variables_narrow p (keeps_widths p c.requires.within c.requires.named c.requires.fitting);
    }
