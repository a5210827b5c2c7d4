use Rattle.std.proofs.Common.{ap, ◌∙◌, map, subst, sym}
use Rattle.pdl_semantics.specs.Flatten.{flat}
use Rattle.pdl_syntax_tree.specs.View.{pipe_view, mem_view}
use Rattle.pdl_rules.specs.Memories.{infos_of}
use Rattle.pdl_rules.proofs.Unbroken.{keeps_unbroken}
use Rattle.pdl_form_lower.specs.Sized.{AreSizedMems}
use Rattle.pdl_form_lower.specs.Lowerable.{IsLowerablePipe}
use Rattle.pdl_form_lower.proofs.PipeSizes.{keeps_lowered}
use Rattle.pdl_form.specs.Form.{Form}
use Rattle.pdl_stages.specs.Graph.{graph_with}
use Rattle.pdl_check.proofs.check.make.Goals as goal

pub infos_of-requires : goal.infos_of-requires
infos_of-requires c =
    let low = keeps_lowered (pipe_view c.args.pipe.now) (keeps_unbroken (pipe_view c.args.pipe.now) c.requires.kept) in
    subst (λ ms. AreSizedMems (map mem_view ms)) (sym c.as_slice.ensures) low.0.mems

pub lower-requires : goal.lower-requires
lower-requires c =
    let low = keeps_lowered (pipe_view c.args.pipe.now) (keeps_unbroken (pipe_view c.args.pipe.now) c.requires.kept) in
    record {
      lowerable = subst (λ us. IsLowerablePipe us (pipe_view c.args.pipe.now)) (sym c.requires.variables) low.0;
      few = low.1;
    }

pub returns : goal.returns
returns c = record {
  told = c.in_ok-mems.ensures ∙ ap (λ ms. infos_of (map mem_view ms)) c.as_slice.ensures;
  lowered = c.in_ok-flat.ensures;
  staged = c.in_ok-graph.ensures
      ∙ ap (λ (f : Form). graph_with f.pipe c.args.stages.items) c.in_ok-flat.ensures
      ∙ ap (graph_with (flat (pipe_view c.args.pipe.now))) c.requires.stages;
}
