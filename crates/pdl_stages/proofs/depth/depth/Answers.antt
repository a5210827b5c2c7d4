use Rattle.std.proofs.Common.{◌≡◌, ◌∙◌, sym, ap, ap₂, [], ◌-◌, rules, arith, replicate}
use Rattle.pdl_semantics.specs.Flat.{start_env}
use Rattle.pdl_semantics.specs.Stages.{longest, fork_guards}
use Rattle.pdl_form.specs.View.{stages_view}
use Rattle.pdl_form.specs.FormView.{form}
use Rattle.pdl_stages.specs.Graph.{of_stages}
use Rattle.pdl_stages.proofs.Depths.{longest_same}
use Rattle.pdl_stages.proofs.depth.depth.Goals as goal

pub returns : goal.returns
returns c =
    let q = (form c.args.pipe.now).pipe in
    let whole : q.vars - 0 ≡ q.vars = omega arith in
    let path : c.deref_mut.result.now ≡ replicate q.vars 0 = search rules in
    let guards : c.as_slice.result.now ≡ fork_guards q.stages = search rules in
    c.longest.ensures.value
    ∙ ap₂ (λ path gs. longest (of_stages (stages_view c.stages-stages.result.now)) path gs) (path ∙ ap (λ n. replicate n 0) (sym whole)) guards
    ∙ ap (λ ss. longest (of_stages ss) (start_env q []) (fork_guards q.stages)) c.stages-stages.ensures
    ∙ longest_same q (start_env q []) (fork_guards q.stages)
