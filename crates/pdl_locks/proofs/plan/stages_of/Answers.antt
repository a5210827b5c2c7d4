use Rattle.std.proofs.Common.{ap, ap₂, ◌∙◌, ℕ, List, [], Option}
use Rattle.pdl_syntax_tree.specs.View.{mem_view}
use Rattle.pdl_rules.specs.Places.{Place}
use Rattle.pdl_rules.specs.Stages.{first_stage, reserves_memory, releases_memory}
use Rattle.pdl_locks.specs.declared.plan.MemStages.{MemStages}
use Rattle.pdl_locks.proofs.plan.stages_of.Goals as goal

pub returns : goal.returns
returns c = λ p same.
    let name = (mem_view c.args.mem.now).name.name in
    let both : Option ℕ → Option ℕ → MemStages = λ a b. record { reserved = a; released = b } in
    ap₂ both
    (c.first_stage.ensures ∙ ap (λ xs. first_stage (reserves_memory name) [] xs) same)
    (c.first_stage-2.ensures ∙ ap (λ xs. first_stage (releases_memory name) [] xs) same)
