use Rattle.std.proofs.Common.{arith, ap, ◌∙◌}
use Rattle.std.specs.Prelude.{count_by}
use Rattle.pdl_kit.specs.declared.mem_info.MemInfo.{MemInfo}
use Rattle.pdl_syntax_tree.specs.View.{pipe_view}
use Rattle.pdl_cli_commands.proofs.ToldMemories.{told_count, few_told}
use Rattle.pdl_cli_commands.proofs.viewed.few_delayed.Goals as goal

pub overflow_cast-result : goal.overflow_cast-result
overflow_cast-result c =
    let p = pipe_view c.args.accepted.now.typed.pipe in
    let is = c.count_delayed.ensures ∙ ap (count_by (λ (m : MemInfo). m.delayed)) c.mems.ensures in
    omega (arith, few_told p c.args.accepted.now.kept, is)

pub returns-clause-count : goal.returns-clause-count
returns-clause-count c =
    c.count_delayed.ensures ∙ ap (count_by (λ (m : MemInfo). m.delayed)) c.mems.ensures ∙ told_count (pipe_view c.args.accepted.now.typed.pipe)

pub returns-clause-few : goal.returns-clause-few
returns-clause-few c =
    let p = pipe_view c.args.accepted.now.typed.pipe in
    let is = c.count_delayed.ensures ∙ ap (count_by (λ (m : MemInfo). m.delayed)) c.mems.ensures in
    omega (arith, few_told p c.args.accepted.now.kept, is)
