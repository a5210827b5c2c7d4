use Rattle.std.proofs.Common.{◌∙◌, sym, ap, filter, get_or}
use Rattle.pdl_syntax_tree.specs.View.{pipe_view}
use Rattle.pdl_rules.specs.Places.{on_path}
use Rattle.pdl_paths.specs.Actions.{place_view}
use Rattle.pdl_locks.specs.declared.numbers.Keys.TheVariants.{Memories}
use Rattle.pdl_locks.specs.Uses.{IsUsedMemory}
use Rattle.pdl_locks.specs.RuleQuestions.{breaks_at_memory}
use Rattle.pdl_locks.proofs.UseSteps.{own}
use Rattle.pdl_locks.proofs.at_memories.AtMemoriesPathRule.breaks.Goals as goal

pub returns-in-ReadFirst : goal.returns-in-ReadFirst
returns-in-ReadFirst c gs path before later s e is_on h =
    let x = place_view c.args.place.now in
    let uses = c.args.state.now.items in
    let earlier = filter (on_path path) before in
    let none = c.none.result in
    c.is_late_read.ensures earlier
    (own Memories IsUsedMemory c.args.self.now.places.now c.args.self.now.first.now before later x c.args.k uses none c.use_at-used.result earlier s e h
    (c.use_at-used.ensures ∙ ap (λ us. get_or us c.number_of.result none) c.deref.ensures.value ∙ ap (λ n. get_or uses n none) c.number_of.ensures))
    ∙ sym (ap (λ r. breaks_at_memory r (pipe_view c.args.self.now.pipe.now) earlier x) c.in-ReadFirst.is)

pub returns-in-FewReserves : goal.returns-in-FewReserves
returns-in-FewReserves c gs path before later s e is_on h =
    let x = place_view c.args.place.now in
    let uses = c.args.state.now.items in
    let earlier = filter (on_path path) before in
    let none = c.none.result in
    c.is_one_too_many.ensures earlier
    (own Memories IsUsedMemory c.args.self.now.places.now c.args.self.now.first.now before later x c.args.k uses none c.use_at-used.result earlier s e h
    (c.use_at-used.ensures ∙ ap (λ us. get_or us c.number_of.result none) c.deref.ensures.value ∙ ap (λ n. get_or uses n none) c.number_of.ensures))
    ∙ sym (ap (λ r. breaks_at_memory r (pipe_view c.args.self.now.pipe.now) earlier x) c.in-FewReserves.is)
