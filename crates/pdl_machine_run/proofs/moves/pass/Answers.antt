use Rattle.std.proofs.Common.{rules, ◌≡◌, ◌≢◌, ◌∙◌, sym, ap, ap₂, ℕ, Option, if◌then◌else◌, true, false, is_none, get_or, arith}
use Rattle.std.proofs.lemmas.List.{get_or-set_same, get_or-set_other, get_or_default}
use Rattle.pdl_semantics.specs.Moves.{next_stage}
use Rattle.pdl_semantics.specs.Cycle.{is_stage, thread_after}
use Rattle.pdl_form.specs.FormView.{form}
use Rattle.pdl_machine_run.specs.declared.stage.Stage as r_stage
use Rattle.pdl_machine_run.specs.View.{deeds_view, thread_of, thread_in}
use Rattle.pdl_machine_run.specs.Acts.{mover_of}
use Rattle.pdl_machine_run.proofs.StageMoves.{passed, stages_set}
use Rattle.pdl_machine_run.proofs.moves.pass.Goals as goal

pub returns-clause-there : goal.returns-clause-there
returns-clause-there c q d past =
    let p = (form c.args.pipe.now).pipe in
    let olds = c.args.stages.now in
    let k = c.args.k in
    let y = c.leave.new.stage in
    let to = c.next_stage-to.result in
    let x : r_stage.Stage = get_or olds k d in
    let apart : q ≢ k = λ e. omega arith in
    let any : (e : r_stage.Stage) → get_or olds k e ≡ x = λ e. get_or_default olds k e d c.requires.stage in
    let none : is_none c.mover.result ≡ false = search rules in
    let some : is_none (mover_of x) ≡ false =
    ap (λ (z : r_stage.Stage). is_none (mover_of z)) (sym (any c.index-stages-k.result)) ∙ ap (λ (o : Option ℕ). is_none o) (sym c.mover.ensures) ∙ none in
    let goes : to ≡ next_stage p k (deeds_view x.deeds) =
    c.next_stage-to.ensures ∙ ap (λ (z : r_stage.Stage). next_stage p k (deeds_view z.deeds)) (any c.index-stages-k-2.result) in
    let left : (j n : ℕ) → thread_of n y.slot ≡ thread_after (record { stage = j; thread = thread_of n x.slot; does = deeds_view x.deeds; moves = true }) =
    λ j n. c.leave.ensures.thread j n
    ∙ ap (λ (z : r_stage.Stage). thread_after (record { stage = j; thread = thread_of n z.slot; does = deeds_view z.deeds; moves = true }))
    (any c.index-stages-k-3.result) in
    let number : y.slot.number ≡ x.slot.number = c.leave.ensures.number ∙ ap (λ (z : r_stage.Stage). z.slot.number) (any c.index-stages-k-3.result) in
    c.depart.ensures.there q d apart
    ∙ ap₂ (λ (a b : r_stage.Stage). if is_stage q to then thread_in a.slot else thread_in b.slot)
    (get_or-set_same olds k y d c.requires.stage) (get_or-set_other olds k q y d apart)
    ∙ passed p q k x y to (thread_in (get_or olds q d).slot) some goes left number

pub returns-clause-wide : goal.returns-clause-wide
returns-clause-wide c f h =
    c.depart.ensures.wide f
    (stages_set f c.args.stages.now c.args.k c.leave.new.stage h (c.leave.ensures.wide f (h c.args.k c.index-stages-k-3.result c.requires.stage)))
