use Rattle.std.proofs.Common.{◌≡◌, ◌∙◌, sym, ap, subst, ℕ, Option, Some, map, length, arith}
use Rattle.std.proofs.lemmas.List.{length-map}
use Rattle.std.specs.Prelude.{IfSome}
use Rattle.pdl_semantics.specs.Machine.{Thread, with_answers}
use Rattle.pdl_form.specs.FormView.{form}
use Rattle.pdl_machine_facts.specs.Use.{before_stage}
use Rattle.pdl_machine_run.specs.View.{kept_view, thread_of, thread_if, thread_in, deeds_view}
use Rattle.pdl_machine_run.specs.Outside.{outside}
use Rattle.pdl_machine_run.specs.Acts.{IsCarried}
use Rattle.pdl_machine_run.specs.Typed.{IsFine, AreFit}
use Rattle.pdl_machine_run.proofs.CarriedDeeds.{carried_deeds, room_less, begun_fit, answers_fine}
use Rattle.pdl_machine_run.proofs.carry.carry_out.Goals as goal
use Rattle.pdl_machine_run.proofs.DeedWidths.{stage_few}
use Rattle.pdl_machine_run.proofs.AdviceCounts.{count_few}

pub begin-requires-clause-advice : goal.begin-requires-clause-advice
begin-requires-clause-advice c =
    let f = form c.args.pipe.now in
    let s = c.args.stage.now.slot in
    let t : Thread = thread_of c.in-Some.thread s in
    let fine : IsFine f c.args.k t = subst (λ (o : Option ℕ). IfSome (thread_if o s) (IsFine f c.args.k)) c.in-Some.is c.requires.fine in
    let advised = fine.advised in
    let few = count_few c.args.k f.pipe.stmts in
    let new = c.give_answers.new.slot in
    let same : length (map kept_view new.advice.items) ≡ length t.advice = ap (λ (u : Thread). length u.advice) c.give_answers.ensures.thread in
    let mapped = length-map new.advice.items kept_view in
    let long = new.advice.ok.0 in
    omega arith

pub run_stage-requires-clause-fit : goal.run_stage-requires-clause-fit
run_stage-requires-clause-fit c =
    let f = form c.args.pipe.now in
    let b = c.args.beside.now in
    let n = c.in-Some.thread in
    let t : Thread = thread_of n c.args.stage.now.slot in
    let fine : IsFine f c.args.k t = subst (λ (o : Option ℕ). IfSome (thread_if o c.args.stage.now.slot) (IsFine f c.args.k)) c.in-Some.is c.requires.fine in
    let after : IsFine f c.args.k (thread_of n c.give_answers.new.slot) =
    subst (IsFine f c.args.k) (sym c.give_answers.ensures.thread) (answers_fine f b c.args.replies.now c.requires.memories c.args.k t fine) in
    subst (AreFit f) (sym (c.begin.ensures.deeds n)) (begun_fit f c.args.k (thread_of n c.give_answers.new.slot) after)

pub run_stage-requires-clause-room : goal.run_stage-requires-clause-room
run_stage-requires-clause-room c =
    let p = (form c.args.pipe.now).pipe in
    room_less _ (length p.stmts) c.begin.new.self (stage_few c.args.k p.stmts) c.begin.ensures.room

pub returns-in-Some-clause-carried : goal.returns-in-Some-clause-carried
returns-in-Some-clause-carried c =
    let f = form c.args.pipe.now in
    let b = c.args.beside.now in
    let bits = c.args.replies.now in
    let n = c.in-Some.thread in
    let k = c.args.k in
    let t : Thread = thread_of n c.args.stage.now.slot in
    let u : Thread = with_answers f.pipe (outside b) bits t in
    let fine : IsFine f c.args.k t = subst (λ (o : Option ℕ). IfSome (thread_if o c.args.stage.now.slot) (IsFine f c.args.k)) c.in-Some.is c.requires.fine in
    let stood : thread_in c.args.stage.now.slot ≡ Some t = ap (λ (o : Option ℕ). thread_if o c.args.stage.now.slot) c.in-Some.is in
    let stands : thread_in c.give_answers.new.slot ≡ Some u =
    ap (λ (o : Option ℕ). thread_if o c.give_answers.new.slot) (c.give_answers.ensures.number ∙ c.in-Some.is)
    ∙ ap (λ (v : Thread). Some v) c.give_answers.ensures.thread in
    let begun : deeds_view c.begin.new.self ≡ before_stage f.pipe k u = c.begin.ensures.deeds n ∙ ap (before_stage f.pipe k) c.give_answers.ensures.thread in
    let done =
    c.run_stage.ensures.deeds
    ∙ carried_deeds f.pipe b c.as_slice.result.now n k u (deeds_view c.begin.new.self) c.as_slice.ensures.value
    (ap (λ (v : Thread). v.number) (sym c.give_answers.ensures.thread)) begun in
    let all : IsCarried f b bits k (Some t) (record { slot = c.give_answers.new.slot; deeds = c.run_stage.new.deeds; moves = c.args.stage.now.moves }) =
    (stands, done, answers_fine f b bits c.requires.memories k t fine, c.run_stage.ensures.fit) in
    subst
    (λ (o : Option Thread). IsCarried f b bits k o
    (record { slot = c.give_answers.new.slot; deeds = c.run_stage.new.deeds; moves = c.args.stage.now.moves }))
    (sym stood) all
