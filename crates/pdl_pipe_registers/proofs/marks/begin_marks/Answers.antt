use Rattle.std.proofs.Common.{◌≡◌, ℕ, ◌<◌, [], take, length, sym, ◌∙◌, subst, arith}
use Rattle.std.proofs.lemmas.List.{take_more, take_all}
use Rattle.std.specs.Prelude.{slice_index}
use Rattle.pdl_form.specs.FormView.{form}
use Rattle.pdl_net.proofs.Keeps.{extends_keeps}
use Rattle.pdl_pipe_exprs.specs.Nets.{signals_in}
use Rattle.pdl_law_parts.specs.declared.Mark.{Mark as MarkKind}
use Rattle.pdl_pipe_registers.specs.declared.nets.Item.TheVariants.{Mark}
use Rattle.pdl_pipe_registers.specs.Stages.{IsFrame}
use Rattle.pdl_pipe_registers.specs.Begun.{earlier_views, earlier_count, AreMarksBegun, HasAllMarks}
use Rattle.pdl_pipe_registers.specs.Items.{ended_item}
use Rattle.pdl_pipe_registers.proofs.Lists.{each_map}
use Rattle.pdl_pipe_walk.proofs.Lists.{each_at as each_in}
use Rattle.pdl_pipe_registers.proofs.Begins.{shared_keep, next_keep, earlier_now, ends_same}
use Rattle.pdl_pipe_registers.proofs.MarksBegun.{marks_as, marks_then, all_marks_more}
use Rattle.pdl_word.specs.Each.{Each}
use Rattle.pdl_word.proofs.Each.{each_push}
use Rattle.pdl_pipe_registers.proofs.marks.begin_marks.Goals as goal

pub push_marks-requires-clause-shared : goal.push_marks-requires-clause-shared
push_marks-requires-clause-shared c =
    shared_keep c.args.b.now c.loop-j.b (form c.args.pipe.now) c.args.shared.now
    (extends_keeps c.args.b.now c.loop-j.b c.loop-j.invariant.0.extends) c.requires.shared

pub push_marks-requires-clause-earlier : goal.push_marks-requires-clause-earlier
push_marks-requires-clause-earlier c =
    earlier_now c.args.b.now c.loop-j.b (form c.args.pipe.now) c.args.shared.now c.args.earlier.now
    (extends_keeps c.args.b.now c.loop-j.b c.loop-j.invariant.0.extends) c.requires.shared c.requires.earlier

pub push_marks-requires-clause-frame : goal.push_marks-requires-clause-frame
push_marks-requires-clause-frame c =
    let e = extends_keeps c.args.b.now c.loop-j.b c.loop-j.invariant.0.extends in
    subst (λ fs. IsFrame c.loop-j.b (form c.args.pipe.now) fs (earlier_count c.args.earlier.now) c.loop-j.regs)
    (sym (next_keep c.args.b.now c.loop-j.b (form c.args.pipe.now) c.args.shared.now e c.requires.shared)) c.loop-j.invariant.0.frame

pub push_marks-requires-clause-begun : goal.push_marks-requires-clause-begun
push_marks-requires-clause-begun c =
    let a = c.args.b.now in
    let b = c.loop-j.b in
    let f = form c.args.pipe.now in
    let x = c.args.earlier.now in
    let k = earlier_count x in
    let so = c.loop-j.invariant.0 in
    let e = extends_keeps a b so.extends in
    let nexts = signals_in a c.args.shared.now.next in
    subst (λ fs. AreMarksBegun b f fs (earlier_views b x) k c.loop-j.regs c.loop-j.marks) (sym (next_keep a b f c.args.shared.now e c.requires.shared))
    (marks_as b f nexts (earlier_views a x)
    (earlier_views b x) k c.loop-j.regs c.loop-j.marks
    (λ mark m v j l. ends_same a b f nexts x.stages.now (Mark mark m v) e c.requires.earlier.ended j l) so.begun)

pub loop-j-preserved : goal.loop-j-preserved
loop-j-preserved c =
    let a = c.args.b.now in
    let b = c.loop-j.b in
    let d = c.push_marks.new.b in
    let f = form c.args.pipe.now in
    let x = c.args.earlier.now in
    let k = earlier_count x in
    let so = c.loop-j.invariant.0 in
    let e = extends_keeps a b so.extends in
    let nexts = signals_in a c.args.shared.now.next in
    let us = earlier_views a x in
    let vs = earlier_views b x in
    let is = next_keep a b f c.args.shared.now e c.requires.shared in
    let hs = c.loop-j.marks in
    let xs = c.push_marks.new.marks in
    let r = c.loop-j.regs in
    let t = c.push_marks.new.regs in
    let js = x.ways.now in
    let i = c.loop-j.j-index in
    let low : i < length js = (let q = c.loop-j-test.true in omega (arith, q)) in
    let done = c.in_ok-push_marks.ensures in
    let same : (mark : MarkKind) (m v j : ℕ) → j < k → ended_item (us j) (Mark mark m v) ≡ ended_item (vs j) (Mark mark m v) =
    λ mark m v j l. sym (ends_same a b f nexts x.stages.now (Mark mark m v) e c.requires.earlier.ended j l) in
    let frame = subst (λ fs. IsFrame d f fs k t) is done.frame in
    let begun = marks_as d f nexts vs us k t xs same (subst (λ fs. AreMarksBegun d f fs vs k t xs) is done.begun) in
    let P : ℕ → Type 0 = λ j. HasAllMarks f.pipe k (us j) xs in
    let before = each_map (λ j. HasAllMarks f.pipe k (us j) hs) P (take i js) (λ j q. all_marks_more f.pipe k (us j) hs xs done.more q) c.loop-j.invariant.1 in
    let way = slice_index js i in
    let here : P way =
    λ mark m v need un. same mark m v way (each_in (λ j. j < length x.stages.now) js i 0 low c.requires.earlier.low) ∙ done.whole mark m v need un in (
      marks_then a b d f nexts us k c.args.regs.now [] r t hs xs so c.push_marks.ensures.extends frame done.own done.longer begun done.more,
      subst (Each P) (sym (take_more js i 0 low)) (each_push P (take i js) way before here),
    )

pub returns-clause-whole : goal.returns-clause-whole
returns-clause-whole c =
    let f = form c.args.pipe.now in
    let x = c.args.earlier.now in
    let t = c.loop-j-test.false in
    subst (Each (λ j. HasAllMarks f.pipe (earlier_count x) (earlier_views c.args.b.now x j) c.loop-j.marks))
    (take_all c.loop-j.j-index x.ways.now (omega (arith, t))) c.loop-j.invariant.1
