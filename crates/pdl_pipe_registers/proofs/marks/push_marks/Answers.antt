use Rattle.std.proofs.Common.{◌≡◌, ◌+◌, ◌<◌, ◌≤◌, ◌++◌, ◌∷◌, [], take, get_or, length, sym, ap, ◌∙◌, subst, arith}
use Rattle.std.proofs.lemmas.List.{take_more, take_all}
use Rattle.pdl_form.specs.FormView.{form}
use Rattle.pdl_net.proofs.Keeps.{extends_keeps}
use Rattle.pdl_pipe_exprs.specs.Nets.{signals_in}
use Rattle.pdl_law_parts.specs.Views.{View}
use Rattle.pdl_pipe_registers.specs.declared.nets.Item.TheVariants.{Mark}
use Rattle.pdl_pipe_registers.specs.Begun.{earlier_views, earlier_count, AddsMark}
use Rattle.pdl_pipe_registers.proofs.Lists.{view_at}
use Rattle.pdl_pipe_registers.proofs.Begins.{shared_keep, next_keep, earlier_now, ends_same}
use Rattle.pdl_pipe_registers.proofs.MarksBegun.{AreSeen, adds_as, marks_more, marks_listed, marks_still, seen_more, all_seen}
use Rattle.pdl_pipe_registers.proofs.marks.push_marks.Goals as goal

pub push_mark-requires-clause-shared : goal.push_mark-requires-clause-shared
push_mark-requires-clause-shared c =
    shared_keep c.args.b.now c.loop-i.b (form c.args.pipe.now) c.args.shared.now
    (extends_keeps c.args.b.now c.loop-i.b c.loop-i.invariant.0.extends) c.requires.shared

pub push_mark-requires-clause-earlier : goal.push_mark-requires-clause-earlier
push_mark-requires-clause-earlier c =
    earlier_now c.args.b.now c.loop-i.b (form c.args.pipe.now) c.args.shared.now c.args.earlier.now
    (extends_keeps c.args.b.now c.loop-i.b c.loop-i.invariant.0.extends) c.requires.shared c.requires.earlier

pub loop-i-preserved : goal.loop-i-preserved
loop-i-preserved c =
    let a = c.args.b.now in
    let b = c.loop-i.b in
    let d = c.push_mark.new.b in
    let f = form c.args.pipe.now in
    let x = c.args.earlier.now in
    let nexts = signals_in a c.args.shared.now.next in
    let us = earlier_views a x in
    let k = earlier_count x in
    let e = extends_keeps a b c.loop-i.invariant.0.extends in
    let items = c.stage_at-from.result.now.end.marks.items in
    let i = c.loop-i.i in
    let n = c.len-i-end.ensures in
    let t = c.loop-i-test.true in
    let low : i < length items = omega (arith, n, t) in
    let h = c.entry_of-x.result in
    let is : h ≡ get_or items i h = c.entry_of-x.ensures ∙ ap (λ xs. get_or xs i h) c.as_slice.ensures.value in
    let hs = c.loop-i.marks in
    let xs = c.push_mark.new.marks in
    let r = c.loop-i.regs in
    let u = c.push_mark.new.regs in
    let after : 0 < k = (let l = c.requires.low in omega (arith, l)) in
    let adds0 =
    subst (λ fs. AddsMark d f fs (earlier_views b x) k h.mark h.mem h.var r hs u xs)
    (next_keep a b f c.args.shared.now e c.requires.shared) c.in_ok-push_mark.ensures.adds in
    let adds =
    adds_as d f nexts (earlier_views b x) us k h.mark h.mem h.var r u hs xs
    (λ j l. sym (ends_same a b f nexts x.stages.now (Mark h.mark h.mem h.var) e c.requires.earlier.ended j l)) adds0 in
    let so = c.loop-i.invariant.0 in
    let r0 = c.args.regs.now in
    let hs0 = c.args.marks.now in
    let on : take i items ++ h ∷ [] ≡ take (i + 1) items = ap (λ y. take i items ++ y ∷ []) is ∙ sym (take_more items i h low) in (
      marks_more a b d f nexts us k r0 hs0 r u hs xs h.mark h.mem h.var after c.push_mark.ensures.extends c.in_ok-push_mark.ensures.last so adds,
      subst (λ l. AreSeen f k l xs) on
          (seen_more f k (take i items) hs xs h
          (marks_still a b d f nexts us k r0 hs0 r u hs xs h.mark h.mem h.var after c.push_mark.ensures.extends c.in_ok-push_mark.ensures.last so adds)
          (marks_listed a b d f nexts us k r0 hs0 r u hs xs h.mark h.mem h.var after c.push_mark.ensures.extends c.in_ok-push_mark.ensures.last so adds)
          c.loop-i.invariant.1),
    )

pub returns-clause-whole : goal.returns-clause-whole
returns-clause-whole c = λ mark m v need un.
    let a = c.args.b.now in
    let f = form c.args.pipe.now in
    let x = c.args.earlier.now in
    let k = earlier_count x in
    let s = c.stage_at-from.result.now in
    let items = s.end.marks.items in
    let n = c.len-i-end.ensures in
    let t = c.loop-i-test.false in
    let l : length items ≤ c.loop-i.i = omega (arith, n, t) in
    let seen : AreSeen f k items c.loop-i.marks = subst (λ ys. AreSeen f k ys c.loop-i.marks) (take_all c.loop-i.i items l) c.loop-i.invariant.1 in
    ap (λ (v' : View). v'.ended.marks mark m v) (view_at a x.stages.now c.args.j s c.requires.low (sym c.stage_at-from.ensures))
    ∙ all_seen a f k items c.loop-i.marks mark m v seen need un
