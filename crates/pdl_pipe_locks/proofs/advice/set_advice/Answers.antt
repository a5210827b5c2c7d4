use Rattle.std.proofs.Common.{◌≡◌, ◌-◌, List, length, map, sym, subst, arith}
use Rattle.pdl_form.specs.FormView.{form}
use Rattle.pdl_net.specs.Meaning.{signal}
use Rattle.pdl_law_parts.specs.Ports.{advises_to, all_advises}
use Rattle.pdl_pipe_walk.specs.declared.nets.AdvisingNet.{AdvisingNet}
use Rattle.pdl_pipe_walk.specs.Parts.{advising_in}
use Rattle.pdl_pipe_walk.specs.Locked.{Members}
use Rattle.pdl_pipe_walk.proofs.NetGrowth.{bits_keep}
use Rattle.pdl_net.proofs.KeptWidths.{width_keeps}
use Rattle.pdl_pipe_locks.specs.Deeds.{views_in, moves_in}
use Rattle.pdl_pipe_locks.specs.Advised.{IsGivenAdvising, ExtendsAdvice}
use Rattle.pdl_pipe_locks.proofs.AdviceGrowth.{plain_kept, given_advises, advice_same}
use Rattle.pdl_pipe_locks.proofs.AdviceStages.{IsGivenStage, stages_given, stages_step}
use Rattle.pdl_pipe_locks.proofs.PortStages.{each_at}
use Rattle.pdl_pipe_locks.proofs.advice.set_advice.Goals as goal
use Rattle.pdl_word.specs.Each.{Each}

pub loop-i-init : goal.loop-i-init
loop-i-init g c = advice_same (form c.args.round.now.pipe.now).pipe c.args.b.now

pub advise_stage-requires-clause-bits : goal.advise_stage-requires-clause-bits
advise_stage-requires-clause-bits g c = bits_keep c.args.b.now c.loop-i.b c.args.round.now.bits c.loop-i.invariant.keeps c.requires.bits

pub advise_stage-requires-clause-arrays : goal.advise_stage-requires-clause-arrays
advise_stage-requires-clause-arrays g c =
    let h = c.requires.locked in
    plain_kept c.args.b.now c.loop-i.b (form c.args.round.now.pipe.now).pipe c.loop-i.invariant.keeps
    (record { has_array = h.has_array; width = h.width; depth = h.depth })

pub advise_stage-requires-clause-moves : goal.advise_stage-requires-clause-moves
advise_stage-requires-clause-moves g c =
    let L = g.L.LockModule in
    let l : Members g.row.L.Denot = record { placed = L.placed; stands = L.stands; kind = L.kind_of; size = L.size; tickets = L.tickets } in
    let f = form c.args.round.now.pipe.now in
    let ds = c.args.round.now.deeds.now in
    let d = c.deed_at-deed.result in
    let given =
    each_at (IsGivenStage c.args.b.now f.pipe) ds (length ds - 1 - c.loop-i.i) d (omega (arith, c.loop-i-test.true)) c.deed_at-deed.ensures
    (stages_given l c.args.b.now f.pipe f.widths c.args.round.now.locks.now ds c.requires.deeds.each) in
    width_keeps c.args.b.now c.loop-i.b d.moves 1 c.loop-i.invariant.keeps given.moves

pub advise_stage-requires-clause-given : goal.advise_stage-requires-clause-given
advise_stage-requires-clause-given g c =
    let L = g.L.LockModule in
    let l : Members g.row.L.Denot = record { placed = L.placed; stands = L.stands; kind = L.kind_of; size = L.size; tickets = L.tickets } in
    let f = form c.args.round.now.pipe.now in
    let ds = c.args.round.now.deeds.now in
    let d = c.deed_at-deed.result in
    let given =
    each_at (IsGivenStage c.args.b.now f.pipe) ds (length ds - 1 - c.loop-i.i) d (omega (arith, c.loop-i-test.true)) c.deed_at-deed.ensures
    (stages_given l c.args.b.now f.pipe f.widths c.args.round.now.locks.now ds c.requires.deeds.each) in
    subst (λ (xs : List AdvisingNet). Each (IsGivenAdvising c.loop-i.b f.pipe) xs) (sym c.as_slice-advises.ensures)
    (given_advises c.args.b.now c.loop-i.b f.pipe c.loop-i.invariant.keeps d.ended.now.advises given.advises)

pub loop-i-preserved : goal.loop-i-preserved
loop-i-preserved g c =
    let L = g.L.LockModule in
    let l : Members g.row.L.Denot = record { placed = L.placed; stands = L.stands; kind = L.kind_of; size = L.size; tickets = L.tickets } in
    let f = form c.args.round.now.pipe.now in
    let a = c.args.b.now in
    let b = c.loop-i.b in
    let e = c.advise_stage.new.b in
    let ds = c.args.round.now.deeds.now in
    let d = c.deed_at-deed.result in
    let given =
    each_at (IsGivenStage a f.pipe) ds (length ds - 1 - c.loop-i.i) d (omega (arith, c.loop-i-test.true)) c.deed_at-deed.ensures
    (stages_given l a f.pipe f.widths c.args.round.now.locks.now ds c.requires.deeds.each) in
    let made =
    subst (λ (xs : List AdvisingNet). ExtendsAdvice f.pipe b e (λ m. advises_to m (signal b d.moves) (map (advising_in b) xs))) c.as_slice-advises.ensures
    c.in_ok-advise_stage.ensures in
    stages_step f.pipe a b ds e c.loop-i.i d c.loop-i-test.true c.deed_at-deed.ensures given c.loop-i.invariant made

pub returns : goal.returns
returns g c =
    let a = c.args.b.now in
    let ds = c.args.round.now.deeds.now in
    let p = (form c.args.round.now.pipe.now).pipe in
    let n : c.loop-i.i ≡ length ds = omega (arith, c.loop-i-test.false, c.loop-i.auto.i-end) in
    let none : length ds - c.loop-i.i ≡ 0 = omega (arith, n) in
    subst (λ k. ExtendsAdvice p a c.loop-i.b (λ m. all_advises m (views_in a ds) (moves_in a ds) (length ds) k)) none
    (subst (λ k. ExtendsAdvice p a c.loop-i.b (λ m. all_advises m (views_in a ds) (moves_in a ds) k (length ds - c.loop-i.i))) n c.loop-i.invariant)
