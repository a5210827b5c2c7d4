use Rattle.std.proofs.Common.{[], ◌∷◌, ◌++◌, ap, ◌∙◌}
use Rattle.pdl_net.specs.Meaning.{signal, WriteSignal, write_signals}
use Rattle.pdl_lockapi.specs.Laws.{step_signals}
use Rattle.pdl_lock_ring.proofs.StepCalls.{writes_one, writes_two, same_write}
use Rattle.pdl_lock_ring.proofs.step.emit_write.Goals as goal

pub returns-then-off-clause-write : goal.returns-then-off-clause-write
unfolding step_signals
returns-then-off-clause-write c =
    let a = c.args.b.now in
    let p = c.args.p.now in
    let o = c.args.o in
    writes_one a c.write.new.self c.args.l c.args.m (record { enable = signal a p.release; addr = signal a o.first.addr; value = signal a o.first.content })
    (record { enable = signal a p.release2; addr = signal a o.second.addr; value = signal a o.second.content })
    c.requires.array c.requires.empty c.in_ok-write.ensures.writes (λ s. c.is_off-off.ensures c.if-off.true s)

pub returns-clause-write : goal.returns-clause-write
unfolding step_signals
returns-clause-write c =
    let a = c.args.b.now in
    let b = c.write.new.self in
    let p = c.args.p.now in
    let o = c.args.o in
    let h = c.requires.oldest in
    let m = c.args.m in
    let x = c.in_ok-write.ensures.extends in
    let v : WriteSignal = record { enable = signal a p.release2; addr = signal a o.second.addr; value = signal a o.second.content } in
    let e =
    same_write (signal b p.release2) (signal b o.second.addr) (signal b o.second.content) (signal a p.release2)
    (signal a o.second.addr) (signal a o.second.content) (x.kept p.release2 c.requires.given.ports.release2)
    (x.kept o.second.addr h.addr2.there) (x.kept o.second.content h.content2.there) in
    writes_two a b c.write-2.new.self c.args.l m (record { enable = signal a p.release; addr = signal a o.first.addr; value = signal a o.first.content }) v
    c.requires.array c.requires.empty c.in_ok-write.ensures.writes (c.in_ok-write-2.ensures.writes ∙ ap (λ (u : WriteSignal). write_signals b m ++ u ∷ []) e)
