use Rattle.std.proofs.Common.{◌∙◌, sym, subst}
use Rattle.pdl_pipe_walk.specs.Locked.{members}
use Rattle.pdl_pipe_walk.proofs.NetGrowth.{bits_keep}
use Rattle.pdl_pipe_nexts.specs.Lines.{line_form, line_pipe}
use Rattle.pdl_pipe_locks.proofs.LockGrowth.{locked_kept, laws_kept, deeds_kept, squash_kept}
use Rattle.pdl_pipe_emitted.specs.Emitted.{AreDeedsOf}
use Rattle.pdl_pipe.proofs.DeedNets.{deeds_there}
use Rattle.pdl_pipe.proofs.steps.set_memories.Goals as goal

pub set_advice-requires-clause-deeds : goal.set_advice-requires-clause-deeds
set_advice-requires-clause-deeds g c =
    let all = c.args.all.now in
    deeds_there
    (members g.L.LockModule) c.args.b.now all.line.now all.locks.now c.as_slice.result.now c.requires.line c.requires.locked c.requires.next
    (subst (AreDeedsOf all.line.now) (sym c.as_slice.ensures.value) c.in_ok-deeds.ensures)

pub set_locks-requires-clause-bits : goal.set_locks-requires-clause-bits
set_locks-requires-clause-bits g c =
    let all = c.args.all.now in
    bits_keep c.args.b.now c.set_advice.new.b all.line.now.shared.now.bits c.in_ok-set_advice.ensures.keeps c.requires.line.shared.bits

pub set_locks-requires-clause-locked : goal.set_locks-requires-clause-locked
set_locks-requires-clause-locked g c =
    let all = c.args.all.now in
    locked_kept (members g.L.LockModule) c.args.b.now c.set_advice.new.b (line_pipe all.line.now) all.locks.now c.in_ok-set_advice.ensures.keeps
    g.met.L.LockModule.stays c.requires.locked

pub set_locks-requires-clause-lawful : goal.set_locks-requires-clause-lawful
set_locks-requires-clause-lawful g c =
    let all = c.args.all.now in
    laws_kept (members g.L.LockModule) c.args.b.now c.set_advice.new.b (line_pipe all.line.now) all.locks.now c.in_ok-set_advice.ensures.keeps
    c.requires.locked c.requires.lawful

pub set_locks-requires-clause-unwritten : goal.set_locks-requires-clause-unwritten
set_locks-requires-clause-unwritten g c m low held once = c.in_ok-set_advice.ensures.locked m low held once ∙ c.requires.unwritten m low once

pub set_locks-requires-clause-deeds : goal.set_locks-requires-clause-deeds
set_locks-requires-clause-deeds g c =
    let all = c.args.all.now in
    let b = c.args.b.now in
    let f = line_form all.line.now in
    deeds_kept (members g.L.LockModule) b c.set_advice.new.b f.pipe f.widths all.locks.now c.as_slice.result.now c.in_ok-set_advice.ensures.keeps
    (deeds_there
    (members g.L.LockModule) b all.line.now all.locks.now c.as_slice.result.now c.requires.line c.requires.locked c.requires.next
    (subst (AreDeedsOf all.line.now) (sym c.as_slice.ensures.value) c.in_ok-deeds.ensures))

pub set_locks-requires-clause-squash : goal.set_locks-requires-clause-squash
set_locks-requires-clause-squash g c =
    let all = c.args.all.now in
    squash_kept (members g.L.LockModule) c.args.b.now c.set_advice.new.b all.locks.now all.squash c.args.cut.now c.in_ok-set_advice.ensures.keeps
    (record { squash = c.requires.squash; tails = c.requires.cut })
