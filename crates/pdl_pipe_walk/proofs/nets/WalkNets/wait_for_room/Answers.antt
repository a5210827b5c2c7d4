use Rattle.std.proofs.Common.{◌∙◌, sym, ap, subst}
use Rattle.pdl_form.specs.FormView.{form}
use Rattle.pdl_net.specs.declared.Net.{Net}
use Rattle.pdl_net.specs.Meaning.{signal}
use Rattle.pdl_net.specs.HasWidth.{HasWidth}
use Rattle.pdl_pipe_walk.specs.Parts.{parts_in}
use Rattle.pdl_pipe_walk.specs.Locked.{members, locks_in}
use Rattle.pdl_pipe_walk.proofs.Lists.{on_ok}
use Rattle.pdl_pipe_walk.proofs.MadeLocks.{room_signal, room_there, room2_signal, room2_there}
use Rattle.pdl_pipe_walk.proofs.Reserved.{room_twice, room_once}
use Rattle.pdl_pipe_walk.proofs.nets.WalkNets.wait_for_room.Goals as goal

pub follow-requires-clause-room : goal.follow-requires-clause-room
follow-requires-clause-room g c =
    subst (λ (x : Net). HasWidth c.args.b.now x 1) (sym c.room-one.ensures)
    (room_there (members g.L.LockModule) c.args.b.now
    (form c.args.setting.now.pipe.now).pipe c.args.setting.now.locks.now c.requires.locks c.args.reserve.mem c.requires.low c.requires.locked)

pub follow-requires-clause-room2 : goal.follow-requires-clause-room2
follow-requires-clause-room2 g c =
    subst (λ (x : Net). HasWidth c.args.b.now x 1) (sym c.room2-two.ensures)
    (room2_there (members g.L.LockModule) c.args.b.now
    (form c.args.setting.now.pipe.now).pipe c.args.setting.now.locks.now c.requires.locks c.args.reserve.mem c.requires.low c.requires.locked)

pub wait-requires-clause-net : goal.wait-requires-clause-net
wait-requires-clause-net g c =
    subst (λ (x : Net). HasWidth c.args.b.now x 1) (sym c.room-one.ensures)
    (room_there (members g.L.LockModule) c.args.b.now
    (form c.args.setting.now.pipe.now).pipe c.args.setting.now.locks.now c.requires.locks c.args.reserve.mem c.requires.low c.requires.locked)

pub returns-then-is_twice-clause-parts : goal.returns-then-is_twice-clause-parts
returns-then-is_twice-clause-parts g c =
    let a = c.args.b.now in
    let p = (form c.args.setting.now.pipe.now).pipe in
    let xs = c.args.setting.now.locks.now in
    let m = c.args.reserve.mem in
    on_ok c.follow.result
    (λ q. room_twice (locks_in (members g.L.LockModule) p a xs) m c.args.reserve.var
    (signal a c.args.reserve.on)
    (signal a c.room-one.result)
    (signal a c.room2-two.result) (parts_in c.follow.new.b c.follow.new.self)
    (parts_in a c.args.self.now) (sym c.is_twice.ensures ∙ c.if-is_twice.true)
    (ap (signal a) c.room-one.ensures ∙ room_signal (members g.L.LockModule) a p xs c.requires.locks m c.requires.low c.requires.locked)
    (ap (signal a) c.room2-two.ensures ∙ room2_signal (members g.L.LockModule) a p xs c.requires.locks m c.requires.low c.requires.locked) q)
    c.follow.ensures.parts

pub returns-else-is_twice-clause-parts : goal.returns-else-is_twice-clause-parts
returns-else-is_twice-clause-parts g c =
    let a = c.args.b.now in
    let p = (form c.args.setting.now.pipe.now).pipe in
    let xs = c.args.setting.now.locks.now in
    let m = c.args.reserve.mem in
    on_ok c.wait.result
    (λ q. room_once (locks_in (members g.L.LockModule) p a xs) m c.args.reserve.var
    (signal a c.args.reserve.on)
    (signal a c.room-one.result) (parts_in c.wait.new.b c.wait.new.self)
    (parts_in a c.args.self.now) (sym c.is_twice.ensures ∙ c.if-is_twice.false)
    (ap (signal a) c.room-one.ensures ∙ room_signal (members g.L.LockModule) a p xs c.requires.locks m c.requires.low c.requires.locked) q)
    c.wait.ensures.parts
