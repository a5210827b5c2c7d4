use Rattle.std.proofs.Common.{◌≡◌, ◌∙◌, List, sym, ap, subst}
use Rattle.std.specs.Prelude.{◌^◌}
use Rattle.pdl_net.specs.Signal.{Signal}
use Rattle.pdl_net.specs.Meaning.{signal}
use Rattle.pdl_net.proofs.Keeps.{extends_keeps, extends_trans}
use Rattle.pdl_form.specs.FormView.{form}
use Rattle.pdl_form.specs.View.{guards_view}
use Rattle.pdl_pipe_exprs.specs.Nets.{signals_in, signal_at}
use Rattle.pdl_pipe_exprs.specs.Conditions.{taken_signal}
use Rattle.pdl_law_parts.specs.Walk.{Locks}
use Rattle.pdl_pipe_walk.specs.Parts.{parts_in}
use Rattle.pdl_pipe_walk.specs.Sized.{IsWalk}
use Rattle.pdl_pipe_walk.specs.Steps.{with_room}
use Rattle.pdl_pipe_walk.specs.Locked.{members, locks_in}
use Rattle.pdl_pipe_walk.proofs.Lists.{on_ok}
use Rattle.pdl_pipe_walk.proofs.WalkGrowth.{walk_more, parts_more, vars_same, reach_at}
use Rattle.pdl_pipe_walk.proofs.ChangedNets.{reserve_walk, reserve_made}
use Rattle.pdl_pipe_walk.proofs.Updates.{reserve_parts}
use Rattle.pdl_pipe_walk.proofs.MadeLocks.{locked_keep, locks_same}
use Rattle.pdl_pipe_walk.proofs.nets.WalkNets.reserve.Goals as goal

pub variable-addr-requires-clause-walk : goal.variable-addr-requires-clause-walk
variable-addr-requires-clause-walk g c =
    walk_more c.args.b.now c.all_taken.new.b c.all_taken.ensures.extends (form c.args.setting.now.pipe.now).pipe
    (form c.args.setting.now.pipe.now).widths c.args.self.now c.requires.walk

pub set_mark-requires-clause-walk : goal.set_mark-requires-clause-walk
set_mark-requires-clause-walk g c =
    walk_more c.args.b.now c.all_taken.new.b c.all_taken.ensures.extends (form c.args.setting.now.pipe.now).pipe
    (form c.args.setting.now.pipe.now).widths c.args.self.now c.requires.walk

pub returns-in_err-set_mark-clause-extends : goal.returns-in_err-set_mark-clause-extends
returns-in_err-set_mark-clause-extends g c =
    extends_trans c.args.b.now c.all_taken.new.b c.set_mark.new.b c.all_taken.ensures.extends c.set_mark.ensures.extends

pub wait_for_room-requires-clause-locks : goal.wait_for_room-requires-clause-locks
wait_for_room-requires-clause-locks g c =
    let a = c.args.b.now in
    let b2 = c.set_mark.new.b in
    locked_keep (members g.L.LockModule) a b2
    (extends_keeps a b2 (extends_trans a c.all_taken.new.b b2 c.all_taken.ensures.extends c.set_mark.ensures.extends)) g.met.L.LockModule.stays
    (form c.args.setting.now.pipe.now).pipe c.args.setting.now.locks.now c.requires.locks

pub returns-in_err-wait_for_room-clause-extends : goal.returns-in_err-wait_for_room-clause-extends
returns-in_err-wait_for_room-clause-extends g c =
    extends_trans c.args.b.now c.set_mark.new.b c.wait_for_room.new.b
    (extends_trans c.args.b.now c.all_taken.new.b c.set_mark.new.b c.all_taken.ensures.extends c.set_mark.ensures.extends)
    c.wait_for_room.ensures.extends

pub returns-clause-extends : goal.returns-clause-extends
returns-clause-extends g c =
    extends_trans c.args.b.now c.set_mark.new.b c.wait_for_room.new.b
    (extends_trans c.args.b.now c.all_taken.new.b c.set_mark.new.b c.all_taken.ensures.extends c.set_mark.ensures.extends)
    c.wait_for_room.ensures.extends

pub returns-clause-walk : goal.returns-clause-walk
returns-clause-walk g c =
    let a = c.args.b.now in
    let first_b = c.all_taken.new.b in
    let two = c.set_mark.new.b in
    let three = c.wait_for_room.new.b in
    let w = c.args.self.now in
    let first = c.all_taken.ensures.extends in
    let after = c.set_mark.ensures.extends in
    let last = c.wait_for_room.ensures.extends in
    let s = c.wait_for_room.new.self in
    let on_at = extends_trans first_b two three after last in
    let on_there = c.in_ok-on.ensures.means.there in
    let addr_there = c.variable-addr.ensures.there in
    on_ok c.push_reserve.result
    (λ q. subst (IsWalk three (form c.args.setting.now.pipe.now).pipe (form c.args.setting.now.pipe.now).widths) (sym q)
    (reserve_walk three (form c.args.setting.now.pipe.now).pipe
    (form c.args.setting.now.pipe.now).widths s c.in_ok-wait_for_room.ensures.walk c.args.m c.args.a c.in_ok-on.on c.variable-addr.result
    (on_at.there c.in_ok-on.on on_there)
    (on_at.there c.variable-addr.result addr_there) c.requires.at.memory
    (ap (λ (f : Signal). f.width) (on_at.kept c.in_ok-on.on on_there) ∙ c.in_ok-on.ensures.one)
    (ap (λ (f : Signal). 2 ^ f.width) (on_at.kept c.variable-addr.result addr_there)
    ∙ reach_at first_b (form c.args.setting.now.pipe.now).pipe (form c.args.setting.now.pipe.now).widths w
    (walk_more a first_b first (form c.args.setting.now.pipe.now).pipe
    (form c.args.setting.now.pipe.now).widths w c.requires.walk) c.args.m c.args.a c.variable-addr.result
    (signal first_b c.variable-addr.result) c.requires.at c.variable-addr.ensures.same)))
    c.push_reserve.ensures

pub returns-clause-parts : goal.returns-clause-parts
returns-clause-parts g c =
    let a = c.args.b.now in
    let first_b = c.all_taken.new.b in
    let two = c.set_mark.new.b in
    let three = c.wait_for_room.new.b in
    let w = c.args.self.now in
    let p = (form c.args.setting.now.pipe.now).pipe in
    let xs = c.args.setting.now.locks.now in
    let first = c.all_taken.ensures.extends in
    let after = c.set_mark.ensures.extends in
    let last = c.wait_for_room.ensures.extends in
    let far = extends_trans a first_b two first after in
    let s = c.wait_for_room.new.self in
    let on_at = extends_trans first_b two three after last in
    let on_there = c.in_ok-on.ensures.means.there in
    let on_same = c.in_ok-on.ensures.means.same in
    let addr_there = c.variable-addr.ensures.there in
    let fs = signals_in a w.vars.items in
    let on = taken_signal fs (guards_view c.args.guards.now) in
    let ls : Locks = locks_in (members g.L.LockModule) p a xs in
    let same : locks_in (members g.L.LockModule) p two xs ≡ ls =
    locks_same (members g.L.LockModule) a two (extends_keeps a two far) g.met.L.LockModule.stays p xs c.requires.locks in
    let waits : parts_in three s ≡ with_room ls c.args.m c.args.a (signal two c.in_ok-on.on) (parts_in two c.set_mark.new.self) =
    c.in_ok-wait_for_room.ensures.parts
    ∙ ap (λ (l : Locks). with_room l c.args.m c.args.a (signal two c.in_ok-on.on) (parts_in two c.set_mark.new.self)) same in
    on_ok c.push_reserve.result
    (λ q. ap (parts_in three) q ∙ reserve_parts three s (record { mem = c.args.m; var = c.args.a; on = c.in_ok-on.on; addr = c.variable-addr.result })
    ∙ reserve_made ls c.args.m c.args.a (parts_in three s) (parts_in two c.set_mark.new.self) (parts_in first_b w)
    (parts_in a w) (signal first_b c.in_ok-on.on) (signal two c.in_ok-on.on) (signal three c.in_ok-on.on) on
    (signal first_b c.args.setting.now.bits.one) (signal three c.variable-addr.result) waits c.in_ok-set_mark.ensures.parts
    (parts_more a first_b first (form c.args.setting.now.pipe.now).pipe (form c.args.setting.now.pipe.now).widths w c.requires.walk)
    on_same (after.kept c.in_ok-on.on on_there ∙ on_same) (on_at.kept c.in_ok-on.on on_there ∙ on_same)
    (first.kept c.args.setting.now.bits.one c.requires.bits.one.there ∙ c.requires.bits.one.same)
    (on_at.kept c.variable-addr.result addr_there ∙ c.variable-addr.ensures.same
    ∙ ap (λ (l : List Signal). signal_at l c.args.a)
    (vars_same a first_b first (form c.args.setting.now.pipe.now).pipe (form c.args.setting.now.pipe.now).widths w c.requires.walk)))
    c.push_reserve.ensures
