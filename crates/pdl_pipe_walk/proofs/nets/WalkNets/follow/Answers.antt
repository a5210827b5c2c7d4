use Rattle.std.proofs.Common.{◌≡◌, ◌∙◌, List, map, sym, ap, ap₂, subst}
use Rattle.pdl_word.specs.Each.{Each}
use Rattle.pdl_form.specs.FormView.{form}
use Rattle.pdl_net.specs.Signal.{Signal, mux_signal}
use Rattle.pdl_net.specs.Meaning.{signal}
use Rattle.pdl_net.specs.HasWidth.{HasWidth}
use Rattle.pdl_net.proofs.Keeps.{extends_trans}
use Rattle.pdl_net.proofs.KeptWidths.{width_kept, width_meant}
use Rattle.pdl_law_parts.specs.Walk.{reserved_signal}
use Rattle.pdl_pipe_walk.specs.declared.nets.ReserveNet.{ReserveNet}
use Rattle.pdl_pipe_walk.specs.Parts.{parts_in, reservation_in}
use Rattle.pdl_pipe_walk.proofs.Lists.{on_ok}
use Rattle.pdl_pipe_walk.proofs.WalkGrowth.{walk_more, parts_more}
use Rattle.pdl_pipe_walk.proofs.Reserved.{reserved_one, reserves_given, second_made}
use Rattle.pdl_pipe_walk.proofs.nets.WalkNets.follow.Goals as goal

pub reserved-requires-clause-given : goal.reserved-requires-clause-given
reserved-requires-clause-given c =
    let a = c.args.b.now in
    let w = c.args.self.now in
    subst (λ (rs : List ReserveNet). Each (λ (r : ReserveNet). HasWidth a r.on 1) rs) (sym c.as_slice.ensures)
    (reserves_given a (form c.args.pipe.now).pipe w.reserves c.requires.walk.there.reserves c.requires.walk.sized.reserves)

pub set_mark-requires-clause-walk : goal.set_mark-requires-clause-walk
set_mark-requires-clause-walk c =
    walk_more c.args.b.now c.reserved.new.b c.reserved.ensures.extends (form c.args.pipe.now).pipe
    (form c.args.pipe.now).widths c.args.self.now c.requires.walk

pub set_mark-requires-clause-on : goal.set_mark-requires-clause-on
set_mark-requires-clause-on c = width_kept c.args.b.now c.reserved.new.b c.args.reserve.on 1 c.reserved.ensures.extends c.requires.on

pub wait-requires-clause-walk : goal.wait-requires-clause-walk
wait-requires-clause-walk c =
    walk_more c.set_mark.new.b c.mux.new.self c.mux.ensures.extends (form c.args.pipe.now).pipe
    (form c.args.pipe.now).widths c.set_mark.new.self c.in_ok-set_mark.ensures.walk

pub set_mark-requires-clause-net : goal.set_mark-requires-clause-net
set_mark-requires-clause-net c = width_meant c.reserved.new.b c.in_ok-before.before _ 1 c.in_ok-before.ensures.means (reserved_one c.args.reserve.mem _)

pub returns-clause-parts : goal.returns-clause-parts
returns-clause-parts c =
    let a = c.args.b.now in
    let b1 = c.reserved.new.b in
    let b2 = c.set_mark.new.b in
    let b3 = c.mux.new.self in
    let e1 = c.reserved.ensures.extends in
    let e2 = c.set_mark.ensures.extends in
    let e12 = extends_trans a b1 b2 e1 e2 in
    let e3 = c.mux.ensures.extends in
    let e23 = extends_trans b1 b2 b3 e2 e3 in
    let p = (form c.args.pipe.now).pipe in
    let ws = (form c.args.pipe.now).widths in
    let w = c.args.self.now in
    let x = c.args.reserve in
    let before = c.in_ok-before.before in
    let there = c.in_ok-before.ensures.means.there in
    let told : signal b1 before ≡ reserved_signal x.mem (map (reservation_in a) w.reserves) =
    c.in_ok-before.ensures.means.same
    ∙ ap (λ (rs : List ReserveNet). reserved_signal x.mem (map (reservation_in a) rs)) c.as_slice.ensures in
    let free : signal b3 c.in_ok-free.free
    ≡ mux_signal (reserved_signal x.mem (map (reservation_in a) w.reserves)) (signal a c.args.room2) (signal a c.args.room) =
    c.in_ok-free.ensures.means.same
    ∙ ap (λ (f : Signal). mux_signal f (signal b2 c.args.room2) (signal b2 c.args.room)) (e2.kept before there ∙ told)
    ∙ ap₂ (mux_signal (reserved_signal x.mem (map (reservation_in a) w.reserves)))
    (e12.kept c.args.room2 c.requires.room2.there) (e12.kept c.args.room c.requires.room.there) in
    let on_is : signal b1 x.on ≡ signal a x.on = e1.kept x.on c.requires.on.there in
    on_ok c.wait.result
    (λ q. second_made x.mem x.var (parts_in c.wait.new.b c.wait.new.self)
    (parts_in b3 c.set_mark.new.self) (parts_in b2 c.set_mark.new.self) (parts_in b1 w)
    (parts_in a w) (signal b1 x.on) (signal b3 x.on) (signal a x.on) (signal b1 before) (signal b3 c.in_ok-free.free)
    (signal a c.args.room)
    (signal a c.args.room2) q (parts_more b2 b3 e3 p ws c.set_mark.new.self c.in_ok-set_mark.ensures.walk) c.in_ok-set_mark.ensures.parts
    (parts_more a b1 e1 p ws w c.requires.walk) on_is (e23.kept x.on (e1.there x.on c.requires.on.there) ∙ on_is) told free)
    c.wait.ensures.parts
