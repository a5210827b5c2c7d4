use Rattle.std.proofs.Common.{◌≡◌, ◌∙◌, ◌++◌, [], ◌∷◌, sym, ap, ap₂, subst}
use Rattle.pdl_net.specs.Signal.{Signal}
use Rattle.pdl_net.specs.Meaning.{signal}
use Rattle.pdl_net.proofs.KeptWidths.{width_meant}
use Rattle.pdl_net.proofs.Keeps.{extends_trans}
use Rattle.pdl_form.specs.FormView.{form}
use Rattle.pdl_form.specs.View.{guards_view}
use Rattle.pdl_pipe_exprs.specs.Nets.{signals_in}
use Rattle.pdl_pipe_exprs.specs.Conditions.{taken_signal}
use Rattle.pdl_law_parts.specs.declared.Mark.TheVariants.{Held}
use Rattle.pdl_pipe_walk.specs.Parts.{Parts, parts_in, mark_of}
use Rattle.pdl_pipe_walk.specs.Sized.{IsWalk}
use Rattle.pdl_pipe_walk.specs.Steps.{with_mark}
use Rattle.pdl_law_parts.specs.Walk.{zero_bit, both}
use Rattle.pdl_pipe_walk.proofs.NetGrowth.{mark_width}
use Rattle.pdl_pipe_walk.proofs.Lists.{on_ok}
use Rattle.pdl_pipe_walk.proofs.WalkGrowth.{walk_more, there_more, parts_more}
use Rattle.pdl_pipe_walk.proofs.ChangedNets.{letting_walk, release_same}
use Rattle.pdl_pipe_walk.proofs.Updates.{letting_parts}
use Rattle.pdl_pipe_walk.proofs.nets.WalkNets.release.Goals as goal

pub is_marked-held-requires-clause-there : goal.is_marked-held-requires-clause-there
is_marked-held-requires-clause-there c =
    there_more c.args.b.now c.all_taken.new.b c.all_taken.ensures.extends (form c.args.pipe.now).pipe
    (form c.args.pipe.now).widths c.args.self.now c.requires.walk

pub both-requires-clause-y : goal.both-requires-clause-y
both-requires-clause-y c =
    let here =
    walk_more c.args.b.now c.all_taken.new.b c.all_taken.ensures.extends (form c.args.pipe.now).pipe
    (form c.args.pipe.now).widths c.args.self.now c.requires.walk in
    width_meant c.all_taken.new.b _ _ 1 c.is_marked-held.ensures
    (mark_width (parts_in c.all_taken.new.b c.args.self.now).marks Held c.args.m c.args.a here.sized.marks)

pub set_mark-requires-clause-walk : goal.set_mark-requires-clause-walk
set_mark-requires-clause-walk c =
    walk_more c.args.b.now c.both.new.b (extends_trans c.args.b.now c.all_taken.new.b c.both.new.b c.all_taken.ensures.extends c.both.ensures.extends)
    (form c.args.pipe.now).pipe (form c.args.pipe.now).widths c.args.self.now c.requires.walk

pub returns-clause-walk : goal.returns-clause-walk
returns-clause-walk c =
    let a = c.args.b.now in
    let first_b = c.all_taken.new.b in
    let two = c.both.new.b in
    let three = c.set_mark.new.b in
    let w = c.args.self.now in
    let first = c.all_taken.ensures.extends in
    let after = c.both.ensures.extends in
    let far = extends_trans a first_b two first after in
    let s = c.set_mark.new.self in
    let last = c.set_mark.ensures.extends in
    let here = walk_more a first_b first (form c.args.pipe.now).pipe (form c.args.pipe.now).widths w c.requires.walk in
    let held_one : (signal first_b c.is_marked-held.result).width ≡ 1 =
    ap (λ (f : Signal). f.width) c.is_marked-held.ensures.same ∙ mark_width (parts_in first_b w).marks Held c.args.m c.args.a here.sized.marks in
    on_ok c.push_letting.result
    (λ q. subst (IsWalk three (form c.args.pipe.now).pipe (form c.args.pipe.now).widths) (sym q)
    (letting_walk three (form c.args.pipe.now).pipe
    (form c.args.pipe.now).widths s c.in_ok-set_mark.ensures.walk c.args.m c.in_ok-lets.lets
    (last.there c.in_ok-lets.lets c.in_ok-lets.ensures.means.there)
    (ap (λ (f : Signal). f.width) (last.kept c.in_ok-lets.lets c.in_ok-lets.ensures.means.there ∙ c.in_ok-lets.ensures.means.same) ∙ held_one)))
    c.push_letting.ensures

pub returns-clause-parts : goal.returns-clause-parts
returns-clause-parts c =
    let a = c.args.b.now in
    let first_b = c.all_taken.new.b in
    let two = c.both.new.b in
    let three = c.set_mark.new.b in
    let w = c.args.self.now in
    let first = c.all_taken.ensures.extends in
    let after = c.both.ensures.extends in
    let far = extends_trans a first_b two first after in
    let s = c.set_mark.new.self in
    let last = c.set_mark.ensures.extends in
    let here = walk_more a first_b first (form c.args.pipe.now).pipe (form c.args.pipe.now).widths w c.requires.walk in
    let held_one : (signal first_b c.is_marked-held.result).width ≡ 1 =
    ap (λ (f : Signal). f.width) c.is_marked-held.ensures.same ∙ mark_width (parts_in first_b w).marks Held c.args.m c.args.a here.sized.marks in
    let fs = signals_in a w.vars.items in
    let on = taken_signal fs (guards_view c.args.guards.now) in
    let lets = signal three c.in_ok-lets.lets in
    let on_same = c.in_ok-on.ensures.means.same in
    let zero_same : signal two c.args.bits.zero ≡ zero_bit = far.kept c.args.bits.zero c.requires.bits.zero.there ∙ c.requires.bits.zero.same in
    on_ok c.push_letting.result
    (λ q. ap (parts_in three) q ∙ letting_parts three s (record { mem = c.args.m; on = c.in_ok-lets.lets })
    ∙ ap (λ (k : Parts). record k { lettings = k.lettings ++ record { mem = c.args.m; on = lets } ∷ [] }) c.in_ok-set_mark.ensures.parts
    ∙ ap
    (λ (z : Signal). record (with_mark Held c.args.m c.args.a (signal two c.in_ok-on.on) z (parts_in two w))
    { lettings = (parts_in two w).lettings ++ record { mem = c.args.m; on = lets } ∷ [] }) zero_same
    ∙ release_same c.args.m c.args.a (signal two c.in_ok-on.on) on zero_bit lets (both on (mark_of (parts_in a w).marks Held c.args.m c.args.a))
    (parts_in two w) (parts_in a w)
    (after.kept c.in_ok-on.on c.in_ok-on.ensures.means.there ∙ on_same)
    (last.kept c.in_ok-lets.lets c.in_ok-lets.ensures.means.there ∙ c.in_ok-lets.ensures.means.same
    ∙ ap₂ both on_same
    (c.is_marked-held.ensures.same
    ∙ ap (λ (k : Parts). mark_of k.marks Held c.args.m c.args.a)
    (parts_more a first_b first (form c.args.pipe.now).pipe (form c.args.pipe.now).widths w c.requires.walk)))
    (parts_more a two far (form c.args.pipe.now).pipe (form c.args.pipe.now).widths w c.requires.walk))
    c.push_letting.ensures
