use Rattle.std.proofs.Common.{◌≡◌, ◌∙◌, List, sym, ap, ap₂, subst}
use Rattle.std.specs.Prelude.{take, length}
use Rattle.pdl_net.specs.declared.Net.{Net}
use Rattle.pdl_net.specs.Signal.{Signal, mux_signal}
use Rattle.pdl_net.specs.Meaning.{signal}
use Rattle.pdl_net.proofs.Keeps.{extends_trans}
use Rattle.pdl_form.specs.FormView.{form}
use Rattle.pdl_form.specs.View.{guards_view, exprs_view}
use Rattle.pdl_pipe_exprs.specs.Nets.{NetsThere, signals_in, widths_of}
use Rattle.pdl_pipe_exprs.specs.Conditions.{taken_signal}
use Rattle.pdl_pipe_exprs.specs.Values.{value_signals}
use Rattle.pdl_pipe_exprs.proofs.NetLists.{nets_there, nets_kept}
use Rattle.pdl_law_parts.specs.Walk.{one, both}
use Rattle.pdl_pipe_walk.specs.Parts.{Parts, parts_in}
use Rattle.pdl_pipe_walk.specs.Guesses.{differ_signal}
use Rattle.pdl_pipe_walk.proofs.Lists.{on_ok}
use Rattle.pdl_pipe_walk.proofs.WalkGrowth.{walk_more, parts_more, vars_same}
use Rattle.pdl_pipe_walk.proofs.ChangedNets.{birth_made, call_same}
use Rattle.pdl_pipe_walk.proofs.nets.WalkNets.verify.Goals as goal

pub values-requires-clause-walk : goal.values-requires-clause-walk
values-requires-clause-walk c =
    walk_more c.args.b.now c.all_taken.new.b c.all_taken.ensures.extends (form c.args.pipe.now).pipe
    (form c.args.pipe.now).widths c.args.self.now c.requires.walk

pub differ-requires-clause-ys : goal.differ-requires-clause-ys
differ-requires-clause-ys c =
    let a = c.args.b.now in
    let two = c.values.new.b in
    let far = extends_trans a c.all_taken.new.b two c.all_taken.ensures.extends c.values.ensures.extends in
    subst (NetsThere two) (sym c.as_slice-2.ensures) (nets_there a two c.args.self.now.guess far c.requires.walk.there.guess)

pub differ-requires-clause-widths : goal.differ-requires-clause-widths
differ-requires-clause-widths c =
    let a = c.args.b.now in
    let two = c.values.new.b in
    let far = extends_trans a c.all_taken.new.b two c.all_taken.ensures.extends c.values.ensures.extends in
    let wide = c.in_ok-nets.ensures.wide in
    let w = c.args.self.now in
    ap (λ (l : List Net). widths_of (signals_in two l)) c.as_slice.ensures ∙ wide
    ∙ sym
    (ap (λ (l : List Net). widths_of (signals_in two l)) c.as_slice-2.ensures
    ∙ ap widths_of (nets_kept a two w.guess far c.requires.walk.there.guess) ∙ c.requires.walk.sized.guess)

pub fail-requires-clause-walk : goal.fail-requires-clause-walk
fail-requires-clause-walk c =
    let a = c.args.b.now in
    let b2 = c.values.new.b in
    let b3 = c.differ.new.b in
    let far = extends_trans a c.all_taken.new.b b2 c.all_taken.ensures.extends c.values.ensures.extends in
    walk_more a b3 (extends_trans a b2 b3 far c.differ.ensures.extends)
    (form c.args.pipe.now).pipe (form c.args.pipe.now).widths c.args.self.now c.requires.walk

pub returns-clause-walk : goal.returns-clause-walk
returns-clause-walk c =
    let a = c.args.b.now in
    let b1 = c.all_taken.new.b in
    let b2 = c.values.new.b in
    let b3 = c.differ.new.b in
    let e1 = c.all_taken.ensures.extends in
    let e2 = c.values.ensures.extends in
    let e3 = c.differ.ensures.extends in
    let far = extends_trans a b1 b2 e1 e2 in
    let far3 = extends_trans a b2 b3 far e3 in
    let w = c.args.self.now in
    let h = c.requires.walk in
    let fs = value_signals (signals_in a w.vars.items) (exprs_view c.args.args.now) in
    let gs = signals_in a w.guess in
    let on = taken_signal (signals_in a w.vars.items) (guards_view c.args.guards.now) in
    let on_net = c.in_ok-on.on in
    let nets = c.in_ok-nets.nets in
    let on_there = e2.there on_net c.in_ok-on.ensures.means.there in
    let on_is : signal b2 on_net ≡ on = e2.kept on_net c.in_ok-on.ensures.means.there ∙ c.in_ok-on.ensures.means.same in
    let args_is : signals_in b2 nets ≡ fs =
    c.in_ok-nets.ensures.means
    ∙ ap (λ (l : List Signal). value_signals l (exprs_view c.args.args.now))
    (vars_same a b1 e1 (form c.args.pipe.now).pipe (form c.args.pipe.now).widths w h) in
    let wide : widths_of fs ≡ take (length (form c.args.pipe.now).pipe.start) (form c.args.pipe.now).widths =
    ap widths_of (sym args_is) ∙ c.in_ok-nets.ensures.wide in
    let xs_is : signals_in b2 c.as_slice.result.now ≡ fs = ap (signals_in b2) c.as_slice.ensures ∙ args_is in
    let ys_is : signals_in b2 c.as_slice-2.result.now ≡ gs = ap (signals_in b2) c.as_slice-2.ensures ∙ nets_kept a b2 w.guess far h.there.guess in
    let b4 = c.fail.new.b in
    let e4 = c.fail.ensures.extends in
    let e34 = extends_trans b2 b3 b4 e3 e4 in
    let wrong_is : signal b3 c.in_ok-wrong.wrong ≡ differ_signal fs gs = c.in_ok-wrong.ensures.means.same ∙ ap₂ differ_signal xs_is ys_is in
    let here : Signal = both on (differ_signal fs gs) in
    let here_is : signal b4 c.in_ok-fails.fails ≡ here = c.in_ok-fails.ensures.means.same ∙ ap₂ both (e3.kept on_net on_there ∙ on_is) wrong_is in
    let made =
    birth_made b4 c.push_birth.result (form c.args.pipe.now).pipe
    (form c.args.pipe.now).widths c.fail.new.self c.push_birth.new.self c.in_ok-fails.fails nets c.in_ok-fails.ensures.walk c.in_ok-fails.ensures.means.there
    (ap (λ (f : Signal). f.width) here_is ∙ ap (λ (f : Signal). f.width) (sym wrong_is) ∙ c.in_ok-wrong.ensures.one)
    (nets_there b2 b4 nets e34 c.in_ok-nets.ensures.there) (ap widths_of (nets_kept b2 b4 nets e34 c.in_ok-nets.ensures.there ∙ args_is) ∙ wide)
    c.push_birth.ensures.births c.push_birth.ensures.vars c.push_birth.ensures.marks c.push_birth.ensures.rest in
    on_ok c.push_birth.result (λ q. q.0) made

pub returns-clause-parts : goal.returns-clause-parts
returns-clause-parts c =
    let a = c.args.b.now in
    let b1 = c.all_taken.new.b in
    let b2 = c.values.new.b in
    let b3 = c.differ.new.b in
    let e1 = c.all_taken.ensures.extends in
    let e2 = c.values.ensures.extends in
    let e3 = c.differ.ensures.extends in
    let far = extends_trans a b1 b2 e1 e2 in
    let far3 = extends_trans a b2 b3 far e3 in
    let w = c.args.self.now in
    let h = c.requires.walk in
    let fs = value_signals (signals_in a w.vars.items) (exprs_view c.args.args.now) in
    let gs = signals_in a w.guess in
    let on = taken_signal (signals_in a w.vars.items) (guards_view c.args.guards.now) in
    let on_net = c.in_ok-on.on in
    let nets = c.in_ok-nets.nets in
    let on_there = e2.there on_net c.in_ok-on.ensures.means.there in
    let on_is : signal b2 on_net ≡ on = e2.kept on_net c.in_ok-on.ensures.means.there ∙ c.in_ok-on.ensures.means.same in
    let args_is : signals_in b2 nets ≡ fs =
    c.in_ok-nets.ensures.means
    ∙ ap (λ (l : List Signal). value_signals l (exprs_view c.args.args.now))
    (vars_same a b1 e1 (form c.args.pipe.now).pipe (form c.args.pipe.now).widths w h) in
    let wide : widths_of fs ≡ take (length (form c.args.pipe.now).pipe.start) (form c.args.pipe.now).widths =
    ap widths_of (sym args_is) ∙ c.in_ok-nets.ensures.wide in
    let xs_is : signals_in b2 c.as_slice.result.now ≡ fs = ap (signals_in b2) c.as_slice.ensures ∙ args_is in
    let ys_is : signals_in b2 c.as_slice-2.result.now ≡ gs = ap (signals_in b2) c.as_slice-2.ensures ∙ nets_kept a b2 w.guess far h.there.guess in
    let b4 = c.fail.new.b in
    let e4 = c.fail.ensures.extends in
    let e34 = extends_trans b2 b3 b4 e3 e4 in
    let wrong_is : signal b3 c.in_ok-wrong.wrong ≡ differ_signal fs gs = c.in_ok-wrong.ensures.means.same ∙ ap₂ differ_signal xs_is ys_is in
    let here : Signal = both on (differ_signal fs gs) in
    let here_is : signal b4 c.in_ok-fails.fails ≡ here = c.in_ok-fails.ensures.means.same ∙ ap₂ both (e3.kept on_net on_there ∙ on_is) wrong_is in
    let made =
    birth_made b4 c.push_birth.result (form c.args.pipe.now).pipe
    (form c.args.pipe.now).widths c.fail.new.self c.push_birth.new.self c.in_ok-fails.fails nets c.in_ok-fails.ensures.walk c.in_ok-fails.ensures.means.there
    (ap (λ (f : Signal). f.width) here_is ∙ ap (λ (f : Signal). f.width) (sym wrong_is) ∙ c.in_ok-wrong.ensures.one)
    (nets_there b2 b4 nets e34 c.in_ok-nets.ensures.there) (ap widths_of (nets_kept b2 b4 nets e34 c.in_ok-nets.ensures.there ∙ args_is) ∙ wide)
    c.push_birth.ensures.births c.push_birth.ensures.vars c.push_birth.ensures.marks c.push_birth.ensures.rest in
    let fails_is =
    c.in_ok-fails.ensures.parts
    ∙ ap₂ (λ (q : Parts) o. record q { fails = mux_signal o one q.fails })
    (parts_more a b3 far3 (form c.args.pipe.now).pipe (form c.args.pipe.now).widths w h)
    (ap₂ both (e3.kept on_net on_there ∙ on_is) wrong_is) in
    on_ok c.push_birth.result
    (λ q. q.1
    ∙ call_same (signal b4 c.in_ok-fails.fails) here (signals_in b4 nets) fs (parts_in b4 c.fail.new.self)
    (record (parts_in a w) { fails = mux_signal here one (signal a w.fails) })
    here_is (nets_kept b2 b4 nets e34 c.in_ok-nets.ensures.there ∙ args_is) fails_is)
    made
