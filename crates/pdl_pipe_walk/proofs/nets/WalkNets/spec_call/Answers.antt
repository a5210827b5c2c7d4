use Rattle.std.proofs.Common.{◌≡◌, ◌∙◌, List, sym, ap, ap₂, subst}
use Rattle.std.specs.Prelude.{take, length}
use Rattle.pdl_net.specs.declared.Net.{Net}
use Rattle.pdl_net.specs.Signal.{Signal}
use Rattle.pdl_net.specs.Meaning.{signal}
use Rattle.pdl_net.proofs.Keeps.{extends_trans, extends_keeps}
use Rattle.pdl_form.specs.FormView.{form}
use Rattle.pdl_form.specs.View.{guards_view, exprs_view}
use Rattle.pdl_pipe_exprs.specs.Nets.{NetsThere, signals_in, widths_of}
use Rattle.pdl_pipe_exprs.specs.Conditions.{taken_signal}
use Rattle.pdl_pipe_exprs.specs.Values.{value_signals}
use Rattle.pdl_pipe_exprs.proofs.NetLists.{nets_there, nets_kept}
use Rattle.pdl_pipe_walk.specs.Parts.{parts_in}
use Rattle.pdl_pipe_walk.specs.Sized.{IsWalk}
use Rattle.pdl_pipe_walk.specs.Guesses.{choices}
use Rattle.pdl_pipe_walk.proofs.Lists.{on_ok}
use Rattle.pdl_pipe_walk.proofs.WalkGrowth.{walk_more, vars_same}
use Rattle.pdl_pipe_walk.proofs.Choices.{same_length, choices_widths}
use Rattle.pdl_pipe_walk.proofs.Updates.{guess_parts}
use Rattle.pdl_pipe_walk.proofs.ChangedNets.{guess_walk, birth_made, call_same}
use Rattle.pdl_pipe_walk.proofs.nets.WalkNets.spec_call.Goals as goal

pub values-requires-clause-walk : goal.values-requires-clause-walk
values-requires-clause-walk c =
    walk_more c.args.b.now c.all_taken.new.b c.all_taken.ensures.extends (form c.args.pipe.now).pipe
    (form c.args.pipe.now).widths c.args.self.now c.requires.walk

pub choose-requires-clause-ys : goal.choose-requires-clause-ys
choose-requires-clause-ys c =
    let a = c.args.b.now in
    let two = c.values.new.b in
    let far = extends_trans a c.all_taken.new.b two c.all_taken.ensures.extends c.values.ensures.extends in
    subst (NetsThere two) (sym c.as_slice-2.ensures) (nets_there a two c.args.self.now.guess far c.requires.walk.there.guess)

pub choose-requires-clause-widths : goal.choose-requires-clause-widths
choose-requires-clause-widths c =
    let a = c.args.b.now in
    let two = c.values.new.b in
    let far = extends_trans a c.all_taken.new.b two c.all_taken.ensures.extends c.values.ensures.extends in
    let wide = c.in_ok-nets.ensures.wide in
    let w = c.args.self.now in
    ap (λ (l : List Net). widths_of (signals_in two l)) c.as_slice.ensures ∙ wide
    ∙ sym
    (ap (λ (l : List Net). widths_of (signals_in two l)) c.as_slice-2.ensures
    ∙ ap widths_of (nets_kept a two w.guess far c.requires.walk.there.guess) ∙ c.requires.walk.sized.guess)

pub returns-clause-walk : goal.returns-clause-walk
returns-clause-walk c =
    let a = c.args.b.now in
    let b1 = c.all_taken.new.b in
    let b2 = c.values.new.b in
    let b3 = c.choose.new.b in
    let e1 = c.all_taken.ensures.extends in
    let e2 = c.values.ensures.extends in
    let e3 = c.choose.ensures.extends in
    let far = extends_trans a b1 b2 e1 e2 in
    let far3 = extends_trans a b2 b3 far e3 in
    let w = c.args.self.now in
    let h = c.requires.walk in
    let fs = value_signals (signals_in a w.vars.items) (exprs_view c.args.args.now) in
    let gs = signals_in a w.guess in
    let on = taken_signal (signals_in a w.vars.items) (guards_view c.args.guards.now) in
    let on_net = c.in_ok-on.on in
    let nets = c.in_ok-nets.nets in
    let on_there = e2.there on_net c.in_ok-on.ensures.means.there in
    let on_is : signal b2 on_net ≡ on = e2.kept on_net c.in_ok-on.ensures.means.there ∙ c.in_ok-on.ensures.means.same in
    let args_is : signals_in b2 nets ≡ fs =
    c.in_ok-nets.ensures.means
    ∙ ap (λ (l : List Signal). value_signals l (exprs_view c.args.args.now))
    (vars_same a b1 e1 (form c.args.pipe.now).pipe (form c.args.pipe.now).widths w h) in
    let wide : widths_of fs ≡ take (length (form c.args.pipe.now).pipe.start) (form c.args.pipe.now).widths =
    ap widths_of (sym args_is) ∙ c.in_ok-nets.ensures.wide in
    let xs_is : signals_in b2 c.as_slice.result.now ≡ fs = ap (signals_in b2) c.as_slice.ensures ∙ args_is in
    let ys_is : signals_in b2 c.as_slice-2.result.now ≡ gs = ap (signals_in b2) c.as_slice-2.ensures ∙ nets_kept a b2 w.guess far h.there.guess in
    let guess : List Signal = choices on fs gs in
    let guess_is : signals_in b3 c.in_ok-guess.guess ≡ guess =
    c.in_ok-guess.ensures.means
    ∙ ap (λ o. choices o (signals_in b2 c.as_slice.result.now) (signals_in b2 c.as_slice-2.result.now)) on_is
    ∙ ap₂ (choices on) xs_is ys_is in
    let guess_wide = choices_widths on fs gs (same_length fs gs (wide ∙ sym h.sized.guess)) ∙ wide in
    let walk =
    subst (IsWalk b3 (form c.args.pipe.now).pipe (form c.args.pipe.now).widths) (sym c.put_guess.ensures)
    (guess_walk a b3 far3 (form c.args.pipe.now).pipe
    (form c.args.pipe.now).widths w h c.in_ok-guess.guess guess c.in_ok-guess.ensures.there guess_is guess_wide) in
    let made =
    birth_made b3 c.push_birth.result (form c.args.pipe.now).pipe
    (form c.args.pipe.now).widths c.put_guess.new.self c.push_birth.new.self on_net nets walk
    (e3.there on_net on_there)
    (ap (λ (f : Signal). f.width) (e3.kept on_net on_there)
    ∙ ap (λ (f : Signal). f.width) (e2.kept on_net c.in_ok-on.ensures.means.there) ∙ c.in_ok-on.ensures.one)
    (nets_there b2 b3 nets e3 c.in_ok-nets.ensures.there) (ap widths_of (nets_kept b2 b3 nets e3 c.in_ok-nets.ensures.there ∙ args_is) ∙ wide)
    c.push_birth.ensures.births c.push_birth.ensures.vars c.push_birth.ensures.marks c.push_birth.ensures.rest in
    on_ok c.push_birth.result (λ q. q.0) made

pub returns-clause-parts : goal.returns-clause-parts
returns-clause-parts c =
    let a = c.args.b.now in
    let b1 = c.all_taken.new.b in
    let b2 = c.values.new.b in
    let b3 = c.choose.new.b in
    let e1 = c.all_taken.ensures.extends in
    let e2 = c.values.ensures.extends in
    let e3 = c.choose.ensures.extends in
    let far = extends_trans a b1 b2 e1 e2 in
    let far3 = extends_trans a b2 b3 far e3 in
    let w = c.args.self.now in
    let h = c.requires.walk in
    let fs = value_signals (signals_in a w.vars.items) (exprs_view c.args.args.now) in
    let gs = signals_in a w.guess in
    let on = taken_signal (signals_in a w.vars.items) (guards_view c.args.guards.now) in
    let on_net = c.in_ok-on.on in
    let nets = c.in_ok-nets.nets in
    let on_there = e2.there on_net c.in_ok-on.ensures.means.there in
    let on_is : signal b2 on_net ≡ on = e2.kept on_net c.in_ok-on.ensures.means.there ∙ c.in_ok-on.ensures.means.same in
    let args_is : signals_in b2 nets ≡ fs =
    c.in_ok-nets.ensures.means
    ∙ ap (λ (l : List Signal). value_signals l (exprs_view c.args.args.now))
    (vars_same a b1 e1 (form c.args.pipe.now).pipe (form c.args.pipe.now).widths w h) in
    let wide : widths_of fs ≡ take (length (form c.args.pipe.now).pipe.start) (form c.args.pipe.now).widths =
    ap widths_of (sym args_is) ∙ c.in_ok-nets.ensures.wide in
    let xs_is : signals_in b2 c.as_slice.result.now ≡ fs = ap (signals_in b2) c.as_slice.ensures ∙ args_is in
    let ys_is : signals_in b2 c.as_slice-2.result.now ≡ gs = ap (signals_in b2) c.as_slice-2.ensures ∙ nets_kept a b2 w.guess far h.there.guess in
    let guess : List Signal = choices on fs gs in
    let guess_is : signals_in b3 c.in_ok-guess.guess ≡ guess =
    c.in_ok-guess.ensures.means
    ∙ ap (λ o. choices o (signals_in b2 c.as_slice.result.now) (signals_in b2 c.as_slice-2.result.now)) on_is
    ∙ ap₂ (choices on) xs_is ys_is in
    let guess_wide = choices_widths on fs gs (same_length fs gs (wide ∙ sym h.sized.guess)) ∙ wide in
    let walk =
    subst (IsWalk b3 (form c.args.pipe.now).pipe (form c.args.pipe.now).widths) (sym c.put_guess.ensures)
    (guess_walk a b3 far3 (form c.args.pipe.now).pipe
    (form c.args.pipe.now).widths w h c.in_ok-guess.guess guess c.in_ok-guess.ensures.there guess_is guess_wide) in
    let made =
    birth_made b3 c.push_birth.result (form c.args.pipe.now).pipe
    (form c.args.pipe.now).widths c.put_guess.new.self c.push_birth.new.self on_net nets walk
    (e3.there on_net on_there)
    (ap (λ (f : Signal). f.width) (e3.kept on_net on_there)
    ∙ ap (λ (f : Signal). f.width) (e2.kept on_net c.in_ok-on.ensures.means.there) ∙ c.in_ok-on.ensures.one)
    (nets_there b2 b3 nets e3 c.in_ok-nets.ensures.there) (ap widths_of (nets_kept b2 b3 nets e3 c.in_ok-nets.ensures.there ∙ args_is) ∙ wide)
    c.push_birth.ensures.births c.push_birth.ensures.vars c.push_birth.ensures.marks c.push_birth.ensures.rest in
    on_ok c.push_birth.result
    (λ q. q.1 ∙ call_same (signal b3 on_net) on (signals_in b3 nets) fs (parts_in b3 c.put_guess.new.self) (record (parts_in a w) { guess = guess })
    (e3.kept on_net on_there ∙ on_is) (nets_kept b2 b3 nets e3 c.in_ok-nets.ensures.there ∙ args_is)
    (ap (parts_in b3) c.put_guess.ensures ∙ guess_parts a b3 (extends_keeps a b3 far3) w h.there c.in_ok-guess.guess guess guess_is))
    made
