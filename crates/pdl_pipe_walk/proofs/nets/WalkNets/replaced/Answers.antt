use Rattle.std.proofs.Common.{◌≡◌, ◌∙◌, List, sym, ap, ap₂, subst}
use Rattle.std.specs.Prelude.{take, length}
use Rattle.pdl_net.specs.declared.Net.{Net}
use Rattle.pdl_net.specs.Signal.{Signal}
use Rattle.pdl_net.specs.Meaning.{signal}
use Rattle.pdl_net.proofs.Keeps.{extends_trans}
use Rattle.pdl_form.specs.FormView.{form}
use Rattle.pdl_form.specs.View.{guards_view, exprs_view}
use Rattle.pdl_pipe_exprs.specs.Nets.{NetsThere, signals_in, widths_of}
use Rattle.pdl_pipe_exprs.specs.Conditions.{taken_signal}
use Rattle.pdl_pipe_exprs.specs.Values.{value_signals}
use Rattle.pdl_pipe_exprs.proofs.NetLists.{nets_there, nets_kept}
use Rattle.pdl_pipe_walk.specs.Guesses.{choices}
use Rattle.pdl_pipe_walk.proofs.WalkGrowth.{walk_more, vars_same}
use Rattle.pdl_pipe_walk.proofs.Choices.{same_length, choices_widths}
use Rattle.pdl_pipe_walk.proofs.nets.WalkNets.replaced.Goals as goal

pub values-requires-clause-walk : goal.values-requires-clause-walk
values-requires-clause-walk c =
    walk_more c.args.b.now c.all_taken.new.b c.all_taken.ensures.extends (form c.args.pipe.now).pipe
    (form c.args.pipe.now).widths c.args.self.now c.requires.walk

pub choose-requires-clause-ys : goal.choose-requires-clause-ys
choose-requires-clause-ys c =
    let a = c.args.b.now in
    let two = c.values.new.b in
    let far = extends_trans a c.all_taken.new.b two c.all_taken.ensures.extends c.values.ensures.extends in
    subst (NetsThere two) (sym c.as_slice-2.ensures) (nets_there a two c.args.self.now.guess far c.requires.walk.there.guess)

pub choose-requires-clause-widths : goal.choose-requires-clause-widths
choose-requires-clause-widths c =
    let a = c.args.b.now in
    let two = c.values.new.b in
    let far = extends_trans a c.all_taken.new.b two c.all_taken.ensures.extends c.values.ensures.extends in
    let wide = c.in_ok-nets.ensures.wide in
    let w = c.args.self.now in
    ap (λ (l : List Net). widths_of (signals_in two l)) c.as_slice.ensures ∙ wide
    ∙ sym
    (ap (λ (l : List Net). widths_of (signals_in two l)) c.as_slice-2.ensures
    ∙ ap widths_of (nets_kept a two w.guess far c.requires.walk.there.guess) ∙ c.requires.walk.sized.guess)

pub returns-clause-means : goal.returns-clause-means
returns-clause-means c =
    let a = c.args.b.now in
    let b1 = c.all_taken.new.b in
    let b2 = c.values.new.b in
    let e1 = c.all_taken.ensures.extends in
    let e2 = c.values.ensures.extends in
    let far = extends_trans a b1 b2 e1 e2 in
    let w = c.args.self.now in
    let h = c.requires.walk in
    let on = taken_signal (signals_in a w.vars.items) (guards_view c.args.guards.now) in
    let on_net = c.in_ok-on.on in
    let on_is : signal b2 on_net ≡ on = e2.kept on_net c.in_ok-on.ensures.means.there ∙ c.in_ok-on.ensures.means.same in
    let args_is : signals_in b2 c.as_slice.result.now ≡ value_signals (signals_in a w.vars.items) (exprs_view c.args.args.now) =
    ap (signals_in b2) c.as_slice.ensures ∙ c.in_ok-nets.ensures.means
    ∙ ap (λ (l : List Signal). value_signals l (exprs_view c.args.args.now))
    (vars_same a b1 e1 (form c.args.pipe.now).pipe (form c.args.pipe.now).widths w h) in
    let guess_is : signals_in b2 c.as_slice-2.result.now ≡ signals_in a w.guess =
    ap (signals_in b2) c.as_slice-2.ensures ∙ nets_kept a b2 w.guess far h.there.guess in
    c.in_ok-guess.ensures.means
    ∙ ap (λ o. choices o (signals_in b2 c.as_slice.result.now) (signals_in b2 c.as_slice-2.result.now)) on_is
    ∙ ap₂ (choices on) args_is guess_is

pub returns-clause-wide : goal.returns-clause-wide
returns-clause-wide c =
    let a = c.args.b.now in
    let b2 = c.values.new.b in
    let far = extends_trans a c.all_taken.new.b b2 c.all_taken.ensures.extends c.values.ensures.extends in
    let xs = signals_in b2 c.as_slice.result.now in
    let ys = signals_in b2 c.as_slice-2.result.now in
    let wide : widths_of xs ≡ take (length (form c.args.pipe.now).pipe.start) (form c.args.pipe.now).widths =
    ap (λ (l : List Net). widths_of (signals_in b2 l)) c.as_slice.ensures ∙ c.in_ok-nets.ensures.wide in
    let like : widths_of xs ≡ widths_of ys =
    wide
    ∙ sym
    (ap (λ (l : List Net). widths_of (signals_in b2 l)) c.as_slice-2.ensures
    ∙ ap widths_of (nets_kept a b2 c.args.self.now.guess far c.requires.walk.there.guess) ∙ c.requires.walk.sized.guess) in
    ap widths_of c.in_ok-guess.ensures.means ∙ choices_widths (signal b2 c.in_ok-on.on) xs ys (same_length xs ys like) ∙ wide
