use Rattle.std.proofs.Common.{◌≡◌, ℕ, ◌+◌, ◌<◌, ◌++◌, ◌∷◌, [], Bool, false, length, take, sym, ap, ◌∙◌, subst, arith}
use Rattle.std.proofs.lemmas.List.{take_all}
use Rattle.std.specs.Prelude.{slice_index}
use Rattle.pdl_form.specs.FormView.{form}
use Rattle.pdl_net.proofs.Keeps.{extends_keeps, extends_trans}
use Rattle.pdl_net.specs.Signal.{Signal}
use Rattle.pdl_pipe_exprs.specs.Nets.{NetsThere, signals_in, signal_at, widths_of}
use Rattle.pdl_pipe_exprs.proofs.NetLists.{width_at, length_signals, length_widths}
use Rattle.pdl_pipe_lives.specs.Needs.{goes_with}
use Rattle.pdl_law_parts.specs.Views.{View}
use Rattle.pdl_pipe_registers.specs.declared.nets.Item.TheVariants.{Ticket}
use Rattle.pdl_pipe_registers.specs.Stages.{no_view, IsSettled}
use Rattle.pdl_pipe_registers.specs.Begun.{MayBegin, AreBegun}
use Rattle.pdl_pipe_registers.proofs.Lists.{up_to}
use Rattle.pdl_pipe_registers.proofs.Begins.{SoFar, shared_keep, next_keep, sofar_more, push_old, push_new}
use Rattle.pdl_pipe_registers.proofs.tickets.begin_tickets.Goals as goal

-- the views do not matter
none : ℕ → View
none k = no_view

pub variable-next-requires-clause-there : goal.variable-next-requires-clause-there
variable-next-requires-clause-there c =
    let e = extends_keeps c.args.b.now c.loop-m.b (c.loop-m.invariant.0 none).extends in
    subst (NetsThere c.loop-m.b) (sym c.as_slice.ensures)
    (shared_keep c.args.b.now c.loop-m.b (form c.args.pipe.now) c.args.shared.now e c.requires.shared).next_there

pub begin_ticket-requires-clause-shared : goal.begin_ticket-requires-clause-shared
begin_ticket-requires-clause-shared c =
    let e = extends_keeps c.args.b.now c.loop-m.b (c.loop-m.invariant.0 none).extends in
    shared_keep c.args.b.now c.loop-m.b (form c.args.pipe.now) c.args.shared.now e c.requires.shared

pub begin_ticket-requires-clause-last : goal.begin_ticket-requires-clause-last
begin_ticket-requires-clause-last c = (c.loop-m.invariant.0 none).frame.last

pub returns-in_err-net-clause-extends : goal.returns-in_err-net-clause-extends
returns-in_err-net-clause-extends c =
    extends_trans c.args.b.now c.loop-m.b c.begin_ticket.new.b (c.loop-m.invariant.0 none).extends c.begin_ticket.ensures.extends

pub returns-in_err-push-clause-extends : goal.returns-in_err-push-clause-extends
returns-in_err-push-clause-extends c =
    extends_trans c.args.b.now c.loop-m.b c.begin_ticket.new.b (c.loop-m.invariant.0 none).extends c.begin_ticket.ensures.extends

pub loop-m-preserved : goal.loop-m-preserved
loop-m-preserved c =
    let a = c.args.b.now in
    let b = c.loop-m.b in
    let d = c.begin_ticket.new.b in
    let f = form c.args.pipe.now in
    let nexts = signals_in a c.args.shared.now.next in
    let ws = widths_of nexts in
    let k = c.args.stage in
    let first = c.loop-m.invariant.0 none in
    let e = extends_keeps a b first.extends in
    let bd = extends_keeps b d c.begin_ticket.ensures.extends in
    let is = next_keep a b f c.args.shared.now e c.requires.shared in
    let r = c.loop-m.regs in
    let t = c.begin_ticket.new.regs in
    let i = c.loop-m.m in
    let net = c.in_ok-net.net in
    let xs = c.loop-m.nets in
    let needed : ℕ → Bool = goes_with f.pipe k in
    let low : i < length ws =
    (let q = c.loop-m-test.true in let n = c.len-m-end.ensures in let s = length_signals a c.args.shared.now.next in
    let w = length_widths nexts in omega (arith, q, n, s, w)) in
    let settled : (ℕ → View) → ℕ → Signal → Type 0 = (λ us m. IsSettled f.pipe us k (Ticket m)) in
    let may : (us : ℕ → View) → MayBegin d f nexts k (needed i) r t (Ticket i) net (settled us i) =
    λ us. subst (λ fs. MayBegin d f fs k (needed i) r t (Ticket i) net (settled us i)) is (c.in_ok-net.ensures.begins us) in
    let pushed = c.in_ok-push.ensures.ok in
    let wide : (signal_at nexts i).width ≡ slice_index ws i = sym (width_at nexts i) in
    let next = c.variable-next.ensures.same ∙ ap (λ ys. signal_at (signals_in b ys) i) c.as_slice.ensures ∙ ap (λ fs. signal_at fs i) is in (
      λ us. subst (λ ys. SoFar a d f nexts k c.args.regs.now t Ticket needed (settled us) (take (i + 1) ws) ys)
          (sym pushed)
          (sofar_more a f nexts k c.args.regs.now Ticket needed
          (settled us) ws b d r t i xs net low c.begin_ticket.ensures.extends (may us) c.in_ok-net.ensures.last wide
          (c.loop-m.invariant.0 us)),
      subst (λ ys. (y : ℕ) → y < i + 1 → needed y ≡ false → signal_at (signals_in d ys) y ≡ signal_at nexts y) (sym pushed)
          (up_to (λ y. needed y ≡ false → signal_at (signals_in d (xs ++ net ∷ [])) y ≡ signal_at nexts y) i
          (λ y l no. push_old b d bd ws i xs net low first.begun.there first.begun.wide y l ∙ c.loop-m.invariant.1 y l no)
          (λ no. push_new b d bd ws i xs net low first.begun.there first.begun.wide ∙ c.in_ok-net.ensures.same no ∙ next)),
    )

pub returns-clause-frame : goal.returns-clause-frame
returns-clause-frame c = (c.loop-m.invariant.0 none).frame

pub returns-clause-own : goal.returns-clause-own
returns-clause-own c = (c.loop-m.invariant.0 none).own

pub returns-clause-longer : goal.returns-clause-longer
returns-clause-longer c = (c.loop-m.invariant.0 none).longer

pub returns-clause-tickets : goal.returns-clause-tickets
returns-clause-tickets c = λ us.
    let f = form c.args.pipe.now in
    let nexts = signals_in c.args.b.now c.args.shared.now.next in
    let t = c.loop-m-test.false in
    let n = c.len-m-end.ensures in
    let s = length_signals c.args.b.now c.args.shared.now.next in
    let w = length_widths nexts in
    subst
    (λ vs. AreBegun c.loop-m.b f nexts c.loop-m.regs Ticket (goes_with f.pipe c.args.stage)
    (λ m. IsSettled f.pipe us c.args.stage (Ticket m)) vs c.loop-m.nets)
    (take_all c.loop-m.m (widths_of nexts) (omega (arith, t, n, s, w))) (c.loop-m.invariant.0 us).begun

pub returns-clause-extends : goal.returns-clause-extends
returns-clause-extends c = (c.loop-m.invariant.0 none).extends
