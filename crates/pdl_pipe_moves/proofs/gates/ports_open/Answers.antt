use Rattle.std.proofs.Common.{◌≡◌, ◌+◌, ◌-◌, ◌<◌, ◌∷◌, List, map, drop, length, get_or, sym, ap, ap₂, ◌∙◌, subst, arith}
use Rattle.std.proofs.lemmas.List.{drop_more}
use Rattle.pdl_net.specs.Signal.{Signal, mux_signal}
use Rattle.pdl_net.specs.Meaning.{signal}
use Rattle.pdl_net.proofs.Keeps.{extends_keeps, extends_trans}
use Rattle.pdl_net.proofs.KeptWidths.{width_kept, width_meant}
use Rattle.pdl_pipe_exprs.specs.Nets.{signals_in, signal_at}
use Rattle.pdl_pipe_exprs.proofs.NetLists.{there_keeps, signals_keep}
use Rattle.pdl_law_parts.specs.Walk.{both, if_on, is_on}
use Rattle.pdl_pipe_walk.specs.declared.nets.AskNet.{AskNet}
use Rattle.pdl_pipe_walk.specs.Parts.{ask_in}
use Rattle.pdl_pipe_nexts.proofs.pipe_registers.Lists.{each_at}
use Rattle.pdl_pipe_nexts.proofs.LineGrowth.{bits_there, bit_one}
use Rattle.pdl_pipe_answers.proofs.Bits.{both_as}
use Rattle.pdl_pipe_moves.specs.Gates.{opens_by, IsAsked}
use Rattle.pdl_pipe_moves.proofs.gates.ports_open.Goals as goal

pub variable-free-requires-clause-there : goal.variable-free-requires-clause-there
variable-free-requires-clause-there c =
    there_keeps c.args.b.now c.loop-i.b c.args.frees.now (extends_keeps c.args.b.now c.loop-i.b c.loop-i.invariant.0)
    (bits_there c.args.b.now c.args.frees.now c.requires.frees)

pub variable-free-requires-clause-low : goal.variable-free-requires-clause-low
variable-free-requires-clause-low c =
    let xs = c.args.asks.now in
    let t = c.loop-i-test.true in
    (each_at (IsAsked c.args.b.now c.args.frees.now) xs (length xs - 1 - c.loop-i.i) c.ask_at-ask.result (omega (arith, t))
    (sym c.ask_at-ask.ensures) c.requires.asks).mem

pub mux-requires-clause-choice : goal.mux-requires-clause-choice
mux-requires-clause-choice c =
    let xs = c.args.asks.now in
    let t = c.loop-i-test.true in
    let h =
    each_at (IsAsked c.args.b.now c.args.frees.now) xs (length xs - 1 - c.loop-i.i) c.ask_at-ask.result (omega (arith, t))
    (sym c.ask_at-ask.ensures) c.requires.asks in
    width_kept c.args.b.now c.loop-i.b c.ask_at-ask.result.on 1 c.loop-i.invariant.0 h.on

pub mux-requires-clause-widths : goal.mux-requires-clause-widths
mux-requires-clause-widths c =
    let a = c.args.b.now in
    let b = c.loop-i.b in
    let frees = c.args.frees.now in
    let xs = c.args.asks.now in
    let t = c.loop-i-test.true in
    let e = extends_keeps a b c.loop-i.invariant.0 in
    let h = each_at (IsAsked a frees) xs (length xs - 1 - c.loop-i.i) c.ask_at-ask.result (omega (arith, t)) (sym c.ask_at-ask.ensures) c.requires.asks in
    let free =
    c.variable-free.ensures.same ∙ ap (λ fs. signal_at fs c.ask_at-ask.result.mem) (signals_keep a b frees e (bits_there a frees c.requires.frees)) in
    ap (λ (f : Signal). f.width) free ∙ bit_one a frees c.ask_at-ask.result.mem h.mem c.requires.frees
    ∙ sym (ap (λ (f : Signal). f.width) (e.kept c.args.bits.one c.requires.bits.one.there ∙ c.requires.bits.one.same))

pub both_bits-requires-clause-x : goal.both_bits-requires-clause-x
both_bits-requires-clause-x c =
    let a = c.args.b.now in
    let b = c.loop-i.b in
    let frees = c.args.frees.now in
    let xs = c.args.asks.now in
    let t = c.loop-i-test.true in
    let e = extends_keeps a b c.loop-i.invariant.0 in
    let h = each_at (IsAsked a frees) xs (length xs - 1 - c.loop-i.i) c.ask_at-ask.result (omega (arith, t)) (sym c.ask_at-ask.ensures) c.requires.asks in
    let free =
    c.variable-free.ensures.same ∙ ap (λ fs. signal_at fs c.ask_at-ask.result.mem) (signals_keep a b frees e (bits_there a frees c.requires.frees)) in
    let means = c.in_ok-passes.ensures.means in
    width_meant c.mux.new.self _ _ 1 means (ap (λ (f : Signal). f.width) free ∙ bit_one a frees c.ask_at-ask.result.mem h.mem c.requires.frees)

pub loop-i-preserved : goal.loop-i-preserved
loop-i-preserved c =
    let a = c.args.b.now in
    let b = c.loop-i.b in
    let m = c.mux.new.self in
    let d = c.both_bits.new.b in
    let frees = c.args.frees.now in
    let xs = c.args.asks.now in
    let ask = c.ask_at-ask.result in
    let i = c.loop-i.i in
    let t = c.loop-i-test.true in
    let k = length xs - (i + 1) in
    let at : length xs - 1 - i ≡ k = omega (arith, t) in
    let later : length xs - i ≡ k + 1 = omega (arith, t) in
    let low : k < length xs = omega (arith, t) in
    let is : ask ≡ get_or xs k ask = subst (λ j. ask ≡ get_or xs j ask) at c.ask_at-ask.ensures in
    let e = extends_keeps a b c.loop-i.invariant.0 in
    let h = each_at (IsAsked a frees) xs k ask low (sym is) c.requires.asks in
    let free = c.variable-free.ensures.same ∙ ap (λ fs. signal_at fs ask.mem) (signals_keep a b frees e (bits_there a frees c.requires.frees)) in
    let on = e.kept ask.on h.on.there in
    let f = signal_at (signals_in a frees) in
    let first : signal m c.in_ok-passes.passes ≡ if_on (signal a ask.on) (f ask.mem) =
    c.in_ok-passes.ensures.means.same
    ∙ ap₂ (λ (g j : Signal). mux_signal g j (signal b c.args.bits.one)) on free
    ∙ ap (λ (j : Signal). mux_signal (signal a ask.on) (f ask.mem) j) (e.kept c.args.bits.one c.requires.bits.one.there ∙ c.requires.bits.one.same) in
    let rest = opens_by f (map (ask_in a) (drop (k + 1) xs)) in
    let old = c.mux.ensures.extends.kept c.loop-i.net c.loop-i.invariant.2.bit.there in
    let net = c.in_ok-net.ensures.on in
    let more : both (if_on (signal a ask.on) (f ask.mem)) rest ≡ opens_by f (map (ask_in a) (drop k xs)) =
    sym
    (ap (λ (ys : List AskNet). opens_by f (map (ask_in a) ys)) (drop_more xs k ask low)
    ∙ ap (λ (y : AskNet). opens_by f (map (ask_in a) (y ∷ drop (k + 1) xs))) (sym is)) in (
      extends_trans a b d c.loop-i.invariant.0 (extends_trans b m d c.mux.ensures.extends c.both_bits.ensures.extends),
      c.both_bits.ensures.regs ∙ c.mux.ensures.regs ∙ c.loop-i.invariant.1,
      record {
        bit = net.bit;
        on = λ s.
            net.on s
            ∙ both_as (signal m c.in_ok-passes.passes) (signal m c.loop-i.net)
            (if_on (signal a ask.on) (f ask.mem)) rest (λ z. ap (λ (g : Signal). is_on g z) first)
            (λ z. ap (λ (g : Signal). is_on g z) old ∙ c.loop-i.invariant.2.on z ∙ ap (λ j. is_on (opens_by f (map (ask_in a) (drop j xs))) z) later) s
            ∙ ap (λ (g : Signal). is_on g s) more;
      },
    )
