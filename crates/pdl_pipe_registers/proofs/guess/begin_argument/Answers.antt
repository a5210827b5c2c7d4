use Rattle.std.proofs.Common.{◌<◌, ◌≤◌, inl, inr, length, refl, sym, ap, ◌∙◌, subst, arith}
use Rattle.std.proofs.lemmas.List.{length-take}
use Rattle.std.specs.Prelude.{slice_index}
use Rattle.pdl_form.specs.FormView.{form}
use Rattle.pdl_form_types.specs.Stmts.{param_widths}
use Rattle.pdl_net.proofs.KeptWidths.{width_meant}
use Rattle.pdl_pipe_exprs.specs.Nets.{signals_in}
use Rattle.pdl_pipe_exprs.proofs.NetLists.{width_at}
use Rattle.pdl_pipe_registers.proofs.SettledItems.{twin_width}
use Rattle.pdl_pipe_registers.proofs.Widths.{wide_low, wide_high}
use Rattle.pdl_pipe_registers.proofs.guess.begin_argument.Goals as goal
use Rattle.pdl_word.specs.Words.{widest}

pub begin_item-requires-clause-low : goal.begin_item-requires-clause-low
begin_item-requires-clause-low c =
    subst (λ n. 1 ≤ n) (sym c.width.ensures)
    (wide_low (form c.args.pipe.now).widths c.args.i (let l = c.requires.low in let p = c.requires.typed.params in omega (arith, l, p)) c.requires.typed.wide)

pub begin_item-requires-clause-high : goal.begin_item-requires-clause-high
begin_item-requires-clause-high c =
    subst (λ n. n ≤ widest) (sym c.width.ensures)
    (wide_high (form c.args.pipe.now).widths c.args.i (let l = c.requires.low in let p = c.requires.typed.params in omega (arith, l, p)) c.requires.typed.wide)

pub returns-in-Some-clause-begins : goal.returns-in-Some-clause-begins
returns-in-Some-clause-begins c =
    let b = c.args.b.now in
    let f = form c.args.pipe.now in
    let e = c.args.earlier.now in
    let nexts = signals_in b c.args.shared.now.next in
    let vars = signals_in b c.args.vars.now in
    let i = c.args.i in
    let x = c.in-Some.x in
    let twin = c.in-Some.ensures.twin in
    let low = c.requires.low in
    let n = length-take (length f.pipe.start) f.widths in
    let p = c.requires.typed.params in
    let guess : i < length (param_widths f) = omega (arith, low, n, p) in
    let means = c.variable.ensures in
    record {
      may = inr record {
        regs = refl;
        wide =
            width_meant b _ _ _ means
            (sym (width_at vars x) ∙ ap (λ ws. slice_index ws x) c.requires.wide
            ∙ twin_width b f nexts e i x c.requires.earlier guess c.in-Some.ensures.low twin);
        settled = λ need. inr record { x = x; twin = twin; is = means.same };
      };
      own = inl refl;
    }
