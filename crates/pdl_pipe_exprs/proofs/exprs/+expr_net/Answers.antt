-- Operands one after another: the second is typed where the first has been made, and each net has its expression's signal in the end.
use Rattle.std.proofs.Common.{◌≡◌, rules, refl, sym, ap, ap₂, ◌∙◌, subst, arith}
use Rattle.std.proofs.lemmas.Result.{IfOk-weaker}
use Rattle.pdl_syntax_tree.specs.View.{op_view}
use Rattle.pdl_form.specs.declared.form.FlatExpr.{the_lemmas}
use Rattle.pdl_net.specs.declared.BinOp.{BinOp}
use Rattle.pdl_net.specs.declared.BinOp.TheVariants as net_op
use Rattle.pdl_net.specs.Signal.{bin_signal, cat_signal, mux_signal}
use Rattle.pdl_net.specs.Meaning.{signal}
use Rattle.pdl_net.proofs.Keeps.{extends_trans}
use Rattle.pdl_build.specs.Operators.{raised_signal}
use Rattle.pdl_pipe_exprs.specs.Nets.{signals_in, widths_of}
use Rattle.pdl_semantics.specs.Flat.{Expr, Slice, Binary, Cat, LessSigned, ZeroExtend, SignExtend, Choose}
use Rattle.pdl_form.specs.View.{expr_view}
use Rattle.pdl_form_types.specs.Exprs.{IsTyped}
use Rattle.pdl_pipe_exprs.specs.Values.{value_signal}
use Rattle.pdl_pipe_exprs.proofs.NetLists.{width_at}
use Rattle.pdl_pipe_exprs.proofs.Operands.{next_typed, first, last, between, made_width, means_as}
use Rattle.pdl_pipe_exprs.proofs.exprs.+expr_net.Goals as goal

pub slice_of-requires-clause-top : goal.slice_of-requires-clause-top
slice_of-requires-clause-top t c =
    let ns = signals_in c.args.b.now c.args.vars.now in
    let seen : expr_view c.args.e.now ≡ Slice c.in-Slice.x c.in-Slice.high c.in-Slice.low = search (rules, the_lemmas) in
    let typed = subst (λ (e : Expr). IsTyped (widths_of ns) e) seen c.requires.typed in
    omega (arith, typed.2, width_at ns c.in-Slice.x)

pub expr_net-requires-in-Binary-2 : goal.expr_net-requires-in-Binary-2
expr_net-requires-in-Binary-2 t c =
    let old = c.args.b.now in
    let vs = c.args.vars.now in
    let ns = signals_in old vs in
    let seen : expr_view c.args.e.now ≡ Binary (op_view c.in-Binary.op) c.in-Binary.width (expr_view c.in-Binary.a) (expr_view c.in-Binary.c) =
    search (rules, the_lemmas) in
    let typed = subst (λ (e : Expr). IsTyped (widths_of ns) e) seen c.requires.typed in (
      search (rules, the_lemmas),
      next_typed old c.expr_net-in-Binary.new.b vs
          (expr_view c.get-in-Binary-2.result.now) c.expr_net-in-Binary.ensures.extends c.requires.there
          (rw c.get-in-Binary-2.ensures typed.1),
    )

pub bin-requires-clause-widths : goal.bin-requires-clause-widths
bin-requires-clause-widths t c =
    let old = c.args.b.now in
    let vs = c.args.vars.now in
    let ns = signals_in old vs in
    let seen : expr_view c.args.e.now ≡ Binary (op_view c.in-Binary.op) c.in-Binary.width (expr_view c.in-Binary.a) (expr_view c.in-Binary.c) =
    search (rules, the_lemmas) in
    let typed = subst (λ (e : Expr). IsTyped (widths_of ns) e) seen c.requires.typed in
    let new = c.expr_net-in-Binary-2.new.b in
    let x =
    first old c.expr_net-in-Binary.new.b new vs (expr_view c.in-Binary.a)
    (expr_view c.get-in-Binary.result.now) c.in_ok-a-in-Binary.a
    (ap expr_view c.get-in-Binary.ensures) c.expr_net-in-Binary-2.ensures.extends c.in_ok-a-in-Binary.ensures.means in
    let y =
    last old c.expr_net-in-Binary.new.b new vs (expr_view c.in-Binary.c)
    (expr_view c.get-in-Binary-2.result.now) c.in_ok-c-in-Binary.c
    (ap expr_view c.get-in-Binary-2.ensures) c.expr_net-in-Binary.ensures.extends c.requires.there c.in_ok-c-in-Binary.ensures.means in
    made_width new c.in_ok-a-in-Binary.a ns (expr_view c.in-Binary.a) x typed.0 ∙ typed.2
    ∙ sym (made_width new c.in_ok-c-in-Binary.c ns (expr_view c.in-Binary.c) y typed.1 ∙ typed.3)

pub returns-in_ok-c-in-Binary-clause-means : goal.returns-in_ok-c-in-Binary-clause-means
returns-in_ok-c-in-Binary-clause-means t c =
    let old = c.args.b.now in
    let vs = c.args.vars.now in
    let ns = signals_in old vs in
    let seen : expr_view c.args.e.now ≡ Binary (op_view c.in-Binary.op) c.in-Binary.width (expr_view c.in-Binary.a) (expr_view c.in-Binary.c) =
    search (rules, the_lemmas) in
    let typed = subst (λ (e : Expr). IsTyped (widths_of ns) e) seen c.requires.typed in
    let new = c.expr_net-in-Binary-2.new.b in
    let x =
    first old c.expr_net-in-Binary.new.b new vs (expr_view c.in-Binary.a)
    (expr_view c.get-in-Binary.result.now) c.in_ok-a-in-Binary.a
    (ap expr_view c.get-in-Binary.ensures) c.expr_net-in-Binary-2.ensures.extends c.in_ok-a-in-Binary.ensures.means in
    let y =
    last old c.expr_net-in-Binary.new.b new vs (expr_view c.in-Binary.c)
    (expr_view c.get-in-Binary-2.result.now) c.in_ok-c-in-Binary.c
    (ap expr_view c.get-in-Binary-2.ensures) c.expr_net-in-Binary.ensures.extends c.requires.there c.in_ok-c-in-Binary.ensures.means in
    let same =
    ap₂ (bin_signal c.bin_op.result) x y
    ∙ ap (λ (o : BinOp). bin_signal o (value_signal ns (expr_view c.in-Binary.a)) (value_signal ns (expr_view c.in-Binary.c))) c.bin_op.ensures
    ∙ ap (value_signal ns) (sym seen) in
    IfOk-weaker c.bin.result _ _ (λ z m. means_as c.bin.new.self z _ _ same m) c.bin.ensures.means

pub expr_net-requires-in-Cat-2 : goal.expr_net-requires-in-Cat-2
expr_net-requires-in-Cat-2 t c =
    let old = c.args.b.now in
    let vs = c.args.vars.now in
    let ns = signals_in old vs in
    let seen : expr_view c.args.e.now ≡ Cat (expr_view c.in-Cat.a) c.in-Cat.width (expr_view c.in-Cat.c) = search (rules, the_lemmas) in
    let typed = subst (λ (e : Expr). IsTyped (widths_of ns) e) seen c.requires.typed in (
      search (rules, the_lemmas),
      next_typed old c.expr_net-in-Cat.new.b vs
          (expr_view c.get-in-Cat-2.result.now) c.expr_net-in-Cat.ensures.extends c.requires.there
          (rw c.get-in-Cat-2.ensures typed.1),
    )

pub cat-requires-clause-widths : goal.cat-requires-clause-widths
cat-requires-clause-widths t c =
    let old = c.args.b.now in
    let vs = c.args.vars.now in
    let ns = signals_in old vs in
    let seen : expr_view c.args.e.now ≡ Cat (expr_view c.in-Cat.a) c.in-Cat.width (expr_view c.in-Cat.c) = search (rules, the_lemmas) in
    let typed = subst (λ (e : Expr). IsTyped (widths_of ns) e) seen c.requires.typed in
    let new = c.expr_net-in-Cat-2.new.b in
    let x =
    first old c.expr_net-in-Cat.new.b new vs (expr_view c.in-Cat.a)
    (expr_view c.get-in-Cat.result.now) c.in_ok-a-in-Cat.a
    (ap expr_view c.get-in-Cat.ensures) c.expr_net-in-Cat-2.ensures.extends c.in_ok-a-in-Cat.ensures.means in
    let y =
    last old c.expr_net-in-Cat.new.b new vs (expr_view c.in-Cat.c)
    (expr_view c.get-in-Cat-2.result.now) c.in_ok-c-in-Cat.c
    (ap expr_view c.get-in-Cat-2.ensures) c.expr_net-in-Cat.ensures.extends c.requires.there c.in_ok-c-in-Cat.ensures.means in
    omega (
      arith,
      made_width new c.in_ok-a-in-Cat.a ns (expr_view c.in-Cat.a) x typed.0,
      made_width new c.in_ok-c-in-Cat.c ns (expr_view c.in-Cat.c) y typed.1,
      typed.2,
      typed.3,
    )

pub returns-in_ok-c-in-Cat-clause-means : goal.returns-in_ok-c-in-Cat-clause-means
returns-in_ok-c-in-Cat-clause-means t c =
    let old = c.args.b.now in
    let vs = c.args.vars.now in
    let ns = signals_in old vs in
    let seen : expr_view c.args.e.now ≡ Cat (expr_view c.in-Cat.a) c.in-Cat.width (expr_view c.in-Cat.c) = search (rules, the_lemmas) in
    let typed = subst (λ (e : Expr). IsTyped (widths_of ns) e) seen c.requires.typed in
    let new = c.expr_net-in-Cat-2.new.b in
    let x =
    first old c.expr_net-in-Cat.new.b new vs (expr_view c.in-Cat.a)
    (expr_view c.get-in-Cat.result.now) c.in_ok-a-in-Cat.a
    (ap expr_view c.get-in-Cat.ensures) c.expr_net-in-Cat-2.ensures.extends c.in_ok-a-in-Cat.ensures.means in
    let y =
    last old c.expr_net-in-Cat.new.b new vs (expr_view c.in-Cat.c)
    (expr_view c.get-in-Cat-2.result.now) c.in_ok-c-in-Cat.c
    (ap expr_view c.get-in-Cat-2.ensures) c.expr_net-in-Cat.ensures.extends c.requires.there c.in_ok-c-in-Cat.ensures.means in
    let same = ap₂ cat_signal x y ∙ ap (value_signal ns) (sym seen) in
    IfOk-weaker c.cat.result _ _ (λ z m. means_as c.cat.new.self z _ _ same m) c.cat.ensures.means

pub expr_net-requires-in-LessSigned-2 : goal.expr_net-requires-in-LessSigned-2
expr_net-requires-in-LessSigned-2 t c =
    let old = c.args.b.now in
    let vs = c.args.vars.now in
    let ns = signals_in old vs in
    let seen : expr_view c.args.e.now ≡ LessSigned c.in-LessSigned.width (expr_view c.in-LessSigned.a) (expr_view c.in-LessSigned.c) =
    search (rules, the_lemmas) in
    let typed = subst (λ (e : Expr). IsTyped (widths_of ns) e) seen c.requires.typed in (
      search (rules, the_lemmas),
      next_typed old c.expr_net-in-LessSigned.new.b vs
          (expr_view c.get-in-LessSigned-2.result.now) c.expr_net-in-LessSigned.ensures.extends c.requires.there
          (rw c.get-in-LessSigned-2.ensures typed.1),
    )

pub less_signed-requires-clause-widths : goal.less_signed-requires-clause-widths
less_signed-requires-clause-widths t c =
    let old = c.args.b.now in
    let vs = c.args.vars.now in
    let ns = signals_in old vs in
    let seen : expr_view c.args.e.now ≡ LessSigned c.in-LessSigned.width (expr_view c.in-LessSigned.a) (expr_view c.in-LessSigned.c) =
    search (rules, the_lemmas) in
    let typed = subst (λ (e : Expr). IsTyped (widths_of ns) e) seen c.requires.typed in
    let new = c.expr_net-in-LessSigned-2.new.b in
    let x =
    first old c.expr_net-in-LessSigned.new.b new vs (expr_view c.in-LessSigned.a)
    (expr_view c.get-in-LessSigned.result.now) c.in_ok-a-in-LessSigned.a
    (ap expr_view c.get-in-LessSigned.ensures) c.expr_net-in-LessSigned-2.ensures.extends c.in_ok-a-in-LessSigned.ensures.means in
    let y =
    last old c.expr_net-in-LessSigned.new.b new vs (expr_view c.in-LessSigned.c)
    (expr_view c.get-in-LessSigned-2.result.now) c.in_ok-c-in-LessSigned.c
    (ap expr_view c.get-in-LessSigned-2.ensures) c.expr_net-in-LessSigned.ensures.extends c.requires.there c.in_ok-c-in-LessSigned.ensures.means in
    made_width new c.in_ok-a-in-LessSigned.a ns (expr_view c.in-LessSigned.a) x typed.0 ∙ typed.2
    ∙ sym (made_width new c.in_ok-c-in-LessSigned.c ns (expr_view c.in-LessSigned.c) y typed.1 ∙ typed.3)

pub returns-in_ok-c-in-LessSigned-clause-means : goal.returns-in_ok-c-in-LessSigned-clause-means
returns-in_ok-c-in-LessSigned-clause-means t c =
    let old = c.args.b.now in
    let vs = c.args.vars.now in
    let ns = signals_in old vs in
    let seen : expr_view c.args.e.now ≡ LessSigned c.in-LessSigned.width (expr_view c.in-LessSigned.a) (expr_view c.in-LessSigned.c) =
    search (rules, the_lemmas) in
    let typed = subst (λ (e : Expr). IsTyped (widths_of ns) e) seen c.requires.typed in
    let new = c.expr_net-in-LessSigned-2.new.b in
    let x =
    first old c.expr_net-in-LessSigned.new.b new vs (expr_view c.in-LessSigned.a)
    (expr_view c.get-in-LessSigned.result.now) c.in_ok-a-in-LessSigned.a
    (ap expr_view c.get-in-LessSigned.ensures) c.expr_net-in-LessSigned-2.ensures.extends c.in_ok-a-in-LessSigned.ensures.means in
    let y =
    last old c.expr_net-in-LessSigned.new.b new vs (expr_view c.in-LessSigned.c)
    (expr_view c.get-in-LessSigned-2.result.now) c.in_ok-c-in-LessSigned.c
    (ap expr_view c.get-in-LessSigned-2.ensures) c.expr_net-in-LessSigned.ensures.extends c.requires.there c.in_ok-c-in-LessSigned.ensures.means in
    let same = ap₂ (λ f g. bin_signal net_op.Lt (raised_signal f) (raised_signal g)) x y ∙ ap (value_signal ns) (sym seen) in
    IfOk-weaker c.less_signed.result _ _ (λ z m. means_as c.less_signed.new.self z _ _ same m) c.less_signed.ensures.means

pub zero_extend-requires-clause-wider : goal.zero_extend-requires-clause-wider
zero_extend-requires-clause-wider t c =
    let old = c.args.b.now in
    let vs = c.args.vars.now in
    let ns = signals_in old vs in
    let seen : expr_view c.args.e.now ≡ ZeroExtend c.in-ZeroExtend.wide (expr_view c.in-ZeroExtend.a) = search (rules, the_lemmas) in
    let typed = subst (λ (e : Expr). IsTyped (widths_of ns) e) seen c.requires.typed in
    let new = c.expr_net-in-ZeroExtend.new.b in
    let x = c.in_ok-a-in-ZeroExtend.ensures.means.same ∙ ap (value_signal ns) (ap expr_view c.get-in-ZeroExtend.ensures) in
    omega (arith, made_width new c.in_ok-a-in-ZeroExtend.a ns (expr_view c.in-ZeroExtend.a) x typed.0, typed.1)

pub sign_extend-requires-clause-wider : goal.sign_extend-requires-clause-wider
sign_extend-requires-clause-wider t c =
    let old = c.args.b.now in
    let vs = c.args.vars.now in
    let ns = signals_in old vs in
    let seen : expr_view c.args.e.now ≡ SignExtend c.in-SignExtend.width c.in-SignExtend.wide (expr_view c.in-SignExtend.a) = search (rules, the_lemmas) in
    let typed = subst (λ (e : Expr). IsTyped (widths_of ns) e) seen c.requires.typed in
    let new = c.expr_net-in-SignExtend.new.b in
    let x = c.in_ok-a-in-SignExtend.ensures.means.same ∙ ap (value_signal ns) (ap expr_view c.get-in-SignExtend.ensures) in
    omega (arith, made_width new c.in_ok-a-in-SignExtend.a ns (expr_view c.in-SignExtend.a) x typed.0, typed.1, typed.2)

pub expr_net-requires-in-Choose-2 : goal.expr_net-requires-in-Choose-2
expr_net-requires-in-Choose-2 t c =
    let old = c.args.b.now in
    let vs = c.args.vars.now in
    let ns = signals_in old vs in
    let seen : expr_view c.args.e.now ≡ Choose (expr_view c.in-Choose.c) (expr_view c.in-Choose.a) (expr_view c.in-Choose.d) = search (rules, the_lemmas) in
    let typed = subst (λ (e : Expr). IsTyped (widths_of ns) e) seen c.requires.typed in (
      search (rules, the_lemmas),
      next_typed old c.expr_net-in-Choose.new.b vs
          (expr_view c.get-in-Choose-2.result.now) c.expr_net-in-Choose.ensures.extends c.requires.there
          (rw c.get-in-Choose-2.ensures typed.1),
    )

pub expr_net-requires-in-Choose-3 : goal.expr_net-requires-in-Choose-3
expr_net-requires-in-Choose-3 t c =
    let old = c.args.b.now in
    let vs = c.args.vars.now in
    let ns = signals_in old vs in
    let seen : expr_view c.args.e.now ≡ Choose (expr_view c.in-Choose.c) (expr_view c.in-Choose.a) (expr_view c.in-Choose.d) = search (rules, the_lemmas) in
    let typed = subst (λ (e : Expr). IsTyped (widths_of ns) e) seen c.requires.typed in
    let far =
    extends_trans old c.expr_net-in-Choose.new.b c.expr_net-in-Choose-2.new.b c.expr_net-in-Choose.ensures.extends c.expr_net-in-Choose-2.ensures.extends in (
      search (rules, the_lemmas),
      next_typed old c.expr_net-in-Choose-2.new.b vs (expr_view c.get-in-Choose-3.result.now) far c.requires.there (rw c.get-in-Choose-3.ensures typed.2),
    )

pub mux-requires-clause-choice : goal.mux-requires-clause-choice
mux-requires-clause-choice t c =
    let old = c.args.b.now in
    let vs = c.args.vars.now in
    let ns = signals_in old vs in
    let seen : expr_view c.args.e.now ≡ Choose (expr_view c.in-Choose.c) (expr_view c.in-Choose.a) (expr_view c.in-Choose.d) = search (rules, the_lemmas) in
    let typed = subst (λ (e : Expr). IsTyped (widths_of ns) e) seen c.requires.typed in
    let one = c.expr_net-in-Choose.new.b in
    let two = c.expr_net-in-Choose-2.new.b in
    let new = c.expr_net-in-Choose-3.new.b in
    let later = c.expr_net-in-Choose-3.ensures.extends in
    let later_two = extends_trans one two new c.expr_net-in-Choose-2.ensures.extends later in
    let w =
    first old one new vs (expr_view c.in-Choose.c)
    (expr_view c.get-in-Choose.result.now) c.in_ok-c-in-Choose.c (ap expr_view c.get-in-Choose.ensures)
    later_two c.in_ok-c-in-Choose.ensures.means in
    record {
      there = later_two.there c.in_ok-c-in-Choose.c c.in_ok-c-in-Choose.ensures.means.there;
      width = made_width new c.in_ok-c-in-Choose.c ns (expr_view c.in-Choose.c) w typed.0 ∙ typed.3;
    }

pub mux-requires-clause-widths : goal.mux-requires-clause-widths
mux-requires-clause-widths t c =
    let old = c.args.b.now in
    let vs = c.args.vars.now in
    let ns = signals_in old vs in
    let seen : expr_view c.args.e.now ≡ Choose (expr_view c.in-Choose.c) (expr_view c.in-Choose.a) (expr_view c.in-Choose.d) = search (rules, the_lemmas) in
    let typed = subst (λ (e : Expr). IsTyped (widths_of ns) e) seen c.requires.typed in
    let one = c.expr_net-in-Choose.new.b in
    let two = c.expr_net-in-Choose-2.new.b in
    let new = c.expr_net-in-Choose-3.new.b in
    let later = c.expr_net-in-Choose-3.ensures.extends in
    let far = extends_trans old one two c.expr_net-in-Choose.ensures.extends c.expr_net-in-Choose-2.ensures.extends in
    let w =
    first old one new vs (expr_view c.in-Choose.c)
    (expr_view c.get-in-Choose.result.now) c.in_ok-c-in-Choose.c (ap expr_view c.get-in-Choose.ensures)
    (extends_trans one two new c.expr_net-in-Choose-2.ensures.extends later) c.in_ok-c-in-Choose.ensures.means in
    let x =
    between old one two new vs (expr_view c.in-Choose.a)
    (expr_view c.get-in-Choose-2.result.now) c.in_ok-a-in-Choose.a
    (ap expr_view c.get-in-Choose-2.ensures) c.expr_net-in-Choose.ensures.extends later c.requires.there c.in_ok-a-in-Choose.ensures.means in
    let y =
    last old two new vs (expr_view c.in-Choose.d)
    (expr_view c.get-in-Choose-3.result.now) c.in_ok-d-in-Choose.d
    (ap expr_view c.get-in-Choose-3.ensures) far c.requires.there c.in_ok-d-in-Choose.ensures.means in
    made_width new c.in_ok-a-in-Choose.a ns (expr_view c.in-Choose.a) x typed.1 ∙ typed.4
    ∙ sym (made_width new c.in_ok-d-in-Choose.d ns (expr_view c.in-Choose.d) y typed.2)

pub returns-in_ok-d-in-Choose-clause-means : goal.returns-in_ok-d-in-Choose-clause-means
returns-in_ok-d-in-Choose-clause-means t c =
    let old = c.args.b.now in
    let vs = c.args.vars.now in
    let ns = signals_in old vs in
    let seen : expr_view c.args.e.now ≡ Choose (expr_view c.in-Choose.c) (expr_view c.in-Choose.a) (expr_view c.in-Choose.d) = search (rules, the_lemmas) in
    let typed = subst (λ (e : Expr). IsTyped (widths_of ns) e) seen c.requires.typed in
    let one = c.expr_net-in-Choose.new.b in
    let two = c.expr_net-in-Choose-2.new.b in
    let new = c.expr_net-in-Choose-3.new.b in
    let later = c.expr_net-in-Choose-3.ensures.extends in
    let far = extends_trans old one two c.expr_net-in-Choose.ensures.extends c.expr_net-in-Choose-2.ensures.extends in
    let w =
    first old one new vs (expr_view c.in-Choose.c)
    (expr_view c.get-in-Choose.result.now) c.in_ok-c-in-Choose.c (ap expr_view c.get-in-Choose.ensures)
    (extends_trans one two new c.expr_net-in-Choose-2.ensures.extends later) c.in_ok-c-in-Choose.ensures.means in
    let x =
    between old one two new vs (expr_view c.in-Choose.a)
    (expr_view c.get-in-Choose-2.result.now) c.in_ok-a-in-Choose.a
    (ap expr_view c.get-in-Choose-2.ensures) c.expr_net-in-Choose.ensures.extends later c.requires.there c.in_ok-a-in-Choose.ensures.means in
    let y =
    last old two new vs (expr_view c.in-Choose.d)
    (expr_view c.get-in-Choose-3.result.now) c.in_ok-d-in-Choose.d
    (ap expr_view c.get-in-Choose-3.ensures) far c.requires.there c.in_ok-d-in-Choose.ensures.means in
    let mux_same : mux_signal (signal new c.in_ok-c-in-Choose.c) (signal new c.in_ok-a-in-Choose.a) (signal new c.in_ok-d-in-Choose.d)
    ≡ mux_signal (value_signal ns (expr_view c.in-Choose.c)) (value_signal ns (expr_view c.in-Choose.a)) (value_signal ns (expr_view c.in-Choose.d)) =
    rw (w, x, y) refl in
    IfOk-weaker c.mux.result _ _
    (λ z m. means_as c.mux.new.self z (mux_signal (signal new c.in_ok-c-in-Choose.c) (signal new c.in_ok-a-in-Choose.a) (signal new c.in_ok-d-in-Choose.d))
    (value_signal ns (expr_view c.args.e.now)) (mux_same ∙ ap (value_signal ns) (sym seen)) m) c.mux.ensures.means
