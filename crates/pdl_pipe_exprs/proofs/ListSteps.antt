-- The guards that are left, and expressions that are left, on the way through a list.
use Rattle.std.proofs.Common.{◌≡◌, ℕ, ◌+◌, ◌<◌, List, [], ◌∷◌, ◌++◌, length, drop, get_or, sym, ap, ap₂, ◌∙◌, subst}
use Rattle.std.proofs.lemmas.List.{map-append, drop_more}
use Rattle.pdl_semantics.specs.Flat.{Guard, Expr}
use Rattle.pdl_form.specs.declared.form.FlatGuard as r_guard
use Rattle.pdl_form.specs.declared.form.FlatExpr as r_expr
use Rattle.pdl_form.specs.View.{guard_view, guards_view, expr_view, exprs_view}
use Rattle.pdl_net.specs.declared.Net.{Net}
use Rattle.pdl_net.specs.Circuit.{Circuit}
use Rattle.pdl_net.specs.Signal.{Signal}
use Rattle.pdl_net.specs.Meaning.{signal, Means}
use Rattle.pdl_net.specs.Growth.{Extends}
use Rattle.pdl_pipe_exprs.specs.Nets.{NetsThere, signals_in, signal_at}
use Rattle.pdl_pipe_exprs.specs.Conditions.{both, literal, taken_from}
use Rattle.pdl_form_types.specs.Stmts.{AreGuards}
use Rattle.pdl_pipe_exprs.specs.Values.{value_signal, value_signals}
use Rattle.pdl_form_types.specs.Exprs.{AreTyped}
use Rattle.pdl_pipe_exprs.proofs.NetLists.{nets_kept}

module _ (gs : List r_guard.FlatGuard) (i : ℕ) (d : r_guard.FlatGuard) (l : i < length gs) where
  -- the guards from i on are the next one and those after it
  pub guards_split : guards_view (drop i gs) ≡ guard_view (get_or gs i d) ∷ guards_view (drop (i + 1) gs)
  guards_split = ap guards_view (drop_more gs i d l)

  -- where the guards from i on go by variables of 1 bit, so do those from the next one on
  pub guards_left : (ws : List ℕ) → AreGuards ws (guards_view (drop i gs)) → AreGuards ws (guards_view (drop (i + 1) gs))
  guards_left ws h = (subst (λ (xs : List Guard). AreGuards ws xs) guards_split h).2

  -- with the condition of the next guard joined, the guards after it are left, and the whole condition is the same
  pub taken_next : (fs : List Signal) (f g : Signal) (whole : Signal)
      → g ≡ both f (literal (get_or gs i d).first (signal_at fs (get_or gs i d).var))
      → taken_from fs f (guards_view (drop i gs)) ≡ whole → taken_from fs g (guards_view (drop (i + 1) gs)) ≡ whole
  taken_next fs f g whole e h = ap (λ x. taken_from fs x (guards_view (drop (i + 1) gs))) e ∙ sym (ap (taken_from fs f) guards_split) ∙ h

module _ (es : List r_expr.FlatExpr) (i : ℕ) (d : r_expr.FlatExpr) (l : i < length es) (is : d ≡ get_or es i d) where
  -- the expressions from i on are the next one and those after it
  pub exprs_split : exprs_view (drop i es) ≡ expr_view d ∷ exprs_view (drop (i + 1) es)
  exprs_split = ap exprs_view (drop_more es i d l) ∙ ap (λ e. expr_view e ∷ exprs_view (drop (i + 1) es)) (sym is)

  -- where the expressions from i on are typed, the next one and those after it are
  pub typed_left : (ws : List ℕ) → AreTyped ws (exprs_view (drop i es)) → AreTyped ws (expr_view d ∷ exprs_view (drop (i + 1) es))
  typed_left ws h = subst (λ (xs : List Expr). AreTyped ws xs) exprs_split h

  -- with the net of one value more, the nets' signals and the values that are left are the same list as before
  pub values_next : (a b : Circuit) (fs : List Signal) (xs ys : List Net) (x : Net) (whole : List Signal) → Extends a b
      → NetsThere a xs → Means b x (value_signal fs (expr_view d)) → ys ≡ xs ++ x ∷ []
      → signals_in a xs ++ value_signals fs (exprs_view (drop i es)) ≡ whole → signals_in b ys ++ value_signals fs (exprs_view (drop (i + 1) es)) ≡ whole
  values_next a b fs xs ys x whole e t m q h =
      let rest = value_signals fs (exprs_view (drop (i + 1) es)) in
      ap (λ zs. signals_in b zs ++ rest) q
      ∙ ap (λ zs. zs ++ rest) (map-append (signal b) xs (x ∷ []) ∙ ap₂ (λ (ys : List Signal) (y : Signal). ys ++ y ∷ []) (nets_kept a b xs e t) m.same)
      ∙ Rattle.std.proofs.Common.append_assoc (signals_in a xs) (value_signal fs (expr_view d) ∷ []) rest
      ∙ sym (ap (λ zs. signals_in a xs ++ value_signals fs zs) exprs_split)
      ∙ h
