-- The parameters of a pipe that keeps the rules, and its first arguments.
use Rattle.std.proofs.Common.{◌≡◌, refl, sym, ap, ◌∙◌, subst, subst₂, ◌≤◌, false, List, [], ◌∷◌, ◌++◌, map, take, length, append_assoc, arith}
use Rattle.std.proofs.lemmas.Bool.{or_parts, not-false}
use Rattle.std.specs.List.{list_any}
use Rattle.pdl_kit.specs.declared.rule.Rule.TheVariants.{W2, W5}
use Rattle.pdl_semantics.specs.Tree.{Param, Pipe}
use Rattle.pdl_semantics.specs.Flatten.{Var, params_of, start_of, past_all, at_start}
use Rattle.pdl_form.specs.Form.{form_of}
use Rattle.pdl_rules.specs.Places.{Parameter, Memory, End, StartClause, statements, places}
use Rattle.pdl_rules.specs.Widths.{is_too_large}
use Rattle.pdl_rules.specs.Refusal.{KeepsRules}
use Rattle.pdl_rules.specs.Typed.{AreStarts}
use Rattle.pdl_rules.proofs.TypedExpressions.{starts}
use Rattle.pdl_form_types.specs.Stmts.{param_widths, AreBelow}
use Rattle.pdl_form_types.proofs.VariableNames.{widths_of}
use Rattle.pdl_form_types.proofs.Values.{told_widths, below_start, long_start}
use Rattle.pdl_form_types.proofs.VariableGrowth.{past_all_begins}

-- the widths of the first variables
take_params : (ps : List Param) (more : List Var) → take (length (told_widths ps)) (widths_of (params_of ps ++ more)) ≡ told_widths ps
take_params [] more = refl
take_params (a ∷ ps) more = ap (λ l. a.width.value ∷ l) (take_params ps more)

few_params : (ps : List Param) (more : List Var) → length (told_widths ps) ≤ length (widths_of (params_of ps ++ more))
few_params [] more = let n : length (told_widths []) ≡ 0 = refl in omega arith
few_params (a ∷ ps) more = let h = few_params ps more in omega arith

module _ (p : Pipe) (rules : KeepsRules p) where
  -- the first arguments are as many as the parameters, with their widths
  pub first_arguments : AreStarts p.params p.start.args
  first_arguments =
      let front = (map Parameter p.params ++ map Memory p.mems ++ statements [] p.body) ++ End p.end ∷ [] in
      let whole : places p ≡ front ++ StartClause p.start ∷ [] =
      sym (append_assoc (map Parameter p.params ++ map Memory p.mems ++ statements [] p.body) (End p.end ∷ []) (StartClause p.start ∷ [])) in
      starts p.params p.start.args
      (or_parts (list_any is_too_large p.start.args) false (rules W2 front (StartClause p.start) [] whole)).0
      (not-false _ (rules W5 front (StartClause p.start) [] whole))

  count : length (start_of p.start.args) ≡ length (told_widths p.params)
  count = long_start p.params p.start.args first_arguments

  -- the flat form's parameters have the widths that the source tells
  pub params_are : param_widths (form_of p) ≡ told_widths p.params
  params_are =
      let begins = past_all_begins p.mems p.body (at_start p) in
      ap (λ n. take n (widths_of (past_all p.mems p.body (at_start p)).vars)) count
      ∙ ap (λ l. take (length (told_widths p.params)) (widths_of l)) begins.1
      ∙ take_params p.params begins.0

  -- there are no more start arguments than variables in the flat form
  pub params_few : length (start_of p.start.args) ≤ length (widths_of (past_all p.mems p.body (at_start p)).vars)
  params_few =
      let begins = past_all_begins p.mems p.body (at_start p) in
      subst₂ (λ n l. n ≤ length (widths_of l)) (sym count) (sym begins.1) (few_params p.params begins.0)

  -- each start argument is below what its parameter's width allows
  pub start_below : AreBelow (param_widths (form_of p)) (start_of p.start.args)
  start_below = subst (λ ns. AreBelow ns (start_of p.start.args)) (sym params_are) (below_start p.params p.start.args first_arguments)
