-- What is known after some places of a pipe that keeps the rules: which variables the rules know, and where they are among those of the flat form.
use Rattle.std.proofs.Common.{◌≡◌, refl, sym, ap, ◌∙◌, subst₂, ℕ, Bool, true, false, ◌||◌, not, List, [], ◌∷◌, ◌++◌, map, Some, None, bytes_eq, append_assoc, append-nil, ⊎_elim, arith}
use Rattle.std.specs.Prelude.{IsTrue}
use Rattle.std.specs.List.{list_any}
use Rattle.std.proofs.lemmas.Bool.{and_cases, or_parts, or_cases, or_left, or_right, both_ways, not-false, not-true, false_from_ne_true}
use Rattle.std.proofs.lemmas.List.Folds.{list_any-append}
use Rattle.pdl_kit.specs.declared.rule.Rule.TheVariants.{Z7, N2}
use Rattle.pdl_semantics.specs.Tree.{Param, Pipe}
use Rattle.pdl_semantics.specs.Flatten.{Var, params_of}
use Rattle.pdl_rules.specs.Places.{Place, Parameter, Memory, statements, places, on_some_path}
use Rattle.pdl_rules.specs.Parts.{is_some_and}
use Rattle.pdl_rules.specs.Names.{OfVariable, defines_use, variable_at, name_at, is_undefined, is_taken_name, is_parameter, is_given, is_too_early, breaks_n2}
use Rattle.pdl_rules.specs.Widths.{with_variable, after_place}
use Rattle.pdl_rules.specs.Typed.{is_named}
use Rattle.pdl_rules.specs.Refusal.{KeepsRules}
use Rattle.pdl_rules.proofs.SingleWrites.{bytes_sym}
use Rattle.pdl_rules.proofs.EachPlace.{closing}
use Rattle.pdl_rules.proofs.TypedExpressions.{width_is}
use Rattle.pdl_rules.proofs.KnownVariables.{Stays, stays_more, AreKnown, takes_name, none_known, any_split, known_same, known_more, known_mems, params_named}
use Rattle.pdl_form_types.specs.Stmts.{AreWidths}
use Rattle.pdl_form_types.proofs.VariableNames.{widths_of, stays_after, stays_both}
use Rattle.pdl_form_types.proofs.Values.{IsWide}

-- the variables that the rules know after these places, and those of the flat form, `vs`, which has guards too, by the empty name
pub record After (p : Pipe) (before : List Place) (vs : List Var) : Type 0 where
  pub us : List Var
  pub known : AreKnown p us before
  pub stays : Stays us vs
  pub only : (x : List ℕ) → bytes_eq [] x ≡ false → IsTrue (is_named vs x) → IsTrue (is_named us x)
  pub params : (x : List ℕ) → is_parameter p x ≡ true → IsTrue (is_named us x)
  pub wide : AreWidths (widths_of vs)

wide_more : (vs : List Var) (v : Var) → AreWidths (widths_of vs) → IsWide v.width → AreWidths (widths_of (vs ++ v ∷ []))
wide_more [] v a h = (h.low, h.high, tt)
wide_more (u ∷ vs) v a h = (a.0, a.1, wide_more vs v a.2 h)

-- a name is equal from either side
turned : (x : List ℕ) (vs : List Var) → is_named vs x ≡ true → list_any (λ (v : Var). bytes_eq x v.name) vs ≡ true
turned x [] t = t
turned x (v ∷ vs) t =
    ⊎_elim
    (λ k. or_left _ _ (bytes_sym v.name x k))
    (λ k. or_right (bytes_eq x v.name) _ (turned x vs k))
    (or_cases (bytes_eq v.name x) _ t)

module _ (p : Pipe) (before : List Place) (vs : List Var) where
  -- after a place that defines no variable
  pub after_same : (b : After p before vs) (d : Place) → variable_at d ≡ None → after_place p.mems b.us d ≡ b.us → After p (before ++ d ∷ []) vs
  after_same b d none same = record {
    us = b.us;
    known = known_same p b.us before d none same b.known;
    stays = b.stays;
    only = b.only;
    params = b.params;
    wide = b.wide;
  }

  -- the variables stay known to the rules with a guard more, which has no name
  pub after_guard : After p before vs → After p before (vs ++ record { name = []; width = 1; advised = false } ∷ [])
  after_guard b = record {
    us = b.us;
    known = b.known;
    stays = stays_after b.us vs (record { name = []; width = 1; advised = false }) b.stays;
    only =
        λ x e h. ⊎_elim (b.only x e) (λ t. absurd (both_ways (bytes_eq [] x) e t))
        (any_split (λ (v : Var). bytes_eq v.name x) vs (record { name = []; width = 1; advised = false }) h);
    params = b.params;
    wide = wide_more vs (record { name = []; width = 1; advised = false }) b.wide (record { low = omega arith; high = omega arith });
  }

  -- a name that breaks no rule is new
  fresh : (us : List Var) → AreKnown p us before → (d : Place) (x : List ℕ) → name_at d ≡ Some x → breaks_n2 p before d ≡ false → is_named us x ≡ false
  fresh us known d x name unbroken = false_from_ne_true (is_named us x) (λ t. both_ways (list_any (takes_name x) before) free (known.taken x (turned x us t)))
    where
      free : list_any (takes_name x) before ≡ false
      free = (or_parts (bytes_eq x p.name.name) (list_any (takes_name x) before) (sym (ap (is_some_and (is_taken_name p before)) name) ∙ unbroken)).1

  -- after a place that defines this variable, with this width
  pub after_more : (b : After p before vs) (d : Place) (x : List ℕ) (w : ℕ) (advised : Bool) → variable_at d ≡ Some x → name_at d ≡ Some x
      → after_place p.mems b.us d ≡ with_variable b.us x w advised → breaks_n2 p before d ≡ false → bytes_eq [] x ≡ false → IsWide w
      → After p (before ++ d ∷ []) (vs ++ record { name = x; width = w; advised = advised } ∷ [])
  after_more b d x w advised variable name after unbroken letters wide = record {
    us = b.us ++ record { name = x; width = w; advised = advised } ∷ [];
    known = known_more p b.us before d x w advised variable name after unbroken b.known;
    stays = stays_both b.us vs (record { name = x; width = w; advised = advised }) new other b.stays;
    only = λ y e h. ⊎_elim
        (λ t. (stays_more b.us (record { name = x; width = w; advised = advised } ∷ []) y (b.only y e t)).0)
        (λ t. last y t)
        (any_split (λ (v : Var). bytes_eq v.name y) vs (record { name = x; width = w; advised = advised }) h);
    params = λ y e. (stays_more b.us (record { name = x; width = w; advised = advised } ∷ []) y (b.params y e)).0;
    wide = wide_more vs (record { name = x; width = w; advised = advised }) b.wide wide;
  }
    where
      new : is_named b.us x ≡ false
      new = fresh b.us b.known d x name unbroken

      other : is_named vs x ≡ false
      other = false_from_ne_true (is_named vs x) (λ t. both_ways (is_named b.us x) new (b.only x letters t))

      last : (y : List ℕ) → bytes_eq x y ≡ true → IsTrue (is_named (b.us ++ record { name = x; width = w; advised = advised } ∷ []) y)
      last y t =
          list_any-append (λ (v : Var). bytes_eq v.name y) b.us (record { name = x; width = w; advised = advised } ∷ [])
          ∙ or_right (is_named b.us y) _ (ap (λ c. c || false) t)

  -- a variable whose use breaks no rule is among those that the rules know
  pub knows : (b : After p before vs) (x : Place) (n : List ℕ) → is_too_early p before x (OfVariable n) ≡ false → IsTrue (is_named b.us n)
  knows b x n h =
      ⊎_elim
      (λ t. b.params n (not-false _ t))
      (λ t. b.known.named n
      (not-false _ (or_parts (is_undefined before (OfVariable n)) (on_some_path (λ earlier. not (is_given earlier (OfVariable n))) p before x) t).0))
      (and_cases (not (is_parameter p n)) _ h)

-- BEFORE THE STATEMENTS

module _ (p : Pipe) (rules : KeepsRules p) where
  params_known : (ps : List Param) (vs : List Var) (before later : List Place) → places p ≡ before ++ (map Parameter ps ++ later) → AreKnown p vs before
      → AreKnown p (vs ++ params_of ps) (before ++ map Parameter ps)
  params_known [] vs before later e k = subst₂ (λ us xs. AreKnown p us xs) (sym (append-nil vs)) (sym (append-nil before)) k
  params_known (a ∷ ps) vs before later e k =
      subst₂ (λ us xs. AreKnown p us xs)
      (append_assoc vs (record { name = a.name.name; width = a.width.value; advised = false } ∷ []) (params_of ps))
      (append_assoc before (Parameter a ∷ []) (map Parameter ps))
      (params_known ps (vs ++ record { name = a.name.name; width = a.width.value; advised = false } ∷ []) (before ++ Parameter a ∷ []) later
      (e ∙ sym (append_assoc before (Parameter a ∷ []) (map Parameter ps ++ later)))
      (known_more p vs before (Parameter a) a.name.name a.width.value false refl refl refl (rules N2 before (Parameter a) _ e) k))

  params_wide : (ps : List Param) (before later : List Place) → places p ≡ before ++ (map Parameter ps ++ later) → AreWidths (widths_of (params_of ps))
  params_wide [] before later e = tt
  params_wide (a ∷ ps) before later e =
      let width = width_is a.width.value (rules Z7 before (Parameter a) _ e) in
      (width.0, width.1, params_wide ps (before ++ Parameter a ∷ []) later (e ∙ sym (append_assoc before (Parameter a ∷ []) (map Parameter ps ++ later))))

  -- the places are those of the parameters, then of the memories, then of the statements, then the closing ones
  pub by_params : places p ≡ map Parameter p.params ++ (map Memory p.mems ++ (statements [] p.body ++ closing p))
  by_params =
      append_assoc (map Parameter p.params ++ map Memory p.mems) (statements [] p.body) (closing p)
      ∙ append_assoc (map Parameter p.params) (map Memory p.mems) (statements [] p.body ++ closing p)

  -- the places are those of the parameters and memories, then those of the statements, then the closing ones
  pub by_body : places p ≡ (map Parameter p.params ++ map Memory p.mems) ++ (statements [] p.body ++ closing p)
  by_body = append_assoc (map Parameter p.params ++ map Memory p.mems) (statements [] p.body) (closing p)

  -- after the parameters and memories the rules know the parameters, and the flat form has these as its variables
  pub after_front : After p (map Parameter p.params ++ map Memory p.mems) (params_of p.params)
  after_front = record {
    us = params_of p.params;
    known = known_mems p p.mems (params_of p.params) (map Parameter p.params) (params_known p.params [] [] _ by_params (none_known p));
    stays = λ x h. (h, refl, refl);
    only = λ x e h. h;
    params = params_named p.params;
    wide = params_wide p.params [] _ by_params;
  }

  -- no variable has the empty name
  pub has_letters : is_undefined (places p) (OfVariable []) ≡ true → (before : List Place) (d : Place) (later : List Place) (x : List ℕ)
      → places p ≡ before ++ d ∷ later → variable_at d ≡ Some x → bytes_eq [] x ≡ false
  has_letters named before d later x e variable =
      let none = ap (list_any (defines_use (OfVariable []))) (sym e) ∙ not-true _ named in
      let split = or_parts (list_any (defines_use (OfVariable [])) before) _ (sym (list_any-append (defines_use (OfVariable [])) before (d ∷ later)) ∙ none) in
      ap (is_some_and (bytes_eq [])) (sym variable) ∙ (or_parts (defines_use (OfVariable []) d) _ split.1).0
