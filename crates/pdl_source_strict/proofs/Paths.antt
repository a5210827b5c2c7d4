-- Each path of an accepted pipe's flat form is strict.
use Rattle.std.proofs.Common.{◌≡◌, refl, sym, ap, ap₂, ◌∙◌, ℕ, true, false, ◌&&◌, ◌||◌, not, List, [], ◌∷◌, Option, Some, None, nat_lt, le_refl}
use Rattle.std.proofs.lemmas.Bool.{false≢true, or_parts}
use Rattle.pdl_semantics.specs.Tree.{Location, Pipe}
use Rattle.pdl_semantics.specs.Flat
use Rattle.pdl_semantics.specs.Flat.{DelayedRead, Block, list_all}
use Rattle.pdl_semantics.specs.Flatten.{flat, params_of}
use Rattle.pdl_semantics.specs.Stages.{list_any, onpath}
use Rattle.pdl_semantics.specs.Sound.{is_release_at}
use Rattle.pdl_kit.specs.declared.rule.Rule.TheVariants.{N3}
use Rattle.pdl_rules.specs.Parts.{is_some_and, location_of}
use Rattle.pdl_rules.specs.Names.{in_location, in_verify, is_too_early}
use Rattle.pdl_rules.specs.Refusal.{KeepsRules}
use Rattle.pdl_rules.specs.Typed.{is_named}
use Rattle.pdl_theory_turns.specs.Alone.{answered_op}
use Rattle.pdl_theory_turns.specs.Facts.{mentions_var, looked_all}
use Rattle.pdl_theory_turns.proofs.Looks.{path_looked}
use Rattle.pdl_source_stages.proofs.Sites.{Site, sites_of, place_of, All, stmts_are}
use Rattle.pdl_source_stages.proofs.SiteStages.{all_map}
use Rattle.pdl_source_paths.specs.Source.{is_source}
use Rattle.pdl_source_paths.proofs.Choices.{path_of}
use Rattle.pdl_source_paths.proofs.PathStatements.{seen, on_sites, path_is}
use Rattle.pdl_source_paths.proofs.Variables.{Here, all_here, located, known}
use Rattle.pdl_source_paths.proofs.Walk.{all_on, keeps_all}
use Rattle.pdl_source_paths.proofs.Growth.{grows_all, grows_on}
use Rattle.pdl_source_paths.proofs.FlatPaths.{value, all_alike}
use Rattle.pdl_theory_states.specs.Strict.{Strict, bound_by, uses_own, is_mentioned, is_new, all_new, bound_of, is_used_by, binds_used, keeps_guess, all_keep_guess, lets_go, all_let_go}
use Rattle.pdl_source_strict.proofs.Guesses.{sites_keep}
use Rattle.pdl_source_strict.proofs.FreshVariables.{Uses, sites_new}
use Rattle.pdl_source_strict.proofs.LetGo.{sites_let_go}
use Rattle.pdl_semantics.proofs.Facts.{all_vars}

-- WHERE DELAYED READS ARE READS

abbrev looked_ops : List Flat.Op → List Flat.Op
looked_ops [] = []
looked_ops (op ∷ ops) = answered_op op ∷ looked_ops ops

mentions_looked : (x : ℕ) (op : Flat.Op) → mentions_var x (answered_op op) ≡ mentions_var x op
mentions_looked x (DelayedRead y m a) = refl
mentions_looked x _ = refl

bound_looked : (op : Flat.Op) → bound_by (answered_op op) ≡ bound_by op
bound_looked (DelayedRead y m a) = refl
bound_looked _ = refl

own_looked : (op : Flat.Op) → uses_own (answered_op op) ≡ uses_own op
own_looked (DelayedRead y m a) = refl
own_looked _ = refl

release_looked : (m a : ℕ) (op : Flat.Op) → is_release_at m a (answered_op op) ≡ is_release_at m a op
release_looked m a (DelayedRead y n b) = refl
release_looked m a _ = refl

mentioned_looked : (x : ℕ) (ops : List Flat.Op) → is_mentioned x (looked_ops ops) ≡ is_mentioned x ops
mentioned_looked x [] = refl
mentioned_looked x (op ∷ ops) = ap₂ (λ a b. a || b) (mentions_looked x op) (mentioned_looked x ops)

is_new_looked : (vars : ℕ) (past : List Flat.Op) (o : Option ℕ) → is_new vars (looked_ops past) o ≡ is_new vars past o
is_new_looked vars past None = refl
is_new_looked vars past (Some x) = ap (λ b. nat_lt x vars && not b) (mentioned_looked x past)

new_looked : (vars : ℕ) (past : List Flat.Op) (xs : List Flat.Stmt) → all_new vars (looked_ops past) (looked_all xs) ≡ all_new vars past xs
new_looked vars past [] = refl
new_looked vars past (x ∷ xs) =
    ap₂ (λ a b. a && b)
    (ap₂ (λ o b. is_new vars (looked_ops past) o && not b) (bound_looked x.op) (own_looked x.op)
    ∙ ap (λ b. b && not (uses_own x.op)) (is_new_looked vars past (bound_by x.op)))
    (new_looked vars (x.op ∷ past) xs)

any_looked : (m a : ℕ) (xs : List Flat.Stmt)
    → list_any (λ (z : Flat.Stmt). is_release_at m a z.op) (looked_all xs) ≡ list_any (λ (z : Flat.Stmt). is_release_at m a z.op) xs
any_looked m a [] = refl
any_looked m a (x ∷ xs) = ap₂ (λ a b. a || b) (release_looked m a x.op) (any_looked m a xs)

lets_looked : (op : Flat.Op) (xs : List Flat.Stmt) → lets_go (answered_op op) (looked_all xs) ≡ lets_go op xs
lets_looked (Block m a) xs = any_looked m a xs
lets_looked (DelayedRead x m a) xs = refl
lets_looked (Flat.Bind x e) xs = refl
lets_looked (Flat.CombRead x m a) xs = refl
lets_looked (Flat.Write m a e) xs = refl
lets_looked (Flat.ReserveRead m a) xs = refl
lets_looked (Flat.ReserveWrite m a) xs = refl
lets_looked (Flat.Release m a) xs = refl
lets_looked (Flat.Call args) xs = refl
lets_looked (Flat.SpecCall args) xs = refl
lets_looked (Flat.Verify last args) xs = refl
lets_looked Flat.SpecCheck xs = refl
lets_looked Flat.SpecBarrier xs = refl
lets_looked (Flat.AdviceBind x e) xs = refl
lets_looked (Flat.AdviceRead x m a) xs = refl
lets_looked (Flat.AdviceWrite m a e) xs = refl

let_looked : (xs : List Flat.Stmt) → all_let_go (looked_all xs) ≡ all_let_go xs
let_looked [] = refl
let_looked (x ∷ xs) = ap₂ (λ a b. a && b) (lets_looked x.op xs) (let_looked xs)

bound_of_looked : (op : Flat.Op) → bound_of (answered_op op) ≡ bound_of op
bound_of_looked (DelayedRead y m a) = refl
bound_of_looked _ = refl

spares_looked : (args : List Flat.Expr) (xs : List Flat.Stmt)
    → list_all (λ z. not (binds_used args z.op)) (looked_all xs) ≡ list_all (λ z. not (binds_used args z.op)) xs
spares_looked args [] = refl
spares_looked args (x ∷ xs) = ap₂ (λ a b. not (is_used_by args a) && b) (bound_of_looked x.op) (spares_looked args xs)

keeps_looked : (op : Flat.Op) (xs : List Flat.Stmt) → keeps_guess (answered_op op) (looked_all xs) ≡ keeps_guess op xs
keeps_looked (Flat.SpecCall args) xs = spares_looked args xs
keeps_looked (DelayedRead x m a) xs = refl
keeps_looked (Block m a) xs = refl
keeps_looked (Flat.Bind x e) xs = refl
keeps_looked (Flat.CombRead x m a) xs = refl
keeps_looked (Flat.Write m a e) xs = refl
keeps_looked (Flat.ReserveRead m a) xs = refl
keeps_looked (Flat.ReserveWrite m a) xs = refl
keeps_looked (Flat.Release m a) xs = refl
keeps_looked (Flat.Call args) xs = refl
keeps_looked (Flat.Verify true args) xs = refl
keeps_looked (Flat.Verify false args) xs = spares_looked args xs
keeps_looked Flat.SpecCheck xs = refl
keeps_looked Flat.SpecBarrier xs = refl
keeps_looked (Flat.AdviceBind x e) xs = refl
keeps_looked (Flat.AdviceRead x m a) xs = refl
keeps_looked (Flat.AdviceWrite m a e) xs = refl

keep_looked : (xs : List Flat.Stmt) → all_keep_guess (looked_all xs) ≡ all_keep_guess xs
keep_looked [] = refl
keep_looked (x ∷ xs) = ap₂ (λ a b. a && b) (keeps_looked x.op xs) (keep_looked xs)

-- A PATH

module _ (p : Pipe) (rules : KeepsRules p) where
  -- the names that each site uses
  site_uses : (t : Site) → Here p t → Uses t.walk.vars t.stmt
  site_uses t h =
      record {
        address = λ at e. (located p rules t h at e).1;
        test = is_too_early p t.front (place_of t);
        named = λ x e. known p t.front t.walk (place_of t) x h.after h.at.named e;
        expressions =
            (or_parts (in_verify (is_too_early p t.front (place_of t)) t.stmt) _
            (or_parts (is_some_and (in_location (is_too_early p t.front (place_of t))) (location_of t.stmt)) _
            (rules N3 t.front (place_of t) h.later h.whole)).1).1;
      }

  module _ (source : is_source p ≡ true) (path : List ℕ) where
    abbrev ts : List Site
    ts = on_sites (path_of p (value p path)) (sites_of p)

    seen_is : looked_all (onpath path (flat p).stmts) ≡ seen p.mems ts
    seen_is =
        sym (path_looked path (flat p).stmts) ∙ ap (λ l. onpath path (looked_all l)) (stmts_are p)
        ∙ path_is p.mems path (path_of p (value p path)) (sites_of p) (all_alike p rules source path)

    uses : All (λ t. Uses t.walk.vars t.stmt) ts
    uses =
        all_on (λ t. Uses t.walk.vars t.stmt) (path_of p (value p path)) (sites_of p)
        (all_map (Here p) (λ t. Uses t.walk.vars t.stmt) site_uses (sites_of p) (all_here p))

    names : all_new (flat p).vars [] (onpath path (flat p).stmts) ≡ true
    names =
        sym (new_looked (flat p).vars [] (onpath path (flat p).stmts)) ∙ ap (all_new (flat p).vars []) seen_is
        ∙ sites_new (flat p).vars p.mems (params_of p.params)
        (all_vars p) ts (grows_on p.mems (path_of p (value p path)) (params_of p.params) (all_vars p) (sites_of p) (grows_all p))
        (le_refl (flat p).vars) uses [] (λ x h. absurd (false≢true h))

    guesses : all_keep_guess (onpath path (flat p).stmts) ≡ true
    guesses =
        sym (keep_looked (onpath path (flat p).stmts)) ∙ ap all_keep_guess seen_is
        ∙ sites_keep p.mems (params_of p.params) (all_vars p) ts
        (grows_on p.mems (path_of p (value p path)) (params_of p.params) (all_vars p) (sites_of p) (grows_all p)) uses

    blocks : all_let_go (onpath path (flat p).stmts) ≡ true
    blocks =
        sym (let_looked (onpath path (flat p).stmts)) ∙ ap all_let_go seen_is
        ∙ sites_let_go p p.mems (params_of p.params)
        (all_vars p) _ ts (grows_on p.mems (path_of p (value p path)) (params_of p.params) (all_vars p) (sites_of p) (grows_all p))
        (keeps_all p rules (value p path))
        (all_map (λ t. Uses t.walk.vars t.stmt)
        (λ t. (at : Location) → location_of t.stmt ≡ Some at → is_named t.walk.vars at.address.name ≡ true)
        (λ t u. u.address) ts uses)

  -- on each path of an accepted source each variable is bound anew, and the location of each block is released after it
  pub paths_strict : is_source p ≡ true → Strict (flat p)
  paths_strict source = record { names = names source; guesses = guesses source; blocks = blocks source }
