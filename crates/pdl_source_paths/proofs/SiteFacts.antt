-- What is known of each site of a source, and where on a path that leads through it the variables that it uses are bound.
use Rattle.std.proofs.Common.{◌≡◌, refl, sym, ap, ap₂, ◌∙◌, subst, ℕ, ◌≤◌, ◌<◌, ◌⊎◌, inl, inr, Bool, true, false, ◌&&◌, ◌||◌, not, List, [], ◌∷◌, ◌++◌, map, filter, length, length-append, bytes_eq, arith, ⊎_elim}
use Rattle.std.proofs.lemmas.Bool.{false≢true, and_parts, and_from, or_parts, or_cases, or_left, or_right, both_ways, not-true}
use Rattle.std.proofs.lemmas.List.Folds.{list_any-append}
use Rattle.std.specs.List.{list_any}
use Rattle.pdl_semantics.specs.Tree.{R, W, Variable, Stmt, Separator, CombRead, Bind, DelayedRead, Reserve, If, Mem, Pipe}
use Rattle.pdl_semantics.specs.Tree
use Rattle.pdl_semantics.specs.Flat
use Rattle.pdl_semantics.specs.Flat.{all_hold}
use Rattle.pdl_semantics.specs.Flatten.{Var, var_of, flat, mem_of, flat_expr, is_advisory_mem}
use Rattle.pdl_semantics.specs.Stages.{stage_at, in_stage}
use Rattle.pdl_rules.specs.Places.{Place, Parameter, Memory, Statement, Guard, places, on_path}
use Rattle.pdl_rules.specs.Parts.{is_some_and}
use Rattle.pdl_rules.specs.Limits.{is_separator}
use Rattle.pdl_rules.specs.Names.{Use, OfVariable, defines_use, name_at, is_delayed, is_given, is_parameter}
use Rattle.pdl_rules.specs.Stages.{stage_in, branches_of}
use Rattle.pdl_rules.specs.Refusal.{KeepsRules}
use Rattle.pdl_rules.proofs.SingleWrites.{bytes_sym}
use Rattle.pdl_theory_turns.specs.Scans.{binds_var, none_of}
use Rattle.pdl_theory_turns.specs.Facts.{is_fetch_of, visits_stage}
use Rattle.pdl_source_stages.proofs.Sites.{Site, sites_of, front_of, place_of, All}
use Rattle.pdl_source_stages.proofs.Walks.{names, names_by, names_append}
use Rattle.pdl_source_stages.proofs.SiteStages.{all_both, all_map}
use Rattle.pdl_source_stages.proofs.BodyShape.{body_forked}
use Rattle.pdl_source_stages.proofs.SiteFacts.{Fine, all_fine, op_of, from_op, write_none}
use Rattle.pdl_source_stages.proofs.ForkSites.{Order, Before, Same, After, order}
use Rattle.pdl_source_stages.proofs.ForkVars
use Rattle.pdl_source_stages.proofs.ForkFacts
use Rattle.pdl_source_paths.specs.Source.{begins_at, are_apart}
use Rattle.pdl_source_paths.proofs.Choices.{path_of, unbroken_on}
use Rattle.pdl_source_paths.proofs.PathStatements.{Alike, on_sites}
use Rattle.pdl_source_paths.proofs.Numbers.{is_in, var_low}
use Rattle.pdl_source_paths.proofs.Variables
use Rattle.pdl_source_paths.proofs.Variables.{all_after, named_is}
use Rattle.pdl_source_paths.proofs.Walk.{all_in_text, on_the_path, all_on}
use Rattle.pdl_source_paths.proofs.Order.{all_rise}
use Rattle.pdl_source_paths.proofs.FlatPaths.{value, all_alike, apart_before}
use Rattle.pdl_source_paths.proofs.DefinitionOrder.{IsIt, Came, Gives, came_along, off_path}
use Rattle.pdl_word.proofs.Bytes.{bytes_refl}
use Rattle.pdl_source_paths.proofs.GuessCounts.{given_any}
use Rattle.pdl_word.proofs.Lists.{some_filtered}

-- the path of the rules that these values take
abbrev pub way : Pipe → List ℕ → List Guard
way p env = path_of p (value p env)

-- a site with what stands before it, and the paths of the rules that lead through it
pub record Known (p : Pipe) (t : Site) : Type 0 where
  pub fine : Fine p t
  pub after : Variables.After p t.front
  pub low : t.walk.stage ≤ t.walk.begun
  pub alike : (env : List ℕ) → Alike env (way p env) t

-- what holds for each value
all_any : {A : Type 0} → (P : A → Site → Type 0) (ts : List Site) → ((a : A) → All (P a) ts) → All (λ t. (a : A) → P a t) ts
all_any P [] f = tt
all_any P (t ∷ ts) f = ((λ a. (f a).0), all_any P ts (λ a. (f a).1))

-- `Known` holds of each site of a source that breaks no rule, whose `if`s on expressions begin apart
pub all_known : (p : Pipe) → KeepsRules p → are_apart (places p) ≡ true → All (Known p) (sites_of p)
all_known p rules apart =
    all_both (λ t. Fine p t × Variables.After p t.front) (λ t. (t.walk.stage ≤ t.walk.begun) × ((env : List ℕ) → Alike env (way p env) t)) (Known p)
    (λ t a b. record { fine = a.0; after = a.1; low = b.0; alike = b.1 }) (sites_of p)
    (all_both (Fine p) (λ t. Variables.After p t.front) (λ t. Fine p t × Variables.After p t.front) (λ t a b. (a, b))
    (sites_of p) (all_fine p rules) (all_after p))
    (all_both (λ t. (t.walk.stage ≤ t.walk.begun) × ((m : List Place) × (t.front ≡ front_of p ++ m)))
    (λ t. (env : List ℕ) → Alike env (way p env) t)
    (λ t. (t.walk.stage ≤ t.walk.begun) × ((env : List ℕ) → Alike env (way p env) t)) (λ t a b. (a.0, b))
    (sites_of p) (ForkVars.all_low p)
    (all_any (λ env t. Alike env (way p env) t) (sites_of p) (all_alike p rules apart)))

-- a fork's stage that a path comes to has no delayed read into the fork's variable
pub fork_seen : (p : Pipe) (rules : KeepsRules p) → are_apart (places p) ≡ true → (path : List ℕ) (s x a b : ℕ) → visits_stage (flat p) path s ≡ true
    → (stage_at (flat p) s).next ≡ Flat.Forks x a b → none_of (is_fetch_of x) (in_stage s (flat p).stmts) ≡ true
fork_seen p rules apart path s x a b on e =
    ForkFacts.fork_seen p rules path
    (all_map (Known p) (λ u. all_hold u.gs path ≡ true → ForkFacts.IsOnSome p rules u)
    (λ u h t test f. (way p path, unbroken_on test p (value p path) u.front (place_of u) f (sym (h.alike path) ∙ t)))
    (sites_of p) (all_known p rules apart)) s x a b on e

-- GIVEN

-- what some places give is still given where more places follow
pub given_more : (u : Use) (xs ys : List Place) → is_given xs u ≡ true → is_given (xs ++ ys) u ≡ true
given_more u [] ys e = absurd (false≢true e)
given_more u (d ∷ ds) ys e =
    ⊎_elim
    (λ t.
    let parts = and_parts (defines_use u d) (not (is_delayed d) || list_any is_separator ds) t in
    or_left _ (is_given (ds ++ ys) u) (and_from (defines_use u d) (not (is_delayed d) || list_any is_separator (ds ++ ys)) parts.0
    (⊎_elim (λ k. or_left (not (is_delayed d)) _ k)
    (λ k. or_right (not (is_delayed d)) _ (list_any-append is_separator ds ys ∙ or_left (list_any is_separator ds) _ k))
    (or_cases (not (is_delayed d)) (list_any is_separator ds) parts.1))))
    (λ t. or_right (defines_use u d && (not (is_delayed d) || list_any is_separator (ds ++ ys))) _ (given_more u ds ys t))
    (or_cases (defines_use u d && (not (is_delayed d) || list_any is_separator ds)) (is_given ds u) e)

-- `is_given` tells with one place more what was given before, what a separator now follows, or what the place defines without delay
pub use_gives : (u : Use) → Gives (defines_use u) (λ l. is_given l u)
use_gives u [] x e =
    let some = ⊎_elim (λ t. t) (λ t. absurd (false≢true t)) (or_cases (defines_use u x && (not (is_delayed x) || false)) false e) in
    let parts = and_parts (defines_use u x) (not (is_delayed x) || false) some in
    inr (inr (parts.0, ⊎_elim (λ t. not-true (is_delayed x) t) (λ t. absurd (false≢true t)) (or_cases (not (is_delayed x)) false parts.1)))
use_gives u (d ∷ ds) x e =
    ⊎_elim
    (λ t.
    let parts = and_parts (defines_use u d) (not (is_delayed d) || list_any is_separator (ds ++ x ∷ [])) t in
    ⊎_elim
    (λ k. inl (or_left _ (is_given ds u) (and_from (defines_use u d) _ parts.0 (or_left (not (is_delayed d)) _ k))))
    (λ k.
    ⊎_elim
    (λ l. inl (or_left _ (is_given ds u) (and_from (defines_use u d) _ parts.0 (or_right (not (is_delayed d)) _ l))))
    (λ l. inr (inl (⊎_elim (λ m. m) (λ m. absurd (false≢true m)) (or_cases (is_separator x) false l), or_left (defines_use u d) _ parts.0)))
    (or_cases (list_any is_separator ds) (is_separator x || false) (sym (list_any-append is_separator ds (x ∷ [])) ∙ k)))
    (or_cases (not (is_delayed d)) _ parts.1))
    (λ t. again (use_gives u ds x t))
    (or_cases (defines_use u d && (not (is_delayed d) || list_any is_separator (ds ++ x ∷ []))) (is_given (ds ++ x ∷ []) u) e)
  where
    again : (is_given ds u ≡ true) ⊎ (((is_separator x ≡ true) × (list_any (defines_use u) ds ≡ true)) ⊎ ((defines_use u x ≡ true) × (is_delayed x ≡ false)))
        → (is_given (d ∷ ds) u ≡ true)
        ⊎ (((is_separator x ≡ true) × (list_any (defines_use u) (d ∷ ds) ≡ true)) ⊎ ((defines_use u x ≡ true) × (is_delayed x ≡ false)))
    again (inl t) = inl (or_right (defines_use u d && (not (is_delayed d) || list_any is_separator ds)) _ t)
    again (inr (inl t)) = inr (inl (t.0, or_right (defines_use u d) _ t.1))
    again (inr (inr t)) = inr (inr t)

-- a separator defines nothing
cuts_none : (n : List ℕ) (x : Place) → is_separator x ≡ true → defines_use (OfVariable n) x ≡ false
cuts_none n (Statement (Separator sp) bs) e = refl
cuts_none n (Statement s bs) e = absurd (false≢true e)
cuts_none n (Parameter a) e = absurd (false≢true e)
cuts_none n _ e = refl

cuts_own : (n : ℕ) (x : Place) → is_separator x ≡ true → begins_at n x ≡ false
cuts_own n (Statement (Separator sp) bs) e = refl
cuts_own n (Statement s bs) e = absurd (false≢true e)
cuts_own n _ e = refl

-- WHAT A SITE BINDS

-- a statement whose flat form binds a variable adds one name, which it defines unless that is empty
pub bound_name : (ms : List Mem) (vs : List Var) (s : Stmt) (i : ℕ)
    → from_op (binds_var i) (op_of ms vs s) ≡ true
    → (n : List ℕ) × (names_by s ≡ n ∷ [])
    × ((m : List ℕ) → bytes_eq n m ≡ true → bytes_eq [] m ≡ false → defines_use (OfVariable m) (Statement s []) ≡ true)
bound_name ms vs (CombRead sp y l) i e = (y.name, refl, λ m f g. bytes_sym y.name m f)
bound_name ms vs (Bind sp y v) i e = (y.name, refl, λ m f g. bytes_sym y.name m f)
bound_name ms vs (DelayedRead sp y l) i e = (y.name, refl, λ m f g. bytes_sym y.name m f)
bound_name ms vs (If sp (Variable y) when otherwise) i e = absurd (false≢true e)
bound_name ms vs (If sp c when otherwise) i e = ([], refl, λ m f g. absurd (both_ways (bytes_eq [] m) g f))
bound_name ms vs (Reserve sp l R) i e = absurd (false≢true e)
bound_name ms vs (Reserve sp l W) i e = absurd (false≢true e)
bound_name ms vs (Tree.Write sp l v) i e =
    absurd
    (false≢true (sym (write_none (binds_var i) (is_advisory_mem ms l.mem.name) (mem_of ms l.mem.name) (var_of vs l.address.name) (flat_expr vs v) refl refl)
    ∙ e))
bound_name ms vs _ i e = absurd (false≢true e)

-- the site y is bound on the path, in a stage no later, and in an earlier one where it is a delayed read
abbrev pub Bounds : List ℕ → Site → Site → Type 0
Bounds env y t = (y.walk.stage ≤ t.walk.stage) × (all_hold y.gs env ≡ true) × (is_delayed (place_of y) ≡ true → y.walk.stage < t.walk.stage)

-- the values of a path, and a site that binds this name
pub record Defined (p : Pipe) : Type 0 where
  pub env : List ℕ
  pub name : List ℕ
  pub by : Site
  pub known : Known p by
  pub it : defines_use (OfVariable name) (place_of by) ≡ true

-- the values of a path, and a site that is an `if` on an expression which begins at this byte
pub record Owner (p : Pipe) : Type 0 where
  pub env : List ℕ
  pub start : ℕ
  pub by : Site
  pub known : Known p by
  pub it : begins_at start (place_of by) ≡ true

-- where a path gives a name at this site, what defines it stands on the path, in a stage no later
abbrev pub Settled : Pipe → Site → Type 0
Settled p t =
    (d : Defined p) → is_separator (place_of t) ≡ false → all_hold t.gs d.env ≡ true
    → is_given (filter (on_path (way p d.env)) t.front) (OfVariable d.name) ≡ true → Bounds d.env d.by t

-- an `if` on an expression that a path comes to before this site stands on it, in a stage no later
abbrev pub Owned : Pipe → Site → Type 0
Owned p t =
    (d : Owner p) → is_separator (place_of t) ≡ false → all_hold t.gs d.env ≡ true
    → list_any (begins_at d.start) (filter (on_path (way p d.env)) t.front) ≡ true
    → (d.by.walk.stage ≤ t.walk.stage) × (all_hold d.by.gs d.env ≡ true)

module _ (p : Pipe) (rules : KeepsRules p) where
  -- as many variables stand before a site as the places before it add names
  pub long : (t : Site) → Known p t → length t.walk.vars ≡ length (names t.front)
  long t h = sym (ForkVars.told_long t.walk.vars) ∙ ap length h.fine.here.named

  -- two sites with one place and the same places before them stand in one stage
  pub same_stage : (x y : Site) → Known p x → Known p y → x.front ≡ y.front → place_of x ≡ place_of y → x.walk.stage ≡ y.walk.stage
  same_stage x y h k e f = sym h.fine.staged ∙ ap₂ stage_in e (ap branches_of f) ∙ k.fine.staged

  not_before : (x y : Site) (n : List ℕ) (m : List Place) → Known p y → defines_use (OfVariable n) (place_of x) ≡ true
      → defines_use (OfVariable n) (place_of y) ≡ true → y.front ≡ x.front ++ place_of x ∷ m → ⊥
  not_before x y n m k e f g =
      both_ways (list_any (λ z. is_some_and (bytes_eq n) (name_at z)) y.front)
      (ForkVars.once_before p rules n y.front (place_of y) k.fine.later k.fine.whole (ForkVars.variable_name n (place_of y) f))
      (ap (list_any (λ z. is_some_and (bytes_eq n) (name_at z))) g ∙ list_any-append (λ z. is_some_and (bytes_eq n) (name_at z)) x.front (place_of x ∷ m)
      ∙ or_right _ _
      (or_left (is_some_and (bytes_eq n) (name_at (place_of x))) _
      (ap (is_some_and (bytes_eq n)) (ForkVars.variable_name n (place_of x) e) ∙ bytes_refl n)))

  -- N2: a name is defined once
  once : (n : List ℕ) (x y : Site) → Known p x → Known p y → defines_use (OfVariable n) (place_of y) ≡ true → IsIt (defines_use (OfVariable n)) y x
  once n x y h k f e = at (order p x y h.fine k.fine)
    where
      at : Order x y → (x.walk.stage ≡ y.walk.stage) × (place_of x ≡ place_of y)
      at (Before m g) = absurd (not_before x y n m k e f g)
      at (Same g i) = (same_stage x y h k g i, i)
      at (After m g) = absurd (not_before y x n m h f e g)

  none_front : (n : List ℕ) (y : Site) → Known p y → defines_use (OfVariable n) (place_of y) ≡ true → list_any (defines_use (OfVariable n)) (front_of p) ≡ false
  none_front n y k f =
      (or_parts (list_any (defines_use (OfVariable n)) (front_of p)) (list_any (defines_use (OfVariable n)) k.after.0)
      (sym (list_any-append (defines_use (OfVariable n)) (front_of p) k.after.0) ∙ sym (ap (list_any (defines_use (OfVariable n))) k.after.1)
      ∙ ForkVars.no_name p rules n y.front
      (ForkVars.once_before p rules n y.front (place_of y) k.fine.later k.fine.whole (ForkVars.variable_name n (place_of y) f))
      (bytes_refl n))).0

  -- the name of a variable that a site defines is no parameter's
  pub no_parameter : (n : List ℕ) (y : Site) → Known p y → defines_use (OfVariable n) (place_of y) ≡ true → is_parameter p n ≡ false
  no_parameter n y k f = at (is_parameter p n) refl
    where
      at : (b : Bool) → is_parameter p n ≡ b → b ≡ false
      at false e = refl
      at true e =
          absurd (both_ways (list_any (defines_use (OfVariable n)) (front_of p)) (none_front n y k f)
          (list_any-append (defines_use (OfVariable n)) (map Parameter p.params) (map Memory p.mems) ∙ or_left _ _ (ForkFacts.any_param n p.params e)))

  -- of two `if`s on expressions that begin at one byte the second is the first
  own_once : are_apart (places p) ≡ true → (n : ℕ) (x y : Site) → Known p x → Known p y → begins_at n (place_of y) ≡ true → IsIt (begins_at n) y x
  own_once apart n x y h k f e = at (order p x y h.fine k.fine)
    where
      twice : (u w : Site) → (m : List Place) → Known p w → begins_at n (place_of u) ≡ true
          → begins_at n (place_of w) ≡ true → w.front ≡ u.front ++ place_of u ∷ m → ⊥
      twice u w m j i l g =
          both_ways (list_any (begins_at n) w.front)
          (apart_before n w.front j.fine.later (place_of w) (subst (λ z. are_apart z ≡ true) j.fine.whole apart) l)
          (ap (list_any (begins_at n)) g ∙ list_any-append (begins_at n) u.front (place_of u ∷ m) ∙ or_right _ _ (or_left (begins_at n (place_of u)) _ i))

      at : Order x y → (x.walk.stage ≡ y.walk.stage) × (place_of x ≡ place_of y)
      at (Before m g) = absurd (twice x y m k e f g)
      at (Same g i) = (same_stage x y h k g i, i)
      at (After m g) = absurd (twice y x m h f e g)

  none_own : (n : ℕ) → list_any (begins_at n) (front_of p) ≡ false
  none_own n = list_any-append (begins_at n) (map Parameter p.params) (map Memory p.mems) ∙ ap₂ (λ a b. a || b) (params p.params) (mems p.mems)
    where
      params : (xs : List Tree.Param) → list_any (begins_at n) (map Parameter xs) ≡ false
      params [] = refl
      params (x ∷ xs) = params xs

      mems : (xs : List Mem) → list_any (begins_at n) (map Memory xs) ≡ false
      mems [] = refl
      mems (x ∷ xs) = mems xs

  module _ (apart : are_apart (places p) ≡ true) where
    -- at each site, what defines a name that a path gives there stands on that path, in a stage no later
    pub all_settled : All (Settled p) (sites_of p)
    all_settled =
        all_any
        (λ (d : Defined p) t. is_separator (place_of t) ≡ false → all_hold t.gs d.env ≡ true
        → is_given (filter (on_path (way p d.env)) t.front) (OfVariable d.name) ≡ true → Bounds d.env d.by t)
        (sites_of p) one
      where
        one : (d : Defined p)
            → All
            (λ t. is_separator (place_of t) ≡ false → all_hold t.gs d.env ≡ true
            → is_given (filter (on_path (way p d.env)) t.front) (OfVariable d.name) ≡ true → Bounds d.env d.by t)
            (sites_of p)
        one d =
            all_both (Known p)
            (λ t. on_path (way p d.env) (place_of t) ≡ true → is_separator (place_of t) ≡ false
            → Came (way p d.env) (defines_use (OfVariable d.name))
            (λ l. is_given l (OfVariable d.name)) d.by t.walk.stage (filter (on_path (way p d.env)) t.front))
            (λ t. is_separator (place_of t) ≡ false → all_hold t.gs d.env ≡ true
            → is_given (filter (on_path (way p d.env)) t.front) (OfVariable d.name) ≡ true → Bounds d.env d.by t)
            (λ t h k e f g.
            let came = k (sym (h.alike d.env) ∙ f) e in
            let r = came.0 (given_any (OfVariable d.name) (filter (on_path (way p d.env)) t.front) g) in
            (r.0, d.known.alike d.env ∙ r.1, came.1 g)) (sites_of p) (all_known p rules apart)
            (off_path
            (λ t. is_separator (place_of t) ≡ false
            → Came (way p d.env) (defines_use (OfVariable d.name))
            (λ l. is_given l (OfVariable d.name)) d.by t.walk.stage (filter (on_path (way p d.env)) t.front))
            (way p d.env) (sites_of p)
            (came_along (way p d.env) (defines_use (OfVariable d.name))
            (λ l. is_given l (OfVariable d.name)) d.by (cuts_none d.name)
            (use_gives (OfVariable d.name)) 0 _ (filter (on_path (way p d.env)) (front_of p))
            (on_sites (way p d.env) (sites_of p)) (all_rise p (way p d.env) (body_forked p rules))
            (on_the_path (way p d.env) (front_of p) (sites_of p) (all_in_text p))
            (all_on (IsIt (defines_use (OfVariable d.name)) d.by) (way p d.env) (sites_of p)
            (all_map (Known p) (IsIt (defines_use (OfVariable d.name)) d.by)
            (λ x h. once d.name x d.by h d.known d.it) (sites_of p) (all_known p rules apart)))
            ((λ e. absurd (none e)), λ e f. absurd (none (given_any (OfVariable d.name) (filter (on_path (way p d.env)) (front_of p)) e)))))
          where
            none : list_any (defines_use (OfVariable d.name)) (filter (on_path (way p d.env)) (front_of p)) ≡ true → ⊥
            none e =
                both_ways (list_any (defines_use (OfVariable d.name)) (front_of p))
                (none_front d.name d.by d.known d.it)
                (some_filtered (defines_use (OfVariable d.name)) (on_path (way p d.env)) (front_of p) e)

    -- at each site, an `if` on an expression that a path comes to before stands on that path, in a stage no later
    pub all_owned : All (Owned p) (sites_of p)
    all_owned =
        all_any
        (λ (d : Owner p) t. is_separator (place_of t) ≡ false → all_hold t.gs d.env ≡ true
        → list_any (begins_at d.start) (filter (on_path (way p d.env)) t.front) ≡ true
        → (d.by.walk.stage ≤ t.walk.stage) × (all_hold d.by.gs d.env ≡ true))
        (sites_of p) one
      where
        one : (d : Owner p)
            → All
            (λ t. is_separator (place_of t) ≡ false → all_hold t.gs d.env ≡ true
            → list_any (begins_at d.start) (filter (on_path (way p d.env)) t.front) ≡ true
            → (d.by.walk.stage ≤ t.walk.stage) × (all_hold d.by.gs d.env ≡ true))
            (sites_of p)
        one d =
            all_both (Known p)
            (λ t. on_path (way p d.env) (place_of t) ≡ true → is_separator (place_of t) ≡ false
            → Came (way p d.env) (begins_at d.start) (λ l. false) d.by t.walk.stage (filter (on_path (way p d.env)) t.front))
            (λ t. is_separator (place_of t) ≡ false → all_hold t.gs d.env ≡ true
            → list_any (begins_at d.start) (filter (on_path (way p d.env)) t.front) ≡ true
            → (d.by.walk.stage ≤ t.walk.stage) × (all_hold d.by.gs d.env ≡ true))
            (λ t h k e f g. let r = (k (sym (h.alike d.env) ∙ f) e).0 g in (r.0, d.known.alike d.env ∙ r.1)) (sites_of p) (all_known p rules apart)
            (off_path
            (λ t. is_separator (place_of t) ≡ false
            → Came (way p d.env) (begins_at d.start) (λ l. false) d.by t.walk.stage (filter (on_path (way p d.env)) t.front))
            (way p d.env) (sites_of p)
            (came_along (way p d.env) (begins_at d.start) (λ l. false) d.by (cuts_own d.start)
            (λ earlier x e. absurd (false≢true e)) 0 _ (filter (on_path (way p d.env)) (front_of p))
            (on_sites (way p d.env) (sites_of p)) (all_rise p (way p d.env) (body_forked p rules))
            (on_the_path (way p d.env) (front_of p) (sites_of p) (all_in_text p))
            (all_on (IsIt (begins_at d.start) d.by) (way p d.env) (sites_of p)
            (all_map (Known p) (IsIt (begins_at d.start) d.by) (λ x h. own_once apart d.start x d.by h d.known d.it)
            (sites_of p) (all_known p rules apart)))
            ((λ e. absurd (none e)), λ e f. absurd (false≢true e))))
          where
            none : list_any (begins_at d.start) (filter (on_path (way p d.env)) (front_of p)) ≡ true → ⊥
            none e =
                both_ways (list_any (begins_at d.start) (front_of p)) (none_own d.start)
                (some_filtered (begins_at d.start) (on_path (way p d.env)) (front_of p) e)

  -- NUMBERS AND NAMES

  -- what binds the number of a name that stands before a site has the name, and stands before it
  pub number_name : (t y : Site) → Known p t → Known p y → (n : List ℕ) → is_in (names t.front) n ≡ true
      → bytes_eq [] n ≡ false → from_op (binds_var (var_of t.walk.vars n)) (op_of p.mems y.walk.vars y.stmt) ≡ true
      → defines_use (OfVariable n) (place_of y) ≡ true
  number_name t y h k n there some e = at (order p y t k.fine h.fine)
    where
      r : (m : List ℕ) × (names_by y.stmt ≡ m ∷ [])
          × ((o : List ℕ) → bytes_eq m o ≡ true → bytes_eq [] o ≡ false → defines_use (OfVariable o) (Statement y.stmt []) ≡ true)
      r = bound_name p.mems y.walk.vars y.stmt (var_of t.walk.vars n) e

      number : length y.walk.vars ≡ var_of t.walk.vars n
      number = ForkVars.bound_last p.mems y.walk.vars y.stmt (var_of t.walk.vars n) e

      low : var_of t.walk.vars n < length t.walk.vars
      low = var_low t.walk.vars n (named_is t.front t.walk n h.fine.here.named ∙ there)

      at : Order y t → defines_use (OfVariable n) (place_of y) ≡ true
      at (Before m f) =
          r.2 n
          (ForkVars.named_at t.walk.vars n r.0 (names y.front) (names m)
          (h.fine.here.named ∙ ap names f ∙ names_append y.front (place_of y ∷ m) ∙ ap (λ l. names y.front ++ (l ++ names m)) r.1)
          (sym number ∙ long y k)) some
      at (Same f g) = absurd (let a = long t h in let b = long y k in let c = ap (λ l. length (names l)) f in let d = number in let l = low in omega arith)
      at (After m f) =
          absurd (
          let a = long t h in
          let b = long y k in
          let c = ap length (ap names f ∙ names_append t.front (place_of t ∷ m)) in
          let s = length-append (names t.front) (names (place_of t ∷ m)) in
          let d = number in
          let l = low in
          omega arith)
