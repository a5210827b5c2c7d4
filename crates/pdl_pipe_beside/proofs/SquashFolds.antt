-- Bits of V and U together are those of the stages that may squash.
use Rattle.std.proofs.Common.{◌≡◌, refl, sym, ap, ap₂, ◌∙◌, ℕ, ◌<◌, ◌==◌, Bool, true, false, List, [], ◌∷◌, ◌++◌, Option, Some, None, cond, arith}
use Rattle.std.specs.Prelude.{if◌then◌else◌, filter}
use Rattle.std.proofs.lemmas.Bool.{ne_eqb}
use Rattle.pdl_word.proofs.Numbers.{eqb_self}
use Rattle.pdl_semantics.specs.Flat.{Stmt, Pipe}
use Rattle.pdl_semantics.specs.Stages.{verify_stage}
use Rattle.pdl_semantics.specs.Updates.{update_stage, listed, squash_stages}
use Rattle.pdl_semantics.specs.Cycle.{merges_by}
use Rattle.pdl_semantics.proofs.SquashStages.{update_before, never_update}
use Rattle.pdl_net.specs.Signal.{Signal, mux_signal}
use Rattle.pdl_law_parts.specs.Walk.{one, zero_bit}
use Rattle.pdl_law_sides.specs.Sides.{any_of, emptied_by}
use Rattle.pdl_pipe_beside.specs.Squashed.{by_stage, either, passes}

-- V has the first of two
pub verify_has : {X : Type 0} (o : Option ℕ) (v : ℕ) (f g : X) → o ≡ Some v → by_stage o f g v ≡ f
verify_has o v f g e = ap (λ i. by_stage i f g v) e ∙ ap (λ b. if b then f else g) (eqb_self v)

-- and each stage before it the second one
pub update_has : {X : Type 0} (o : Option ℕ) (v u : ℕ) (f g : X) → o ≡ Some v → u < v → by_stage o f g u ≡ g
update_has o v u f g e l = ap (λ i. by_stage i f g u) e ∙ ap (λ b. if b then f else g) (ne_eqb u v (λ i. omega (arith, i, l)))

-- of the same bits one is 1 alike
pub any_as : (zs : List ℕ) (f g : ℕ → Signal) → ((z : ℕ) → f z ≡ g z) → any_of zs f ≡ any_of zs g
any_as [] f g h = refl
any_as (z ∷ []) f g h = h z
any_as (z ∷ y ∷ zs) f g h = ap₂ (λ x w. mux_signal x one w) (h z) (any_as (y ∷ zs) f g h)

two : (o e : Option ℕ) (test : ℕ → Bool) (f g : Signal) → ((u v : ℕ) → e ≡ Some u → o ≡ Some v → u < v)
    → any_of (filter test (listed o ++ listed e)) (by_stage o f g) ≡ either (passes test o) (passes test e) f g
two None None test f g h = refl
two None (Some u) test f g h = at (test u)
  where
    at : (b : Bool) → any_of (cond b (u ∷ []) []) (by_stage None f g) ≡ either false b f g
    at true = refl
    at false = refl
two (Some v) None test f g h = at (test v)
  where
    at : (b : Bool) → any_of (cond b (v ∷ []) []) (by_stage (Some v) f g) ≡ either b false f g
    at true = verify_has (Some v) v f g refl
    at false = refl
two (Some v) (Some u) test f g h = at (test v) (test u)
  where
    at : (b c : Bool) → any_of (cond b (v ∷ cond c (u ∷ []) []) (cond c (u ∷ []) [])) (by_stage (Some v) f g) ≡ either b c f g
    at true true = ap₂ (λ x y. mux_signal x one y) (verify_has (Some v) v f g refl) (update_has (Some v) v u f g refl (h u v refl refl))
    at true false = verify_has (Some v) v f g refl
    at false true = update_has (Some v) v u f g refl (h u v refl refl)
    at false false = refl

-- whether one of the stages that pass a test has a bit that is 1, by those of V and U
pub any_two : (xs : List Stmt) (test : ℕ → Bool) (f g : Signal)
    → any_of (filter test (squash_stages xs)) (by_stage (verify_stage xs) f g) ≡ either (passes test (verify_stage xs)) (passes test (update_stage xs)) f g
any_two xs test f g = two (verify_stage xs) (update_stage xs) test f g (update_before xs)

merges : (p : Pipe) (f : ℕ) (o : Option ℕ) → passes (λ z. merges_by p f (Some z)) o ≡ merges_by p f o
merges p f None = refl
merges p f (Some z) = refl

-- a squash empties an order by V or by U, as far as the fork merges by then
pub emptied_is : (p : Pipe) (f : ℕ) (x y : Signal)
    → either (merges_by p f (verify_stage p.stmts)) (merges_by p f (update_stage p.stmts)) x y
    ≡ emptied_by p f (squash_stages p.stmts) (by_stage (verify_stage p.stmts) x y)
emptied_is p f x y =
    sym
    (any_two p.stmts (λ z. merges_by p f (Some z)) x y
    ∙ ap₂ (λ b c. either b c x y) (merges p f (verify_stage p.stmts)) (merges p f (update_stage p.stmts)))

-- without a stage that may squash there is no bit that is 1
pub any_none : (xs : List Stmt) (f : ℕ → Signal) → verify_stage xs ≡ None → any_of (squash_stages xs) f ≡ zero_bit
any_none xs f e = ap₂ (λ o i. any_of (listed o ++ listed i) f) e (never_update xs e)

-- V alone has its own bit
pub any_verify : (xs : List Stmt) (v : ℕ) (f g : Signal) → verify_stage xs ≡ Some v → update_stage xs ≡ None
    → any_of (squash_stages xs) (by_stage (verify_stage xs) f g) ≡ f
any_verify xs v f g e none =
    ap₂ (λ o i. any_of (listed o ++ listed i) (by_stage (verify_stage xs) f g)) e none ∙ verify_has (verify_stage xs) v f g e

-- with U either has a bit that is 1
pub any_both : (xs : List Stmt) (v u : ℕ) (f g : Signal) → verify_stage xs ≡ Some v → update_stage xs ≡ Some u
    → any_of (squash_stages xs) (by_stage (verify_stage xs) f g) ≡ mux_signal f one g
any_both xs v u f g e i =
    ap₂ (λ o j. any_of (listed o ++ listed j) (by_stage (verify_stage xs) f g)) e i
    ∙ ap₂ (λ x y. mux_signal x one y) (verify_has (verify_stage xs) v f g e) (update_has (verify_stage xs) v u f g e (update_before xs u v i e))
