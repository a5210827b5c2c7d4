-- The stages of the sites of a source that breaks no rule: those of its reserves, its releases and its verifies, and the reads before the releases.
use Rattle.std.proofs.Common.{◌≡◌, refl, sym, ap, ap₂, ◌∙◌, ℕ, ◌⊎◌, inl, inr, Bool, true, false, ◌&&◌, ◌||◌, not, List, [], ◌∷◌, ◌++◌, map, if◌then◌else◌, ◌==◌, Some, None, append_assoc, append-nil}
use Rattle.std.proofs.lemmas.Bool.{false≢true, and_parts, and_from, or_parts, eqb-true}
use Rattle.std.specs.List.{list_any}
use Rattle.pdl_semantics.specs.Tree.{Mem}
use Rattle.pdl_semantics.specs.Flat
use Rattle.pdl_semantics.specs.Stages.{is_verify, verify_stage}
use Rattle.pdl_rules.specs.Places.{Place}
use Rattle.pdl_rules.specs.Stages.{stage_in, stage_of, first_stage, stages_that}
use Rattle.pdl_theory_turns.specs.Scans.{none_of, all_at}
use Rattle.pdl_source_stages.proofs.Sites.{Site, place_of, own, owns, All}
use Rattle.pdl_source_stages.proofs.StatementStages.{Staged}
use Rattle.pdl_source_paths.proofs.PathStatements.{ops, stmts_at, own_is}
use Rattle.pdl_source_paths.proofs.Walk.{InText}

-- FROM THE FLAT STATEMENTS TO THE SITES

all_append : (test : Flat.Op → Bool) (s : ℕ) (xs ys : List Flat.Stmt) → all_at test s (xs ++ ys) ≡ (all_at test s xs && all_at test s ys)
all_append test s [] ys = refl
all_append test s (x ∷ xs) ys =
    ap (λ b. (not (test x.op) || (x.stage == s)) && b) (all_append test s xs ys)
    ∙ assoc (not (test x.op) || (x.stage == s)) (all_at test s xs) (all_at test s ys)
  where
    assoc : (a b c : Bool) → (a && (b && c)) ≡ ((a && b) && c)
    assoc true b c = refl
    assoc false b c = refl

-- one of some operations passes the test
abbrev pub some_op : (Flat.Op → Bool) → List Flat.Op → Bool
some_op test [] = false
some_op test (op ∷ os) = test op || some_op test os

stage_ops : (test : Flat.Op → Bool) (s k : ℕ) (gs : List Flat.Guard) (os : List Flat.Op)
    → all_at test s (stmts_at k gs os) ≡ true → some_op test os ≡ true → k ≡ s
stage_ops test s k gs [] h e = absurd (false≢true e)
stage_ops test s k gs (op ∷ os) h e =
    at (test op) refl (and_parts (not (test op) || (k == s)) (all_at test s (stmts_at k gs os)) h) e (stage_ops test s k gs os)
  where
    at : (b : Bool) → test op ≡ b → ((not (test op) || (k == s)) ≡ true) × (all_at test s (stmts_at k gs os) ≡ true)
        → (test op || some_op test os) ≡ true
        → (all_at test s (stmts_at k gs os) ≡ true → some_op test os ≡ true → k ≡ s) → k ≡ s
    at true f p i r = eqb-true k s (sym (ap (λ b. not b || (k == s)) f) ∙ p.0)
    at false f p i r = r p.1 (sym (ap (λ b. b || some_op test os) f) ∙ i)

-- each site with an operation of a kind stands in stage s where all flat statements of that kind do
pub all_sited : (test : Flat.Op → Bool) (s : ℕ) (ms : List Mem) (ts : List Site)
    → all_at test s (owns ms ts) ≡ true → All (λ t. some_op test (ops ms t) ≡ true → t.walk.stage ≡ s) ts
all_sited test s ms [] h = tt
all_sited test s ms (t ∷ ts) h =
    let parts = and_parts (all_at test s (own ms t)) (all_at test s (owns ms ts)) (sym (all_append test s (own ms t) (owns ms ts)) ∙ h) in
    (stage_ops test s t.walk.stage t.gs (ops ms t) (ap (all_at test s) (sym (own_is ms t.gs t.walk t.stmt)) ∙ parts.0), all_sited test s ms ts parts.1)

-- THE FIRST OF A KIND, BY THE RULES

first_not : (test : Place → Bool) (before xs : List Place) (x : Place)
    → test x ≡ false → first_stage test before (x ∷ xs) ≡ first_stage test (before ++ x ∷ []) xs
first_not test before xs x e = ap (λ b. if b then Some (stage_of before x) else first_stage test (before ++ x ∷ []) xs) e

-- the first place that passes a test is looked for after places that fail it
pub first_skip : (test : Place → Bool) (before xs ys : List Place)
    → list_any test xs ≡ false → first_stage test before (xs ++ ys) ≡ first_stage test (before ++ xs) ys
first_skip test before [] ys e = ap (λ l. first_stage test l ys) (sym (append-nil before))
first_skip test before (x ∷ xs) ys e =
    let parts = or_parts (test x) (list_any test xs) e in
    first_not test before (xs ++ ys) x parts.0 ∙ first_skip test (before ++ x ∷ []) xs ys parts.1
    ∙ ap (λ l. first_stage test l ys) (append_assoc before (x ∷ []) xs)

-- where all sites of a kind stand in one stage, the first one stands there, if there is one
pub first_sited : (test : Place → Bool) (s : ℕ) (before last : List Place) (ts : List Site) → InText before ts
    → All Staged ts → All (λ t. test (place_of t) ≡ true → t.walk.stage ≡ s) ts
    → ((front : List Place) → first_stage test front last ≡ None)
    → ((first_stage test before (map place_of ts ++ last) ≡ None) × (list_any test (map place_of ts) ≡ false))
    ⊎ (first_stage test before (map place_of ts ++ last) ≡ Some s)
first_sited test s before last [] i h k e = inl (e before, refl)
first_sited test s before last (t ∷ ts) i h k e = at (test (place_of t)) refl (first_sited test s (before ++ place_of t ∷ []) last ts i.1 h.1 k.1 e)
  where
    at : (b : Bool) → test (place_of t) ≡ b
        → ((first_stage test (before ++ place_of t ∷ []) (map place_of ts ++ last) ≡ None) × (list_any test (map place_of ts) ≡ false))
        ⊎ (first_stage test (before ++ place_of t ∷ []) (map place_of ts ++ last) ≡ Some s)
        → ((first_stage test before (place_of t ∷ (map place_of ts ++ last)) ≡ None) × (list_any test (place_of t ∷ map place_of ts) ≡ false))
        ⊎ (first_stage test before (place_of t ∷ (map place_of ts ++ last)) ≡ Some s)
    at true f r =
        inr (ap (λ b. if b then Some (stage_of before (place_of t)) else first_stage test (before ++ place_of t ∷ []) (map place_of ts ++ last)) f
        ∙ ap Some (ap (λ l. stage_in l t.branches) (sym i.0) ∙ h.0 ∙ k.0 f))
    at false f (inl r) = inl (first_not test before (map place_of ts ++ last) (place_of t) f ∙ r.0, ap₂ (λ a b. a || b) f r.1)
    at false f (inr r) = inr (first_not test before (map place_of ts ++ last) (place_of t) f ∙ r)

-- each of a kind stands there
pub each_sited : (test : Place → Bool) (s : ℕ) (before last : List Place) (ts : List Site) → InText before ts
    → All Staged ts → All (λ t. test (place_of t) ≡ true → t.walk.stage ≡ s) ts
    → ((front : List Place) → stages_that test front last ≡ []) → (v : ℕ) (rest : List ℕ)
    → stages_that test before (map place_of ts ++ last) ≡ v ∷ rest → v ≡ s
each_sited test s before last [] i h k e v rest f = absurd (nothing (sym (e before) ∙ f))
  where
    nothing : [] ≡ v ∷ rest → ⊥
    nothing g = cc g
each_sited test s before last (t ∷ ts) i h k e v rest f =
    at (test (place_of t)) refl f (each_sited test s (before ++ place_of t ∷ []) last ts i.1 h.1 k.1 e v rest)
  where
    head : ℕ → List ℕ → ℕ
    head d [] = d
    head d (x ∷ xs) = x

    at : (b : Bool) → test (place_of t) ≡ b
        → (if b then stage_of before (place_of t)
        ∷ stages_that test (before ++ place_of t ∷ []) (map place_of ts ++ last) else stages_that test (before ++ place_of t ∷ []) (map place_of ts ++ last))
        ≡ v ∷ rest
        → (stages_that test (before ++ place_of t ∷ []) (map place_of ts ++ last) ≡ v ∷ rest → v ≡ s) → v ≡ s
    at true g j r = sym (front j) ∙ ap (λ l. stage_in l t.branches) (sym i.0) ∙ h.0 ∙ k.0 g
      where
        front : stage_of before (place_of t) ∷ stages_that test (before ++ place_of t ∷ []) (map place_of ts ++ last) ≡ v ∷ rest
            → stage_of before (place_of t) ≡ v
        front z = cc z
    at false g j r = r j

-- WITHOUT ANY

-- no statement of two lists passes a test that none of either passes
pub none_append : (test : Flat.Op → Bool) (xs ys : List Flat.Stmt)
    → none_of test xs ≡ true → none_of test ys ≡ true → none_of test (xs ++ ys) ≡ true
none_append test [] ys h i = i
none_append test (x ∷ xs) ys h i = let parts = and_parts (not (test x.op)) (none_of test xs) h in and_from _ _ parts.0 (none_append test xs ys parts.1 i)

none_ops : (test : Flat.Op → Bool) (k : ℕ) (gs : List Flat.Guard) (os : List Flat.Op)
    → some_op test os ≡ false → none_of test (stmts_at k gs os) ≡ true
none_ops test k gs [] h = refl
none_ops test k gs (op ∷ os) h = let parts = or_parts (test op) (some_op test os) h in and_from _ _ (ap not parts.0) (none_ops test k gs os parts.1)

-- no flat statement passes a test that no operation of a site passes
pub none_sited : (test : Flat.Op → Bool) (ms : List Mem) (ts : List Site)
    → All (λ t. some_op test (ops ms t) ≡ false) ts → none_of test (owns ms ts) ≡ true
none_sited test ms [] h = refl
none_sited test ms (t ∷ ts) h =
    none_append test (own ms t) (owns ms ts)
    (ap (none_of test) (own_is ms t.gs t.walk t.stmt) ∙ none_ops test t.walk.stage t.gs (ops ms t) h.0)
    (none_sited test ms ts h.1)

-- V, where there is a verify
pub no_verifies : (xs : List Flat.Stmt) → verify_stage xs ≡ None → none_of is_verify xs ≡ true
no_verifies [] e = refl
no_verifies (x ∷ xs) e = at (is_verify x.op) e (no_verifies xs)
  where
    at : (b : Bool) → (if b then Some x.stage else verify_stage xs) ≡ None
        → (verify_stage xs ≡ None → none_of is_verify xs ≡ true) → (not b && none_of is_verify xs) ≡ true
    at true f g = absurd (some f)
      where
        some : Some x.stage ≡ None → ⊥
        some z = cc z
    at false f g = g f
