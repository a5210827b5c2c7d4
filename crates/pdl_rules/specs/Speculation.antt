-- Guesses: rules S2 to S7. V is the stage of the first `verify` in the text.
use Rattle.std.specs.Prelude.{ℕ, Bool, true, false, not, ◌&&◌, ◌||◌, ◌==◌, nat_lt, List, [], ◌∷◌, bytes_eq, Option}
use Rattle.std.specs.List.{list_any}
use Rattle.pdl_semantics.specs.Tree.{W, Stmt, Separator, CombRead, Bind, SpecCall, DelayedRead, Write, Reserve, Block, Release, If, Call, Verify, Update, SpecCheck, SpecBarrier, Pipe}
use Rattle.pdl_rules.specs.Places.{Place, Guard, at_statement, on_path, paths, on_some_path, places}
use Rattle.pdl_rules.specs.Forms.{releases, guesses, verifies, updates, bars}
use Rattle.pdl_rules.specs.Parts.{is_some_and}
use Rattle.pdl_rules.specs.Locks.{hold_after, is_held_for}
use Rattle.pdl_rules.specs.Stages.{stage_in, stage_of, first_stage, stages_that, is_elsewhere}

-- whether a place is a `verify`
abbrev pub is_verify : Place → Bool
is_verify x = at_statement false (λ s bs. verifies (λ g. true) s) x

-- V, none in a pipe without a `verify`
abbrev pub verify_stage : Pipe → Option ℕ
verify_stage p = first_stage is_verify [] (places p)

-- whether a stage is before V
abbrev pub is_before_verify : Pipe → ℕ → Bool
is_before_verify p s = is_some_and (λ v. nat_lt s v) (verify_stage p)

-- whether a place is the `verify` of this guess
abbrev pub is_verify_of : List ℕ → Place → Bool
is_verify_of guess x = at_statement false (λ s bs. verifies (λ g. bytes_eq g.name guess) s) x

-- the stages in which a path verifies a guess, by each `verify` of it
abbrev pub verify_stages : Pipe → List Guard → List ℕ → List ℕ
verify_stages p path guess = stages_that (λ y. on_path path y && is_verify_of guess y) [] (places p)

-- whether this is one stage alone, and one after stage s
abbrev pub is_once_after : ℕ → List ℕ → Bool
is_once_after s (v ∷ []) = nat_lt s v
is_once_after s _ = false

-- whether a place makes a guess that the path doesn't verify exactly once, in a later stage
abbrev pub is_unverified : Pipe → List Guard → List Place → Place → Bool
is_unverified p path before x =
    at_statement false (λ s bs. guesses (λ g. not (is_once_after (stage_in before bs) (verify_stages p path g.name))) s) x

-- S2 at a place: it makes a guess that some path doesn't verify exactly once, in a later stage
abbrev pub breaks_s2 : Pipe → List Place → Place → Bool
breaks_s2 p before x = list_any (λ path. on_path path x && is_unverified p path before x) (paths p)

-- S3: a `verify` in another stage than the first one
abbrev pub breaks_s3 : List Place → Place → Bool
breaks_s3 before x = is_verify x && is_elsewhere is_verify before (stage_of before x)

-- whether a place is a `spec_barrier`
abbrev pub is_barrier : Place → Bool
is_barrier x = at_statement false (λ s bs. bars s) x

-- whether a place releases a write reservation with no `spec_barrier` among the earlier ones
abbrev pub releases_unsure : List Place → Place → Bool
releases_unsure earlier x =
    at_statement false (λ s bs. releases (λ at. is_held_for W (hold_after at earlier) && not (list_any is_barrier earlier)) s) x

-- S4 at a place: in a stage before V, on some path, the release of a write reservation with no barrier before
abbrev pub breaks_s4 : Pipe → List Place → Place → Bool
breaks_s4 p before x = is_before_verify p (stage_of before x) && on_some_path (λ earlier. releases_unsure earlier x) p before x

-- whether a statement is a reserve or a `spec_call`
abbrev pub acts_unsure : Stmt → Bool
acts_unsure (Separator _) = false
acts_unsure (CombRead _ _ _) = false
acts_unsure (Bind _ _ _) = false
acts_unsure (SpecCall _ _ _) = true
acts_unsure (DelayedRead _ _ _) = false
acts_unsure (Write _ _ _) = false
acts_unsure (Reserve _ _ _) = true
acts_unsure (Block _ _) = false
acts_unsure (Release _ _) = false
acts_unsure (If _ _ _ _) = false
acts_unsure (Call _ _) = false
acts_unsure (Verify _ _ _) = false
acts_unsure (Update _ _ _) = false
acts_unsure (SpecCheck _) = false
acts_unsure (SpecBarrier _) = false

-- whether a place is a reserve or a `spec_call`
abbrev pub needs_check : Place → Bool
needs_check x = at_statement false (λ s bs. acts_unsure s) x

-- whether a statement is a `spec_check` or a `spec_barrier`
abbrev pub checks : Stmt → Bool
checks (Separator _) = false
checks (CombRead _ _ _) = false
checks (Bind _ _ _) = false
checks (SpecCall _ _ _) = false
checks (DelayedRead _ _ _) = false
checks (Write _ _ _) = false
checks (Reserve _ _ _) = false
checks (Block _ _) = false
checks (Release _ _) = false
checks (If _ _ _ _) = false
checks (Call _ _) = false
checks (Verify _ _ _) = false
checks (Update _ _ _) = false
checks (SpecCheck _) = true
checks (SpecBarrier _) = true

-- whether a place is a `spec_check` or a `spec_barrier`
abbrev pub is_check : Place → Bool
is_check x = at_statement false (λ s bs. checks s) x

-- whether one of these places on the path is a check in stage s
abbrev pub is_checked : List Guard → List Place → ℕ → Bool
is_checked path before s = list_any (λ k. k == s) (stages_that (λ y. on_path path y && is_check y) [] before)

-- S5 at a place: in a stage before V, on some path, a reserve or `spec_call` with no check before it there
abbrev pub breaks_s5 : Pipe → List Place → Place → Bool
breaks_s5 p before x =
    needs_check x && is_before_verify p (stage_of before x)
    && list_any (λ path. on_path path x && not (is_checked path before (stage_of before x))) (paths p)

-- whether a place is an `update`
abbrev pub is_update : Place → Bool
is_update x = at_statement false (λ s bs. updates (λ g. true) s) x

-- U, none in a pipe without an `update`
abbrev pub update_stage : Pipe → Option ℕ
update_stage p = first_stage is_update [] (places p)

-- whether a place is the `spec_call` of this guess
abbrev pub is_guess_of : List ℕ → Place → Bool
is_guess_of guess x = at_statement false (λ s bs. guesses (λ g. bytes_eq g.name guess) s) x

-- the stages in which a path has made a guess, by each `spec_call` of it before
abbrev pub guess_stages : List Guard → List Place → List ℕ → List ℕ
guess_stages path before guess = stages_that (λ y. on_path path y && is_guess_of guess y) [] before

-- whether an `update` of a guess, in stage k, isn't after the stage of its `spec_call`, isn't before V, or is the path's second one
abbrev pub updates_amiss : Pipe → List Guard → List Place → ℕ → List ℕ → Bool
updates_amiss p path before k guess =
    list_any (λ j. not (nat_lt j k)) (guess_stages path before guess)
    || is_some_and (λ v. not (nat_lt k v)) (verify_stage p)
    || list_any (λ y. on_path path y && is_update y) before

-- whether a place is such an `update` on the path
abbrev pub is_amiss : Pipe → List Guard → List Place → Place → Bool
is_amiss p path before x = at_statement false (λ s bs. updates (λ g. updates_amiss p path before (stage_in before bs) g.name) s) x

-- S6 at a place: an `update` that on some path isn't in a later stage than its guess's `spec_call`, isn't in a stage before V, or is the second one
abbrev pub breaks_s6 : Pipe → List Place → Place → Bool
breaks_s6 p before x = list_any (λ path. on_path path x && is_amiss p path before x) (paths p)

-- S7: an `update` in another stage than the first one
abbrev pub breaks_s7 : List Place → Place → Bool
breaks_s7 before x = is_update x && is_elsewhere is_update before (stage_of before x)
