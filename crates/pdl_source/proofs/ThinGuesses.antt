-- The rules on calls and guesses are the same of a source without its updates, but those on updates, which it can't break.
use Rattle.std.proofs.Common.{◌≡◌, refl, ap, ap₂, ◌∙◌, ℕ, Bool, true, false, ◌&&◌, ◌||◌, not, ◌==◌, nat_lt, bytes_eq, List, [], ◌∷◌, true≢false}
use Rattle.std.specs.List.{list_any}
use Rattle.std.proofs.Math.Bool.{and-false}
use Rattle.pdl_semantics.specs.Tree.{Ident, Location, W, Stmt, Separator, SpecCall, Release, Call, Update, Pipe}
use Rattle.pdl_semantics.specs.UpdateFree.{without_update}
use Rattle.pdl_rules.specs.Places.{Guard, Place, Parameter, Statement, End, places, paths, on_path}
use Rattle.pdl_rules.specs.Forms.{releases, guesses, verifies, updates, bars}
use Rattle.pdl_rules.specs.Parts.{is_some_and}
use Rattle.pdl_rules.specs.Calls.{calls, is_call, calls_again, is_wrong_call, breaks_s1}
use Rattle.pdl_rules.specs.Locks.{is_held_for}
use Rattle.pdl_rules.specs.Stages.{stage_of, first_stage, stages_that, is_elsewhere}
use Rattle.pdl_rules.specs.Speculation.{is_verify, verify_stage, is_before_verify, is_verify_of, verify_stages, is_once_after, breaks_s2, breaks_s3, is_barrier, releases_unsure, breaks_s4, acts_unsure, needs_check, checks, is_check, is_checked, breaks_s5, is_update, is_amiss, breaks_s6, breaks_s7}
use Rattle.pdl_source.proofs.ThinPlaces.{thin_stmt, thin_place, thin, places_thin, Stays, thin_same, thin_at, stays_at, any_thin, on_path_thin, some_path_thin, each_path_thin}
use Rattle.pdl_source.proofs.ThinStages.{in_thin, of_thin, first_thin, that_thin, elsewhere_thin}
use Rattle.pdl_source.proofs.ThinLocks.{hold_thin}

calls_stay : Stays is_call
calls_stay = stays_at calls (λ s c w o. refl) (λ s g args. refl)

-- S1 is broken at the same places
pub s1 : (p : Pipe) (before : List Place) (x : Place) → breaks_s1 (without_update p) (thin before) (thin_place x) ≡ breaks_s1 p before x
s1 p before x = some_path_thin p _ (λ earlier. is_wrong_call earlier (thin_place x)) before x (λ earlier. wrong earlier x)
  where
    again : (earlier : List Place) (s : Stmt) → calls_again (thin earlier) s ≡ calls_again earlier s
    again earlier (SpecCall s g args) = any_thin is_call calls_stay earlier
    again earlier (Call s args) = any_thin is_call calls_stay earlier
    again earlier (Separator s) = refl
    again earlier _ = refl

    wrong : (earlier : List Place) (x : Place) → is_wrong_call (thin earlier) (thin_place x) ≡ is_wrong_call earlier x
    wrong earlier (Statement s bs) = again earlier (thin_stmt s) ∙ thin_same (calls_again earlier) (λ s c w o. refl) s
    wrong earlier (End s) = ap not (any_thin is_call calls_stay earlier)
    wrong earlier (Parameter a) = refl
    wrong earlier _ = refl

-- guesses that are asked the same
guesses_alike : (f g : Ident → Bool) → ((x : Ident) → f x ≡ g x) → (s : Stmt) → guesses f (thin_stmt s) ≡ guesses g s
guesses_alike f g same (SpecCall s x args) = same x
guesses_alike f g same (Separator s) = refl
guesses_alike f g same _ = refl

-- a test of the places on a path
on_path_stays : (path : List Guard) (test : Place → Bool) → Stays test → Stays (λ y. on_path path y && test y)
on_path_stays path test stays = record {
  same = λ y. ap₂ (λ a b. a && b) (on_path_thin path y) (stays.same y);
  none = λ y h. ap (λ b. on_path path y && b) (stays.none y h) ∙ and-false (on_path path y);
}

verify_of_stays : (g : List ℕ) → Stays (is_verify_of g)
verify_of_stays g = stays_at (λ s. verifies (λ x. bytes_eq x.name g) s) (λ s c w o. refl) (λ s x args. refl)

stages_thin : (p : Pipe) (path : List Guard) (g : List ℕ) → verify_stages (without_update p) path g ≡ verify_stages p path g
stages_thin p path g =
    let test = λ (y : Place). on_path path y && is_verify_of g y in
    ap (stages_that test []) (places_thin p) ∙ that_thin test (on_path_stays path (is_verify_of g) (verify_of_stays g)) [] (places p)

-- S2 is broken at the same places
pub s2 : (p : Pipe) (before : List Place) (x : Place) → breaks_s2 (without_update p) (thin before) (thin_place x) ≡ breaks_s2 p before x
s2 p before x =
    each_path_thin p _ _ x
    (λ path. thin_at false _ _
    (λ s bs. guesses_alike _ _ (λ g. ap₂ (λ k ns. not (is_once_after k ns)) (in_thin before bs) (stages_thin p path g.name)) s) x)

verify_stays : Stays is_verify
verify_stays = stays_at (λ s. verifies (λ g. true) s) (λ s c w o. refl) (λ s g args. refl)

-- S3 is broken at the same places
pub s3 : (before : List Place) (x : Place) → breaks_s3 (thin before) (thin_place x) ≡ breaks_s3 before x
s3 before x =
    ap₂ (λ a b. a && b) (verify_stays.same x)
    (ap (is_elsewhere is_verify (thin before)) (of_thin before x) ∙ elsewhere_thin is_verify verify_stays before (stage_of before x))

verify_stage_thin : (p : Pipe) → verify_stage (without_update p) ≡ verify_stage p
verify_stage_thin p = ap (first_stage is_verify []) (places_thin p) ∙ first_thin is_verify verify_stays [] (places p)

before_thin : (p : Pipe) (before : List Place) (x : Place)
    → is_before_verify (without_update p) (stage_of (thin before) (thin_place x)) ≡ is_before_verify p (stage_of before x)
before_thin p before x = ap₂ (λ s o. is_some_and (λ v. nat_lt s v) o) (of_thin before x) (verify_stage_thin p)

barriers_stay : Stays is_barrier
barriers_stay = stays_at bars (λ s c w o. refl) (λ s g args. refl)

-- releases that are asked the same
releases_alike : (f g : Location → Bool) → ((at : Location) → f at ≡ g at) → (s : Stmt) → releases f (thin_stmt s) ≡ releases g s
releases_alike f g same (Release s at) = same at
releases_alike f g same (Separator s) = refl
releases_alike f g same _ = refl

-- S4 is broken at the same places
pub s4 : (p : Pipe) (before : List Place) (x : Place) → breaks_s4 (without_update p) (thin before) (thin_place x) ≡ breaks_s4 p before x
s4 p before x =
    ap₂ (λ a b. a && b) (before_thin p before x)
    (some_path_thin p _ (λ earlier. releases_unsure earlier (thin_place x)) before x
    (λ earlier. thin_at false _ _
    (λ s bs. releases_alike _ _ (λ at. ap₂ (λ h b. is_held_for W h && not b) (hold_thin at earlier) (any_thin is_barrier barriers_stay earlier)) s) x))

needs_stay : Stays needs_check
needs_stay = record {
  same = thin_at false _ _ (λ s bs. thin_same acts_unsure (λ s c w o. refl) s);
  none = (stays_at acts_unsure (λ s c w o. refl) (λ s g args. refl)).none;
}

checks_stay : Stays is_check
checks_stay = stays_at checks (λ s c w o. refl) (λ s g args. refl)

checked_thin : (path : List Guard) (before : List Place) (s : ℕ) → is_checked path (thin before) s ≡ is_checked path before s
checked_thin path before s =
    ap (λ ns. list_any (λ k. k == s) ns) (that_thin (λ y. on_path path y && is_check y) (on_path_stays path is_check checks_stay) [] before)

-- S5 is broken at the same places
pub s5 : (p : Pipe) (before : List Place) (x : Place) → breaks_s5 (without_update p) (thin before) (thin_place x) ≡ breaks_s5 p before x
s5 p before x =
    ap₂ (λ a b. a && b) (ap₂ (λ a b. a && b) (needs_stay.same x) (before_thin p before x))
    (each_path_thin p _ _ x
    (λ path. ap (λ s. not (is_checked path (thin before) s)) (of_thin before x) ∙ ap not (checked_thin path before (stage_of before x))))

-- UPDATES

update_thin : (x : Place) → is_update x ≡ false → is_update (thin_place x) ≡ false
update_thin x h = thin_at false _ _ (λ s bs. thin_same (updates (λ g. true)) (λ s c w o. refl) s) x ∙ h

not_amiss : (p : Pipe) (path : List Guard) (before : List Place) (x : Place) → is_update x ≡ false → is_amiss p path before x ≡ false
not_amiss p path before (Statement (Update s g args) bs) h = absurd (true≢false h)
not_amiss p path before (Statement _ bs) h = refl
not_amiss p path before (Parameter a) h = refl
not_amiss p path before _ h = refl

nowhere : (p : Pipe) (before : List Place) (x : Place) → is_update x ≡ false → (paths' : List (List Guard))
    → list_any (λ path. on_path path x && is_amiss p path before x) paths' ≡ false
nowhere p before x h [] = refl
nowhere p before x h (path ∷ paths') =
    ap₂ (λ a b. a || b) (ap (λ b. on_path path x && b) (not_amiss p path before x h) ∙ and-false (on_path path x)) (nowhere p before x h paths')

-- S6 is broken nowhere
pub s6 : (p : Pipe) (before : List Place) (x : Place) → is_update x ≡ false → breaks_s6 (without_update p) (thin before) (thin_place x) ≡ false
s6 p before x h = nowhere (without_update p) (thin before) (thin_place x) (update_thin x h) (paths (without_update p))

-- S7 is broken nowhere
pub s7 : (before : List Place) (x : Place) → is_update x ≡ false → breaks_s7 (thin before) (thin_place x) ≡ false
s7 before x h =
    ap (λ b. b && is_elsewhere is_update (thin before) (stage_of (thin before) (thin_place x))) (update_thin x h)
