-- The rules on forks and delayed reads are kept by a source without its updates, where they are with them.
use Rattle.std.proofs.Common.{◌≡◌, refl, sym, ap, ap₂, ◌∙◌, subst, ℕ, zero, suc, Bool, true, false, ◌&&◌, ◌||◌, not, ◌==◌, bytes_eq, List, [], ◌∷◌, ◌++◌, map, length, drop, take, if◌then◌else◌, append_assoc, length-append, arith}
use Rattle.std.specs.Prelude.{⊤}
use Rattle.std.specs.List.{list_any}
use mathlib.Core.Path.{fun_ext}
use Rattle.std.proofs.lemmas.Bool.{false≢true, and_parts, or_parts, not-false}
use Rattle.std.proofs.lemmas.List.{length-map}
use Rattle.pdl_kit.specs.declared.rule.Rule.TheVariants.{F2}
use Rattle.pdl_semantics.specs.Tree.{Location, Stmt, Separator, If, Stmts, Nil, Cons, Param, Mem, Pipe}
use Rattle.pdl_semantics.specs.UpdateFree.{update_free, without_update}
use Rattle.pdl_semantics.proofs.UpdateFree.{begun_free}
use Rattle.pdl_rules.specs.Places.{guard_of, Branch, Place, Parameter, Memory, Statement, End, StartClause, with_inner, statements, places, places_after}
use Rattle.pdl_rules.specs.Forms.{fetches}
use Rattle.pdl_rules.specs.Limits.{is_separator}
use Rattle.pdl_rules.specs.Stages.{stage_after, stage_in, branches_of, are_outer}
use Rattle.pdl_rules.specs.Forks.{holds_separator, is_trunk_only, breaks_f1, is_fork, places_in, starts_with_separator, is_in_outer_stage, breaks_f2, breaks_fetch_order, is_wrong_fetch, breaks_f3}
use Rattle.pdl_rules.specs.Speculation.{is_update}
use Rattle.pdl_rules.specs.Refusal.{KeepsRules}
use Rattle.pdl_source_stages.proofs.BodyShape.{long_all, drop_front, after_is}
use Rattle.pdl_source.proofs.ThinPlaces.{thin_branch, thin_branches, thin_stmt, thin_place, thin, thin_both, thin_in, places_thin, Stays, thin_same, thin_at, stays_at, any_thin}
use Rattle.pdl_source.proofs.ThinStages.{separators_stay, after_thin, branches_thin, outer_thin, in_thin, later_thin}

holds_thin : (ss : Stmts) → holds_separator (update_free ss) ≡ holds_separator ss
holds_thin ss = ap (λ n. not (n == 0)) (begun_free ss)

cut_thin : (bs : List Branch) → list_any (λ (b : Branch). holds_separator b.inside) (thin_branches bs) ≡ list_any (λ (b : Branch). holds_separator b.inside) bs
cut_thin [] = refl
cut_thin (b ∷ bs) = ap₂ (λ a c. a || c) (holds_thin b.inside) (cut_thin bs)

-- F1 is broken at the same places
pub f1 : (x : Place) → breaks_f1 (thin_place x) ≡ breaks_f1 x
f1 = thin_at false _ _ (λ s bs. ap₂ (λ a b. a && b) (thin_same is_trunk_only (λ s c w o. refl) s) (cut_thin bs))

orders_stay : (m : List ℕ) → Stays (breaks_fetch_order m)
orders_stay m = stays_at (λ s. fetches (λ at. bytes_eq at.mem.name m) s) (λ s c w o. refl) (λ s g args. refl)

-- F3 is broken at the same places
pub f3 : (p : Pipe) (before : List Place) (x : Place) → breaks_f3 (without_update p) (thin before) (thin_place x) ≡ breaks_f3 p before x
f3 p before =
    thin_at false _ _
    (λ s bs. ap (λ g. fetches g (thin_stmt s)) (fun_ext (wrong bs)) ∙ thin_same (fetches (is_wrong_fetch p before (stage_in before bs))) (λ s c w o. refl) s)
  where
    wrong : (bs : List Branch) (at : Location)
        → is_wrong_fetch (without_update p) (thin before) (stage_in (thin before) (thin_branches bs)) at ≡ is_wrong_fetch p before (stage_in before bs) at
    wrong bs at =
        ap₂ (λ a b. a || b) (ap₂ (λ m n. m == n) (in_thin before bs) (ap stage_after (places_thin p) ∙ after_thin (places p)))
        (any_thin (breaks_fetch_order at.mem.name) (orders_stay at.mem.name) before)

-- F2: WHAT STANDS AFTER AN `if`

-- after an `if` come the places inside it, and then others
abbrev IsFollowed : Place → List Place → Type 0
IsFollowed (Statement (If s c when otherwise) bs) later =
    (rest : List Place)
    × (later
    ≡ statements (bs ++ record { guard = guard_of s c; truth = true; inside = when } ∷ []) when
    ++ (statements (bs ++ record { guard = guard_of s c; truth = false; inside = otherwise } ∷ []) otherwise ++ rest))
IsFollowed (Statement _ bs) later = ⊤
IsFollowed (Parameter a) later = ⊤
IsFollowed (Memory m) later = ⊤
IsFollowed (End s) later = ⊤
IsFollowed (StartClause s) later = ⊤

-- so it is of each of these places
abbrev AreFollowed : List Place → Type 0
AreFollowed [] = ⊤
AreFollowed (x ∷ xs) = IsFollowed x xs × AreFollowed xs

mutual
  inner_followed : (bs : List Branch) (s : Stmt) (rest : List Place) → AreFollowed rest → AreFollowed (with_inner bs s ++ rest)
  inner_followed bs (If s c when otherwise) rest h =
      let one = bs ++ record { guard = guard_of s c; truth = true; inside = when } ∷ [] in
      let two = bs ++ record { guard = guard_of s c; truth = false; inside = otherwise } ∷ [] in
      let same = append_assoc (statements one when) (statements two otherwise) rest in (
        (rest, same),
        subst AreFollowed (sym same) (followed one when (statements two otherwise ++ rest) (followed two otherwise rest h)),
      )
  inner_followed bs (Separator s) rest h = (tt, h)
  inner_followed bs _ rest h = (tt, h)

  followed : (bs : List Branch) (ss : Stmts) (rest : List Place) → AreFollowed rest → AreFollowed (statements bs ss ++ rest)
  followed bs Nil rest h = h
  followed bs (Cons s ss) rest h =
      subst AreFollowed (sym (append_assoc (with_inner bs s) (statements bs ss) rest)) (inner_followed bs s (statements bs ss ++ rest) (followed bs ss rest h))

-- so it is of the places of a source
places_followed : (p : Pipe) → AreFollowed (places p)
places_followed p = subst AreFollowed (sym same) (params p.params)
  where
    ends : List Place
    ends = End p.end ∷ StartClause p.start ∷ []

    same : places p ≡ map Parameter p.params ++ (map Memory p.mems ++ (statements [] p.body ++ ends))
    same =
        append_assoc (map Parameter p.params ++ map Memory p.mems) (statements [] p.body) ends
        ∙ append_assoc (map Parameter p.params) (map Memory p.mems) (statements [] p.body ++ ends)

    mems : (ms : List Mem) → AreFollowed (map Memory ms ++ (statements [] p.body ++ ends))
    mems [] = followed [] p.body ends (tt, (tt, tt))
    mems (m ∷ ms) = (tt, mems ms)

    params : (ps : List Param) → AreFollowed (map Parameter ps ++ (map Memory p.mems ++ (statements [] p.body ++ ends)))
    params [] = mems p.mems
    params (a ∷ ps) = (tt, params ps)

at_place : (before : List Place) (x : Place) (later : List Place) → AreFollowed (before ++ x ∷ later) → IsFollowed x later
at_place [] x later h = h.0
at_place (y ∷ ys) x later h = at_place ys x later h.1

-- those inside it are as many as it says
passed_over : (one two : List Branch) (when otherwise : Stmts) (rest : List Place)
    → drop (places_in (when ∷ otherwise ∷ [])) (statements one when ++ (statements two otherwise ++ rest)) ≡ rest
passed_over one two when otherwise rest =
    let a = long_all [] one when in
    let b = long_all [] two otherwise in
    let sum = length-append (statements one when) (statements two otherwise) in
    ap (drop (places_in (when ∷ otherwise ∷ []))) (sym (append_assoc (statements one when) (statements two otherwise) rest))
    ∙ drop_front (statements one when ++ statements two otherwise) rest (places_in (when ∷ otherwise ∷ [])) (omega arith)

-- a separator that comes first stays
starts_thin : (bs : List Branch) (xs : List Place) → starts_with_separator bs xs ≡ true → starts_with_separator (thin_branches bs) (thin xs) ≡ true
starts_thin bs [] h = absurd (false≢true h)
starts_thin bs (x ∷ xs) h = at (is_update x) refl
  where
    parts : (is_separator x ≡ true) × ((are_outer (branches_of x) bs && are_outer bs (branches_of x)) ≡ true)
    parts = and_parts (is_separator x) (are_outer (branches_of x) bs && are_outer bs (branches_of x)) h

    at : (u : Bool) → is_update x ≡ u → starts_with_separator (thin_branches bs) (if u then thin xs else thin_place x ∷ thin xs) ≡ true
    at true i = absurd (false≢true (sym (separators_stay.none x i) ∙ parts.0))
    at false i =
        ap₂ (λ a b. a && b) (separators_stay.same x)
        (ap₂ (λ a b. a && b) (ap (λ cs. are_outer cs (thin_branches bs)) (branches_thin x) ∙ outer_thin (branches_of x) bs)
        (ap (are_outer (thin_branches bs)) (branches_thin x) ∙ outer_thin bs (branches_of x)))
        ∙ h

take_thin : (n : ℕ) (bs : List Branch) → take n (thin_branches bs) ≡ thin_branches (take n bs)
take_thin zero bs = refl
take_thin (suc n) [] = refl
take_thin (suc n) (b ∷ bs) = ap (λ cs. thin_branch b ∷ cs) (take_thin n bs)

outer_stage_thin : (before : List Place) (bs : List Branch) → is_in_outer_stage (thin before) (thin_branches bs) ≡ is_in_outer_stage before bs
outer_stage_thin before [] = refl
outer_stage_thin before (b ∷ bs) =
    ap₂ (λ m n. m == n) (in_thin before (b ∷ bs))
    (ap (stage_in (thin before)) (ap (λ n. take n (thin_branches (b ∷ bs))) (length-map bs thin_branch) ∙ take_thin (length bs) (b ∷ bs))
    ∙ in_thin before (take (length bs) (b ∷ bs)))

-- F2 is kept, since what stands after an `if` still begins with a separator
pub f2 : (p : Pipe) → KeepsRules p → (before : List Place) (x : Place) (later : List Place) → places p ≡ before ++ x ∷ later → is_update x ≡ false
    → breaks_f2 (without_update p) (thin before) (thin_place x) ≡ false
f2 p rules before (Statement (If s c when otherwise) bs) later e i =
    at (is_fork (If s c when otherwise)) fork (rules F2 before (Statement (If s c when otherwise) bs) later e)
  where
    x : Place
    x = Statement (If s c when otherwise) bs

    one : Branch
    one = record { guard = guard_of s c; truth = true; inside = when }

    two : Branch
    two = record { guard = guard_of s c; truth = false; inside = otherwise }

    fork : is_fork (If s c (update_free when) (update_free otherwise)) ≡ is_fork (If s c when otherwise)
    fork = ap₂ (λ a b. a || (b || false)) (holds_thin when) (holds_thin otherwise)

    after : List Place
    after = drop (places_in (when ∷ otherwise ∷ [])) (places_after p before)

    thin_after : List Place
    thin_after = drop (places_in (update_free when ∷ update_free otherwise ∷ [])) (places_after (without_update p) (thin before))

    there : IsFollowed x later
    there = at_place before x later (subst AreFollowed e (places_followed p))

    rest : List Place
    rest = there.0

    after_rest : after ≡ rest
    after_rest =
        ap (drop (places_in (when ∷ otherwise ∷ []))) (after_is p before x later e ∙ there.1)
        ∙ passed_over (bs ++ one ∷ []) (bs ++ two ∷ []) when otherwise rest

    thin_rest : thin_after ≡ thin rest
    thin_rest =
        ap (drop (places_in (update_free when ∷ update_free otherwise ∷ [])))
        (later_thin p before x later e i ∙ ap thin (after_is p before x later e ∙ there.1)
        ∙ thin_both (statements (bs ++ one ∷ []) when) (statements (bs ++ two ∷ []) otherwise ++ rest)
        ∙ ap₂ (λ a b. a ++ b) (sym (thin_in bs one when))
        (thin_both (statements (bs ++ two ∷ []) otherwise) rest ∙ ap (λ a. a ++ thin rest) (sym (thin_in bs two otherwise))))
        ∙ passed_over (thin_branches bs ++ thin_branch one ∷ []) (thin_branches bs ++ thin_branch two ∷ [])
        (update_free when) (update_free otherwise) (thin rest)

    at : (b : Bool) → is_fork (If s c (update_free when) (update_free otherwise)) ≡ b
        → (b && (length bs == 4 || is_in_outer_stage before bs || not (starts_with_separator bs after))) ≡ false
        → (is_fork (If s c (update_free when) (update_free otherwise))
        && (length (thin_branches bs) == 4 || is_in_outer_stage (thin before) (thin_branches bs) || not (starts_with_separator (thin_branches bs) thin_after)))
        ≡ false
    at false f h =
        ap
        (λ b. b
        && (length (thin_branches bs) == 4 || is_in_outer_stage (thin before) (thin_branches bs) || not (starts_with_separator (thin_branches bs) thin_after)))
        f
    at true f h =
        let parts = or_parts (length bs == 4 || is_in_outer_stage before bs) (not (starts_with_separator bs after)) h in
        let starts : starts_with_separator bs rest ≡ true = ap (starts_with_separator bs) (sym after_rest) ∙ not-false _ parts.1 in
        ap₂ (λ a b. a && b) f
        (ap₂ (λ a b. a || b)
        (ap₂ (λ a b. a || b) (ap (λ n. n == 4) (length-map bs thin_branch)) (outer_stage_thin before bs) ∙ parts.0)
        (ap not (ap (starts_with_separator (thin_branches bs)) thin_rest ∙ starts_thin bs rest starts)))
f2 p rules before (Statement (Separator s) bs) later e i = refl
f2 p rules before (Statement _ bs) later e i = refl
f2 p rules before (Parameter a) later e i = refl
f2 p rules before _ later e i = refl
