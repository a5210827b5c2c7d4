-- Lists of stages of which one leads elsewhere.
use Rattle.std.proofs.Common.{◌≡◌, ℕ, zero, suc, ◌<◌, false, List, [], ◌∷◌, ◌++◌, length, get_or, set, Some, None, refl, ap, sym, ◌∙◌, arith, append_assoc}
use Rattle.pdl_semantics.specs.Flat.{Next, Ends, Goes, Stage, Branch}
use Rattle.pdl_semantics.specs.Flatten.{Graph, with_merge}
use Rattle.pdl_form.specs.declared.form.FlatStage as r_stage
use Rattle.pdl_form.specs.declared.form.Next as r_next
use Rattle.pdl_form.specs.View.{stage_view, stages_view, next_view}
use Rattle.pdl_form_lower.specs.Walking.{leading, with_merge_at, next_at, closed_stages}

-- OF THE PROGRAM'S LISTS

-- a stage of the program that is told to lead elsewhere stands for one that leads there
pub led : (xs : List r_stage.FlatStage) (k : ℕ) (x : r_stage.FlatStage) (n : r_next.Next) → k < length xs
    → x ≡ get_or xs k x → stages_view (set xs k (record x { next = n })) ≡ leading k (next_view n) (stages_view xs)
led [] k x n h e = absurd (omega arith)
led (y ∷ ys) zero x n h e = ap (λ (z : r_stage.FlatStage). record { next = next_view n; branches = (stage_view z).branches; merges = z.merges } ∷ stages_view ys) e
led (y ∷ ys) (suc k) x n h e = ap (λ zs. stage_view y ∷ zs) (led ys k x n (omega arith) e)

-- a stage of the program that is marked as a fork's merge stands for one that is marked so
pub marked_one : (xs : List r_stage.FlatStage) (k : ℕ) (x : r_stage.FlatStage) (f : ℕ) → k < length xs
    → x ≡ get_or xs k x → stages_view (set xs k (record x { merges = Some f })) ≡ with_merge_at k f (stages_view xs)
marked_one [] k x f h e = absurd (omega arith)
marked_one (y ∷ ys) zero x f h e =
    ap (λ (z : r_stage.FlatStage). record { next = next_view z.next; branches = (stage_view z).branches; merges = Some f } ∷ stages_view ys) e
marked_one (y ∷ ys) (suc k) x f h e = ap (λ zs. stage_view y ∷ zs) (marked_one ys k x f (omega arith) e)

-- where a stage of the program leads is where the stage leads that it stands for
pub next_seen : (xs : List r_stage.FlatStage) (k : ℕ) (d : r_stage.FlatStage)
    → k < length xs → next_view (get_or xs k d).next ≡ next_at k (stages_view xs)
next_seen [] k d h = absurd (omega arith)
next_seen (y ∷ ys) zero d h = refl
next_seen (y ∷ ys) (suc k) d h = next_seen ys k d (omega arith)

-- a stage more of the program stands for a stage more
pub stages_push : (xs : List r_stage.FlatStage) (x : r_stage.FlatStage) → stages_view (xs ++ x ∷ []) ≡ stages_view xs ++ stage_view x ∷ []
stages_push [] x = refl
stages_push (y ∷ ys) x = ap (λ zs. stage_view y ∷ zs) (stages_push ys x)

-- OF ALL LISTS

-- where a stage of the first list leads elsewhere, the stages after that list stay as they are
pub leading-append : (k : ℕ) (n : Next) (xs ys : List Stage) → k < length xs → leading k n (xs ++ ys) ≡ leading k n xs ++ ys
leading-append k n [] ys h = absurd (omega arith)
leading-append zero n (x ∷ xs) ys h = refl
leading-append (suc k) n (x ∷ xs) ys h = ap (λ zs. x ∷ zs) (leading-append k n xs ys (omega arith))

-- where a stage is told twice to lead elsewhere, it leads where it was told last
pub leading-twice : (k : ℕ) (m n : Next) (xs : List Stage) → leading k n (leading k m xs) ≡ leading k n xs
leading-twice k m n [] = refl
leading-twice zero m n (x ∷ xs) = refl
leading-twice (suc k) m n (x ∷ xs) = ap (λ zs. x ∷ zs) (leading-twice k m n xs)

-- where a stage leads to what it led to, the stages are as they were
pub leading-same : (k : ℕ) (xs : List Stage) → leading k (next_at k xs) xs ≡ xs
leading-same k [] = refl
leading-same zero (x ∷ xs) = refl
leading-same (suc k) (x ∷ xs) = ap (λ zs. x ∷ zs) (leading-same k xs)

-- there are as many stages where one leads elsewhere
pub length-leading : (k : ℕ) (n : Next) (xs : List Stage) → length (leading k n xs) ≡ length xs
length-leading k n [] = refl
length-leading zero n (x ∷ xs) = refl
length-leading (suc k) n (x ∷ xs) = ap suc (length-leading k n xs)

-- a stage that is told to lead elsewhere leads there, whatever stages come after the list
pub next-leading : (k : ℕ) (n : Next) (xs ys : List Stage) → k < length xs → next_at k (leading k n xs ++ ys) ≡ n
next-leading k n [] ys h = absurd (omega arith)
next-leading zero n (x ∷ xs) ys h = refl
next-leading (suc k) n (x ∷ xs) ys h = next-leading k n xs ys (omega arith)

-- a mark after a list stands at the first stage of what follows
pub marked-after : (xs ys : List Stage) (f : ℕ) → with_merge_at (length xs) f (xs ++ ys) ≡ xs ++ with_merge f ys
marked-after [] [] f = refl
marked-after [] (y ∷ ys) f = refl
marked-after (x ∷ xs) ys f = ap (λ zs. x ∷ zs) (marked-after xs ys f)

-- a merge marked at the first stage of a list that is not empty leaves the stages after it
pub merging-append : (f : ℕ) (xs ys : List Stage) → 0 < length xs → with_merge f (xs ++ ys) ≡ with_merge f xs ++ ys
merging-append f [] ys h = absurd (omega arith)
merging-append f (x ∷ xs) ys h = refl

-- A NEW STAGE

leading-last : (xs : List Stage) (x : Stage) (n : Next) → leading (length xs) n (xs ++ x ∷ []) ≡ xs ++ record x { next = n } ∷ []
leading-last [] x n = refl
leading-last (y ∷ xs) x n = ap (λ zs. y ∷ zs) (leading-last xs x n)

-- a stage that begins after stage k is the one to which that leads, and goes on as the rest does
pub begun_after : (k m n : ℕ) (b : List Branch) (xs : List Stage) (rest : Graph) → m ≡ length xs → n ≡ m → k < length xs
    → closed_stages m false (leading k (Goes m) (xs ++ record { next = Ends; branches = b; merges = None } ∷ [])) rest
    ≡ leading k (Goes n) xs ++ record { next = rest.next; branches = b; merges = None } ∷ rest.later
begun_after k m n b xs rest e f h =
    let x : Stage = record { next = Ends; branches = b; merges = None } in
    let long : m ≡ length (leading k (Goes m) xs) = e ∙ sym (length-leading k (Goes m) xs) in
    ap (λ ys. leading m rest.next ys ++ rest.later) (leading-append k (Goes m) xs (x ∷ []) h)
    ∙ ap (λ j. leading j rest.next (leading k (Goes m) xs ++ x ∷ []) ++ rest.later) long
    ∙ ap (λ ys. ys ++ rest.later) (leading-last (leading k (Goes m) xs) x rest.next)
    ∙ append_assoc (leading k (Goes m) xs) (record x { next = rest.next } ∷ []) rest.later
    ∙ ap (λ j. leading k (Goes j) xs ++ record { next = rest.next; branches = b; merges = None } ∷ rest.later) (sym f)

-- a stage that begins after the fork in stage k merges it, and goes on as the rest does
pub begun_merge : (k m : ℕ) (b : List Branch) (xs : List Stage) (rest : Graph) → m ≡ length xs
    → closed_stages m false (xs ++ record { next = Ends; branches = b; merges = Some k } ∷ []) rest
    ≡ xs ++ record { next = rest.next; branches = b; merges = Some k } ∷ rest.later
begun_merge k m b xs rest e =
    let x : Stage = record { next = Ends; branches = b; merges = Some k } in
    ap (λ j. leading j rest.next (xs ++ x ∷ []) ++ rest.later) e
    ∙ ap (λ ys. ys ++ rest.later) (leading-last xs x rest.next)
    ∙ append_assoc xs (record x { next = rest.next } ∷ []) rest.later
