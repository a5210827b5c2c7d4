-- The place of a number among places, and its mask.
use Rattle.std.proofs.Common.{◌≡◌, refl, sym, ap, subst, ◌∙◌, ℕ, zero, suc, ◌+◌, ◌<◌, ◌≤◌, ◌^◌, List, [], ◌∷◌, ◌++◌, map, length, slice_index_or, append_assoc, arith}
use Rattle.std.proofs.lemmas.List.{map-append, get_or_append_left, get_or-append-add, length-append}
use Rattle.pdl_rules.specs.Places.{Guard, Place, Parameter, Memory, End, StartClause, on_path, statements, places, guards}
use Rattle.pdl_semantics.specs.Tree.{Span, Start, Param, Mem, Pipe}
use Rattle.pdl_paths.specs.declared.mask.Mask.{Mask}
use Rattle.pdl_paths.specs.declared.numbered.Found.{Found}
use Rattle.pdl_paths.specs.declared.numbered.Found.TheVariants.{Here, After}
use Rattle.pdl_paths.specs.Masks.{are_distinct, path_of, allows_path, everywhere, mask_in}
use Rattle.pdl_paths.specs.Numbered.{Tells}
use Rattle.pdl_paths.proofs.MaskPaths.{mask_law}
use Rattle.pdl_paths.proofs.DistinctGuards.{guards_distinct}

-- SEARCHES

-- what is found among the first of some masks is found among all
here_first : (xs ys : List Mask) (n : ℕ) (m : Mask) → Tells xs n (Here m) → Tells (xs ++ ys) n (Here m)
here_first xs ys n m t =
    let longer = length-append xs ys in
    (omega (arith, longer, t.0), t.1 ∙ sym (get_or_append_left xs ys everywhere n t.0))

-- what is found among the further ones likewise
here_later : (xs ys : List Mask) (n left : ℕ) (r : Found) → n ≡ length xs + left → Tells ys left r → Tells (xs ++ ys) n r
here_later xs ys n left (Here m) e t =
    let longer = length-append xs ys in
    (omega (arith, longer, e, t.0), t.1 ∙ sym (get_or-append-add xs ys left everywhere) ∙ ap (λ k. slice_index_or (xs ++ ys) k everywhere) (sym e))
here_later xs ys n left (After more) e t =
    let longer = length-append xs ys in
    omega (arith, longer, e, t)

-- what is found inside an `if`: in its first branch, or after that in its second
pub in_first : (gs : List Guard) (x : Place) (xs ys : List Place) (n left : ℕ) (m : Mask)
    → n ≡ 1 + left → Tells (map (mask_in gs) xs) left (Here m) → Tells (map (mask_in gs) (x ∷ (xs ++ ys))) n (Here m)
in_first gs x xs ys n left m e t =
    here_later (mask_in gs x ∷ []) (map (mask_in gs) (xs ++ ys)) n left (Here m) e
    (subst (λ ms. Tells ms left (Here m)) (sym (map-append (mask_in gs) xs ys)) (here_first (map (mask_in gs) xs) (map (mask_in gs) ys) left m t))

-- a search inside an `if` that has passed its first branch tells what its second branch tells
pub in_second : (gs : List Guard) (x : Place) (xs ys : List Place) (n left further : ℕ) (r : Found)
    → n ≡ 1 + left → Tells (map (mask_in gs) xs) left (After further) → Tells (map (mask_in gs) ys) further r
    → Tells (map (mask_in gs) (x ∷ (xs ++ ys))) n r
in_second gs x xs ys n left further r e f t =
    here_later (mask_in gs x ∷ []) (map (mask_in gs) (xs ++ ys)) n left r e
    (subst (λ ms. Tells ms left r) (sym (map-append (mask_in gs) xs ys)) (here_later (map (mask_in gs) xs) (map (mask_in gs) ys) left further r f t))

-- the mask of the n-th place stays its mask with more places after it
pub in_one : (gs : List Guard) (xs ys : List Place) (n : ℕ) (m : Mask) → Tells (map (mask_in gs) xs) n (Here m)
    → Tells (map (mask_in gs) (xs ++ ys)) n (Here m)
in_one gs xs ys n m t = subst (λ ms. Tells ms n (Here m)) (sym (map-append (mask_in gs) xs ys)) (here_first (map (mask_in gs) xs) (map (mask_in gs) ys) n m t)

-- a search in a row that has passed some places tells what the places after them tell
pub in_rest : (gs : List Guard) (xs ys : List Place) (n left : ℕ) (r : Found)
    → Tells (map (mask_in gs) xs) n (After left) → Tells (map (mask_in gs) ys) left r
    → Tells (map (mask_in gs) (xs ++ ys)) n r
in_rest gs xs ys n left r f t =
    subst (λ ms. Tells ms n r) (sym (map-append (mask_in gs) xs ys)) (here_later (map (mask_in gs) xs) (map (mask_in gs) ys) n left r f t)

-- THE PARTS OF A PIPE

-- the mask of the place of this number among some
abbrev pub nth_mask : List Guard → List Place → ℕ → Mask
nth_mask gs xs n = slice_index_or (map (mask_in gs) xs) n everywhere

params_first : (gs : List Guard) (ps : List Param) (xs : List Place) (n : ℕ)
    → n < length ps → nth_mask gs (map Parameter ps ++ xs) n ≡ everywhere
params_first gs [] xs n l = absurd (omega arith)
params_first gs (p ∷ ps) xs zero l = refl
params_first gs (p ∷ ps) xs (suc n) l = params_first gs ps xs n (omega arith)

params_passed : (gs : List Guard) (ps : List Param) (xs : List Place) (n left : ℕ)
    → n ≡ length ps + left → nth_mask gs (map Parameter ps ++ xs) n ≡ nth_mask gs xs left
params_passed gs [] xs n left e = let same : n ≡ left = omega (arith, e) in ap (nth_mask gs xs) same
params_passed gs (p ∷ ps) xs zero left e = absurd (omega arith)
params_passed gs (p ∷ ps) xs (suc n) left e = params_passed gs ps xs n left (omega arith)

mems_first : (gs : List Guard) (ms : List Mem) (xs : List Place) (n : ℕ) → n < length ms → nth_mask gs (map Memory ms ++ xs) n ≡ everywhere
mems_first gs [] xs n l = absurd (omega arith)
mems_first gs (m ∷ ms) xs zero l = refl
mems_first gs (m ∷ ms) xs (suc n) l = mems_first gs ms xs n (omega arith)

mems_passed : (gs : List Guard) (ms : List Mem) (xs : List Place) (n left : ℕ)
    → n ≡ length ms + left → nth_mask gs (map Memory ms ++ xs) n ≡ nth_mask gs xs left
mems_passed gs [] xs n left e = let same : n ≡ left = omega (arith, e) in ap (nth_mask gs xs) same
mems_passed gs (m ∷ ms) xs zero left e = absurd (omega arith)
mems_passed gs (m ∷ ms) xs (suc n) left e = mems_passed gs ms xs n left (omega arith)

last_two : (gs : List Guard) (at : Span) (start : Start) (n : ℕ) → nth_mask gs (End at ∷ StartClause start ∷ []) n ≡ everywhere
last_two gs at start zero = refl
last_two gs at start (suc zero) = refl
last_two gs at start (suc (suc n)) = refl

-- the mask that was found; where none was, the one that allows all paths
abbrev pub found_mask : Found → Mask
found_mask (Here m) = m
found_mask (After left) = everywhere

-- a body, the end and the start clause
body_last : (gs : List Guard) (body : List Place) (at : Span) (start : Start) (n : ℕ) (r : Found)
    → Tells (map (mask_in gs) body) n r → found_mask r ≡ nth_mask gs (body ++ End at ∷ StartClause start ∷ []) n
body_last gs body at start n (Here m) t =
    t.1
    ∙ sym (get_or_append_left (map (mask_in gs) body) (map (mask_in gs) (End at ∷ StartClause start ∷ [])) everywhere n t.0)
    ∙ ap (λ ms. slice_index_or ms n everywhere) (sym (map-append (mask_in gs) body (End at ∷ StartClause start ∷ [])))
body_last gs body at start n (After left) t =
    sym (last_two gs at start left)
    ∙ sym (get_or-append-add (map (mask_in gs) body) (map (mask_in gs) (End at ∷ StartClause start ∷ [])) left everywhere)
    ∙ ap (λ k. slice_index_or (map (mask_in gs) body ++ map (mask_in gs) (End at ∷ StartClause start ∷ [])) k everywhere) (sym t)
    ∙ ap (λ ms. slice_index_or ms n everywhere) (sym (map-append (mask_in gs) body (End at ∷ StartClause start ∷ [])))

parts : (p : Pipe)
    → places p ≡ map Parameter p.params ++ (map Memory p.mems ++ (statements [] p.body ++ End p.end ∷ StartClause p.start ∷ []))
parts p =
    append_assoc (map Parameter p.params ++ map Memory p.mems) (statements [] p.body) (End p.end ∷ StartClause p.start ∷ [])
    ∙ append_assoc (map Parameter p.params) (map Memory p.mems) (statements [] p.body ++ End p.end ∷ StartClause p.start ∷ [])

-- what is told of the place of a number, where it is a parameter, a memory or further on
pub at_params : (gs : List Guard) (p : Pipe) (n : ℕ) → n < length p.params → everywhere ≡ nth_mask gs (places p) n
at_params gs p n l = sym (ap (λ xs. nth_mask gs xs n) (parts p) ∙ params_first gs p.params _ n l)

-- the place of a memory, which comes after the parameters, has the mask that allows all paths
pub at_mems : (gs : List Guard) (p : Pipe) (n left : ℕ)
    → n ≡ length p.params + left → left < length p.mems → everywhere ≡ nth_mask gs (places p) n
at_mems gs p n left e l = sym (ap (λ xs. nth_mask gs xs n) (parts p) ∙ params_passed gs p.params _ n left e ∙ mems_first gs p.mems _ left l)

-- after parameters and memories the mask of a number is the one that is found in the body
pub at_body : (gs : List Guard) (p : Pipe) (n k left : ℕ) (r : Found)
    → n ≡ length p.params + k → k ≡ length p.mems + left → Tells (map (mask_in gs) (statements [] p.body)) left r
    → found_mask r ≡ nth_mask gs (places p) n
at_body gs p n k left r e f t =
    body_last gs (statements [] p.body) p.end p.start left r t
    ∙ sym (ap (λ xs. nth_mask gs xs n) (parts p) ∙ params_passed gs p.params _ n k e ∙ mems_passed gs p.mems _ k left f)

-- PATHS

mask_of_nth : (gs : List Guard) (xs : List Place) (n : ℕ) (x : Place)
    → n < length xs → nth_mask gs xs n ≡ mask_in gs (slice_index_or xs n x)
mask_of_nth gs [] n x l = absurd (omega arith)
mask_of_nth gs (y ∷ ys) zero x l = refl
mask_of_nth gs (y ∷ ys) (suc n) x l = mask_of_nth gs ys n x (omega arith)

-- the mask of a place allows the paths that lead through it
pub on_place : (gs : List Guard) (xs : List Place) (n bits : ℕ) (m : Mask) (x : Place)
    → gs ≡ guards xs → length gs ≤ 10 → n < length xs → bits < 2 ^ length gs → m ≡ nth_mask gs xs n
    → allows_path m bits ≡ on_path (path_of gs bits) (slice_index_or xs n x)
on_place gs xs n bits m x own few there below is =
    ap (λ k. allows_path k bits) (is ∙ mask_of_nth gs xs n x there)
    ∙ mask_law gs (slice_index_or xs n x) bits (ap are_distinct own ∙ guards_distinct xs) few below
