-- Where the names of the rules' variables are found among those of the flat form, which has the guards of `if`s on expressions too.
use Rattle.std.proofs.Common.{◌≡◌, refl, sym, ap, ◌∙◌, subst, ℕ, suc, ◌<◌, Bool, true, false, ◌||◌, if◌then◌else◌, List, [], ◌∷◌, ◌++◌, map, length, slice_index, bytes_eq, append_assoc, arith, ⊎_elim}
use Rattle.std.specs.Prelude.{IsTrue}
use Rattle.std.proofs.lemmas.Bool.{false≢true, true≢false, both_ways}
use Rattle.pdl_semantics.specs.Flatten.{Var, var_of, var_width, is_advised_var}
use Rattle.pdl_rules.specs.Typed.{is_named}
use Rattle.pdl_form_types.specs.Apart.{flag_at}
use Rattle.pdl_rules.proofs.SingleWrites.{any_last}
use Rattle.pdl_rules.proofs.KnownVariables.{Stays, stays_more, any_split}
use Rattle.pdl_semantics.proofs.Bytes.{bytes_same}

-- the widths of variables
abbrev pub widths_of : List Var → List ℕ
widths_of vs = map (λ (v : Var). v.width) vs

-- there are as many widths as variables
pub long_widths : (vs : List Var) → length (widths_of vs) ≡ length vs
long_widths [] = refl
long_widths (v ∷ vs) = ap suc (long_widths vs)

-- BY NUMBER

-- a name that is not the first one's is among the others
pub rest_named : (b c : Bool) → (b || c) ≡ true → b ≡ false → c ≡ true
rest_named true c h e = absurd (true≢false e)
rest_named false c h e = h

-- with a variable more before the others, a name's number, 0 or one more, is below their count
pub number_step : (b : Bool) (k n : ℕ) → (b ≡ false → k < n) → (if b then 0 else suc k) < suc n
number_step true k n h = omega arith
number_step false k n h = let less : k < n = h refl in omega arith

number_low : (vs : List Var) (x : List ℕ) → IsTrue (is_named vs x) → var_of vs x < length vs
number_low [] x h = absurd (false≢true h)
number_low (v ∷ vs) x h = number_step (bytes_eq v.name x) (var_of vs x) (length vs) (λ e. number_low vs x (rest_named _ _ h e))

width_step : (b : Bool) (w u k : ℕ) (ws : List ℕ)
    → (b ≡ false → slice_index ws k ≡ u) → slice_index (w ∷ ws) (if b then 0 else suc k) ≡ (if b then w else u)
width_step true w u k ws h = refl
width_step false w u k ws h = h refl

-- at the number of a name that a variable has, the width is the name's
pub width_at : (vs : List Var) (x : List ℕ) → IsTrue (is_named vs x) → slice_index (widths_of vs) (var_of vs x) ≡ var_width vs x
width_at [] x h = absurd (false≢true h)
width_at (v ∷ vs) x h = width_step (bytes_eq v.name x) v.width (var_width vs x) (var_of vs x) (widths_of vs) (λ e. width_at vs x (rest_named _ _ h e))

same_step : (b : Bool) (k n : ℕ) → (b ≡ false → k ≡ n) → (if b then 0 else suc k) ≡ (if b then 0 else suc n)
same_step true k n h = refl
same_step false k n h = ap suc (h refl)

number_more : (vs more : List Var) (x : List ℕ) → IsTrue (is_named vs x) → var_of (vs ++ more) x ≡ var_of vs x
number_more [] more x h = absurd (false≢true h)
number_more (v ∷ vs) more x h = same_step (bytes_eq v.name x) _ _ (λ e. number_more vs more x (rest_named _ _ h e))

-- the last of some variables has a number for which there is a width, with more after it
pub last_low : (vs more : List Var) (v : Var) → length vs < length (widths_of ((vs ++ v ∷ []) ++ more))
last_low [] more v = let n : length (widths_of (v ∷ more)) ≡ suc (length (widths_of more)) = refl in omega arith
last_low (u ∷ vs) more v = let h = last_low vs more v in omega arith

-- the width of the variable after some stands at their count
pub last_width : (vs more : List Var) (v : Var) → slice_index (widths_of ((vs ++ v ∷ []) ++ more)) (length vs) ≡ v.width
last_width [] more v = refl
last_width (u ∷ vs) more v = last_width vs more v

-- AMONG MORE VARIABLES

-- the first of these variables
abbrev pub Begins : List Var → List Var → Type 0
Begins vs all = (more : List Var) × (all ≡ vs ++ more)

-- variables are the first of these with more after them
pub begins_self : (vs more : List Var) → Begins vs (vs ++ more)
begins_self vs more = (more, refl)

-- the first of the first variables are the first of all
pub begins_then : (xs ys zs : List Var) → Begins xs ys → Begins ys zs → Begins xs zs
begins_then xs ys zs h k = (h.0 ++ k.0, k.1 ∙ ap (λ l. l ++ k.0) h.1 ∙ append_assoc xs h.0 k.0)

-- where the names of some variables are found among others, by number in a list of widths
pub record Found (us vs : List Var) (ws : List ℕ) : Type 0 where
  pub number : (x : List ℕ) → IsTrue (is_named us x) → var_of vs x < length ws
  pub width : (x : List ℕ) → IsTrue (is_named us x) → slice_index ws (var_of vs x) ≡ var_width us x
  pub same : (x : List ℕ) → IsTrue (is_named us x) → var_width vs x ≡ var_width us x

-- the names of variables that stay among the first of some are found in the widths of these
pub found : (us vs all : List Var) → Stays us vs → Begins vs all → Found us vs (widths_of all)
found us vs all stays begins = record {
  number = λ x h. subst (λ n. n < length (widths_of all)) (numbered x h) (subst (λ n. var_of all x < n) (sym (long_widths all)) (number_low all x (there x h)));
  width = λ x h. ap (slice_index (widths_of all)) (sym (numbered x h)) ∙ width_at all x (there x h) ∙ wide x h ∙ (stays x h).1;
  same = λ x h. (stays x h).1;
}
  where
    numbered : (x : List ℕ) → IsTrue (is_named us x) → var_of all x ≡ var_of vs x
    numbered x h = ap (λ l. var_of l x) begins.1 ∙ number_more vs begins.0 x (stays x h).0

    there : (x : List ℕ) → IsTrue (is_named us x) → IsTrue (is_named all x)
    there x h = ap (λ l. is_named l x) begins.1 ∙ (stays_more vs begins.0 x (stays x h).0).0

    wide : (x : List ℕ) → IsTrue (is_named us x) → var_width all x ≡ var_width vs x
    wide x h = ap (λ l. var_width l x) begins.1 ∙ (stays_more vs begins.0 x (stays x h).0).1

-- which of some variables are advised
abbrev pub flags_of : List Var → List Bool
flags_of vs = map (λ (v : Var). v.advised) vs

flag_step : (b w u : Bool) (k : ℕ) (fs : List Bool)
    → (b ≡ false → flag_at fs k ≡ u) → flag_at (w ∷ fs) (if b then 0 else suc k) ≡ (if b then w else u)
flag_step true w u k fs h = refl
flag_step false w u k fs h = h refl

flag_of_name : (vs : List Var) (x : List ℕ) → IsTrue (is_named vs x) → flag_at (flags_of vs) (var_of vs x) ≡ is_advised_var vs x
flag_of_name [] x h = absurd (false≢true h)
flag_of_name (v ∷ vs) x h =
    flag_step (bytes_eq v.name x) v.advised (is_advised_var vs x) (var_of vs x) (flags_of vs)
    (λ e. flag_of_name vs x (rest_named _ _ h e))

-- the flag of the variable after some stands at their count
pub last_flag : (vs more : List Var) (v : Var) → flag_at (flags_of ((vs ++ v ∷ []) ++ more)) (length vs) ≡ v.advised
last_flag [] more v = refl
last_flag (u ∷ vs) more v = last_flag vs more v

-- where the names of some variables are found among others, by number in a list of flags
pub record Flagged (us vs : List Var) (fs : List Bool) : Type 0 where
  pub flag : (x : List ℕ) → IsTrue (is_named us x) → flag_at fs (var_of vs x) ≡ is_advised_var us x
  pub same : (x : List ℕ) → IsTrue (is_named us x) → is_advised_var vs x ≡ is_advised_var us x

-- the names of variables that stay among the first of some are found in the flags of these
pub flagged : (us vs all : List Var) → Stays us vs → Begins vs all → Flagged us vs (flags_of all)
flagged us vs all stays begins = record {
  flag = λ x h. ap (flag_at (flags_of all)) (sym (numbered x h)) ∙ flag_of_name all x (there x h) ∙ advised x h ∙ (stays x h).2;
  same = λ x h. (stays x h).2;
}
  where
    numbered : (x : List ℕ) → IsTrue (is_named us x) → var_of all x ≡ var_of vs x
    numbered x h = ap (λ l. var_of l x) begins.1 ∙ number_more vs begins.0 x (stays x h).0

    there : (x : List ℕ) → IsTrue (is_named us x) → IsTrue (is_named all x)
    there x h = ap (λ l. is_named l x) begins.1 ∙ (stays_more vs begins.0 x (stays x h).0).0

    advised : (x : List ℕ) → IsTrue (is_named us x) → is_advised_var all x ≡ is_advised_var vs x
    advised x h = ap (λ l. is_advised_var l x) begins.1 ∙ (stays_more vs begins.0 x (stays x h).0).2

-- ONE VARIABLE MORE

-- variables that stay among some stay among these with one more
pub stays_after : (us vs : List Var) (v : Var) → Stays us vs → Stays us (vs ++ v ∷ [])
stays_after us vs v h x e =
    let here = h x e in
    let all = stays_more vs (v ∷ []) x here.0 in
    (all.0, all.1 ∙ here.1, all.2 ∙ here.2)

new_step : (b c : Bool) (w u n : ℕ) → (b || c) ≡ false → (c ≡ false → u ≡ n) → (if b then w else u) ≡ n
new_step true c w u n h f = absurd (true≢false h)
new_step false c w u n h f = f h

end_width : (b : Bool) (w : ℕ) → b ≡ true → (if b then w else 0) ≡ w
end_width true w h = refl
end_width false w h = absurd (false≢true h)

new_width : (vs : List Var) (v : Var) (x : List ℕ) → is_named vs x ≡ false → bytes_eq v.name x ≡ true → var_width (vs ++ v ∷ []) x ≡ v.width
new_width [] v x new e = end_width (bytes_eq v.name x) v.width e
new_width (u ∷ vs) v x new e =
    new_step (bytes_eq u.name x) (is_named vs x) u.width (var_width (vs ++ v ∷ []) x) v.width new (λ f. new_width vs v x f e)

new_advised_step : (b c w u n : Bool) → (b || c) ≡ false → (c ≡ false → u ≡ n) → (if b then w else u) ≡ n
new_advised_step true c w u n h f = absurd (true≢false h)
new_advised_step false c w u n h f = f h

end_advised : (b w : Bool) → b ≡ true → (if b then w else false) ≡ w
end_advised true w h = refl
end_advised false w h = absurd (false≢true h)

new_advised : (vs : List Var) (v : Var) (x : List ℕ)
    → is_named vs x ≡ false → bytes_eq v.name x ≡ true → is_advised_var (vs ++ v ∷ []) x ≡ v.advised
new_advised [] v x new e = end_advised (bytes_eq v.name x) v.advised e
new_advised (u ∷ vs) v x new e =
    new_advised_step (bytes_eq u.name x) (is_named vs x) u.advised (is_advised_var (vs ++ v ∷ []) x) v.advised new (λ f. new_advised vs v x f e)

-- variables stay in a longer list with a variable more in both, of a name that neither has
pub stays_both : (us vs : List Var) (v : Var)
    → is_named us v.name ≡ false → is_named vs v.name ≡ false → Stays us vs → Stays (us ++ v ∷ []) (vs ++ v ∷ [])
stays_both us vs v fresh new h x e = at (is_named us x) refl
  where
    at : (b : Bool) → is_named us x ≡ b
        → IsTrue (is_named (vs ++ v ∷ []) x) × (var_width (vs ++ v ∷ []) x ≡ var_width (us ++ v ∷ []) x)
        × (is_advised_var (vs ++ v ∷ []) x ≡ is_advised_var (us ++ v ∷ []) x)
    at true t =
        let there = stays_after us vs v h x t in
        (there.0, there.1 ∙ sym (stays_more us (v ∷ []) x t).1, there.2 ∙ sym (stays_more us (v ∷ []) x t).2)
    at false t =
        let it : bytes_eq v.name x ≡ true = ⊎_elim (λ k. absurd (both_ways (is_named us x) t k)) (λ k. k) (any_split (λ (u : Var). bytes_eq u.name x) us v e) in
        let other : is_named vs x ≡ false = ap (is_named vs) (sym (bytes_same v.name x it)) ∙ new in (
          any_last (λ (u : Var). bytes_eq u.name x) vs v it,
          new_width vs v x other it ∙ sym (new_width us v x t it),
          new_advised vs v x other it ∙ sym (new_advised us v x t it),
        )
