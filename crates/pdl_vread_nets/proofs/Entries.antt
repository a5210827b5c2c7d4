-- Where names first stand, as a map tells it.
use Rattle.std.proofs.Common.{◌≡◌, ◌≢◌, ℕ, suc, ◌+◌, Bool, true, false, cond, List, [], ◌∷◌, ◌++◌, length, Option, Some, None, is_some, nat_eq, bytes_eq, refl, sym, ap, ◌∙◌, subst, arith, length-append}
use Rattle.std.proofs.lemmas.Slice.Eq.{bytes_eq-Decides}
use Rattle.std.specs.Option.{option_map}
use Rattle.std.specs.Cmp.Lexicographic.{pointwise}
use Rattle.std.specs.HashMap.{get, Updates}
use Rattle.pdl_vread_nets.specs.declared.places.Places as r
use Rattle.pdl_vread_nets.specs.Wired.{place, shifted}
use Rattle.pdl_vread_nets.specs.Places.{AreFirsts}
use Rattle.pdl_word.proofs.Lists.{is_some-mapped}
use Rattle.pdl_word.proofs.Bytes.{bytes_swap}

abbrev later : Option ℕ → Option ℕ → Option ℕ
later (Some i) o = Some i
later None o = o

later_none : (o : Option ℕ) → later o None ≡ o
later_none (Some i) = refl
later_none None = refl

shifted_later : (o q : Option ℕ) → shifted (later o q) ≡ later (shifted o) (shifted q)
shifted_later (Some i) q = refl
shifted_later None q = refl

shifted_cond : (b : Bool) (n : ℕ) → shifted (cond b (Some n) None) ≡ cond b (Some (suc n)) None
shifted_cond true n = refl
shifted_cond false n = refl

first_later : (b : Bool) (o q : Option ℕ) → cond b (Some 0) (later o q) ≡ later (cond b (Some 0) o) q
first_later true o q = refl
first_later false o q = refl

-- one name more
place_more : (names : List (List ℕ)) (x y : List ℕ)
    → place (names ++ x ∷ []) y ≡ later (place names y) (cond (bytes_eq y x) (Some (length names)) None)
place_more [] x y = refl
place_more (n ∷ ns) x y =
    ap (λ o. cond (bytes_eq y n) (Some 0) (shifted o)) (place_more ns x y)
    ∙ (ap (λ o. cond (bytes_eq y n) (Some 0) o)
    (shifted_later (place ns y) (cond (bytes_eq y x) (Some (length ns)) None) ∙ ap (later (shifted (place ns y))) (shifted_cond (bytes_eq y x) (length ns)))
    ∙ first_later (bytes_eq y n) (shifted (place ns y)) (cond (bytes_eq y x) (Some (suc (length ns))) None))

there : (o q : Option ℕ) → is_some o ≡ true → later o q ≡ o
there (Some i) q k = refl
there None q k = cc

absent : (o q : Option ℕ) → is_some o ≡ false → later o q ≡ q
absent (Some i) q k = cc
absent None q k = refl

-- a name that is there already changes nothing
more_there : (names : List (List ℕ)) (x y : List ℕ) → is_some (place names x) ≡ true → place (names ++ x ∷ []) y ≡ place names y
more_there names x y h = place_more names x y ∙ go (bytes_eq y x) refl
  where
    go : (b : Bool) → bytes_eq y x ≡ b → later (place names y) (cond b (Some (length names)) None) ≡ place names y
    go true e =
        let same : y ≡ x = (bytes_eq-Decides y x).0 e in
        let k : is_some (place names y) ≡ true = subst (λ z. is_some (place names z) ≡ true) (sym same) h in
        there (place names y) (Some (length names)) k
    go false e = later_none (place names y)

-- a new name
more_new : (names : List (List ℕ)) (x y : List ℕ)
    → is_some (place names x) ≡ false
    → place (names ++ x ∷ []) y ≡ cond (bytes_eq x y) (Some (length names)) (place names y)
more_new names x y h = place_more names x y ∙ (go (bytes_eq y x) refl ∙ ap (λ b. cond b (Some (length names)) (place names y)) (bytes_swap y x))
  where
    go : (b : Bool) → bytes_eq y x ≡ b → later (place names y) (cond b (Some (length names)) None) ≡ cond b (Some (length names)) (place names y)
    go true e =
        let same : y ≡ x = (bytes_eq-Decides y x).0 e in
        let k : is_some (place names y) ≡ false = subst (λ z. is_some (place names z) ≡ false) (sym same) h in
        absent (place names y) (Some (length names)) k
    go false e = later_none (place names y)

-- whether two names have the same bytes
abbrev pub same : List ℕ → List ℕ → Bool
same = pointwise nat_eq

count_more : (names : List (List ℕ)) (x : List ℕ) (n m : ℕ) → n ≡ length names → m ≡ n + 1 → m ≡ length (names ++ x ∷ [])
count_more names x n m e f = let k = length-append names (x ∷ []) in omega (arith, e, f, k)

-- a name that stands among the names already leaves the map of first places as it is
pub added_there : (old new : r.Places) (names : List (List ℕ)) (x : List ℕ) → AreFirsts names old
    → is_some (get same old.firsts x) ≡ true → new.firsts ≡ old.firsts → new.count ≡ old.count + 1
    → AreFirsts (names ++ x ∷ []) new
added_there old new names x h s e f = record {
  count = count_more names x old.count new.count h.count f;
  firsts = λ y. ap (λ m. get same m y) e ∙ (h.firsts y ∙ sym (more_there names x y (subst (λ o. is_some o ≡ true) (h.firsts x) s)));
}

-- a new name is added to the map of first places, with the next place
pub added_new : (old new : r.Places) (names : List (List ℕ)) (x : List ℕ) → AreFirsts names old
    → is_some (get same old.firsts x) ≡ false → Updates same old.firsts new.firsts x (Some old.count)
    → new.count ≡ old.count + 1 → AreFirsts (names ++ x ∷ []) new
added_new old new names x h s u f = record {
  count = count_more names x old.count new.count h.count f;
  firsts =
      λ y. u.0 y
      ∙ (ap (λ n. cond (same x y) (Some n) (get same old.firsts y)) h.count
      ∙ (ap (λ o. cond (same x y) (Some (length names)) o) (h.firsts y) ∙ sym (more_new names x y (subst (λ o. is_some o ≡ false) (h.firsts x) s))));
}

-- a looked-up value is there just where what it stands for is
pub is_there : {T U : Type 0} (f : T → U) (o : Option T) (q : Option U) (b : Bool) → option_map f o ≡ q → b ≡ is_some o → is_some q ≡ b
is_there f o q b e h = ap is_some (sym e) ∙ (is_some-mapped f o ∙ sym h)
