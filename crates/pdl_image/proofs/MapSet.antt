-- One place of a mapped list set to what another function gives there.
use Rattle.std.proofs.Common.{◌≡◌, ◌≢◌, ℕ, zero, suc, ◌<◌, refl, arith, List, [], ◌∷◌, length, map, get_or, set}

-- two functions that agree on each element of a list make the same list of it
pub map_same : {A B : Type 0} (f g : A → B) (xs : List A)
    → ((k : ℕ) (d : A) → k < length xs → f (get_or xs k d) ≡ g (get_or xs k d)) → map f xs ≡ map g xs
map_same f g [] h = refl
map_same f g (x ∷ xs) h =
    let e : f x ≡ g x = h 0 x (omega arith) in
    let t : map f xs ≡ map g xs = map_same f g xs (λ k d l. h (suc k) d (omega arith)) in
    cc

-- where two functions agree on all elements but one, the list of the first, set there, is that of the second
pub map_set : {A B : Type 0} (f g : A → B) (xs : List A) (i : ℕ) (y : B) → i < length xs → ((d : A) → y ≡ g (get_or xs i d))
    → ((k : ℕ) (d : A) → k < length xs → k ≢ i → f (get_or xs k d) ≡ g (get_or xs k d)) → set (map f xs) i y ≡ map g xs
map_set f g [] i y l at others = absurd (omega arith)
map_set f g (x ∷ xs) zero y l at others =
    let e : y ≡ g x = at x in
    let t : map f xs ≡ map g xs = map_same f g xs (λ k d h. others (suc k) d (omega arith) (λ q. absurd (omega arith))) in
    cc
map_set f g (x ∷ xs) (suc i) y l at others =
    let e : f x ≡ g x = others 0 x (omega arith) (λ q. absurd (omega arith)) in
    let t : set (map f xs) i y ≡ map g xs = map_set f g xs i y (omega arith) at (λ k d h ne. others (suc k) d (omega arith) (λ q. ne (omega arith))) in
    cc
