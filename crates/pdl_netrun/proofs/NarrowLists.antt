-- Lists of words of 64 bits, array by array.
use Rattle.std.proofs.Common.{◌≡◌, ◌∙◌, sym, ap, ap₂, subst, ℕ, ◌+◌, ◌<◌, ◌≤◌, List, [], ◌∷◌, ◌++◌, length, get_or, take, All, Vec, Global, arith}
use Rattle.std.proofs.lemmas.List.{map-append, map_more, take_all}
use Rattle.pdl_netrun.specs.Steps.{array_words}
use Rattle.pdl_netrun.specs.Held.{AreSmall}
use Rattle.pdl_netrun.proofs.Words.{word_list, count_lists}

-- one array more
pub arrays_more : (arrays narrow : List (Vec ℕ Global)) (k : ℕ) (a n : Vec ℕ Global)
    → k < length arrays → a ≡ get_or arrays k a → n.items ≡ a.items → array_words narrow ≡ array_words (take k arrays)
    → array_words (narrow ++ n ∷ []) ≡ array_words (take (k + 1) arrays)
arrays_more arrays narrow k a n h g e f =
    map-append (λ (v : Vec ℕ Global). v.items) narrow (n ∷ [])
    ∙ ap₂ (λ xs y. xs ++ y ∷ []) f (e ∙ ap (λ (v : Vec ℕ Global). v.items) g)
    ∙ sym (map_more (λ (v : Vec ℕ Global). v.items) arrays k a h)

-- all arrays
pub arrays_all : (arrays narrow : List (Vec ℕ Global)) (k : ℕ) → length arrays ≤ k
    → array_words narrow ≡ array_words (take k arrays) → array_words narrow ≡ array_words arrays
arrays_all arrays narrow k h e = e ∙ ap array_words (take_all k arrays h)

-- an array's words have no more bits than those of all arrays
pub array_small : (bits : ℕ) (arrays : List (Vec ℕ Global)) (k : ℕ) (a : Vec ℕ Global)
    → k < length arrays → a ≡ get_or arrays k a → All (AreSmall bits) (array_words arrays) → AreSmall bits a.items
array_small bits arrays k a h e f = subst (AreSmall bits) (word_list arrays k a h e) (f k [] (let n = count_lists arrays in omega (arith, h, n)))

pub ruleset arrays = (arrays_more, arrays_all, array_small)
