-- Where a location stands, by whether it is held.
use Rattle.std.proofs.Common.{◌≡◌, refl, sym, ap, ap₂, ◌∙◌, ℕ, suc, ◌+◌, ◌<◌, ◌≤◌, Bool, true, false, ◌&&◌, ◌||◌, if◌then◌else◌, ◌==◌, List, [], ◌∷◌, ◌++◌, map, take, drop, length, arith}
use Rattle.std.proofs.lemmas.List.{length-map, map-append, take-map, drop-map}
use Rattle.pdl_semantics.specs.Machine.{HeldLocation}
use Rattle.pdl_semantics.specs.Machine as machine
use Rattle.pdl_machine_run.specs.declared.place.LocationNumbers as r_place
use Rattle.pdl_machine_run.specs.View.{place_view}
use Rattle.pdl_machine_run.specs.Places.{place_index}

place_there : (ls : List HeldLocation) (m a : ℕ)
    → place_index ls m a < length ls
    → (true ≡ machine.is_held ls m a) × (take (place_index ls m a) ls ++ drop (place_index ls m a + 1) ls ≡ machine.let_go ls m a)
place_there [] m a h = absurd (omega arith)
place_there (l ∷ ls) m a h = here ((l.mem == m) && (l.var == a)) h (λ less. place_there ls m a less)
  where
    here : (b : Bool) → (if b then 0 else suc (place_index ls m a)) < suc (length ls)
        → (place_index ls m a < length ls
        → (true ≡ machine.is_held ls m a) × (take (place_index ls m a) ls ++ drop (place_index ls m a + 1) ls ≡ machine.let_go ls m a))
        → (true ≡ (b || machine.is_held ls m a))
        × (take (if b then 0 else suc (place_index ls m a)) (l ∷ ls) ++ drop ((if b then 0 else suc (place_index ls m a)) + 1) (l ∷ ls)
        ≡ (if b then ls else l ∷ machine.let_go ls m a))
    here true less more = (refl, refl)
    here false less more =
        let one = more (omega arith) in
        let up : suc (place_index ls m a) + 1 ≡ suc (place_index ls m a + 1) = omega arith in
        (one.0, ap (λ k. l ∷ (take (place_index ls m a) ls ++ drop k (l ∷ ls))) up ∙ ap (λ (xs : List HeldLocation). l ∷ xs) one.1)

place_nowhere : (ls : List HeldLocation) (m a : ℕ)
    → length ls ≤ place_index ls m a → (false ≡ machine.is_held ls m a) × (ls ≡ machine.let_go ls m a)
place_nowhere [] m a h = (refl, refl)
place_nowhere (l ∷ ls) m a h = here ((l.mem == m) && (l.var == a)) h (λ less. place_nowhere ls m a less)
  where
    here : (b : Bool) → suc (length ls) ≤ (if b then 0 else suc (place_index ls m a))
        → (length ls ≤ place_index ls m a → (false ≡ machine.is_held ls m a) × (ls ≡ machine.let_go ls m a))
        → (false ≡ (b || machine.is_held ls m a)) × (l ∷ ls ≡ (if b then ls else l ∷ machine.let_go ls m a))
    here true less more = absurd (omega arith)
    here false less more = let one = more (omega arith) in (one.0, ap (λ (xs : List HeldLocation). l ∷ xs) one.1)

-- as the program holds them
module _ (xs : List r_place.LocationNumbers) (m a i : ℕ) (same : i ≡ place_index (map place_view xs) m a) where
  -- a list without the location at its place is the list after the location is let go
  pub gone : i < length xs → map place_view (take i xs ++ drop (i + 1) xs) ≡ machine.let_go (map place_view xs) m a
  gone h =
      let counted : length (map place_view xs) ≡ length xs = length-map _ _ in
      map-append place_view (take i xs) (drop (i + 1) xs)
      ∙ ap₂ (λ (a b : List HeldLocation). a ++ b) (sym (take-map place_view i xs)) (sym (drop-map place_view (i + 1) xs))
      ∙ ap (λ j. take j (map place_view xs) ++ drop (j + 1) (map place_view xs)) same
      ∙ (place_there (map place_view xs) m a (omega arith)).1

  -- letting go of a location that isn't held changes nothing
  pub kept : length xs ≤ i → map place_view xs ≡ machine.let_go (map place_view xs) m a
  kept h =
      let counted : length (map place_view xs) ≡ length xs = length-map _ _ in
      (place_nowhere (map place_view xs) m a (omega arith)).1
