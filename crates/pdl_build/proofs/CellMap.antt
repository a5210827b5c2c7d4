-- One cell more among cells that are found again by a map.
use Rattle.std.proofs.Common.{◌≡◌, ◌≢◌, ℕ, zero, suc, Bool, true, false, cond, List, [], ◌∷◌, ◌++◌, length, Some, refl, sym, ap, ◌∙◌, arith, ◌⊎◌, inl, inr}
use Rattle.std.specs.Prelude.{slice_get, slice_index_or, take, AllPairs}
use Rattle.std.specs.HashMap.{get}
use Rattle.std.specs.Map.{lookup}
use Rattle.std.proofs.lemmas.Option.{slice_get-get_or}
use Rattle.pdl_net.specs.declared.Cell.{Cell}
use Rattle.pdl_net.specs.contracts.CellPartialEq.TheImpl as cell
use Rattle.pdl_net.proofs.Equal.{cell_equal}
use Rattle.pdl_build.specs.declared.distinct.DistinctCells.TheInside.{Inside}
use Rattle.pdl_build.specs.Distinct.{AreFound}
use Rattle.std.proofs.Math.Seq.{take-append_seam}

-- two cells are equal, by the program's test
abbrev pub same : Cell → Cell → Bool
same = cell.ghosts.eq

-- an element of a list with one more
at_pushed : {X : Type 0} (xs : List X) (x y : X) (k : ℕ)
    → slice_get (xs ++ x ∷ []) k ≡ Some y → (slice_get xs k ≡ Some y) ⊎ ((x ≡ y) × (length xs ≡ k))
at_pushed [] x y zero e = inr (cc, refl)
at_pushed [] x y (suc k) e = absurd (cc)
at_pushed (z ∷ xs) x y zero e = inl e
at_pushed (z ∷ xs) x y (suc k) e = elim (at_pushed xs x y k e) [
  | inl l ↦ inl l
  | inr r ↦ inr (r.0, ap suc r.1)
]

still_at : {X : Type 0} (xs : List X) (x y : X) (k : ℕ) → slice_get xs k ≡ Some y → slice_get (xs ++ x ∷ []) k ≡ Some y
still_at [] x y k e = absurd (cc)
still_at (z ∷ xs) x y zero e = e
still_at (z ∷ xs) x y (suc k) e = still_at xs x y k e

last_at : {X : Type 0} (xs : List X) (x : X) → slice_get (xs ++ x ∷ []) (length xs) ≡ Some x
last_at [] x = refl
last_at (z ∷ xs) x = last_at xs x

-- a list is as before after an element is pushed and popped again
pub popped : {X : Type 0} (xs ys zs : List X) (x : X) (n : ℕ) → ys ≡ xs ++ x ∷ [] → zs ≡ take n ys → n ≡ length xs → zs ≡ xs
popped xs ys zs x n e f l = f ∙ ap (λ i. take i ys) l ∙ ap (take (length xs)) e ∙ take-append_seam xs (x ∷ [])

-- the map still tells the place of each cell where cells and entries are the same
pub found_still : (a b : Inside) → b.cells.items ≡ a.cells.items → b.places.entries ≡ a.places.entries → AreFound same a → AreFound same b
found_still a b c p h = record {
  found = λ k g e. ap (λ es. lookup (same g) es) p ∙ h.found k g (ap (λ xs. slice_get xs k) (sym c) ∙ e);
  only = λ k g e. ap (λ xs. slice_get xs k) c ∙ h.only k g (ap (λ es. lookup (same g) es) (sym p) ∙ e);
}

differs : (g q : Cell) → g ≢ q → same g q ≡ false
differs g q n = go (same g q) refl
  where
    go : (t : Bool) → same g q ≡ t → t ≡ false
    go true e = absurd (n ((cell_equal g q).0 e))
    go false e = refl

module _ (a b : Inside) (g : Cell) (none : (k : ℕ) → slice_get a.cells.items k ≢ Some g)
    (c : b.cells.items ≡ a.cells.items ++ g ∷ [])
    (p : (q : Cell) → get same b.places q ≡ cond (same g q) (Some (length a.cells.items)) (get same a.places q))
    (h : AreFound same a) where
  found_in : (k : ℕ) (q : Cell) → slice_get b.cells.items k ≡ Some q → get same b.places q ≡ Some k
  found_in k q e = p q ∙ elim (at_pushed a.cells.items g q k (ap (λ xs. slice_get xs k) (sym c) ∙ e)) [
    | inl l ↦ ap (λ t. cond t (Some (length a.cells.items)) (get same a.places q)) (differs g q (λ s. none k (l ∙ ap Some (sym s)))) ∙ h.found k q l
    | inr r ↦ ap (λ t. cond t (Some (length a.cells.items)) (get same a.places q)) ((cell_equal g q).1 r.0) ∙ ap Some r.1
  ]

  only_in : (t : Bool) (k : ℕ) (q : Cell) → same g q ≡ t
      → cond t (Some (length a.cells.items)) (get same a.places q) ≡ Some k
      → slice_get (a.cells.items ++ g ∷ []) k ≡ Some q
  only_in true k q s e =
      let n : length a.cells.items ≡ k = cc e in
      ap (λ i. slice_get (a.cells.items ++ g ∷ []) i) (sym n) ∙ last_at a.cells.items g ∙ ap Some ((cell_equal g q).0 s)
  only_in false k q s e = still_at a.cells.items g q k (h.only k q e)

  -- the map still tells the place of each cell, and of no other, after a new cell is put last and into the map
  pub found_pushed : AreFound same b
  found_pushed = record {
    found = found_in;
    only = λ k q e. ap (λ xs. slice_get xs k) c ∙ only_in (same g q) k q refl (sym (p q) ∙ e);
  }

-- cells that are found at their places differ
pub differ_in_pairs : (b : Inside) → AreFound same b → AllPairs (λ x y. x ≢ y) b.cells.items
differ_in_pairs b h = λ i j d l m e.
    let xs = b.cells.items in
    let first = h.found i (slice_index_or xs i d) (slice_get-get_or xs i d (omega arith)) in
    let last = h.found j (slice_index_or xs j d) (slice_get-get_or xs j d m) in
    let n : i ≡ j = cc (first, last, e) in
    absurd (omega (arith, n, l))
