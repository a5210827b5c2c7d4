-- Which arrays hold a memory's words and pending writes apart.
use Rattle.std.proofs.Common.{◌≡◌, refl, sym, ◌∙◌, ℕ, zero, suc, ◌+◌, ◌<◌, List, [], ◌∷◌, map, arith}
use Rattle.std.specs.Prelude.{slice_index, slice_index_or, Some, None}
use Rattle.pdl_semantics.specs.Machine.{Pending}
use Rattle.pdl_pipe.specs.KeptPlaces.{HoldsApart}

-- the words of a memory of two
abbrev pub two : ℕ → ℕ
two a = slice_index (5 ∷ 6 ∷ []) a

-- a pending write of 7
abbrev pub seven : Pending
seven = record { thread = 1; var = 0; address = 0; value = Some 7 }

-- not one in which a written value is missing
pub value_missing : HoldsApart (5 ∷ 6 ∷ 0 ∷ 0 ∷ []) 2 two (seven ∷ []) → ⊥
value_missing h = at (h.place 2) (h.value 0 7 refl)
  where
    at : (i : ℕ) → slice_index (5 ∷ 6 ∷ 0 ∷ 0 ∷ []) i ≡ 7 → ⊥
    at zero e = let f : 5 ≡ 7 = e in absurd (omega (arith, f))
    at (suc zero) e = let f : 6 ≡ 7 = e in absurd (omega (arith, f))
    at (suc (suc zero)) e = let f : 0 ≡ 7 = e in absurd (omega (arith, f))
    at (suc (suc (suc zero))) e = let f : 0 ≡ 7 = e in absurd (omega (arith, f))
    at (suc (suc (suc (suc i)))) e = let f : 0 ≡ 7 = e in absurd (omega (arith, f))

-- where the one word 7 of an array is
only_two : (i : ℕ) → slice_index (5 ∷ 6 ∷ 7 ∷ 0 ∷ []) i ≡ 7 → i ≡ 2
only_two zero e = let f : 5 ≡ 7 = e in absurd (omega (arith, f))
only_two (suc zero) e = let f : 6 ≡ 7 = e in absurd (omega (arith, f))
only_two (suc (suc zero)) e = refl
only_two (suc (suc (suc zero))) e = let f : 0 ≡ 7 = e in absurd (omega (arith, f))
only_two (suc (suc (suc (suc i)))) e = let f : 0 ≡ 7 = e in absurd (omega (arith, f))

-- nor one in which two written values share a place
pub values_at_one_place : HoldsApart (5 ∷ 6 ∷ 7 ∷ 0 ∷ []) 2 two (seven ∷ seven ∷ []) → ⊥
values_at_one_place h =
    let first = only_two (h.place 2) (h.value 0 7 refl) in
    let second = only_two (h.place 3) (h.value 1 7 refl) in
    let same : 2 ≡ 3 = h.apart 2 3 (omega arith) (omega arith) (first ∙ sym second) in
    absurd (omega (arith, same))

-- but one in which they have two
pub values_apart : HoldsApart (5 ∷ 6 ∷ 7 ∷ 7 ∷ []) 2 two (seven ∷ seven ∷ [])
values_apart = record {
  place = λ i. i;
  within = λ i l. l;
  apart = λ i j l k e. e;
  word = at;
  value = found;
}
  where
    at : (a : ℕ) → a < 2 → slice_index (5 ∷ 6 ∷ 7 ∷ 7 ∷ []) a ≡ two a
    at zero l = refl
    at (suc zero) l = refl
    at (suc (suc a)) l = absurd (omega (arith, l))

    found : (k v : ℕ) → slice_index_or (map (λ e. e.value) (seven ∷ seven ∷ [])) k None ≡ Some v → slice_index (5 ∷ 6 ∷ 7 ∷ 7 ∷ []) (2 + k) ≡ v
    found zero v e = cc e
    found (suc zero) v e = cc e
    found (suc (suc k)) v e = absurd (cc e)
