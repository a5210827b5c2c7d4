-- Entries of a dictionary.
use Rattle.std.proofs.Common.{◌≡◌, ℕ, zero, suc, ◌+◌, arith, take, ltb, inl, inr, not, ◌&&◌, Bool, true, false, cond, List, [], ◌∷◌, ◌++◌, length, refl, ap, sym, ◌∙◌, Option, Some, None, is_some, bytes_eq, nat_eq, if◌then◌else◌}
use Rattle.std.specs.Cmp.Lexicographic.{pointwise}
use Rattle.std.specs.List.{position, position_or_len}
use Rattle.std.specs.Map.{keys_of, lookup}
use Rattle.indexmap.specs.IndexMap.{insert_entry}
use Rattle.pdl_asm_table.specs.Dictionaries.{value_of, with_definition}
use Rattle.std.proofs.lemmas.Bool.{cases_lt, eqb-true, le-ltb, lt-ltb}
use Rattle.pdl_asm_table.specs.Tables.{AreWide, breaks_b3, first_broken}
use Rattle.pdl_asm_table.specs.declared.table.Insn.{Insn}
use Rattle.pdl_word.proofs.Bools.{none_given}

insert_step : {T : Type 0} (a : Bool) (x : List ℕ) (v : T) (e : List ℕ × T) (es fs : List (List ℕ × T)) (o : Option T)
    → is_some (cond a (Some e.1) o) ≡ false → (is_some o ≡ false → fs ≡ es ++ (x, v) ∷ [])
    → (if a then (e.0, v) ∷ es else e ∷ fs) ≡ e ∷ (es ++ (x, v) ∷ [])
insert_step true x v e es fs o h k = cc
insert_step false x v e es fs o h k = ap (λ gs. e ∷ gs) (k h)

-- a new name comes last
pub insert_new : {T : Type 0} (es : List (List ℕ × T)) (x : List ℕ) (v : T)
    → is_some (value_of es x) ≡ false → insert_entry (pointwise nat_eq) es x v ≡ es ++ (x, v) ∷ []
insert_new [] x v h = refl
insert_new (e ∷ es) x v h = insert_step (bytes_eq x e.0) x v e es _ _ h (λ k. insert_new es x v k)

-- a name that is there already
pub defined_there : {T : Type 0} (es fs : List (List ℕ × T)) (x : List ℕ) (v : T) (o : Option T)
    → o ≡ lookup (pointwise nat_eq x) es → es ≡ fs → is_some o ≡ true → fs ≡ with_definition fs x v
defined_there es fs x v o h k s =
    let known = ap (λ gs. is_some (value_of gs x)) (sym k) ∙ ap is_some (sym h) ∙ s in
    sym (ap (λ b. if b then fs else fs ++ (x, v) ∷ []) known)

-- a name that has no value yet, inserted with one, is a definition more
pub defined_new : {T : Type 0} (es fs gs : List (List ℕ × T)) (x : List ℕ) (v : T) (o : Option T)
    → o ≡ lookup (pointwise nat_eq x) es → es ≡ fs → is_some o ≡ false → gs ≡ insert_entry (pointwise nat_eq) es x v
    → gs ≡ with_definition fs x v
defined_new es fs gs x v o h k s i =
    let missing = ap is_some (sym h) ∙ s in
    let unknown = ap (λ hs. is_some (value_of hs x)) (sym k) ∙ missing in
    i ∙ insert_new es x v missing ∙ ap (λ hs. hs ++ (x, v) ∷ []) k ∙ sym (ap (λ b. if b then fs else fs ++ (x, v) ∷ []) unknown)

-- an index is below a count
abbrev below : ℕ → Option ℕ → Bool
below count (Some index) = ltb index count
below count None = false

below_zero : (o : Option ℕ) → below 0 o ≡ false
below_zero None = refl
below_zero (Some index) = le-ltb index 0 (omega arith)

ltb_next : (k n : ℕ) → ltb (1 + k) (suc n) ≡ ltb k n
ltb_next k n = elim (cases_lt k n) [
  | inl h ↦ lt-ltb (1 + k) (suc n) (omega (arith, h)) ∙ sym (lt-ltb k n h)
  | inr h ↦ le-ltb (1 + k) (suc n) (omega (arith, h)) ∙ sym (le-ltb k n h)
]

below_next : (b : Bool) (count index : ℕ) → below (suc count) (cond b (Some (1 + index)) None) ≡ below count (cond b (Some index) None)
below_next true count index = ltb_next index count
below_next false count index = refl

-- the first place that passes, by whether the first item does
abbrev place_from : (b : Bool) (k n : ℕ) → Option ℕ
place_from b k n = cond (ltb (cond (not b) (1 + k) 0) (suc n)) (Some (cond (not b) (1 + k) 0)) None

among_step : {T : Type 0} (b : Bool) (v : T) (o : Option T) (count k n : ℕ) → below count (cond (ltb k n) (Some k) None) ≡ is_some o
    → below (suc count) (place_from b k n) ≡ is_some (cond b (Some v) o)
among_step true v o count k n h =
    ap (λ c. below (suc count) (cond c (Some 0) None)) (lt-ltb 0 (suc n) (omega arith)) ∙ lt-ltb 0 (suc count) (omega arith)
among_step false v o count k n h =
    ap (λ c. below (suc count) (cond c (Some (1 + k)) None)) (ltb_next k n) ∙ below_next (ltb k n) count k ∙ h

-- a name is among the first entries where its index is below their count
pub among : {T : Type 0} (es : List (List ℕ × T)) (count : ℕ) (x : List ℕ)
    → below count (position (bytes_eq x) (keys_of es)) ≡ is_some (value_of (take count es) x)
among es zero x = below_zero (position (bytes_eq x) (keys_of es))
among [] (suc count) x = refl
among (e ∷ es) (suc count) x =
    among_step (bytes_eq x e.0) e.1 (value_of (take count es) x) count (position_or_len (bytes_eq x) (keys_of es)) (length (keys_of es)) (among es count x)

-- the index that was found tells whether the name is among the first entries
pub among_found : {T : Type 0} (es fs : List (List ℕ × T)) (count : ℕ) (x : List ℕ) (o r : Option ℕ)
    → o ≡ position (pointwise nat_eq x) (keys_of es) → es ≡ fs → o ≡ r
    → below count r ≡ is_some (value_of (take count fs) x)
among_found es fs count x o r h k e = ap (below count) (sym e ∙ h) ∙ among es count x ∙ ap (λ gs. is_some (value_of (take count gs) x)) k

wide_step : (bits : ℕ) (b : Bool) (e : Insn) (o : Option Insn) (i : Insn)
    → length e.bits ≡ bits → (o ≡ Some i → length i.bits ≡ bits) → cond b (Some e) o ≡ Some i → length i.bits ≡ bits
wide_step bits true e o i h k f = let s : e ≡ i = cc f in ap (λ (j : Insn). length j.bits) (sym s) ∙ h
wide_step bits false e o i h k f = k f

-- an instruction that a table has is as wide as all are
pub wide_found : (bits : ℕ) (es : List (List ℕ × Insn)) (name : List ℕ) (i : Insn) → AreWide bits es
    → value_of es name ≡ Some i → length i.bits ≡ bits
wide_found bits [] name i h f = cc
wide_found bits (e ∷ es) name i h f = wide_step bits (bytes_eq name e.0) e.1 (value_of es name) i h.0 (λ g. wide_found bits es name i h.1 g) f

-- ---- instructions that keep B3

and_true : (a b : Bool) → not (a && b) ≡ false → b ≡ true
and_true true true h = refl
and_true true false h = cc
and_true false b h = cc

-- where no instruction breaks B3, each has as many bits as a word
pub wide_if_none : (word k : ℕ) (es : List (List ℕ × Insn)) → first_broken (breaks_b3 word) k es ≡ None → AreWide word es
wide_if_none word k [] h = tt
wide_if_none word k (e ∷ es) h =
    let f = none_given (breaks_b3 word e.1) k _ h in
    (eqb-true (length e.1.bits) word (and_true _ _ f.0), wide_if_none word (k + 1) es f.1)
