-- The names of ports and of memories: which differ, and which memory has a name.
use Rattle.std.proofs.Common.{◌≡◌, ◌≢◌, ◌⊎◌, inl, inr, ℕ, zero, suc, ◌<◌, false, List, [], ◌∷◌, length, get_or, map, AllPairs, bytes_eq, sym, ap, ◌∙◌, arith}
use Rattle.std.specs.Prelude.{⊤}
use Rattle.std.proofs.lemmas.Bool.{false≢true, or_parts}
use Rattle.std.proofs.lemmas.Slice.Eq.{bytes_eq-Decides}
use Rattle.pdl_semantics.specs.Tree.{Mem}
use Rattle.pdl_rules.specs.Typed.{is_memory, AreDistinct}
use Rattle.pdl_word.proofs.Bytes.{bytes_differ}

-- ---- equal names

-- names that the test tells apart differ
pub name_apart : (x y : List ℕ) → bytes_eq x y ≡ false → x ≢ y
name_apart x y e s = false≢true (sym e ∙ (bytes_eq-Decides x y).1 s)

-- names that the test tells apart are told apart the other way round too
pub name_turned : (x y : List ℕ) → bytes_eq x y ≡ false → bytes_eq y x ≡ false
name_turned x y e = bytes_differ y x (λ s. name_apart x y e (sym s))

-- ---- memories

-- the name of a memory
abbrev pub name_of_mem : Mem → List ℕ
name_of_mem m = m.name.name

-- the memory is one of these
abbrev pub Among : Mem → List Mem → Type 0
Among m [] = ⊥
Among m (x ∷ xs) = (x ≡ m) ⊎ Among m xs

-- a memory after one with a name that none of them has, has another name
pub among_other : (n : List ℕ) (ms : List Mem) (m : Mem) → is_memory ms n ≡ false → Among m ms → bytes_eq m.name.name n ≡ false
among_other n [] m e a = absurd a
among_other n (x ∷ xs) m e (inl s) = ap (λ (y : Mem). bytes_eq y.name.name n) (sym s) ∙ (or_parts (bytes_eq x.name.name n) (is_memory xs n) e).0
among_other n (x ∷ xs) m e (inr a) = among_other n xs m (or_parts (bytes_eq x.name.name n) (is_memory xs n) e).1 a

-- two of the memories with one name are the same
pub among_one : (ms : List Mem) → AreDistinct ms → (a b : Mem) → Among a ms → Among b ms → a.name.name ≡ b.name.name → a ≡ b
among_one [] h a b p q e = absurd p
among_one (x ∷ xs) h a b (inl s) (inl t) e = sym s ∙ t
among_one (x ∷ xs) h a b (inl s) (inr q) e =
    absurd (name_apart b.name.name x.name.name (among_other x.name.name xs b h.0 q) (sym e ∙ ap (λ (y : Mem). y.name.name) (sym s)))
among_one (x ∷ xs) h a b (inr p) (inl t) e =
    absurd (name_apart a.name.name x.name.name (among_other x.name.name xs a h.0 p) (e ∙ ap (λ (y : Mem). y.name.name) (sym t)))
among_one (x ∷ xs) h a b (inr p) (inr q) e = among_one xs h.1 a b p q e

-- ---- lists of names

-- no element is this name
abbrev pub IsNone : List ℕ → List (List ℕ) → Type 0
IsNone x [] = ⊤
IsNone x (y ∷ ys) = (x ≢ y) × IsNone x ys

-- all names differ
abbrev pub AllDiffer : List (List ℕ) → Type 0
AllDiffer [] = ⊤
AllDiffer (x ∷ xs) = IsNone x xs × AllDiffer xs

-- a name that is none of a list is at no place of the list
pub none_at : (x : List ℕ) (ys : List (List ℕ)) → IsNone x ys → (j : ℕ) (d : List ℕ) → j < length ys → x ≢ get_or ys j d
none_at x [] h j d l = absurd (omega arith)
none_at x (y ∷ ys) h zero d l = h.0
none_at x (y ∷ ys) h (suc j) d l = none_at x ys h.1 j d (omega arith)

-- names that all differ, by two places
pub all_pairs : (xs : List (List ℕ)) → AllDiffer xs → AllPairs (λ a b. a ≢ b) xs
all_pairs [] h i j d l m = absurd (omega arith)
all_pairs (x ∷ xs) h zero zero d l m = absurd (omega arith)
all_pairs (x ∷ xs) h zero (suc j) d l m = none_at x xs h.0 j d (omega arith)
all_pairs (x ∷ xs) h (suc i) zero d l m = absurd (omega arith)
all_pairs (x ∷ xs) h (suc i) (suc j) d l m = all_pairs xs h.1 i j d (omega arith) (omega arith)

-- the names of distinct memories differ
pub mem_none : (n : List ℕ) (ms : List Mem) → is_memory ms n ≡ false → IsNone n (map name_of_mem ms)
mem_none n [] e = tt
mem_none n (m ∷ ms) e =
    let parts = or_parts (bytes_eq m.name.name n) (is_memory ms n) e in
    ((λ s. name_apart m.name.name n parts.0 (sym s)), mem_none n ms parts.1)

-- the names of distinct memories all differ
pub mem_names_differ : (ms : List Mem) → AreDistinct ms → AllDiffer (map name_of_mem ms)
mem_names_differ [] h = tt
mem_names_differ (m ∷ ms) h = (mem_none m.name.name ms h.0, mem_names_differ ms h.1)
