-- What is said of the memories of a flat form, said of the tree that it is made from.
use Rattle.std.proofs.Common.{◌≡◌, refl, ap, ap₂, ◌∙◌, subst, ℕ, zero, suc, ◌+◌, true, false, not, Bool, List, [], ◌∷◌, ◌++◌, map, arith}
use Rattle.std.specs.Prelude.{Option, Some, None, slice_index_or, if◌then◌else◌, filter}
use Rattle.pdl_kit.specs.declared.mem_info.MemInfo.{MemInfo}
use Rattle.pdl_semantics.specs.Tree.{LockDecl, Mem}
use Rattle.pdl_semantics.specs.Flat as flat
use Rattle.pdl_semantics.specs.Flat.{has_lock, is_delayed}
use Rattle.pdl_semantics.specs.Flatten.{flat_lock, mems_of}
use Rattle.pdl_semantics.specs.Stages.{plain_mem}
use Rattle.pdl_semantics.proofs.Facts.{lock_declared}
use Rattle.pdl_rules.specs.Memories.{infos_of, info_of}
use Rattle.pdl_net.specs.Circuit.{Shape}
use Rattle.pdl_form.specs.Form.{names_of}
use Rattle.pdl_law_parts.specs.Ports.{Commits}
use Rattle.pdl_law_parts.specs.DeclaredMems.{array_words, shape_of_mem, mem_names, CommitsFit}
use Rattle.pdl_lockapi.specs.Sizes.{words_in}
use Rattle.pdl_lockapi.proofs.LockKinds.{lock_is, words_are}
use Rattle.pdl_pipe_locks.specs.Suited.{shapes_in}
use Rattle.pdl_pipe_locks.proofs.Law.{BothFit}
use Rattle.pdl_law_follows.specs.Memories.{delayed_of, comb_of, net_infos}
use Rattle.pdl_pipe.specs.Infos.{is_told}

-- ---- arrays

same_words : (l : Option LockDecl) (d : ℕ) → words_in (flat_lock l) d ≡ array_words l d
same_words None d = refl
same_words (Some l) d = ap (λ x. words_in x d) (lock_is l) ∙ words_are l.kind l.size.value d

-- the shapes of the arrays are those of the memories that answer at once
pub same_shapes : (ms : List Mem) → shapes_in (names_of ms) (mems_of ms) ≡ map shape_of_mem (comb_of ms)
same_shapes [] = refl
same_shapes (m ∷ ms) = at (is_delayed m.kind) (same_shapes ms)
  where
    rest : List Shape
    rest = shapes_in (names_of ms) (mems_of ms)

    shape : Shape
    shape = record { name = m.name.name; width = m.width.value; depth = words_in (flat_lock m.lock) m.depth.value }

    at : (b : Bool) → rest ≡ map shape_of_mem (comb_of ms)
        → (if b then [] else shape ∷ []) ++ rest ≡ map shape_of_mem (if not b then m ∷ comb_of ms else comb_of ms)
    at true h = h
    at false h =
        ap₂ (λ (n : ℕ) (ss : List Shape). record { name = m.name.name; width = m.width.value; depth = n } ∷ ss) (same_words m.lock m.depth.value) h

-- ---- names

-- the m-th name in the list of the memories' names is that of memory m
pub same_names : (ms : List Mem) (m : ℕ) → slice_index_or (names_of ms) m [] ≡ mem_names ms m
same_names [] m = refl
same_names (x ∷ xs) zero = refl
same_names (x ∷ xs) (suc m) = same_names xs m

-- ---- as they are told

told_delayed : (ms : List Mem) → filter (is_told true) (infos_of ms) ≡ map info_of (delayed_of ms)
told_delayed [] = refl
told_delayed (m ∷ ms) = at (is_delayed m.kind) (told_delayed ms)
  where
    rest : List MemInfo
    rest = filter (is_told true) (infos_of ms)

    at : (b : Bool) → rest ≡ map info_of (delayed_of ms)
        → (if b then info_of m ∷ rest else rest) ≡ map info_of (if b then m ∷ delayed_of ms else delayed_of ms)
    at true h = ap (λ is. info_of m ∷ is) h
    at false h = h

told_comb : (ms : List Mem) → filter (is_told false) (infos_of ms) ≡ map info_of (comb_of ms)
told_comb [] = refl
told_comb (m ∷ ms) = at (is_delayed m.kind) (told_comb ms)
  where
    rest : List MemInfo
    rest = filter (is_told false) (infos_of ms)

    at : (b : Bool) → rest ≡ map info_of (comb_of ms)
        → (if not b then info_of m ∷ rest else rest) ≡ map info_of (if not b then m ∷ comb_of ms else comb_of ms)
    at true h = h
    at false h = ap (λ is. info_of m ∷ is) h

-- the delayed ones first
told_infos : (ms : List Mem) → filter (is_told true) (infos_of ms) ++ filter (is_told false) (infos_of ms) ≡ net_infos ms
told_infos ms = ap₂ (λ (xs ys : List MemInfo). xs ++ ys) (told_delayed ms) (told_comb ms)

-- so a netlist has them that is told these
pub mems_as : (ms : List Mem) (told copies mems : List MemInfo) → mems ≡ copies
    → copies ≡ filter (is_told true) told ++ filter (is_told false) told → told ≡ infos_of ms → mems ≡ net_infos ms
mems_as ms told copies mems e copied is = e ∙ copied ∙ ap (λ is. filter (is_told true) is ++ filter (is_told false) is) is ∙ told_infos ms

-- ---- commits

abbrev mem_in : List Mem → ℕ → flat.Mem
mem_in ms i = slice_index_or (mems_of ms) i plain_mem

fits_from : (commits : ℕ → Commits) (k : ℕ) (ms : List Mem)
    → ((i j : ℕ) → j ≡ k + i → has_lock (mem_in ms i).lock ≡ true → BothFit (mem_in ms i) (commits j)) → CommitsFit commits k ms
fits_from commits k [] h = tt
fits_from commits k (m ∷ ms) h = (
  λ s. let q = h 0 k (omega arith) (lock_declared m.lock ∙ s) in
      (record { enable = q.0.0; reach = q.0.1; value = q.0.2 }, record { enable = q.1.0; reach = q.1.1; value = q.1.2 }),
  fits_from commits (suc k) ms (λ i j e s. h (suc i) j (omega (arith, e)) s),
)

-- where commits fit the flat memories that have a lock, they fit those of the tree
pub commits_fit : (commits : ℕ → Commits) (ms : List Mem)
    → ((m : ℕ) → has_lock (mem_in ms m).lock ≡ true → BothFit (mem_in ms m) (commits m)) → CommitsFit commits 0 ms
commits_fit commits ms h =
    fits_from commits 0 ms (λ i j e s. subst (λ n. BothFit (mem_in ms i) (commits n)) (let z : i ≡ j = omega (arith, e) in z) (h i s))
