-- Which memories have arrays, and their numbers.
use Rattle.std.proofs.Common.{◌≡◌, ℕ, Bool, true, false, not, List, [], ◌∷◌, ◌+◌, take, fold, refl, sym, ap, ◌∙◌}
use Rattle.std.proofs.lemmas.List.{take-map}
use Rattle.std.specs.Prelude.{is_some, count_by, if◌then◌else◌, Some, None}
use Rattle.pdl_semantics.specs.Flat.{Mem, is_delayed}
use Rattle.pdl_syntax_tree.specs.View.{mem_kind_view}
use Rattle.pdl_form.specs.declared.form.FlatMem as r_mem
use Rattle.pdl_form.specs.View.{mem_view, mems_view}
use Rattle.pdl_pipe_walk.specs.Locked.{array_of}

-- a memory has an array just where it isn't delayed
pub some_array : (mem : Mem) (i : ℕ) → is_some (array_of mem i) ≡ not (is_delayed mem.kind)
some_array mem i = by (is_delayed mem.kind)
  where
    by : (b : Bool) → is_some (if b then None else Some i) ≡ not b
    by true = refl
    by false = refl

turned : (b : Bool) → not b ≡ (if b then false else true)
turned true = refl
turned false = refl

counted : (ms : List r_mem.FlatMem) (n : ℕ)
    → fold (λ (a : ℕ) (x : r_mem.FlatMem). a + (if not (is_delayed (mem_kind_view x.kind)) then 1 else 0)) n ms
    ≡ fold (λ (a : ℕ) (x : Mem). a + (if (if is_delayed x.kind then false else true) then 1 else 0)) n (mems_view ms)
counted [] n = refl
counted (x ∷ xs) n =
    ap (λ (b : Bool). fold (λ (a : ℕ) (x : r_mem.FlatMem). a + (if not (is_delayed (mem_kind_view x.kind)) then 1 else 0))
    (n + (if b then 1 else 0)) xs) (turned (is_delayed (mem_kind_view x.kind)))
    ∙ counted xs (n + (if (if is_delayed (mem_kind_view x.kind) then false else true) then 1 else 0))

-- memories that answer at once, of the program's and of the pipe's
pub count_same : (ms : List r_mem.FlatMem) (m : ℕ)
    → count_by (λ (x : r_mem.FlatMem). not (is_delayed (mem_kind_view x.kind))) (take m ms)
    ≡ count_by (λ (x : Mem). if is_delayed x.kind then false else true) (take m (mems_view ms))
count_same ms m = counted (take m ms) 0 ∙ ap (count_by (λ (x : Mem). if is_delayed x.kind then false else true)) (sym (take-map mem_view m ms))
