-- The arrays of a compiled pipe: one for each memory, with its name and sizes.
use Rattle.std.proofs.Common.{◌≡◌, inl, inr, ℕ, zero, suc, ◌<◌, Bool, true, false, if◌then◌else◌, List, [], ◌∷◌, ◌++◌, length, get_or, map, All, Option, Some, None, refl, sym, ap, ap₂, ◌∙◌, subst, arith}
use Rattle.std.specs.Option.{is_some}
use Rattle.std.specs.List.{AllByRecursion}
use Rattle.std.proofs.lemmas.Bool.{false≢true}
use Rattle.std.proofs.lemmas.List.Elements.{All-from_recursion}
use Rattle.pdl_kit.specs.declared.mem_info.MemInfo.{MemInfo}
use Rattle.pdl_semantics.specs.Tree.{LockDecl, Mem}
use Rattle.pdl_semantics.specs.Flat.{is_delayed}
use Rattle.pdl_net.specs.declared.Array.{Array}
use Rattle.pdl_net.specs.Circuit.{Shape, shape_of}
use Rattle.pdl_net.specs.Pipe.{PortMem, comb_info}
use Rattle.pdl_law_parts.specs.DeclaredMems.{port_mem, locked_of, has_lock, array_words, shape_of_mem}
use Rattle.pdl_law_parts.proofs.WellFormedNames.{Among, name_of_mem}
use Rattle.pdl_law_parts.proofs.WellFormedMems.{Reaches}
use Rattle.pdl_rules.specs.Memories.{info_of}

-- ---- names

-- the name of an array
abbrev pub name_of_array : Array → List ℕ
name_of_array a = a.name

-- arrays with the shapes of memories have the memories' names
pub array_names_are : (ars : List Array) (ms : List Mem)
    → map shape_of ars ≡ map shape_of_mem ms → map name_of_array ars ≡ map name_of_mem ms
array_names_are [] [] e = refl
array_names_are [] (m ∷ ms) e = absurd (cc e)
array_names_are (a ∷ ars) [] e = absurd (cc e)
array_names_are (a ∷ ars) (m ∷ ms) e =
    let here : shape_of a ≡ shape_of_mem m = cc e in
    let rest : map shape_of ars ≡ map shape_of_mem ms = cc e in
    ap₂ (λ x xs. x ∷ xs) (ap (λ (s : Shape). s.name) here) (array_names_are ars ms rest)

-- ---- the array of a memory

-- the k-th array is that of the k-th memory
pub record IsArrayOf (ms : List Mem) (k : ℕ) (a : Array) (m : Mem) : Type 0 where
  pub shape : shape_of a ≡ shape_of_mem m
  pub among : Among m ms
  pub lock : has_lock ms k ≡ is_some m.lock

-- each array is that of a memory
pub array_mem : (ars : List Array) (ms : List Mem)
    → map shape_of ars ≡ map shape_of_mem ms → (k : ℕ) (d : Array) → k < length ars
    → (m : Mem) × IsArrayOf ms k (get_or ars k d) m
array_mem [] ms e k d l = absurd (omega arith)
array_mem (a ∷ ars) [] e k d l = absurd (cc e)
array_mem (a ∷ ars) (m ∷ ms) e zero d l = (m, record { shape = cc e; among = inl refl; lock = refl })
array_mem (a ∷ ars) (m ∷ ms) e (suc k) d l =
    let rest : map shape_of ars ≡ map shape_of_mem ms = cc e in
    let w = array_mem ars ms rest k d (omega arith) in
    (w.0, record { shape = w.1.shape; among = inr w.1.among; lock = w.1.lock })

-- each memory has an array
pub mem_array : (ars : List Array) (ms : List Mem)
    → map shape_of ars ≡ map shape_of_mem ms → (m : Mem) → Among m ms → (d : Array)
    → (k : ℕ) × (k < length ars) × IsArrayOf ms k (get_or ars k d) m
mem_array [] [] e m h d = absurd h
mem_array (a ∷ ars) [] e m h d = absurd h
mem_array [] (x ∷ xs) e m h d = absurd (cc e)
mem_array (a ∷ ars) (x ∷ xs) e m (inl s) d =
    (0, (omega arith), subst (λ (y : Mem). IsArrayOf (x ∷ xs) 0 a y) s (record { shape = cc e; among = inl refl; lock = refl }))
mem_array (a ∷ ars) (x ∷ xs) e m (inr h) d =
    let rest : map shape_of ars ≡ map shape_of_mem xs = cc e in
    let w = mem_array ars xs rest m h d in
    let low : w.0 < length ars = w.1 in
    (suc w.0, (omega arith), record { shape = w.2.shape; among = inr w.2.among; lock = w.2.lock })

-- what holds of each locked memory
locked_rec : (P : PortMem → Type 0) (twice : ℕ → Bool) (k : ℕ) (ms : List Mem) → ((t : Bool) (m : Mem) → Among m ms → P (port_mem t m))
    → AllByRecursion P (locked_of twice k ms)
locked_rec P twice k [] h = tt
locked_rec P twice k (m ∷ ms) h = go (is_some m.lock) (h (twice k) m (inl refl)) (locked_rec P twice (suc k) ms (λ t n a. h t n (inr a)))
  where
    go : (b : Bool) → P (port_mem (twice k) m) → AllByRecursion P (locked_of twice (suc k) ms)
        → AllByRecursion P ((if b then port_mem (twice k) m ∷ [] else []) ++ locked_of twice (suc k) ms)
    go true x xs = (x, xs)
    go false x xs = xs

-- what holds of each memory, as ports tell it, holds of all that have a lock
pub locked_all : (P : PortMem → Type 0) (twice : ℕ → Bool) (k : ℕ) (ms : List Mem) → ((t : Bool) (m : Mem) → Among m ms → P (port_mem t m))
    → All P (locked_of twice k ms)
locked_all P twice k ms h = All-from_recursion P (locked_of twice k ms) (locked_rec P twice k ms h)

-- what holds of all memories that have a lock holds of each that has one
pub locked_at : (P : PortMem → Type 0) (twice : ℕ → Bool) (k : ℕ) (ms : List Mem) (m : Mem) → Among m ms
    → is_some m.lock ≡ true → AllByRecursion P (locked_of twice k ms) → (t : Bool) × P (port_mem t m)
locked_at P twice k [] m a e h = absurd a
locked_at P twice k (x ∷ xs) m (inl s) e h =
    (twice k, subst (λ (y : Mem). P (port_mem (twice k) y)) s (go (is_some x.lock) (ap (λ (y : Mem). is_some y.lock) s ∙ e) h))
  where
    go : (b : Bool) → b ≡ true → AllByRecursion P ((if b then port_mem (twice k) x ∷ [] else []) ++ locked_of twice (suc k) xs) → P (port_mem (twice k) x)
    go true t g = g.0
    go false t g = absurd (false≢true t)
locked_at P twice k (x ∷ xs) m (inr a) e h = locked_at P twice (suc k) xs m a e (go (is_some x.lock) h)
  where
    go : (b : Bool) → AllByRecursion P ((if b then port_mem (twice k) x ∷ [] else []) ++ locked_of twice (suc k) xs)
        → AllByRecursion P (locked_of twice (suc k) xs)
    go true g = g.1
    go false g = g

-- a memory without lock has an array of its own words
pub shallow : (l : Option LockDecl) (d : ℕ) → is_some l ≡ false → array_words l d ≡ d
shallow None d e = refl
shallow (Some l) d e = absurd (false≢true (sym e))

-- ---- memories as later steps are told them

-- a memory as it is told, by its fields
abbrev pub info_with : List ℕ → ℕ → ℕ → Bool → MemInfo
info_with x w d s = record { name = x; width = w; depth = d; delayed = s }

-- memories are told the same where their names, widths, depths and ways of answering are
pub info_same : (x y : List ℕ) (a b c d : ℕ) (s t : Bool) → x ≡ y → a ≡ b → c ≡ d → s ≡ t → info_with x a c s ≡ info_with y b d t
info_same x y a b c d s t e f g h = cc

-- a memory that answers at once is told as its array tells it, and its ports where it has a lock
pub info_if : (b t : Bool) (a : Array) (m : Mem)
    → is_some m.lock ≡ b → shape_of a ≡ shape_of_mem m → Reaches m → is_delayed m.kind ≡ false
    → info_of m ≡ comb_info a (if b then Some (port_mem t m) else None)
info_if true t a m l e r d =
    info_same m.name.name a.name m.width.value m.width.value m.depth.value _ (is_delayed m.kind) false (sym (ap (λ (s : Shape). s.name) e)) refl (sym r) d
info_if false t a m l e r d =
    info_same m.name.name a.name m.width.value a.width m.depth.value a.depth (is_delayed m.kind) false (sym (ap (λ (s : Shape). s.name) e))
    (sym (ap (λ (s : Shape). s.width) e)) (sym (ap (λ (s : Shape). s.depth) e ∙ shallow m.lock m.depth.value l)) d
