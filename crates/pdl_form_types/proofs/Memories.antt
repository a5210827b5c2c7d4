-- The memories of a pipe that keeps the rules, by name and by number.
use Rattle.std.proofs.Common.{◌≡◌, refl, sym, ap, ap₂, ◌∙◌, ℕ, suc, ◌<◌, Bool, true, false, ◌||◌, ◌&&◌, if◌then◌else◌, nat_le, List, [], ◌∷◌, ◌++◌, map, length, slice_index_or, bytes_eq, ◌==◌, append_assoc, ⊎_elim, leb-true}
use Rattle.std.specs.Prelude.{IsTrue}
use Rattle.std.specs.List.{list_any, list_all}
use Rattle.std.proofs.lemmas.Bool.{false≢true, and_parts, and_from, or_cases, or_left, or_right, not-false}
use Rattle.std.proofs.lemmas.List.Folds.{list_any-append}
use Rattle.pdl_kit.specs.declared.rule.Rule.TheVariants.{Z7}
use Rattle.pdl_semantics.specs.Tree.{Stmt, If, Stmts, Nil, Cons, Mem, Pipe}
use Rattle.pdl_semantics.specs.Flat as flat
use Rattle.pdl_semantics.specs.Flat.{has_lock}
use Rattle.pdl_semantics.specs.Flatten.{mem_of, mem_width, flat_lock, mems_of}
use Rattle.pdl_semantics.specs.Stages.{plain_mem}
use Rattle.pdl_rules.specs.Places.{Place, Memory, Parameter, Branch, guard_of, with_inner, statements, places}
use Rattle.pdl_rules.specs.Limits.{depths, breaks_z7}
use Rattle.pdl_rules.specs.Names.{OfMemory, defines_use, is_undefined}
use Rattle.pdl_rules.specs.Widths.{mem_depth, address_bits}
use Rattle.pdl_rules.specs.Locks.{is_locked}
use Rattle.pdl_rules.specs.Refusal.{KeepsRules}
use Rattle.pdl_rules.specs.Typed.{is_memory}
use Rattle.pdl_rules.proofs.SingleWrites.{bytes_sym}
use Rattle.pdl_rules.proofs.EachPlace.{closing}
use Rattle.pdl_rules.proofs.Memories.{has_depth, bits_reach, of_each, shape}
use Rattle.pdl_form_types.specs.Stmts.{IsTypedMem, AreTypedMems}
use Rattle.pdl_form_types.proofs.Values.{IsWide}
use Rattle.pdl_form_types.proofs.VariableNames.{rest_named, number_step}
use Rattle.pdl_rules.proofs.KnownVariables.{no_params}
use Rattle.pdl_semantics.proofs.Facts.{lock_declared}
use Rattle.pdl_semantics.specs.Words.{widest}

-- SIZES

-- whether a depth has 1 to 16 address bits
abbrev has_bits : ℕ → Bool
has_bits d = nat_le 1 (address_bits d) && nat_le (address_bits d) 16

typed_mem : (m : Mem)
    → breaks_z7 (Memory m) ≡ false
    → IsTypedMem (record { width = m.width.value; depth = m.depth.value; kind = m.kind; lock = flat_lock m.lock })
typed_mem m e =
    let both = shape m e in
    let width = and_parts (nat_le 1 m.width.value) (nat_le m.width.value widest) both.0 in
    let bits = of_each has_bits depths m.depth.value refl both.1 in
    let few = and_parts (nat_le 1 (address_bits m.depth.value)) (nat_le (address_bits m.depth.value) 16) bits in
    record {
      low = leb-true 1 _ width.0;
      high = leb-true _ widest width.1;
      bits = address_bits m.depth.value;
      some = leb-true 1 _ few.0;
      few = leb-true _ 16 few.1;
      depth = sym (bits_reach m.depth.value both.1);
    }

module _ (p : Pipe) (rules : KeepsRules p) where
  -- the memories of a pipe that keeps the rules are typed in the flat form
  pub typed_mems : (ms : List Mem) (before later : List Place) → places p ≡ before ++ (map Memory ms ++ later) → AreTypedMems (mems_of ms)
  typed_mems [] before later e = tt
  typed_mems (m ∷ ms) before later e = (
    typed_mem m (rules Z7 before (Memory m) _ e),
    typed_mems ms (before ++ Memory m ∷ []) later (e ∙ sym (append_assoc before (Memory m ∷ []) (map Memory ms ++ later))),
  )

  -- the memories of a pipe that keeps the rules all have depths that are allowed
  pub all_deep : (ms : List Mem) (before later : List Place) → places p ≡ before ++ (map Memory ms ++ later) → list_all has_depth ms ≡ true
  all_deep [] before later e = refl
  all_deep (m ∷ ms) before later e =
      and_from (has_depth m) (list_all has_depth ms) (shape m (rules Z7 before (Memory m) _ e)).1
      (all_deep ms (before ++ Memory m ∷ []) later (e ∙ sym (append_assoc before (Memory m ∷ []) (map Memory ms ++ later))))

-- BY NUMBER

-- the number of a memory's name is below the count of memories
pub mem_low : (ms : List Mem) (m : List ℕ) → IsTrue (is_memory ms m) → mem_of ms m < length (mems_of ms)
mem_low [] m h = absurd (false≢true h)
mem_low (x ∷ ms) m h = number_step (bytes_eq x.name.name m) (mem_of ms m) (length (mems_of ms)) (λ e. mem_low ms m (rest_named _ _ h e))

-- the memory of a name's number
abbrev pub mem_found : List Mem → List ℕ → flat.Mem
mem_found ms m = slice_index_or (mems_of ms) (mem_of ms m) plain_mem

found_step : {A : Type 0} (f : flat.Mem → A) (b : Bool) (x : flat.Mem) (xs : List flat.Mem) (k : ℕ) (u : A)
    → f (slice_index_or xs k plain_mem) ≡ u
    → f (slice_index_or (x ∷ xs) (if b then 0 else suc k) plain_mem) ≡ (if b then f x else u)
found_step f true x xs k u h = refl
found_step f false x xs k u h = h

-- the memory of a name's number has the width of words that it has by name
pub found_width : (ms : List Mem) (m : List ℕ) → (mem_found ms m).width ≡ mem_width ms m
found_width [] m = refl
found_width (x ∷ ms) m = found_step (λ (y : flat.Mem). y.width) (bytes_eq x.name.name m) _ (mems_of ms) (mem_of ms m) (mem_width ms m) (found_width ms m)

-- the memory of a name's number has the depth that it has by name
pub found_depth : (ms : List Mem) (m : List ℕ) → (mem_found ms m).depth ≡ mem_depth ms m
found_depth [] m = refl
found_depth (x ∷ ms) m = found_step (λ (y : flat.Mem). y.depth) (bytes_eq x.name.name m) _ (mems_of ms) (mem_of ms m) (mem_depth ms m) (found_depth ms m)

-- the memory of a name's number has a lock where it has one by name, and only there
pub found_lock : (ms : List Mem) (m : List ℕ) → has_lock (mem_found ms m).lock ≡ is_locked ms m
found_lock [] m = refl
found_lock (x ∷ ms) m =
    found_step (λ (y : flat.Mem). has_lock y.lock) (bytes_eq x.name.name m) _ (mems_of ms) (mem_of ms m) (is_locked ms m) (found_lock ms m)
    ∙ ap (λ c. if bytes_eq x.name.name m then c else is_locked ms m) (lock_declared x.lock)

wide_step : (b : Bool) (w u : ℕ) → IsWide w → (b ≡ false → IsWide u) → IsWide (if b then w else u)
wide_step true w u h k = h
wide_step false w u h k = k refl

-- the words of a memory have 1 to widest bits, where the memories are typed
pub wide_mem : (ms : List Mem) (m : List ℕ) → AreTypedMems (mems_of ms) → IsTrue (is_memory ms m) → IsWide (mem_width ms m)
wide_mem [] m t h = absurd (false≢true h)
wide_mem (x ∷ ms) m t h =
    wide_step (bytes_eq x.name.name m) x.width.value (mem_width ms m) (record { low = t.0.low; high = t.0.high }) (λ e. wide_mem ms m t.1 (rest_named _ _ h e))

-- BY NAME

mutual
  none_in : (m : List ℕ) (bs : List Branch) (s : Stmt) → list_any (defines_use (OfMemory m)) (with_inner bs s) ≡ false
  none_in m bs (If sp c when otherwise) =
      list_any-append (defines_use (OfMemory m)) (statements (bs ++ record { guard = guard_of sp c; truth = true; inside = when } ∷ []) when) _
      ∙ ap₂ (λ a b. a || b) (none_among m _ when) (none_among m _ otherwise)
  none_in m bs _ = refl

  none_among : (m : List ℕ) (bs : List Branch) (ss : Stmts) → list_any (defines_use (OfMemory m)) (statements bs ss) ≡ false
  none_among m bs Nil = refl
  none_among m bs (Cons s ss) =
      list_any-append (defines_use (OfMemory m)) (with_inner bs s) (statements bs ss) ∙ ap₂ (λ a b. a || b) (none_in m bs s) (none_among m bs ss)

among_mems : (m : List ℕ) (ms : List Mem) → list_any (defines_use (OfMemory m)) (map Memory ms) ≡ true → IsTrue (is_memory ms m)
among_mems m [] e = absurd (false≢true e)
among_mems m (x ∷ ms) e =
    ⊎_elim
    (λ t. or_left _ (is_memory ms m) (bytes_sym m x.name.name t))
    (λ t. or_right (bytes_eq x.name.name m) _ (among_mems m ms t))
    (or_cases (bytes_eq m x.name.name) _ e)

-- what some place of the pipe defines as a memory is one
pub memory_there : (p : Pipe) (m : List ℕ) → is_undefined (places p) (OfMemory m) ≡ false → IsTrue (is_memory p.mems m)
memory_there p m e = among_mems m p.mems (only (list_any test (map Memory p.mems)) (sym parts ∙ not-false _ e))
  where
    test : Place → Bool
    test = defines_use (OfMemory m)

    parts : list_any test (places p) ≡ ((list_any test (map Memory p.mems) || false) || false)
    parts =
        list_any-append test (map Parameter p.params ++ map Memory p.mems ++ statements [] p.body) (closing p)
        ∙ ap (λ b. b || false)
        (list_any-append test (map Parameter p.params ++ map Memory p.mems) (statements [] p.body)
        ∙ ap₂ (λ a b. a || b)
        (list_any-append test (map Parameter p.params) (map Memory p.mems) ∙ ap (λ b. b || list_any test (map Memory p.mems)) (no_params m p.params))
        (none_among m [] p.body))

    only : (b : Bool) → ((b || false) || false) ≡ true → b ≡ true
    only true t = refl
    only false t = t
