-- The memories of a pipe that breaks no rule: their sizes, their names, and the addresses that reach them.
use Rattle.std.proofs.Common.{◌≡◌, refl, sym, ap, ◌∙◌, ℕ, ◌^◌, ◌≤◌, Bool, true, false, ◌&&◌, ◌||◌, List, [], ◌∷◌, ◌++◌, map, if◌then◌else◌, ◌==◌, nat_le, bytes_eq, ⊎_elim, leb-true}
use Rattle.std.specs.Prelude.{IsTrue, IsFalse}
use Rattle.std.proofs.lemmas.Bool.{false≢true, and_parts, and_from, or_parts, or_cases, or_from, both_ways, false_from_ne_true, eqb-true, not-false}
use Rattle.std.specs.List.{list_any, list_all}
use Rattle.pdl_semantics.specs.Tree.{Mem, Pipe}
use Rattle.pdl_rules.specs.Places.{Place, Memory}
use Rattle.pdl_rules.specs.Limits.{depths, is_depth, is_width, is_wrong_lock, breaks_z7}
use Rattle.pdl_rules.specs.Parts.{is_some_and}
use Rattle.pdl_rules.specs.Widths.{mem_depth, address_bits}
use Rattle.pdl_rules.specs.Typed.{is_memory, AreDistinct, IsSized, AreSized}
use Rattle.pdl_rules.proofs.EachPlace.{Each}
use Rattle.pdl_rules.proofs.SingleWrites.{any_front, any_last}
use Rattle.pdl_rules.proofs.KnownVariables.{takes_name}
use Rattle.pdl_rules.specs.Names.{breaks_n2}
use Rattle.pdl_semantics.specs.Words.{widest}

-- DEPTHS

-- what passes for each number of a list passes for each that is in it
pub of_each : (test : ℕ → Bool) (ns : List ℕ) (d : ℕ) → list_all test ns ≡ true → list_any (λ n. n == d) ns ≡ true → test d ≡ true
of_each test [] d all some = absurd (false≢true some)
of_each test (n ∷ ns) d all some =
    let parts = and_parts (test n) (list_all test ns) all in
    ⊎_elim (λ e. ap test (sym (eqb-true n d e)) ∙ parts.0) (λ e. of_each test ns d parts.1 e) (or_cases (n == d) (list_any (λ m. m == d) ns) some)

-- whether the address bits of a depth are 1 to 16, and reach each word and no more
abbrev is_reached : ℕ → Bool
is_reached d = (2 ^ address_bits d == d) && (nat_le 1 (address_bits d) && nat_le (address_bits d) 16)

reached : (d : ℕ) → is_depth d ≡ true → is_reached d ≡ true
reached d e = of_each is_reached depths d refl e

-- 2 to the power of the address bits of an allowed depth is that depth
pub bits_reach : (d : ℕ) → is_depth d ≡ true → 2 ^ address_bits d ≡ d
bits_reach d e = eqb-true (2 ^ address_bits d) d (and_parts _ (nat_le 1 (address_bits d) && nat_le (address_bits d) 16) (reached d e)).0

bits_few : (d : ℕ) → is_depth d ≡ true → (1 ≤ address_bits d) × (address_bits d ≤ 16)
bits_few d e =
    let parts = and_parts (nat_le 1 (address_bits d)) (nat_le (address_bits d) 16) (and_parts (2 ^ address_bits d == d) _ (reached d e)).1 in
    (leb-true 1 _ parts.0, leb-true _ 16 parts.1)

-- what the places of memories keep: their sizes, and names of their own
pub record Keeps (p : Pipe) (before : List Place) (x : Place) : Type 0 where
  pub z7 : breaks_z7 x ≡ false
  pub n2 : breaks_n2 p before x ≡ false

-- SIZES

-- whether a memory has an allowed depth
abbrev pub has_depth : Mem → Bool
has_depth m = is_depth m.depth.value

-- a memory that keeps Z7 has a width from 1 to widest and an allowed depth
pub shape : (m : Mem) → breaks_z7 (Memory m) ≡ false → (is_width m.width.value ≡ true) × (has_depth m ≡ true)
shape m e = and_parts (is_width m.width.value) (has_depth m) (not-false _ (or_parts _ (is_some_and (is_wrong_lock m) m.lock) e).0)

sized_one : (m : Mem) → breaks_z7 (Memory m) ≡ false → IsSized m
sized_one m e =
    let both = shape m e in
    let width = and_parts (nat_le 1 m.width.value) (nat_le m.width.value widest) both.0 in
    let few = bits_few m.depth.value both.1 in
    record {
      low = leb-true 1 _ width.0;
      high = leb-true _ widest width.1;
      bits = address_bits m.depth.value;
      some = few.0;
      few = few.1;
      power = sym (bits_reach m.depth.value both.1);
    }

-- memories that keep Z7 and N2 have words of 1 to widest bits, and a power of two of them, from 2 to 65,536
pub sized : (p : Pipe) (ms : List Mem) (before : List Place) → Each (Keeps p) before (map Memory ms) → AreSized ms
sized p [] before each = tt
sized p (m ∷ ms) before each = (sized_one m each.0.z7, sized p ms (before ++ Memory m ∷ []) each.1)

-- memories that keep Z7 and N2 all have an allowed depth
pub all_deep : (p : Pipe) (ms : List Mem) (before : List Place) → Each (Keeps p) before (map Memory ms) → list_all has_depth ms ≡ true
all_deep p [] before each = refl
all_deep p (m ∷ ms) before each = and_from (has_depth m) (list_all has_depth ms) (shape m each.0.z7).1 (all_deep p ms (before ++ Memory m ∷ []) each.1)

-- the depth of a memory, by its name, is allowed where all memories of the list have an allowed depth
pub deep : (ms : List Mem) (m : List ℕ) → list_all has_depth ms ≡ true → IsTrue (is_memory ms m) → is_depth (mem_depth ms m) ≡ true
deep [] m all e = absurd (false≢true e)
deep (x ∷ ms) m all e =
    let parts = and_parts (has_depth x) (list_all has_depth ms) all in
    go (bytes_eq x.name.name m) e parts.0 (deep ms m parts.1)
  where
    go : (b : Bool) → (b || is_memory ms m) ≡ true → has_depth x ≡ true
        → (IsTrue (is_memory ms m) → is_depth (mem_depth ms m) ≡ true)
        → is_depth (if b then x.depth.value else mem_depth ms m) ≡ true
    go true some first others = first
    go false some first others = others some

-- NAMES

-- no memory has a name that a place before takes
not_again : (p : Pipe) (n : List ℕ) (ms : List Mem) (before : List Place)
    → ((x : List ℕ) → bytes_eq x n ≡ true → list_any (takes_name x) before ≡ true)
    → Each (Keeps p) before (map Memory ms) → IsFalse (is_memory ms n)
not_again p n [] before h each = refl
not_again p n (m ∷ ms) before h each =
    let free = (or_parts (bytes_eq m.name.name p.name.name) (list_any (takes_name m.name.name) before) each.0.n2).1 in
    or_from (bytes_eq m.name.name n) (is_memory ms n)
    (false_from_ne_true (bytes_eq m.name.name n) (λ e. both_ways (list_any (takes_name m.name.name) before) free (h m.name.name e)))
    (not_again p n ms (before ++ Memory m ∷ []) (λ x e. any_front (takes_name x) before (Memory m) (h x e)) each.1)

-- no two memories have one name, where they keep Z7 and N2
pub distinct : (p : Pipe) (ms : List Mem) (before : List Place) → Each (Keeps p) before (map Memory ms) → AreDistinct ms
distinct p [] before each = tt
distinct p (m ∷ ms) before each = (
  not_again p m.name.name ms (before ++ Memory m ∷ []) (λ x e. any_last (takes_name x) before (Memory m) e) each.1,
  distinct p ms (before ++ Memory m ∷ []) each.1,
)
