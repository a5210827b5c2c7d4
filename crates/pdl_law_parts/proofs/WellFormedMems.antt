-- The memories of a pipe that breaks no rule: how many, and their sizes.
use Rattle.std.proofs.Common.{◌≡◌, inl, inr, ⊎_elim, ℕ, ◌+◌, ◌^◌, ◌<◌, ◌≤◌, true, false, List, [], ◌∷◌, ◌++◌, length, map, count_by, refl, sym, ap, ◌∙◌, subst, arith}
use Rattle.std.specs.List.{list_all}
use Rattle.std.proofs.Math.Pow.{pow_mono, pow-lt}
use Rattle.std.proofs.lemmas.Bool.{and_parts, cases_lt, eqb-false}
use Rattle.pdl_kit.specs.declared.rule.Rule.TheVariants.{Z4}
use Rattle.pdl_semantics.specs.Tree.{Param, Mem, Pipe}
use Rattle.pdl_rules.specs.Places.{Place, Parameter, Memory, statements, places}
use Rattle.pdl_rules.specs.Limits.{breaks_z4}
use Rattle.pdl_rules.specs.Limits as limits
use Rattle.pdl_rules.specs.Widths.{address_bits}
use Rattle.pdl_rules.specs.Refusal.{KeepsRules}
use Rattle.pdl_rules.specs.Typed.{IsSized, AreSized}
use Rattle.pdl_rules.proofs.EachPlace.{Each, each_from, each_front, each_back, closing}
use Rattle.pdl_rules.proofs.SingleWrites.{count_push, count_cons}
use Rattle.pdl_rules.proofs.Memories.{has_depth, bits_reach}
use Rattle.pdl_law_parts.proofs.WellFormedNames.{Among}

-- ---- how many

no_mem_params : (ps : List Param) → count_by limits.is_memory (map Parameter ps) ≡ 0
no_mem_params [] = refl
no_mem_params (a ∷ ps) = let e = count_cons limits.is_memory (Parameter a) (map Parameter ps) in let n = no_mem_params ps in omega arith

-- a place that is not a 17th memory
abbrev IsFew : List Place → Place → Type 0
IsFew before x = breaks_z4 before x ≡ false

few_from : (ms : List Mem) (before : List Place) (k : ℕ)
    → count_by limits.is_memory before ≡ k → k ≤ 16 → Each IsFew before (map Memory ms) → k + length ms ≤ 16
few_from [] before k e l each = omega arith
few_from (m ∷ ms) before k e l each =
    let not_yet : (k ≡ 16) → ⊥ = λ s. eqb-false (count_by limits.is_memory before) 16 each.0 (e ∙ s) in
    let more : count_by limits.is_memory (before ++ Memory m ∷ []) ≡ k + 1 = count_push limits.is_memory before (Memory m) ∙ ap (λ n. n + 1) e in
    let rest : k + 1 + length ms ≤ 16 = few_from ms (before ++ Memory m ∷ []) (k + 1) more (omega (arith, not_yet)) each.1 in
    omega arith

-- a pipe that keeps the rules has at most 16 memories
pub few_mems : (p : Pipe) → KeepsRules p → length p.mems ≤ 16
few_mems p rules =
    let all = each_from IsFew (places p) [] (λ front x later e. rules Z4 front x later e) in
    let front =
    each_front IsFew (map Parameter p.params ++ map Memory p.mems) (statements [] p.body) []
    (each_front IsFew ((map Parameter p.params ++ map Memory p.mems) ++ statements [] p.body) (closing p) [] all) in
    let few : 0 + length p.mems ≤ 16 =
    few_from p.mems (map Parameter p.params) 0 (no_mem_params p.params) (omega arith)
    (each_back IsFew (map Parameter p.params) (map Memory p.mems) [] front) in
    omega arith

-- ---- sizes

-- addresses of a memory's address bits reach each word and no more
abbrev pub Reaches : Mem → Type 0
Reaches m = 2 ^ address_bits m.depth.value ≡ m.depth.value

reaches_one : (m : Mem) → has_depth m ≡ true → Reaches m
reaches_one m e = bits_reach m.depth.value e

-- so it is for each memory of an allowed depth
pub reaches_all : (ms : List Mem) → list_all has_depth ms ≡ true → (m : Mem) → Among m ms → Reaches m
reaches_all [] e m a = absurd a
reaches_all (x ∷ xs) e m (inl s) = subst Reaches s (reaches_one x (and_parts (has_depth x) (list_all has_depth xs) e).0)
reaches_all (x ∷ xs) e m (inr a) = reaches_all xs (and_parts (has_depth x) (list_all has_depth xs) e).1 m a

-- each memory among sized ones has allowed sizes
pub sized_among : (ms : List Mem) → AreSized ms → (m : Mem) → Among m ms → IsSized m
sized_among [] h m a = absurd a
sized_among (x ∷ xs) h m (inl s) = subst IsSized s h.0
sized_among (x ∷ xs) h m (inr a) = sized_among xs h.1 m a

-- powers of two are equal only where their exponents are
pub power_one : (a b : ℕ) → 2 ^ a ≡ 2 ^ b → a ≡ b
power_one a b e = ⊎_elim
    (λ (h : a < b). absurd (omega (arith, pow-lt h)))
    (λ (h : b ≤ a). ⊎_elim
    (λ (g : b < a). absurd (omega (arith, pow-lt g)))
    (λ (g : a ≤ b). omega arith)
    (cases_lt b a))
    (cases_lt a b)

-- an address of a memory has 1 to 16 bits
pub record IsAddressed (m : Mem) : Type 0 where
  pub low : 1 ≤ address_bits m.depth.value
  pub high : address_bits m.depth.value ≤ 16
  pub shallow : m.depth.value ≤ 65536

-- each sized memory of an allowed depth has addresses of 1 to 16 bits
pub addressed : (m : Mem) → Reaches m → IsSized m → IsAddressed m
addressed m r s =
    let e = power_one (address_bits m.depth.value) s.bits (r ∙ s.power) in
    let most : 2 ^ s.bits ≤ 2 ^ 16 = pow_mono {i = s.bits} {j = 16} s.few in
    record {
      low = subst (λ n. 1 ≤ n) (sym e) s.some;
      high = subst (λ n. n ≤ 16) (sym e) s.few;
      shallow = subst (λ n. n ≤ 65536) (sym s.power) most;
    }
