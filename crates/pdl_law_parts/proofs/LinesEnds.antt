-- A cycle and the end line by the last two outputs, whatever memories are shown.
use Rattle.std.proofs.Common.{◌≡◌, ℕ, ◌+◌, ◌-◌, ◌==◌, Bool, true, false, List, [], ◌∷◌, ◌++◌, length, map, refl, sym, ap, ap₂, ◌∙◌, arith, append_assoc}
use Rattle.std.specs.Prelude.{slice_index, count_by, if◌then◌else◌}
use Rattle.std.proofs.lemmas.List.{length-map, length-append, get_or_at}
use Rattle.std.proofs.lemmas.List.Sums.{sum_by-cons}
use Rattle.pdl_word.specs.Words.{bit}
use Rattle.pdl_kit.specs.declared.mem_info.MemInfo.{MemInfo}
use Rattle.pdl_semantics.specs.Lines.{Put, Cycle, end_line}
use Rattle.pdl_net.specs.declared.Netlist.{Netlist}
use Rattle.pdl_net.specs.Run.{Shown}
use Rattle.pdl_law_parts.specs.Runs.{cycle_by}

-- functions that are the same at each element
pub map_same : {X Y : Type 0} (f g : X → Y) → ((x : X) → f x ≡ g x) → (xs : List X) → map f xs ≡ map g xs
map_same f g h [] = refl
map_same f g h (x ∷ xs) = ap₂ (λ y ys. y ∷ ys) (h x) (map_same f g h xs)

-- the bit of a truth value is 1 where that is true, and only there
pub bit_one : (b : Bool) → (bit b == 1) ≡ b
bit_one true = refl
bit_one false = refl

-- a list that ends in two numbers has them as the last but one and the last
pub last_two : (xs : List ℕ) (a b n : ℕ)
    → length (xs ++ a ∷ b ∷ []) ≡ n
    → (slice_index (xs ++ a ∷ b ∷ []) (n - 2) ≡ a) × (slice_index (xs ++ a ∷ b ∷ []) (n - 1) ≡ b)
last_two xs a b n e =
    let long : length (xs ++ a ∷ b ∷ []) ≡ length xs + 2 = length-append xs (a ∷ b ∷ []) in
    let more : length (xs ++ a ∷ []) ≡ length xs + 1 = length-append xs (a ∷ []) in (
      get_or_at xs a (b ∷ []) 0 (n - 2) (omega (arith, e, long)),
      ap (λ l. slice_index l (n - 1)) (sym (append_assoc xs (a ∷ []) (b ∷ []))) ∙ get_or_at (xs ++ a ∷ []) b [] 0 (n - 1) (omega (arith, e, long, more)),
    )

-- a cycle by its parts
abbrev pub cycle : List (List Put) → Bool → Bool → Bool → Cycle
cycle puts ended wait squash = record { puts = puts; ended = ended; wait = wait; squash = squash }

-- which memories are shown changes no count that doesn't ask them
pub same_count : (n : Netlist) (ms ns : List MemInfo) (test : Cycle → Bool)
    → ((x : Shown) → test (cycle_by n ms x) ≡ test (cycle_by n ns x)) → (xs : List Shown)
    → count_by test (map (cycle_by n ms) xs) ≡ count_by test (map (cycle_by n ns) xs)
same_count n ms ns test h [] = refl
same_count n ms ns test h (x ∷ xs) =
    sum_by-cons (λ c. if test c then 1 else 0) (cycle_by n ms x) (map (cycle_by n ms) xs)
    ∙ ap₂ (λ b k. (if b then 1 else 0) + k) (h x) (same_count n ms ns test h xs)
    ∙ sym (sum_by-cons (λ c. if test c then 1 else 0) (cycle_by n ns x) (map (cycle_by n ns) xs))

-- the end line of these cycles
abbrev pub end_of : List Cycle → List ℕ
end_of cs = end_line (length cs) (count_by (λ (c : Cycle). c.ended) cs) (count_by (λ (c : Cycle). c.wait) cs) (count_by (λ (c : Cycle). c.squash) cs)

-- nor does it change the end line
pub same_end : (n : Netlist) (ms ns : List MemInfo) (xs : List Shown) → end_of (map (cycle_by n ms) xs) ≡ end_of (map (cycle_by n ns) xs)
same_end n ms ns xs =
    let long : length (map (cycle_by n ms) xs) ≡ length (map (cycle_by n ns) xs) = length-map xs (cycle_by n ms) ∙ sym (length-map xs (cycle_by n ns)) in
    let ended = same_count n ms ns (λ (c : Cycle). c.ended) (λ x. refl) xs in
    let waits = same_count n ms ns (λ (c : Cycle). c.wait) (λ x. refl) xs in
    let squashes = same_count n ms ns (λ (c : Cycle). c.squash) (λ x. refl) xs in
    rw (long, ended, waits, squashes) refl
