-- A mask allows the paths that lead through its place.
use Rattle.std.proofs.Common.{◌≡◌, sym, ap, ◌∙◌, ℕ, suc, ◌<◌, ◌≤◌, ◌^◌, Bool, true, false, ◌&&◌, not, ◌==◌, nat_lt, List, [], ◌∷◌, length, fold, if◌then◌else◌, arith, bit_and}
use Rattle.std.specs.Int.Bits.{and_zero_r}
use Rattle.std.proofs.lemmas.Bool.{lt-ltb}
use Rattle.std.specs.Int.{bit_at}
use Rattle.std.specs.List.{list_all}
use Rattle.std.proofs.Math.Bool.{and_assoc}
use Rattle.pdl_rules.specs.Places.{Guard, Branch, Place, Parameter, Memory, Statement, End, StartClause, same_guard, same_truth, is_taken, on_path}
use Rattle.pdl_paths.specs.declared.mask.Mask.{Mask}
use Rattle.pdl_paths.specs.Masks.{number_of, are_distinct, path_of, with_bit, with_branch, allows_path, everywhere, mask_in}
use Rattle.pdl_paths.proofs.Bits.{with_bit_on, with_bit_off}
use Rattle.pdl_paths.proofs.PathBits.{among_path}
use Rattle.pdl_word.proofs.Bools.{and_true, and_swap}

bit_law : (n bits : ℕ) (truth : Bool) (m : Mask)
    → allows_path (with_bit n truth m) bits ≡ (allows_path m bits && same_truth truth (bit_at bits n == 1))
bit_law n bits true m =
    ap (λ x. x && (bit_and bits m.off == 0)) (with_bit_on bits m.on n) ∙ and_swap (bit_and bits m.on == m.on) (bit_at bits n == 1) (bit_and bits m.off == 0)
bit_law n bits false m =
    ap (λ x. (bit_and bits m.on == m.on) && x) (with_bit_off bits m.off n)
    ∙ sym (and_assoc (bit_and bits m.on == m.on) (bit_and bits m.off == 0) (not (bit_at bits n == 1)))

number_within : (g : Guard) (gs : List Guard) → number_of g gs ≤ length gs
number_within g [] = omega arith
number_within g (h ∷ gs) = at (same_guard g h) (number_within g gs)
  where
    at : (b : Bool) → number_of g gs ≤ length gs → (if b then 0 else suc (number_of g gs)) ≤ suc (length gs)
    at true l = omega arith
    at false l = omega arith

is_low : (n : ℕ) → n ≤ 10 → nat_lt n 16 ≡ true
is_low n l = lt-ltb n 16 (omega arith)

branch_law : (gs : List Guard) (bits : ℕ) (m : Mask) (b : Branch) → are_distinct gs ≡ true → length gs ≤ 10 → bits < 2 ^ length gs
    → allows_path (with_branch gs m b) bits ≡ (allows_path m bits && is_taken (path_of gs bits) b)
branch_law gs bits m b d few l =
    let n = number_of b.guard gs in
    let within = number_within b.guard gs in
    let low : nat_lt n 16 ≡ true = is_low n (omega arith) in
    ap (λ c. allows_path (if c then with_bit n b.truth m else m) bits) low
    ∙ bit_law n bits b.truth m
    ∙ ap (λ x. allows_path m bits && same_truth b.truth x) (sym (among_path b.guard gs bits d l))

branches_law : (gs : List Guard) (bits : ℕ) → are_distinct gs ≡ true → length gs ≤ 10 → bits < 2 ^ length gs → (bs : List Branch) (m : Mask)
    → allows_path (fold (with_branch gs) m bs) bits ≡ (allows_path m bits && list_all (is_taken (path_of gs bits)) bs)
branches_law gs bits d few l [] m = and_true (allows_path m bits)
branches_law gs bits d few l (b ∷ bs) m =
    branches_law gs bits d few l bs (with_branch gs m b)
    ∙ ap (λ x. x && list_all (is_taken (path_of gs bits)) bs) (branch_law gs bits m b d few l)
    ∙ and_assoc (allows_path m bits) (is_taken (path_of gs bits) b) (list_all (is_taken (path_of gs bits)) bs)

everywhere_law : (bits : ℕ) → allows_path everywhere bits ≡ true
everywhere_law bits = ap (λ k. (k == 0) && (k == 0)) (and_zero_r bits)

-- of at most ten guards, each once, a place's mask allows just the paths that lead through it
pub mask_law : (gs : List Guard) (x : Place) (bits : ℕ)
    → are_distinct gs ≡ true → length gs ≤ 10 → bits < 2 ^ length gs
    → allows_path (mask_in gs x) bits ≡ on_path (path_of gs bits) x
mask_law gs (Parameter a) bits d few l = everywhere_law bits
mask_law gs (Memory m) bits d few l = everywhere_law bits
mask_law gs (Statement s bs) bits d few l =
    branches_law gs bits d few l bs everywhere ∙ ap (λ a. a && list_all (is_taken (path_of gs bits)) bs) (everywhere_law bits)
mask_law gs (End s) bits d few l = everywhere_law bits
mask_law gs (StartClause s) bits d few l = everywhere_law bits
