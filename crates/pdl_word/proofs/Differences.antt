-- A difference modulo a power of two, with and without a borrow.
use Rattle.std.proofs.Common.{◌≡◌, ℕ, ◌+◌, ◌-◌, ◌%◌, ◌^◌, ◌<◌, ◌≤◌, arith, ap, sym, ◌∙◌}
use Rattle.std.proofs.Math.Nat.{mod-eq_of_lt, add-mod_right}
use Rattle.pdl_word.specs.Words.{sub, mask}

-- a difference without a borrow is the one modulo 2 ^ w
pub sub_high : (w a b : ℕ) → b ≤ a → a < 2 ^ w → a - b ≡ sub w a b
unfolding sub
sub_high w a b h l =
    let e : a + 2 ^ w - b ≡ (a - b) + 2 ^ w = omega arith in
    sym (ap (λ x. x % 2 ^ w) e ∙ add-mod_right (a - b) (2 ^ w) ∙ mod-eq_of_lt (omega arith))

-- a difference with a borrow, taken from the largest word, with 1 added, is the one modulo 2 ^ w
pub sub_low : (w a b m : ℕ) → m ≡ mask w → a < b → b < 2 ^ w → m - (b - a) + 1 ≡ sub w a b
unfolding sub mask
sub_low w a b m e h l =
    let f : a + 2 ^ w - b ≡ m - (b - a) + 1 = omega arith in
    sym (ap (λ x. x % 2 ^ w) f ∙ mod-eq_of_lt (omega arith))
