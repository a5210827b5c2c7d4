-- Facts on truth values that std doesn't have.
use Rattle.std.proofs.Common.{◌≡◌, refl, sym, ℕ, Bool, true, false, ◌&&◌, ◌||◌, if◌then◌else◌, Option, Some, None}
use Rattle.std.proofs.Math.Bool.{and-true}

-- what holds where a truth value is true, and where it is false, holds
pub by_bool : (b : Bool) (R : Type 0) → (b ≡ true → R) → (b ≡ false → R) → R
by_bool true R f g = f refl
by_bool false R f g = g refl

-- what holds where either of two truth values is true holds where one of them is
pub by_or : (b c : Bool) (R : Type 0) → (b || c) ≡ true → (b ≡ true → R) → (c ≡ true → R) → R
by_or true c R h f g = f refl
by_or false c R h f g = g h

-- two truth values of which each is true where the other is are equal
pub same_bools : (a b : Bool) → (a ≡ true → b ≡ true) → (b ≡ true → a ≡ true) → a ≡ b
same_bools true true f g = refl
same_bools false false f g = refl
same_bools true false f g = sym (f refl)
same_bools false true f g = g refl

-- a truth value and true is that truth value
pub and_true : (b : Bool) → b ≡ (b && true)
and_true b = sym (and-true b)

-- the second and the third of three truth values may change places
pub and_swap : (a b c : Bool) → ((a && b) && c) ≡ ((a && c) && b)
and_swap true true true = refl
and_swap true true false = refl
and_swap true false true = refl
and_swap true false false = refl
and_swap false b c = refl

-- the second of two truth values may be one that is true where it was
pub or_map : (b c d : Bool) → (c ≡ true → d ≡ true) → (b || c) ≡ true → (b || d) ≡ true
or_map true c d f h = refl
or_map false c d f h = f h

-- the first of two that are given, and there is none
pub none_given : (b : Bool) (k : ℕ) (o : Option ℕ) → (if b then Some k else o) ≡ None → (b ≡ false) × (o ≡ None)
none_given true k o h = cc
none_given false k o h = (refl, h)

-- false is not true
pub untrue : {A : Type 0} → false ≡ true → A
untrue h = absurd (cc h)

-- a choice whose other case is false is false
pub if_false : (t o : Bool) → o ≡ false → (if t then false else o) ≡ false
if_false true o e = refl
if_false false o e = e
