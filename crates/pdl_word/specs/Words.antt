-- Words of w bits: whole numbers below 2 ^ w, with arithmetic modulo 2 ^ w.
use Rattle.std.specs.Prelude.{ℕ, zero, suc, ◌+◌, ◌-◌, ◌*◌, ◌/◌, ◌%◌, ◌^◌, ◌==◌, not, nat_lt, Bool, if◌then◌else◌, bit_and, bit_or, bit_xor}

-- the greatest width of a word, in bits
abbrev pub widest : ℕ
widest = 128

-- 1 where the test passes, else 0
abbrev pub bit : Bool → ℕ
bit b = if b then 1 else 0

-- the largest word
unfoldable pub mask : ℕ → ℕ
mask w = 2 ^ w - 1

-- the sum, modulo 2 ^ w
unfoldable pub add : ℕ → ℕ → ℕ → ℕ
add w a b = (a + b) % 2 ^ w

-- the difference, modulo 2 ^ w
unfoldable pub sub : ℕ → ℕ → ℕ → ℕ
sub w a b = (a + 2 ^ w - b) % 2 ^ w

-- the product, modulo 2 ^ w
unfoldable pub mul : ℕ → ℕ → ℕ → ℕ
mul w a b = a * b % 2 ^ w

-- each bit the other way
unfoldable pub complement : ℕ → ℕ → ℕ
complement w a = 2 ^ w - 1 - a

-- bit by bit
unfoldable pub and : ℕ → ℕ → ℕ
and a b = bit_and a b

-- bit by bit, 1 where either is
unfoldable pub or : ℕ → ℕ → ℕ
or a b = bit_or a b

-- bit by bit, 1 where just one is
unfoldable pub xor : ℕ → ℕ → ℕ
xor a b = bit_xor a b

-- 1 where both are equal, else 0
unfoldable pub equal : ℕ → ℕ → ℕ
equal a b = bit (a == b)

-- 1 where both differ, else 0
unfoldable pub differ : ℕ → ℕ → ℕ
differ a b = bit (not (a == b))

-- 1 where the first is less than the second, else 0
unfoldable pub less : ℕ → ℕ → ℕ
less a b = bit (nat_lt a b)

-- two's complement moved up by half of its range, which keeps its order
abbrev pub sign_shifted : ℕ → ℕ → ℕ
sign_shifted w a = (a + 2 ^ (w - 1)) % 2 ^ w

-- less as two's complement
unfoldable pub lts : ℕ → ℕ → ℕ → ℕ
lts w a b = bit (nat_lt (sign_shifted w a) (sign_shifted w b))

-- shifted by b places and filled with zeros; nothing is left where b is w or more
unfoldable pub shl : ℕ → ℕ → ℕ → ℕ
shl w a b = if nat_lt b w then a * 2 ^ b % 2 ^ w else 0

-- shifted down by b places; nothing is left where b is w or more
unfoldable pub shr : ℕ → ℕ → ℕ → ℕ
shr w a b = if nat_lt b w then a / 2 ^ b else 0

-- the bits from high down to low
unfoldable pub slice : ℕ → ℕ → ℕ → ℕ
slice high low a = a / 2 ^ low % 2 ^ (high + 1 - low)

-- a above the v bits of b
unfoldable pub cat : ℕ → ℕ → ℕ → ℕ
cat v a b = a * 2 ^ v + b

-- zeros above
unfoldable pub zext : ℕ → ℕ
zext a = a

-- the top bit of the w bits of a above them, n bits together
unfoldable pub sext : ℕ → ℕ → ℕ → ℕ
sext w n a = (sign_shifted w a + 2 ^ n - 2 ^ (w - 1)) % 2 ^ n

-- the first where the choice is 1, else the second
unfoldable pub mux : ℕ → ℕ → ℕ → ℕ
mux c a b = if c == 1 then a else b

-- k copies of the u bits of a, each above those before it
unfoldable pub rep : ℕ → ℕ → ℕ → ℕ
rep u zero a = 0
rep u (suc k) a = rep u k a * 2 ^ u + a
