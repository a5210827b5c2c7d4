-- The definitions at values that were worked out by hand.
use Rattle.std.proofs.Common.{◌≡◌, refl}
use Rattle.pdl_word.specs.Words.{mask, add, sub, mul, complement, and, or, xor, equal, differ, less, lts, shl, shr, slice, cat, zext, sext, mux, rep}

masks : (mask 1 ≡ 1) × (mask 8 ≡ 0xff) × (mask 63 ≡ 0x7fff_ffff_ffff_ffff) × (mask 64 ≡ 0xffff_ffff_ffff_ffff)
unfolding mask
masks = (refl, refl, refl, refl)

-- sums at 1, 8, 63 and 64 bits that pass the largest word
sums : (add 1 1 1 ≡ 0) × (add 8 0xff 2 ≡ 1) × (add 63 0x7fff_ffff_ffff_ffff 1 ≡ 0)
    × (add 64 0xffff_ffff_ffff_ffff 0xffff_ffff_ffff_ffff ≡ 0xffff_ffff_ffff_fffe) × (add 8 0x0f 0x10 ≡ 0x1f)
unfolding add
sums = (refl, refl, refl, refl, refl)

-- differences below 0
differences : (sub 1 0 1 ≡ 1) × (sub 8 3 5 ≡ 0xfe) × (sub 63 0 1 ≡ 0x7fff_ffff_ffff_ffff)
    × (sub 64 0 1 ≡ 0xffff_ffff_ffff_ffff) × (sub 8 5 3 ≡ 2) × (sub 8 5 5 ≡ 0)
unfolding sub
differences = (refl, refl, refl, refl, refl, refl)

products : (mul 1 1 1 ≡ 1) × (mul 8 0x10 0x10 ≡ 0) × (mul 8 0xff 0xff ≡ 1) × (mul 64 0xffff_ffff_ffff_ffff 2 ≡ 0xffff_ffff_ffff_fffe)
unfolding mul
products = (refl, refl, refl, refl)

bitwise : (complement 1 0 ≡ 1) × (complement 8 0x0f ≡ 0xf0) × (complement 64 0 ≡ 0xffff_ffff_ffff_ffff)
    × (and 0xc 0xa ≡ 8) × (or 0xc 0xa ≡ 0xe) × (xor 0xc 0xa ≡ 6)
unfolding complement and or xor
bitwise = (refl, refl, refl, refl, refl, refl)

comparisons : (equal 5 5 ≡ 1) × (equal 5 6 ≡ 0) × (differ 5 5 ≡ 0) × (differ 5 6 ≡ 1) × (less 5 6 ≡ 1) × (less 5 5 ≡ 0) × (less 0xff 0 ≡ 0)
unfolding equal differ less
comparisons = (refl, refl, refl, refl, refl, refl, refl)

-- the most negative word is less than every other one
signed_order : (lts 1 1 0 ≡ 1) × (lts 1 0 1 ≡ 0) × (lts 8 0x80 0x7f ≡ 1) × (lts 8 0x7f 0x80 ≡ 0) × (lts 8 0x80 0x80 ≡ 0)
    × (lts 8 0xff 0 ≡ 1) × (lts 64 0x8000_0000_0000_0000 0 ≡ 1) × (lts 64 0 0x8000_0000_0000_0000 ≡ 0)
unfolding lts
signed_order = (refl, refl, refl, refl, refl, refl, refl, refl)

-- shifts by one less than the width, by the width and by more
left_shifts : (shl 8 0x81 0 ≡ 0x81) × (shl 8 0x81 1 ≡ 2) × (shl 8 0xff 7 ≡ 0x80) × (shl 8 0xff 8 ≡ 0)
    × (shl 8 0xff 64 ≡ 0) × (shl 64 3 63 ≡ 0x8000_0000_0000_0000) × (shl 64 1 64 ≡ 0)
    × (shl 64 1 0xffff_ffff_ffff_ffff ≡ 0)
unfolding shl
left_shifts = (refl, refl, refl, refl, refl, refl, refl, refl)

right_shifts : (shr 8 0x81 0 ≡ 0x81) × (shr 8 0x81 1 ≡ 0x40) × (shr 8 0xff 7 ≡ 1) × (shr 8 0xff 8 ≡ 0)
    × (shr 8 0xff 64 ≡ 0) × (shr 64 0x8000_0000_0000_0000 63 ≡ 1) × (shr 64 1 64 ≡ 0)
unfolding shr
right_shifts = (refl, refl, refl, refl, refl, refl, refl)

slices : (slice 7 7 0x80 ≡ 1) × (slice 7 4 0xa5 ≡ 0xa) × (slice 3 0 0xa5 ≡ 5) × (slice 63 63 0x8000_0000_0000_0000 ≡ 1)
    × (slice 63 0 0xffff_ffff_ffff_ffff ≡ 0xffff_ffff_ffff_ffff)
unfolding slice
slices = (refl, refl, refl, refl, refl)

joined : (cat 4 0xa 5 ≡ 0xa5) × (cat 32 0xffff_fffe 1 ≡ 0xffff_fffe_0000_0001) × (cat 63 1 0 ≡ 0x8000_0000_0000_0000)
    × (cat 1 0x7f 1 ≡ 0xff)
unfolding cat
joined = (refl, refl, refl, refl)

extended : (zext 0x80 ≡ 0x80) × (sext 1 64 1 ≡ 0xffff_ffff_ffff_ffff) × (sext 1 64 0 ≡ 0) × (sext 8 16 0x80 ≡ 0xff80)
    × (sext 8 16 0x7f ≡ 0x7f) × (sext 8 8 0xff ≡ 0xff) × (sext 64 64 0x8000_0000_0000_0000 ≡ 0x8000_0000_0000_0000)
unfolding zext sext
extended = (refl, refl, refl, refl, refl, refl, refl)

chosen : (mux 1 5 6 ≡ 5) × (mux 0 5 6 ≡ 6)
unfolding mux
chosen = (refl, refl)

repeated : (rep 1 8 1 ≡ 0xff) × (rep 4 3 0xa ≡ 0xaaa) × (rep 64 1 7 ≡ 7) × (rep 32 2 1 ≡ 0x1_0000_0001)
    × (rep 1 64 1 ≡ 0xffff_ffff_ffff_ffff)
unfolding rep
repeated = (refl, refl, refl, refl, refl)

-- sums and differences of more than 64 bits
wide_sums : (add 65 0x1_ffff_ffff_ffff_ffff 1 ≡ 0) × (add 65 0xffff_ffff_ffff_ffff 1 ≡ 0x1_0000_0000_0000_0000)
    × (add 128 0xffff_ffff_ffff_ffff_ffff_ffff_ffff_ffff 2 ≡ 1) × (sub 128 0 1 ≡ 0xffff_ffff_ffff_ffff_ffff_ffff_ffff_ffff)
    × (sub 127 0 1 ≡ 0x7fff_ffff_ffff_ffff_ffff_ffff_ffff_ffff)
unfolding add sub
wide_sums = (refl, refl, refl, refl, refl)

-- products that pass 64 bits, and 128
wide_products : (mul 128 0xffff_ffff_ffff_ffff 0xffff_ffff_ffff_ffff ≡ 0xffff_ffff_ffff_fffe_0000_0000_0000_0001)
    × (mul 128 0x1_0000_0000_0000_0000 0x1_0000_0000_0000_0001 ≡ 0x1_0000_0000_0000_0000)
    × (mul 65 0xffff_ffff_ffff_ffff 2 ≡ 0x1_ffff_ffff_ffff_fffe)
unfolding mul
wide_products = (refl, refl, refl)

-- shifts by 64, by 127 and by 128 places
wide_shifts : (shl 128 3 64 ≡ 0x3_0000_0000_0000_0000) × (shl 128 3 127 ≡ 0x8000_0000_0000_0000_0000_0000_0000_0000) × (shl 128 1 128 ≡ 0)
    × (shr 128 0x3_0000_0000_0000_0000 64 ≡ 3) × (shr 128 0x8000_0000_0000_0000_0000_0000_0000_0000 127 ≡ 1)
    × (shr 128 0x8000_0000_0000_0000_0000_0000_0000_0000 128 ≡ 0)
unfolding shl shr
wide_shifts = (refl, refl, refl, refl, refl, refl)

wide_order : (lts 128 0x8000_0000_0000_0000_0000_0000_0000_0000 0 ≡ 1) × (lts 128 0 0x8000_0000_0000_0000_0000_0000_0000_0000 ≡ 0)
    × (lts 128 0x8000_0000_0000_0000 0 ≡ 0)
unfolding lts
wide_order = (refl, refl, refl)

wide_parts : (mask 128 ≡ 0xffff_ffff_ffff_ffff_ffff_ffff_ffff_ffff) × (complement 128 1 ≡ 0xffff_ffff_ffff_ffff_ffff_ffff_ffff_fffe)
    × (slice 127 64 0x123_4567_89ab_cdef_0000_0000_0000_0000 ≡ 0x123_4567_89ab_cdef) × (slice 64 63 0x1_8000_0000_0000_0000 ≡ 3)
    × (cat 64 1 2 ≡ 0x1_0000_0000_0000_0002) × (rep 64 2 1 ≡ 0x1_0000_0000_0000_0001)
    × (sext 64 128 0x8000_0000_0000_0000 ≡ 0xffff_ffff_ffff_ffff_8000_0000_0000_0000)
unfolding mask complement slice cat rep sext
wide_parts = (refl, refl, refl, refl, refl, refl, refl)
