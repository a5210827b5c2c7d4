use Rattle.std.proofs.Common.{◌≡◌, ℤ, ◌+◌, ◌*◌, ◌^◌, ◌%◌, length, subst, arith}
use Rattle.std.proofs.lemmas.Int.{to_z-of_z}
use Rattle.pdl_asm.specs.Values.{given_value, word_of_bits}
use Rattle.pdl_asm.proofs.Bits.{rest_of, word_first, word_fits}
use Rattle.pdl_asm.proofs.encode.+word_of.Goals as goal

pub returns-in-len1-up-clause-value : goal.returns-in-len1-up-clause-value
returns-in-len1-up-clause-value t c =
    word_first _ c.args.bits.now _ _ _ c.in-len1-up.len_at_least c.requires.few c.read_bit-high.ensures.one c.read_bit-high.ensures.value c.word_of-low.ensures.value

pub overflow_add-result : goal.overflow_add-result
overflow_add-result t c =
    let w = word_fits c.read_bit-high.result (length (rest_of c.args.bits.now)) c.word_of-low.result c.read_bit-high.ensures.one
    (omega (arith, c.in-len1-up.len_at_least, c.requires.few)) c.word_of-low.ensures.small in
    omega (arith, w)
