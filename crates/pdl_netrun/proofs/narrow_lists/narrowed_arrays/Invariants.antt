use Rattle.std.proofs.Common.{◌≡◌, take}
use Rattle.pdl_netrun.specs.Steps.{array_words}
use Rattle.pdl_netrun.proofs.narrow_lists.narrowed_arrays.Given as goal

abbrev pub invariant-loop-words : goal.invariant-loop-words
invariant-loop-words l = array_words l.narrow.items ≡ array_words (take l.words-index l.arrays)
