use Rattle.std.proofs.Common.{◌≡◌, take}
use Rattle.pdl_netrun.proofs.narrow_lists.narrowed.Given as goal

abbrev pub invariant-loop-word : goal.invariant-loop-word
invariant-loop-word l = l.narrow.items ≡ take l.word-index l.words
