use Rattle.std.proofs.Common.{◌≡◌}
use Rattle.pdl_word.specs.Words.{rep}
use Rattle.pdl_netrun.proofs.narrow_words.repeat.Given as goal

abbrev pub invariant-loop : goal.invariant-loop
invariant-loop l = l.copies ≡ rep l.width l.counter l.word
