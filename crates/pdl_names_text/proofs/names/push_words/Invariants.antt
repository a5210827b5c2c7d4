use Rattle.std.proofs.Common.{◌≡◌, ◌++◌, drop}
use Rattle.std.specs.Prelude.{codes, decimal, flat_map}
use Rattle.pdl_names_text.specs.Texts.{words_text}
use Rattle.pdl_names_text.proofs.names.push_words.Given as goal

-- the numbers that are left stand behind what is written
abbrev pub invariant-loop-number : goal.invariant-loop-number
invariant-loop-number l =
    l.text.items ++ flat_map (λ n. codes " " ++ decimal n) (drop l.number-index l.numbers) ≡ l.fn.text.items ++ words_text l.word l.numbers
