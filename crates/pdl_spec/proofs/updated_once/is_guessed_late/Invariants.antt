use Rattle.std.proofs.Common.{◌≡◌, drop, not, nat_lt}
use Rattle.std.specs.List.{list_any}
use Rattle.pdl_spec.specs.Updated.{stages_of}
use Rattle.pdl_spec.proofs.updated_once.is_guessed_late.Given as goal

-- none of the guesses so far is late
abbrev pub invariant-loop-guess : goal.invariant-loop-guess
invariant-loop-guess l =
    list_any (λ j. not (nat_lt j l.stage)) (stages_of l.name (drop l.guess-index l.guesses))
    ≡ list_any (λ j. not (nat_lt j l.stage)) (stages_of l.name l.guesses)
