use Rattle.std.proofs.Common.{◌≡◌, length, []}
use Rattle.pdl_word.specs.Each.{Each}
use Rattle.pdl_pipe_moves.proofs.whole.none_passed.Given as goal

-- so many empty lists
abbrev pub invariant-loop : goal.invariant-loop
invariant-loop l = (length l.frees.items ≡ l.counter) × Each (λ fs. fs ≡ []) l.frees.items
