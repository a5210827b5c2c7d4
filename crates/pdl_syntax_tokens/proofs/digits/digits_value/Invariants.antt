use Rattle.std.proofs.Common.{◌≡◌, take}
use Rattle.pdl_syntax_tokens.specs.Tokens.{fitting, value_of}
use Rattle.pdl_syntax_tokens.proofs.digits.digits_value.Given as goal

-- the value of the digits so far
abbrev pub invariant-loop-c : goal.invariant-loop-c
invariant-loop-c l = l.value ≡ fitting (value_of l.base (take l.c-index l.digits))
