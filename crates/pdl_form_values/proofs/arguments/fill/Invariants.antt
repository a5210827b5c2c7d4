use Rattle.std.proofs.Common.{◌≡◌, ◌-◌, ◌++◌, take, length, replicate}
use Rattle.pdl_form_values.proofs.arguments.fill.Given as goal

-- the values so far are given
abbrev pub invariant-loop-i : goal.invariant-loop-i
invariant-loop-i l = take l.i l.values ≡ take l.i (l.args ++ replicate (length l.initial.values - length l.args) 0)
