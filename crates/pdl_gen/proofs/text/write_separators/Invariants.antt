use Rattle.std.proofs.Common.{◌≡◌, ◌++◌}
use Rattle.pdl_gen.specs.Generated.{separators}
use Rattle.pdl_gen.proofs.text.write_separators.Given as goal

-- those so far are written
abbrev pub invariant-loop-k : goal.invariant-loop-k
invariant-loop-k l = l.text.items ≡ l.initial.text.items ++ separators l._k
