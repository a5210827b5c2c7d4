-- New guards.
use Rattle.std.specs.Prelude.{Bool, false, not, List}
use Rattle.pdl_rules.specs.Places.{Place, Guard, at_statement, guard_of, is_among}
use Rattle.pdl_rules.specs.Forms.{of_if}

-- whether a place is an `if` whose guard is none of these
abbrev pub adds_guard : List Guard → Place → Bool
adds_guard gs x = at_statement false (λ s bs. of_if false (λ from c. not (is_among (guard_of from c) gs)) s) x
