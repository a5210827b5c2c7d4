use Rattle.std.proofs.Common.{refl, arith}
use Rattle.pdl_tests_of_parts.proofs.build_rows.arrays.Goals as goal

pub array-requires-clause-depth : goal.array-requires-clause-depth
array-requires-clause-depth c = record { bits = 1; low = omega arith; high = omega arith; power = refl }
