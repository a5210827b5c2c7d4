use Rattle.std.proofs.Common.{refl, arith}
use Rattle.pdl_tests_of_parts.proofs.lock_rows.bypass_sizes.Goals as goal

pub sizes-requires-clause-suits : goal.sizes-requires-clause-suits
sizes-requires-clause-suits c =
    let e = c.in_ok-mem.ensures in
    record {
      sizes = record {
        size = refl;
        width_low = omega (arith, e.width);
        width_high = omega (arith, e.width);
        depth = record { bits = 4; low = omega arith; high = omega arith; power = e.depth };
      };
      comb = e.delayed;
    }
