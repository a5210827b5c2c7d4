use Rattle.std.proofs.Common.{◌≡◌, ◌+◌, ◌^◌, ◌<◌, map}
use Rattle.std.specs.List.{range_with_len}
use Rattle.pdl_gen.specs.Generated.{number, byte}
use Rattle.pdl_gen.proofs.numbers.words.Given as goal

-- those so far are there, and the last number
abbrev pub invariant-loop-address : goal.invariant-loop-address
invariant-loop-address l =
    record {
      number : l.x ≡ number l.n (l._address + 1);
      below : l.x < 2 ^ 32;
      words : l.words.items ≡ map (λ i. byte l.n (i + 2)) (range_with_len 0 l._address);
    }
