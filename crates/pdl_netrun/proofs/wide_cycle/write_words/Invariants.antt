use Rattle.std.proofs.Common.{◌≡◌, drop, All}
use Rattle.pdl_netrun.specs.Steps.{WriteFits, after_all, array_words}
use Rattle.pdl_netrun.proofs.wide_cycle.write_words.Given as goal

abbrev pub invariant-loop-port : goal.invariant-loop-port
invariant-loop-port l = record {
  rest : after_all (drop l.port-index l.ports) l.values (array_words l.arrays) ≡ after_all l.ports l.values (array_words l.initial.arrays);
  fit : All (λ p. WriteFits p l.values (array_words l.arrays)) l.ports;
}
