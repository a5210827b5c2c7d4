-- What a circuit does in one cycle (IEEE 1364-2005, clauses 5 and 9, of two-valued logic).
use Rattle.std.specs.Prelude.{ℕ, List, [], ◌∷◌, suc, map, slice_index_or, slice_set, ◌==◌, if◌then◌else◌}
use Rattle.pdl_net.specs.declared.Net.{Net}
use Rattle.pdl_net.specs.declared.WritePort.{WritePort}
use Rattle.pdl_net.specs.declared.Array.{Array}
use Rattle.pdl_net.specs.Circuit.{Circuit, State, outputs_of}
use Rattle.pdl_net.specs.Meaning.{signal}

-- the value of a net in a state
abbrev pub net_value : Circuit → State → Net → ℕ
net_value c s x = (signal c x).value s

-- the values of the outputs, in order
unfoldable pub output_values : Circuit → State → List ℕ
output_values c s = map (λ o. net_value c s o.net) (outputs_of c)

-- what the registers take next
unfoldable pub next_regs : Circuit → State → List ℕ
next_regs c s = map (λ r. net_value c s r.next) c.regs

-- the words of an array after its writes, the later port last
abbrev pub after_writes : Circuit → State → List WritePort → List ℕ → List ℕ
after_writes c s [] xs = xs
after_writes c s (p ∷ ps) xs = after_writes c s ps (if net_value c s p.enable == 1 then slice_set xs (net_value c s p.addr) (net_value c s p.value) else xs)

-- the arrays after the cycle, from the k-th on
abbrev pub arrays_from : Circuit → State → List Array → ℕ → List (List ℕ)
arrays_from c s [] k = []
arrays_from c s (a ∷ rest) k = after_writes c s a.writes (slice_index_or s.arrays k []) ∷ arrays_from c s rest (suc k)

-- the words of all arrays after the cycle
unfoldable pub next_arrays : Circuit → State → List (List ℕ)
next_arrays c s = arrays_from c s c.arrays 0
