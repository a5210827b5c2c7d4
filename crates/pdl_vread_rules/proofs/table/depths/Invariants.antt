use Rattle.std.proofs.Common.{◌≡◌, ◌+◌, map, take}
use Rattle.pdl_vread_rules.proofs.table.depths.Given as goal

abbrev pub invariant-loop-decl : goal.invariant-loop-decl
invariant-loop-decl l = l.depths ≡ map (λ a. a.last + 1) (take l.decl-index l.decls)
