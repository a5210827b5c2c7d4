use Rattle.std.proofs.Common.{◌≡◌, ◌++◌, length, drop}
use Rattle.pdl_vread.specs.Built as spec
use Rattle.pdl_vread.proofs.build.add_ports.Given as goal

-- what is done and what is to come are the whole
abbrev pub invariant-loop-decl : goal.invariant-loop-decl
invariant-loop-decl l = l.ports ++ spec.ports l.drives (length l.yielded) (drop (length l.yielded) l.decls) ≡ spec.ports l.drives 0 l.decls
