use Rattle.std.proofs.Common.{◌≡◌, [], length, map, take, drop}
use Rattle.pdl_vread_nets.specs.Places.{AreFirsts}
use Rattle.pdl_vread_rules.specs.RuleQuestions.{first_wrong}
use Rattle.pdl_vread_rules.specs.Once.{in_turn, port_once}
use Rattle.pdl_vread_rules.proofs.once.add_ports.Given as goal

abbrev pub invariant-loop-decl : goal.invariant-loop-decl
invariant-loop-decl l = record {
  names : AreFirsts (map (λ d. d.name) (take (length l.yielded) l.decls)) l.places;
  rest : first_wrong (in_turn (port_once l.drives) (take (length l.yielded) l.decls) (drop (length l.yielded) l.decls))
      ≡ first_wrong (in_turn (port_once l.drives) [] l.decls);
}
