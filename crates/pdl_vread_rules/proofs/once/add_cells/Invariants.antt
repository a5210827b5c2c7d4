use Rattle.std.proofs.Common.{◌≡◌, [], map, take, drop}
use Rattle.pdl_vread_nets.specs.Places.{AreFirsts}
use Rattle.pdl_vread_rules.specs.RuleQuestions.{first_wrong}
use Rattle.pdl_vread_rules.specs.Once.{in_turn, cell_once}
use Rattle.pdl_vread_rules.proofs.once.add_cells.Given as goal

abbrev pub invariant-loop-decl : goal.invariant-loop-decl
invariant-loop-decl l = record {
  names : AreFirsts (map (λ d. d.name) (take l.decl-index l.decls)) l.places;
  rest : first_wrong (in_turn cell_once (take l.decl-index l.decls) (drop l.decl-index l.decls)) ≡ first_wrong (in_turn cell_once [] l.decls);
}
