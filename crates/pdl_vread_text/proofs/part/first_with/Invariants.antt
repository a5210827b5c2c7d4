use Rattle.std.proofs.Common.{◌≡◌, drop}
use Rattle.pdl_vread_text.specs.Grammar as spec
use Rattle.pdl_vread_text.proofs.part.first_with.Given as goal

-- none of the rules so far
abbrev pub invariant-loop-rule : goal.invariant-loop-rule
invariant-loop-rule l = spec.first_with (drop l.rule-index l.rules) l.text ≡ spec.first_with l.rules l.text
