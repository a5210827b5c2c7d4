use Rattle.std.proofs.Common.{◌≡◌, drop, ◌==◌}
use Rattle.std.specs.List.{list_any}
use Rattle.pdl_spec.proofs.checked.is_among.Given as goal

-- none of those so far is it
abbrev pub invariant-loop-other : goal.invariant-loop-other
invariant-loop-other l = list_any (λ k. k == l.stage) (drop l.other-index l.stages) ≡ list_any (λ k. k == l.stage) l.stages
