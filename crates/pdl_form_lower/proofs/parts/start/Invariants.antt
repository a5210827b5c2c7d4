use Rattle.std.proofs.Common.{◌≡◌, ◌++◌, map, drop}
use Rattle.pdl_semantics.specs.Flatten as spec
use Rattle.pdl_syntax_tree.specs.View as tree
use Rattle.pdl_form_lower.proofs.parts.start.Given as goal

-- those so far and the rest are all
abbrev pub invariant-loop-arg : goal.invariant-loop-arg
invariant-loop-arg l = l.start.items ++ spec.start_of (map tree.literal_view (drop l.arg-index l.args)) ≡ spec.start_of (map tree.literal_view l.args)
