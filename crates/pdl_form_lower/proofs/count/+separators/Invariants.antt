use Rattle.std.proofs.Common.{◌≡◌, ◌+◌, drop}
use Rattle.pdl_semantics.specs.Flatten as spec
use Rattle.pdl_syntax_tree.specs.View.{stmts_view}
use Rattle.pdl_form_lower.proofs.count.+separators.Given as goal

-- those so far and the rest are all
abbrev pub invariant-separators-loop-s : goal.invariant-separators-loop-s
invariant-separators-loop-s l = l.count + spec.separators (stmts_view (drop l.s-index l.ss)) ≡ spec.separators (stmts_view l.ss)
