use Rattle.std.proofs.Common.{◌≡◌, drop}
use Rattle.pdl_syntax_tree.specs.View.{stmts_view}
use Rattle.pdl_rules.specs.Forks.{holds_separator}
use Rattle.pdl_rules_judge.proofs.inside.+separator.Given as goal

-- none so far is one
abbrev pub invariant-holds_separator-loop-s : goal.invariant-holds_separator-loop-s
invariant-holds_separator-loop-s l = holds_separator (stmts_view (drop l.s-index l.ss)) ≡ holds_separator (stmts_view l.ss)
