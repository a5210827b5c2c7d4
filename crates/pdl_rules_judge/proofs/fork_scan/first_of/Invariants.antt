use Rattle.std.proofs.Common.{◌≡◌, map, drop}
use Rattle.pdl_syntax_tree.specs.View.{pipe_view}
use Rattle.pdl_paths.specs.Actions.{place_view}
use Rattle.pdl_rules_judge.specs.ForkOrder as order
use Rattle.pdl_rules_judge.proofs.fork_scan.first_of.Given as goal

-- no rule so far is broken
abbrev pub invariant-loop-asked : goal.invariant-loop-asked
invariant-loop-asked l =
    order.first_of (drop l.asked-index l.rules) (pipe_view l.pipe) (map place_view l.all) ≡ order.first_of l.rules (pipe_view l.pipe) (map place_view l.all)
