use Rattle.std.proofs.Common.{◌≡◌, map, take, drop, []}
use Rattle.pdl_syntax_tree.specs.View.{pipe_view}
use Rattle.pdl_paths.specs.Actions.{place_view}
use Rattle.pdl_rules_judge.specs.ForkOrder.{line_from}
use Rattle.pdl_rules_judge.proofs.fork_scan.broken_line.Given as goal

-- no place so far breaks the rule
abbrev pub invariant-loop-k : goal.invariant-loop-k
invariant-loop-k l =
    line_from l.asked (pipe_view l.pipe) (map place_view (take l.k l.all)) (map place_view (drop l.k l.all))
    ≡ line_from l.asked (pipe_view l.pipe) [] (map place_view l.all)
