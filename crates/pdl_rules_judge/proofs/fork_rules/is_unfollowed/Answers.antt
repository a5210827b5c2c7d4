use Rattle.std.proofs.Common.{sym, ap, ◌∙◌, ◌+◌, [], not, map, length, arith}
use Rattle.pdl_syntax_tree.specs.View.{stmts_view}
use Rattle.pdl_rules.specs.Places.{statements}
use Rattle.pdl_paths.specs.Actions.{place_view}
use Rattle.pdl_paths.specs.Guards.{branch_view}
use Rattle.pdl_rules_judge.proofs.ForkCounts.{next_is}
use Rattle.pdl_rules_judge.proofs.fork_rules.is_unfollowed.Goals as goal

pub returns : goal.returns
returns c =
    let n = length (statements [] (stmts_view c.args.when.now)) + (length (statements [] (stmts_view c.args.otherwise.now)) + 0) in
    ap not
    (c.is_cut_in.ensures
    ∙ sym (next_is place_view (map branch_view c.args.branches.now) c.args.later.now n c.left_after-left.result c.index-later-later.result
    (omega (arith, c.left_after.ensures, c.left_after-left.ensures)) c.if-left-eq0.false c.index-later-later.is))
