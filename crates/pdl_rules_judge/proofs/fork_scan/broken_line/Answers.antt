use Rattle.std.proofs.Common.{sym, ap, ◌∙◌, map, ◌+◌, Some, arith}
use Rattle.pdl_syntax_tree.specs.View.{pipe_view}
use Rattle.pdl_paths.specs.Actions.{place_view}
use Rattle.pdl_rules_judge.proofs.ForkLines.{after_here, all_after, found, passed}
use Rattle.pdl_rules_judge.proofs.fork_scan.broken_line.Goals as goal

pub breaks_rule-requires-clause-later : goal.breaks_rule-requires-clause-later
breaks_rule-requires-clause-later c =
    after_here place_view (pipe_view c.args.pipe.now) c.loop-k.k c.args.all.now c.requires c.loop-k-test.true
    ∙ sym (ap (map place_view) (all_after (c.loop-k.k + 1) c.args.all.now (omega (arith, c.loop-k-test.true))))

pub returns-then-breaks_rule : goal.returns-then-breaks_rule
returns-then-breaks_rule c =
    ap Some c.line.ensures
    ∙ found place_view c.args.asked (pipe_view c.args.pipe.now) c.args.all.now c.loop-k.k c.index-all-k.result c.loop-k-test.true c.index-all-k.is
    (sym c.breaks_rule.ensures ∙ c.if-breaks_rule.true) c.loop-k.invariant

pub loop-k-preserved : goal.loop-k-preserved
loop-k-preserved c =
    passed place_view c.args.asked (pipe_view c.args.pipe.now) c.args.all.now c.loop-k.k c.index-all-k.result c.loop-k-test.true c.index-all-k.is
    (sym c.breaks_rule.ensures ∙ c.if-breaks_rule.false) c.loop-k.invariant
