use Rattle.std.proofs.Common.{◌≤◌, rules, arith}
use Rattle.pdl_rules_widths.proofs.Literals.{large_shifted, large_never}
use Rattle.pdl_syntax_tree.specs.View.{literal_view}
use Rattle.pdl_word.specs.Words.{widest}
use Rattle.pdl_rules_widths.proofs.measure.is_too_large.Goals as goal

pub returns-then-literal-from : goal.returns-then-literal-from
returns-then-literal-from c = large_shifted (literal_view c.args.literal.now) c.in-Some.value c.in-Some.is

pub returns-else-literal-from : goal.returns-else-literal-from
returns-else-literal-from c =
    let wide : widest ≤ c.args.literal.now.width = let e = c.from.ensures in let f = c.if-literal-from.false in omega (arith, e, f) in
    large_never (literal_view c.args.literal.now) c.in-Some.value c.in-Some.is wide (search rules)
