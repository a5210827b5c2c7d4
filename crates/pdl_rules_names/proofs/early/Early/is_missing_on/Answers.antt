use Rattle.std.proofs.Common.{◌≤◌, ◌^◌, sym, ◌∙◌, length, arith}
use Rattle.std.proofs.Math.Pow.{pow_mono}
use Rattle.pdl_syntax_tree.specs.View.{pipe_view}
use Rattle.pdl_rules.specs.Places.{places, guards}
use Rattle.pdl_paths.proofs.DistinctGuards.{guards_distinct}
use Rattle.pdl_rules_names.proofs.GivenNames.{missing_off, missing_if}
use Rattle.pdl_rules_names.proofs.early.Early.is_missing_on.Goals as goal

pub overflow_cast-path : goal.overflow_cast-path
overflow_cast-path c =
    let n = length (guards (places (pipe_view c.args.self.now.pipe.now))) in
    let most : 2 ^ n ≤ 2 ^ 10 = pow_mono {i = n} {j = 10} c.requires.ready.suits.few in
    omega (arith, c.requires.path, most)

pub returns-then-not-is_on : goal.returns-then-not-is_on
returns-then-not-is_on c =
    let xs = places (pipe_view c.args.self.now.pipe.now) in
    missing_off _ _ (sym (c.is_on.ensures (guards xs) c.requires.masked (guards_distinct xs) c.requires.ready.suits.few c.requires.path) ∙ c.if-not-is_on.true)

pub returns : goal.returns
returns c =
    let xs = places (pipe_view c.args.self.now.pipe.now) in
    missing_if _ _ _
    (sym (c.is_on.ensures (guards xs) c.requires.masked (guards_distinct xs) c.requires.ready.suits.few c.requires.path)
    ∙ c.if-not-is_on.false) c.is_given_on.ensures
