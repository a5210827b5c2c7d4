use Rattle.pdl_net.specs.Meaning.{signal}
use Rattle.pdl_build.proofs.RuleMeanings.{on_constant_at, after_constant_at}
use Rattle.pdl_build.proofs.Builder.rule.Goals as goal

pub returns-in-Some : goal.returns-in-Some
returns-in-Some c =
    on_constant_at c.on_constant.result c.args.op c.width.result c.in-Some.value c.is_below.result (signal c.args.self.now c.args.a)
    (signal c.args.self.now c.args.b)
    c.width.ensures.value c.in-Some.ensures.value c.on_constant.ensures c.is_below.ensures

pub returns-in-Some-constant_of : goal.returns-in-Some-constant_of
returns-in-Some-constant_of c =
    after_constant_at c.after_constant.result c.args.op c.width-in-Some-constant_of.result c.in-Some-constant_of.value c.is_below-in-Some-constant_of.result
    (signal c.args.self.now c.args.a)
    (signal c.args.self.now c.args.b)
    c.width-in-Some-constant_of.ensures.value c.requires.widths c.in-Some-constant_of.ensures.value c.after_constant.ensures c.is_below-in-Some-constant_of.ensures
