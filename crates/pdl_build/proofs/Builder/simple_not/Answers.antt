use Rattle.std.proofs.Common.{ap, ◌∙◌, subst}
use Rattle.pdl_net.specs.declared.Cell.{Cell}
use Rattle.pdl_net.specs.Meaning.{signal, cell_signal}
use Rattle.pdl_net.specs.Well.{Fits}
use Rattle.pdl_build.proofs.RuleMeanings.{not_twice}
use Rattle.pdl_build.proofs.Builder.simple_not.Goals as goal

pub returns-in-Some-Not : goal.returns-in-Some-Not
returns-in-Some-Not c =
    let v = c.args.self.now in
    let F : Cell → Type 0 = λ g. Fits v g in
    record {
      there = subst F c.in-Some-Not.field-0-is c.in-Some-Not.ensures.fits;
      same =
          not_twice (signal v c.args.a) (signal v c.in-Some-Not.x)
          (c.in-Some-Not.ensures.same ∙ ap (cell_signal v (signal v)) c.in-Some-Not.field-0-is)
          (c.is_below.ensures c.if-is_below.true);
    }
