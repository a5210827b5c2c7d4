use Rattle.std.proofs.Common.{◌≡◌, ℕ, ap, ◌∙◌, sym, subst, arith}
use Rattle.pdl_net.specs.declared.Cell.{Cell}
use Rattle.pdl_net.specs.Signal.{rep_signal}
use Rattle.pdl_net.specs.Meaning.{signal, cell_signal}
use Rattle.pdl_net.specs.Well.{Fits}
use Rattle.pdl_build.proofs.RuleMeanings.{copy_same}
use Rattle.pdl_build.proofs.Builder.simple.Goals as goal

pub returns-in-Rep : goal.returns-in-Rep
returns-in-Rep c =
    let v = c.args.self.now in
    let F : Cell → Type 0 = λ g. Fits v g in
    let a = signal v c.in-Rep.a in
    let one : 1 ≡ c.in-Rep.count = omega (arith, c.if-count-eq1.true) in
    record {
      there = (subst F c.in-Rep.is c.requires).0;
      same = copy_same a ∙ ap (λ (k : ℕ). rep_signal k a) one ∙ sym (ap (cell_signal v (signal v)) c.in-Rep.is);
    }
