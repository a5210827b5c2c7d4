use Rattle.std.proofs.Common.{ap}
use Rattle.pdl_rules_names.specs.First.{number_in}
use Rattle.pdl_rules_names.proofs.index.Index.new.Goals as goal

pub returns : goal.returns
returns c =
    record {
      variables = λ x. ap (λ es. number_in es x) c.new.ensures;
      memories = λ x. ap (λ es. number_in es x) c.new-2.ensures;
      guesses = λ x. ap (λ es. number_in es x) c.new-3.ensures;
      names = λ x. ap (λ es. number_in es x) c.new-4.ensures;
    }
