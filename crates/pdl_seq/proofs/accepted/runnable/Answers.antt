use Rattle.pdl_seq.proofs.Limits.{few_mems, two_writes}
use Rattle.pdl_seq.proofs.accepted.runnable.Goals as goal

pub returns : goal.returns
returns c = λ p rules source named.
    record {
      typed = c.typed_form.ensures p rules named;
      sound = c.sound.ensures p rules source named;
      twice = two_writes p rules source;
      few = few_mems p rules;
    }
