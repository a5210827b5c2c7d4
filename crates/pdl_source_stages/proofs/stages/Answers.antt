use Rattle.pdl_source_stages.proofs.BodyShape.{body_forked, stage_count}
use Rattle.pdl_source_stages.proofs.PathStages.{visits_all}
use Rattle.pdl_source_stages.proofs.stages.Goals as goal

pub returns : goal.returns
returns c = record {
  count = λ p rules. stage_count p (body_forked p rules);
  visits = visits_all;
}
