-- What is known of a pipe within the limits, and what is found of one that keeps all rules.
use Rattle.std.specs.Prelude.{◌≡◌, ◌≤◌, map, length}
use Rattle.pdl_semantics.specs.Tree.{Pipe}
use Rattle.pdl_rules.specs.Places.{places, guards}
use Rattle.pdl_rules.specs.Speculation.{verify_stage}
use Rattle.pdl_rules.specs.Widths.{variables}
use Rattle.pdl_paths.specs.Actions.{place_view}
use Rattle.pdl_paths.specs.Masks.{AreMasked}
use Rattle.pdl_rules_stages.specs.Stages.{stages_in}
use Rattle.pdl_locks.specs.Facts.{AreFacts}
use Rattle.pdl_locks.specs.Plan.{plan_of}
use Rattle.pdl_spec.specs.Plan.{spec_plan}
use Rattle.pdl_rules_judge.specs.declared.order.Known.{Known}
use Rattle.pdl_rules_judge.specs.declared.order.Findings.{Findings}

-- the guards, at most ten, the places with their masks, the variables, the facts and the stage of the verifies are those of the pipe
pub record IsKnown (p : Pipe) (known : Known) : Type 0 where
  pub few : length known.guards.now ≤ 10
  pub own : known.guards.now ≡ guards (map place_view known.places.now)
  pub masks : AreMasked known.guards.now known.places.now
  pub of : map place_view known.places.now ≡ places p
  pub variables : known.variables.now ≡ variables p
  pub facts : AreFacts p known.places.now known.facts.now
  pub verified : known.verified ≡ verify_stage p

-- the guards, the variables, the stages, the plan of the locks and the stages of verifies and updates that were found are those of the pipe
pub record AreFindings (p : Pipe) (found : Findings) : Type 0 where
  pub guards : found.guards ≡ guards (places p)
  pub variables : found.variables ≡ variables p
  pub stages : found.stages.items ≡ stages_in (places p)
  pub locks : found.plans.locks ≡ plan_of p
  pub spec : found.plans.spec ≡ spec_plan p
