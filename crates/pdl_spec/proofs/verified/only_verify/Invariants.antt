use Rattle.std.proofs.Common.{◌≡◌, List, [], ◌&&◌, map, take}
use Rattle.pdl_rules.specs.Places.{Guard, on_path}
use Rattle.pdl_rules.specs.Stages.{stages_that}
use Rattle.pdl_rules.specs.Speculation.{is_verify_of}
use Rattle.pdl_paths.specs.Actions.{place_view}
use Rattle.pdl_rules_stages.specs.Stages.{stages_in}
use Rattle.pdl_rules_stages.specs.PathBits.{HavePaths, IsPath}
use Rattle.pdl_spec.proofs.SingleNumber.{as_list}
use Rattle.pdl_spec.proofs.verified.only_verify.Given as goal

-- what was found is all of those so far
abbrev pub invariant-loop-k : goal.invariant-loop-k
invariant-loop-k l =
    (gs on : List Guard) → HavePaths gs l.places → IsPath gs on l.path.bits → l.stages ≡ stages_in (map place_view l.places)
    → stages_that (λ y. on_path on y && is_verify_of l.guess y) [] (take l.k (map place_view l.places)) ≡ as_list l.found
