use Rattle.std.proofs.Common.{ap, ◌∙◌}
use Rattle.pdl_paths.specs.Actions.{place_view}
use Rattle.pdl_paths.specs.Masks.{allows_path}
use Rattle.pdl_paths.proofs.MaskPaths.{mask_law}
use Rattle.pdl_paths.proofs.place.Place.is_on.Goals as goal

pub returns : goal.returns
returns c gs masked distinct few below =
    c.allows_path.ensures ∙ ap (λ m. allows_path m c.args.path.bits) masked ∙ mask_law gs (place_view c.args.self.now) c.args.path.bits distinct few below
