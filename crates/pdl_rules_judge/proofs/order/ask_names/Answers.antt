use Rattle.std.proofs.Common.{ap, ◌∙◌}
use Rattle.pdl_rules.specs.Places.{guards}
use Rattle.pdl_rules_judge.proofs.order.ask_names.Goals as goal

pub check_names-requires : goal.check_names-requires
check_names-requires c =
    record {
      few = c.requires.few;
      own = c.requires.own ∙ ap guards c.requires.of;
      masks = c.requires.masks;
      places = c.requires.of;
    }
