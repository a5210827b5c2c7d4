use Rattle.std.proofs.Common.{rules, map, ap, ◌∙◌}
use Rattle.std.proofs.lemmas.Fn.{filter_same}
use Rattle.pdl_machine_pending.specs.View.{pending_view}
use Rattle.pdl_machine_pending.proofs.DroppedWrites.{left_filtered}
use Rattle.pdl_machine_pending.proofs.pending.drop_younger.Goals as goal

pub returns-clause-entries : goal.returns-clause-entries
returns-clause-entries c =
    ap (map pending_view) (filter_same _ _ _ (λ x b f' k. search rules) _ _ c.retain.ensures.filtered)
    ∙ left_filtered c.args.thread c.args.pending.now.items
