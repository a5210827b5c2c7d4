use Rattle.std.proofs.Common.{subst}
use Rattle.pdl_paths.specs.Actions.{place_view}
use Rattle.pdl_rules_on_texts.proofs.Nth.{all_taken}
use Rattle.pdl_rules_names.specs.Index.{IsIndex}
use Rattle.pdl_rules_names.proofs.index.Index.add_all.Goals as goal

pub loop-k-init : goal.loop-k-init
loop-k-init c = c.requires

pub returns : goal.returns
returns c = subst (IsIndex c.loop-k.self) (all_taken place_view c.args.places.now c.loop-k.k c.loop-k-test.false) c.loop-k.invariant
