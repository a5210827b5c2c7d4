use Rattle.std.proofs.Common.{map}
use Rattle.pdl_syntax_tree.specs.View.{pipe_view}
use Rattle.pdl_paths.specs.Actions.{place_view}
use Rattle.pdl_rules_on_texts.proofs.Nth.{kth}
use Rattle.pdl_rules_names.proofs.Needs.{memory_never}
use Rattle.pdl_rules_names.proofs.early.EarlyUseTest.of_memory.Goals as goal

pub returns : goal.returns
returns c =
    let h = kth place_view c.args.self.now.places.now c.args.self.now.k c.requires.here in
    memory_never (pipe_view c.args.self.now.pipe.now) (map place_view c.args.self.now.places.now) c.args.self.now.k h.item c.args._name.now h.is
