use Rattle.std.proofs.Common.{map, take}
use Rattle.pdl_syntax_tree.specs.View.{pipe_view}
use Rattle.pdl_paths.specs.Actions.{place_view}
use Rattle.pdl_rules_widths.specs.Lines.{AreLines}
use Rattle.pdl_rules_widths.proofs.widths.lines_of.Given as goal

abbrev pub invariant-loop-k : goal.invariant-loop-k
invariant-loop-k l = AreLines (pipe_view l.pipe) (take l.k (map place_view l.places)) l.lines
