use Rattle.std.proofs.Common.{◌≡◌, None, map, take}
use Rattle.pdl_semantics.specs.Tree.{Pipe}
use Rattle.pdl_rules.specs.Places as rules
use Rattle.pdl_paths.specs.Actions.{place_view}
use Rattle.pdl_rules_judge.specs.Counts.{AreCounts}
use Rattle.pdl_rules_judge.specs.LimitLines.{AreLines}
use Rattle.pdl_rules_judge.proofs.limits.lines_of.Given as goal

abbrev pub invariant-loop-k : goal.invariant-loop-k
invariant-loop-k l =
    record {
      lines : (p : Pipe) → AreLines p (take l.k (map place_view l.places)) l.lines;
      counts : AreCounts (take l.k (map place_view l.places)) l.counts;
      guards : l.lines.z6 ≡ None → l.guards ≡ rules.guards (take l.k (map place_view l.places));
    }
