use Rattle.std.proofs.Common.{◌≡◌, map, drop}
use Rattle.pdl_semantics.specs.Flatten as spec
use Rattle.pdl_syntax_tree.specs.View.{mem_view}
use Rattle.pdl_form_lower.specs.Sized.{AreSizedMems}
use Rattle.pdl_form_lower.proofs.mems.mem_width.Given as goal

-- those before aren't named so
abbrev pub invariant-loop-mem : goal.invariant-loop-mem
invariant-loop-mem l =
    record {
      before : spec.mem_width (map mem_view (drop l.mem-index l.mems)) l.name ≡ spec.mem_width (map mem_view l.mems) l.name;
      sized : AreSizedMems (map mem_view (drop l.mem-index l.mems));
    }
