use Rattle.std.proofs.Common.{◌≡◌, ◌++◌, map, drop}
use Rattle.pdl_semantics.specs.Flatten as spec
use Rattle.pdl_syntax_tree.specs.View as tree
use Rattle.pdl_form.specs.View.{mems_view, mem_names}
use Rattle.pdl_form.specs.Form.{names_of}
use Rattle.pdl_form_lower.specs.Sized.{AreSizedMems}
use Rattle.pdl_form_lower.proofs.parts.memories.Given as goal

-- those so far and the rest are all
abbrev pub invariant-loop-mem : goal.invariant-loop-mem
invariant-loop-mem l =
    record {
      view : mems_view l.memories.items ++ spec.mems_of (map tree.mem_view (drop l.mem-index l.mems)) ≡ spec.mems_of (map tree.mem_view l.mems);
      names : mem_names l.memories.items ++ names_of (map tree.mem_view (drop l.mem-index l.mems)) ≡ names_of (map tree.mem_view l.mems);
      sized : AreSizedMems (map tree.mem_view (drop l.mem-index l.mems));
    }
