use Rattle.std.proofs.Common.{◌≡◌, ◌+◌, ◌++◌, [], length}
use Rattle.std.specs.Vec.Iter.{into_iter_items}
use Rattle.pdl_asm_table.specs.Tables.{first_repeated}
use Rattle.pdl_asm_table.proofs.read.by_name.Given as goal

-- those so far have names of their own
abbrev pub invariant-loop-name : goal.invariant-loop-name
invariant-loop-name l = record {
  first : first_repeated l.named (l.number + 1) (into_iter_items l.name-iterator) ≡ first_repeated [] 1 l.fn.insns;
  all : l.named ++ into_iter_items l.name-iterator ≡ l.fn.insns;
  count : l.number + length (into_iter_items l.name-iterator) ≡ length l.fn.insns;
}
