use Rattle.std.proofs.Common.{◌≡◌, ◌+◌, drop, length}
use Rattle.std.specs.Prelude.{count_by}
use Rattle.pdl_semantics.specs.Flat as flat
use Rattle.pdl_form.specs.View.{mems_view}
use Rattle.pdl_machine.proofs.replies.no_replies.Given as goal

-- there is one for each of those so far
abbrev pub invariant-loop-mem : goal.invariant-loop-mem
invariant-loop-mem l =
    length l.replies.items + count_by (λ (x : flat.Mem). flat.is_delayed x.kind) (mems_view (drop l.mem-index l.mems))
    ≡ count_by (λ (x : flat.Mem). flat.is_delayed x.kind) (mems_view l.mems)
