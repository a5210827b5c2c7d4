use Rattle.std.proofs.Common.{◌≡◌, map, drop}
use Rattle.pdl_machine_run.specs.View.{kept_view}
use Rattle.pdl_semantics.specs.Machine as machine
use Rattle.pdl_machine_run.proofs.deeds.put_kept.Given as goal

-- the words left do the rest
abbrev pub invariant-loop-word : goal.invariant-loop-word
invariant-loop-word l = machine.with_kept (map kept_view (drop l.word-index l.kept)) l.values ≡ machine.with_kept (map kept_view l.kept) l.initial.values
