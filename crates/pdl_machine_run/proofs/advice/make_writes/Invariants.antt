use Rattle.std.proofs.Common.{◌≡◌, map, drop}
use Rattle.pdl_machine_run.specs.View.{advised_view}
use Rattle.pdl_machine_run.specs.Advice.{after_writes}
use Rattle.pdl_machine_run.proofs.advice.make_writes.Given as goal

-- the writes left do the rest
abbrev pub invariant-loop-write : goal.invariant-loop-write
invariant-loop-write l = after_writes (map advised_view (drop l.write-index l.writes)) l.memories ≡ after_writes (map advised_view l.writes) l.initial.memories
