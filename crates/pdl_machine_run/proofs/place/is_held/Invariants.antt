use Rattle.std.proofs.Common.{◌≡◌, map, drop}
use Rattle.pdl_semantics.specs.Machine as machine
use Rattle.pdl_machine_run.specs.View.{place_view}
use Rattle.pdl_machine_run.proofs.place.is_held.Given as goal

-- the places left decide
abbrev pub invariant-loop-place : goal.invariant-loop-place
invariant-loop-place l = machine.is_held (map place_view (drop l.place-index l.held)) l.mem l.var ≡ machine.is_held (map place_view l.held) l.mem l.var
