use Rattle.std.proofs.Common.{◌≡◌, map, drop}
use Rattle.pdl_machine_run.specs.View.{blocked_view}
use Rattle.pdl_machine_run.specs.Acts.{block_in}
use Rattle.pdl_semantics.specs.Flat.{list_all}
use Rattle.pdl_machine_run.proofs.decide.blocks_ready.Given as goal

-- the blocks left decide
abbrev pub invariant-loop-block : goal.invariant-loop-block
invariant-loop-block l =
    list_all (λ b. block_in l.memories l.thread b) (map blocked_view (drop l.block-index l.blocks))
    ≡ list_all (λ b. block_in l.memories l.thread b) (map blocked_view l.blocks)
