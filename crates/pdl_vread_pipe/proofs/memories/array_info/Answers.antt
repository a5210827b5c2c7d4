use Rattle.std.proofs.Common.{◌≤◌, subst, sym}
use Rattle.pdl_vread_pipe.proofs.MemorySearch.{find_short}
use Rattle.pdl_vread_pipe.proofs.memories.array_info.Goals as goal

pub depth_of-requires : goal.depth_of-requires
depth_of-requires c =
    subst (λ x. x ≤ 16) (sym c.bits.ensures) (find_short c.args.array.now.name c.args.locked.now c.in-Some.mem.now c.requires c.in-Some.ensures)
