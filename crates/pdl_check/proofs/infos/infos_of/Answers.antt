use Rattle.pdl_check.proofs.MemorySizes.{sized_here}
use Rattle.pdl_check.proofs.infos.infos_of.Goals as goal

pub info_of-requires : goal.info_of-requires
info_of-requires c = sized_here c.args.mems.now c.loop-mem.mem-index _ c.requires c.loop-mem-test.true c.mem-item.is
