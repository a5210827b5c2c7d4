use Rattle.std.proofs.Common.{subst, sym}
use Rattle.pdl_netrun.specs.Held.{AreSmall}
use Rattle.pdl_netrun.proofs.NarrowLists.{array_small}
use Rattle.pdl_netrun.proofs.narrow_lists.narrowed_arrays.Goals as goal

pub narrowed-requires : goal.narrowed-requires
narrowed-requires c =
    subst (AreSmall 64) (sym c.deref.ensures.value)
    (array_small 64 c.args.arrays.now c.loop-words.words-index c.words-item.result c.loop-words-test.true c.words-item.is c.requires)
