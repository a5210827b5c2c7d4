use Rattle.std.proofs.Common.{refl, arith}
use Rattle.pdl_tests_of_parts.proofs.Memory.{suits_rename}
use Rattle.pdl_tests_of_parts.proofs.locks.renamings.Goals as goal

pub driven-requires-clause-suits : goal.driven-requires-clause-suits
driven-requires-clause-suits g c =
    suits_rename _ _ refl (omega arith) (record { width = c.in_ok-mem.ensures.width; depth = c.in_ok-mem.ensures.depth; comb = c.in_ok-mem.ensures.comb })

pub driven-requires-2-clause-suits : goal.driven-requires-2-clause-suits
driven-requires-2-clause-suits g c =
    suits_rename _ _ refl (omega arith) (record { width = c.in_ok-mem.ensures.width; depth = c.in_ok-mem.ensures.depth; comb = c.in_ok-mem.ensures.comb })

pub driven-requires-3-clause-suits : goal.driven-requires-3-clause-suits
driven-requires-3-clause-suits g c =
    suits_rename _ _ refl (omega arith) (record { width = c.in_ok-mem.ensures.width; depth = c.in_ok-mem.ensures.depth; comb = c.in_ok-mem.ensures.comb })

pub driven-requires-4-clause-suits : goal.driven-requires-4-clause-suits
driven-requires-4-clause-suits g c =
    suits_rename _ _ refl (omega arith) (record { width = c.in_ok-mem.ensures.width; depth = c.in_ok-mem.ensures.depth; comb = c.in_ok-mem.ensures.comb })
