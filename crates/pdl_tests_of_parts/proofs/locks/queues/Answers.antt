use Rattle.std.proofs.Common.{refl}
use Rattle.pdl_tests_of_parts.proofs.Memory.{suits}
use Rattle.pdl_tests_of_parts.proofs.locks.queues.Goals as goal

pub driven-requires-clause-suits : goal.driven-requires-clause-suits
driven-requires-clause-suits g c =
    suits 1 _ refl (record { width = c.in_ok-mem.ensures.width; depth = c.in_ok-mem.ensures.depth; comb = c.in_ok-mem.ensures.comb })

pub driven-requires-2-clause-suits : goal.driven-requires-2-clause-suits
driven-requires-2-clause-suits g c =
    suits 2 _ refl (record { width = c.in_ok-mem.ensures.width; depth = c.in_ok-mem.ensures.depth; comb = c.in_ok-mem.ensures.comb })

pub driven-requires-3-clause-suits : goal.driven-requires-3-clause-suits
driven-requires-3-clause-suits g c =
    suits 4 _ refl (record { width = c.in_ok-mem.ensures.width; depth = c.in_ok-mem.ensures.depth; comb = c.in_ok-mem.ensures.comb })

pub driven-requires-4-clause-suits : goal.driven-requires-4-clause-suits
driven-requires-4-clause-suits g c =
    suits 16 _ refl (record { width = c.in_ok-mem.ensures.width; depth = c.in_ok-mem.ensures.depth; comb = c.in_ok-mem.ensures.comb })
