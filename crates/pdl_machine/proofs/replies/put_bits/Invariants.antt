use Rattle.std.proofs.Common.{◌≡◌, ◌++◌, take, drop, length}
use Rattle.pdl_machine_facts.specs.Ports.{replies_of}
use Rattle.pdl_machine.proofs.replies.put_bits.Given as goal

-- the bits so far are put
abbrev pub invariant-loop-i : goal.invariant-loop-i
invariant-loop-i l = take l.i l.replies ++ replies_of (length (drop l.i l.replies)) l.left ≡ replies_of (length l.initial.replies) l.initial.left
