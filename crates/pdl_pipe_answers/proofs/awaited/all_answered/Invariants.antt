use Rattle.std.proofs.Common.{◌≡◌, ◌-◌, length}
use Rattle.pdl_form.specs.FormView.{form}
use Rattle.pdl_net.specs.Growth.{Extends}
use Rattle.pdl_law_sides.specs.Sides.{all_answered}
use Rattle.pdl_pipe_answers.specs.Ports.{answers_in, IsBitFor}
use Rattle.pdl_pipe_answers.proofs.awaited.all_answered.Given as goal

-- the last memories
abbrev pub invariant-loop-i : goal.invariant-loop-i
invariant-loop-i l =
    Extends l.fn.b l.b × (l.b.regs ≡ l.fn.b.regs)
    × IsBitFor l.b l.net (all_answered (form l.pipe).pipe (answers_in l.fn.b l.ports) l.k l.i (length (form l.pipe).pipe.mems - l.i))
