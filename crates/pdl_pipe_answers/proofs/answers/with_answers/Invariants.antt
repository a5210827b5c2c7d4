use Rattle.std.proofs.Common.{◌≡◌, ◌-◌, length}
use Rattle.pdl_form.specs.FormView.{form}
use Rattle.pdl_net.specs.Growth.{Extends}
use Rattle.pdl_net.specs.Meaning.{Means, signal}
use Rattle.pdl_law_sides.specs.Sides.{some_answer}
use Rattle.pdl_pipe_answers.specs.Ports.{answers_in}
use Rattle.pdl_pipe_answers.proofs.answers.with_answers.Given as goal

-- the answers of the last memories
abbrev pub invariant-loop-i : goal.invariant-loop-i
invariant-loop-i l =
    Extends l.fn.b l.b × (l.b.regs ≡ l.fn.b.regs) × ((signal l.b l.net).width ≡ (signal l.fn.b l.fn.kept).width)
    × Means l.b l.net (some_answer (form l.pipe).pipe (answers_in l.fn.b l.ports) l.k l.x l.i (length (form l.pipe).pipe.mems - l.i) (signal l.fn.b l.fn.kept))
