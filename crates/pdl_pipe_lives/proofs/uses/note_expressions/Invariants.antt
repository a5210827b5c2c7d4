use Rattle.std.proofs.Common.{drop}
use Rattle.std.specs.Prelude.{◌&&◌, nat_le}
use Rattle.pdl_form.specs.View.{exprs_view}
use Rattle.pdl_law_parts.specs.Lives.{are_using}
use Rattle.pdl_pipe_lives.specs.Needs.{AreNotedBut}
use Rattle.pdl_pipe_lives.proofs.uses.note_expressions.Given as goal

-- what is left is what the expressions from here on use
abbrev pub invariant-loop-e : goal.invariant-loop-e
invariant-loop-e l =
    AreNotedBut l.fn.last l.last (λ k x. nat_le k l.stage && are_using (exprs_view (drop l.e-index l.es)) x)
    (λ k x. nat_le k l.stage && are_using (exprs_view l.es) x)
