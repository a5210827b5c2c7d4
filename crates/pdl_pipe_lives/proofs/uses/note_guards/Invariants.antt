use Rattle.std.proofs.Common.{drop}
use Rattle.std.specs.Prelude.{◌&&◌, nat_le}
use Rattle.pdl_form.specs.View.{guards_view}
use Rattle.pdl_law_parts.specs.Lives.{guards_use}
use Rattle.pdl_pipe_lives.specs.Needs.{AreNotedBut}
use Rattle.pdl_pipe_lives.proofs.uses.note_guards.Given as goal

-- what is left is what the guards from here on go by
abbrev pub invariant-loop-g : goal.invariant-loop-g
invariant-loop-g l =
    AreNotedBut l.fn.last l.last (λ k x. nat_le k l.stage && guards_use (guards_view (drop l.g-index l.gs)) x)
    (λ k x. nat_le k l.stage && guards_use (guards_view l.gs) x)
