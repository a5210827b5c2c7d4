use Rattle.std.proofs.Common.{◌≡◌, drop}
use Rattle.pdl_form.specs.View.{stmts_view}
use Rattle.pdl_law_sides.specs.Readings.{reading_in}
use Rattle.pdl_pipe_answers.proofs.readings.find.Given as goal

-- the first statements don't read it
abbrev pub invariant-loop-s : goal.invariant-loop-s
invariant-loop-s l = reading_in l.mem (stmts_view (drop l.s-index l.stmts)) ≡ reading_in l.mem (stmts_view l.stmts)
