use Rattle.std.proofs.Common.{sym, ◌∙◌}
use Rattle.pdl_pipe_locks.proofs.ports.second_or.Goals as goal

pub mux-requires-clause-widths : goal.mux-requires-clause-widths
mux-requires-clause-widths c = c.requires.rest.first.width ∙ sym c.requires.rest.second.width
