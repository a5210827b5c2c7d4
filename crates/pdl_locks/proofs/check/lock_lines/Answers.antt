use Rattle.pdl_locks.proofs.check.lock_lines.Goals as goal

pub returns : goal.returns
returns c = c.lock_path_rules-rules.ensures.lines c.in_ok-lines.lines c.in_ok-lines.ensures
