use Rattle.std.proofs.Common.{◌∙◌, ap, ℕ, List, drop, length}
use Rattle.std.specs.Prelude.{None}
use Rattle.pdl_machine_run.specs.Acts.{given_by}
use Rattle.pdl_machine_run.proofs.TakenOut.{oldest_in, one_word, one_out}
use Rattle.pdl_machine_run.proofs.step.take_one.Goals as goal

pub release-first-requires : goal.release-first-requires
release-first-requires c = oldest_in (length c.args.memory.now.words) c.args.memory.now.pending c.requires.within

pub returns-clause-memory : goal.returns-clause-memory
returns-clause-memory c =
    let x = c.args.memory.now in
    c.release-first.ensures.memory ∙ ap (λ (ws : List ℕ). record x { words = ws; pending = drop 1 x.pending }) (one_word x.words x.pending)

pub returns-clause-result : goal.returns-clause-result
returns-clause-result c = c.taken_by.ensures ∙ ap (λ e. given_by e None) c.release-first.ensures.result ∙ one_out c.args.memory.now.pending
