use Rattle.std.proofs.Common.{◌∙◌, sym, ap, ap₂, subst, ℕ, List, drop, length}
use Rattle.pdl_semantics.specs.Machine.{Pending}
use Rattle.pdl_machine_pending.specs.Memory.{Memory, oldest, committed_to, AreWithin}
use Rattle.pdl_machine_run.specs.Acts.{given_by}
use Rattle.pdl_machine_run.proofs.TakenOut.{oldest_in, rest_in, two_words, two_left, two_out}
use Rattle.pdl_machine_run.proofs.step.take_two.Goals as goal

pub release-first-requires : goal.release-first-requires
release-first-requires c = oldest_in (length c.args.memory.now.words) c.args.memory.now.pending c.requires.within

pub release-second-requires : goal.release-second-requires
release-second-requires c =
    let x = c.args.memory.now in
    let within : AreWithin (length c.release-first.new.self.words) c.release-first.new.self.pending =
    subst (λ (y : Memory). AreWithin (length y.words) y.pending) (sym c.release-first.ensures.memory) (rest_in x.words x.pending c.requires.within) in
    oldest_in (length c.release-first.new.self.words) c.release-first.new.self.pending within

pub returns-clause-memory : goal.returns-clause-memory
returns-clause-memory c =
    let x = c.args.memory.now in
    c.release-second.ensures.memory
    ∙ ap (λ (y : Memory). record y { words = committed_to y.words (oldest y.pending); pending = drop 1 y.pending }) c.release-first.ensures.memory
    ∙ ap₂ (λ (ws : List ℕ) (es : List Pending). record x { words = ws; pending = es }) (two_words x.words x.pending) (two_left x.pending)

pub returns-clause-result : goal.returns-clause-result
returns-clause-result c =
    c.taken_by.ensures
    ∙ ap₂ given_by c.release-first.ensures.result
    (c.release-second.ensures.result ∙ ap (λ (y : Memory). oldest y.pending) c.release-first.ensures.memory)
    ∙ two_out c.args.memory.now.pending
