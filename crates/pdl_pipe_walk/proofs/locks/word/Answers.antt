use Rattle.std.proofs.Common.{◌∙◌, ℕ, sym, subst}
use Rattle.std.proofs.lemmas.Result.{IfOk-weaker}
use Rattle.pdl_net.specs.Circuit.{array_width}
use Rattle.pdl_net.specs.Signal.{read_signal}
use Rattle.pdl_net.specs.Meaning.{signal, Means}
use Rattle.pdl_form.specs.FormView.{form}
use Rattle.pdl_pipe_walk.specs.Locked.{members, locks_in}
use Rattle.pdl_law_parts.specs.Places.{comb_place}
use Rattle.pdl_pipe_walk.proofs.MadeLocks.{plain_word}
use Rattle.pdl_pipe_walk.proofs.locks.word.Goals as goal

pub returns-else-has_lock-clause-word : goal.returns-else-has_lock-clause-word
returns-else-has_lock-clause-word g c =
    let a = c.args.b.now in
    let p = (form c.args.setting.now.pipe.now).pipe in
    IfOk-weaker c.read.result _ _
    (λ x h. plain_word p
    (locks_in (members g.L.LockModule) (form c.args.setting.now.pipe.now).pipe a c.args.setting.now.locks.now) c.read.new.self x c.args.m
    (signal a c.args.addr)
    (signal a c.args.ticket) (array_width a (comb_place p c.args.m))
    (sym (c.requires.locks.locked c.args.m c.requires.low) ∙ sym c.has_lock.ensures ∙ c.if-has_lock.false)
    (c.requires.locks.width c.args.m c.requires.low c.requires.at_once)
    (subst (λ (n : ℕ). Means c.read.new.self x (read_signal (array_width a n) n (signal a c.args.addr))) c.array_of-array.ensures h))
    c.read.ensures.means
