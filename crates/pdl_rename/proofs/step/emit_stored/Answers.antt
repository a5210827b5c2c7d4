use Rattle.std.proofs.Common.{◌≡◌, sym, ap, ◌∙◌}
use Rattle.pdl_net.specs.Signal.{read_signal}
use Rattle.pdl_net.specs.Meaning.{signal}
use Rattle.pdl_net.proofs.Keeps.{extends_keeps}
use Rattle.pdl_lockapi.specs.Laws.{step_signals}
use Rattle.pdl_lockapi.proofs.LockGrowth.{same_signals}
use Rattle.pdl_lock_ring.proofs.RingGrowth.{means_as}
use Rattle.pdl_lock_ring.proofs.Fills.{same_filled, writes_count}
use Rattle.pdl_rename.proofs.step.emit_stored.Goals as goal

pub returns-clause-means : goal.returns-clause-means
returns-clause-means c =
    let a = c.args.b.now in
    let b1 = c.read.new.self in
    let l = c.args.l in
    let p = c.args.p.now in
    let x = c.in_ok-word.ensures.extends in
    let s : step_signals b1 p ≡ step_signals a p = same_signals a b1 p c.requires.given.ports (extends_keeps a b1 x) in
    let word : signal b1 c.in_ok-word.word ≡ read_signal l.slots.width l.array (signal a c.args.place) =
    c.in_ok-word.ensures.means.same ∙ ap (λ w. read_signal w l.array (signal a c.args.place)) c.requires.store.store_word in
    means_as c.emit_value.new.b c.in_ok-stored.stored _ _ c.in_ok-stored.ensures.value
    (same_filled l.slots _ _ _ _ _ _ _ _ s word (x.kept c.args.slot c.requires.slot.there) (sym (writes_count a p)))
