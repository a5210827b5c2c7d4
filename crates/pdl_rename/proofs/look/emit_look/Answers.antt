use Rattle.std.proofs.Common.{◌≡◌, sym, ap, subst, ◌∙◌}
use Rattle.pdl_net.specs.declared.Net.{Net}
use Rattle.pdl_net.specs.Signal.{Signal}
use Rattle.pdl_net.specs.Meaning.{Means, signal}
use Rattle.pdl_net.specs.Growth.{Extends}
use Rattle.pdl_net.proofs.Keeps.{extends_trans, means_kept}
use Rattle.pdl_lock_ring.specs.Looks.{youngest_look, youngest_ready}
use Rattle.pdl_lock_ring.proofs.RingGrowth.{means_as}
use Rattle.pdl_lock_ring.proofs.Reserves.{picked_means}
use Rattle.pdl_rename.proofs.look.emit_look.Goals as goal

pub returns-clause-ready : goal.returns-clause-ready
returns-clause-ready c =
    let a = c.args.b.now in
    let b1 = c.constant.new.self in
    let b2 = c.emit_mapped.new.b in
    let b3 = c.emit_youngest.new.b in
    let b4 = c.read.new.self in
    let l = c.args.l.slots in
    let k = c.args.kind in
    let addr = c.args.addr in
    let ticket = c.args.ticket in
    let ready = c.in_ok-ready.ready in
    let one = c.in_ok-one.one in
    let x1 = c.in_ok-one.ensures.extends in
    let x2 = c.in_ok-place.ensures.extends in
    let x3 = c.in_ok-ready.ensures.extends in
    let x4 = c.in_ok-value.ensures.extends in
    let x02 : Extends a b2 = extends_trans a b1 b2 x1 x2 in
    let x24 : Extends b2 b4 = extends_trans b2 b3 b4 x3 x4 in
    let x14 : Extends b1 b4 = extends_trans b1 b2 b4 x2 x24 in
    let found = youngest_ready l (signal a addr) (signal a ticket) in
    let now : youngest_ready l (signal b2 addr) (signal b2 ticket) ≡ found =
    ap (λ (g : Signal). youngest_ready l g (signal b2 ticket)) (x02.kept addr c.requires.addr.there)
    ∙ ap (youngest_ready l (signal a addr)) (x02.kept ticket c.requires.ticket.there) in
    let is : Means b4 ready found = means_as b4 ready _ found (means_kept b3 b4 ready _ x4 c.in_ok-ready.ensures.ready) now in
    let picked = picked_means b4 k ready one is.there (means_kept b1 b4 one _ x14 c.in_ok-one.ensures.means) in
    subst (λ (n : Net). Means b4 n (youngest_look k found)) (sym c.by_kind-picked.ensures) (means_as b4 _ _ _ picked (ap (youngest_look k) is.same))
