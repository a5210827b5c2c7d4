use Rattle.std.proofs.Common.{◌≡◌, ◌==◌, List, [], ◌∷◌, ◌++◌, map, true, refl, sym, ap, ap₂, subst, eq-eqb}
use Rattle.std.specs.Prelude.{if◌then◌else◌}
use Rattle.pdl_net.specs.Signal.{Signal}
use Rattle.pdl_net.specs.Meaning.{signal, Means}
use Rattle.pdl_net.proofs.Keeps.{extends_keeps, extends_trans, means_keeps}
use Rattle.pdl_net.proofs.KeptWidths.{width_kept}
use Rattle.pdl_pipe_exprs.proofs.NetLists.{bits_kept}
use Rattle.pdl_lockapi.specs.declared.TicketWrite.{TicketWrite}
use Rattle.pdl_lockapi.specs.Laws.{TicketSignal, ticket_signal}
use Rattle.pdl_law_parts.specs.Walk.{both}
use Rattle.pdl_law_parts.specs.Ports.{tickets_to}
use Rattle.pdl_pipe_locks.specs.Deeds.{view_in}
use Rattle.pdl_pipe_locks.specs.Ports.{AreWrites}
use Rattle.pdl_pipe_locks.proofs.PortLists.{adds_write}
use Rattle.pdl_pipe_locks.proofs.ports.push_write.Goals as goal

pub both-requires-clause-bits : goal.both-requires-clause-bits
both-requires-clause-bits c = bits_kept c.args.b.now c.location_ticket.new.b c.args.bits c.in_ok-ticket.ensures.extends c.requires.bits

pub both-requires-clause-x : goal.both-requires-clause-x
both-requires-clause-x c = width_kept c.args.b.now c.location_ticket.new.b c.args.deed.now.moves 1 c.in_ok-ticket.ensures.extends c.requires.given.moves

pub both-requires-clause-y : goal.both-requires-clause-y
both-requires-clause-y c = width_kept c.args.b.now c.location_ticket.new.b c.args.x.now.on 1 c.in_ok-ticket.ensures.extends c.requires.put.on

pub returns-clause-adds : goal.returns-clause-adds
returns-clause-adds c =
    let a = c.args.b.now in
    let t = c.location_ticket.new.b in
    let b = c.both.new.b in
    let y = c.args.x.now in
    let d = c.args.deed.now in
    let x = c.in_ok-enable.ensures in
    let u = c.in_ok-ticket.ensures in
    let ps = c.args.ports.now in
    let on = both (signal a d.moves) (signal a y.on) in
    let ticket = tickets_to c.args.twice c.args.m (view_in a d) y.var in
    let fs : List TicketSignal = record { enable = on; ticket = ticket; value = signal a y.value } ∷ [] in
    let enabled = subst (λ (f : Signal). Means b c.in_ok-enable.enable f)
    (ap₂ both (u.extends.kept d.moves c.requires.given.moves.there) (u.extends.kept y.on c.requires.put.on.there)) x.means in
    let one = adds_write a b ps c.in_ok-enable.enable c.in_ok-ticket.ticket y.value on ticket
    (signal a y.value) (extends_trans a t b u.extends x.extends) c.requires.ports enabled
    (means_keeps t b c.in_ok-ticket.ticket ticket (extends_keeps t b x.extends) u.means) c.requires.put.value refl in
    let test : (y.mem == c.args.m) ≡ true = eq-eqb y.mem c.args.m c.if-x-m.false in
    let P : List TicketSignal → Type 0 =
    λ gs. AreWrites b (ps ++ record { enable = c.in_ok-enable.enable; ticket = c.in_ok-ticket.ticket; value = y.value } ∷ []) (map (ticket_signal a) ps ++ gs) in
    let Q : List TicketWrite → Type 0 = λ qs. AreWrites b qs (map (ticket_signal a) ps ++ (if y.mem == c.args.m then fs else [])) in
    subst Q (sym c.in_ok-push.ensures.ok) (subst P (sym (ap (λ t. if t then fs else []) test)) one)
