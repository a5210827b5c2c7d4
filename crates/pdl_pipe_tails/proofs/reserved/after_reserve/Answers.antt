use Rattle.std.proofs.Common.{sym, ap₂, ◌∙◌, subst}
use Rattle.pdl_net.specs.Meaning.{signal}
use Rattle.pdl_law_parts.specs.Ports.{one_more, reserves_to}
use Rattle.std.proofs.Common.{◌∷◌, []}
use Rattle.pdl_pipe_walk.specs.Parts.{reservation_in}
use Rattle.pdl_pipe_tails.specs.Reserved.{IsAfter}
use Rattle.pdl_pipe_tails.proofs.ReservedTickets.{after_own, after_other}
use Rattle.pdl_pipe_tails.proofs.reserved.after_reserve.Goals as goal

pub returns-then-reserve-mem-clause-after : goal.returns-then-reserve-mem-clause-after
returns-then-reserve-mem-clause-after c =
    let a = c.args.b.now in
    after_other c.args.mem (signal a c.args.moves) (signal a c.args.ticket) (reservation_in a c.args.reserve.now) c.if-reserve-mem.true

pub returns-clause-after : goal.returns-clause-after
returns-clause-after c =
    let a = c.args.b.now in
    let r = reservation_in a c.args.reserve.now in
    let made = c.in_ok-net.ensures.means.same ∙ ap₂ one_more c.in_ok-on.ensures.means.same (c.both.ensures.extends.kept c.args.ticket c.requires.ticket) in
    subst (λ g. IsAfter (signal a c.args.ticket) g (reserves_to c.args.mem (signal a c.args.moves) (r ∷ []))) (sym made)
    (after_own c.args.mem (signal a c.args.moves) (signal a c.args.ticket) r c.if-reserve-mem.false)
