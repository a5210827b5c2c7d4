use Rattle.pdl_net.proofs.KeptWidths.{width_meant}
use Rattle.pdl_law_parts.specs.declared.Mark.TheVariants.{Late}
use Rattle.pdl_pipe_walk.specs.Parts.{parts_in}
use Rattle.pdl_pipe_walk.proofs.NetGrowth.{mark_width}
use Rattle.pdl_pipe_locks.proofs.PortStages.{ticket_there, own_ticket, late_ticket}
use Rattle.pdl_pipe_locks.proofs.ports.location_ticket.Goals as goal

pub returns-then-not-twice-clause-means : goal.returns-then-not-twice-clause-means
returns-then-not-twice-clause-means c =
    own_ticket c.args.b.now c.args.m c.args.deed.now c.args.twice c.args.var c.net_at-ticket.result c.if-not-twice.true c.net_at-ticket.ensures c.requires.given

pub one_more-requires-clause-on : goal.one_more-requires-clause-on
one_more-requires-clause-on c =
    let a = c.args.b.now in
    width_meant a c.is_marked-late.result _ 1 c.is_marked-late.ensures
    (mark_width (parts_in a c.args.deed.now.ended.now).marks Late c.args.m c.args.var c.requires.given.marks)

pub one_more-requires-clause-ticket : goal.one_more-requires-clause-ticket
one_more-requires-clause-ticket c = ticket_there c.args.b.now c.args.m c.args.deed.now c.net_at-ticket.result c.net_at-ticket.ensures c.requires.given

pub returns-clause-means : goal.returns-clause-means
returns-clause-means c =
    late_ticket c.args.b.now c.one_more.new.b c.args.m c.args.deed.now c.args.twice c.args.var c.net_at-ticket.result c.is_marked-late.result c.in_ok-net.net
    c.if-not-twice.false c.net_at-ticket.ensures c.requires.given c.is_marked-late.ensures c.in_ok-net.ensures.means
