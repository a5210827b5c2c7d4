use Rattle.std.proofs.Common.{subst}
use Rattle.pdl_net.specs.Meaning.{signal, Means}
use Rattle.pdl_port.specs.declared.layout.PortLayout.{PortLayout}
use Rattle.pdl_port.specs.Laws.{signal_at}
use Rattle.pdl_port.specs.Places.{layout_of}
use Rattle.pdl_port.specs.Nets.{free_signal}
use Rattle.pdl_port.proofs.Law.{free_law}
use Rattle.pdl_port.proofs.free.emit_port_free.Goals as goal

pub returns-clause-law : goal.returns-clause-law
returns-clause-law c =
    let a = c.args.b.now in
    let d = c.emit_free.new.b in
    let r = c.args.r.now in
    let moves = signal_at a c.args.moves.now in
    let P : PortLayout → Type 0 = λ l. Means d c.in_ok-free.free (free_signal l (signal a r.reply) moves l.places) in
    let m = subst P c.of-l.ensures c.in_ok-free.ensures.means in
    free_law (layout_of r) (signal a r.reply) moves (signal d c.in_ok-free.free) m.same
