use Rattle.std.proofs.Common.{◌≡◌, length, sym, ap, ◌∙◌, arith}
use Rattle.pdl_semantics.specs.Stages.{stage_at}
use Rattle.pdl_machine_inflight.specs.Readings.{places_of}
use Rattle.pdl_pipe_nexts.specs.Lines.{line_pipe}
use Rattle.pdl_net.proofs.Keeps.{extends_keeps}
use Rattle.pdl_pipe_moves.proofs.FreePorts.{place_low, made_free}
use Rattle.pdl_pipe_moves.proofs.passing.memory_free.Goals as goal

pub port_free-requires-clause-placed : goal.port_free-requires-clause-placed
port_free-requires-clause-placed c = (c.requires.stand.each c.args.m _ c.port_of-port.result.now (sym c.in-Some.ensures) c.port_of-port.ensures).placed

pub port_free-requires-clause-to : goal.port_free-requires-clause-to
port_free-requires-clause-to c = place_low c.args.b.now c.args.line.now c.requires.line c.requires.inside c.args.k c.requires.low

pub returns-in_ok-free-in-Some-clause-free : goal.returns-in_ok-free-in-Some-clause-free
returns-in_ok-free-in-Some-clause-free c =
    let a = c.args.b.now in
    let b = c.port_free.new.b in
    let it = c.in_ok-free-in-Some.ensures in
    let port = c.port_of-port.result.now in
    let h = c.requires.stand.each c.args.m _ port (sym c.in-Some.ensures) c.port_of-port.ensures in
    let t = c.if-r-k.true in
    let e : c.in-Some.r.stage ≡ c.args.k = omega (arith, t) in
    let count = h.count ∙ ap (λ j. length (places_of (stage_at (line_pipe c.args.line.now) j).next)) e in
    made_free a b
    (extends_keeps a b it.extends) c.args.line.now c.requires.line c.requires.inside c.requires.stand c.args.k c.requires.low c.args.m port c.in_ok-free-in-Some.free c.port_of-port.ensures count it.bit it.law
