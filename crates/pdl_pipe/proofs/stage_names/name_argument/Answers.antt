use Rattle.std.proofs.Common.{◌<◌, length, sym, subst, arith}
use Rattle.pdl_net.specs.Meaning.{Means}
use Rattle.pdl_pipe_exprs.specs.Nets.{NetsThere, signals_in, signal_at}
use Rattle.pdl_pipe.specs.declared.names.Role.TheVariants.{Guess}
use Rattle.pdl_pipe.specs.Names.{IsNamed}
use Rattle.pdl_pipe.specs.NamedNets.{AddsNames}
use Rattle.pdl_pipe.proofs.NamedParts.{with_role, last_named, adds_one, guess_there, guess_long, guess_named}
use Rattle.pdl_pipe.proofs.stage_names.name_argument.Goals as goal

pub variable-net-requires-clause-there : goal.variable-net-requires-clause-there
variable-net-requires-clause-there c =
    let b = c.args.b.now in
    let n = c.requires.line.count in
    let l = c.requires.live.0 in
    subst (NetsThere b) (sym c.as_slice.ensures)
    (guess_there b c.args.line.now c.args.stage c.stage_of.result.now (omega (arith, n, l)) (sym c.stage_of.ensures) c.requires.line)

pub variable-net-requires-clause-low : goal.variable-net-requires-clause-low
variable-net-requires-clause-low c =
    let n = c.requires.line.count in
    let l = c.requires.live.0 in
    let long = guess_long c.args.b.now c.args.line.now c.args.stage c.stage_of.result.now (omega (arith, n, l)) (sym c.stage_of.ensures) c.requires.line in
    let low = c.requires.live.1 in
    subst (λ xs. c.args.place < length xs) (sym c.as_slice.ensures) (omega (arith, long, low))

pub returns-clause-adds : goal.returns-clause-adds
returns-clause-adds c =
    let b = c.args.b.now in
    let x = c.args.line.now in
    let k = c.args.stage in
    let i = c.args.place in
    let n = c.requires.line.count in
    let l = c.requires.live.0 in
    let old = c.args.names.now.items in
    let net = c.variable-net.result in
    let means = subst (λ xs. Means b net (signal_at (signals_in b xs) i)) c.as_slice.ensures c.variable-net.ensures in
    subst (AddsNames b x old) (sym c.in_ok-name.ensures)
    (adds_one b x old (with_role net (Guess k i))
    (guess_named b x k c.stage_of.result.now (omega (arith, n, l)) (sym c.stage_of.ensures) i net c.requires.live means))

pub returns-clause-has : goal.returns-clause-has
returns-clause-has c =
    let role = Guess c.args.stage c.args.place in
    subst (λ names. IsNamed names role) (sym c.in_ok-name.ensures) (last_named c.args.names.now.items c.variable-net.result role)
