use Rattle.std.proofs.Common.{sym, subst, arith}
use Rattle.pdl_net.specs.declared.Net.TheVariants.{Reg as RegNet}
use Rattle.pdl_pipe_nexts.proofs.LineGrowth.{bits_there}
use Rattle.pdl_pipe.specs.declared.names.Role.TheVariants.{Holds, Moves}
use Rattle.pdl_pipe.specs.Names.{IsNamed}
use Rattle.pdl_pipe.specs.NamedNets.{AddsNames}
use Rattle.pdl_pipe.proofs.NamedParts.{with_role, last_named, named_stays, adds_one, adds_more, holds_named, moves_named}
use Rattle.pdl_pipe.proofs.stage_names.name_thread.Goals as goal

pub variable-moves-requires-clause-there : goal.variable-moves-requires-clause-there
variable-moves-requires-clause-there c = bits_there c.args.b.now c.args.line.now.moves.now c.requires.line.moves

pub variable-moves-requires-clause-low : goal.variable-moves-requires-clause-low
variable-moves-requires-clause-low c =
    let n = c.requires.line.count in
    let m = c.requires.line.moves_count in
    let l = c.requires.low in
    omega (arith, n, m, l)

pub returns-clause-adds : goal.returns-clause-adds
returns-clause-adds c =
    let b = c.args.b.now in
    let x = c.args.line.now in
    let k = c.args.stage in
    let s = c.stage_of.result.now in
    let n = c.requires.line.count in
    let l = c.requires.low in
    let old = c.args.names.now.items in
    let one = c.name.new.names.items in
    let holds = holds_named b x k s (omega (arith, n, l)) (sym c.stage_of.ensures) c.requires.line l in
    let moves = moves_named b x k c.variable-moves.result l c.variable-moves.ensures in
    adds_more b x old one c.name-2.new.names.items
    (subst (AddsNames b x old) (sym c.in_ok-name.ensures) (adds_one b x old (with_role (RegNet s.regs.valid) (Holds k)) holds))
    (subst (AddsNames b x one) (sym c.in_ok-name-2.ensures) (adds_one b x one (with_role c.variable-moves.result (Moves k)) moves))

pub returns-clause-holds : goal.returns-clause-holds
returns-clause-holds c =
    let b = c.args.b.now in
    let x = c.args.line.now in
    let k = c.args.stage in
    let l = c.requires.low in
    let one = c.name.new.names.items in
    let moves = moves_named b x k c.variable-moves.result l c.variable-moves.ensures in
    named_stays b x one c.name-2.new.names.items (Holds k)
    (subst (AddsNames b x one) (sym c.in_ok-name-2.ensures) (adds_one b x one (with_role c.variable-moves.result (Moves k)) moves))
    (subst (λ names. IsNamed names (Holds k)) (sym c.in_ok-name.ensures)
    (last_named c.args.names.now.items (RegNet c.stage_of.result.now.regs.valid) (Holds k)))

pub returns-clause-moves : goal.returns-clause-moves
returns-clause-moves c =
    let role = Moves c.args.stage in
    subst (λ names. IsNamed names role) (sym c.in_ok-name-2.ensures) (last_named c.name.new.names.items c.variable-moves.result role)
