use Rattle.std.proofs.Common.{arith}
use Rattle.pdl_pipe_registers.proofs.Lists.{up_to}
use Rattle.pdl_pipe.specs.declared.names.Role.TheVariants.{Guess}
use Rattle.pdl_pipe.specs.Names.{IsNamed}
use Rattle.pdl_pipe.proofs.NamedParts.{adds_none, adds_more, named_stays}
use Rattle.pdl_pipe.proofs.stage_names.name_guess.Goals as goal

pub loop-place-init : goal.loop-place-init
loop-place-init c = record { adds = adds_none c.args.b.now c.args.line.now c.args.names.now.items; has = λ i l. absurd (omega (arith, l)) }

pub loop-place-preserved : goal.loop-place-preserved
loop-place-preserved c =
    let b = c.args.b.now in
    let x = c.args.line.now in
    let k = c.args.stage in
    let old = c.loop-place.names.items in
    let new = c.name_argument.new.names.items in
    let done = c.in_ok-name_argument.ensures in record {
      adds = adds_more b x c.args.names.now.items old new c.loop-place.invariant.adds done.adds;
      has = up_to (λ i. IsNamed new (Guess k i)) c.loop-place.place
          (λ i l. named_stays b x old new (Guess k i) done.adds (c.loop-place.invariant.has i l)) done.has;
    }
