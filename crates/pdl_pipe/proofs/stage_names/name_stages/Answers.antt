use Rattle.std.proofs.Common.{arith}
use Rattle.pdl_pipe_registers.proofs.Lists.{up_to}
use Rattle.pdl_pipe.specs.NamedNets.{HasStageNames}
use Rattle.pdl_pipe.proofs.NamedParts.{adds_none, adds_more, stage_stays}
use Rattle.pdl_pipe.proofs.stage_names.name_stages.Goals as goal

pub loop-stage-init : goal.loop-stage-init
loop-stage-init c = record { adds = adds_none c.args.b.now c.args.line.now c.args.names.now.items; has = λ k l. absurd (omega (arith, l)) }

pub loop-stage-preserved : goal.loop-stage-preserved
loop-stage-preserved c =
    let b = c.args.b.now in
    let x = c.args.line.now in
    let old = c.loop-stage.names.items in
    let new = c.name_stage.new.names.items in
    let done = c.in_ok-name_stage.ensures in record {
      adds = adds_more b x c.args.names.now.items old new c.loop-stage.invariant.adds done.adds;
      has = up_to (λ k. HasStageNames b x new k) c.loop-stage.stage
          (λ k l. stage_stays b x old new k done.adds (c.loop-stage.invariant.has k l)) done.has;
    }
