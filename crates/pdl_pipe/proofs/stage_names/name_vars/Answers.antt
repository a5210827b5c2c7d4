use Rattle.std.proofs.Common.{arith}
use Rattle.pdl_pipe_registers.proofs.Lists.{up_to}
use Rattle.pdl_pipe_nexts.specs.Lines.{line_pipe}
use Rattle.pdl_pipe.specs.declared.names.Role.TheVariants.{Keeps}
use Rattle.pdl_pipe.specs.Names.{IsLive}
use Rattle.pdl_pipe.specs.NamedNets.{HasVarNames}
use Rattle.pdl_pipe.proofs.NamedParts.{adds_none, adds_more, var_stays}
use Rattle.pdl_pipe.proofs.stage_names.name_vars.Goals as goal

pub loop-var-init : goal.loop-var-init
loop-var-init c = record { adds = adds_none c.args.b.now c.args.line.now c.args.names.now.items; has = λ v l. absurd (omega (arith, l)) }

pub loop-var-preserved : goal.loop-var-preserved
loop-var-preserved c =
    let b = c.args.b.now in
    let x = c.args.line.now in
    let k = c.args.stage in
    let old = c.loop-var.names.items in
    let new = c.name_live_var.new.names.items in
    let done = c.in_ok-name_live_var.ensures in record {
      adds = adds_more b x c.args.names.now.items old new c.loop-var.invariant.adds done.adds;
      has =
          up_to (λ v. IsLive (line_pipe x) (Keeps k v) → HasVarNames b x new k v) c.loop-var.var
          (λ v l live. var_stays b x old new k v done.adds (c.loop-var.invariant.has v l live)) done.has;
    }

pub returns-clause-has : goal.returns-clause-has
returns-clause-has c = λ v live. c.loop-var.invariant.has v (let t = c.loop-var-test.false in let n = c.vars-var-end.ensures in let m = live.1 in omega (arith, t, n, m)) live
