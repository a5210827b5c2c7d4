use Rattle.std.proofs.Common.{sym}
use Rattle.pdl_vread_text.proofs.Rules.{begun, gone_on, fewer, stopped_so}
use Rattle.pdl_vread_text.proofs.read.take_rules.Goals as goal

pub loop-alloc-init : goal.loop-alloc-init
loop-alloc-init c = begun c.args.tokens.now _ c.requires

pub loop-alloc-smaller : goal.loop-alloc-smaller
loop-alloc-smaller c = fewer _ _ _ _ _ _ c.in-Ok.ensures

pub loop-alloc-preserved : goal.loop-alloc-preserved
loop-alloc-preserved c = gone_on _ _ _ _ _ _ _ c.loop-alloc.invariant c.in-Ok.ensures

pub returns-in-Err : goal.returns-in-Err
returns-in-Err c = stopped_so _ _ _ _ _ c.take_rule.new.draft _ c.loop-alloc.invariant (sym c.loop-alloc-test.ensures) c.in-Err.ensures
