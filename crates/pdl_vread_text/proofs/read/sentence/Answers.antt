use Rattle.pdl_vread_text.proofs.Rules.{nothing_found, one_more_token, no_more_token}
use Rattle.pdl_vread_text.proofs.read.sentence.Goals as goal

pub loop-field-init : goal.loop-field-init
loop-field-init c =
    let k = nothing_found c.args.tokens.now _ c.clear.ensures.items in
    record { fit = k.0; split = k.1 }

pub returns-in-None : goal.returns-in-None
returns-in-None c = no_more_token _ _ _ _ _ _ c.loop-field-test.true c.loop-field.invariant.fit c.loop-field.invariant.split c.in-None.ensures

pub loop-field-preserved : goal.loop-field-preserved
loop-field-preserved c =
    let k =
    one_more_token _ _ _ _ _ _ _ _ _ c.loop-field-test.true c.loop-field.invariant.fit c.loop-field.invariant.split c.in-Some.ensures c.skip.ensures c.in_ok-push-in-Some.ensures.items in
    record { fit = k.0; split = k.1 }
