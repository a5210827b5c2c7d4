use Rattle.std.proofs.Common.{arith}
use Rattle.std.proofs.lemmas.Grind.{common_steps}
use Rattle.pdl_word.specs.Words.{widest}
use Rattle.pdl_netrun.specs.Steps.{array_words}
use Rattle.pdl_netrun.specs.Held.{lists_of}
use Rattle.pdl_netrun.proofs.CycleParts.{put_room, walk_room, walk_fit, read_there, read_room, write_fit, cycled}
use Rattle.pdl_netrun.proofs.wide_cycle.step.Goals as goal

pub put_words-requires-2 : goal.put_words-requires-2
put_words-requires-2 c =
    put_room widest c.args.plan.now c.args.inputs.now (lists_of c.args.lists.now) c.requires _ _ (grind (arith, common_steps)) (grind (arith, common_steps))

pub walk_runs-requires-clause-room : goal.walk_runs-requires-clause-room
walk_runs-requires-clause-room c =
    walk_room widest c.args.plan.now c.args.inputs.now (lists_of c.args.lists.now) c.requires c.deref-2.result.now _ c.deref-2.ensures.value (grind (arith, common_steps))

pub walk_runs-requires-clause-fit : goal.walk_runs-requires-clause-fit
walk_runs-requires-clause-fit c =
    walk_fit widest c.args.plan.now c.args.inputs.now (lists_of c.args.lists.now) c.requires c.deref-2.result.now _ _
    c.deref-2.ensures.value (grind (arith, common_steps)) (grind (arith, common_steps))

pub read_places-requires-clause-there : goal.read_places-requires-clause-there
read_places-requires-clause-there c =
    read_there widest c.args.plan.now c.args.inputs.now (lists_of c.args.lists.now) c.requires _ _ (grind (arith, common_steps)) (grind (arith, common_steps))

pub read_places-requires-clause-room : goal.read_places-requires-clause-room
read_places-requires-clause-room c =
    read_room widest c.args.plan.now c.args.inputs.now (lists_of c.args.lists.now) c.requires _ _ (grind (arith, common_steps)) (grind (arith, common_steps))

pub write_words-requires : goal.write_words-requires
write_words-requires c =
    write_fit widest c.args.plan.now c.args.inputs.now (lists_of c.args.lists.now) c.requires _ _ _
    (grind (arith, common_steps)) (grind (arith, common_steps)) (grind (arith, common_steps))

pub returns : goal.returns
returns c =
    cycled c.args.plan.now c.args.inputs.now (lists_of c.args.lists.now) _ _ c.deref-4.result.now _ (array_words c.deref_mut-5.result.now) c.deref-6.result.now
    (grind (arith, common_steps)) c.deref-4.ensures.value (grind (arith, common_steps)) c.deref-6.ensures.value
    (grind (arith, common_steps)) (grind (arith, common_steps))
