use Rattle.std.proofs.Common.{◌≡◌, arith, ap, sym, ◌∙◌, map, get_or}
use Rattle.std.specs.Prelude.{slice_index}
use Rattle.std.proofs.lemmas.Grind.{common_steps}
use Rattle.pdl_netrun.specs.declared.outside.Outside.{Outside}
use Rattle.pdl_netrun.specs.Outside.{store_after}
use Rattle.pdl_netrun.specs.Held.{held_lists}
use Rattle.pdl_netrun.proofs.Environment.{stepped_more}
use Rattle.pdl_netrun.proofs.outside.step_all.Goals as goal

pub loop-k-preserved : goal.loop-k-preserved
loop-k-preserved c =
    let ports = map (slice_index (held_lists c.args.held.now).values) c.args.drivers.now in
    let m = c.index-memories-k.result in
    let same : get_or c.loop-k.memories c.loop-k.k m ≡ m = sym c.index-memories-k.is in
    stepped_more ports c.args.memories.now c.loop-k.memories c.loop-k.k c.loop-k.bits c.args.replies m c.step_memory.new.memory
    (grind (arith, common_steps)) c.index-memories-k.is
    (c.step_memory.ensures.store ∙ ap (store_after ports c.is_reply.result) same ∙ ap (λ b. store_after ports b m) c.is_reply.ensures)
    (c.step_memory.ensures.commits ∙ ap (λ (x : Outside). x.commits) same)
    (c.step_memory.ensures.requests ∙ ap (λ (x : Outside). x.requests) same) c.loop-k.invariant
