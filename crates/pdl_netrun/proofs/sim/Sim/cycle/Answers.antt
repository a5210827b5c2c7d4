use Rattle.std.proofs.Common.{◌≡◌, arith, ap, sym, ◌∙◌, subst, ℕ, List, map, vec_capacity}
use Rattle.std.specs.Prelude.{slice_index}
use Rattle.std.specs.Vec.{with_items}
use Rattle.std.proofs.lemmas.Grind.{common_steps}
use Rattle.pdl_net.specs.Circuit.{circuit_of}
use Rattle.pdl_net.specs.Run.{answers, some_waits}
use Rattle.pdl_netrun.specs.Sim.{run_after}
use Rattle.pdl_netrun.specs.declared.outside.Outside.{Outside}
use Rattle.pdl_netrun.specs.Outside.{stores_of, stores_after}
use Rattle.pdl_netrun.specs.Held.{AreWithin, HeldLists, PlanFits, after_plan, bits_of, held_lists}
use Rattle.pdl_netrun.proofs.SimCycle.{stepped_from}
use Rattle.pdl_netrun.proofs.Cycles.{plan_fits, kept_now, lists_now, outs_now, outs_below_now, regs_now, arrays_now, stores_now, outside_now, seen_now, inputs_kept}
use Rattle.pdl_netrun.proofs.sim.Sim.cycle.Goals as goal

pub step-requires : goal.step-requires
step-requires c =
    let a = c.self.inside in
    subst (λ (xs : List ℕ). PlanFits (bits_of a.held) a.plan xs (held_lists a.held))
    (sym (c.deref-2.ensures.value ∙ c.answer_all-self-inside.ensures.inputs ∙ ap (λ ms. answers (stores_of ms) c.args.replies) c.deref.ensures.value))
    (plan_fits a c.args.replies c.self.invariant)

pub step_all-requires : goal.step_all-requires
step_all-requires c =
    let a = c.self.inside in
    let inputs = c.deref-2.ensures.value ∙ c.answer_all-self-inside.ensures.inputs ∙ ap (λ ms. answers (stores_of ms) c.args.replies) c.deref.ensures.value in
    let held = c.step.ensures.lists ∙ ap (λ xs. after_plan a.plan xs (held_lists a.held)) inputs in
    record { there = outs_below_now a c.args.replies c.self.invariant c.deref-3.result.now _ c.deref-3.ensures.value (ap (λ (l : HeldLists). l.values) held) }

pub invariant_of-self : goal.invariant_of-self
invariant_of-self c =
    let a = c.self.inside in
    let bits = c.args.replies in
    let v = c.self.invariant in
    let inputs = c.deref-2.ensures.value ∙ c.answer_all-self-inside.ensures.inputs ∙ ap (λ ms. answers (stores_of ms) bits) c.deref.ensures.value in
    let held : held_lists c.step.new.self ≡ lists_now a bits = c.step.ensures.lists ∙ ap (λ xs. after_plan a.plan xs (held_lists a.held)) inputs in
    let values = ap (λ (l : HeldLists). l.values) held in
    let kept = kept_now a bits v (held_lists c.step.new.self) held in
    let new = (with_items a.outside c.step_all.new.memories).items in
    let same : new ≡ c.step_all.new.memories = grind (arith, common_steps) in
    let stores =
    stores_now a bits v c.deref-3.result.now (held_lists c.step.new.self).values c.deref_mut.result.now new c.deref-3.ensures.value
    values c.deref_mut.ensures.value (ap stores_of same ∙ c.step_all.ensures.stores) in
    let commits = ap (map (λ (m : Outside). m.commits)) same ∙ c.step_all.ensures.commits ∙ ap (map (λ (m : Outside). m.commits)) c.deref_mut.ensures.value in
    let requests =
    ap (map (λ (m : Outside). m.requests)) same ∙ c.step_all.ensures.requests ∙ ap (map (λ (m : Outside). m.requests)) c.deref_mut.ensures.value in
    record {
      order = v.order;
      places = v.places;
      well = v.well;
      outside = outside_now a bits v new stores commits requests;
      inputs =
          inputs_kept a.outside.items new (vec_capacity c.answer_all-self-inside.new.inputs) commits
          (let q = v.inputs in let k = c.answer_all-self-inside.ensures.capacity in grind (arith, common_steps, q, k));
      ordered = v.ordered;
      all = kept.all;
      plan = v.plan;
      drivers = v.drivers;
      commits = v.commits;
      room = kept.room;
      constants = kept.constants;
      holds = kept.holds;
      within = subst (λ (n : ℕ). AreWithin n (circuit_of a.net.now)) (sym c.step.ensures.bits) v.within;
      addresses = v.addresses;
      seen = seen_now a bits v (held_lists c.step.new.self).values values;
    }

pub returns : goal.returns
returns c =
    let a = c.self.inside in
    let bits = c.args.replies in
    let v = c.self.invariant in
    let inputs = c.deref-2.ensures.value ∙ c.answer_all-self-inside.ensures.inputs ∙ ap (λ ms. answers (stores_of ms) bits) c.deref.ensures.value in
    let held : held_lists c.step.new.self ≡ lists_now a bits = c.step.ensures.lists ∙ ap (λ xs. after_plan a.plan xs (held_lists a.held)) inputs in
    let values = ap (λ (l : HeldLists). l.values) held in
    let vs = (held_lists c.step.new.self).values in
    let outs = outs_now a bits v vs values in
    let new = (with_items a.outside c.step_all.new.memories).items in
    let same : new ≡ c.step_all.new.memories = grind (arith, common_steps) in
    let stores =
    stores_now a bits v c.deref-3.result.now vs c.deref_mut.result.now new c.deref-3.ensures.value
    values c.deref_mut.ensures.value (ap stores_of same ∙ c.step_all.ensures.stores) in
    let waits = c.answer_all-self-inside.ensures.waits ∙ ap (λ ms. some_waits (stores_of ms) bits) c.deref.ensures.value in
    stepped_from a bits (held_lists c.step.new.self).next (held_lists c.step.new.self).arrays (stores_of new)
    (map (slice_index vs) a.drivers.items) c.answer_all-self-inside.result v
    (ap (λ (l : HeldLists). l.next) held ∙ regs_now a bits v) (ap (λ (l : HeldLists). l.arrays) held ∙ arrays_now a bits v) outs
    (stores ∙ ap (λ l. stores_after l a.outside.items bits) (sym outs)) waits
    ∙ ap (λ r. run_after r bits) c.self.view_is
