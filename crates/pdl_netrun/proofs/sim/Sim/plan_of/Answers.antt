use Rattle.std.proofs.Common.{◌∙◌, arith, ap, sym, subst, ℕ, length, map}
use Rattle.std.proofs.lemmas.Grind.{common_steps}
use Rattle.pdl_net.specs.declared.Netlist.{Netlist}
use Rattle.pdl_net.specs.Circuit.{circuit_of, outputs_of}
use Rattle.pdl_net.specs.Holds.{Holds}
use Rattle.pdl_netrun.specs.Held.{HeldLists, held_lists}
use Rattle.pdl_netrun.specs.Order.{place, AllEarly}
use Rattle.pdl_netrun.proofs.Reset.{ordered, values_count, constants_first, nothing_seen}
use Rattle.pdl_netrun.proofs.sim.Sim.plan_of.Goals as goal

pub invariant_of-result : goal.invariant_of-result
invariant_of-result c =
    let n = c.args.net.now in
    let o = c.args.order.now in
    let e = c.requires.same in
    let k = ordered o n e c.requires.order c.requires.all in
    let h = c.in_ok-held.held in
    let lists = c.in_ok-held.ensures.lists in
    let f = ap (λ (l : HeldLists). l.values) lists in
    let l = values_count (circuit_of n) o.cells.items (held_lists h).values f in
    record {
      order = o.cells.items;
      places = o.places.items;
      well = c.requires.well;
      outside = c.requires.outside;
      inputs = (let n = c.len.ensures in let q = c.in_ok-inputs.ensures.capacity in grind (arith, common_steps, n, q));
      ordered = k.order;
      all = subst (λ (i : ℕ). AllEarly (circuit_of n) o.places.items i) (sym l) k.all;
      plan = c.in_ok-plan.ensures;
      drivers = c.in_ok-drivers.ensures ∙ ap (λ (x : Netlist). map (λ p. place (circuit_of x) o.places.items p.net) (outputs_of (circuit_of n))) e;
      commits = c.in_ok-commits.ensures;
      room = l;
      constants =
          constants_first (circuit_of n) o.cells.items o.places.items (held_lists h).values
          (length (held_lists h).values) k.order (let r = k.order.room in omega (arith, r, l)) f;
      holds = subst (λ (x : HeldLists). Holds (circuit_of n) x.next x.arrays) (sym lists) c.requires.holds;
      within = c.in_ok-held.ensures.within;
      addresses = c.requires.addresses;
      seen = nothing_seen (circuit_of n) (length c.in_ok-drivers.drivers.items);
    }
