use Rattle.std.proofs.Common.{◌∙◌, ◌+◌, ap, sym, subst, arith, ℕ, List, length}
use Rattle.std.proofs.lemmas.Grind.{common_steps}
use Rattle.std.proofs.lemmas.Result.{IfOk-weaker}
use Rattle.pdl_net.specs.declared.Netlist.{Netlist}
use Rattle.pdl_net.specs.Circuit.{circuit_of, inputs_of}
use Rattle.pdl_netrun.specs.declared.held.HeldWords.{HeldWords}
use Rattle.pdl_netrun.specs.Steps.{array_words}
use Rattle.pdl_netrun.specs.Order.{IsOrder}
use Rattle.pdl_netrun.specs.Held.{ListsFit, bits_of}
use Rattle.pdl_netrun.proofs.NarrowNets.{within_bits}
use Rattle.pdl_netrun.proofs.Reset.{first_is, small_lists}
use Rattle.pdl_netrun.proofs.start.first_held.Goals as goal

pub hold-requires : goal.hold-requires
hold-requires c = λ t.
    let n = c.args.n.now in
    let o = c.args.order.now in
    let e = c.requires.net in
    let order = subst (λ (x : Netlist). IsOrder (circuit_of x) o.cells.items o.places.items) e c.requires.order.order in
    let h = c.requires.holds.reg_count in
    let r = c.requires.order.regs ∙ ap (λ (x : Netlist). length (inputs_of (circuit_of x))) e in
    let k = first_is o n c.in_ok-values.values.items c.put_constants.new.values.items (o.regs + c.len.result) e c.in_ok-put_constants.ensures
    (grind (arith, common_steps)) (let l = c.len.ensures in grind (arith, common_steps, r, l, h)) in
    subst (λ (vs : List ℕ). ListsFit 64 (record { values = vs; arrays = array_words c.args.arrays.items; next = c.args.next.items })) (sym k)
    (small_lists 64 (circuit_of n) o.cells.items o.places.items c.args.next.items (array_words c.args.arrays.items) c.requires.well order c.requires.holds
    (c.is_narrow.ensures t))

pub returns-clause-within : goal.returns-clause-within
returns-clause-within c =
    IfOk-weaker c.hold.result _ _ (λ (h : HeldWords) b. within_bits c.is_narrow.result (circuit_of c.args.n.now) (bits_of h) c.requires.well c.is_narrow.ensures b) c.hold.ensures.bits
