use Rattle.std.proofs.Common.{◌≡◌, subst, sym, ℕ, List, length, take, drop, arith, ap, ◌∙◌}
use Rattle.std.specs.Prelude.{IfOk}
use Rattle.pdl_net.specs.declared.Netlist.{Netlist}
use Rattle.pdl_net.specs.Circuit.{circuit_of}
use Rattle.pdl_net.specs.Holds.{ImageFits}
use Rattle.pdl_net.specs.Pipe.{IsWellFormed}
use Rattle.pdl_net.specs.Run.{delayed_mems}
use Rattle.pdl_net.proofs.StartState.{image_part_fits, holds_start}
use Rattle.pdl_net.proofs.PipeMems.{delayed_in_front}
use Rattle.pdl_net.proofs.CommitWidths.{addressed_fits, addressed2_fits}
use Rattle.pdl_image.specs.Images.{IsImage}
use Rattle.pdl_netrun.specs.Steps.{array_words}
use Rattle.pdl_netrun.specs.Sim.{Run}
use Rattle.pdl_netrun.specs.Outside.{first_stores, stores_of}
use Rattle.pdl_netrun.proofs.Reset.{begun_is}
use Rattle.pdl_netrun.proofs.Environment.{stand_outside, few_delayed}
use Rattle.pdl_netrun.proofs.sim.Sim.new.Goals as goal

fits : (n : Netlist) (image : List (List ℕ)) (k : ℕ) → IsWellFormed n → IsImage n.mems image
    → k ≡ length (delayed_mems n) → ImageFits (circuit_of n) (drop k image)
fits n image k w i e = rw e (image_part_fits n image w i.count i.depth i.width)

pub all_arrays-requires-clause-fits : goal.all_arrays-requires-clause-fits
all_arrays-requires-clause-fits c =
    fits c.args.net.now c.args.image.now c.count_delayed-delayed.result c.requires.well c.requires.image c.count_delayed-delayed.ensures

pub all_arrays-requires-clause-few : goal.all_arrays-requires-clause-few
all_arrays-requires-clause-few c = let e = c.count_delayed-delayed.ensures in let f = (few_delayed c.args.net.now c.requires.well.pipe).1 in omega (arith, e, f)

pub all_outside-requires-clause-first : goal.all_outside-requires-clause-first
all_outside-requires-clause-first c =
    delayed_in_front c.args.net.now c.requires.well.pipe ∙ ap (λ k. take k c.args.net.now.mems) (sym c.count_delayed-delayed.ensures)

pub all_outside-requires-clause-many : goal.all_outside-requires-clause-many
all_outside-requires-clause-many c = let e = c.count_delayed-delayed.ensures in
    let f = (few_delayed c.args.net.now c.requires.well.pipe).0 in omega (arith, e, f)

pub all_outside-requires-clause-image : goal.all_outside-requires-clause-image
all_outside-requires-clause-image c = let e = c.count_delayed-delayed.ensures in
    let f = (few_delayed c.args.net.now c.requires.well.pipe).0 in let i = c.requires.image.count in
    omega (arith, e, f, i)

pub plan_of-requires-clause-outside : goal.plan_of-requires-clause-outside
plan_of-requires-clause-outside c =
    let o = c.in_ok-outside.ensures in
    stand_outside c.args.net.now c.args.image.now c.in_ok-outside.outside.items c.requires.well c.requires.image
    (o.stores ∙ ap (λ k. first_stores (take k c.args.image.now)) c.count_delayed-delayed.ensures) o.commits o.requests

pub plan_of-requires-clause-holds : goal.plan_of-requires-clause-holds
plan_of-requires-clause-holds c =
    let k = c.count_delayed-delayed.result in
    holds_start c.args.net.now (drop k c.args.image.now) c.in_ok-resets.resets.items (array_words c.in_ok-arrays.arrays.items) c.requires.well.well
    (fits c.args.net.now c.args.image.now k c.requires.well c.requires.image c.count_delayed-delayed.ensures) c.in_ok-resets.ensures c.in_ok-arrays.ensures

pub plan_of-requires-clause-addresses : goal.plan_of-requires-clause-addresses
plan_of-requires-clause-addresses c =
    λ mem. (addressed_fits c.args.net.now c.requires.well mem, addressed2_fits c.args.net.now c.requires.well mem)

pub returns : goal.returns
returns c =
    subst (λ (r : Run). IfOk c.plan_of.result (λ sim. sim ≡ r))
    (begun_is c.args.net.now c.args.image.now c.count_delayed-delayed.result c.in_ok-resets.resets.items (array_words c.in_ok-arrays.arrays.items)
    (stores_of c.in_ok-outside.outside.items) c.count_delayed-delayed.ensures c.in_ok-resets.ensures c.in_ok-arrays.ensures c.in_ok-outside.ensures.stores)
    c.plan_of.ensures
