use Rattle.std.proofs.Common.{◌≡◌, ◌∙◌, sym, ap, subst, ℕ, List, length, length-append, arith}
use Rattle.std.proofs.lemmas.List.{length-map}
use Rattle.std.specs.Vec.{with_items}
use Rattle.pdl_word.proofs.Lists.{items_written}
use Rattle.pdl_semantics.specs.Flat.{Mem}
use Rattle.pdl_form.specs.View.{mem_view}
use Rattle.pdl_machine_pending.specs.Memory.{Memory}
use Rattle.pdl_machine_run.specs.declared.beside.Order as r_order
use Rattle.pdl_machine_run.specs.Acts.{acts_of, commits_shown}
use Rattle.pdl_machine_run.specs.Ready.{AreOrders}
use Rattle.pdl_machine_run.proofs.PortCounts.{commits_most}
use Rattle.pdl_machine_run.proofs.cycle.step_beside.Goals as goal

pub show_requests-requires : goal.show_requests-requires
show_requests-requires c =
    let xs = c.as_mut_slice.result.now in
    let ms = acts_of 0 c.args.stages.now in
    let same : length xs ≡ length c.args.beside.now.memories.items = ap (λ (ys : List Memory). length ys) c.as_mut_slice.ensures.value in
    let ts = c.as_slice.result.now in
    let most = commits_most ts 0 ms xs in
    let shown = ap (λ (vs : List ℕ). length vs) c.change_memories.ensures.shown in
    let sum = length-append c.args.shown.now.items (commits_shown ts 0 ms xs) in
    let old = c.args.shown.now.ok.0 in
    let new = c.change_memories.new.shown.ok.0 in
    let mems = ap (λ (ys : List Mem). length ys) c.mems.ensures.mems in
    let all = length-map c.mems.result.now mem_view in
    let count = c.requires.mems in
    let room = c.requires.room in
    let kept = c.change_memories.ensures.capacity in
    record { room = omega arith }

pub returns-clause-long : goal.returns-clause-long
returns-clause-long c n h =
    let os = c.args.beside.now.orders in
    let new = c.step_orders.new.orders in
    let written : (with_items os new).items ≡ new =
    items_written os new (c.step_orders.auto.orders ∙ ap (λ (xs : List r_order.Order). length xs) c.as_mut_slice-2.ensures.value) in
    subst (AreOrders n) (sym written) (c.step_orders.ensures.long n (subst (AreOrders n) (sym c.as_mut_slice-2.ensures.value) h))
