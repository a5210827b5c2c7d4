use Rattle.std.proofs.Common.{◌≡◌, ◌≤◌, sym, ap, subst, ℕ, List, Option, Some, map, length, length-append, arith}
use Rattle.pdl_semantics.specs.Machine.{Reserved}
use Rattle.pdl_semantics.specs.Cycle as stated
use Rattle.pdl_machine_pending.specs.declared.pending.Reserved as r_reserved
use Rattle.pdl_machine_pending.specs.View.{reserved_view}
use Rattle.pdl_machine_run.specs.Acts.{act_of}
use Rattle.pdl_machine_run.proofs.step.reserve_stage.Goals as goal

pub reserve-requires : goal.reserve-requires
reserve-requires c =
    let x = c.args.stage.now in
    let p = c.args.memory.now in
    let all : length (stated.with_reserves c.args.m (act_of 0 (Some c.in-Some.thread) x) p.pending) ≤ p.capacity =
    subst (λ (o : Option ℕ). length (stated.with_reserves c.args.m (act_of 0 o x) p.pending) ≤ p.capacity) (sym c.in-Some.ensures) (c.requires 0) in
    let same : map reserved_view c.as_slice.result.now ≡ map reserved_view x.deeds.reserves.items =
    ap (λ (rs : List r_reserved.Reserved). map reserved_view rs) c.as_slice.ensures.value in
    let es = stated.new_entries c.args.m c.in-Some.thread in
    let long : length (es (map reserved_view c.as_slice.result.now)) ≡ length (es (map reserved_view x.deeds.reserves.items)) =
    ap (λ (rs : List Reserved). length (es rs)) same in
    let sum = length-append p.pending (es (map reserved_view x.deeds.reserves.items)) in
    omega arith
