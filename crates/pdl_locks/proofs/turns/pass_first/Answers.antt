use Rattle.std.proofs.Common.{◌<◌, ◌≤◌, ◌∙◌, length, map, arith}
use Rattle.pdl_paths.specs.Actions.{place_view}
use Rattle.pdl_locks.specs.declared.numbers.Keys.TheVariants.{Locations, Memories}
use Rattle.pdl_locks.specs.Uses.{IsFirst}
use Rattle.pdl_locks.proofs.UseSteps.{stepped, unstepped, own_number}
use Rattle.pdl_locks.proofs.FirstReserved.{first_laws}
use Rattle.pdl_locks.proofs.turns.pass_first.Goals as goal

pub returns-then-number-len : goal.returns-then-number-len
returns-then-number-len c rows path before later s t e is_on h =
    let x = place_view c.args.place.now in
    let all = map place_view rows in
    let number = c.number_of-number.result in
    let below : number < length c.args.first.now.items = omega (arith, c.if-number-len.true, c.len.ensures) in
    stepped Memories (IsFirst all) (first_laws all) rows c.args.memories.now path before later x c.args.k number c.args.first.now.items
    c.first_after.result c.index.result.now t e is_on h c.number_of-number.ensures below c.index.ensures
    (λ l earlier own was.
    c.first_after.ensures all earlier l own (c.number_of.ensures ∙ own_number Locations rows c.args.locations.now before later x c.args.k l s e own) was)

pub returns-else-number-len : goal.returns-else-number-len
returns-else-number-len c rows path before later s t e is_on h =
    let all = map place_view rows in
    let number = c.number_of-number.result in
    let past : length c.args.first.now.items ≤ number = omega (arith, c.if-number-len.false, c.len.ensures) in
    unstepped Memories (IsFirst all) (first_laws all) rows c.args.memories.now path before later (place_view c.args.place.now) c.args.k number c.args.first.now.items
    t e is_on h c.number_of-number.ensures past
