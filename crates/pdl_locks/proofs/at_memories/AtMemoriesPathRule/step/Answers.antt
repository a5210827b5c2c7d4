use Rattle.std.proofs.Common.{◌<◌, ◌≤◌, length, arith}
use Rattle.pdl_paths.specs.Actions.{place_view}
use Rattle.pdl_locks.specs.declared.numbers.Keys.TheVariants.{Memories}
use Rattle.pdl_locks.specs.Uses.{IsUsedMemory}
use Rattle.pdl_locks.proofs.UseSteps.{stepped, unstepped}
use Rattle.pdl_locks.proofs.UseLaws.{memory_laws}
use Rattle.pdl_locks.proofs.at_memories.AtMemoriesPathRule.step.Goals as goal

pub returns-then-number-len : goal.returns-then-number-len
returns-then-number-len c gs path before later s e is_on h =
    let number = c.number_of-number.result in
    let below : number < length c.args.state.now.items = omega (arith, c.if-number-len.true, c.len.ensures) in
    stepped Memories IsUsedMemory memory_laws c.args.self.now.places.now c.args.self.now.first.now path before later
    (place_view c.args.place.now) c.args.k number c.args.state.now.items
    c.after.result c.index.result.now s e is_on h c.number_of-number.ensures below c.index.ensures c.after.ensures

pub returns-else-number-len : goal.returns-else-number-len
returns-else-number-len c gs path before later s e is_on h =
    let number = c.number_of-number.result in
    let past : length c.args.state.now.items ≤ number = omega (arith, c.if-number-len.false, c.len.ensures) in
    unstepped Memories IsUsedMemory memory_laws c.args.self.now.places.now c.args.self.now.first.now path before later
    (place_view c.args.place.now) c.args.k number c.args.state.now.items
    s e is_on h c.number_of-number.ensures past
