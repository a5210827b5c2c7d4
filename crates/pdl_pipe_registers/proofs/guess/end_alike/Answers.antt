use Rattle.std.proofs.Common.{◌≡◌, arith}
use Rattle.pdl_pipe_registers.specs.Items.{ended_item}
use Rattle.pdl_pipe_registers.specs.Begun.{earlier_views}
use Rattle.pdl_pipe_registers.proofs.SettledItems.{each_from}
use Rattle.pdl_pipe_registers.proofs.guess.end_alike.Goals as goal

pub returns-clause-same : goal.returns-clause-same
returns-clause-same c = λ q.
    let us = earlier_views c.args.b.now c.args.earlier.now in
    each_from (λ j. ended_item (us j) c.args.first ≡ ended_item (us j) c.args.second) c.args.earlier.now.ways.now
    (λ k l. c.loop-i.invariant k (let t = c.loop-i-test.false in omega (arith, l, t)))
