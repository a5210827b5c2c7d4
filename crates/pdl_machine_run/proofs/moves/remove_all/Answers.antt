use Rattle.std.proofs.Common.{◌<◌, ◌∙◌, length, arith}
use Rattle.std.proofs.lemmas.List.{get_or-set_other}
use Rattle.pdl_machine_run.proofs.StageMoves.{stages_set, removed_more}
use Rattle.pdl_machine_run.proofs.moves.remove_all.Goals as goal

pub loop-k-preserved : goal.loop-k-preserved
loop-k-preserved c =
    let init = c.args.stages.now in
    let now = c.loop-k.stages in
    let k = c.loop-k.k in
    let x = c.index-stages-k.result in
    let y = c.remove.new.stage in
    let i = c.loop-k.invariant in
    let less : k < length now = omega arith in
    record {
      done = removed_more c.args.squasher init now k x y less i.done i.left c.remove.ensures.thread;
      left = λ q d low. get_or-set_other now k q y d (λ e. omega (arith, low, e)) ∙ i.left q d (omega (arith, low));
      wide = λ f h. stages_set f now k y (i.wide f h) (c.remove.ensures.wide f (i.wide f h k x less));
    }
