use Rattle.std.proofs.Common.{ap, ◌∙◌, ◌-◌, arith, length, length-drop, take, drop}
use Rattle.std.proofs.lemmas.List.{length-take}
use Rattle.pdl_kit.specs.Sinks.{with_bytes}
use Rattle.pdl_kit.proofs.ResumedWrites.{told_on}
use Rattle.pdl_kit.proofs.sink.write_whole.Goals as goal

pub loop-done-preserved : goal.loop-done-preserved
loop-done-preserved g c =
    let i = c.loop-done.invariant in
    let p = c.args.piece.now in
    let k = c.loop-done.done in
    record {
      within = omega (arith, c.in_ok-taken.ensures.bound, length-take (length p - k) (drop k p), length-drop k p);
      told =
          c.in_ok-taken.ensures.bytes
          ∙ ap (with_bytes (take c.in_ok-taken.taken (take (length p - k) (drop k p)))) i.told
          ∙ told_on (g.S.Sink.written c.args.sink.now) p k c.in_ok-taken.taken i.within;
      later = omega (arith, i.later, c.write.ensures.cause.later);
    }
