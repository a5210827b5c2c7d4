use Rattle.std.proofs.Common.{arith}
use Rattle.std.specs.Prelude.{vec_len, vec_capacity}
use Rattle.pdl_seq.proofs.Rooms.{room_first}
use Rattle.pdl_seq.proofs.NumberedWrites.{none_told}
use Rattle.pdl_form.specs.FormView.{form}
use Rattle.pdl_seq.proofs.FirstState.{first_fits}
use Rattle.pdl_seq.proofs.run.SeqRun.of_flat.Goals as goal

pub invariant_of-result : goal.invariant_of-result
invariant_of-result c =
    record {
      runnable = c.requires.run;
      fit =
          first_fits
          (form c.args.pipe.now) c.requires.run c.args.image.now c.requires.image c.in_ok-turn.turn c.in_ok-turn.ensures.memories c.in_ok-turn.ensures.values c.in_ok-turn.ensures.next c.in_ok-turn.ensures.none;
      next = c.in_ok-turn.ensures.args;
      commits = c.in_ok-turn.ensures.commits;
      writes =
          room_first c.args.streams c.args.threads (vec_len c.in_ok-writes.writes) c.room_for.result
          (vec_capacity c.in_ok-writes.writes) c.room_for.ensures c.in_ok-writes.ensures.len c.in_ok-writes.ensures.capacity;
      count = omega arith;
      told = none_told (form c.args.pipe.now).pipe c.in_ok-writes.writes.items c.in_ok-writes.ensures.items;
    }
