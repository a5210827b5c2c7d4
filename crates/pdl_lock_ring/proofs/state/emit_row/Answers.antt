use Rattle.std.proofs.Common.{◌^◌, ◌≤◌, arith}
use Rattle.std.proofs.Math.Pow.{pow_mono}
use Rattle.pdl_lock_ring.proofs.Rows.{fits}
use Rattle.pdl_word.specs.Words.{widest}
use Rattle.pdl_lock_ring.proofs.state.emit_row.Goals as goal

pub overflow_add-start : goal.overflow_add-start
overflow_add-start c =
    let r = c.args.r in
    let f = fits c.args.start c.args.step c.loop-k.k r.count r.width c.requires.fits c.requires.below c.requires.few (omega (arith, c.loop-k-test.true)) in
    let p : 2 ^ r.width ≤ 2 ^ widest = pow_mono c.requires.high in
    omega (arith, f, p)
