use Rattle.std.proofs.Common.{ℕ, refl, sym, ap, ◌∙◌, length, arith}
use Rattle.pdl_net.specs.Meaning.{signal}
use Rattle.pdl_net.proofs.Keeps.{extends_keeps}
use Rattle.pdl_squash.specs.Laws.{signal_at as squash_net}
use Rattle.pdl_law_parts.specs.Views.{View}
use Rattle.pdl_pipe_exprs.specs.Nets.{signals_in, signal_at}
use Rattle.pdl_pipe_walk.proofs.NetGrowth.{bits_keep}
use Rattle.pdl_pipe_nexts.specs.Lines.{line_views}
use Rattle.pdl_pipe_nexts.proofs.LineGrowth.{views_same}
use Rattle.pdl_pipe_moves.proofs.AllMoves.{padded_bits, padded_front, padded_rest, zero_bits, squash_as}
use Rattle.pdl_pipe_moves.proofs.squash.stage_squash.Goals as goal

pub returns-clause-made : goal.returns-clause-made
returns-clause-made c =
    let a = c.args.b.now in
    let d = c.squash_by.new.b in
    let x = c.args.line.now in
    let v = c.args.v in
    let zero = x.shared.now.bits.zero in
    let nets = c.in_ok-nets.nets in
    let made = c.in_ok-nets.ensures in
    let removed = c.in_ok-removed.removed.items in
    let clear = c.in_ok-clear.clear.items in
    let e = extends_keeps a d c.squash_by.ensures.extends in
    let bits = bits_keep a d x.shared.now.bits e c.requires.line.shared.bits in
    let none = zero_bits d x.shared.now.bits bits in
    let n = c.requires.line.count in
    let low = c.requires.low in
    let hr = c.in_ok-removed.ensures in
    let hc = c.in_ok-clear.ensures in
    let rn = made.removed.count in
    let cn = made.clear.count in
    let views = views_same a d x e c.requires.line in
    record {
      happens = made.squash;
      removed_count = hr.count_is ∙ n;
      removed = padded_bits d nets.removed zero (length x.stages.now) v removed made.removed none hr;
      clear_count = hc.count_is ∙ n;
      clear = padded_bits d nets.clear zero (length x.stages.now) v clear made.clear none hc;
      law =
          squash_as v (λ k. (line_views a x k).valid) (λ k. (line_views d x k).valid) (signal a c.args.moves) (signal a c.args.moves)
          (line_views a x v).ended.fails (line_views d x v).ended.fails (signal d nets.squash) (signal d nets.squash)
          (squash_net d nets.removed) (signal_at (signals_in d removed)) (squash_net d nets.clear) (signal_at (signals_in d clear))
          (λ k l. ap (λ (vs : ℕ → View). (vs k).valid) (sym views)) refl (ap (λ (vs : ℕ → View). (vs v).ended.fails) (sym views)) refl
          (λ k l. padded_front d nets.removed zero (length x.stages.now) removed k (omega (arith, l, rn)) (omega (arith, l, low, n)) hr)
          (λ k l. padded_front d nets.clear zero (length x.stages.now) clear k (omega (arith, l, cn)) (omega (arith, l, low, n)) hc) made.law;
      spared = λ k l m. padded_rest d nets.removed zero (length x.stages.now) removed k (omega (arith, l, rn)) (omega (arith, m, n)) hr ∙ bits.zero.same;
    }
