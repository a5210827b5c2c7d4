use Rattle.std.proofs.Common.{rules, ◌+◌, ◌-◌, sym, ◌∙◌, subst, arith}
use Rattle.pdl_net.specs.Meaning.{signal}
use Rattle.pdl_net.proofs.Keeps.{extends_keeps}
use Rattle.pdl_net.proofs.KeptWidths.{width_kept}
use Rattle.pdl_lock_ring.specs.Seeks.{IsWon}
use Rattle.pdl_lock_ring.proofs.RingGrowth.{slots_kept}
use Rattle.pdl_lock_ring.proofs.WonSlots.{won_keep, won_more}
use Rattle.pdl_lock_ring.proofs.Trees.{halved}
use Rattle.pdl_lock_ring.proofs.youngest.+emit_winner.Goals as goal

pub emit_winner-requires : goal.emit_winner-requires
emit_winner-requires t c =
    let h = halved c.args.bits c.if-bits-eq0.false in (
      search rules,
      (c.requires.sized, (c.requires.slots, (c.requires.hits, (omega (arith, c.requires.bits), omega (arith, c.requires.within, h))))),
    )

pub emit_winner-requires-2 : goal.emit_winner-requires-2
emit_winner-requires-2 t c =
    let a = c.args.b.now in
    let b = c.emit_winner.new.b in
    let l = c.args.l in
    let x = c.in_ok-low.ensures.extends in
    let h = halved c.args.bits c.if-bits-eq0.false in (
      search rules,
      (
        c.requires.sized,
        (
          slots_kept a b l c.requires.slots x,
          (
            width_kept a b c.args.hits l.size x c.requires.hits,
            (omega (arith, c.requires.bits), omega (arith, c.requires.within, h, c.power-half.ensures)),
          ),
        ),
      ),
    )

pub emit_either-requires : goal.emit_either-requires
emit_either-requires t c =
    let x = c.in_ok-low.ensures.won in
    let y = c.in_ok-high.ensures.won in
    let e = c.in_ok-high.ensures.extends in
    let z = won_keep c.emit_winner.new.b c.emit_winner-2.new.b c.args.l _ _ _ c.in_ok-low.low x (extends_keeps c.emit_winner.new.b c.emit_winner-2.new.b e) in
    record {
      has = record { there = z.has.there; width = z.has_wide };
      has2 = record { there = y.has.there; width = y.has_wide };
      content = z.content.there;
      content2 = y.content.there;
      contents = y.content_wide ∙ sym z.content_wide;
    }

pub returns-clause-won : goal.returns-clause-won
returns-clause-won t c =
    let a = c.args.b.now in
    let b1 = c.emit_winner.new.b in
    let b2 = c.emit_winner-2.new.b in
    let d = c.emit_either.new.b in
    let l = c.args.l in
    let hits = signal a c.args.hits in
    let top = c.args.bits - 1 in
    let x1 = c.in_ok-low.ensures.extends in
    let low = won_keep b1 b2 l hits top c.args.from c.in_ok-low.low c.in_ok-low.ensures.won (extends_keeps b1 b2 c.in_ok-high.ensures.extends) in
    let high =
    subst (λ m. IsWon b2 l hits top (c.args.from + m) c.in_ok-high.high) c.power-half.ensures
    (subst (λ g. IsWon b2 l g top (c.args.from + c.power-half.result) c.in_ok-high.high) (x1.kept c.args.hits c.requires.hits.there)
    c.in_ok-high.ensures.won) in
    won_more b2 d l hits c.args.bits c.args.from c.in_ok-low.low c.in_ok-high.high c.in_ok-won.won c.if-bits-eq0.false low high c.in_ok-won.ensures.either
