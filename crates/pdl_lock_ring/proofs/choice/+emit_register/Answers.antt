use Rattle.std.proofs.Common.{rules, ◌≡◌, ℕ, refl, ◌+◌, ◌-◌, ◌^◌, sym, ap, ◌∙◌, arith}
use Rattle.pdl_net.specs.Signal.{Signal, slice_signal}
use Rattle.pdl_net.specs.Growth.{Extends}
use Rattle.pdl_net.specs.Meaning.{signal}
use Rattle.pdl_net.proofs.Keeps.{extends_trans}
use Rattle.pdl_lock_ring.specs.Registers.{register_of}
use Rattle.pdl_lock_ring.specs.Choices.{selected_signal}
use Rattle.pdl_lock_ring.proofs.RingGrowth.{row_kept, means_as, same_mux}
use Rattle.pdl_lock_ring.proofs.Trees.{halved, selected_more, selected_width}
use Rattle.pdl_lock_ring.proofs.choice.+emit_register.Goals as goal

pub emit_register-requires : goal.emit_register-requires
emit_register-requires t c =
    let a = c.args.b.now in
    let b = c.slice.new.self in
    let r = c.args.r in
    let n = c.args.number in
    let x = c.in_ok-bit.ensures.extends in
    let h = halved c.args.bits c.if-bits-eq0.false in
    let e : (signal b n).width ≡ (signal a n).width = ap (λ (g : Signal). g.width) (x.kept n c.requires.number_there) in (
      search rules,
      (
        row_kept a b r r.count c.requires.row x,
        (
          c.requires.small,
          (
            x.there n c.requires.number_there,
            (omega (arith, e, c.requires.number_width), (omega (arith, c.requires.bits), omega (arith, c.requires.within, h))),
          ),
        ),
      ),
    )

pub emit_register-requires-2 : goal.emit_register-requires-2
emit_register-requires-2 t c =
    let a = c.args.b.now in
    let b1 = c.slice.new.self in
    let b = c.emit_register.new.b in
    let r = c.args.r in
    let n = c.args.number in
    let x : Extends a b = extends_trans a b1 b c.in_ok-bit.ensures.extends c.in_ok-low.ensures.extends in
    let h = halved c.args.bits c.if-bits-eq0.false in
    let e : (signal b n).width ≡ (signal a n).width = ap (λ (g : Signal). g.width) (x.kept n c.requires.number_there) in (
      search rules,
      (
        row_kept a b r r.count c.requires.row x,
        (
          c.requires.small,
          (
            x.there n c.requires.number_there,
            (omega (arith, e, c.requires.number_width), (omega (arith, c.requires.bits), omega (arith, c.requires.within, h, c.power-half.ensures))),
          ),
        ),
      ),
    )

pub returns-clause-means : goal.returns-clause-means
returns-clause-means t c =
    let a = c.args.b.now in
    let b1 = c.slice.new.self in
    let b2 = c.emit_register.new.b in
    let b3 = c.emit_register-2.new.b in
    let r = c.args.r in
    let n = c.args.number in
    let f = register_of r in
    let top = c.args.bits - 1 in
    let x1 = c.in_ok-bit.ensures.extends in
    let x2 = c.in_ok-low.ensures.extends in
    let x3 = c.in_ok-high.ensures.extends in
    let x12 : Extends a b2 = extends_trans a b1 b2 x1 x2 in
    let x23 : Extends b1 b3 = extends_trans b1 b2 b3 x2 x3 in
    let bit : signal b3 c.in_ok-bit.bit ≡ slice_signal top top (signal a n) = x23.kept _ c.in_ok-bit.ensures.means.there ∙ c.in_ok-bit.ensures.means.same in
    let low : signal b3 c.in_ok-low.low ≡ selected_signal f (signal a n) top c.args.from =
    x3.kept _ c.in_ok-low.ensures.means.there ∙ c.in_ok-low.ensures.means.same
    ∙ ap (λ d. selected_signal f d top c.args.from) (x1.kept n c.requires.number_there) in
    let high : signal b3 c.in_ok-high.high ≡ selected_signal f (signal a n) top (c.args.from + 2 ^ top) =
    c.in_ok-high.ensures.means.same
    ∙ ap (λ d. selected_signal f d top (c.args.from + c.power-half.result)) (x12.kept n c.requires.number_there)
    ∙ ap (λ m. selected_signal f (signal a n) top (c.args.from + m)) c.power-half.ensures in
    means_as c.mux.new.self _ _ _ c.in_ok-place.ensures.means
    (same_mux _ _ _ _ _ _ bit high low ∙ sym (selected_more f (signal a n) c.args.bits c.args.from c.if-bits-eq0.false))

pub overflow_add-from : goal.overflow_add-from
overflow_add-from t c =
    let h = halved c.args.bits c.if-bits-eq0.false in
    omega (arith, c.requires.within, c.requires.small, h, c.power-half.ensures)

pub mux-requires-clause-widths : goal.mux-requires-clause-widths
mux-requires-clause-widths t c =
    let w = c.args.r.width in
    let wide = λ (d : Signal) (from : ℕ). selected_width (register_of c.args.r) d w (λ k. refl) (c.args.bits - 1) from in
    ap (λ (g : Signal). g.width) c.in_ok-high.ensures.means.same ∙ wide _ _
    ∙ sym (ap (λ (g : Signal). g.width) (c.in_ok-high.ensures.extends.kept _ c.in_ok-low.ensures.means.there ∙ c.in_ok-low.ensures.means.same) ∙ wide _ _)
