use Rattle.std.proofs.Common.{ap, ◌∙◌, subst, arith}
use Rattle.pdl_net.specs.declared.Cell.{Cell}
use Rattle.pdl_net.specs.Signal.{Signal}
use Rattle.pdl_net.specs.Meaning.{signal, cell_signal}
use Rattle.pdl_net.specs.Well.{Fits}
use Rattle.pdl_build.proofs.RuleMeanings.{whole_same, part_same}
use Rattle.pdl_build.proofs.Builder.simple_slice.Goals as goal

pub returns-then-is_below : goal.returns-then-is_below
returns-then-is_below c =
    let a = signal c.args.self.now c.args.a in
    let e = c.width.ensures.value in
    record {
      there = c.requires.there;
      same =
          whole_same a c.args.high c.args.low (omega (arith, c.if-low-eq0.true))
          (omega (arith, c.if-high-width.true, e)) (omega (arith, c.width.ensures.low, e))
          (c.is_below.ensures c.if-is_below.true);
    }

pub returns-in-Some-Slice : goal.returns-in-Some-Slice
returns-in-Some-Slice c =
    let v = c.args.self.now in
    let x = c.in-Some-Slice.x in
    let low = c.in-Some-Slice.below in
    let F : Cell → Type 0 = λ g. Fits v g in
    let f = subst F c.in-Some-Slice.field-0-is c.in-Some-Slice.ensures.fits in
    let e = c.in-Some-Slice.ensures.same ∙ ap (cell_signal v (signal v)) c.in-Some-Slice.field-0-is in
    let w = ap (λ (f : Signal). f.width) e in (
      (f.0, omega (arith, c.requires.order), omega (arith, c.requires.top, w, f.1, f.2)),
      part_same (signal v c.args.a) (signal v x) c.in-Some-Slice.field-0-1 low c.args.high c.args.low e c.requires.order c.requires.top,
    )
