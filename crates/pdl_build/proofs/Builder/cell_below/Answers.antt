use Rattle.std.proofs.Common.{subst}
use Rattle.pdl_net.specs.declared.Cell.{Cell}
use Rattle.pdl_net.specs.Meaning.{signal}
use Rattle.pdl_net.specs.Well.{Fits}
use Rattle.pdl_build.proofs.ValueBounds.{constant, complement, part, chosen, joined, repeated}
use Rattle.pdl_build.proofs.Builder.cell_below.Goals as goal

pub returns-in-Const : goal.returns-in-Const
returns-in-Const c = λ e.
    let v = c.args.self.now in
    let F : Cell → Type 0 = λ g. Fits v g in
    let f = subst F c.in-Const.is c.requires in
    rw c.in-Const.is (constant c.in-Const.width c.in-Const.value f.2)

pub returns-in-Not : goal.returns-in-Not
returns-in-Not c = λ e. rw c.in-Not.is (complement (signal c.args.self.now c.in-Not.field-0))

pub returns-in-Bin : goal.returns-in-Bin
returns-in-Bin c = λ e. rw c.in-Bin.is (c.bin_below.ensures e)

pub returns-then-is_below : goal.returns-then-is_below
returns-then-is_below c = λ e.
    let v = c.args.self.now in
    let F : Cell → Type 0 = λ g. Fits v g in
    let f = subst F c.in-Mux.is c.requires in
    rw c.in-Mux.is
    (chosen (signal v c.in-Mux.field-0) (signal v c.in-Mux.a)
    (signal v c.in-Mux.b) f.4 (c.is_below.ensures c.if-is_below.true) (c.is_below-then-is_below.ensures e))

pub returns-in-Slice : goal.returns-in-Slice
returns-in-Slice c = λ e. rw c.in-Slice.is (part c.in-Slice.high c.in-Slice.low (signal c.args.self.now c.in-Slice.a))

pub returns-then-is_below-2 : goal.returns-then-is_below-2
returns-then-is_below-2 c = λ e.
    let v = c.args.self.now in
    rw c.in-Cat.is (joined (signal v c.in-Cat.a) (signal v c.in-Cat.b) (c.is_below-in-Cat.ensures c.if-is_below-2.true) (c.is_below-then-is_below-2.ensures e))

pub returns-in-Rep : goal.returns-in-Rep
returns-in-Rep c = λ e. rw c.in-Rep.is (repeated c.in-Rep.count (signal c.args.self.now c.in-Rep.a) (c.is_below-in-Rep.ensures e))
