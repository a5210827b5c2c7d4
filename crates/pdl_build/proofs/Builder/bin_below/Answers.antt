use Rattle.pdl_net.specs.Meaning.{signal}
use Rattle.pdl_build.proofs.ValueBounds.{cut, both, masked, masked_by, shifted}
use Rattle.pdl_build.proofs.Builder.bin_below.Goals as goal

pub returns-then-is_below : goal.returns-then-is_below
returns-then-is_below c = λ e. let v = c.args.self.now in
    rw c.in-And.is (masked (signal v c.args.a) (signal v c.args.b) (c.is_below.ensures c.if-is_below.true))

pub returns-else-is_below : goal.returns-else-is_below
returns-else-is_below c = λ e. let v = c.args.self.now in
    rw c.in-And.is (masked_by (signal v c.args.a) (signal v c.args.b) c.requires.widths (c.is_below-else-is_below.ensures e))

pub returns-in-Shr : goal.returns-in-Shr
returns-in-Shr c = λ e. let v = c.args.self.now in
    rw c.in-Shr.is (shifted (signal v c.args.a) (signal v c.args.b) (c.is_below-in-Shr.ensures e))

pub returns-then-is_cut : goal.returns-then-is_cut
returns-then-is_cut c = λ e. let v = c.args.self.now in
    cut c.args.op (signal v c.args.a) (signal v c.args.b) (cc (e, c.is_cut.ensures))

pub returns-then-is_below-2 : goal.returns-then-is_below-2
returns-then-is_below-2 c = λ e. let v = c.args.self.now in
    both c.args.op (signal v c.args.a)
    (signal v c.args.b) c.requires.widths (c.is_below-else-is_cut.ensures c.if-is_below-2.true)
    (c.is_below-then-is_below-2.ensures e)
