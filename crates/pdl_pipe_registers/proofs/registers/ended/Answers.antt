use Rattle.std.proofs.Common.{◌<◌, length, take, ap, subst, arith}
use Rattle.pdl_form.specs.FormView.{form}
use Rattle.pdl_pipe_registers.specs.Begun.{IsItem}
use Rattle.pdl_pipe_registers.proofs.Begins.{nets_long}
use Rattle.pdl_pipe_registers.proofs.registers.ended.Goals as goal

pub variable-requires-in-Guess-clause-low : goal.variable-requires-in-Guess-clause-low
variable-requires-in-Guess-clause-low c =
    let f = form c.args.pipe.now in
    let n = nets_long c.args.b.now (take (length f.pipe.start) f.widths) c.args.s.now.end.guess c.requires.ended.walk.sized.guess in
    let same = ap length c.as_slice-in-Guess.ensures in
    let low : c.in-Guess.i < length (take (length f.pipe.start) f.widths) = subst (IsItem f) c.in-Guess.is c.requires.item in
    omega (arith, n, same, low)
