use Rattle.std.proofs.Common.{◌≤◌, sym, arith}
use Rattle.pdl_check.proofs.VariableWidths.{narrow_among}
use Rattle.pdl_check.proofs.typed_pipe.TypedPipe.width.Goals as goal
use Rattle.pdl_word.specs.Words.{widest}

pub overflow_cast-result : goal.overflow_cast-result
overflow_cast-result c =
    let most : c.in-Some.width ≤ widest = narrow_among c.args.self.now.variables c.args.self.now.narrow c.args.name.now c.in-Some.width (sym c.in-Some.ensures) in
    omega (arith, most)
