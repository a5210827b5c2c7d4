use Rattle.std.proofs.Common.{◌∷◌, []}
use Rattle.pdl_net_needed.proofs.AddedMarks.{adds_first}
use Rattle.pdl_net_needed.proofs.marking.Marking.need_two.Goals as goal

pub returns : goal.returns
returns c = adds_first c.args.self.now c.need.new.self c.need-2.new.self c.args.a (c.args.b ∷ []) c.in_ok-need.ensures c.in_ok-need-2.ensures
