use Rattle.std.proofs.Common.{◌∷◌, []}
use Rattle.pdl_net_needed.proofs.AddedMarks.{adds_first}
use Rattle.pdl_net_needed.proofs.marking.Marking.need_write.Goals as goal

pub returns : goal.returns
returns c =
    adds_first c.args.self.now c.need.new.self c.need_two.new.self c.args.port.enable
    (c.args.port.addr ∷ c.args.port.value ∷ []) c.in_ok-need.ensures c.in_ok-need_two.ensures
