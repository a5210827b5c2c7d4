use Rattle.std.proofs.Common.{◌∷◌, [], sym, subst}
use Rattle.pdl_net_needed.specs.Needed.{reads_of}
use Rattle.pdl_net_needed.specs.Marking.{Adds}
use Rattle.pdl_net_needed.proofs.AddedMarks.{adds_first}
use Rattle.pdl_net_needed.proofs.marking.Marking.need_reads.Goals as goal

pub returns-in_ok-need_two-in-Mux : goal.returns-in_ok-need_two-in-Mux
returns-in_ok-need_two-in-Mux c =
    subst (λ g. Adds c.args.self.now c.need_two-in-Mux.new.self (reads_of g)) (sym c.in-Mux.is)
    (adds_first c.args.self.now c.need-in-Mux.new.self c.need_two-in-Mux.new.self c.in-Mux.choice
    (c.in-Mux.a ∷ c.in-Mux.b ∷ []) c.in_ok-need-in-Mux.ensures c.in_ok-need_two-in-Mux.ensures)
