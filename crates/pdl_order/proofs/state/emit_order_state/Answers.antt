use Rattle.std.proofs.Common.{ℕ, List, sym, ap, ◌∙◌, subst}
use Rattle.std.specs.Prelude.{slice_index}
use Rattle.pdl_net.specs.Meaning.{signal}
use Rattle.pdl_order.specs.declared.layout.OrderLayout.{OrderLayout}
use Rattle.pdl_order.specs.Laws.{FirstLaw}
use Rattle.pdl_order.specs.Words.{Stands}
use Rattle.pdl_order.proofs.Law.{first_law}
use Rattle.pdl_order.proofs.state.emit_order_state.Goals as goal

pub returns-clause-first : goal.returns-clause-first
returns-clause-first c =
    let d = c.emit_first.new.b in
    let l : OrderLayout = record { from = c.reg_count.result; stages = c.args.branch_stages } in
    let L : List ℕ → OrderLayout = λ xs. record { from = slice_index xs 0; stages = l.stages } in
    let first = c.in_ok-first.ensures.means.same in
    let m = c.in_ok-empty.ensures.means in
    let empty = c.in_ok-first.ensures.extends.kept c.in_ok-empty.empty m.there ∙ m.same in
    let P : OrderLayout → Type 0 = λ y. FirstLaw (Stands y) (signal d c.in_ok-first.first) (signal d c.in_ok-empty.empty) in
    subst P (sym (ap L c.in_ok-regs.ensures)) (first_law l _ _ first empty)
