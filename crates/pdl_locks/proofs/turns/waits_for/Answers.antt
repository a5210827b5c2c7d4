use Rattle.std.proofs.Common.{◌≡◌, sym, ap, ◌∙◌, get_or, not, ◌&&◌, ◌==◌, eq-eqb, ne_eqb}
use Rattle.pdl_locks.proofs.WriteTurns.{waits, waits_own, waits_for_none}
use Rattle.pdl_locks.proofs.turns.waits_for.Goals as goal

pub returns-in-None : goal.returns-in-None
returns-in-None c all earlier l x kept is there own = waits_for_none all earlier l c.args.first is c.in-None.is

pub returns-then-first-number : goal.returns-then-first-number
returns-then-first-number c all earlier l x kept is there own =
    let n = c.in-Some.first in
    let uses = c.args.uses.now in
    ap (λ (u : _). u.writes == 0) c.use_at.ensures
    ∙ ap (λ b. not b && ((get_or uses n c.none.result).writes == 0)) (sym (ne_eqb n c.args.number c.if-first-number.true))
    ∙ waits all earlier l x uses c.none.result c.args.first n c.args.number kept is there own c.in-Some.is

pub returns-else-first-number : goal.returns-else-first-number
returns-else-first-number c all earlier l x kept is there own =
    ap not (eq-eqb c.in-Some.first c.args.number c.if-first-number.false)
    ∙ waits_own all earlier l x c.args.first c.in-Some.first c.args.number is there own c.in-Some.is c.if-first-number.false
