use Rattle.std.proofs.Common.{ap, ap₂, sym, ◌∙◌, map, [], ◌∷◌, ◌++◌, if◌then◌else◌, arith}
use Rattle.std.proofs.lemmas.List.{map-append}
use Rattle.pdl_paths.specs.Guards.{guard_view}
use Rattle.pdl_paths.specs.KeptGuards.{kept_view}
use Rattle.pdl_paths.proofs.Numbers.{there, missing}
use Rattle.pdl_paths.proofs.guards.Guards.define.Goals as goal

pub returns-then-number-len-clause-ok : goal.returns-then-number-len-clause-ok
returns-then-number-len-clause-ok c =
    let g = guard_view c.args.guard in
    let gs = c.args.self.now in
    sym (ap (λ b. if b then gs else gs ++ g ∷ []) (there g gs (omega (arith, c.number.ensures, c.len.ensures, c.if-number-len.true))))

pub returns-clause-ok : goal.returns-clause-ok
returns-clause-ok c =
    let g = guard_view c.args.guard in
    let gs = c.args.self.now in
    ap (map kept_view) c.in_ok-push.ensures.items
    ∙ map-append kept_view c.self.inside.items.items (c.in_ok-keep.field-0 ∷ [])
    ∙ ap₂ (λ a b. a ++ b ∷ []) c.self.view_is c.in_ok-keep.ensures
    ∙ sym (ap (λ b. if b then gs else gs ++ g ∷ []) (missing g gs (omega (arith, c.number.ensures, c.len.ensures, c.if-number-len.false))))
