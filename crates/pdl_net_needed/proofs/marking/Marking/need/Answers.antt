use Rattle.std.proofs.Common.{◌∷◌, [], sym, subst, ◌∙◌}
use Rattle.pdl_net_needed.specs.Marks.{IsWithin}
use Rattle.pdl_net_needed.specs.Marking.{Work, Adds}
use Rattle.pdl_net_needed.proofs.AddedMarks.{adds_new}
use Rattle.pdl_net_needed.proofs.marking.Marking.need.Goals as goal

pub returns : goal.returns
returns c =
    let old : Work = record { kept = c.self.inside.marks; waiting = c.self.inside.waiting.items } in
    let new : Work = record { kept = c.add.new.self; waiting = c.push.new.self.items } in
    subst (λ w. Adds w new (c.args.net ∷ [])) c.self.view_is
    (adds_new old new c.args.net (subst (λ (w : Work). IsWithin w.kept c.args.net) (sym c.self.view_is) c.requires)
    (sym c.has.ensures ∙ c.if-has.false) c.add.ensures c.in_ok-push.ensures.items)
