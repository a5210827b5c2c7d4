use Rattle.std.proofs.Common.{refl, ◌∙◌, ap, cond, List, Some, sym, subst, ℕ, arith}
use Rattle.std.specs.Prelude.{◌≢◌, slice_get}
use Rattle.std.specs.HashMap.{get}
use Rattle.pdl_net.specs.declared.Cell.{Cell}
use Rattle.pdl_build.proofs.CellMap.{same, found_still, found_pushed, popped}
use Rattle.pdl_build.proofs.distinct.DistinctCells.push.Goals as goal

pub invariant_of-self : goal.invariant_of-self
invariant_of-self c = found_still c.self.inside _ c.in_err-push.ensures.items refl c.self.invariant

pub invariant_of-self-in-Ok : goal.invariant_of-self-in-Ok
invariant_of-self-in-Ok c =
    let P : List Cell → Type 0 = λ v. (k : ℕ) → slice_get v k ≢ Some c.args.cell in
    found_pushed c.self.inside _ c.args.cell (subst P (sym c.self.view_is) c.requires) c.in_ok-push.ensures.items
    (λ q. c.in-Ok.ensures.updates.0 q
    ∙ ap (λ (n : ℕ). cond (same c.args.cell q) (Some n) (get same c.self.inside.places q)) (c.len-place.ensures ∙ c.self.inside.cells.ok.0))
    c.self.invariant

pub invariant_of-self-in-Err : goal.invariant_of-self-in-Err
invariant_of-self-in-Err c =
    let items =
    popped c.self.inside.cells.items _ _ c.args.cell _ c.in_ok-push.ensures.items c.pop.ensures.rest
    (omega (arith, c.in_ok-push.ensures.len, c.self.inside.cells.ok.0)) in
    found_still c.self.inside _ items c.in-Err.ensures.err c.self.invariant
