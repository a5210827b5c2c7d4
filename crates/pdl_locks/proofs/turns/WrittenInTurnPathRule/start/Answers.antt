use Rattle.std.proofs.Common.{sym, subst, map, length, [], refl, None}
use Rattle.std.proofs.lemmas.List.{length-map}
use Rattle.pdl_paths.specs.Actions.{place_view}
use Rattle.pdl_locks.specs.declared.numbers.Keys.TheVariants.{Locations, Memories}
use Rattle.pdl_locks.specs.Uses.{IsFirst, IsUsed, AreKept}
use Rattle.pdl_locks.proofs.UseSteps.{begun}
use Rattle.pdl_locks.proofs.turns.WrittenInTurnPathRule.start.Goals as goal

pub returns : goal.returns
returns c gs all s =
    let places = c.args.self.now.places.now in
    let rows = map place_view places in (
      subst (λ us. AreKept Locations IsUsed rows [] us) (sym (c.in_ok-uses.ensures.items_if_clones_equal (λ y h. h)))
          (begun Locations IsUsed rows c.none.result (length places) (sym (length-map places place_view)) c.none.ensures),
      subst (λ us. AreKept Memories (IsFirst rows) rows [] us) (sym c.in_ok-first.ensures)
          (begun Memories (IsFirst rows) rows None (length places) (sym (length-map places place_view)) (λ l. refl)),
    )
