use Rattle.std.proofs.Common.{refl, sym, subst, map, length, []}
use Rattle.std.proofs.lemmas.List.{length-map}
use Rattle.pdl_paths.specs.Actions.{place_view}
use Rattle.pdl_locks.specs.declared.numbers.Keys.TheVariants.{Locations}
use Rattle.pdl_locks.specs.Uses.{IsUsed, AreKept}
use Rattle.pdl_locks.proofs.UseSteps.{begun}
use Rattle.pdl_spec.proofs.sure.ReleasedSurePathRule.start.Goals as goal

pub returns : goal.returns
returns c gs all s =
    let places = c.args.self.now.places.now in
    record {
      kept =
          subst (λ us. AreKept Locations IsUsed (map place_view places) [] us) (sym (c.in_ok-vec.ensures.items_if_clones_equal (λ y h. h)))
          (begun Locations IsUsed (map place_view places) c.none.result (length places) (sym (length-map places place_view)) c.none.ensures);
      passed = refl;
    }
