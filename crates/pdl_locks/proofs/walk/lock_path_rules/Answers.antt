use Rattle.std.proofs.Common.{◌∙◌, refl, ap, sym, subst, map}
use Rattle.pdl_paths.specs.Actions.{place_view}
use Rattle.pdl_paths.specs.Masks.{are_distinct}
use Rattle.pdl_paths.proofs.DistinctGuards.{guards_distinct}
use Rattle.pdl_locks.specs.declared.numbers.Keys.TheVariants.{Locations, Memories}
use Rattle.pdl_locks.specs.Numbers.{AreNumbered}
use Rattle.pdl_locks.proofs.walk.lock_path_rules.Goals as goal

pub returns-clause-suits : goal.returns-clause-suits
returns-clause-suits c =
    let rows = c.args.places.now in (
      record {
        own = refl;
        text = c.requires.of;
        seen = refl;
        bits = c.all_true.ensures;
        paths = record { few = c.requires.few; distinct = ap are_distinct c.requires.own ∙ guards_distinct (map place_view rows); masks = c.requires.masks };
        by_text = c.as_slice.ensures.value ∙ c.requires.facts.by_text;
        released = c.as_slice-2.ensures.value ∙ c.requires.facts.released;
      },
      subst (λ ns. AreNumbered Locations rows ns (map place_view rows)) (sym c.as_slice-3.ensures.value) c.requires.facts.locations,
      subst (λ ns. AreNumbered Memories rows ns (map place_view rows)) (sym c.as_slice-4.ensures.value) c.requires.facts.memories,
    )

pub returns-clause-lines : goal.returns-clause-lines
returns-clause-lines c lines h = h c.requires.own c.requires.of
