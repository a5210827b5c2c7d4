-- A netlist that is made of an accepted source follows it.
use Rattle.std.proofs.Common.{◌≡◌, refl, sym, ap, ◌∙◌, subst, ℕ, ◌+◌, ◌^◌, ◌<◌, true, List, [], ◌∷◌, ◌++◌, length, map, arith, append_assoc}
use Rattle.std.specs.Prelude.{slice_index_or}
use Rattle.pdl_kit.specs.declared.rule.Rule.TheVariants.{Z7, N2}
use Rattle.pdl_semantics.specs.Tree as tree
use Rattle.pdl_semantics.specs.Flatten.{flat, mems_of}
use Rattle.pdl_semantics.specs.Stages.{plain_mem}
use Rattle.pdl_rules.specs.Places.{Place, Parameter, Memory, End, StartClause, places, statements}
use Rattle.pdl_rules.specs.Refusal.{KeepsRules}
use Rattle.pdl_rules.proofs.EachPlace.{Each}
use Rattle.pdl_rules.proofs.Memories.{Keeps, sized, all_deep, distinct}
use Rattle.pdl_source_paths.specs.Source.{is_source, is_named}
use Rattle.pdl_source_paths.proofs.Memories.{mems_length}
use Rattle.pdl_net.specs.declared.Netlist.{Netlist}
use Rattle.pdl_net.specs.Signal.{Signal}
use Rattle.pdl_law_parts.specs.Walk.{Locks}
use Rattle.pdl_law_parts.specs.Views.{View, Gates}
use Rattle.pdl_law_parts.proofs.WellFormedMems.{few_mems}
use Rattle.pdl_law_parts.proofs.WellFormedStages.{few_stages}
use Rattle.pdl_law_sides.specs.Sides.{Sides}
use Rattle.pdl_law_follows.specs.StandingStates.{IsLawful}
use Rattle.pdl_law_follows.proofs.FromRules.{lawful_source}
use Rattle.pdl_law_follows.proofs.ShowsSource.{shows_source}
use Rattle.pdl_law_follows.specs.Follows.{Follows, IsMade}
use Rattle.pdl_law_follows.proofs.Ports.{AreAsked}
use Rattle.pdl_law_follows.proofs.WellFormed.{AreDeclared, ports, well_formed}
use Rattle.pdl_law_follows.proofs.HasMems.{has_mems}

-- ---- memories

-- the place of a memory keeps each rule
mems_keep : (p : tree.Pipe) → KeepsRules p → (ms : List tree.Mem) (before later : List Place)
    → places p ≡ before ++ map Memory ms ++ later → Each (Keeps p) before (map Memory ms)
mems_keep p rules [] before later e = tt
mems_keep p rules (m ∷ ms) before later e = (
  record { z7 = rules Z7 before (Memory m) (map Memory ms ++ later) here; n2 = rules N2 before (Memory m) (map Memory ms ++ later) here },
  mems_keep p rules ms (before ++ Memory m ∷ []) later (e ∙ ap (λ l. l ++ later) (sym (append_assoc before (Memory m ∷ []) (map Memory ms)))),
)
  where
    here : places p ≡ before ++ Memory m ∷ (map Memory ms ++ later)
    here = e ∙ append_assoc before (Memory m ∷ map Memory ms) later

-- the memories of a pipe that keeps the rules keep the rules on names and sizes
pub declared : (p : tree.Pipe) → KeepsRules p → AreDeclared p.mems
declared p rules =
    let front = map Parameter p.params in
    let each =
    mems_keep p rules p.mems front (statements [] p.body ++ End p.end ∷ StartClause p.start ∷ [])
    (append_assoc (front ++ map Memory p.mems) (statements [] p.body) (End p.end ∷ StartClause p.start ∷ [])) in
    record {
      distinct = distinct p p.mems front each;
      sized = sized p p.mems front each;
      reach = all_deep p p.mems front each;
      few = few_mems p rules;
    }

-- ---- the whole

module _ (p : tree.Pipe) (rules : KeepsRules p) (source : is_source p ≡ true) (named : is_named p ≡ true) (ls : Locks)
    (vs : ℕ → View) (gates : Gates) (moves : ℕ → Signal) (sides : Sides) (n : Netlist)
    (made : IsMade p ls vs gates moves sides n) where
  lawful : IsLawful (flat p)
  lawful = lawful_source p rules source named

  asked : AreAsked made.compiled.asks 0 p.mems
  asked i l d =
      let z : i ≡ 0 + i = omega arith in
      let low : i < length (flat p).mems = let e = mems_length p.mems in omega (arith, l, e) in
      subst
      (λ j. ((made.compiled.asks j).enable.width ≡ 1) × (2 ^ (made.compiled.asks j).addr.width ≡ (slice_index_or (mems_of p.mems) i plain_mem).depth)) z
      (made.requests i low d, (made.compiled.fits i low d).reach)

  -- the netlist that was made of the source follows it
  pub follows : Follows p n
  follows =
      let formed =
      well_formed (flat p) p.mems (declared p rules) refl lawful.some
      (few_stages p rules) ls vs gates moves sides n made.well made.compiled made.arrays made.wide made.commits asked made.mems in
      record {
        name = made.name;
        well_formed = formed;
        ports =
            ports (flat p) p.mems (declared p rules) refl lawful.some
            (few_stages p rules) ls vs gates moves sides n made.well made.compiled made.arrays made.wide made.commits asked made.mems;
        mems = made.mems;
        arrays = made.arrays;
        shows =
            shows_source p rules source named ls vs gates moves sides n
            (record { compiled = made.compiled; formed = formed; mems = has_mems (flat p) p.mems refl ls n made.in_order made.mems });
      }
