-- A netlist that is made of an accepted source of the whole language shows its machine.
use Rattle.std.proofs.Common.{◌≡◌, refl, sym, ap, subst, ℕ, zero, suc, ◌<◌, Bool, true, false, ◌||◌, List, [], ◌∷◌, length, map, bytes_eq, arith}
use Rattle.pdl_semantics.specs.Tree as tree
use Rattle.pdl_semantics.specs.Flat.{Arrays, arrays_of}
use Rattle.pdl_semantics.specs.Flatten.{flat, mems_of}
use Rattle.pdl_semantics.specs.Machine as machine
use Rattle.pdl_semantics.specs.Cycle.{first, state_after}
use Rattle.pdl_rules.specs.Places.{Parameter}
use Rattle.pdl_rules.specs.Typed.{is_memory, AreDistinct}
use Rattle.pdl_rules.specs.Refusal.{KeepsRules}
use Rattle.pdl_source_paths.specs.Source.{is_source, is_named}
use Rattle.pdl_source_paths.proofs.Memories.{all_after, distinct}
use Rattle.pdl_machine_lockuse.proofs.StrictPaths.{paths_strict}
use Rattle.pdl_machine_lockuse.proofs.FromRules.{careful_source}
use Rattle.pdl_net.specs.declared.Netlist.{Netlist}
use Rattle.pdl_net.specs.Circuit.{circuit_of}
use Rattle.pdl_net.specs.Signal.{Signal}
use Rattle.pdl_net.specs.Run.{Held, start, state_in}
use Rattle.pdl_image.specs.Images.{IsImage}
use Rattle.pdl_machine_facts.proofs.Requests.{none_requested}
use Rattle.pdl_law_parts.specs.Walk.{Locks}
use Rattle.pdl_law_parts.specs.Views.{View, Gates}
use Rattle.pdl_law_parts.specs.DeclaredMems.{mem_names}
use Rattle.pdl_law_sides.specs.Sides.{Sides}
use Rattle.pdl_law_follows.specs.StandingStates.{IsLawful, IsKnown}
use Rattle.pdl_law_sides.specs.WholeNetlist.{in_order, ShowsWhole}
use Rattle.pdl_law_follows.specs.MadeNetlist.{IsMadeWhole}
use Rattle.pdl_law_follows.proofs.OutputNames.{Apart}
use Rattle.pdl_law_follows.proofs.WholeCycle.{whole_first}
use Rattle.pdl_law_follows.proofs.WholeRuns.{IsStanding, shows_whole}
use Rattle.pdl_law_follows.proofs.WholeStart.{stores_start, stands_start, holds_whole}
use Rattle.pdl_law_follows.proofs.FromRules.{lawful_source}
use Rattle.pdl_law_follows.proofs.CycleFacts.{known_here}
use Rattle.pdl_law_parts.proofs.WellFormedNames.{name_turned}

-- NAMES

-- a name that no memory of these has
other_name : (ms : List tree.Mem) (x : List ℕ) → is_memory ms x ≡ false → (j : ℕ) → j < length ms → bytes_eq (mem_names ms j) x ≡ false
other_name [] x h j l = absurd (omega (arith, l))
other_name (m ∷ ms) x h zero l = first (bytes_eq m.name.name x) (is_memory ms x) h
  where
    first : (b c : Bool) → (b || c) ≡ false → b ≡ false
    first true c e = absurd (cc e)
    first false c e = refl
other_name (m ∷ ms) x h (suc j) l = other_name ms x (second (bytes_eq m.name.name x) (is_memory ms x) h) j (omega (arith, l))
  where
    second : (b c : Bool) → (b || c) ≡ false → c ≡ false
    second true c e = absurd (cc e)
    second false c e = e

names_apart : (ms : List tree.Mem) → AreDistinct ms → Apart (mem_names ms) (length ms)
names_apart [] h i j k l n = absurd (omega (arith, k))
names_apart (m ∷ ms) h zero zero k l n = absurd (n refl)
names_apart (m ∷ ms) h zero (suc j) k l n = name_turned (mem_names ms j) m.name.name (other_name ms m.name.name h.0 j (omega (arith, l)))
names_apart (m ∷ ms) h (suc i) zero k l n = other_name ms m.name.name h.0 i (omega (arith, k))
names_apart (m ∷ ms) h (suc i) (suc j) k l n = names_apart ms h.1 i j (omega (arith, k)) (omega (arith, l)) (λ e. n (ap suc e))

same_count : (ms : List tree.Mem) → length (mems_of ms) ≡ length ms
same_count [] = refl
same_count (m ∷ ms) = ap suc (same_count ms)

-- THE WHOLE

-- what is known of each cycle of the runs of an accepted source
pub known_source : (p : tree.Pipe) → KeepsRules p
    → is_source p ≡ true → is_named p ≡ true → (image : Arrays) (before : List (List Bool)) (bits : List Bool)
    → IsKnown (flat p) (state_after (flat p) (first (flat p) image) before) bits
known_source p rules source named =
    let lawful = lawful_source p rules source named in
    known_here (flat p) lawful.sound (paths_strict p rules source) (careful_source p rules source) lawful.reads

module _ (p : tree.Pipe) (rules : KeepsRules p) (source : is_source p ≡ true) (named : is_named p ≡ true) (ls : Locks)
    (vs : ℕ → View) (gates : Gates) (moves : ℕ → Signal) (sides : Sides) (n : Netlist)
    (made : IsMadeWhole p ls vs gates moves sides n) where
  -- the rules give of the flat form what its netlist hangs on
  pub lawful : IsLawful (flat p)
  lawful = lawful_source p rules source named

  -- the names of the pipe's memories differ
  pub apart : Apart (mem_names p.mems) (length (flat p).mems)
  apart = subst (Apart (mem_names p.mems)) (sym (same_count p.mems)) (names_apart p.mems (distinct p rules p.mems (map Parameter p.params) (all_after p)))

  -- what the netlist holds and a state of the machine of a run from this image, for which it stands
  abbrev pub IsStandingFor : List (List ℕ) → Held → machine.State → Type 0
  IsStandingFor image h st =
      IsStanding (flat p)
      (mem_names p.mems) apart lawful
      (known_source p rules source named) ls vs gates moves sides n made.compiled made.formed.well made.mems
      (arrays_of (in_order (flat p) image)) h st

  -- from each image, what the netlist holds at the start stands for the machine's first state
  pub stands_source : (image : List (List ℕ)) → IsImage n.mems image
      → IsStandingFor image (start n image) (first (flat p) (arrays_of (in_order (flat p) image)))
  stands_source image is_image = record {
    before = [];
    reached = refl;
    holds = holds_whole n made.formed image is_image;
    stores = stores_start (flat p) (mem_names p.mems) ls n made.mems image is_image;
    quiet = λ m l e. none_requested 0 m (flat p).mems;
    whole = λ b suits.
        whole_first (flat p) lawful ls vs gates moves sides (circuit_of n) made.compiled.laid made.compiled.beside (arrays_of (in_order (flat p) image))
        (state_in (start n image) b) refl
        (stands_start (flat p)
        (mem_names p.mems) ls n made.mems image is_image vs gates moves made.compiled.laid made.compiled.starts
        (state_in (start n image) b) suits refl refl);
  }

  -- from each image and with each schedule of replies, each port of each cycle is the machine's
  pub shows_source : ShowsWhole (flat p) n
  shows_source =
      shows_whole (flat p)
      (mem_names p.mems) apart lawful (known_source p rules source named) ls vs gates moves sides n made.compiled made.formed.well made.mems stands_source
