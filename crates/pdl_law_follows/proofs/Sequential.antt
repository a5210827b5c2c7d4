-- A netlist that follows an accepted source writes what its machine writes, and so the writes of the threads one after another; its oldest thread moves, and enough threads end.
use Rattle.std.proofs.Common.{◌≡◌, refl, sym, ap, ap₂, ◌∙◌, subst, ℕ, zero, suc, ◌+◌, ◌-◌, ◌≤◌, Bool, true, false, List, [], ◌∷◌, ◌++◌, length, map, slice_index_or, arith}
use Rattle.std.specs.Prelude.{if◌then◌else◌, count_by, ◌/◌, take, slice_index}
use Rattle.std.proofs.lemmas.List.{length-map}
use Rattle.std.proofs.lemmas.List.Sums.{sum_by-cons}
use Rattle.pdl_semantics.specs.Tree as tree
use Rattle.pdl_semantics.specs.Flat.{Pipe, Arrays, arrays_of}
use Rattle.pdl_semantics.specs.Flatten.{flat}
use Rattle.pdl_semantics.specs.Stages.{depth}
use Rattle.pdl_semantics.specs.Machine.{State}
use Rattle.pdl_semantics.specs.Cycle.{PortWrite, Turn, turns, turns_from, first, state_after, is_wait, commits_shown, commits}
use Rattle.pdl_semantics.specs.Cycle as stated
use Rattle.pdl_semantics.specs.Lines.{Cycle, puts_for, puts_in, turn_cycle, turn_cycles}
use Rattle.pdl_semantics.specs.Promises.{Refines}
use Rattle.pdl_semantics.proofs.UpdateFree.{updates_idle}
use Rattle.pdl_theory.proofs.StatedTheorems.{whole_refines, whole_advances, whole_paces, updates_alike, whole_idle}
use Rattle.pdl_source_paths.specs.Source.{is_source, is_named}
use Rattle.pdl_source_paths.proofs.PipeFacts.{of_source}
use Rattle.pdl_rules.specs.Refusal.{KeepsRules}
use Rattle.pdl_net.specs.declared.Netlist.{Netlist}
use Rattle.pdl_image.specs.Images.{IsImage}
use Rattle.pdl_net.specs.Run.{Held, start, next, nports_from, some_waits}
use Rattle.pdl_law_parts.specs.Places.{delayed_count}
use Rattle.pdl_law_parts.specs.Runs.{Seen, seen_of}
use Rattle.pdl_law_parts.specs.States.{held_after}
use Rattle.pdl_law_sides.specs.WholeNetlist.{in_order, replies_of, whole_had}
use Rattle.pdl_law_follows.specs.Memories.{replies_in}
use Rattle.pdl_law_follows.specs.Follows.{Follows}
use Rattle.pdl_law_follows.specs.Runs.{ShowsTurns}
use Rattle.pdl_law_follows.specs.Refined.{writes_to, commits_in, ended_in, waits_in, AreSequential, RefinesThreads, MovesOldest, EndsThreads}
use Rattle.pdl_law_follows.specs.Promised.{IsRunOf}
use Rattle.pdl_law_follows.proofs.Lines.{shows_turns}

-- ---- what is written

puts_shown : (m : ℕ) (ws : List PortWrite) → writes_to m (puts_for ws) ≡ commits_shown m ws
puts_shown m [] = refl
puts_shown m (w ∷ ws) = ap (λ cs. record { mem = m; address = w.address; value = w.value } ∷ cs) (puts_shown m ws)

puts_at : (m : ℕ) (es : List (List PortWrite)) (k : ℕ)
    → writes_to m (slice_index_or (puts_in es) k []) ≡ commits_shown m (slice_index_or es k [])
puts_at m [] k = refl
puts_at m (e ∷ es) zero = puts_shown m e
puts_at m (e ∷ es) (suc k) = puts_at m es k

commits_same : (m : ℕ) (ts : List Turn) → commits_in m (turn_cycles ts) ≡ commits m ts
commits_same m [] = refl
commits_same m (t ∷ ts) = ap₂ (λ xs ys. xs ++ ys) (puts_at m t.ports.commits m) (commits_same m ts)

-- ---- how many cycles

count_same : (of_cycle : Cycle → Bool) (of_turn : Turn → Bool)
    → ((t : Turn) → of_cycle (turn_cycle t) ≡ of_turn t) → (ts : List Turn)
    → count_by of_cycle (turn_cycles ts) ≡ stated.count of_turn ts
count_same of_cycle of_turn same [] = refl
count_same of_cycle of_turn same (t ∷ ts) =
    sum_by-cons (λ (c : Cycle). if of_cycle c then 1 else 0) (turn_cycle t) (turn_cycles ts)
    ∙ ap₂ (λ b n. (if b then 1 else 0) + n) (same t) (count_same of_cycle of_turn same ts) ∙ at (of_turn t) (stated.count of_turn ts)
  where
    at : (b : Bool) (n : ℕ) → (if b then 1 else 0) + n ≡ (if b then suc n else n)
    at true n = omega arith
    at false n = omega arith

ended_same : (ts : List Turn) → ended_in (turn_cycles ts) ≡ stated.ended_in ts
ended_same ts = count_same (λ c. c.ended) (λ t. t.ports.ended) (λ t. refl) ts

waits_same : (ts : List Turn) → waits_in (turn_cycles ts) ≡ stated.waits_in ts
waits_same ts = count_same (λ c. c.wait) (λ t. t.wait) (λ t. refl) ts

machine_sequential : (p : Pipe) (image : Arrays) (schedule : List (List Bool)) → Refines p image schedule
    → AreSequential p image schedule (turn_cycles (turns p image schedule))
machine_sequential p image schedule r =
    let ts = turns p image schedule in
    record {
      whole = λ m. rw (ended_same ts) (rw (commits_same m ts) (r.whole m));
      prefix = λ m. rw (ended_same ts) (rw (commits_same m ts) (r.prefix m));
      unlocked = λ m plain. commits_same m ts ∙ r.unlocked m plain;
      end = λ m plain. rw (commits_same m ts) (r.end m plain);
    }

-- ---- waits

-- the last cycle of a run is a wait of both
last_wait : (p : Pipe) (n : Netlist) (bits : ℕ) (schedule : List ℕ) (h : Held) (st : State)
    → map seen_of (nports_from n h (schedule ++ bits ∷ [])) ≡ map (whole_had p) (turns_from p st (replies_in p (schedule ++ bits ∷ [])))
    → some_waits (held_after n h schedule).stores bits
    ≡ is_wait p (state_after p st (replies_in p schedule)) (replies_of (delayed_count p) bits)
last_wait p n bits [] h st e = ap (λ (xs : List Seen). first_wait xs) e
  where
    first_wait : List Seen → Bool
    first_wait [] = false
    first_wait (x ∷ xs) = x.wait
last_wait p n bits (b ∷ schedule) h st e =
    last_wait p n bits schedule (next n h b) (stated.cycle p st (replies_of (delayed_count p) b)) (ap (λ (xs : List Seen). rest xs) e)
  where
    rest : List Seen → List Seen
    rest [] = []
    rest (x ∷ xs) = xs

-- ---- netlists

module _ (p : tree.Pipe) (rules : KeepsRules p) (source : is_source p ≡ true) (named : is_named p ≡ true) (n : Netlist)
    (follows : Follows p n) where
  turned : ShowsTurns p n
  turned = shows_turns p rules source named n follows

  -- the netlist writes what the threads write one after another
  pub refines : RefinesThreads p n
  refines image schedule is_image =
      let words = arrays_of (in_order (flat p) image) in
      let replies = replies_in (flat p) schedule in
      subst (AreSequential (flat p) words replies) (sym (turned.cycles image schedule is_image))
      (machine_sequential (flat p) words replies (whole_refines (flat p) (of_source p rules source named) words replies))

  -- in each cycle that leaves no request unanswered the oldest thread moves
  pub moves : MovesOldest p n
  moves image schedule bits is_image e =
      let words = arrays_of (in_order (flat p) image) in
      whole_advances (flat p) (of_source p rules source named) words (replies_in (flat p) schedule) (replies_of (delayed_count (flat p)) bits)
      (sym (last_wait (flat p) n bits schedule (start n image) (first (flat p) words) (follows.shows image (schedule ++ bits ∷ []) is_image)) ∙ e)

  -- in each run at least as many threads end as its cycles that are no waits, divided by the depth
  pub ends : EndsThreads p n
  ends image schedule is_image =
      let words = arrays_of (in_order (flat p) image) in
      let replies = replies_in (flat p) schedule in
      let ts = turns (flat p) words replies in
      subst (λ cs. (length schedule - waits_in cs) / depth (flat p) ≤ ended_in cs) (sym (turned.cycles image schedule is_image))
      (rw (ended_same ts)
      (rw (waits_same ts)
      (subst (λ k. (k - stated.waits_in ts) / depth (flat p) ≤ stated.ended_in ts)
      (length-map schedule (replies_of (delayed_count (flat p))))
      (whole_paces (flat p) (of_source p rules source named) words replies))))

  -- each run from an image prints the machine's lines, writes what the threads write, and moves the oldest thread
  pub runs : (image : List (List ℕ)) (schedule : List ℕ) → IsImage n.mems image → IsRunOf p n image schedule
  runs image schedule is_image =
      let words = arrays_of (in_order (flat p) image) in
      let sound = of_source p rules source named in
      record {
        lines = turned.lines image schedule is_image;
        refines = whole_refines (flat p) sound words (replies_in (flat p) schedule);
        moves =
            λ k low. whole_advances (flat p) sound words (replies_in (flat p) (take k schedule)) (replies_of (delayed_count (flat p)) (slice_index schedule k));
        pace = whole_paces (flat p) sound words (replies_in (flat p) schedule);
        updates =
            λ replies. updates_idle p words (replies_in (flat p) schedule) replies (updates_alike (flat p) sound words (replies_in (flat p) schedule) replies);
        advice = λ other replies differ. whole_idle (flat p) sound words other (replies_in (flat p) schedule) replies differ;
      }
