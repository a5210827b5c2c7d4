-- The facts of an accepted pipe's stage graph and text, together.
use Rattle.std.proofs.Common.{◌≡◌, refl, ◌∙◌, ℕ, ◌<◌, true, List, [], ◌∷◌, length, nat_lt, lt-ltb}
use Rattle.std.proofs.lemmas.Bool.{and_from}
use Rattle.pdl_semantics.specs.Tree.{Pipe}
use Rattle.pdl_semantics.specs.Flat
use Rattle.pdl_semantics.specs.Flatten.{flat}
use Rattle.pdl_semantics.specs.Stages.{in_stage, mem_at}
use Rattle.pdl_rules.specs.Refusal.{KeepsRules}
use Rattle.pdl_theory_turns.specs.Facts.{is_exact, Found}
use Rattle.pdl_source_stages.specs.StageFacts.{StageFacts, FoundIf, AllFound}
use Rattle.pdl_source_stages.proofs.SiteFacts.{each_in_stage}
use Rattle.pdl_source_stages.proofs.Trunks
use Rattle.pdl_source_stages.proofs.Homes
use Rattle.pdl_source_stages.proofs.UpdateStages.{updates_in}
use Rattle.pdl_source_stages.proofs.ForkFacts
use Rattle.pdl_word.specs.Each.{Each}

all_inside : (n : ℕ) (ys : List Flat.Stmt) → Each (λ y. y.stage < n) ys → Flat.list_all (λ y. nat_lt y.stage n) ys ≡ true
all_inside n [] h = refl
all_inside n (y ∷ ys) h = and_from (nat_lt y.stage n) _ (lt-ltb y.stage n h.0) (all_inside n ys h.1)

each_both : (P Q R : Flat.Stmt → Type 0) → ((y : Flat.Stmt) → P y → Q y → R y) → (ys : List Flat.Stmt) → Each P ys → Each Q ys → Each R ys
each_both P Q R f [] h k = tt
each_both P Q R f (y ∷ ys) h k = (f y h.0 k.0, each_both P Q R f ys h.1 k.1)

all_found : (p : Flat.Pipe) (fetch : ℕ → ℕ) (s : ℕ) (ys : List Flat.Stmt) → Each (λ y. FoundIf p fetch s y.op) ys → AllFound p fetch s ys
all_found p fetch s [] h = tt
all_found p fetch s (y ∷ ys) h = (h.0, all_found p fetch s ys h.1)

found_if : (p : Flat.Pipe) (fetch : ℕ → ℕ) (s : ℕ) (op : Flat.Op)
    → ((x m a : ℕ) → op ≡ Flat.DelayedRead x m a → Found p fetch s m) → FoundIf p fetch s op
found_if p fetch s (Flat.DelayedRead x m a) h = h x m a refl
found_if p fetch s _ h = tt

module _ (p : Pipe) (rules : KeepsRules p) where
  found : (s : ℕ) → AllFound (flat p) (Homes.fetch_at p rules) s (in_stage s (flat p).stmts)
  found s =
      all_found (flat p) (Homes.fetch_at p rules) s (in_stage s (flat p).stmts)
      (each_in_stage (λ y. FoundIf (flat p) (Homes.fetch_at p rules) s y.op) s (flat p).stmts
      (each_both (λ y. (x m a : ℕ) → y.op ≡ Flat.DelayedRead x m a → (Homes.fetch_at p rules m ≡ y.stage) × (m < length (flat p).mems))
      (λ y. (x m a : ℕ) → y.op ≡ Flat.DelayedRead x m a → is_exact (mem_at (flat p) m).lock ≡ true)
      (λ y. y.stage ≡ s → FoundIf (flat p) (Homes.fetch_at p rules) s y.op)
      (λ y h k e. found_if (flat p) (Homes.fetch_at p rules) s y.op (λ x m a f. ((h x m a f).0 ∙ e, (h x m a f).1, k x m a f)))
      (flat p).stmts (Homes.fetch_here p rules) (Homes.fetch_exact p rules)))

  -- a source that breaks no rule has all facts of its stage graph and of the stages of its statements
  pub stage_facts : StageFacts (flat p)
  stage_facts = record {
    graph = Trunks.graph p rules;
    branches = Trunks.branches p rules;
    trunk_holds = Trunks.trunk_holds p rules;
    merged = Trunks.merged p rules;
    unmerged = Trunks.unmerged p rules;
    inside = all_inside (length (flat p).stages) (flat p).stmts (Trunks.each_inside p rules);
    reserves = Homes.reserves_in p rules;
    releases = Homes.releases_in p rules;
    verifies = Homes.verifies_in p rules;
    updates = updates_in p rules;
    verify_inside = Trunks.verify_low p rules;
    unreserved = Homes.unreserved p rules;
    unreleased = Homes.unreleased p rules;
    skips = Trunks.skips p rules;
    fork_bound = ForkFacts.fork_bound p rules;
    fork_known = ForkFacts.fork_known p rules;
    fetch = Homes.fetch_at p rules;
    found = found;
    fetch_inside = Homes.fetch_inside p rules;
    advice = Homes.advice p rules;
  }
