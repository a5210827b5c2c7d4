-- All facts of an accepted pipe that the theorems take.
use Rattle.std.proofs.Common.{◌≡◌, refl, sym, ◌∙◌, ℕ, ◌≤◌, ◌<◌, ◌⊎◌, inl, inr, true, false, List, [], ◌∷◌, length, nat_lt, arith, ltb-true}
use Rattle.std.proofs.lemmas.Bool.{not-true, cases_lt}
use Rattle.std.specs.List.{list_any}
use Rattle.pdl_semantics.specs.Tree.{Pipe}
use Rattle.pdl_semantics.specs.Flat
use Rattle.pdl_semantics.specs.Flatten.{flat}
use Rattle.pdl_semantics.specs.Stages.{in_stage, commit_stage}
use Rattle.pdl_rules.specs.Places.{places}
use Rattle.pdl_rules.specs.Names.{OfVariable, defines_use}
use Rattle.pdl_rules.specs.Refusal.{KeepsRules}
use Rattle.pdl_theory_turns.specs.Alone.{answered_op}
use Rattle.pdl_theory_turns.specs.Scans.{is_dead, is_fixed}
use Rattle.pdl_theory_turns.specs.Graphs.{Graph, next_of}
use Rattle.pdl_theory_turns.proofs.Nested.{within_all}
use Rattle.pdl_theory_turns.specs.Facts.{binds_guard, FetchIf, AllFetches, looked_all, at_once, Sound}
use Rattle.pdl_theory_turns.proofs.Passes
use Rattle.pdl_theory_turns.proofs.StrayPaths.{fixed_looked}
use Rattle.pdl_source_stages.specs.StageFacts.{FoundIf, AllFound, StageFacts}
use Rattle.pdl_source_stages.proofs.Facts.{stage_facts}
use Rattle.pdl_source_paths.proofs.SiteFacts.{fork_seen}
use Rattle.pdl_source_stages.proofs.SiteFacts.{each_in_stage}
use Rattle.pdl_source_paths.specs.Source.{are_apart, is_source, is_named}
use Rattle.pdl_source_paths.proofs.PathTests.{parts}
use Rattle.pdl_source_paths.proofs.FixedGuards.{Rests, each_of_all, guard_looked, fixed_stages}
use Rattle.pdl_source_paths.proofs.GuardFacts.{fixed_text, all_rest, guards_late}
use Rattle.pdl_source_paths.proofs.DelayedReads.{fetch_unseen, fetch_alone}
use Rattle.pdl_source_paths.proofs.DelayedGuards.{fetch_blind}
use Rattle.pdl_source_paths.proofs.EarlyReads.{IsEarly, all_early}
use Rattle.pdl_word.specs.Each.{Each}
use Rattle.pdl_word.proofs.Each.{each_weaker}

looked_each : (P : Flat.Stmt → Type 0) (xs : List Flat.Stmt) → Each (λ y. P (record y { op = answered_op y.op })) xs
    → Each P (looked_all xs)
looked_each P [] h = tt
looked_each P (x ∷ xs) h = (h.0, looked_each P xs h.1)

looked_rest : (xs : List Flat.Stmt) → Each (Rests xs) xs → Each (Rests (looked_all xs)) (looked_all xs)
looked_rest xs h =
    looked_each (Rests (looked_all xs)) xs
    (each_weaker (Rests xs) (λ z. Rests (looked_all xs) (record z { op = answered_op z.op }))
    (λ z k e.
    looked_each (λ y. binds_guard y.op z.guards ≡ true → y.stage ≤ z.stage) xs
    (each_weaker (λ y. binds_guard y.op z.guards ≡ true → y.stage ≤ z.stage)
    (λ y. binds_guard (answered_op y.op) z.guards ≡ true → y.stage ≤ z.stage)
    (λ y l b. l (sym (guard_looked y.op z.guards) ∙ b)) xs (k e))) xs h)

-- a live delayed read of stage s stands before the releases
abbrev Before : Flat.Pipe → ℕ → Flat.Stmt → Type 0
Before p s y = (x m a : ℕ) → y.op ≡ Flat.DelayedRead x m a → is_dead y.guards ≡ false → (s < length p.stages) × (s < commit_stage p m)

-- so it is bound no later
bound_early : (p : Flat.Pipe) → Graph p → (s m : ℕ) (env : List ℕ)
    → s < length p.stages → s < commit_stage p m → next_of p s env ≤ commit_stage p m
bound_early p g s m env low early = at (cases_lt (commit_stage p m) (next_of p s env))
  where
    at : (commit_stage p m < next_of p s env) ⊎ (next_of p s env ≤ commit_stage p m) → next_of p s env ≤ commit_stage p m
    at (inr l) = l
    at (inl l) = let e = g.jump [] s env (commit_stage p m) low (within_all p s) (g.trunk_commit m) early (omega arith) in omega arith

fetches_all : (p : Flat.Pipe) → Graph p → (fetch : ℕ → ℕ) (s : ℕ) (ys : List Flat.Stmt) → AllFound p fetch s ys
    → Each (Before p s) ys → AllFetches p fetch s ys
fetches_all p g fetch s [] h k = tt
fetches_all p g fetch s (y ∷ ys) h k = (one y.op y.guards h.0 k.0, fetches_all p g fetch s ys h.1 k.1)
  where
    one : (op : Flat.Op) (gs : List Flat.Guard) → FoundIf p fetch s op
        → ((x m a : ℕ) → op ≡ Flat.DelayedRead x m a → is_dead gs ≡ false → (s < length p.stages) × (s < commit_stage p m))
        → FetchIf p fetch s gs op
    one (Flat.DelayedRead x m a) gs f e = (
      f,
      λ live. record { here = f.0; known = f.1; exact = f.2; early = λ env. let r = e x m a refl live in bound_early p g s m env r.0 r.1 },
    )
    one _ gs f e = tt

module _ (p : Pipe) (rules : KeepsRules p) (apart : are_apart (places p) ≡ true) (named : list_any (defines_use (OfVariable [])) (places p) ≡ false) where
  facts : StageFacts (flat p)
  facts = stage_facts p rules

  before_all : (s : ℕ) (xs : List Flat.Stmt) → Each (λ y. nat_lt y.stage (length (flat p).stages) ≡ true) xs
      → Each (IsEarly p rules apart named) xs → Each (λ y. y.stage ≡ s → Before (flat p) s y) xs
  before_all s [] h k = tt
  before_all s (y ∷ ys) h k = (
    (λ e x m a f live. let l = ltb-true y.stage (length (flat p).stages) h.0 in let i = k.0 x m a f live in (omega arith, omega arith)),
    before_all s ys h.1 k.1,
  )

  fixed_once : is_fixed (at_once (flat p)).stmts ≡ true
  fixed_once = fixed_looked (flat p).stmts ∙ fixed_text p rules apart named

  -- all facts of an accepted pipe hold where `if`s on expressions begin at different bytes and no variable has an empty name
  pub sound : Sound (flat p)
  sound = record {
    graph = facts.graph;
    branches = facts.branches;
    pathwise =
        Passes.pathwise (at_once (flat p))
        (parts p rules apart) fixed_once (fixed_stages (at_once (flat p)).stmts fixed_once (looked_rest (flat p).stmts (all_rest p rules apart named)));
    trunk_holds = facts.trunk_holds;
    merged = facts.merged;
    unmerged = facts.unmerged;
    inside = facts.inside;
    reserves = facts.reserves;
    verifies = facts.verifies;
    unreserved = facts.unreserved;
    unreleased = facts.unreleased;
    guards_late = guards_late p rules apart named;
    skips = facts.skips;
    fork_bound = facts.fork_bound;
    fork_known = facts.fork_known;
    fork_seen = fork_seen p rules apart;
    fetch = facts.fetch;
    fetch_ok = λ s.
        fetches_all (flat p) facts.graph facts.fetch s (in_stage s (flat p).stmts) (facts.found s)
        (each_in_stage (Before (flat p) s) s (flat p).stmts
        (before_all s (flat p).stmts (each_of_all (λ y. nat_lt y.stage (length (flat p).stages)) (flat p).stmts facts.inside)
        (all_early p rules apart named)));
    fetch_blind = fetch_blind p rules apart named;
    fetch_unseen = fetch_unseen p rules apart named;
    fetch_alone = fetch_alone p rules apart named;
    advice = facts.advice;
    fetch_inside = facts.fetch_inside;
  }

-- the flat form of an accepted source has all facts of a pipe, where no variable has an empty name
pub of_source : (p : Pipe) → KeepsRules p → is_source p ≡ true → is_named p ≡ true → Sound (flat p)
of_source p rules source names = sound p rules source (not-true (list_any (defines_use (OfVariable [])) (places p)) names)
