-- Each path of a source that breaks no rule passes the tests of paths.
use Rattle.std.proofs.Common.{◌≡◌, refl, sym, ap, ◌∙◌, subst, ℕ, zero, suc, ◌+◌, ◌≤◌, ◌<◌, Bool, true, false, ◌&&◌, ◌||◌, not, List, [], ◌∷◌, ◌++◌, length, map, filter, ◌==◌, nat_lt, unwrap_or, Option, Some, None, arith, append_assoc, append-nil, eq-eqb, le-leb, ⊎_elim, if◌then◌else◌}
use Rattle.std.proofs.lemmas.Bool.{false≢true, and_parts, and_from, or_left, or_right, both_ways, not-false, cases_Bool, ne_eqb}
use Rattle.std.specs.List.{list_any}
use Rattle.pdl_semantics.specs.Tree.{Location, W, Stmt, Reserve, Release, Verify, Param, Mem, Pipe}
use Rattle.pdl_semantics.specs.Flat
use Rattle.pdl_semantics.specs.Flatten.{flat, params_of, mem_of, is_advisory_mem}
use Rattle.pdl_semantics.specs.Stages
use Rattle.pdl_semantics.specs.Stages.{mem_at, reserve_stage, commit_stage, is_reserve, is_release, onpath}
use Rattle.pdl_semantics.specs.Sound.{all_below}
use Rattle.pdl_kit.specs.declared.rule.Rule.TheVariants.{F5}
use Rattle.pdl_rules.specs.Places.{Place, Parameter, Memory, Statement, End, StartClause, Guard, statements, places, on_path}
use Rattle.pdl_rules.specs.Typed.{is_memory}
use Rattle.pdl_rules.specs.Locks
use Rattle.pdl_rules.specs.Locks.{is_locked, lock_size, most_reservations, reserves_location}
use Rattle.pdl_theory_turns.proofs.Apart.{total, total_all}
use Rattle.pdl_source_paths.proofs.WritesKept.{stands_first}
use Rattle.pdl_source_paths.proofs.Quiet.{touches, quiet_seen, untouched}
use Rattle.pdl_semantics.specs.Locks.{has_room}
use Rattle.pdl_rules.specs.Stages.{reserves_memory, releases_memory}
use Rattle.pdl_rules.specs.Names.{OfGuess, defines_use}
use Rattle.pdl_rules.specs.Calls.{is_call, is_wrong_call}
use Rattle.pdl_rules.specs.Speculation
use Rattle.pdl_rules.specs.Refusal.{KeepsRules}
use Rattle.pdl_rules.proofs.EachPlace.{Each, closing}
use Rattle.pdl_rules.proofs.SingleWrites.{KeepsLocks, AreBacked, none_backed, backed_next, reserves_to_write, count_none}
use Rattle.pdl_theory_turns.specs.Scans.{is_plain, none_of, all_at, reads_ok, no_scan, phases_ok, phase_all, Fresh, is_over, write_reserves}
use Rattle.pdl_theory_turns.specs.Alone
use Rattle.pdl_theory_turns.specs.GuessScans
use Rattle.pdl_theory_turns.specs.GuessScans.{Unmade, makings_ok, making_all, is_made, checks_apart, is_update, once, all_sure}
use Rattle.pdl_theory_turns.specs.Checks.{knows_memory, mem_passes, path_passes, lock_passes, locks_pass}
use Rattle.pdl_theory_turns.specs.Facts.{looked_all, at_once}
use Rattle.pdl_theory_turns.proofs.Passes.{Parts}
use Rattle.pdl_source_stages.proofs.Sites.{Site, sites_of, front_of, place_of, owns, All, stmts_are}
use Rattle.pdl_source_stages.proofs.StatementStages.{Staged, all_staged}
use Rattle.pdl_source_stages.proofs.SiteStages.{all_both, all_map}
use Rattle.pdl_source_stages.proofs.BodyShape.{body_forked, stage_count}
use Rattle.pdl_source_stages.proofs.SiteFacts.{Fine, all_fine}
use Rattle.pdl_source_stages.proofs.Firsts.{none_front}
use Rattle.pdl_source_stages.proofs.Homes.{reserves_in, releases_in, verifies_in}
use Rattle.pdl_source_paths.specs.Source.{are_apart}
use Rattle.pdl_source_paths.proofs.Choices.{path_of}
use Rattle.pdl_source_paths.proofs.PathStatements.{ops, ops_of, seen, on_sites, path_is}
use Rattle.pdl_source_paths.proofs.Variables.{Here, all_here, located}
use Rattle.pdl_source_paths.proofs.Walk.{all_in_text, OnPath, on_the_path, filter_append, all_on, keeps_all, path_text, calls_right}
use Rattle.pdl_source_paths.proofs.Growth.{grows_all, grows_on}
use Rattle.pdl_source_paths.proofs.Order.{all_rise}
use Rattle.pdl_source_paths.proofs.FlatPaths.{value, all_alike}
use Rattle.pdl_source_paths.proofs.SiteStages.{some_op, all_sited, none_sited, no_verifies}
use Rattle.pdl_source_paths.proofs.ReadsKept
use Rattle.pdl_source_paths.proofs.ReadsKept.{reads_at, none_scanned}
use Rattle.pdl_source_paths.proofs.ReadReleases.{late_along}
use Rattle.pdl_source_paths.proofs.Calls.{Stood, made_end}
use Rattle.pdl_source_paths.proofs.PathScans
use Rattle.pdl_source_paths.proofs.PathScans.{Known, order_along, inside_along, reads_along, writes_along, makings_along, sure_along, ops_all}
use Rattle.pdl_source_paths.proofs.Guesses
use Rattle.pdl_source_paths.proofs.GuessStages
use Rattle.pdl_source_paths.proofs.OneUpdate
use Rattle.pdl_source_paths.proofs.Guesses.{all_asked, verified_end}
use Rattle.pdl_source_paths.proofs.Memories.{at_number, mems_length, all_after, distinct, lock_tells, advisory_unlocked, rooms, stages_length, stage_at, first_none}
use Rattle.pdl_source_paths.proofs.StatementTests
use Rattle.pdl_word.proofs.Bytes.{bytes_same}

-- BEFORE THE STATEMENTS

front_on : (c : List Guard) (ps : List Param) (ms : List Mem)
    → filter (on_path c) (map Parameter ps ++ map Memory ms) ≡ map Parameter ps ++ map Memory ms
front_on c [] [] = refl
front_on c [] (m ∷ ms) = ap (λ l. Memory m ∷ l) (front_on c [] ms)
front_on c (a ∷ ps) ms = ap (λ l. Parameter a ∷ l) (front_on c ps ms)

backed_params : (p : Pipe) (ps : List Param) (before : List Place) → AreBacked p before → AreBacked p (before ++ map Parameter ps)
backed_params p [] before b = subst (AreBacked p) (sym (append-nil before)) b
backed_params p (a ∷ ps) before b =
    subst (AreBacked p) (append_assoc before (Parameter a ∷ []) (map Parameter ps))
    (backed_params p ps (before ++ Parameter a ∷ [])
    (backed_next p before (Parameter a) (record { l1 = refl; l3 = refl; l4 = refl; l5 = refl; l6 = refl; l7 = refl }) b))

backed_mems : (p : Pipe) (ms : List Mem) (before : List Place) → AreBacked p before → AreBacked p (before ++ map Memory ms)
backed_mems p [] before b = subst (AreBacked p) (sym (append-nil before)) b
backed_mems p (m ∷ ms) before b =
    subst (AreBacked p) (append_assoc before (Memory m ∷ []) (map Memory ms))
    (backed_mems p ms (before ++ Memory m ∷ [])
    (backed_next p before (Memory m) (record { l1 = refl; l3 = refl; l4 = refl; l5 = refl; l6 = refl; l7 = refl }) b))

below_all : (test : ℕ → Bool) (n : ℕ) → ((m : ℕ) → m < n → test m ≡ true) → all_below test n ≡ true
below_all test zero f = refl
below_all test (suc n) f = and_from _ _ (below_all test n (λ m low. f m (omega arith))) (f n (omega arith))

module _ (p : Pipe) (rules : KeepsRules p) where
  abbrev q : Flat.Pipe
  q = at_once (flat p)

  staged : All Staged (sites_of p)
  staged = all_staged p (body_forked p rules)

  -- KINDS IN THEIR STAGES

  reserve_home : (i : ℕ) → All (λ t. some_op (is_reserve i) (ops p.mems t) ≡ true → t.walk.stage ≡ reserve_stage q i) (sites_of p)
  reserve_home i =
      all_sited (is_reserve i) (reserve_stage q i) p.mems (sites_of p)
      (ap (all_at (is_reserve i) (reserve_stage q i)) (sym (stmts_are p)) ∙ reserves_in p rules i)

  release_home : (i : ℕ) → All (λ t. some_op (is_release i) (ops p.mems t) ≡ true → t.walk.stage ≡ commit_stage q i) (sites_of p)
  release_home i =
      all_sited (is_release i) (commit_stage q i) p.mems (sites_of p)
      (ap (all_at (is_release i) (commit_stage q i)) (sym (stmts_are p)) ∙ releases_in p rules i)

  verify_home : All (λ t. Speculation.is_verify (place_of t) ≡ true → Stages.verify_stage (flat p).stmts ≡ Some t.walk.stage) (sites_of p)
  verify_home = at (Stages.verify_stage (flat p).stmts) refl
    where
      does : (t : Site) → Speculation.is_verify (place_of t) ≡ true → some_op Stages.is_verify (ops p.mems t) ≡ true
      does t e = here t.stmt refl e
        where
          here : (s : Stmt) → t.stmt ≡ s → Speculation.is_verify (Statement s t.branches) ≡ true → some_op Stages.is_verify (ops p.mems t) ≡ true
          here (Verify sp g args) i f = ap (λ x. some_op Stages.is_verify (ops_of p.mems t.walk.vars x)) i
          here _ i f = absurd (false≢true f)

      at : (o : Option ℕ) → Stages.verify_stage (flat p).stmts ≡ o
          → All (λ t. Speculation.is_verify (place_of t) ≡ true → Stages.verify_stage (flat p).stmts ≡ Some t.walk.stage) (sites_of p)
      at (Some v) e =
          all_map (λ t. some_op Stages.is_verify (ops p.mems t) ≡ true → t.walk.stage ≡ v)
          (λ t. Speculation.is_verify (place_of t) ≡ true → Stages.verify_stage (flat p).stmts ≡ Some t.walk.stage)
          (λ t h k. e ∙ ap Some (sym (h (does t k)))) (sites_of p)
          (all_sited Stages.is_verify v p.mems (sites_of p) (ap (all_at Stages.is_verify v) (sym (stmts_are p)) ∙ verifies_in p rules v e))
      at None e =
          all_map (λ t. some_op Stages.is_verify (ops p.mems t) ≡ true → t.walk.stage ≡ suc t.walk.stage)
          (λ t. Speculation.is_verify (place_of t) ≡ true → Stages.verify_stage (flat p).stmts ≡ Some t.walk.stage)
          (λ t h k. absurd (let z = h (does t k) in omega arith)) (sites_of p)
          (never (sites_of p) (ap (none_of Stages.is_verify) (sym (stmts_are p)) ∙ no_verifies (flat p).stmts e))
        where
          anywhere : (s : ℕ) (xs : List Flat.Stmt) → none_of Stages.is_verify xs ≡ true → all_at Stages.is_verify s xs ≡ true
          anywhere s [] h = refl
          anywhere s (x ∷ xs) h = let parts = and_parts (not (Stages.is_verify x.op)) (none_of Stages.is_verify xs) h in
              and_from _ _ (or_left _ (x.stage == s) parts.0) (anywhere s xs parts.1)

          never : (ts : List Site) → none_of Stages.is_verify (owns p.mems ts) ≡ true
              → All (λ t. some_op Stages.is_verify (ops p.mems t) ≡ true → t.walk.stage ≡ suc t.walk.stage) ts
          never ts h =
              all_both (λ t. some_op Stages.is_verify (ops p.mems t) ≡ true → t.walk.stage ≡ 0)
              (λ t. some_op Stages.is_verify (ops p.mems t) ≡ true → t.walk.stage ≡ 1)
              (λ t. some_op Stages.is_verify (ops p.mems t) ≡ true → t.walk.stage ≡ suc t.walk.stage)
              (λ t a b k. let i = a k in let j = b k in omega arith) ts
              (all_sited Stages.is_verify 0 p.mems ts (anywhere 0 (owns p.mems ts) h)) (all_sited Stages.is_verify 1 p.mems ts (anywhere 1 (owns p.mems ts) h))

  -- LOCKS

  lock_is : (m : List ℕ) → is_plain (mem_at q (mem_of p.mems m)).lock ≡ not (is_locked p.mems m)
  lock_is m = lock_tells p.mems m

  -- a memory without lock is neither reserved nor released
  unlocked : (i : ℕ) → is_plain (mem_at q i).lock ≡ true → (m : List ℕ) → not (is_locked p.mems m) ≡ false → (mem_of p.mems m == i) ≡ false
  unlocked i plain m e = ne_eqb (mem_of p.mems m) i (λ g. both_ways _ (lock_tells p.mems m ∙ e) (subst (λ n. is_plain (mem_at q n).lock ≡ true) (sym g) plain))

  plain_reserves : (i : ℕ) → is_plain (mem_at q i).lock ≡ true → All (λ t. some_op (is_reserve i) (ops p.mems t) ≡ false) (sites_of p)
  plain_reserves i plain =
      all_map (Here p) (λ t. some_op (is_reserve i) (ops p.mems t) ≡ false)
      (λ t h. StatementTests.no_reserve p.mems i t.walk.vars t.stmt (λ sp at k e. unlocked i plain at.mem.name (at_stmt t h (Reserve sp at k) e)))
      (sites_of p) (all_here p)
    where
      at_stmt : (t : Site) → Here p t → (s : Stmt) → t.stmt ≡ s → Locks.breaks_f5 p (Statement s t.branches) ≡ false
      at_stmt t h s e = ap (λ x. Locks.breaks_f5 p (Statement x t.branches)) (sym e) ∙ rules F5 t.front (place_of t) h.later h.whole

  plain_releases : (i : ℕ) → is_plain (mem_at q i).lock ≡ true → All (λ t. some_op (is_release i) (ops p.mems t) ≡ false) (sites_of p)
  plain_releases i plain =
      all_map (Here p) (λ t. some_op (is_release i) (ops p.mems t) ≡ false)
      (λ t h. StatementTests.no_release p.mems i t.walk.vars t.stmt (λ sp at e. unlocked i plain at.mem.name (at_stmt t h (Release sp at) e)))
      (sites_of p) (all_here p)
    where
      at_stmt : (t : Site) → Here p t → (s : Stmt) → t.stmt ≡ s → Locks.breaks_f5 p (Statement s t.branches) ≡ false
      at_stmt t h s e = ap (λ x. Locks.breaks_f5 p (Statement x t.branches)) (sym e) ∙ rules F5 t.front (place_of t) h.later h.whole

  -- the releases of a memory, by its name
  pub named_release : (m : List ℕ) → All (λ t. releases_memory m (place_of t) ≡ true → t.walk.stage ≡ commit_stage q (mem_of p.mems m)) (sites_of p)
  named_release m =
      all_map (λ t. some_op (is_release (mem_of p.mems m)) (ops p.mems t) ≡ true → t.walk.stage ≡ commit_stage q (mem_of p.mems m))
      (λ t. releases_memory m (place_of t) ≡ true → t.walk.stage ≡ commit_stage q (mem_of p.mems m))
      (λ t h e. h (does t e)) (sites_of p) (release_home (mem_of p.mems m))
    where
      does : (t : Site) → releases_memory m (place_of t) ≡ true → some_op (is_release (mem_of p.mems m)) (ops p.mems t) ≡ true
      does t e = here t.stmt refl e
        where
          here : (s : Stmt) → t.stmt ≡ s → releases_memory m (Statement s t.branches) ≡ true → some_op (is_release (mem_of p.mems m)) (ops p.mems t) ≡ true
          here (Release sp at) i f =
              ap (λ x. some_op (is_release (mem_of p.mems m)) (ops_of p.mems t.walk.vars x)) i
              ∙ or_left _ false (eq-eqb _ _ (ap (mem_of p.mems) (bytes_same at.mem.name m f)))
          here _ i f = absurd (false≢true f)

  -- A PATH

  module _ (apart : are_apart (places p) ≡ true) (path : List ℕ) where
    abbrev v : Guard → Bool
    v = value p path

    abbrev c : List Guard
    c = path_of p v

    abbrev ts : List Site
    ts = on_sites c (sites_of p)

    xs_are : onpath path q.stmts ≡ seen p.mems ts
    xs_are = ap (λ l. onpath path (looked_all l)) (stmts_are p) ∙ path_is p.mems path c (sites_of p) (all_alike p rules apart path)

    abbrev Both : Site → Type 0
    Both t = Fine p t × Here p t

    both : All Both (sites_of p)
    both = all_both (Fine p) (Here p) Both (λ t a b. (a, b)) (sites_of p) (all_fine p rules) (all_here p)

    -- BEFORE THE STATEMENTS

    front : filter (on_path c) (front_of p) ≡ front_of p
    front = front_on c p.params p.mems

    on : OnPath c (front_of p) ts
    on = subst (λ l. OnPath c l ts) front (on_the_path c (front_of p) (sites_of p) (all_in_text p))

    each : Each (KeepsLocks p) (front_of p) (map place_of ts ++ closing p)
    each = subst (λ l. Each (KeepsLocks p) l (map place_of ts ++ closing p)) front (keeps_all p rules v)

    late : All
        (λ t. (at : Location) → reads_at t.stmt ≡ Some at → is_locked p.mems at.mem.name ≡ true → t.walk.stage ≤ commit_stage q (mem_of p.mems at.mem.name)) ts
    late =
        late_along p (λ m. commit_stage q (mem_of p.mems m)) 0 _ (front_of p) ts (all_rise p c (body_forked p rules)) each
        (λ m. all_on (λ t. releases_memory m (place_of t) ≡ true → t.walk.stage ≡ commit_stage q (mem_of p.mems m)) c (sites_of p) (named_release m))

    known : All (Known p q) ts
    known =
        all_both (λ t. Both t × ((i : ℕ) → some_op (is_reserve i) (ops p.mems t) ≡ true → t.walk.stage ≡ reserve_stage q i))
        (λ t. (at : Location) → reads_at t.stmt ≡ Some at → is_locked p.mems at.mem.name ≡ true → t.walk.stage ≤ commit_stage q (mem_of p.mems at.mem.name))
        (Known p q)
        (λ t a d. record { located = located p rules t a.0.1; reserves = a.1; late = d; inside = a.0.0.inside }) ts
        (all_on (λ t. Both t × ((i : ℕ) → some_op (is_reserve i) (ops p.mems t) ≡ true → t.walk.stage ≡ reserve_stage q i)) c (sites_of p)
        (all_both Both (λ t. (i : ℕ) → some_op (is_reserve i) (ops p.mems t) ≡ true → t.walk.stage ≡ reserve_stage q i)
        (λ t. Both t × ((i : ℕ) → some_op (is_reserve i) (ops p.mems t) ≡ true → t.walk.stage ≡ reserve_stage q i))
        (λ t a b. (a, b)) (sites_of p) both
        (StatementTests.all_numbers (λ i t. some_op (is_reserve i) (ops p.mems t) ≡ true → t.walk.stage ≡ reserve_stage q i) (sites_of p) reserve_home)))
        late

    told_all : All (Guesses.Told p rules v staged verify_home) (sites_of p)
    told_all =
        all_both (λ t. Both t)
        (λ t. Staged t × (Speculation.is_verify (place_of t) ≡ true → Stages.verify_stage (flat p).stmts ≡ Some t.walk.stage))
        (Guesses.Told p rules v staged verify_home) (λ t a b. record { here = a.1; stage = b.0; verify = b.1 })
        (sites_of p) both
        (all_both Staged (λ t. Speculation.is_verify (place_of t) ≡ true → Stages.verify_stage (flat p).stmts ≡ Some t.walk.stage)
        (λ t. Staged t × (Speculation.is_verify (place_of t) ≡ true → Stages.verify_stage (flat p).stmts ≡ Some t.walk.stage))
        (λ t a b. (a, b)) (sites_of p) staged verify_home)

    told : All (Guesses.Told p rules v staged verify_home) ts
    told = all_on (Guesses.Told p rules v staged verify_home) c (sites_of p) told_all

    -- THE LOCKS SO FAR

    backed : AreBacked p (front_of p)
    backed = backed_mems p p.mems (map Parameter p.params) (backed_params p p.params [] (none_backed p))

    scanned : ReadsKept.Scanned p (params_of p.params) (front_of p) no_scan
    scanned =
        none_scanned p (params_of p.params) (front_of p)
        (λ l. none_front p (reserves_location l) (λ a. refl) (λ m. refl))
        (λ l. none_front p (reserves_to_write l) (λ a. refl) (λ m. refl))

    called : Guesses.Called p rules v staged verify_home (front_of p)
    called = record {
      few = let z = count_none is_call (front_of p) (none_front p is_call (λ a. refl) (λ m. refl)) in omega arith;
      once = λ g e. absurd (both_ways _ (none_front p (defines_use (OfGuess g)) (λ a. refl) (λ m. refl)) e);
      some = λ g e. absurd (both_ways _ (none_front p (defines_use (OfGuess g)) (λ a. refl) (λ m. refl)) e);
    }

    -- THE SCANS

    reads_pass : reads_ok q no_scan (seen p.mems ts) ≡ true
    reads_pass =
        reads_along p q lock_is 0 _ (params_of p.params) _ (front_of p) no_scan ts known (grows_on p.mems c (params_of p.params) _ (sites_of p) (grows_all p))
        (all_rise p c (body_forked p rules)) each
        (λ m there e. absurd (both_ways _ (none_front p (reserves_memory m) (λ a. refl) (λ m. refl)) e)) scanned

    writes_pass : (i : ℕ) → i < length p.mems
        → (phases_ok i Fresh (seen p.mems ts) ≡ true) × (is_over (phase_all i Fresh (seen p.mems ts)) ≡ true)
        × (has_room (mem_at q i).lock (write_reserves i (seen p.mems ts)) 0 ≡ true) × (write_reserves i (seen p.mems ts) ≤ 2)
    writes_pass i low =
        let n = at_number p.mems i (distinct p rules p.mems (map Parameter p.params) (all_after p)) low in
        subst
        (λ k. (phases_ok k Fresh (seen p.mems ts) ≡ true) × (is_over (phase_all k Fresh (seen p.mems ts)) ≡ true)
        × (has_room (mem_at q k).lock (write_reserves k (seen p.mems ts)) 0 ≡ true) × (write_reserves k (seen p.mems ts) ≤ 2)) n.2
        (let w = scanned_writes n.0 n.1 (is_advisory_mem p.mems n.0) refl in (
          w.0,
          w.1,
          rooms p rules p.mems (map Parameter p.params) n.0 (all_after p) (write_reserves (mem_of p.mems n.0) (seen p.mems ts))
              (many n.0 w.0 w.2),
          at_most_two n.0 (many n.0 w.0 w.2),
        ))
      where
        Writes : List ℕ → Type 0
        Writes m =
            (phases_ok (mem_of p.mems m) Fresh (seen p.mems ts) ≡ true) × (is_over (phase_all (mem_of p.mems m) Fresh (seen p.mems ts)) ≡ true)
            × (total (phase_all (mem_of p.mems m) Fresh (seen p.mems ts)) ≤ most_reservations p.mems W m)

        scanned_writes : (m : List ℕ) → is_memory p.mems m ≡ true → (b : Bool) → is_advisory_mem p.mems m ≡ b → Writes m
        scanned_writes m there false a =
            writes_along p q lock_is m there a (params_of p.params) _ (front_of p) Fresh ts known
            (grows_on p.mems c (params_of p.params) _ (sites_of p) (grows_all p)) each backed
            (stands_first p (params_of p.params) (front_of p) m (λ f g h. none_front p f g h))
        scanned_writes m there true a =
            let k = quiet_seen (mem_of p.mems m) p.mems ts
            (all_on (λ t. some_op (touches (mem_of p.mems m)) (ops p.mems t) ≡ false) c (sites_of p)
            (all_map (Here p) (λ t. some_op (touches (mem_of p.mems m)) (ops p.mems t) ≡ false)
            (λ t h. untouched p m there a (advisory_unlocked p rules p.mems (map Parameter p.params) m (all_after p) a) t.walk.vars t.stmt t.branches
            (located p rules t h) (rules F5 t.front (place_of t) h.later h.whole)) (sites_of p) (all_here p))) in
            (k.0, ap is_over k.1, subst (λ ph. total ph ≤ most_reservations p.mems W m) (sym k.1) (let l : 0 ≤ most_reservations p.mems W m = omega arith in l))

        none_more : (n : ℕ) → 0 + n ≡ n
        none_more n = omega arith

        many : (n : List ℕ) → phases_ok (mem_of p.mems n) Fresh (seen p.mems ts) ≡ true
            → total (phase_all (mem_of p.mems n) Fresh (seen p.mems ts)) ≤ most_reservations p.mems W n
            → write_reserves (mem_of p.mems n) (seen p.mems ts) ≤ most_reservations p.mems W n
        many n ok w =
            subst (λ k. k ≤ most_reservations p.mems W n)
            (total_all (mem_of p.mems n) Fresh (seen p.mems ts) ok ∙ none_more (write_reserves (mem_of p.mems n) (seen p.mems ts))) w

        at_most_two : (n : List ℕ) {k : ℕ} → k ≤ most_reservations p.mems W n → k ≤ 2
        at_most_two n = by (lock_size p.mems n == 1)
          where
            by : {k : ℕ} (b : Bool) → k ≤ (if b then 1 else 2) → k ≤ 2
            by true h = omega (arith, h)
            by false h = h

    -- a path reserves each memory for writing at most twice
    pub few_ok : (i : ℕ) → i < length p.mems → write_reserves i (onpath path q.stmts) ≤ 2
    few_ok i low = subst (λ xs. write_reserves i xs ≤ 2) (sym xs_are) (writes_pass i low).3

    plain_or : (m : ℕ) (b : Bool) → (is_plain (mem_at q m).lock ≡ true → b ≡ true) → (not (is_plain (mem_at q m).lock) || b) ≡ true
    plain_or m b f =
        ⊎_elim (λ t. or_right (not (is_plain (mem_at q m).lock)) b (f t))
        (λ t. or_left (not (is_plain (mem_at q m).lock)) b (ap not t)) (cases_Bool (is_plain (mem_at q m).lock))

    mem_pass : (i : ℕ) → i < length p.mems → mem_passes q (seen p.mems ts) i ≡ true
    mem_pass i low =
        and_from _ _ (writes_pass i low).0
        (and_from _ _ (writes_pass i low).1
        (and_from _ _ (writes_pass i low).2
        (and_from _ _ (StatementTests.at_seen (is_reserve i) (StatementTests.reserve_blind i)
        (reserve_stage q i) p.mems ts
        (all_on (λ t. some_op (is_reserve i) (ops p.mems t) ≡ true → t.walk.stage ≡ reserve_stage q i) c (sites_of p) (reserve_home i)))
        (and_from _ _
        (StatementTests.at_seen (is_release i) (StatementTests.release_blind i)
        (commit_stage q i) p.mems ts
        (all_on (λ t. some_op (is_release i) (ops p.mems t) ≡ true → t.walk.stage ≡ commit_stage q i) c (sites_of p) (release_home i)))
        (plain_or i _
        (λ e. StatementTests.none_seen (is_release i)
        (StatementTests.release_blind i) p.mems ts (all_on (λ t. some_op (is_release i) (ops p.mems t) ≡ false) c (sites_of p) (plain_releases i e))))))))

    abbrev o : Option ℕ
    o = Stages.verify_stage (flat p).stmts

    makings_pass : (makings_ok o Unmade (seen p.mems ts) ≡ true) × (is_made (making_all Unmade (seen p.mems ts)) ≡ true)
    makings_pass = (
      makes.0,
      ap is_made makes.2
          ∙ made_end makes.1 (front_of p ++ map place_of ts) makes.3 calls
          (verified_end p rules v staged verify_home (front_of p ++ map place_of ts) all_places asked.1),
    )
      where
        asked : PathScans.AllAsked p o (front_of p) ts × Guesses.Called p rules v staged verify_home (front_of p ++ map place_of ts)
        asked = all_asked p rules v staged verify_home 0 _ (front_of p) ts (all_rise p c (body_forked p rules)) on told
            (λ V i e. absurd (both_ways _ (none_front p Speculation.is_verify (λ a. refl) (λ m. refl)) e)) called

        makes : (makings_ok o Unmade (seen p.mems ts) ≡ true) × (j : GuessScans.Making)
            × (making_all Unmade (seen p.mems ts) ≡ j) × Stood j (front_of p ++ map place_of ts)
        makes =
            makings_along p q lock_is o (front_of p) Unmade ts asked.0
            (none_front p is_call (λ a. refl) (λ m. refl), none_front p Speculation.is_verify (λ a. refl) (λ m. refl))

        text : filter (on_path c) (front_of p ++ statements [] p.body) ≡ front_of p ++ map place_of ts
        text = path_text p rules v ∙ ap (λ l. l ++ map place_of ts) front

        calls : list_any is_call (front_of p ++ map place_of ts) ≡ true
        calls =
            not-false (list_any is_call (front_of p ++ map place_of ts))
            (ap (λ l. is_wrong_call l (End p.end)) (sym text)
            ∙ calls_right p rules v (front_of p ++ statements [] p.body) (StartClause p.start ∷ []) (End p.end) refl refl)

        all_places : filter (on_path c) (places p) ≡ (front_of p ++ map place_of ts) ++ closing p
        all_places = filter_append (on_path c) (front_of p ++ statements [] p.body) (closing p) ∙ ap (λ l. l ++ closing p) text

    apart_pass : checks_apart None (seen p.mems ts) ≡ true
    apart_pass =
        GuessStages.checks_along p rules v staged verify_home (sites_of p) (all_in_text p) told_all
        (subst (Guesses.Called p rules v staged verify_home) (sym front) called)

    once_pass : once is_update false (seen p.mems ts) ≡ true
    once_pass =
        OneUpdate.one_update p rules v staged verify_home (sites_of p) (all_in_text p) told_all
        (none_front p Speculation.is_update (λ a. refl) (λ m. refl))

    sure_pass : all_sure o false no_scan (seen p.mems ts) ≡ true
    sure_pass =
        sure_along p q lock_is o (params_of p.params) _ (front_of p) no_scan false ts known
        (grows_on p.mems c (params_of p.params) _ (sites_of p) (grows_all p)) each
        (Guesses.all_sure p rules v staged verify_home (front_of p) ts on told) scanned (none_front p Speculation.is_barrier (λ a. refl) (λ m. refl))

    knows_pass : Flat.list_all (λ (x : Flat.Stmt). knows_memory (length q.mems) x.op) (seen p.mems ts) ≡ true
    knows_pass =
        subst (λ n. Flat.list_all (λ (x : Flat.Stmt). knows_memory n x.op) (seen p.mems ts) ≡ true) (sym (mems_length p.mems))
        (StatementTests.all_seen (knows_memory (length p.mems)) p.mems ts
        (all_map (Known p q)
        (λ t. ops_all (λ op. knows_memory (length p.mems) (Alone.answered_op op)) (ops p.mems t) ≡ true)
        (λ t h. StatementTests.knows_all p.mems t.walk.vars t.stmt (λ at e. (h.located at e).0)) ts known))

    -- the statements on a path pass all tests of a path, where delayed reads are reads
    pub path_ok : path_passes q (onpath path q.stmts) ≡ true
    path_ok =
        subst (λ xs. path_passes q xs ≡ true) (sym xs_are)
        (and_from _ _ (order_along p.mems 0 _ ts (all_rise p c (body_forked p rules)))
        (and_from _ _ (inside_along p q ts known)
        (and_from _ _ knows_pass
        (and_from _ _ reads_pass
        (and_from _ _ (below_all (mem_passes q (seen p.mems ts)) (length q.mems) (λ m low. mem_pass m (subst (λ n. m < n) (mems_length p.mems) low)))
        (subst
        (λ w. (makings_ok w Unmade (seen p.mems ts)
        && (is_made (making_all Unmade (seen p.mems ts)) && (checks_apart None (seen p.mems ts)
        && (once is_update false (seen p.mems ts) && all_sure w false no_scan (seen p.mems ts))))) ≡ true)
        (sym (StatementTests.verify_looked (flat p).stmts))
        (and_from _ _ makings_pass.0 (and_from _ _ makings_pass.1 (and_from _ _ apart_pass (and_from _ _ once_pass sure_pass))))))))))

  -- ALL TESTS

  lock_ok : (m : ℕ) → m < length p.mems → lock_passes q m ≡ true
  lock_ok m low =
      and_from _ _ (StatementTests.all_looked (is_reserve m) (StatementTests.reserve_blind m) (reserve_stage q m) (flat p).stmts ∙ reserves_in p rules m)
      (and_from _ _ (StatementTests.all_looked (is_release m) (StatementTests.release_blind m) (commit_stage q m) (flat p).stmts ∙ releases_in p rules m)
      (⊎_elim
      (λ t. or_right (not (is_plain (mem_at q m).lock)) _ (and_from _ _
      (eq-eqb _ 0
      (ap (λ o. unwrap_or o 0)
      (stage_at is_reserve (flat p).stmts m p.mems low
      ∙ first_none (is_reserve m)
      (flat p).stmts (ap (none_of (is_reserve m)) (stmts_are p) ∙ none_sited (is_reserve m) p.mems (sites_of p) (plain_reserves m t)))))
      (eq-eqb _ (length q.stages)
      (ap (λ o. unwrap_or o (length q.stages))
      (stage_at is_release (flat p).stmts m p.mems low
      ∙ first_none (is_release m)
      (flat p).stmts (ap (none_of (is_release m)) (stmts_are p) ∙ none_sited (is_release m) p.mems (sites_of p) (plain_releases m t)))))))
      (λ t. or_left (not (is_plain (mem_at q m).lock)) _ (ap not t))
      (cases_Bool (is_plain (mem_at q m).lock))))

  locks_ok : locks_pass q ≡ true
  locks_ok =
      let n = mems_length p.mems in
      let a = stages_length is_reserve (flat p).stmts 0 p.mems in
      let b = stages_length is_release (flat p).stmts 0 p.mems in
      and_from _ _ (le-leb (length q.reserves_at) (length q.mems) (omega arith))
      (and_from _ _ (le-leb (length q.releases_at) (length q.mems) (omega arith))
      (below_all (lock_passes q) (length q.mems) (λ m low. lock_ok m (subst (λ k. m < k) n low))))

  -- what the tests tell of the locks, the text and the paths, where delayed reads are reads
  pub parts : are_apart (places p) ≡ true → Parts q
  parts apart = record {
    some = let e = stage_count p (body_forked p rules) in omega arith;
    locks = locks_ok;
    known =
        subst (λ n. Flat.list_all (λ (x : Flat.Stmt). knows_memory n x.op) q.stmts ≡ true) (sym (mems_length p.mems))
        (ap (λ l. Flat.list_all (λ (x : Flat.Stmt). knows_memory (length p.mems) x.op) (looked_all l)) (stmts_are p)
        ∙ StatementTests.all_text (knows_memory (length p.mems)) p.mems (sites_of p)
        (all_map (Here p)
        (λ t. ops_all (λ op. knows_memory (length p.mems) (Alone.answered_op op)) (ops p.mems t) ≡ true)
        (λ t h. StatementTests.knows_all p.mems t.walk.vars t.stmt (λ at e. (located p rules t h at e).0))
        (sites_of p) (all_here p)));
    unfetched = StatementTests.unfetched (flat p).stmts;
    below =
        StatementTests.below_verify (length q.stages) (flat p).stmts
        (ap (Flat.list_all (λ (x : Flat.Stmt). nat_lt x.stage (length q.stages))) (stmts_are p)
        ∙ StatementTests.inside_text (length q.stages) p.mems (sites_of p)
        (all_map (Fine p) (λ t. t.walk.stage < length q.stages) (λ t h. h.inside) (sites_of p) (all_fine p rules)));
    paths = path_ok apart;
  }
