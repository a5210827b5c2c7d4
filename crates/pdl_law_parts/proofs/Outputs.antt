-- The outputs of a compiled netlist have the values of the machine's ports.
use Rattle.std.proofs.Common.{◌≡◌, refl, sym, ap, ap₂, ◌∙◌, subst, ℕ, zero, suc, ◌+◌, ◌<◌, Bool, true, false, List, [], ◌∷◌, ◌++◌, length, map, Some, is_some, arith, add-zero}
use Rattle.std.specs.Prelude.{if◌then◌else◌, slice_index_or, filter_map}
use Rattle.std.proofs.lemmas.List.{map-append}
use Rattle.pdl_semantics.specs.Flat.{Lock, Mem, Stmt, Stage, Pipe, has_lock}
use Rattle.pdl_semantics.specs.Stages.{plain_mem, mem_at}
use Rattle.pdl_semantics.specs.Machine as machine
use Rattle.pdl_semantics.specs.Machine.{Thread}
use Rattle.pdl_semantics.specs.Moves.{Act}
use Rattle.pdl_semantics.specs.Cycle.{for_stages, for_mems, taken_out, port_writes}
use Rattle.pdl_semantics.specs.SecondWrites.{reserves_twice, all_twice}
use Rattle.pdl_net.specs.Circuit.{Circuit, State, Output, port_output}
use Rattle.pdl_net.specs.Signal.{Signal}
use Rattle.pdl_net.specs.Cycle.{net_value}
use Rattle.pdl_machine_facts.specs.Slots.{slot, here, stage_moves, moving}
use Rattle.pdl_machine_facts.specs.Ports.{stage_values, commit_values, all_commit_values}
use Rattle.pdl_machine_facts.specs.Cycle.{IsByStages}
use Rattle.pdl_lockapi.proofs.LockKinds.{plain_is}
use Rattle.pdl_law_parts.proofs.AnsweredThreads.{Stood}
use Rattle.pdl_law_parts.specs.Walk.{Locks, is_locked}
use Rattle.pdl_law_parts.specs.Views.{Gates, View}
use Rattle.pdl_law_parts.specs.Ports.{Shown, Commit, Commits, stages_shown, commit_shown, commits_shown}
use Rattle.pdl_law_parts.specs.Compiled.{shown_in, port_in, IsLaid}
use Rattle.pdl_law_parts.specs.Served.{IsServed}
use Rattle.pdl_law_parts.specs.Stands.{StandsFor, IsSeen, IsSquashed}
use Rattle.pdl_law_parts.proofs.LockStep.{commit_as, commit_is, commit2_is}

-- the outputs of a circuit with these ports
pub outputs_all : (c : Circuit) (outs : List Output) → filter_map port_output (map (port_in c) outs) ≡ outs
outputs_all c [] = refl
outputs_all c (o ∷ outs) = ap (λ l. o ∷ l) (outputs_all c outs)

-- the value of an output
abbrev pub shown_value : State → Shown → ℕ
shown_value s f = f.signal.value s

-- the values of outputs by their nets are those of what is shown
pub values_shown : (c : Circuit) (s : State) (outs : List Output)
    → map (λ (o : Output). net_value c s o.net) outs ≡ map (shown_value s) (map (shown_in c) outs)
values_shown c s [] = refl
values_shown c s (o ∷ outs) = ap (λ l. net_value c s o.net ∷ l) (values_shown c s outs)

-- of each stage, where all are as the machine's
module _ (p : Pipe) (vs : ℕ → View) (moves : ℕ → Signal) (s : State) (st : machine.State) (bits : List Bool)
    (seen : (j : ℕ) → j < length p.stages → IsSeen p vs moves s st bits j) where
  -- the outputs of n stages from stage k on have the values of the machine's: whether each holds a thread, and whether that moves
  pub stages_are : (n k : ℕ) (xs : List Stage) → k + n ≡ length p.stages → n ≡ length xs
      → map (shown_value s) (stages_shown vs moves n k)
      ≡ stage_values (for_stages (λ i. is_some (slot st i)) k xs) (for_stages (λ i. stage_moves p st bits i) k xs)
  stages_are zero k [] e f = refl
  stages_are zero k (x ∷ xs) e f = absurd (omega (arith, f))
  stages_are (suc n) k [] e f = absurd (omega (arith, f))
  stages_are (suc n) k (x ∷ xs) e f =
      ap₂ (λ a l. a ∷ l) (seen k (omega (arith, e))).valid
      (ap₂ (λ a l. a ∷ l) (seen k (omega (arith, e))).leaves (stages_are n (suc k) xs (omega (arith, e)) (omega (arith, f))))

-- what memories with locks commit
module _ (names : ℕ → List ℕ) (s : State) (st : machine.State) where
  -- the values of the signals of a memory's commit: whether there is one, its address and its value
  abbrev pub commit_words : Commit → List ℕ
  commit_words x = x.enable.value s ∷ x.addr.value s ∷ x.value.value s ∷ []

  -- those of its first commit, and of the second where some path reserves it twice
  abbrev pub all_words : Bool → Commits → List ℕ
  all_words twice x = commit_words x.first ++ (if twice then commit_words x.second else [])

  -- the outputs of a memory's commits have the values of their signals
  shown_words : (name : List ℕ) (twice : Bool) (x : Commits) → map (shown_value s) (commit_shown name twice x) ≡ all_words twice x
  shown_words name true x = refl
  shown_words name false x = refl

  -- the commit outputs of these memories have the values of what is taken out, where the commits of each locked one have
  pub commits_are : (ms : List Act) (ss : List Stmt) (commits : ℕ → Commits) (m : ℕ) (xs : List Mem)
      → ((i : ℕ) → i < length xs → has_lock (slice_index_or xs i plain_mem).lock ≡ true
      → all_words (reserves_twice (m + i) ss) (commits (m + i))
      ≡ commit_values (slice_index_or xs i plain_mem).lock (reserves_twice (m + i) ss) (port_writes (taken_out st ms (m + i))))
      → map (shown_value s) (commits_shown names (λ i. reserves_twice i ss) commits m xs)
      ≡ all_commit_values (all_twice ss m xs) xs (for_mems (λ i. port_writes (taken_out st ms i)) m xs)
  commits_are ms ss commits m [] h = refl
  commits_are ms ss commits m (x ∷ xs) h =
      map-append (shown_value s) (if has_lock x.lock then commit_shown (names m) (reserves_twice m ss) (commits m) else [])
      (commits_shown names (λ i. reserves_twice i ss) commits (suc m) xs)
      ∙ ap₂ (λ a b. a ++ b) (mine x.lock (λ e. at (h 0 (omega arith) e)))
      (commits_are ms ss commits (suc m) xs (λ i l e. later i (h (suc i) (omega (arith, l)) e)))
    where
      at : all_words (reserves_twice (m + 0) ss) (commits (m + 0))
          ≡ commit_values x.lock (reserves_twice (m + 0) ss) (port_writes (taken_out st ms (m + 0)))
          → all_words (reserves_twice m ss) (commits m) ≡ commit_values x.lock (reserves_twice m ss) (port_writes (taken_out st ms m))
      at e = ap (λ i. all_words (reserves_twice i ss) (commits i)) (sym (add-zero m)) ∙ e
          ∙ ap (λ i. commit_values x.lock (reserves_twice i ss) (port_writes (taken_out st ms i))) (add-zero m)

      mine : (l : Lock)
          → (has_lock l ≡ true → all_words (reserves_twice m ss) (commits m) ≡ commit_values l (reserves_twice m ss) (port_writes (taken_out st ms m)))
          → map (shown_value s) (if has_lock l then commit_shown (names m) (reserves_twice m ss) (commits m) else [])
          ≡ commit_values l (reserves_twice m ss) (port_writes (taken_out st ms m))
      mine l g = told (has_lock l) refl
        where
          told : (b : Bool) → has_lock l ≡ b
              → map (shown_value s) (if b then commit_shown (names m) (reserves_twice m ss) (commits m) else [])
              ≡ commit_values l (reserves_twice m ss) (port_writes (taken_out st ms m))
          told false e = ap (λ (x : Lock). commit_values x (reserves_twice m ss) (port_writes (taken_out st ms m))) (sym (plain_is l e))
          told true e = shown_words (names m) (reserves_twice m ss) (commits m) ∙ g e

      later : (i : ℕ)
          → all_words (reserves_twice (m + suc i) ss) (commits (m + suc i))
          ≡ commit_values (slice_index_or xs i plain_mem).lock (reserves_twice (m + suc i) ss) (port_writes (taken_out st ms (m + suc i)))
          → all_words (reserves_twice (suc m + i) ss) (commits (suc m + i))
          ≡ commit_values (slice_index_or xs i plain_mem).lock (reserves_twice (suc m + i) ss) (port_writes (taken_out st ms (suc m + i)))
      later i e = let z : m + suc i ≡ suc m + i = omega arith in
          subst
          (λ j. all_words (reserves_twice j ss) (commits j)
          ≡ commit_values (slice_index_or xs i plain_mem).lock (reserves_twice j ss) (port_writes (taken_out st ms j)))
          z e

-- the signals of a lock's commits have the values of what the machine commits
pub commit_laid : (p : Pipe) (names : ℕ → List ℕ) (ls : Locks) (vs : ℕ → View) (gates : Gates) (moves : ℕ → Signal)
    (c : Circuit) (laid : IsLaid p ls vs gates moves c) (s : State) (st : machine.State) (bits : List Bool)
    → StandsFor p ls vs s st → IsServed p st bits → IsByStages p st bits
    → ((j : ℕ) → j < length p.stages → IsSeen p vs moves s st bits j)
    → ((k : ℕ) (t : Thread) → here p st bits k ≡ Some t → Stood st k t) → IsSquashed p ls vs gates s st bits → (m : ℕ)
    → is_locked p m ≡ true
    → all_words names s st (reserves_twice m p.stmts) (laid.commits m)
    ≡ commit_values (mem_at p m).lock (reserves_twice m p.stmts) (port_writes (taken_out st (moving p st bits) m))
commit_laid p names ls vs gates moves c laid s st bits stands used by seen stood squashed m e =
    let x = laid.locks m e in
    let wide = λ (k : ℕ) (l : k < length p.stages). (laid.stages k l).tickets_wide m e in
    let twice = reserves_twice m p.stmts in
    let ws = port_writes (taken_out st (moving p st bits) m) in
    ap₂ (λ a b. a ++ (if twice then b else []))
    (commit_is p ls vs moves s st bits by used seen stood m e (stands.locks m e) gates squashed x.kind wide (laid.owns m) c (laid.commits m).first x.step)
    (commit2_is p ls vs moves s st bits by used seen stood m e (stands.locks m e) gates squashed x.kind wide (laid.commits m).second x.second)
    ∙ sym (commit_as (ls.kind m) (ls.size m) (mem_at p m).lock twice ws x.kind)
