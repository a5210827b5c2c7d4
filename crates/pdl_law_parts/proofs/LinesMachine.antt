-- The ports of the machine: how many, that a memory commits at most two writes, or one, and one without lock none.
use Rattle.std.proofs.Common.{◌≡◌, refl, sym, ap, ◌∙◌, subst, ℕ, zero, suc, ◌+◌, ◌<◌, ◌≤◌, Bool, false, List, [], ◌∷◌, length, take, arith}
use Rattle.std.specs.Prelude.{⊤, slice_index_or, if◌then◌else◌}
use Rattle.pdl_semantics.specs.Flat
use Rattle.pdl_semantics.specs.Flat.{has_lock}
use Rattle.pdl_semantics.specs.Stages.{mem_at, plain_mem}
use Rattle.pdl_semantics.specs.Machine.{State, Pending}
use Rattle.pdl_semantics.specs.Cycle.{PortWrite, all_releases, list_two, taken_out, port_writes, for_mems, for_stages, Ports}
use Rattle.pdl_semantics.specs.SecondWrites.{reserves_twice}
use Rattle.pdl_machine_facts.specs.Slots.{moving}
use Rattle.pdl_machine_facts.specs.Cycle.{ports_of, IsByStages}
use Rattle.pdl_law_parts.specs.Served.{IsServed, at_most}
use Rattle.pdl_lockapi.proofs.LockKinds.{plain_is}

-- what each memory commits: one without lock nothing, and others at most two writes, and one where no path reserves the memory twice; the first has the number k
abbrev pub AreCommits : List Flat.Stmt → ℕ → List Flat.Mem → List (List PortWrite) → Type 0
AreCommits ss k [] [] = ⊤
AreCommits ss k (m ∷ ms) (e ∷ es) =
    (has_lock m.lock ≡ false → e ≡ []) × (length e ≤ (if reserves_twice k ss then 2 else 1)) × AreCommits ss (suc k) ms es
AreCommits ss k _ _ = ⊥

-- as many ports as stages, and such commits
pub record IsShaped (q : Flat.Pipe) (o : Ports) : Type 0 where
  pub valid : length o.valid ≡ length q.stages
  pub moves : length o.moves ≡ length q.stages
  pub commits : AreCommits q.stmts 0 q.mems o.commits

stages_long : {X : Type 0} (f : ℕ → X) (k : ℕ) (xs : List Flat.Stage) → length (for_stages f k xs) ≡ length xs
stages_long f k [] = refl
stages_long f k (x ∷ xs) = ap suc (stages_long f (suc k) xs)

commits_from : (ss : List Flat.Stmt) (f : ℕ → List PortWrite) (k : ℕ) (ms : List Flat.Mem)
    → ((i : ℕ) → has_lock (slice_index_or ms i plain_mem).lock ≡ false → f (k + i) ≡ [])
    → ((i : ℕ) → i < length ms → length (f (k + i)) ≤ (if reserves_twice (k + i) ss then 2 else 1))
    → AreCommits ss k ms (for_mems f k ms)
commits_from ss f k [] h g = tt
commits_from ss f k (m ∷ ms) h g =
    let P : ℕ → Type 0 = λ n. length (f n) ≤ (if reserves_twice n ss then 2 else 1) in (
      λ e. let here : k ≡ k + 0 = omega arith in ap f here ∙ h 0 e,
      (let here : k + 0 ≡ k = omega arith in subst P here (g 0 (omega arith))),
      commits_from ss f (suc k) ms (λ i e. let next : suc k + i ≡ k + suc i = omega arith in ap f next ∙ h (suc i) e)
          (λ i l. let next : k + suc i ≡ suc k + i = omega arith in subst P next (g (suc i) (omega (arith, l)))),
    )

writes_long : (k : ℕ) (es : List Pending) → length (port_writes (take k es)) ≤ k
writes_long zero es = omega arith
writes_long (suc k) [] = omega arith
writes_long (suc k) (e ∷ es) = let h = writes_long k es in omega (arith, h)

-- the ports of a cycle are as many as stages, a memory commits at most two writes, or one, and one without lock none
pub shaped : (q : Flat.Pipe) (st : State) (bits : List Bool) → IsByStages q st bits → IsServed q st bits → IsShaped q (ports_of q st bits)
shaped q st bits by used = record {
  valid = stages_long _ 0 q.stages;
  moves = stages_long _ 0 q.stages;
  commits =
      subst (AreCommits q.stmts 0 q.mems) (sym by.commits)
      (commits_from q.stmts (λ m. port_writes (taken_out st (moving q st bits) m)) 0 q.mems
      (λ i e. let z : 0 + i ≡ i = omega arith in
      ap port_writes
      (ap (taken_out st (moving q st bits)) z
      ∙ ap (λ k. take k (list_two st (moving q st bits) i)) (used.in_use.unreleased i (plain_is (mem_at q i).lock e))))
      (λ i l. let z : 0 + i ≡ i = omega arith in
      let long = writes_long (all_releases (0 + i) (moving q st bits)) (list_two st (moving q st bits) (0 + i)) in
      let few = subst (λ (n : ℕ). all_releases n (moving q st bits) ≤ at_most q n) (sym z) (used.released i l) in
      omega (arith, long, few)));
}
