-- A pipe that keeps the rules has at most 16 memories, and a path reserves one for writing at most twice.
use Rattle.std.proofs.Common.{◌≡◌, ◌≢◌, refl, sym, ap, ◌∙◌, subst, ℕ, ◌+◌, ◌<◌, ◌≤◌, true, List, [], ◌∷◌, ◌++◌, map, length, append_assoc, arith}
use Rattle.std.specs.Prelude.{count_by}
use Rattle.std.proofs.lemmas.Bool.{eqb-false}
use Rattle.pdl_kit.specs.declared.rule.Rule.TheVariants.{Z4}
use Rattle.pdl_semantics.specs.Tree.{Param, Mem, Pipe}
use Rattle.pdl_semantics.specs.Flatten.{mems_of, flat}
use Rattle.pdl_rules.specs.Places.{Place, Parameter, Memory, statements, places}
use Rattle.pdl_rules.specs.Limits.{is_memory}
use Rattle.pdl_rules.specs.Refusal.{KeepsRules}
use Rattle.pdl_rules.proofs.Counts.{count_push, count_cons}
use Rattle.pdl_rules.proofs.EachPlace.{closing}
use Rattle.pdl_form_types.proofs.VariableFacts.{by_params}
use Rattle.pdl_source_paths.specs.Source.{is_source}
use Rattle.pdl_source_paths.proofs.Memories.{mems_length}
use Rattle.pdl_source_paths.proofs.PathTests.{few_ok}
use Rattle.pdl_semantics.specs.Stages.{onpath}
use Rattle.pdl_theory_turns.specs.Scans.{write_reserves}
use Rattle.pdl_seq.proofs.LookedReserves.{looked_reserves}

no_params : (ps : List Param) → count_by is_memory (map Parameter ps) ≡ 0
no_params [] = refl
no_params (a ∷ ps) = let one = count_cons is_memory (Parameter a) (map Parameter ps) in let rest = no_params ps in omega arith

module _ (p : Pipe) (rules : KeepsRules p) where
  few_from : (ms : List Mem) (before later : List Place) (k : ℕ) → places p ≡ before ++ (map Memory ms ++ later)
      → count_by is_memory before ≡ k → k ≤ 16 → k + length ms ≤ 16
  few_from [] before later k e n h = omega arith
  few_from (m ∷ ms) before later k e n h =
      let not_full : count_by is_memory before ≢ 16 = eqb-false _ 16 (rules Z4 before (Memory m) _ e) in
      let one : count_by is_memory (before ++ Memory m ∷ []) ≡ k + 1 = count_push is_memory before (Memory m) ∙ ap (λ i. i + 1) n in
      let rest : k + 1 + length ms ≤ 16 =
      few_from ms (before ++ Memory m ∷ []) later (k + 1) (e ∙ sym (append_assoc before (Memory m ∷ []) (map Memory ms ++ later))) one (omega arith) in
      omega arith

  -- the flat form of a pipe that breaks no rule has at most 16 memories
  pub few_mems : length (mems_of p.mems) ≤ 16
  few_mems =
      let same = mems_length p.mems in
      let few : 0 + length p.mems ≤ 16 =
      few_from p.mems (map Parameter p.params) (statements [] p.body ++ closing p) 0 (by_params p rules) (no_params p.params) (omega arith) in
      omega arith

  -- a path of it reserves a memory for writing at most twice
  pub two_writes : is_source p ≡ true → (path : List ℕ) (m : ℕ) → m < length (flat p).mems → write_reserves m (onpath path (flat p).stmts) ≤ 2
  two_writes source path m low =
      subst (λ n. n ≤ 2) (looked_reserves path m (flat p).stmts) (few_ok p rules source path m (subst (λ n. m < n) (mems_length p.mems) low))
