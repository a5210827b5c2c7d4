-- A stage that merges a fork names a stage of the pipe.
use Rattle.std.proofs.Common.{◌≡◌, ℕ, zero, suc, ◌+◌, ◌≤◌, ◌<◌, ◌==◌, Bool, true, false, List, [], ◌∷◌, ◌++◌, length, slice_index_or, Some, if◌then◌else◌, arith}
use Rattle.pdl_word.specs.Each.{Each}
use Rattle.pdl_semantics.specs.Tree as tree
use Rattle.pdl_semantics.specs.Tree.{Separator, If, Stmt, Stmts, Nil, Cons, Mem}
use Rattle.pdl_semantics.specs.Flat.{Branch, Goes, Next, Stage}
use Rattle.pdl_semantics.specs.Flatten.{flat, Position, Graph, graph, graph_before, graph_with_fork, with_merge, side, guard_of, with_guard, at_otherwise, past, at_start, separators, separators_in}
use Rattle.pdl_semantics.specs.Flat as Flat
use Rattle.pdl_semantics.specs.Stages.{stage_at, last_stage}
use Rattle.pdl_rules.specs.Refusal.{KeepsRules}
use Rattle.pdl_source_stages.proofs.Walks.{guard_begun, guard_stage, past_begun, past_all_begun}
use Rattle.pdl_source_stages.proofs.BodyShape.{body_forked, stage_count}

-- where it merges a fork, that stands in stage n or before
abbrev IsLow : ℕ → Stage → Type 0
IsLow n x = (f : ℕ) → x.merges ≡ Some f → f ≤ n

both_low : (n : ℕ) (xs ys : List Stage) → Each (IsLow n) xs → Each (IsLow n) ys → Each (IsLow n) (xs ++ ys)
both_low n [] ys h g = g
both_low n (x ∷ xs) ys h g = (h.0, both_low n xs ys h.1 g)

merge_low : (n f : ℕ) (xs : List Stage) → f ≤ n → Each (IsLow n) xs → Each (IsLow n) (with_merge f xs)
merge_low n f [] l h = tt
merge_low n f (x ∷ xs) l h = (λ g e. let same : f ≡ g = cc e in omega (arith, l, same), h.1)

stage_past : (ms : List Mem) (s : Stmt) (w : Position) → w.stage ≤ w.begun → (past ms s w).stage ≤ (past ms s w).begun
stage_past ms (Separator _) w up = omega arith
stage_past ms (If sp c when otherwise) w up = let e = past_begun ms (If sp c when otherwise) w in omega (arith, e, up)
stage_past ms _ w up = up

mutual
  low_in : (n : ℕ) (ms : List Mem) (b : List Branch) (s : Stmt) (w : Position) (rest : Graph)
      → w.stage ≤ w.begun → w.begun + separators_in s ≤ n → Each (IsLow n) rest.later → Each (IsLow n) (graph_before ms b s w rest).later
  low_in n ms b (Separator _) w rest up high h = (λ f e. absurd (cc e), h)
  low_in n ms b (If sp c when otherwise) w rest up high h =
      let g = guard_begun c w in
      let k = guard_stage c w in
      let e = past_all_begun ms when (with_guard c w) in
      at (separators when + separators otherwise == 0)
      (low_all n ms (side w.stage true ∷ b) merge when (with_guard c w) (omega (arith, g, k, up)) (omega (arith, g, high)))
      (low_all n ms (side w.stage false ∷ b) merge otherwise (at_otherwise ms c when w) (omega (arith, e, g, up)) (omega (arith, e, g, high)))
    where
      merge : Next
      merge = Goes (suc (w.begun + separators when + separators otherwise))

      first : Graph
      first = graph ms (side w.stage true ∷ b) merge when (with_guard c w)

      second : Graph
      second = graph ms (side w.stage false ∷ b) merge otherwise (at_otherwise ms c when w)

      at : (t : Bool) → Each (IsLow n) first.later → Each (IsLow n) second.later
          → Each (IsLow n) (if t then rest else graph_with_fork w.stage (guard_of w.vars c) first second rest).later
      at true l r = h
      at false l r =
          both_low n (first.later ++ second.later) (with_merge w.stage rest.later) (both_low n first.later second.later l r)
          (merge_low n w.stage rest.later (omega (arith, up, high)) h)
  low_in n ms b _ w rest up high h = h

  low_all : (n : ℕ) (ms : List Mem) (b : List Branch) (exit : Next) (ss : Stmts) (w : Position)
      → w.stage ≤ w.begun → w.begun + separators ss ≤ n → Each (IsLow n) (graph ms b exit ss w).later
  low_all n ms b exit Nil w up high = tt
  low_all n ms b exit (Cons s ss) w up high =
      let e = past_begun ms s w in
      low_in n ms b s w (graph ms b exit ss (past ms s w)) up (omega (arith, high))
      (low_all n ms b exit ss (past ms s w) (stage_past ms s w up) (omega (arith, e, high)))

at_low : (n : ℕ) (xs : List Stage) (q : ℕ) → Each (IsLow n) xs → q < length xs → IsLow n (slice_index_or xs q last_stage)
at_low n [] q h l = absurd (omega arith)
at_low n (x ∷ xs) zero h l = h.0
at_low n (x ∷ xs) (suc q) h l = at_low n xs q h.1 (omega (arith, l))

-- the fork that a stage merges is a stage of the pipe, where the pipe breaks no rule
pub merged_low : (p : tree.Pipe) → KeepsRules p → (q i : ℕ)
    → q < length (flat p).stages → (stage_at (flat p) q).merges ≡ Some i → i < length (flat p).stages
merged_low p rules q i low e =
    let n = separators p.body in
    let count = stage_count p (body_forked p rules) in
    let up = at_low n (flat p).stages q (
      λ f g. absurd (cc g),
      low_all n p.mems [] Flat.Ends p.body (at_start p) (let z : 0 ≤ 0 = omega arith in z)
          (let z : 0 + separators p.body ≤ n = omega arith in z),
    ) low i e in
    omega (arith, up, count)
