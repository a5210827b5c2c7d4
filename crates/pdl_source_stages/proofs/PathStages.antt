-- On each path the stages visited are 0 and then those begun by the separators of that path, in text order.
use Rattle.std.proofs.Common.{◌≡◌, refl, sym, ap, ap₂, ◌∙◌, ℕ, zero, suc, ◌+◌, ◌-◌, ◌≤◌, Bool, true, false, ◌&&◌, ◌||◌, List, [], ◌∷◌, ◌++◌, length, length-append, append_assoc, append-nil, Option, Some, None, arith, if◌then◌else◌, ◌==◌, slice_index}
use Rattle.std.proofs.lemmas.Bool.{and_parts}
use Rattle.pdl_semantics.specs.Tree.{Stmt, Separator, If, Stmts, Nil, Cons, Mem, Pipe}
use Rattle.pdl_semantics.specs.Flat
use Rattle.pdl_semantics.specs.Flatten.{with_guard, past, at_otherwise, guard_of, separators_in, separators, entry, side, at_start, flat}
use Rattle.pdl_semantics.specs.Flatten
use Rattle.pdl_semantics.specs.Stages.{stage_at, goes_to}
use Rattle.pdl_rules.specs.Refusal.{KeepsRules}
use Rattle.pdl_source_stages.specs.Visits.{onward, visited_stages, begun_in, begun_by}
use Rattle.pdl_source_stages.proofs.Walks.{guard_begun, past_begun, past_all_begun}
use Rattle.pdl_source_stages.proofs.Shapes.{is_whole, is_forked, is_late, begins_stage, Side, Straight, Runs, long, merge_at, side_leads, shape, side_shape, long_is}
use Rattle.pdl_source_stages.proofs.Spots.{Groups, Sides}
use Rattle.pdl_source_stages.proofs.BodyShape.{body_forked, body_groups, stage_count}
use Rattle.pdl_source_stages.proofs.SiteStages.{none_of_whole, fitting, rest_shape, either_shape}

-- STATEMENTS

-- statements that begin no stage
mutual
  none_begun_in : (env : List ℕ) (ms : List Mem) (s : Stmt) (w : Flatten.Position) → separators_in s ≡ 0 → begun_in env ms s w ≡ []
  none_begun_in env ms (Separator sp) w e = absurd (omega arith)
  none_begun_in env ms (If sp c when otherwise) w e =
      at (slice_index env (guard_of w.vars c) == 1) (none_begun env ms when (with_guard c w) (omega arith))
      (none_begun env ms otherwise (at_otherwise ms c when w) (omega arith))
    where
      at : (b : Bool) → begun_by env ms when (with_guard c w) ≡ []
          → begun_by env ms otherwise (at_otherwise ms c when w) ≡ []
          → (if b then begun_by env ms when (with_guard c w) else begun_by env ms otherwise (at_otherwise ms c when w)) ≡ []
      at true f g = f
      at false f g = g
  none_begun_in env ms _ w e = refl

  none_begun : (env : List ℕ) (ms : List Mem) (ss : Stmts) (w : Flatten.Position) → separators ss ≡ 0 → begun_by env ms ss w ≡ []
  none_begun env ms Nil w e = refl
  none_begun env ms (Cons s ss) w e = ap₂ (λ a b. a ++ b) (none_begun_in env ms s w (omega arith)) (none_begun env ms ss (past ms s w) (omega arith))

mutual
  -- a path begins no more stages in a statement than it has separators
  few_in : (env : List ℕ) (ms : List Mem) (s : Stmt) (w : Flatten.Position) → length (begun_in env ms s w) ≤ separators_in s
  few_in env ms (Separator sp) w = omega arith
  few_in env ms (If sp c when otherwise) w =
      at (slice_index env (guard_of w.vars c) == 1) (few_by env ms when (with_guard c w)) (few_by env ms otherwise (at_otherwise ms c when w))
    where
      at : (b : Bool) → length (begun_by env ms when (with_guard c w)) ≤ separators when
          → length (begun_by env ms otherwise (at_otherwise ms c when w)) ≤ separators otherwise
          → length (if b then begun_by env ms when (with_guard c w) else begun_by env ms otherwise (at_otherwise ms c when w))
          ≤ separators_in (If sp c when otherwise)
      at true f g = omega arith
      at false f g = omega arith
  few_in env ms _ w = omega arith

  few_by : (env : List ℕ) (ms : List Mem) (ss : Stmts) (w : Flatten.Position) → length (begun_by env ms ss w) ≤ separators ss
  few_by env ms Nil w = omega arith
  few_by env ms (Cons s ss) w =
      let f = few_in env ms s w in
      let g = few_by env ms ss (past ms s w) in
      let e = length-append (begun_in env ms s w) (begun_by env ms ss (past ms s w)) in
      omega arith

-- THE STAGES

-- a branch leads to the stage that it enters
entry_goes : (m j : ℕ) (sd : Side) (env : List ℕ) → Some (entry (side_leads (Flat.Goes m) j sd)) ≡ goes_to (side_leads (Flat.Goes m) j sd) env
entry_goes m j Straight env = refl
entry_goes m j (Runs sh) env = refl

mutual
  -- from stage k on a path visits the stages that its separators begin in these statements, and then what the last one leads to
  visits_from : (p : Flat.Pipe) (env : List ℕ) (ms : List Mem) (d : List Flat.Branch) (exit : Flat.Next) (k : ℕ) (merges : Option ℕ)
      (w : Flatten.Position) (ss : Stmts)
      → w.begun ≡ k → is_forked ss ≡ true → Groups p d exit k merges (shape ms ss w) → (fuel rest : ℕ) → fuel ≡ length (begun_by env ms ss w) + rest
      → visited_stages p env (suc fuel) k ≡ k ∷ (begun_by env ms ss w ++ onward (visited_stages p env rest) (goes_to exit env))
  visits_from p env ms d exit k merges w Nil i h g fuel rest f =
      ap (λ (y : Flat.Stage). k ∷ onward (visited_stages p env fuel) (goes_to y.next env)) g
      ∙ ap (λ n. k ∷ onward (visited_stages p env n) (goes_to exit env)) (let z : fuel ≡ rest = omega arith in z)
  visits_from p env ms d exit k merges w (Cons (Separator sp) ss) i h g zero rest f = absurd (omega arith)
  visits_from p env ms d exit k merges w (Cons (Separator sp) ss) i h g (suc fuel) rest f =
      ap (λ (y : Flat.Stage). k ∷ onward (visited_stages p env (suc fuel)) (goes_to y.next env)) g.0
      ∙ ap (λ r. k ∷ r)
      (visits_from p env ms d exit (suc k) None (past ms (Separator sp) w) ss (ap suc i) h g.1 fuel rest (omega arith)
      ∙ ap (λ n. suc n ∷ (begun_by env ms ss (past ms (Separator sp) w) ++ onward (visited_stages p env rest) (goes_to exit env))) (sym i))
  visits_from p env ms d exit k merges w (Cons (If sp c when otherwise) (Cons (Separator sq) ss)) i h g fuel rest f =
      at (is_whole when otherwise) refl parts.0 g
      (λ j merge e shapes n r q. visits_from p env ms d exit j merge (past ms (Separator sq) (past ms (If sp c when otherwise) w)) ss e parts.1 shapes n r q)
      (λ j m e late sides n r q. visits_side p env ms (side k true ∷ d) (Flat.Goes m) j (with_guard c w) when e late sides n r q)
      (λ j m e late sides n r q. visits_side p env ms (side k false ∷ d) (Flat.Goes m) j (at_otherwise ms c when w) otherwise e late sides n r q)
    where
      parts : ((is_whole when otherwise || (true && (is_late when && is_late otherwise))) ≡ true) × (is_forked ss ≡ true)
      parts = and_parts (is_whole when otherwise || (true && (is_late when && is_late otherwise))) (is_forked ss) h

      begun : (past ms (If sp c when otherwise) w).begun ≡ w.begun + (separators when + separators otherwise)
      begun = past_begun ms (If sp c when otherwise) w

      -- how many stages these are
      many : length (begun_by env ms (Cons (If sp c when otherwise) (Cons (Separator sq) ss)) w)
          ≡ length (begun_in env ms (If sp c when otherwise) w) + suc
          (length (begun_by env ms ss (past ms (Separator sq) (past ms (If sp c when otherwise) w))))
      many = length-append (begun_in env ms (If sp c when otherwise) w)
          (suc (past ms (If sp c when otherwise) w).begun ∷ begun_by env ms ss (past ms (Separator sq) (past ms (If sp c when otherwise) w)))

      at : (b : Bool) → is_whole when otherwise ≡ b → (b || (true && (is_late when && is_late otherwise))) ≡ true
          → Groups p d exit k merges (either_shape ms sp c when otherwise sq ss w b)
          → ((j : ℕ) (merge : Option ℕ) → suc (past ms (If sp c when otherwise) w).begun ≡ j
          → Groups p d exit j merge (rest_shape ms sp c when otherwise sq ss w) → (n r : ℕ)
          → n ≡ length (begun_by env ms ss (past ms (Separator sq) (past ms (If sp c when otherwise) w))) + r
          → visited_stages p env (suc n) j
          ≡ j ∷ (begun_by env ms ss (past ms (Separator sq) (past ms (If sp c when otherwise) w)) ++ onward (visited_stages p env r) (goes_to exit env)))
          →
          ((j m : ℕ) → (with_guard c w).begun ≡ j → is_late when
          ≡ true → Sides p (side k true ∷ d) (Flat.Goes m) j (side_shape ms when (with_guard c w)) → (n r : ℕ)
          → n ≡ length (begun_by env ms when (with_guard c w)) + r
          → onward (visited_stages p env n) (goes_to (side_leads (Flat.Goes m) j (side_shape ms when (with_guard c w))) env)
          ≡ begun_by env ms when (with_guard c w) ++ visited_stages p env r m)
          →
          ((j m : ℕ) → (at_otherwise ms c when w).begun ≡ j → is_late otherwise
          ≡ true → Sides p (side k false ∷ d) (Flat.Goes m) j (side_shape ms otherwise (at_otherwise ms c when w)) → (n r : ℕ)
          → n ≡ length (begun_by env ms otherwise (at_otherwise ms c when w)) + r
          → onward (visited_stages p env n) (goes_to (side_leads (Flat.Goes m) j (side_shape ms otherwise (at_otherwise ms c when w))) env)
          ≡ begun_by env ms otherwise (at_otherwise ms c when w) ++ visited_stages p env r m)
          → visited_stages p env (suc fuel) k
          ≡ k ∷ (begun_by env ms (Cons (If sp c when otherwise) (Cons (Separator sq) ss)) w ++ onward (visited_stages p env rest) (goes_to exit env))
      at true whole fits g more one two = turn fuel f
        where
          none : separators when + separators otherwise ≡ 0
          none = none_of_whole when otherwise whole

          nothing : begun_in env ms (If sp c when otherwise) w ≡ []
          nothing = none_begun_in env ms (If sp c when otherwise) w none

          here : suc k ≡ suc (past ms (If sp c when otherwise) w).begun
          here = let a = begun in let b = none in omega arith

          turn : (n : ℕ) → n ≡ length (begun_by env ms (Cons (If sp c when otherwise) (Cons (Separator sq) ss)) w) + rest
              → visited_stages p env (suc n) k
              ≡ k ∷ (begun_by env ms (Cons (If sp c when otherwise) (Cons (Separator sq) ss)) w ++ onward (visited_stages p env rest) (goes_to exit env))
          turn zero m = absurd (let a = many in omega arith)
          turn (suc n) m =
              let a = many in
              let b = ap length nothing in
              let z : length {A = ℕ} [] ≡ 0 = refl in
              ap (λ (y : Flat.Stage). k ∷ onward (visited_stages p env (suc n)) (goes_to y.next env)) g.0
              ∙ ap (λ r. k ∷ r)
              (more (suc k) None (sym here) g.1 n rest (omega arith)
              ∙ ap
              (λ q. q ∷ (begun_by env ms ss (past ms (Separator sq) (past ms (If sp c when otherwise) w))
              ++ onward (visited_stages p env rest) (goes_to exit env)))
              here
              ∙ ap
              (λ r. (r
              ++ (suc (past ms (If sp c when otherwise) w).begun ∷ begun_by env ms ss (past ms (Separator sq) (past ms (If sp c when otherwise) w))))
              ++ onward (visited_stages p env rest) (goes_to exit env)) (sym nothing))
      at false some fits g more one two = turn (slice_index env (guard_of w.vars c) == 1) refl
        where
          late : (is_late when ≡ true) × (is_late otherwise ≡ true)
          late = and_parts (is_late when) (is_late otherwise) fits

          l1 : long (side_shape ms when (with_guard c w)) ≡ separators when
          l1 = long_is ms when (with_guard c w) late.0

          l2 : long (side_shape ms otherwise (at_otherwise ms c when w)) ≡ separators otherwise
          l2 = long_is ms otherwise (at_otherwise ms c when w) late.1

          merged : (merge_at k (long (side_shape ms when (with_guard c w))) (long (side_shape ms otherwise (at_otherwise ms c when w))))
              ≡ suc (past ms (If sp c when otherwise) w).begun
          merged = let a = begun in let x = l1 in let y = l2 in omega arith

          -- from the merge on
          on : (n : ℕ) → n ≡ suc (length (begun_by env ms ss (past ms (Separator sq) (past ms (If sp c when otherwise) w)))) + rest
              → visited_stages p env n (merge_at k (long (side_shape ms when (with_guard c w))) (long (side_shape ms otherwise (at_otherwise ms c when w))))
              ≡ suc (past ms (If sp c when otherwise) w).begun
              ∷ (begun_by env ms ss (past ms (Separator sq) (past ms (If sp c when otherwise) w)) ++ onward (visited_stages p env rest) (goes_to exit env))
          on zero m = absurd (omega arith)
          on (suc n) m =
              more (merge_at k (long (side_shape ms when (with_guard c w))) (long (side_shape ms otherwise (at_otherwise ms c when w)))) (Some k)
              (sym merged) g.4 n rest (omega arith)
              ∙ ap
              (λ q. q ∷ (begun_by env ms ss (past ms (Separator sq) (past ms (If sp c when otherwise) w))
              ++ onward (visited_stages p env rest) (goes_to exit env)))
              merged

          -- the stages of the branch that is taken
          taken : (b : Bool) → (slice_index env (guard_of w.vars c) == 1) ≡ b
              → begun_in env ms (If sp c when otherwise) w ≡ (if b then begun_by env ms when (with_guard c w) else begun_by env ms otherwise
              (at_otherwise ms c when w))
          taken b v = ap (λ t. if t then begun_by env ms when (with_guard c w) else begun_by env ms otherwise (at_otherwise ms c when w)) v

          through : (b : Bool) → (slice_index env (guard_of w.vars c) == 1) ≡ b → (n r : ℕ) → n ≡ length (begun_in env ms (If sp c when otherwise) w) + r
              → onward (visited_stages p env n) (goes_to (stage_at p k).next env) ≡ begun_in env ms (If sp c when otherwise) w
              ++ visited_stages p env r (merge_at k (long (side_shape ms when (with_guard c w)))
              (long (side_shape ms otherwise (at_otherwise ms c when w))))
          through true v n r q =
              let z = ap length (taken true v) in
              let b1 = guard_begun c w in
              ap (λ (y : Flat.Stage). onward (visited_stages p env n) (goes_to y.next env)) g.0
              ∙ ap
              (λ t. onward (visited_stages p env n)
              (Some
              (if t then entry (side_leads
              (Flat.Goes (merge_at k (long (side_shape ms when (with_guard c w))) (long (side_shape ms otherwise (at_otherwise ms c when w))))) k
              (side_shape ms when (with_guard c w)))
              else entry
              (side_leads (Flat.Goes (merge_at k (long (side_shape ms when (with_guard c w))) (long (side_shape ms otherwise (at_otherwise ms c when w)))))
              (k + long (side_shape ms when (with_guard c w))) (side_shape ms otherwise (at_otherwise ms c when w)))))) v
              ∙ ap (onward (visited_stages p env n))
              (entry_goes (merge_at k (long (side_shape ms when (with_guard c w))) (long (side_shape ms otherwise (at_otherwise ms c when w)))) k
              (side_shape ms when (with_guard c w)) env)
              ∙ one k (merge_at k (long (side_shape ms when (with_guard c w))) (long (side_shape ms otherwise (at_otherwise ms c when w))))
              (omega arith) late.0 g.2 n r (omega arith)
              ∙ ap
              (λ l. l ++ visited_stages p env r
              (merge_at k (long (side_shape ms when (with_guard c w))) (long (side_shape ms otherwise (at_otherwise ms c when w))))) (sym (taken true v))
          through false v n r q =
              let z = ap length (taken false v) in
              let b1 = guard_begun c w in
              let b2 = past_all_begun ms when (with_guard c w) in
              let x = l1 in
              ap (λ (y : Flat.Stage). onward (visited_stages p env n) (goes_to y.next env)) g.0
              ∙ ap
              (λ t. onward (visited_stages p env n)
              (Some
              (if t then entry (side_leads
              (Flat.Goes (merge_at k (long (side_shape ms when (with_guard c w))) (long (side_shape ms otherwise (at_otherwise ms c when w))))) k
              (side_shape ms when (with_guard c w)))
              else entry
              (side_leads (Flat.Goes (merge_at k (long (side_shape ms when (with_guard c w))) (long (side_shape ms otherwise (at_otherwise ms c when w)))))
              (k + long (side_shape ms when (with_guard c w))) (side_shape ms otherwise (at_otherwise ms c when w)))))) v
              ∙ ap (onward (visited_stages p env n))
              (entry_goes (merge_at k (long (side_shape ms when (with_guard c w))) (long (side_shape ms otherwise (at_otherwise ms c when w))))
              (k + long (side_shape ms when (with_guard c w))) (side_shape ms otherwise (at_otherwise ms c when w)) env)
              ∙ two (k + long (side_shape ms when (with_guard c w)))
              (merge_at k (long (side_shape ms when (with_guard c w))) (long (side_shape ms otherwise (at_otherwise ms c when w)))) (omega arith) late.1 g.3 n r
              (omega arith)
              ∙ ap
              (λ l. l ++ visited_stages p env r
              (merge_at k (long (side_shape ms when (with_guard c w))) (long (side_shape ms otherwise (at_otherwise ms c when w))))) (sym (taken false v))

          turn : (b : Bool) → (slice_index env (guard_of w.vars c) == 1) ≡ b
              → visited_stages p env (suc fuel) k
              ≡ k ∷ (begun_by env ms (Cons (If sp c when otherwise) (Cons (Separator sq) ss)) w ++ onward (visited_stages p env rest) (goes_to exit env))
          turn b v =
              let a = many in
              ap (λ r. k ∷ r)
              (through b v fuel (suc (length (begun_by env ms ss (past ms (Separator sq) (past ms (If sp c when otherwise) w)))) + rest) (omega arith)
              ∙ ap (λ l. begun_in env ms (If sp c when otherwise) w ++ l)
              (on (suc (length (begun_by env ms ss (past ms (Separator sq) (past ms (If sp c when otherwise) w)))) + rest) refl)
              ∙ sym
              (append_assoc (begun_in env ms (If sp c when otherwise) w)
              (suc (past ms (If sp c when otherwise) w).begun ∷ begun_by env ms ss (past ms (Separator sq) (past ms (If sp c when otherwise) w)))
              (onward (visited_stages p env rest) (goes_to exit env))))
  visits_from p env ms d exit k merges w (Cons (If sp c when otherwise) ss) i h g fuel rest f =
      let parts = and_parts (is_whole when otherwise || (begins_stage ss && (is_late when && is_late otherwise))) (is_forked ss) h in
      let none = none_of_whole when otherwise (fitting when otherwise ss refl (is_whole when otherwise) parts.0) in
      let b = past_begun ms (If sp c when otherwise) w in
      let nothing = none_begun_in env ms (If sp c when otherwise) w none in
      let e = ap (λ l. length (l ++ begun_by env ms ss (past ms (If sp c when otherwise) w))) nothing in
      visits_from p env ms d exit k merges (past ms (If sp c when otherwise) w) ss (omega arith) parts.1 g fuel rest (omega arith)
      ∙ ap (λ r. k ∷ ((r ++ begun_by env ms ss (past ms (If sp c when otherwise) w)) ++ onward (visited_stages p env rest) (goes_to exit env))) (sym nothing)
  visits_from p env ms d exit k merges w (Cons s ss) i h g fuel rest f = visits_from p env ms d exit k merges (past ms s w) ss i h g fuel rest f

  -- through a branch a path visits the stages that its separators begin there, and then what the branch leads to
  visits_side : (p : Flat.Pipe) (env : List ℕ) (ms : List Mem) (d : List Flat.Branch) (exit : Flat.Next) (j : ℕ) (w : Flatten.Position) (ss : Stmts)
      → w.begun ≡ j → is_late ss ≡ true → Sides p d exit j (side_shape ms ss w) → (fuel rest : ℕ) → fuel ≡ length (begun_by env ms ss w) + rest
      → onward (visited_stages p env fuel) (goes_to (side_leads exit j (side_shape ms ss w)) env)
      ≡ begun_by env ms ss w ++ onward (visited_stages p env rest) (goes_to exit env)
  visits_side p env ms d exit j w Nil i h g fuel rest f = ap (λ n. onward (visited_stages p env n) (goes_to exit env)) (let z : fuel ≡ rest = omega arith in z)
  visits_side p env ms d exit j w (Cons (Separator sp) ss) i h g zero rest f = absurd (omega arith)
  visits_side p env ms d exit j w (Cons (Separator sp) ss) i h g (suc fuel) rest f =
      visits_from p env ms d exit (suc j) None (past ms (Separator sp) w) ss (ap suc i) h g fuel rest (omega arith)
      ∙ ap (λ n. suc n ∷ (begun_by env ms ss (past ms (Separator sp) w) ++ onward (visited_stages p env rest) (goes_to exit env))) (sym i)
  visits_side p env ms d exit j w (Cons (If sp c when otherwise) ss) i h g fuel rest f =
      let parts = and_parts (is_whole when otherwise) (is_late ss) h in
      let none = none_of_whole when otherwise parts.0 in
      let b = past_begun ms (If sp c when otherwise) w in
      let nothing = none_begun_in env ms (If sp c when otherwise) w none in
      let e = ap (λ l. length (l ++ begun_by env ms ss (past ms (If sp c when otherwise) w))) nothing in
      visits_side p env ms d exit j (past ms (If sp c when otherwise) w) ss (omega arith) parts.1 g fuel rest (omega arith)
      ∙ ap (λ r. (r ++ begun_by env ms ss (past ms (If sp c when otherwise) w)) ++ onward (visited_stages p env rest) (goes_to exit env)) (sym nothing)
  visits_side p env ms d exit j w (Cons s ss) i h g fuel rest f = visits_side p env ms d exit j (past ms s w) ss i h g fuel rest f

-- a path visits stage 0 and then the stages that the separators on it begin
pub visits_all : (p : Pipe) → KeepsRules p → (env : List ℕ)
    → visited_stages (flat p) env (length (flat p).stages) 0 ≡ 0 ∷ begun_by env p.mems p.body (at_start p)
visits_all p rules env =
    let few = few_by env p.mems p.body (at_start p) in
    ap (λ n. visited_stages (flat p) env n 0) (stage_count p (body_forked p rules))
    ∙ visits_from (flat p) env p.mems [] Flat.Ends 0 None (at_start p) p.body refl (body_forked p rules)
    (body_groups p (body_forked p rules)) (separators p.body) (separators p.body - length (begun_by env p.mems p.body (at_start p))) (omega arith)
    ∙ ap (λ l. 0 ∷ l) (append-nil (begun_by env p.mems p.body (at_start p)))
