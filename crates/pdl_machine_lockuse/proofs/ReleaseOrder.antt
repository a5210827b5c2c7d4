-- On each path a memory is blocked, read and written no later than the stage of its releases; so what is released while that is to come is no younger.
use Rattle.std.proofs.Common.{◌≡◌, refl, sym, ap, ap₂, ◌∙◌, subst, ℕ, ◌≤◌, ◌<◌, Bool, true, false, ◌&&◌, ◌||◌, not, List, [], ◌∷◌, ◌++◌, length, ◌==◌, nat_lt, nat_le, cond, arith, eq-eqb, ltb-true, ltb-false, leb-true, le_refl, le-leb, le-ltb}
use Rattle.std.proofs.lemmas.Bool.{false≢true, eqb-true}
use Rattle.std.proofs.Math.Bool.{and-false}
use Rattle.pdl_semantics.specs.Flat.{Pipe, Op, CombRead, DelayedRead, Write, Block, Stmt, Expr, list_all, all_hold}
use Rattle.pdl_semantics.specs.Stages.{list_any, onpath, is_release, commit_stage}
use Rattle.pdl_semantics.specs.Machine.{State}
use Rattle.pdl_semantics.specs.Moves.{Act}
use Rattle.pdl_theory_turns.specs.Alone.{but_last, is_nil, before, answered_op}
use Rattle.pdl_theory_turns.specs.Scans.{after_write, no_guards, Phase, Fresh, next_phase, phase_all, is_over, Scan, no_scan, scan_after, op_ok, reads_ok, all_at, none_of}
use Rattle.pdl_theory_turns.specs.Facts.{Sound, looked_all, at_once}
use Rattle.pdl_theory_turns.specs.Accepted.{Accepted, along}
use Rattle.pdl_theory_turns.proofs.Writes.{and_left, and_right}
use Rattle.pdl_theory_turns.proofs.Looks.{path_looked}
use Rattle.pdl_theory_simulation.proofs.AcceptedFacts.{sound_flows}
use Rattle.pdl_theory_simulation.proofs.Shapes.{over_early}
use Rattle.pdl_machine_facts.specs.Use.{in_time}
use Rattle.pdl_theory_states.specs.Strict.{Strict, lets_go, all_let_go}
use Rattle.pdl_theory_states.specs.Use.{AllActs}
use Rattle.pdl_theory_states.proofs.Trails.{AllStmts, stmts_map}
use Rattle.pdl_machine_lockuse.specs.Use.{ReleasesOlder, UsesOlder, uses_mem}
use Rattle.pdl_machine_lockuse.proofs.Paths.{one}
use Rattle.pdl_semantics.specs.Sound.{stages_from}

-- THE ORDER OF A PATH

low_before : (s : ℕ) (xs : List Stmt) → AllStmts (λ z. z.stage < s) (before s xs)
low_before s [] = tt
low_before s (x ∷ xs) = at (nat_lt x.stage s) refl (low_before s xs)
  where
    at : (b : Bool) → nat_lt x.stage s ≡ b → AllStmts (λ z. z.stage < s) (before s xs)
        → AllStmts (λ z. z.stage < s) (cond b (record x { op = answered_op x.op } ∷ before s xs) (before s xs))
    at true e r = (ltb-true _ _ e, r)
    at false e r = r

high_from : (s : ℕ) (xs : List Stmt) → AllStmts (λ z. s ≤ z.stage) (stages_from s xs)
high_from s [] = tt
high_from s (x ∷ xs) = at (nat_le s x.stage) refl (high_from s xs)
  where
    at : (b : Bool) → nat_le s x.stage ≡ b → AllStmts (λ z. s ≤ z.stage) (stages_from s xs)
        → AllStmts (λ z. s ≤ z.stage) (cond b (x ∷ stages_from s xs) (stages_from s xs))
    at true e r = (leb-true _ _ e, r)
    at false e r = r

-- where all stand stages_from a stage on, none stands before it
none_before : (s : ℕ) (xs : List Stmt) → AllStmts (λ z. s ≤ z.stage) xs → (before s xs ≡ []) × (stages_from s xs ≡ xs)
none_before s [] h = (refl, refl)
none_before s (x ∷ xs) h =
    let r = none_before s xs h.1 in (
      ap₂ (λ b l. cond b (record x { op = answered_op x.op } ∷ l) l) (le-ltb x.stage s h.0) r.0,
      ap₂ (λ b l. cond b (x ∷ l) l) (le-leb s x.stage h.0) r.1,
    )

-- the statements after each stand no earlier
abbrev Rising : List Stmt → Type 0
Rising [] = Unit {0}
Rising (x ∷ xs) = AllStmts (λ z. x.stage ≤ z.stage) xs × Rising xs

abbrev Split : List Stmt → Type 0
Split xs = (s : ℕ) → xs ≡ before s xs ++ stages_from s xs

module _ (x : Stmt) (xs : List Stmt) (split : Split (x ∷ xs)) where
  tail_is : {a b : Stmt} {as' bs : List Stmt} → a ∷ as' ≡ b ∷ bs → as' ≡ bs
  tail_is e = cc

  head_is : {a b : Stmt} {as' bs : List Stmt} → a ∷ as' ≡ b ∷ bs → a ≡ b
  head_is e = cc

  behind : AllStmts (λ z. x.stage ≤ z.stage) xs
  behind = at (before x.stage xs) refl (low_before x.stage xs)
    where
      here : x ∷ xs ≡ before x.stage xs ++ x ∷ stages_from x.stage xs
      here =
          split x.stage
          ∙ ap₂
          (λ b c. cond b (record x { op = answered_op x.op } ∷ before x.stage xs) (before x.stage xs)
          ++ cond c (x ∷ stages_from x.stage xs) (stages_from x.stage xs))
          (le-ltb x.stage x.stage (le_refl x.stage)) (le-leb x.stage x.stage (le_refl x.stage))

      at : (l : List Stmt) → before x.stage xs ≡ l → AllStmts (λ z. z.stage < x.stage) l → AllStmts (λ z. x.stage ≤ z.stage) xs
      at [] e low = subst (AllStmts (λ z. x.stage ≤ z.stage)) (sym (tail_is (here ∙ ap (λ l. l ++ x ∷ stages_from x.stage xs) e))) (high_from x.stage xs)
      at (b ∷ bs) e low =
          let same : x.stage ≡ b.stage = ap (λ (z : Stmt). z.stage) (head_is (here ∙ ap (λ l. l ++ x ∷ stages_from x.stage xs) e)) in
          absurd (let i = low.0 in omega (arith, same, i))

  split_tail : Split xs
  split_tail s = at (nat_lt x.stage s) refl
    where
      at : (b : Bool) → nat_lt x.stage s ≡ b → xs ≡ before s xs ++ stages_from s xs
      at true e =
          let i = ltb-true _ _ e in
          tail_is
          (split s
          ∙ ap₂
          (λ b c. cond b (record x { op = answered_op x.op } ∷ before s xs) (before s xs) ++ cond c (x ∷ stages_from s xs) (stages_from s xs)) e
          (far i))
        where
          far : x.stage < s → nat_le s x.stage ≡ false
          far i = go (nat_le s x.stage) refl
            where
              go : (c : Bool) → nat_le s x.stage ≡ c → nat_le s x.stage ≡ false
              go true f = absurd (let j = leb-true _ _ f in omega (arith, i, j))
              go false f = f
      at false e =
          let r = none_before s xs (stmts_map (λ z i. let j = ltb-false _ _ e in let k = i in omega (arith, j, k)) xs behind) in
          sym (ap₂ (λ a b. a ++ b) r.0 r.1)

rising : (xs : List Stmt) → Split xs → Rising xs
rising [] split = tt
rising (x ∷ xs) split = (behind x xs split, rising xs (split_tail x xs split))

rising_looked : (xs : List Stmt) → Rising (looked_all xs) → Rising xs
rising_looked [] h = tt
rising_looked (x ∷ xs) h = (each x.stage xs h.0, rising_looked xs h.1)
  where
    each : (s : ℕ) (ys : List Stmt) → AllStmts (λ z. s ≤ z.stage) (looked_all ys) → AllStmts (λ z. s ≤ z.stage) ys
    each s [] k = tt
    each s (y ∷ ys) k = (k.0, each s ys k.1)

-- statements of stages past that of a memory's releases release it nowhere
none_late : (m c s : ℕ) (xs : List Stmt)
    → all_at (is_release m) c xs ≡ true → c < s → AllStmts (λ z. s ≤ z.stage) xs → none_of (is_release m) xs ≡ true
none_late m c s [] h low k = refl
none_late m c s (x ∷ xs) h low k =
    at (is_release m x.op) refl (and_left _ _ h) (none_late m c s xs (and_right (not (is_release m x.op) || (x.stage == c)) _ h) low k.1)
  where
    at : (b : Bool) → is_release m x.op ≡ b → (not (is_release m x.op) || (x.stage == c)) ≡ true → none_of (is_release m) xs ≡ true
        → (not (is_release m x.op) && none_of (is_release m) xs) ≡ true
    at true e i r =
        absurd (let same : x.stage ≡ c = eqb-true x.stage c (subst (λ b. (not b || (x.stage == c)) ≡ true) e i) in let j = k.0 in omega (arith, same, j, low))
    at false e i r = ap₂ (λ a b. not a && b) e r

-- IN TIME

module _ (p : Pipe) (sound : Sound p) (path : List ℕ) where
  accepted : Accepted (along path (at_once p))
  accepted = sound.pathwise.paths path

  plain_to : (m : ℕ) → Rattle.pdl_theory_turns.specs.Scans.is_plain (Rattle.pdl_semantics.specs.Stages.mem_at (along path (at_once p)) m).lock ≡ true
      → commit_stage p m ≡ length p.stages
  plain_to m e = accepted.plain_to m e

  all_early : (c : Scan) (ph : ℕ → Phase) (xs : List Stmt) → reads_ok (along path (at_once p)) c (looked_all xs) ≡ true → all_let_go xs ≡ true → Rising xs
      → ((m : ℕ) → all_at (is_release m) (commit_stage p m) xs ≡ true) → ((m : ℕ) → is_over (phase_all m (ph m) xs) ≡ true)
      → list_all (λ y. nat_lt y.stage (length p.stages)) xs ≡ true
      → list_all (λ (x : Stmt). in_time p x.stage (answered_op x.op)) xs ≡ true
  all_early c ph [] ok go r at over inside = refl
  all_early c ph (x ∷ xs) ok go r at over inside =
      let rest : (m : ℕ) → all_at (is_release m) (commit_stage p m) xs ≡ true =
      λ m. and_right (not (is_release m x.op) || (x.stage == commit_stage p m)) _ (at m) in
      let late : (m : ℕ) → commit_stage p m < x.stage → none_of (is_release m) xs ≡ true =
      λ m low. none_late m (commit_stage p m) x.stage xs (rest m) low r.0 in
      ap₂ (λ a b. a && b)
      (one p (along path (at_once p))
      (λ m. refl) x.stage (ltb-true _ _ (and_left _ _ inside)) plain_to c x.op xs (and_right (no_guards x.guards) _ (and_left _ _ ok))
      (and_left _ _ go) late
      (λ m a e w low. false≢true (left_open m a e w ∙ over_early m xs (next_phase m (ph m) x.op) (late m low) (over m))))
      (all_early (scan_after (answered_op x.op) c)
      (λ m. next_phase m (ph m) x.op) xs (and_right (no_guards x.guards && op_ok (along path (at_once p)) x.stage c (answered_op x.op)) _ ok)
      (and_right (lets_go x.op xs) _ go) r.1 rest over (and_right (nat_lt x.stage (length p.stages)) _ inside))
    where
      left_open : (m a : ℕ) (e : Expr) → x.op ≡ Write m a e → false ≡ is_over (next_phase m (ph m) x.op)
      left_open m a e w =
          sym
          (ap (λ o. is_over (next_phase m (ph m) o)) w ∙ ap (λ b. is_over (cond b (after_write (ph m) a) (ph m))) (eq-eqb m m refl)
          ∙ and-false (is_nil (but_last (ph m).unwritten)))

  all_path : (test : Stmt → Bool) → ((x : Stmt) → test (record x { guards = [] }) ≡ test x) → (xs : List Stmt) → list_all test xs ≡ true
      → list_all test (onpath path xs) ≡ true
  all_path test f [] h = refl
  all_path test f (x ∷ xs) h = at (all_hold x.guards path) (all_path test f xs (and_right (test x) _ h))
    where
      at : (b : Bool) → list_all test (onpath path xs) ≡ true → list_all test (cond b (record x { guards = [] } ∷ onpath path xs) (onpath path xs)) ≡ true
      at true r = ap₂ (λ a b. a && b) (f x ∙ and_left _ _ h) r
      at false r = r

  at_path : (m c : ℕ) (xs : List Stmt) → all_at (is_release m) c xs ≡ true → all_at (is_release m) c (onpath path xs) ≡ true
  at_path m c [] h = refl
  at_path m c (x ∷ xs) h = at (all_hold x.guards path) (at_path m c xs (and_right (not (is_release m x.op) || (x.stage == c)) _ h))
    where
      at : (b : Bool) → all_at (is_release m) c (onpath path xs) ≡ true
          → all_at (is_release m) c (cond b (record x { guards = [] } ∷ onpath path xs) (onpath path xs)) ≡ true
      at true r = ap₂ (λ a b. a && b) (and_left (not (is_release m x.op) || (x.stage == c)) _ h) r
      at false r = r

  -- each statement on the path blocks, reads or writes a memory no later than the stage of the memory's releases
  pub timely : Strict p → list_all (λ (x : Stmt). in_time p x.stage (answered_op x.op)) (onpath path p.stmts) ≡ true
  timely strict =
      all_early no_scan (λ m. Fresh) (onpath path p.stmts)
      (subst (λ xs. reads_ok (along path (at_once p)) no_scan xs ≡ true) (accepted.whole ∙ path_looked path p.stmts) (accepted.reads (length p.stages)))
      (strict.blocks path)
      (rising_looked (onpath path p.stmts) (subst Rising (path_looked path p.stmts) (rising (onpath path (looked_all p.stmts)) accepted.ordered)))
      (λ m. at_path m (commit_stage p m) p.stmts ((sound_flows p sound).releases m)) ((sound_flows p sound).over path)
      (all_path (λ y. nat_lt y.stage (length p.stages)) (λ x. refl) p.stmts sound.inside)

-- STILL TO COME

-- a statement to come that uses the memory tells that its releases are to come
to_come : (p : Pipe) (m s : ℕ) (xs : List Stmt) → list_all (λ (x : Stmt). in_time p x.stage (answered_op x.op)) xs ≡ true
    → list_any (λ (x : Stmt). nat_le s x.stage && uses_mem m x.op) xs ≡ true → s ≤ commit_stage p m
to_come p m s [] t h = absurd (false≢true h)
to_come p m s (x ∷ xs) t h = at (nat_le s x.stage) refl (uses_mem m x.op) refl h (to_come p m s xs (and_right (in_time p x.stage (answered_op x.op)) _ t))
  where
    used : (op : Op) → uses_mem m op ≡ true → in_time p x.stage (answered_op op) ≡ true → x.stage ≤ commit_stage p m
    used (CombRead y n a) u i = subst (λ k. x.stage ≤ commit_stage p k) (eqb-true n m u) (leb-true _ _ i)
    used (DelayedRead y n a) u i = subst (λ k. x.stage ≤ commit_stage p k) (eqb-true n m u) (leb-true _ _ i)
    used (Block n a) u i = subst (λ k. x.stage ≤ commit_stage p k) (eqb-true n m u) (leb-true _ _ i)
    used (Write n a e) u i = subst (λ k. x.stage ≤ commit_stage p k) (eqb-true n m u) (leb-true _ _ i)
    used _ u i = absurd (false≢true u)

    at : (b : Bool) → nat_le s x.stage ≡ b → (c : Bool) → uses_mem m x.op ≡ c
        → ((nat_le s x.stage && uses_mem m x.op) || list_any (λ (x : Stmt). nat_le s x.stage && uses_mem m x.op) xs) ≡ true
        → (list_any (λ (x : Stmt). nat_le s x.stage && uses_mem m x.op) xs ≡ true → s ≤ commit_stage p m) → s ≤ commit_stage p m
    at true e true f i go = let low = leb-true _ _ e in let late = used x.op f (and_left _ _ t) in omega (arith, low, late)
    at true e false f i go = go (sym (ap₂ (λ a b. (a && b) || list_any (λ (x : Stmt). nat_le s x.stage && uses_mem m x.op) xs) e f) ∙ i)
    at false e c f i go = go (sym (ap (λ a. (a && uses_mem m x.op) || list_any (λ (x : Stmt). nat_le s x.stage && uses_mem m x.op) xs) e) ∙ i)

-- what is released is no younger than a thread that may still use the memory, where that is so up to the stage of its releases
pub uses_older : (p : Pipe) → Sound p → Strict p → (st : State) (bits : List Bool) (m : ℕ) (these : List Act)
    → AllActs (ReleasesOlder p st bits m) these → AllActs (UsesOlder p st bits m) these
uses_older p sound strict st bits m [] h = tt
uses_older p sound strict st bits m (a ∷ these) h = (
  (λ path u. h.0 (to_come p m a.stage (onpath path p.stmts) (timely p sound path strict) u)),
  uses_older p sound strict st bits m these h.1,
)
