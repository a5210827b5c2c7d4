-- What the facts of an accepted pipe say of the statements that a thread has passed, and of those of its stage, on the path that it takes.
use Rattle.std.proofs.Common.{◌≡◌, refl, sym, ap, ap₂, ◌∙◌, subst, ℕ, ◌<◌, Bool, true, false, ◌&&◌, ◌||◌, not, List, [], ◌∷◌, ◌++◌, length, ◌==◌, nat_lt, nat_le, cond, arith, append_assoc, eq-eqb, leb-false, le-leb}
use Rattle.std.proofs.lemmas.Bool.{false≢true}
use Rattle.std.proofs.Math.Bool.{and-false}
use Rattle.pdl_semantics.specs.Flat.{Pipe, Op, CombRead, DelayedRead, Write, Block, Release, Stmt, Expr, list_all, all_hold}
use Rattle.pdl_semantics.specs.Stages.{list_any, onpath, in_stage, mem_at, is_release, commit_stage, verify_stage}
use Rattle.pdl_semantics.specs.Machine.{State}
use Rattle.pdl_semantics.specs.Sound.{stages_before, stages_from, is_release_at}
use Rattle.pdl_semantics.specs.Promises.{DifferInAdvice}
use Rattle.pdl_theory_turns.specs.Derived
use Rattle.pdl_theory_turns.specs.Derived.{Around, around}
use Rattle.pdl_theory_turns.specs.Alone.{but_last, is_nil, answered_op}
use Rattle.pdl_theory_turns.specs.Scans.{after_write, no_guards, is_plain, Phase, Fresh, next_phase, phase_all, is_over, Scan, no_scan, has_location, is_address, scan_after, scan_after_all, op_ok, reads_ok, none_of}
use Rattle.pdl_theory_turns.specs.GuessScans.{Unmade, making_all, makings_ok}
use Rattle.pdl_theory_turns.specs.Facts.{Sound, looked_all, at_once}
use Rattle.pdl_theory_turns.specs.Accepted.{along}
use Rattle.pdl_theory_turns.proofs.Writes.{and_left, and_right}
use Rattle.pdl_theory_turns.proofs.Looks.{path_looked}
use Rattle.pdl_theory_turns.proofs.Turn.{none_in_stage, none_from}
use Rattle.pdl_theory_simulation.proofs.FlowFacts.{uses_ok, next_of}
use Rattle.pdl_theory_simulation.proofs.AcceptedFacts.{sound_flows}
use Rattle.pdl_theory_simulation.proofs.Shapes.{uses_front, uses_back, over_early}
use Rattle.pdl_theory_simulation.proofs.Stretches.{Keeps, on_way, way_next}
use Rattle.pdl_theory_simulation.proofs.Seats.{Live, dacts, now_of, work_of_live}
use Rattle.pdl_theory_simulation.proofs.Choices.{Known, keeps_now}
use Rattle.pdl_theory_simulation.proofs.LockLists.{next_up}
use Rattle.pdl_machine_facts.specs.Use.{in_time, is_early}
use Rattle.pdl_theory_states.specs.Strict.{Strict, all_new, lets_go, all_let_go}
use Rattle.pdl_theory_states.proofs.UnusedValues.{onto, all_new_append, all_new_front}
use Rattle.pdl_theory_states.proofs.Trails.{AllStmts, stage_stmts}
use Rattle.pdl_theory_states.proofs.Stage.{way_looked}
use Rattle.pdl_machine_lockuse.specs.Careful.{Careful, reserves_at, keeps_kind, all_keep_kind, is_let_in, all_let_in}
use Rattle.pdl_theory_states.proofs.StillLooks.{let_go_behind}
use Rattle.pdl_theory_turns.proofs.StrayPaths.{looked_append}
use Rattle.pdl_theory_turns.proofs.Guesses.{makings_first, makings_second}
use Rattle.pdl_theory_turns.proofs.OwnEntries.{none_first}
use Rattle.pdl_theory_turns.proofs.TurnPath.{phase_append}
use Rattle.pdl_theory_turns.proofs.Paths.{none_onpath}

-- PARTS OF A LIST OF STATEMENTS

reads_back : (q : Pipe) (c : Scan) (xs ys : List Stmt) → reads_ok q c (xs ++ ys) ≡ true → reads_ok q (scan_after_all xs c) ys ≡ true
reads_back q c [] ys h = h
reads_back q c (x ∷ xs) ys h = reads_back q (scan_after x.op c) xs ys (and_right (no_guards x.guards && op_ok q x.stage c x.op) _ h)

none_both : (test : Op → Bool) (xs ys : List Stmt) → none_of test xs ≡ true → none_of test ys ≡ true → none_of test (xs ++ ys) ≡ true
none_both test [] ys h k = k
none_both test (x ∷ xs) ys h k = ap₂ (λ a b. a && b) (and_left _ _ h) (none_both test xs ys (and_right (not (test x.op)) _ h) k)

kind_front : (op : Op) (xs ys : List Stmt) → keeps_kind op (xs ++ ys) ≡ true → keeps_kind op xs ≡ true
kind_front (Block m a) xs ys h = none_first (reserves_at m a) xs ys h
kind_front _ xs ys h = refl

kinds_front : (xs ys : List Stmt) → all_keep_kind (xs ++ ys) ≡ true → all_keep_kind xs ≡ true
kinds_front [] ys h = refl
kinds_front (x ∷ xs) ys h = ap₂ (λ a b. a && b) (kind_front x.op xs ys (and_left _ _ h)) (kinds_front xs ys (and_right (keeps_kind x.op (xs ++ ys)) _ h))

let_in_front : (xs ys : List Stmt) (past : List Op) → all_let_in past (xs ++ ys) ≡ true → all_let_in past xs ≡ true
let_in_front [] ys past h = refl
let_in_front (x ∷ xs) ys past h = ap₂ (λ a b. a && b) (and_left _ _ h) (let_in_front xs ys (x.op ∷ past) (and_right (is_let_in x.op past) _ h))

let_in_back : (xs ys : List Stmt) (past : List Op) → all_let_in past (xs ++ ys) ≡ true → all_let_in (onto xs past) ys ≡ true
let_in_back [] ys past h = h
let_in_back (x ∷ xs) ys past h = let_in_back xs ys (x.op ∷ past) (and_right (is_let_in x.op past) _ h)

-- WHAT STANDS BEHIND

none_release : (m a : ℕ) (xs : List Stmt) → none_of (is_release m) xs ≡ true → list_any (λ (z : Stmt). is_release_at m a z.op) xs ≡ false
none_release m a [] h = refl
none_release m a (x ∷ xs) h = ap₂ (λ b c. b || c) (one x.op (and_left _ _ h)) (none_release m a xs (and_right (not (is_release m x.op)) _ h))
  where
    at : (b c : Bool) → not b ≡ true → (b && c) ≡ false
    at true c k = absurd (cc k)
    at false c k = refl

    one : (op : Op) → not (is_release m op) ≡ true → is_release_at m a op ≡ false
    one (Release n b) k = at (n == m) (b == a) k
    one _ k = refl

module _ (p q : Pipe) (same : (m : ℕ) → commit_stage q m ≡ commit_stage p m) (s : ℕ) (low : s < length p.stages)
    (plain : (m : ℕ) → is_plain (mem_at q m).lock ≡ true → commit_stage p m ≡ length p.stages) where
  read_early : (m : ℕ) (o : Bool) → (is_plain (mem_at q m).lock || (o && nat_le s (commit_stage q m))) ≡ true → nat_le s (commit_stage p m) ≡ true
  read_early m o h = at (is_plain (mem_at q m).lock) refl h
    where
      at : (b : Bool) → is_plain (mem_at q m).lock ≡ b → (b || (o && nat_le s (commit_stage q m))) ≡ true → nat_le s (commit_stage p m) ≡ true
      at true e g = let far = plain m e in le-leb s (commit_stage p m) (omega (arith, low, far))
      at false e g = ap (nat_le s) (sym (same m)) ∙ and_right o _ g

  -- a release that is still to come stands no earlier
  unless : (c : ℕ) → (c < s → ⊥) → nat_le s c ≡ true
  unless c f = at (nat_le s c) refl
    where
      at : (b : Bool) → nat_le s c ≡ b → nat_le s c ≡ true
      at true e = e
      at false e = absurd (f (leb-false s c e))

  -- a statement is in time where the scan of reads passes it, its block is released, and past the releases nothing follows
  pub one : (c : Scan) (op : Op) (ys : List Stmt) → op_ok q s c (answered_op op) ≡ true → lets_go op ys ≡ true
      → ((m : ℕ) → commit_stage p m < s → none_of (is_release m) ys ≡ true) → ((m a : ℕ) (e : Expr) → op ≡ Write m a e → commit_stage p m < s → ⊥)
      → in_time p s (answered_op op) ≡ true
  one c (CombRead x m a) ys ok go r w = read_early m (has_location c.blocked m a) (and_right (not (is_address c.blocked x)) _ ok)
  one c (DelayedRead x m a) ys ok go r w = read_early m (has_location c.blocked m a) (and_right (not (is_address c.blocked x)) _ ok)
  one c (Block m a) ys ok go r w = unless (commit_stage p m) (λ i. false≢true (sym (none_release m a ys (r m i)) ∙ go))
  one c (Write m a e) ys ok go r w = unless (commit_stage p m) (w m a e refl)
  one c _ ys ok go r w = refl

  read_later : (op : Op) → in_time p s (answered_op op) ≡ true → in_time p s op ≡ true
  read_later (DelayedRead x m a) h = refl
  read_later _ h = h

  -- the statements of a stage are in time, where what follows is known
  pub early_all : (c : Scan) (ph : ℕ → Phase) (xs rest : List Stmt) → AllStmts (λ x. x.stage ≡ s) xs → reads_ok q c (looked_all xs) ≡ true
      → all_let_go (xs ++ rest) ≡ true
      → ((m : ℕ) → commit_stage p m < s → none_of (is_release m) (xs ++ rest) ≡ true) → ((m : ℕ) → is_over (phase_all m (ph m) (xs ++ rest)) ≡ true)
      → list_all (is_early p) xs ≡ true
  early_all c ph [] rest i ok go r over = refl
  early_all c ph (x ∷ xs) rest i ok go r over =
      let behind : (m : ℕ) → commit_stage p m < s → none_of (is_release m) (xs ++ rest) ≡ true = λ m j. and_right (not (is_release m x.op)) _ (r m j) in
      ap₂ (λ a b. a && b)
      (ap (λ k. in_time p k x.op) i.0
      ∙ read_later x.op
      (one c x.op (xs ++ rest)
      (subst (λ k. op_ok q k c (answered_op x.op) ≡ true) i.0 (and_right (no_guards x.guards) _ (and_left _ _ ok)))
      (and_left _ _ go) behind
      (λ m a e w j. false≢true (left_open m a e w ∙ over_early m (xs ++ rest) (next_phase m (ph m) x.op) (behind m j) (over m)))))
      (early_all (scan_after (answered_op x.op) c)
      (λ m. next_phase m (ph m) x.op) xs rest i.1 (and_right (no_guards x.guards && op_ok q x.stage c (answered_op x.op)) _ ok)
      (and_right (lets_go x.op (xs ++ rest)) _ go) behind over)
    where
      left_open : (m a : ℕ) (e : Expr) → x.op ≡ Write m a e → false ≡ is_over (next_phase m (ph m) x.op)
      left_open m a e w =
          sym
          (ap (λ o. is_over (next_phase m (ph m) o)) w ∙ ap (λ b. is_over (cond b (after_write (ph m) a) (ph m))) (eq-eqb m m refl)
          ∙ and-false (is_nil (but_last (ph m).unwritten)))

-- A THREAD IN ITS STAGE

module _ (p : Pipe) (sound : Sound p) (st : State) (d : Derived.State) (bits : List Bool)
    (arrays : DifferInAdvice p st.arrays d.arrays) (older : List Live) (l : Live)
    (k : Known p (sound_flows p sound) st d bits arrays older l) where
  -- the path that the thread takes, by the values with which its stage ends
  abbrev pub path : List ℕ
  path = (work_of_live p d bits older l).env

  -- the statements of the thread's stage on its path
  abbrev pub mine : List Stmt
  mine = onpath path (in_stage l.thread.stage p.stmts)

  -- what the thread has done before its stage
  abbrev pub passed : List Stmt
  passed = on_way p l.env l.thread.stage

  abbrev next : ℕ
  next = next_of p l.thread.stage path

  -- what is still to come on its path
  abbrev pub rest : List Stmt
  rest = onpath path (stages_from next p.stmts)

  keeps : Keeps p l.env (now_of p d bits l)
  keeps = keeps_now p (sound_flows p sound) st d bits arrays l k.seated

  abbrev o : Around
  o = around p d bits (dacts p d bits older) l.thread.stage l.thread.hint

  -- before its next stage it has done what it did before its stage, and then the statements of this
  pub way_is : on_way p path (next_of p l.thread.stage path) ≡ passed ++ mine
  way_is = way_next p (sound_flows p sound) l.env (now_of p d bits l) keeps o

  -- the statements on its path are those that it has passed, those of its stage, and those after them
  pub whole : onpath path p.stmts ≡ passed ++ (mine ++ rest)
  whole = (sound_flows p sound).all_pieces path next ∙ ap (λ xs. xs ++ rest) way_is ∙ append_assoc passed mine rest

  looked_whole : onpath path (looked_all p.stmts) ≡ looked_all passed ++ (looked_all mine ++ looked_all rest)
  looked_whole =
      path_looked path p.stmts ∙ ap looked_all whole ∙ looked_append passed (mine ++ rest) ∙ ap (λ xs. looked_all passed ++ xs) (looked_append mine rest)

  -- after those that it has passed, the statements of its stage pass the scan of reads
  pub mine_reads : reads_ok (along path (at_once p)) (scan_after_all (looked_all passed) no_scan) (looked_all mine) ≡ true
  mine_reads =
      reads_back (along path (at_once p)) no_scan (looked_all passed) (looked_all mine)
      (subst (λ xs. reads_ok (along path (at_once p)) no_scan xs ≡ true)
      (way_looked p path next ∙ ap looked_all way_is ∙ looked_append passed mine)
      ((sound.pathwise.paths path).reads next))

  -- the statements that it has passed use each memory in order
  pub passed_uses : (m : ℕ) → uses_ok m Fresh passed ≡ true
  passed_uses m = uses_front m passed (mine ++ rest) Fresh (subst (λ xs. uses_ok m Fresh xs ≡ true) whole ((sound_flows p sound).uses path m))

  -- after those that it has passed, the statements of its stage write and release each memory in order
  pub mine_uses : (m : ℕ) → uses_ok m (phase_all m Fresh passed) mine ≡ true
  mine_uses m =
      uses_front m mine rest (phase_all m Fresh passed)
      (uses_back m passed (mine ++ rest) Fresh (subst (λ xs. uses_ok m Fresh xs ≡ true) whole ((sound_flows p sound).uses path m)))

  -- after those that it has passed, the statements of its stage make the next thread in order
  pub mine_makings : makings_ok (verify_stage (looked_all p.stmts)) (making_all Unmade (looked_all passed)) (looked_all mine) ≡ true
  mine_makings =
      makings_first (verify_stage (looked_all p.stmts)) (making_all Unmade (looked_all passed)) (looked_all mine) (looked_all rest)
      (makings_second (verify_stage (looked_all p.stmts)) Unmade (looked_all passed) (looked_all mine ++ looked_all rest)
      (subst (λ xs. makings_ok (verify_stage (looked_all p.stmts)) Unmade xs ≡ true) looked_whole (sound.pathwise.makings path)))

  -- after each block that it has passed, the block's location was not reserved for writing
  pub passed_kinds : Careful p → all_keep_kind passed ≡ true
  passed_kinds careful = kinds_front passed (mine ++ rest) (subst (λ xs. all_keep_kind xs ≡ true) whole (careful.kinds path))

  -- after those that it has passed, the statements of its stage bind only variables that are new
  pub mine_new : Strict p → all_new p.vars (onto passed []) mine ≡ true
  mine_new strict =
      all_new_front p.vars mine rest (onto passed [])
      (all_new_append p.vars passed (mine ++ rest) [] (subst (λ xs. all_new p.vars [] xs ≡ true) whole (strict.names path)))

  -- the location of each write of its stage was blocked before it
  pub mine_let_in : Careful p → all_let_in (onto passed []) mine ≡ true
  mine_let_in careful =
      let_in_front mine rest (onto passed []) (let_in_back passed (mine ++ rest) [] (subst (λ xs. all_let_in [] xs ≡ true) whole (careful.writes path)))

  -- past the stage of a memory's releases its thread releases the memory no more
  released_before : (m : ℕ) → commit_stage p m < l.thread.stage → none_of (is_release m) (mine ++ rest) ≡ true
  released_before m h =
      let up : l.thread.stage < next = next_up p (sound_flows p sound) st d bits arrays l.thread.stage path k.seated.keeps_on.inside in
      none_both (is_release m) mine rest
      (none_onpath (is_release m) path (in_stage l.thread.stage p.stmts)
      (none_in_stage (is_release m) (commit_stage p m) l.thread.stage p.stmts ((sound_flows p sound).releases m) (λ e. absurd (omega (arith, h, e)))))
      (none_onpath (is_release m) path (stages_from next p.stmts)
      (none_from (is_release m) (commit_stage p m) next p.stmts ((sound_flows p sound).releases m) (omega (arith, h, up))))

  over_here : (m : ℕ) → is_over (phase_all m (phase_all m Fresh passed) (mine ++ rest)) ≡ true
  over_here m =
      subst (λ ph. is_over ph ≡ true) (phase_append m passed (mine ++ rest) Fresh)
      (subst (λ xs. is_over (phase_all m Fresh xs) ≡ true) whole ((sound_flows p sound).over path m))

  -- a memory without lock is released nowhere
  pub plain_to : (m : ℕ) → is_plain (mem_at p m).lock ≡ true → commit_stage p m ≡ length p.stages
  plain_to m e = (sound.pathwise.paths path).plain_to m e

  -- the statements of its stage look at a memory, or write it, no later than the stage of its releases
  pub mine_early : Strict p → list_all (is_early p) mine ≡ true
  mine_early strict =
      early_all p (along path (at_once p)) (λ m. refl) l.thread.stage k.seated.keeps_on.inside plain_to (scan_after_all (looked_all passed) no_scan)
      (λ m. phase_all m Fresh passed) mine rest
      (stage_stmts path l.thread.stage p.stmts) mine_reads
      (let_go_behind passed (mine ++ rest) (subst (λ xs. all_let_go xs ≡ true) whole (strict.blocks path))) released_before over_here

-- what holds of each statement of the text holds of those of a part of a path
pub all_way : (test : Op → Bool) (path : List ℕ) (s : ℕ) (xs : List Stmt) → list_all (λ (x : Stmt). test x.op) xs ≡ true
    → list_all (λ (x : Stmt). test x.op) (onpath path (stages_before s xs)) ≡ true
all_way test path s [] h = refl
all_way test path s (x ∷ xs) h = at (nat_lt x.stage s) (all_hold x.guards path) refl (all_way test path s xs (and_right (test x.op) _ h))
  where
    at : (b c : Bool) → all_hold x.guards path ≡ c → list_all (λ (x : Stmt). test x.op) (onpath path (stages_before s xs)) ≡ true
        → list_all (λ (x : Stmt). test x.op) (onpath path (cond b (x ∷ stages_before s xs) (stages_before s xs))) ≡ true
    at true true e r =
        ap (λ c. list_all (λ (x : Stmt). test x.op) (cond c (record x { guards = [] } ∷ onpath path (stages_before s xs)) (onpath path (stages_before s xs)))) e
        ∙ ap₂ (λ a b. a && b) (and_left _ _ h) r
    at true false e r =
        ap (λ c. list_all (λ (x : Stmt). test x.op) (cond c (record x { guards = [] } ∷ onpath path (stages_before s xs)) (onpath path (stages_before s xs)))) e
        ∙ r
    at false c e r = r

-- what holds of each statement of the text holds of those of a stage on a path
pub all_here : (test : Op → Bool) (path : List ℕ) (s : ℕ) (xs : List Stmt) → list_all (λ (x : Stmt). test x.op) xs ≡ true
    → list_all (λ (x : Stmt). test x.op) (onpath path (in_stage s xs)) ≡ true
all_here test path s [] h = refl
all_here test path s (x ∷ xs) h = at (x.stage == s) (all_hold x.guards path) refl (all_here test path s xs (and_right (test x.op) _ h))
  where
    at : (b c : Bool) → all_hold x.guards path ≡ c → list_all (λ (x : Stmt). test x.op) (onpath path (in_stage s xs)) ≡ true
        → list_all (λ (x : Stmt). test x.op) (onpath path (cond b (x ∷ in_stage s xs) (in_stage s xs))) ≡ true
    at true true e r =
        ap (λ c. list_all (λ (x : Stmt). test x.op) (cond c (record x { guards = [] } ∷ onpath path (in_stage s xs)) (onpath path (in_stage s xs)))) e
        ∙ ap₂ (λ a b. a && b) (and_left _ _ h) r
    at true false e r =
        ap (λ c. list_all (λ (x : Stmt). test x.op) (cond c (record x { guards = [] } ∷ onpath path (in_stage s xs)) (onpath path (in_stage s xs)))) e ∙ r
    at false c e r = r
