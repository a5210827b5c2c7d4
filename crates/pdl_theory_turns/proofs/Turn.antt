-- The statements of one path: what their thread holds, commits and makes by each stage.
use Rattle.std.proofs.Common.{◌≡◌, ◌≢◌, refl, sym, ap, ap₂, ◌∙◌, subst, ℕ, ◌≤◌, ◌<◌, Bool, true, false, ◌&&◌, ◌||◌, not, List, [], ◌∷◌, ◌++◌, Some, ◌==◌, nat_lt, nat_le, cond, arith, slice_index, slice_set, append-nil, append_assoc}
use Rattle.std.proofs.lemmas.List.{get_or-set_other}
use Rattle.std.proofs.lemmas.Bool.{eqb-true, eqb-false, not-true}
use Rattle.std.proofs.lemmas.Bool.Decides.{eqb_tells}
use Rattle.std.proofs.Common.{leb-true, ltb-true}
use Rattle.pdl_semantics.specs.Flat.{Op, Bind, CombRead, DelayedRead, Write, ReserveWrite, Release, Verify, Stmt, value_of, all_hold, Commit, of_mem}
use Rattle.pdl_semantics.specs.Stages.{in_stage, is_release, is_reserve}
use Rattle.pdl_semantics.specs.Machine.{same_args}
use Rattle.pdl_semantics.specs.Sequential.{Run, run_after}
use Rattle.pdl_theory_turns.specs.Derived.{Work, Around, work_after, do_all, said}
use Rattle.pdl_theory_turns.specs.Alone.{World, alone, before, answered_op, is_among, is_oldest, drop_var, but_last}
use Rattle.pdl_theory_turns.proofs.Writes.{and_left, and_right, of_mem_append}
use Rattle.pdl_theory_turns.proofs.Entries.{released_other, write_of, places}
use Rattle.pdl_theory_turns.proofs.Slots.{rev}
use Rattle.pdl_theory_turns.specs.Scans.{Phase, after_write, after_reserve, may_write, next_phase, all_at, none_of}
use Rattle.pdl_theory_turns.proofs.SequentialThread.{Related, Ok}
use Rattle.pdl_theory_turns.proofs.Stages.{step}
use Rattle.pdl_semantics.specs.Sound.{stages_from}

-- statements without a release of m commit nothing of m
quiet_op : (m : ℕ) (o : Around) (op : Op) (w : Work)
    → not (is_release m op) ≡ true → of_mem m (work_after o op w).commits ≡ of_mem m w.commits
quiet_op m o (Release n a) w h =
    of_mem_append m w.commits _ ∙ ap (λ l. of_mem m w.commits ++ l) (released_other w.entries m n a apart) ∙ append-nil (of_mem m w.commits)
  where
    apart : n ≢ m
    apart e = grind (arith, eqb_tells)
quiet_op m o (Verify last args) w h = at (same_args (said o last args w.env) w.guess)
  where
    at : (b : Bool)
        → of_mem m (cond b w (record w { child = Some (said o last args w.env); guess = said o last args w.env; fails = true })).commits ≡ of_mem m w.commits
    at true = refl
    at false = refl
quiet_op m o _ w h = refl

quiet_step : (b : Bool) (m : ℕ) (o : Around) (op : Op) (w : Work)
    → not (is_release m op) ≡ true → of_mem m (cond b (work_after o op w) w).commits ≡ of_mem m w.commits
quiet_step true m o op w h = quiet_op m o op w h
quiet_step false m o op w h = refl

-- statements that release nothing of memory m commit nothing to it
pub quiet : (m : ℕ) (o : Around) (xs : List Stmt) (w : Work)
    → none_of (is_release m) xs ≡ true → of_mem m (do_all o xs w).commits ≡ of_mem m w.commits
quiet m o [] w h = refl
quiet m o (x ∷ xs) w h = quiet m o xs (step o x w) (and_right _ _ h) ∙ quiet_step (all_hold x.guards w.env) m o x.op w (and_left _ _ h)

-- where the statements of a kind stand in one stage, other stages have none
pub none_in_stage : (test : Op → Bool) (c s : ℕ) (xs : List Stmt) → all_at test c xs ≡ true → s ≢ c → none_of test (in_stage s xs) ≡ true
none_in_stage test c s [] h k = refl
none_in_stage test c s (x ∷ xs) h k = at (x.stage == s) refl (test x.op) refl (none_in_stage test c s xs (and_right _ _ h) k) (and_left _ _ h)
  where
    at : (b : Bool) → (x.stage == s) ≡ b → (t : Bool) → test x.op ≡ t → none_of test (in_stage s xs) ≡ true → (not (test x.op) || (x.stage == c)) ≡ true
        → none_of test (cond b (x ∷ in_stage s xs) (in_stage s xs)) ≡ true
    at true e true f r q = absurd (k (sym (eqb-true x.stage s e) ∙ eqb-true x.stage c (subst (λ t. (not t || (x.stage == c)) ≡ true) f q)))
    at true e false f r q = ap (λ t. not t && none_of test (in_stage s xs)) f ∙ r
    at false e t f r q = r

-- what stands in stage c alone is not before stage s, where s is at most c
pub none_before : (test : Op → Bool) (c s : ℕ) (xs : List Stmt)
    → ((op : Op) → test (answered_op op) ≡ test op) → all_at test c xs ≡ true → s ≤ c
    → none_of test (before s xs) ≡ true
none_before test c s [] g h k = refl
none_before test c s (x ∷ xs) g h k = at (nat_lt x.stage s) refl (test x.op) refl (none_before test c s xs g (and_right _ _ h) k) (and_left _ _ h)
  where
    at : (b : Bool) → nat_lt x.stage s ≡ b → (t : Bool) → test x.op ≡ t → none_of test (before s xs) ≡ true → (not (test x.op) || (x.stage == c)) ≡ true
        → none_of test (cond b (record x { op = answered_op x.op } ∷ before s xs) (before s xs)) ≡ true
    at true e true f r q = absurd (early (eqb-true x.stage c (subst (λ t. (not t || (x.stage == c)) ≡ true) f q)) (ltb-true x.stage s e))
      where
        early : x.stage ≡ c → x.stage < s → ⊥
        early u v = omega arith
    at true e false f r q = ap (λ t. not t && none_of test (before s xs)) (g x.op ∙ f) ∙ r
    at false e t f r q = r

-- a statement is a release of memory m just where it is one with a delayed read answered at once
pub release_looked : (m : ℕ) (op : Op) → is_release m (answered_op op) ≡ is_release m op
release_looked m (DelayedRead x n a) = refl
release_looked m _ = refl

-- what stands in stage c alone is not in stage s or later, where s is beyond c
pub none_from : (test : Op → Bool) (c s : ℕ) (xs : List Stmt) → all_at test c xs ≡ true → c < s → none_of test (stages_from s xs) ≡ true
none_from test c s [] h k = refl
none_from test c s (x ∷ xs) h k = at (nat_le s x.stage) refl (test x.op) refl (none_from test c s xs (and_right _ _ h) k) (and_left _ _ h)
  where
    at : (b : Bool) → nat_le s x.stage ≡ b → (t : Bool) → test x.op ≡ t → none_of test (stages_from s xs) ≡ true → (not (test x.op) || (x.stage == c)) ≡ true
        → none_of test (cond b (x ∷ stages_from s xs) (stages_from s xs)) ≡ true
    at true e true f r q = absurd (late (eqb-true x.stage c (subst (λ t. (not t || (x.stage == c)) ≡ true) f q)) (leb-true s x.stage e))
      where
        late : x.stage ≡ c → s ≤ x.stage → ⊥
        late u v = omega arith
    at true e false f r q = ap (λ t. not t && none_of test (stages_from s xs)) f ∙ r
    at false e t f r q = r

-- the addresses of a thread's writes of m, made and still to be made through what it has reserved
abbrev pub addresses_at : List ℕ → List ℕ → List ℕ
addresses_at env [] = []
addresses_at env (x ∷ xs) = slice_index env x ∷ addresses_at env xs

-- the addresses of a thread's commits and of its locations without a value
abbrev pub spots : Phase → List ℕ → List Commit → List ℕ
spots ph env ws = places ws ++ rev (addresses_at env ph.unwritten)

addresses_set : (env xs : List ℕ) (x v : ℕ) → is_among x xs ≡ false → addresses_at (slice_set env x v) xs ≡ addresses_at env xs
addresses_set env [] x v h = refl
addresses_set env (y ∷ ys) x v h =
    ap₂ (λ n l. n ∷ l) (get_or-set_other env x y v 0 (λ e. eqb-false y x (off (y == x) h) e)) (addresses_set env ys x v (rest (y == x) h))
  where
    off : (b : Bool) → (b || is_among x ys) ≡ false → b ≡ false
    off true k = absurd (cc k)
    off false k = refl

    rest : (b : Bool) → (b || is_among x ys) ≡ false → is_among x ys ≡ false
    rest true k = absurd (cc k)
    rest false k = k

-- the oldest comes first
oldest_first : (env xs : List ℕ) (a : ℕ) → is_oldest a xs ≡ true → rev (addresses_at env xs) ≡ slice_index env a ∷ rev (addresses_at env (but_last xs))
oldest_first env [] a h = absurd (cc h)
oldest_first env (x ∷ []) a h = ap (λ y. slice_index env y ∷ []) (eqb-true x a h)
oldest_first env (x ∷ y ∷ ys) a h = ap (λ l. l ++ slice_index env x ∷ []) (oldest_first env (y ∷ ys) a (second (x == a) h))
  where
    second : (b : Bool) → (not b && is_oldest a (y ∷ ys)) ≡ true → is_oldest a (y ∷ ys) ≡ true
    second true k = absurd (cc k)
    second false k = k

-- the addresses of joined commits
pub places_append : (xs ys : List Commit) → places (xs ++ ys) ≡ places xs ++ places ys
places_append [] ys = refl
places_append (x ∷ xs) ys = ap (λ l. x.address ∷ l) (places_append xs ys)

spots_set : (ph : Phase) (env : List ℕ) (ws : List Commit) (x v : ℕ)
    → not (is_among x ph.unwritten) ≡ true → spots ph (slice_set env x v) ws ≡ spots ph env ws
spots_set ph env ws x v h =
    ap (λ l. places ws ++ rev l) (addresses_set env ph.unwritten x v (not-true _ h))

-- they stay over what doesn't reserve m

-- a statement that the phases allow and that is no reserve leaves the addresses written to memory m as they are
pub spots_op : (world : World) (m : ℕ) (ph : ℕ → Phase) (op : Op) (w : Work) (r : Run)
    → not (is_reserve m op) ≡ true → Ok ph op → Related world ph w r
    → spots (next_phase m (ph m) op) (work_after (alone world) op w).env (of_mem m (run_after op r).writes)
    ≡ spots (ph m) w.env (of_mem m r.writes)
spots_op world m ph (Bind x e) w r h ok rel = spots_set (ph m) w.env (of_mem m r.writes) x _ (ok m)
spots_op world m ph (CombRead x n a) w r h ok rel = spots_set (ph m) w.env (of_mem m r.writes) x _ (and_left (not (is_among x (ph m).unwritten)) _ (ok m))
spots_op world m ph (DelayedRead x n a) w r h ok rel = absurd (cc (ok 0))
spots_op world m ph (Write n a e) w r h ok rel = at (n == m) refl (ok m)
  where
    at : (b : Bool) → (n == m) ≡ b
        → (not b || may_write (ph m) a) ≡ true
        → spots (cond b (after_write (ph m) a) (ph m)) w.env (of_mem m (r.writes ++ write_of n (slice_index r.env a) (value_of e r.env) ∷ []))
        ≡ spots (ph m) w.env (of_mem m r.writes)
    at true f k =
        ap (λ l. places l ++ rev (addresses_at w.env (but_last (ph m).unwritten))) (of_mem_append m r.writes _
        ∙ ap (λ b. of_mem m r.writes ++ cond b (write_of n (slice_index r.env a) (value_of e r.env) ∷ []) []) f)
        ∙ ap (λ l. l ++ rev (addresses_at w.env (but_last (ph m).unwritten))) (places_append (of_mem m r.writes) _)
        ∙ append_assoc (places (of_mem m r.writes)) (slice_index r.env a ∷ []) (rev (addresses_at w.env (but_last (ph m).unwritten)))
        ∙ ap (λ l. places (of_mem m r.writes) ++ l)
        (ap (λ v. slice_index v a ∷ rev (addresses_at w.env (but_last (ph m).unwritten))) (sym rel.env) ∙ sym (oldest_first w.env (ph m).unwritten a k))
    at false f k =
        ap (λ l. places l ++ rev (addresses_at w.env (ph m).unwritten))
        (of_mem_append m r.writes _ ∙ ap (λ b. of_mem m r.writes ++ cond b (write_of n (slice_index r.env a) (value_of e r.env) ∷ []) []) f
        ∙ append-nil (of_mem m r.writes))
spots_op world m ph (ReserveWrite n a) w r h ok rel = at (n == m) h
  where
    at : (b : Bool) → not b ≡ true → spots (cond b (after_reserve (ph m) a) (ph m)) w.env (of_mem m r.writes) ≡ spots (ph m) w.env (of_mem m r.writes)
    at true k = absurd (cc k)
    at false k = refl
spots_op world m ph (Release n a) w r h ok rel = at (n == m) (is_among a (ph m).full)
  where
    at : (b c : Bool)
        → spots (cond b (cond c (record { unwritten = (ph m).unwritten; full = drop_var a (ph m).full; gone = a ∷ (ph m).gone }) (ph m)) (ph m)) w.env
        (of_mem m r.writes)
        ≡ spots (ph m) w.env (of_mem m r.writes)
    at true true = refl
    at true false = refl
    at false c = refl
spots_op world m ph (Verify true args) w r h ok rel = at (same_args (said (alone world) true args w.env) w.guess)
  where
    at : (b : Bool)
        → spots (ph m) (cond b w (record w { child = Some (said (alone world) true args w.env); guess = said (alone world) true args w.env; fails = true })).env
        (of_mem m r.writes)
        ≡ spots (ph m) w.env (of_mem m r.writes)
    at true = refl
    at false = refl
spots_op world m ph (Verify false args) w r h ok rel = at (same_args (said (alone world) false args w.env) w.guess)
  where
    at : (b : Bool)
        → spots (ph m)
        (cond b w (record w { child = Some (said (alone world) false args w.env); guess = said (alone world) false args w.env; fails = true })).env
        (of_mem m r.writes)
        ≡ spots (ph m) w.env (of_mem m r.writes)
    at true = refl
    at false = refl
spots_op world m ph _ w r h ok rel = refl
