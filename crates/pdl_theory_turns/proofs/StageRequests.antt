-- A stage with delayed reads in surroundings that are right for its turn: what it does alone, and requests whose answers will be right.
use Rattle.std.proofs.Common.{◌≡◌, refl, sym, ap, ◌∙◌, subst, ℕ, Bool, true, false, ◌&&◌, ◌||◌, not, List, [], ◌∷◌, ◌++◌, Some, ◌==◌, slice_index, slice_set, cond, nat_le}
use Rattle.std.proofs.lemmas.Bool.{leb-true}
use Rattle.pdl_semantics.specs.Flat.{Op, Bind, CombRead, DelayedRead, Write, ReserveRead, ReserveWrite, Block, Release, Call, SpecCall, Verify, SpecCheck, SpecBarrier, AdviceBind, AdviceRead, AdviceWrite, Stmt, Pipe, all_hold, word_at}
use Rattle.pdl_semantics.specs.Stages.{onpath, mem_at, commit_stage}
use Rattle.pdl_semantics.specs.Machine.{Ask, same_args}
use Rattle.pdl_theory_turns.specs.Derived.{Work, Around, work_after, do_all, said}
use Rattle.pdl_theory_turns.specs.Alone.{World, alone, answered_op, Location}
use Rattle.pdl_theory_turns.specs.Scans.{is_plain, is_address, has_location, scan_after, scan_after_all, op_ok, reads_ok, Scan, location}
use Rattle.pdl_theory_turns.specs.Facts.{mentions_var, asks_for, is_dead, silent_on, unseen_op, is_unseen, looked_all}
use Rattle.pdl_theory_turns.proofs.Writes.{and_left, and_right}
use Rattle.pdl_theory_turns.proofs.Paths.{Fixed}
use Rattle.pdl_theory_turns.proofs.Stages.{step, does_same, was_ready}
use Rattle.pdl_theory_turns.proofs.Surroundings.{Surrounds, Right, AllIn, Covers, covers_op, right_set, right_at, reads_right, right_after}
use Rattle.pdl_theory_turns.proofs.DelayedReads.{caught, AllAsks, all_more, all_snoc}
use Rattle.pdl_theory_turns.proofs.Looks.{look, keeps_clear, dead_none}
use Rattle.pdl_semantics.proofs.Bools.{by_bool}
use Rattle.pdl_semantics.specs.Sound.{is_fetch}

-- what is known of a request that was made before these statements
abbrev pub Known : (ℕ → ℕ → Type 0) → Scan → List Stmt → Ask → Type 0
Known clean c xs q = clean q.mem q.address × (not (is_address c.blocked q.var) ≡ true) × (silent_on q.var xs ≡ true)

-- a statement opens no location of a variable that it doesn't mention
opens_unused : (op : Op) (c : Scan) (x : ℕ)
    → not (mentions_var x op) ≡ true → not (is_address c.blocked x) ≡ true
    → not (is_address (scan_after (answered_op op) c).blocked x) ≡ true
opens_unused (Block m a) c x h u = at (has_location c.held m a)
  where
    at : (b : Bool) → not (is_address (cond b c (record { held = c.held; blocked = location m a ∷ c.blocked })).blocked x) ≡ true
    at true = u
    at false = both (a == x) (is_address c.blocked x) h u
      where
        both : (d e : Bool) → not d ≡ true → not e ≡ true → not (d || e) ≡ true
        both true e i j = i
        both false e i j = j
opens_unused (DelayedRead y m a) c x h u = u
opens_unused (AdviceBind y e) c x h u = u
opens_unused (AdviceRead y m a) c x h u = u
opens_unused (AdviceWrite m a e) c x h u = u
opens_unused (Bind y e) c x h u = u
opens_unused (CombRead y m a) c x h u = u
opens_unused (Write m a e) c x h u = u
opens_unused (ReserveRead m a) c x h u = u
opens_unused (ReserveWrite m a) c x h u = u
opens_unused (Release m a) c x h u = u
opens_unused (Call args) c x h u = u
opens_unused (SpecCall args) c x h u = u
opens_unused (Verify last args) c x h u = u
opens_unused SpecCheck c x h u = u
opens_unused SpecBarrier c x h u = u

-- a statement of the path mentions no awaited variable
unmentioned : (y : Stmt) (ys : List Stmt) (env : List ℕ) (x : ℕ)
    → all_hold y.guards env ≡ true → silent_on x (y ∷ ys) ≡ true → not (mentions_var x y.op) ≡ true
unmentioned y ys env x t h = at (is_dead y.guards) refl (and_left _ _ h)
  where
    at : (b : Bool) → is_dead y.guards ≡ b → (b || (not (asks_for x y.guards) && not (mentions_var x y.op))) ≡ true → not (mentions_var x y.op) ≡ true
    at true e i = absurd (clash (sym (dead_none y.guards env e) ∙ t))
      where
        clash : false ≡ true → ⊥
        clash k = cc
    at false e i = and_right (not (asks_for x y.guards)) _ i

silent_rest : (y : Stmt) (ys : List Stmt) (x : ℕ) → silent_on x (y ∷ ys) ≡ true → silent_on x ys ≡ true
silent_rest y ys x h = and_right (is_dead y.guards || (not (asks_for x y.guards) && not (mentions_var x y.op))) _ h

-- requests over a statement that makes none
asks_same : (o : Around) (op : Op) (w : Work) → is_fetch op ≡ false → (work_after o op w).asks ≡ w.asks
asks_same o (DelayedRead x m a) w h = absurd (cc h)
asks_same o (Verify last args) w h = at (same_args (said o last args w.env) w.guess)
  where
    at : (b : Bool) → (cond b w (record w { child = Some (said o last args w.env); guess = said o last args w.env; fails = true })).asks ≡ w.asks
    at true = refl
    at false = refl
asks_same o _ w h = refl

-- what one statement of a path does in right surroundings: the same as alone, with what is known of its locations and requests after it
pub record One (p : Pipe) (o : Around) (world : World) (s : ℕ) (clean : ℕ → ℕ → Type 0) (c : Scan) (op : Op) (ys : List Stmt) (w : Work) : Type 0 where
  pub same : work_after o op w ≡ work_after (alone world) op w
  pub covers : Covers (scan_after (answered_op op) c).held (work_after o op w).entries
  pub right : Right p s clean (scan_after (answered_op op) c).blocked (work_after o op w).env
  pub asks : AllAsks (Known clean (scan_after (answered_op op) c) ys) (work_after o op w).asks

module _ (p : Pipe) (o : Around) (world : World) (s : ℕ) (clean : ℕ → ℕ → Type 0) (f : Surrounds p o world s clean)
    (plain : (m a : ℕ) → is_plain (mem_at p m).lock ≡ true → clean m a) where
  -- a delayed read
  one_fetch : (c : Scan) (x m a : ℕ) (ys : List Stmt) (w : Work) → op_ok p s c (CombRead x m a) ≡ true
      → silent_on x ys ≡ true → Covers c.held w.entries → (w.ready && o.free m) ≡ true → Right p s clean c.blocked w.env
      → AllAsks (Known clean c ys) w.asks → One p o world s clean c (DelayedRead x m a) ys w
  one_fetch c x m a ys w ok silent cover ready right asks =
      record {
        same =
            ap (λ r. record w { asks = w.asks ++ record { mem = m; var = x; address = slice_index w.env a } ∷ []; ready = r })
            (ready ∙ sym (ap (λ b. b && true) (and_left w.ready (o.free m) ready)));
        covers = cover;
        right = right;
        asks =
            all_snoc (Known clean c ys) w.asks _ asks (
              at (is_plain (mem_at p m).lock) refl (has_location c.blocked m a) refl (nat_le s (commit_stage p m)) refl
                  (and_right (not (is_address c.blocked x)) _ ok),
              and_left _ _ ok,
              silent,
            );
      }
    where
      at : (b : Bool) → is_plain (mem_at p m).lock ≡ b → (d : Bool) → has_location c.blocked m a ≡ d → (e : Bool)
          → nat_le s (commit_stage p m) ≡ e → (b || (d && e)) ≡ true → clean m (slice_index w.env a)
      at true i d j e k t = plain m (slice_index w.env a) i
      at false i true j true k t = (right_at p s clean c.blocked w.env m a j (leb-true s (commit_stage p m) k) right).1
      at false i true j false k t = absurd (cc t)
      at false i false j e k t = absurd (cc t)

  one : (c : Scan) (y : Stmt) (ys : List Stmt) (w : Work) → all_hold y.guards w.env ≡ true
      → op_ok p s c (answered_op y.op) ≡ true → unseen_op y.op ys ≡ true → Covers c.held w.entries
      → (work_after o y.op w).ready ≡ true → Right p s clean c.blocked w.env
      → AllAsks (Known clean c (y ∷ ys)) w.asks → One p o world s clean c y.op ys w
  one c y ys w t ok un cover ready right asks =
      by y.op (is_fetch y.op) refl ok un ready (all_more (Known clean c (y ∷ ys)) _ w.asks (λ q k. (k.0, k.1, k.2)) asks)
    where
      by : (op : Op) (b : Bool) → is_fetch op ≡ b → op_ok p s c (answered_op op) ≡ true → unseen_op op ys ≡ true
          → (work_after o op w).ready ≡ true
          → AllAsks (λ q. clean q.mem q.address × (not (is_address c.blocked q.var) ≡ true) × (silent_on q.var (record y { op = op } ∷ ys) ≡ true)) w.asks
          → One p o world s clean c op ys w
      by (DelayedRead x m a) b e ok' un' r k =
          one_fetch c x m a ys w ok' un' cover r right
          (all_more _ (Known clean c ys) w.asks (λ q g. (g.0, g.1, silent_rest (record y { op = DelayedRead x m a }) ys q.var g.2)) k)
      by op false e ok' un' r k =
          let l : answered_op op ≡ op = (keeps_clear o op w e).0 in
          let here : op_ok p s c op ≡ true = subst (λ q. op_ok p s c q ≡ true) l ok' in
          record {
            same = does_same o world op w r (reads_right p o world s clean c op w.env f here right);
            covers = subst (λ q. Covers (scan_after q c).held (work_after o op w).entries) (sym l) (covers_op o c op w cover);
            right =
                subst (λ q. Right p s clean (scan_after q c).blocked (work_after o op w).env) (sym l)
                (right_after p o world s clean c op w f cover here r right);
            asks = subst (λ qs. AllAsks (Known clean (scan_after (answered_op op) c) ys) qs) (sym (asks_same o op w e))
                (all_more _ (Known clean (scan_after (answered_op op) c) ys) w.asks
                (λ q g. (
                  g.0,
                  opens_unused op c q.var (unmentioned (record y { op = op }) ys w.env q.var t g.2) g.1,
                  silent_rest (record y { op = op }) ys q.var g.2,
                )) k);
          }
      by (Bind x e) true i ok' un' r k = absurd (cc i)
      by (CombRead x m a) true i ok' un' r k = absurd (cc i)
      by (Write m a e) true i ok' un' r k = absurd (cc i)
      by (ReserveRead m a) true i ok' un' r k = absurd (cc i)
      by (ReserveWrite m a) true i ok' un' r k = absurd (cc i)
      by (Block m a) true i ok' un' r k = absurd (cc i)
      by (Release m a) true i ok' un' r k = absurd (cc i)
      by (Call args) true i ok' un' r k = absurd (cc i)
      by (SpecCall args) true i ok' un' r k = absurd (cc i)
      by (Verify last args) true i ok' un' r k = absurd (cc i)
      by SpecCheck true i ok' un' r k = absurd (cc i)
      by SpecBarrier true i ok' un' r k = absurd (cc i)
      by (AdviceBind x e) true i ok' un' r k = absurd (cc i)
      by (AdviceRead x m a) true i ok' un' r k = absurd (cc i)
      by (AdviceWrite m a e) true i ok' un' r k = absurd (cc i)

  -- with all conditions true, a stage does what it does alone, and leaves the blocked locations right
  pub alike_asking : (path : List ℕ) (c : Scan) (xs : List Stmt) (w : Work) → AllIn s xs
      → Fixed path (alone world) xs w → is_unseen xs ≡ true → reads_ok p c (onpath path (looked_all xs)) ≡ true
      → Covers c.held w.entries → (do_all o xs w).ready ≡ true → Right p s clean c.blocked w.env
      → AllAsks (Known clean c xs) w.asks
      → (do_all o xs w ≡ do_all (alone world) xs w)
      × Right p s clean (scan_after_all (onpath path (looked_all xs)) c).blocked (do_all o xs w).env
      × AllAsks (Known clean (scan_after_all (onpath path (looked_all xs)) c) []) (do_all o xs w).asks
  alike_asking path c [] w a q u h g k r asks = (refl, r, asks)
  alike_asking path c (x ∷ xs) w a q u h g k r asks =
      by_bool (all_hold x.guards w.env) _
      (λ e.
      let goes : step o x w ≡ work_after o x.op w = ap (λ b. cond b (work_after o x.op w) w) e in
      let goes_alone : step (alone world) x w ≡ work_after (alone world) x.op w = ap (λ b. cond b (work_after (alone world) x.op w) w) e in
      let on : onpath path (looked_all (x ∷ xs)) ≡ record (look x) { guards = [] } ∷ onpath path (looked_all xs) =
      ap (λ b. cond b (record (look x) { guards = [] } ∷ onpath path (looked_all xs)) (onpath path (looked_all xs))) (sym q.0 ∙ e) in
      let h1 : reads_ok p c (record (look x) { guards = [] } ∷ onpath path (looked_all xs)) ≡ true = subst (λ l. reads_ok p c l ≡ true) on h in
      let here : op_ok p s c (answered_op x.op) ≡ true =
      subst (λ n. op_ok p n c (answered_op x.op) ≡ true) a.0 (and_left (op_ok p x.stage c (answered_op x.op)) _ h1) in
      let k' : (do_all o xs (work_after o x.op w)).ready ≡ true = subst (λ v. (do_all o xs v).ready ≡ true) goes k in
      let step_one : One p o world s clean c x.op xs w = one c x xs w e here (and_left _ _ u) g (was_ready o xs (work_after o x.op w) k') r asks in
      let q' : Fixed path (alone world) xs (work_after o x.op w) = subst (λ v. Fixed path (alone world) xs v) (goes_alone ∙ sym step_one.same) q.1 in
      let rest =
      alike_asking path (scan_after (answered_op x.op) c) xs (work_after o x.op w) a.1 q' (and_right (unseen_op x.op xs) _ u)
      (and_right (op_ok p x.stage c (answered_op x.op)) _ h1) step_one.covers k' step_one.right step_one.asks in (
        ap (do_all o xs) goes ∙ rest.0 ∙ ap (do_all (alone world) xs) (step_one.same ∙ sym goes_alone),
        subst (λ l. Right p s clean (scan_after_all l c).blocked (do_all o (x ∷ xs) w).env) (sym on)
            (subst (λ v. Right p s clean (scan_after_all (onpath path (looked_all xs)) (scan_after (answered_op x.op) c)).blocked (do_all o xs v).env)
            (sym goes) rest.1),
        subst (λ l. AllAsks (Known clean (scan_after_all l c) []) (do_all o (x ∷ xs) w).asks) (sym on)
            (subst (λ v. AllAsks (Known clean (scan_after_all (onpath path (looked_all xs)) (scan_after (answered_op x.op) c)) []) (do_all o xs v).asks)
            (sym goes) rest.2),
      ))
      (λ e.
      let goes : step o x w ≡ w = ap (λ b. cond b (work_after o x.op w) w) e in
      let goes_alone : step (alone world) x w ≡ w = ap (λ b. cond b (work_after (alone world) x.op w) w) e in
      let on : onpath path (looked_all (x ∷ xs)) ≡ onpath path (looked_all xs) =
      ap (λ b. cond b (record (look x) { guards = [] } ∷ onpath path (looked_all xs)) (onpath path (looked_all xs))) (sym q.0 ∙ e) in
      let rest =
      alike_asking path c xs w a.1 (subst (λ v. Fixed path (alone world) xs v) goes_alone q.1)
      (and_right (unseen_op x.op xs) _ u)
      (subst (λ l. reads_ok p c l ≡ true) on h) g (subst (λ v. (do_all o xs v).ready ≡ true) goes k) r
      (all_more (Known clean c (x ∷ xs)) (Known clean c xs) w.asks (λ q' d. (d.0, d.1, silent_rest x xs q'.var d.2)) asks) in (
        ap (do_all o xs) goes ∙ rest.0 ∙ ap (do_all (alone world) xs) (sym goes_alone),
        subst (λ l. Right p s clean (scan_after_all l c).blocked (do_all o (x ∷ xs) w).env) (sym on)
            (subst (λ v. Right p s clean (scan_after_all (onpath path (looked_all xs)) c).blocked (do_all o xs v).env) (sym goes) rest.1),
        subst (λ l. AllAsks (Known clean (scan_after_all l c) []) (do_all o (x ∷ xs) w).asks) (sym on)
            (subst (λ v. AllAsks (Known clean (scan_after_all (onpath path (looked_all xs)) c) []) (do_all o xs v).asks) (sym goes) rest.2),
      ))

  -- the blocked locations stay right when the answers come
  pub right_caught : (ls : List Location) (qs : List Ask) (env : List ℕ)
      → AllAsks (λ q. not (is_address ls q.var) ≡ true) qs → Right p s clean ls env
      → Right p s clean ls (caught world.words qs env)
  right_caught ls [] env h r = r
  right_caught ls (q ∷ qs) env h r =
      right_caught ls qs (slice_set env q.var (word_at world.words q.mem q.address)) h.1
      (right_set p s clean ls env q.var (word_at world.words q.mem q.address) h.0 r)
