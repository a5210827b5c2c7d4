-- What holds of a thread as its stage begins: its blocks for reading are ready, it holds each location at most once, and a guess has as many arguments as it should. So the statements of its stage are fine.
use Rattle.std.proofs.Common.{◌≡◌, refl, sym, ap, ap₂, ◌∙◌, subst, ℕ, ◌+◌, ◌≤◌, ◌<◌, inl, inr, Bool, true, false, ◌&&◌, ◌||◌, not, List, [], ◌∷◌, ◌++◌, length, None, ◌==◌, cond, if◌then◌else◌, arith, eq-eqb, slice_index}
use Rattle.std.proofs.lemmas.Bool.{false≢true, eqb-true, or_parts, not-true}
use Rattle.pdl_semantics.specs.Flat.{list_all, Op, Bind, CombRead, DelayedRead, Write, ReserveRead, ReserveWrite, Block, Release, Call, SpecCall, Verify, SpecCheck, SpecBarrier, AdviceBind, AdviceRead, AdviceWrite, Stmt, Pipe, all_hold}
use Rattle.pdl_semantics.specs.Stages.{onpath, in_stage, mem_at, reserve_stage, commit_stage, is_release, verify_stage}
use Rattle.pdl_semantics.specs.Locks.{read_ready, write_ready}
use Rattle.pdl_semantics.specs.Machine.{State, HeldLocation, Blocked, Ask, Kept, Deeds, deeds_after, is_held, let_go, held_after, held_before, with_kept, word_for, with_answers}
use Rattle.pdl_semantics.specs.Machine
use Rattle.pdl_semantics.specs.Sound.{stages_before, is_release_at, guess_after, guess_of}
use Rattle.pdl_semantics.specs.Moves.{block_ready}
use Rattle.pdl_semantics.specs.Promises.{DifferInAdvice}
use Rattle.pdl_theory_turns.specs.Derived.{Entry, Work, Around, has_entry, latest, around, port_free}
use Rattle.pdl_theory_turns.specs.Derived
use Rattle.pdl_theory_turns.specs.Alone.{answered_op}
use Rattle.pdl_theory_turns.specs.Scans.{no_guards, Phase, Fresh, phase_all, Scan, no_scan, has_location, scan_after, scan_after_all, op_ok, reads_ok, none_of, location}
use Rattle.pdl_theory_turns.specs.GuessScans.{Making, Unmade, next_making, making_all, is_guessed}
use Rattle.pdl_theory_turns.specs.Facts.{Sound, looked_all}
use Rattle.pdl_theory_turns.proofs.Writes.{and_left, and_right}
use Rattle.pdl_theory_turns.proofs.Entries.{entries_of, Open, Full, waiting, known, open_vars, full_vars}
use Rattle.pdl_theory_turns.proofs.Deeds.{places, places_has, AllFit, Loosely, loose_step}
use Rattle.pdl_theory_turns.proofs.Paths.{Fixed, none_onpath}
use Rattle.pdl_theory_turns.proofs.Surroundings.{Right, in_stage_all}
use Rattle.pdl_theory_turns.proofs.StrayPaths.{verify_looked}
use Rattle.pdl_theory_simulation.proofs.AcceptedFacts.{sound_flows}
use Rattle.pdl_theory_simulation.proofs.Shapes.{Shape, none_till, held_ops, held_path}
use Rattle.pdl_theory_simulation.proofs.FlowFacts.{uses_ok}
use Rattle.pdl_theory_simulation.proofs.Stretches.{Keeps, start_of, start_deeds, fixed_here}
use Rattle.pdl_theory_simulation.proofs.Seats.{Live, seat, threads_of, dacts, now_of, befores_are}
use Rattle.pdl_theory_simulation.proofs.Choices.{Known, keeps_now, fit_all, starts_here}
use Rattle.pdl_machine_facts.specs.Use.{before_stage, AreFine}
use Rattle.pdl_machine_facts.proofs.StatementUses.{IsAlong}
use Rattle.pdl_theory_states.specs.Strict.{Strict}
use Rattle.pdl_theory_states.proofs.PastStatements.{BlockOk, is_released}
use Rattle.pdl_theory_states.proofs.UnusedValues.{AllOps, onto}
use Rattle.pdl_theory_states.proofs.Points.{guess_onto}
use Rattle.pdl_theory_states.proofs.Trails.{AllStmts, stmts_ops, ops_stmts}
use Rattle.pdl_theory_states.proofs.ThreadHistory.{Local, past_of, local_answered, kept_unused}
use Rattle.pdl_semantics.proofs.Readiness.{read_write}
use Rattle.pdl_theory_states.proofs.Releases.{low_stages}
use Rattle.pdl_theory_states.proofs.Stage.{look_at, kept_blocks, LowBlock, low_blocks}
use Rattle.pdl_theory_states.proofs.ThreadFacts.{Lasting, any_ask_map, awaited_map}
use Rattle.pdl_machine_lockuse.specs.Careful.{Careful, reserves_at, keeps_kind, all_keep_kind, passes_on}
use Rattle.pdl_machine_lockuse.proofs.Reservations.{one_if, times, Single, single_fresh, single_all}
use Rattle.pdl_machine_lockuse.proofs.HeldLocations.{Covers, covers_op, count_at, HeldOnce}
use Rattle.pdl_machine_lockuse.proofs.StageStatements.{Clean, values_long, fine_all}
use Rattle.pdl_machine_lockuse.specs.Use.{AreLetIn}
use Rattle.pdl_machine_lockuse.proofs.LetIn.{blocks_of, Let, let_all, let_start}
use Rattle.pdl_machine_lockuse.proofs.Paths.{path, mine, passed, mine_new, mine_let_in, mine_reads, mine_uses, mine_makings, mine_early, passed_kinds, all_way, all_here, passed_uses}

-- STATEMENTS THAT WENT BY

unheld_let_go : (hs : List HeldLocation) (n b m a : ℕ) → is_held hs m a ≡ false → is_held (let_go hs n b) m a ≡ false
unheld_let_go [] n b m a h = h
unheld_let_go (l ∷ hs) n b m a h =
    let k = or_parts ((l.mem == m) && (l.var == a)) (is_held hs m a) h in
    at ((l.mem == n) && (l.var == b)) k.0 k.1 (unheld_let_go hs n b m a k.1)
  where
    at : (t : Bool) → ((l.mem == m) && (l.var == a)) ≡ false → is_held hs m a ≡ false → is_held (let_go hs n b) m a ≡ false
        → is_held (cond t hs (l ∷ let_go hs n b)) m a ≡ false
    at true i j r = j
    at false i j r = ap₂ (λ x y. x || y) i r

unheld_op : (m a : ℕ) (op : Op) (hs : List HeldLocation)
    → reserves_at m a op ≡ false → is_held hs m a ≡ false → is_held (held_after op hs) m a ≡ false
unheld_op m a (ReserveWrite n b) hs r h = ap₂ (λ x y. x || y) r h
unheld_op m a (Release n b) hs r h = unheld_let_go hs n b m a h
unheld_op m a _ hs r h = h

unheld_all : (m a : ℕ) (xs : List Stmt) (hs : List HeldLocation)
    → none_of (reserves_at m a) xs ≡ true → is_held hs m a ≡ false → is_held (held_ops xs hs) m a ≡ false
unheld_all m a [] hs r h = h
unheld_all m a (x ∷ xs) hs r h =
    unheld_all m a xs (held_after x.op hs) (and_right (not (reserves_at m a x.op)) _ r) (unheld_op m a x.op hs (not-true _ (and_left _ _ r)) h)

unreleased_onto : (m a : ℕ) (xs : List Stmt) (past : List Op) → none_of (is_release m) xs ≡ true → is_released m a past ≡ false
    → is_released m a (onto xs past) ≡ false
unreleased_onto m a [] past r h = h
unreleased_onto m a (x ∷ xs) past r h =
    unreleased_onto m a xs (x.op ∷ past) (and_right (not (is_release m x.op)) _ r) (ap₂ (λ b c. b || c) (one x.op (not-true _ (and_left _ _ r))) h)
  where
    at : (b c : Bool) → b ≡ false → (b && c) ≡ false
    at true c k = absurd (cc k)
    at false c k = refl

    one : (op : Op) → is_release m op ≡ false → is_release_at m a op ≡ false
    one (Release n b) k = at (n == m) (b == a) k
    one _ k = refl

-- BLOCKED FOR READING

module _ (p : Pipe) (s : ℕ) (clean : ℕ → ℕ → Type 0) (env : List ℕ) (o : Around) (es : List Entry) (past : List Op)
    (unreleased : (m a : ℕ) → s ≤ commit_stage p m → is_released m a past ≡ false)
    (cleans : (m a : ℕ) → o.can_read m (slice_index env a) ≡ true → clean m (slice_index env a)) where
  block_right : (c : Scan) (hs : List HeldLocation) (m a : ℕ) (xs : List Stmt) → Covers c.held hs → reserve_stage p m ≤ s → BlockOk o env es past (Block m a)
      → none_of (reserves_at m a) xs ≡ true → places es ≡ held_ops xs hs → Right p s clean c.blocked env
      → Right p s clean (cond (has_location c.held m a) c (record { held = c.held; blocked = location m a ∷ c.blocked })).blocked env
  block_right c hs m a xs f low b r e k = at (has_location c.held m a) refl
    where
      at : (t : Bool) → has_location c.held m a ≡ t → Right p s clean (cond t c (record { held = c.held; blocked = location m a ∷ c.blocked })).blocked env
      at true q = k
      at false q = (low, (λ early. by early b), k)
        where
          not_held : is_held hs m a ≡ false
          not_held = go (is_held hs m a) refl
            where
              go : (t : Bool) → is_held hs m a ≡ t → is_held hs m a ≡ false
              go true i = absurd (false≢true (sym q ∙ f m a i))
              go false i = i

          none : has_entry es m a ≡ false
          none = sym (places_has es m a) ∙ ap (λ l. is_held l m a) e ∙ unheld_all m a xs hs r not_held

          by : s ≤ commit_stage p m → BlockOk o env es past (Block m a) → clean m (slice_index env a)
          by early (inl i) = absurd (false≢true (sym (unreleased m a early) ∙ i))
          by early (inr i) = cleans m a (subst (λ t. cond t (o.can_write m (slice_index env a)) (o.can_read m (slice_index env a)) ≡ true) none i)

  right_op : (c : Scan) (hs : List HeldLocation) (op : Op) (xs : List Stmt) → Covers c.held hs → LowBlock p s op
      → BlockOk o env es past op → keeps_kind op xs ≡ true
      → places es ≡ held_ops xs (held_after op hs) → Right p s clean c.blocked env → Right p s clean (scan_after (answered_op op) c).blocked env
  right_op c hs (Block m a) xs f low b r e k = block_right c hs m a xs f (low m a refl) b r e k
  right_op c hs (DelayedRead x m a) xs f low b r e k = k
  right_op c hs _ xs f low b r e k = k

  right_all : (c : Scan) (hs : List HeldLocation) (xs : List Stmt) → Covers c.held hs → AllStmts (λ z. LowBlock p s z.op) xs
      → AllStmts (λ z. BlockOk o env es past z.op) xs → all_keep_kind xs ≡ true → places es ≡ held_ops xs hs → Right p s clean c.blocked env
      → Right p s clean (scan_after_all (looked_all xs) c).blocked env
  right_all c hs [] f low b r e k = k
  right_all c hs (x ∷ xs) f low b r e k =
      right_all (scan_after (answered_op x.op) c) (held_after x.op hs) xs (covers_op c x.op hs f) low.1 b.1 (and_right (keeps_kind x.op xs) _ r) e
      (right_op c hs x.op xs f low.0 b.0 (and_left _ _ r) e k)

covers_all : (c : Scan) (hs : List HeldLocation) (xs : List Stmt) → Covers c.held hs
    → Covers (scan_after_all (looked_all xs) c).held (held_ops xs hs)
covers_all c hs [] f = f
covers_all c hs (x ∷ xs) f = covers_all (scan_after (answered_op x.op) c) (held_after x.op hs) xs (covers_op c x.op hs f)

-- EACH LOCATION OF A MEMORY ONCE

count_own : (m a : ℕ) (es : List Entry) → count_at m a (places es) ≡ count_at m a (places (entries_of m es))
count_own m a [] = refl
count_own m a (e ∷ es) = at (e.mem == m) refl (count_own m a es)
  where
    zero : (n : ℕ) → 0 + n ≡ n
    zero n = omega arith

    at : (b : Bool) → (e.mem == m) ≡ b → count_at m a (places es) ≡ count_at m a (places (entries_of m es))
        → one_if ((e.mem == m) && (e.var == a)) + count_at m a (places es)
        ≡ count_at m a (places (cond b (e ∷ entries_of m es) (entries_of m es)))
    at true i h = ap (λ n. one_if ((e.mem == m) && (e.var == a)) + n) h
    at false i h = ap (λ b. one_if (b && (e.var == a)) + count_at m a (places es)) i ∙ zero (count_at m a (places es)) ∙ h

count_known : (m a : ℕ) (fs : List Full) → count_at m a (places (known m fs)) ≡ times a (full_vars fs)
count_known m a [] = refl
count_known m a (f ∷ fs) =
    ap₂ (λ b n. one_if (b && (f.var == a)) + n) (eq-eqb m m refl) (count_known m a fs)

count_waiting : (m a : ℕ) (os : List Open) (fs : List Full)
    → count_at m a (places (waiting m os ++ known m fs)) ≡ times a (open_vars os) + times a (full_vars fs)
count_waiting m a [] fs = count_known m a fs ∙ zero (times a (full_vars fs))
  where
    zero : (n : ℕ) → n ≡ 0 + n
    zero n = omega arith
count_waiting m a (o ∷ os) fs =
    ap₂ (λ b n. one_if (b && (o.var == a)) + n) (eq-eqb m m refl) (count_waiting m a os fs)
    ∙ front (one_if (o.var == a)) (times a (open_vars os)) (times a (full_vars fs))
  where
    front : (i j k : ℕ) → i + (j + k) ≡ (i + j) + k
    front i j k = omega arith

once_shape : (m : ℕ) (ph : Phase) (es : List Entry) → Single ph → Shape m ph (entries_of m es) → HeldOnce m ph (places es)
once_shape m ph es single s = record {
  few = λ a. low (times a ph.unwritten) (times a ph.full) (times a ph.gone) (count_at m a (places es))
      (count_own m a es ∙ ap (λ l. count_at m a (places l)) s.entries ∙ count_waiting m a s.opens s.fulls
      ∙ ap₂ (λ k l. times a k + times a l) s.at_open s.at_full);
  single = single;
}
  where
    low : (i j k n : ℕ) → n ≡ i + j → n ≤ i + (j + k)
    low i j k n e = omega (arith, e)

-- THE GUESS

guess_op : (size : ℕ) (advice : List Kept) (env guess : List ℕ) (g : Making) (op : Op) → passes_on size op ≡ true
    → (is_guessed g ≡ true → length guess ≡ size)
    → is_guessed (next_making g (answered_op op)) ≡ true → length (guess_after op advice env guess) ≡ size
guess_op size advice env guess g (SpecCall args) y f i = values_long args (with_kept advice env) ∙ eqb-true (length args) size y
guess_op size advice env guess g (Call args) y f i = absurd (false≢true i)
guess_op size advice env guess g (Verify true args) y f i = absurd (false≢true i)
guess_op size advice env guess g (Verify false args) y f i = values_long args (with_kept advice env) ∙ eqb-true (length args) size y
guess_op size advice env guess g (DelayedRead x m a) y f i = f i
guess_op size advice env guess g _ y f i = f i

guess_all : (size : ℕ) (advice : List Kept) (env guess : List ℕ) (g : Making) (xs : List Stmt)
    → list_all (λ (x : Stmt). passes_on size x.op) xs ≡ true
    → (is_guessed g ≡ true → length guess ≡ size) → is_guessed (making_all g (looked_all xs)) ≡ true → length (guess_of xs advice env guess) ≡ size
guess_all size advice env guess g [] y f i = f i
guess_all size advice env guess g (x ∷ xs) y f i =
    guess_all size advice env (guess_after x.op advice env guess) (next_making g (answered_op x.op)) xs (and_right (passes_on size x.op) _ y)
    (guess_op size advice env guess g x.op (and_left _ _ y) f) i

-- READS OF ONE PATH ARE READS OF THE PIPE

op_same : (p : Pipe) (zs : List Stmt) (s : ℕ) (c : Scan) (op : Op) → op_ok (record p { stmts = zs }) s c op ≡ op_ok p s c op
op_same p zs s c (Bind x e) = refl
op_same p zs s c (CombRead x m a) = refl
op_same p zs s c (DelayedRead x m a) = refl
op_same p zs s c (Write m a e) = refl
op_same p zs s c (ReserveRead m a) = refl
op_same p zs s c (ReserveWrite m a) = refl
op_same p zs s c (Block m a) = refl
op_same p zs s c (Release m a) = refl
op_same p zs s c (Call args) = refl
op_same p zs s c (SpecCall args) = refl
op_same p zs s c (Verify last args) = refl
op_same p zs s c SpecCheck = refl
op_same p zs s c SpecBarrier = refl
op_same p zs s c (AdviceBind x e) = refl
op_same p zs s c (AdviceRead x m a) = refl
op_same p zs s c (AdviceWrite m a e) = refl

reads_same : (p : Pipe) (zs : List Stmt) (c : Scan) (xs : List Stmt) → reads_ok (record p { stmts = zs }) c xs ≡ reads_ok p c xs
reads_same p zs c [] = refl
reads_same p zs c (x ∷ xs) = ap₂ (λ a b. (no_guards x.guards && a) && b) (op_same p zs x.stage c x.op) (reads_same p zs (scan_after x.op c) xs)

-- a stage's statements are carried out as the path at their end tells
module _ (o : Around) (read : ℕ → ℕ → ℕ) (block : Blocked → Bool) (free : Ask → Bool) where
  -- where the work on fitting statements takes each just where a path does, so do the deeds of these statements
  pub along_of : (path : List ℕ) (xs : List Stmt) (d : Deeds) (w : Work) → Loosely o read block free d w → AllFit o read block free xs
      → Fixed path o xs w → IsAlong path read xs d
  along_of path [] d w l f q = tt
  along_of path (x ∷ xs) d w l f q = (
    ap (λ (v : Work). all_hold x.guards v.env) (sym l.is) ∙ q.0,
    along_of path xs (if all_hold x.guards d.env then deeds_after read x.op d else d)
        (if all_hold x.guards w.env then Derived.work_after o x.op w else w)
        (subst (λ b. Loosely o read block free (if all_hold x.guards d.env then deeds_after read x.op d else d) (cond b (Derived.work_after o x.op w) w))
        (ap (λ (v : Work). all_hold x.guards v.env) (sym l.is)) (loose_step o read block free (all_hold x.guards d.env) x.op d w f.0 l)) f.1 q.1,
  )

-- A LIVE THREAD

module _ (p : Pipe) (sound : Sound p) (st : State) (d : Derived.State) (bits : List Bool)
    (arrays : DifferInAdvice p st.arrays d.arrays) (older : List Live) (l : Live)
    (k : Known p (sound_flows p sound) st d bits arrays older l) where
  abbrev way : List ℕ
  way = path p sound st d bits arrays older l k

  abbrev own : List Stmt
  own = mine p sound st d bits arrays older l k

  abbrev done : List Stmt
  done = passed p sound st d bits arrays older l k

  keeps : Keeps p l.env (now_of p d bits l)
  keeps = keeps_now p (sound_flows p sound) st d bits arrays l k.seated

  abbrev o : Around
  o = around p d bits (dacts p d bits older) l.thread.stage l.thread.hint

  -- the deeds with which its stage begins
  abbrev pub begun : Deeds
  begun = start_deeds p (sound_flows p sound) l.env (now_of p d bits l) (keeps_now p (sound_flows p sound) st d bits arrays l k.seated) l.advice

  -- before the statements of its stage the thread in the stated machine has these deeds
  pub begun_is : before_stage p l.thread.stage (with_answers p st bits (seat l)) ≡ begun
  begun_is = λ i. record {
    env = k.values i;
    advice = l.advice;
    guess = l.thread.guess;
    held = held_before l.thread.stage l.env p.stmts [];
    blocks = [];
    reserves = [];
    writes = [];
    releases = [];
    asks = [];
    advises = [];
    barrier = false;
    child = None;
    fails = false;
  }

  -- the statements of its stage are carried out just where its path takes them
  pub along_here : IsAlong (path p sound st d bits arrays older l k) (word_for st l.number) (in_stage l.thread.stage p.stmts) begun
  along_here =
      along_of o (word_for st l.number) (λ b. block_ready p st l.number b)
      (λ q. port_free p d bits (dacts p d bits older) q.mem)
      way (in_stage l.thread.stage p.stmts) begun (start_of (now_of p d bits l)) (starts_here p (sound_flows p sound) st d bits arrays older l k)
      (fit_all p (sound_flows p sound) st d bits arrays older l k)
      (fixed_here p (sound_flows p sound) l.env (now_of p d bits l) keeps o)

  -- the statements of the earlier stages use each memory in order
  done_uses : (m : ℕ) → uses_ok m Fresh done ≡ true
  done_uses m = passed_uses p sound st d bits arrays older l k m

  passed_held : held_before l.thread.stage l.env p.stmts [] ≡ held_ops done []
  passed_held = held_path l.thread.stage l.env p.stmts []

  module _ (strict : Strict p) (careful : Careful p) (lasting : Lasting p st l older) where
    now_local : Local p l.env (l.kept ++ Machine.answered_reads p st bits l.number l.thread.awaits) (now_of p d bits l)
    now_local =
        local_answered p st bits l.number l.env l.kept l.thread (now_of p d bits l).env (Derived.still p bits l.thread.awaits) k.waits lasting.local
        (awaited_map (λ r i. any_ask_map (λ q j. j.0) lasting.local.asks i) l.thread.awaits lasting.owns)

    blocks_past : AllOps (BlockOk (look_at p (threads_of older)) (now_of p d bits l).env l.thread.entries (past_of p l.env l.thread.stage))
        (past_of p l.env l.thread.stage)
    blocks_past =
        subst
        (λ e. AllOps (BlockOk (look_at p (threads_of older)) e l.thread.entries (past_of p l.env l.thread.stage)) (past_of p l.env l.thread.stage)) k.values
        (kept_blocks (look_at p (threads_of older)) l.thread.entries (past_of p l.env l.thread.stage)
        (past_of p l.env l.thread.stage) (l.kept ++ Machine.answered_reads p st bits l.number l.thread.awaits) l.env
        (kept_unused p l.env (l.kept ++ Machine.answered_reads p st bits l.number l.thread.awaits) (now_of p d bits l) now_local) lasting.blocks)

    blocks_now : AllStmts (λ z. BlockOk (look_at p (threads_of older)) (now_of p d bits l).env l.thread.entries (past_of p l.env l.thread.stage) z.op)
        done
    blocks_now =
        (stmts_ops (BlockOk (look_at p (threads_of older)) (now_of p d bits l).env l.thread.entries (past_of p l.env l.thread.stage)) done [] blocks_past).0

    low_here : AllStmts (λ z. LowBlock p l.thread.stage z.op) done
    low_here = both done (low_blocks p sound l.env l.thread.stage) (low_stages l.env l.thread.stage p.stmts)
      where
        both : (xs : List Stmt) → AllStmts (λ z. LowBlock p z.stage z.op) xs → AllStmts (λ z. z.stage < l.thread.stage) xs
            → AllStmts (λ z. LowBlock p l.thread.stage z.op) xs
        both [] f g = tt
        both (x ∷ xs) f g = ((λ m a e. let i = f.0 m a e in let j = g.0 in omega (arith, i, j)), both xs f.1 g.1)

    unreleased_yet : (m a : ℕ) → l.thread.stage ≤ commit_stage p m → is_released m a (past_of p l.env l.thread.stage) ≡ false
    unreleased_yet m a i =
        unreleased_onto m a done []
        (none_onpath (is_release m) l.env (stages_before l.thread.stage p.stmts)
        (none_till (is_release m) (commit_stage p m) l.thread.stage p.stmts ((sound_flows p sound).releases m) i)) refl

    reads_here : reads_ok p (scan_after_all (looked_all done) no_scan)
        (looked_all own) ≡ true
    reads_here =
        sym (reads_same p (onpath way (looked_all p.stmts)) (scan_after_all (looked_all done) no_scan) (looked_all own))
        ∙ mine_reads p sound st d bits arrays older l k

    covers_start : Covers (scan_after_all (looked_all done) no_scan).held (held_before l.thread.stage l.env p.stmts [])
    covers_start =
        subst (Covers (scan_after_all (looked_all done) no_scan).held) (sym passed_held)
        (covers_all no_scan [] done (λ m a h. h))

    right_start : Right p l.thread.stage (Clean p st l.number) (scan_after_all (looked_all done) no_scan).blocked
        (now_of p d bits l).env
    right_start =
        right_all p l.thread.stage (Clean p st l.number) (now_of p d bits l).env (look_at p (threads_of older)) l.thread.entries
        (past_of p l.env l.thread.stage)
        unreleased_yet
        (λ m a i. ap (read_ready (mem_at p m).lock)
        (k.older m (slice_index (now_of p d bits l).env a) ∙ ap (λ ts. latest ts m (slice_index (now_of p d bits l).env a)) (befores_are p d bits older))
        ∙ i)
        no_scan [] done (λ m a h. h) low_here blocks_now (passed_kinds p sound st d bits arrays older l k careful)
        (k.seated.keeps_on.held ∙ passed_held) tt

    guess_start : is_guessed (making_all Unmade (looked_all done)) ≡ true → length l.thread.guess ≡ length p.start
    guess_start i =
        ap length (lasting.local.guessed ∙ guess_onto l.thread.hint l.advice l.env done [] lasting.guessed)
        ∙ guess_all (length p.start) l.advice l.env [] Unmade done (all_way (passes_on (length p.start)) l.env l.thread.stage p.stmts careful.args)
        (λ e. absurd (false≢true e)) i

    let_begin : Right p l.thread.stage (Let p st l.number) (blocks_of (past_of p l.env l.thread.stage)) (now_of p d bits l).env
    let_begin =
        let_start p l.thread.stage (Let p st l.number) (now_of p d bits l).env (look_at p (threads_of older)) l.thread.entries
        (past_of p l.env l.thread.stage) unreleased_yet
        (λ m a i. ap (write_ready (mem_at p m).lock)
        (k.older m (slice_index (now_of p d bits l).env a) ∙ ap (λ ts. latest ts m (slice_index (now_of p d bits l).env a)) (befores_are p d bits older))
        ∙ i)
        (λ m a i. read_write (mem_at p m).lock (latest (threads_of older) m a) i) (past_of p l.env l.thread.stage)
        (ops_stmts (LowBlock p l.thread.stage) done [] low_here tt) blocks_past

    -- reads and writes find their blocks ready
    pub let_here : AreLetIn p st l.number (in_stage l.thread.stage p.stmts) (before_stage p l.thread.stage (with_answers p st bits (seat l)))
    let_here =
        subst (AreLetIn p st l.number (in_stage l.thread.stage p.stmts)) (sym begun_is)
        (let_all p st l.number p.vars l.thread.stage (scan_after_all (looked_all done) no_scan) way (past_of p l.env l.thread.stage)
        (in_stage l.thread.stage p.stmts) begun
        (in_stage_all l.thread.stage p.stmts) along_here reads_here (mine_new p sound st d bits arrays older l k strict)
        (mine_let_in p sound st d bits arrays older l k careful) (mine_early p sound st d bits arrays older l k strict)
        covers_start (λ e. right_start) (λ e. let_begin))

    -- the statements of its stage are fine
    pub fine_here : AreFine p st l.number (in_stage l.thread.stage p.stmts) (before_stage p l.thread.stage (with_answers p st bits (seat l)))
    fine_here =
        subst (AreFine p st l.number (in_stage l.thread.stage p.stmts)) (sym begun_is)
        (fine_all p st l.number (length p.start) l.thread.stage (verify_stage (looked_all p.stmts)) (scan_after_all (looked_all done) no_scan) way
        (λ m. phase_all m Fresh done) (making_all Unmade (looked_all done))
        (in_stage l.thread.stage p.stmts) begun (sym (verify_looked p.stmts))
        (in_stage_all l.thread.stage p.stmts) along_here
        reads_here
        (mine_uses p sound st d bits arrays older l k) (mine_makings p sound st d bits arrays older l k)
        (all_here (passes_on (length p.start)) way l.thread.stage p.stmts careful.args)
        (mine_early p sound st d bits arrays older l k strict)
        (λ m. subst (HeldOnce m (phase_all m Fresh done)) k.seated.keeps_on.held
        (once_shape m (phase_all m Fresh done) l.thread.entries (single_all m Fresh done (done_uses m) single_fresh) (k.seated.keeps_on.shape m)))
        covers_start guess_start (λ a b. refl) (λ e. right_start))
