-- A read and a write find the blocks of their locations ready: those of the stage since the thread moves, earlier ones since they stay so.
use Rattle.std.proofs.Common.{◌≡◌, refl, sym, ap, ap₂, ◌∙◌, subst, ℕ, ◌≤◌, inl, inr, Bool, true, false, ◌&&◌, ◌||◌, not, List, [], ◌∷◌, ◌++◌, Some, ◌==◌, cond, slice_index}
use Rattle.std.proofs.lemmas.Bool.{false≢true, leb-true, or_parts}
use Rattle.pdl_semantics.specs.Flat.{list_all, Op, Bind, CombRead, DelayedRead, Write, ReserveWrite, Block, Verify, Stmt, Pipe, all_hold, value_of}
use Rattle.pdl_semantics.specs.Stages.{onpath, mem_at, reserve_stage, commit_stage}
use Rattle.pdl_semantics.specs.Locks.{read_ready, write_ready}
use Rattle.pdl_semantics.specs.Machine.{State, Blocked, Deeds, deeds_after, is_held, older_write, word_for, same_args, checked_args}
use Rattle.pdl_semantics.specs.Moves.{block_ready, blocks_ready, have_room}
use Rattle.pdl_theory_turns.specs.Derived.{Around, Entry, has_entry}
use Rattle.pdl_theory_turns.specs.Alone.{Location, answered_op}
use Rattle.pdl_theory_turns.specs.Scans.{no_guards, Scan, is_address, has_location, scan_after, op_ok, reads_ok, location}
use Rattle.pdl_theory_turns.specs.Facts.{looked_all, mentions_var}
use Rattle.pdl_theory_turns.proofs.Writes.{and_left, and_right}
use Rattle.pdl_theory_turns.proofs.Surroundings.{Right, AllIn, right_set}
use Rattle.pdl_machine_facts.specs.Slots.{locks_ready}
use Rattle.pdl_machine_facts.specs.Use.{in_time, is_early}
use Rattle.pdl_machine_facts.proofs.StatementUses.{IsAlong}
use Rattle.pdl_theory_states.specs.Strict.{bound_by, uses_own, is_mentioned, is_new, all_new}
use Rattle.pdl_theory_states.proofs.PastStatements.{BlockOk, is_released}
use Rattle.pdl_theory_states.proofs.UnusedValues.{AllOps}
use Rattle.pdl_semantics.proofs.Readiness.{read_write}
use Rattle.pdl_theory_states.proofs.Stage.{LowBlock}
use Rattle.pdl_machine_lockuse.proofs.FewerReserves.{room_before}
use Rattle.pdl_machine_lockuse.specs.Careful.{is_block_at, was_blocked, is_let_in, all_let_in}
use Rattle.pdl_machine_lockuse.specs.Use.{IsLetIn, AreLetIn}
use Rattle.pdl_machine_lockuse.proofs.HeldLocations.{right_at, Covers, covers_op, held_does}
use Rattle.pdl_machine_lockuse.proofs.StageStatements.{RightIf, all_last, read_here, right_next}

-- the locations that these statements blocked
abbrev pub block_of : Op → List Location → List Location
block_of (Block m a) ls = location m a ∷ ls
block_of _ ls = ls

-- the locations that these statements blocked, the last first
abbrev pub blocks_of : List Op → List Location
blocks_of [] = []
blocks_of (op ∷ past) = block_of op (blocks_of past)

blocked_opened : (m a : ℕ) (past : List Op) → was_blocked m a past ≡ true → has_location (blocks_of past) m a ≡ true
blocked_opened m a [] h = h
blocked_opened m a (op ∷ past) h = one op h (blocked_opened m a past)
  where
    at : (t b : Bool) (ls : List Location) → (t || b) ≡ true → (b ≡ true → has_location ls m a ≡ true) → (t || has_location ls m a) ≡ true
    at true b ls i f = refl
    at false b ls i f = f i

    one : (op : Op) → (is_block_at m a op || was_blocked m a past) ≡ true → (was_blocked m a past ≡ true → has_location (blocks_of past) m a ≡ true)
        → has_location (block_of op (blocks_of past)) m a ≡ true
    one (Block n b) i f = at ((n == m) && (b == a)) (was_blocked m a past) (blocks_of past) i f
    one _ i f = f i

not_used : (x : ℕ) (past : List Op) → is_mentioned x past ≡ false → is_address (blocks_of past) x ≡ false
not_used x [] h = refl
not_used x (op ∷ past) h = let k = or_parts (mentions_var x op) (is_mentioned x past) h in one op k.0 (not_used x past k.1)
  where
    one : (op : Op) → mentions_var x op ≡ false → is_address (blocks_of past) x ≡ false → is_address (block_of op (blocks_of past)) x ≡ false
    one (Block m a) i r = ap₂ (λ b c. b || c) i r
    one _ i r = r

module _ (p : Pipe) (st : State) (n : ℕ) where
  -- a write to this address of the memory finds its block ready
  abbrev pub Let : ℕ → ℕ → Type 0
  Let m a = write_ready (mem_at p m).lock (older_write st n m a) ≡ true

  -- where the locks let the thread move, the locations that these statements before one of stage s blocked let a write in
  abbrev LetIf : ℕ → List Op → Deeds → Type 0
  LetIf s past d = locks_ready p st n d ≡ true → Right p s Let (blocks_of past) d.env

  fresh : (vars x : ℕ) (past : List Op) → is_new vars past (Some x) ≡ true → not (is_address (blocks_of past) x) ≡ true
  fresh vars x past h = ap not (not_used x past (off (is_mentioned x past) (and_right _ _ h)))
    where
      off : (b : Bool) → not b ≡ true → b ≡ false
      off true i = absurd (cc i)
      off false i = refl

  let_next : (vars s : ℕ) (past : List Op) (op : Op) (d : Deeds) → is_new vars past (bound_by op) ≡ true → LowBlock p s op → LetIf s past d
      → LetIf s (op ∷ past) (deeds_after (word_for st n) op d)
  let_next vars s past (Bind x e) d h low r = λ k. right_set p s Let (blocks_of past) d.env x (value_of e d.env) (fresh vars x past h) (r k)
  let_next vars s past (CombRead x m a) d h low r =
      λ k. right_set p s Let (blocks_of past) d.env x (word_for st n m (slice_index d.env a)) (fresh vars x past h) (r k)
  let_next vars s past (Verify last args) d h low r = at (same_args (checked_args last args d) d.guess)
    where
      at : (b : Bool) → LetIf s past (cond b d (record d { child = Some (checked_args last args d); guess = checked_args last args d; fails = true }))
      at true = r
      at false = r
  let_next vars s past (ReserveWrite m a) d h low r =
      λ k. r (ap₂ (λ x y. x && y) (and_left (blocks_ready p st n d) _ k)
      (room_before p st d (deeds_after (word_for st n) (ReserveWrite m a) d) _ refl (and_right (blocks_ready p st n d) _ k)))
  let_next vars s past (Block m a) d h low r = λ k.
      let b : Blocked = record { mem = m; address = slice_index d.env a; writes = is_held d.held m a } in
      let q = all_last (λ b. block_ready p st n b) d.blocks b (and_left (list_all (λ b. block_ready p st n b) (d.blocks ++ b ∷ [])) _ k) in (
        low m a refl,
        (λ early. at (is_held d.held m a) q.1),
        r (ap₂ (λ x y. x && y) q.0 (and_right (list_all (λ b. block_ready p st n b) (d.blocks ++ b ∷ [])) (have_room p st d) k)),
      )
    where
      at : (w : Bool)
          → cond w (write_ready (mem_at p m).lock (older_write st n m (slice_index d.env a)))
          (read_ready (mem_at p m).lock (older_write st n m (slice_index d.env a))) ≡ true
          → write_ready (mem_at p m).lock (older_write st n m (slice_index d.env a)) ≡ true
      at true i = i
      at false i = read_write (mem_at p m).lock _ i
  let_next vars s past _ d h low r = r

  let_op : (s : ℕ) (c : Scan) (past : List Op) (op : Op) (d : Deeds) → op_ok p s c (answered_op op) ≡ true → is_let_in op past ≡ true → in_time p s op ≡ true
      → RightIf p st n s c d → LetIf s past d → locks_ready p st n d ≡ true → IsLetIn p st n op d
  let_op s c past (CombRead x m a) d h w e f r k = read_here p st n s c x m a d h f k
  let_op s c past (DelayedRead x m a) d h w e f r k = read_here p st n s c x m a d h f k
  let_op s c past (Write m a v) d h w e f r k = right_at p s Let (blocks_of past) d.env m a (blocked_opened m a past w) (leb-true s (commit_stage p m) e) (r k)
  let_op s c past _ d h w e f r k = tt

  -- where a path's statements of one stage pass the scans, each read and each write of them finds its location's block ready
  pub let_all : (vars s : ℕ) (c : Scan) (path : List ℕ) (past : List Op) (xs : List Stmt) (d : Deeds) → AllIn s xs → IsAlong path (word_for st n) xs d
      → reads_ok p c (looked_all (onpath path xs)) ≡ true → all_new vars past (onpath path xs) ≡ true → all_let_in past (onpath path xs) ≡ true
      → list_all (is_early p) (onpath path xs) ≡ true → Covers c.held d.held → RightIf p st n s c d → LetIf s past d → AreLetIn p st n xs d
  let_all vars s c path past [] d i q h k w e f r l = tt
  let_all vars s c path past (x ∷ xs) d i q h k w e f r l =
      at (all_hold x.guards d.env) (all_hold x.guards path) q.0 q.1 h k w e (λ c past d q h k w e f r l. let_all vars s c path past xs d i.1 q h k w e f r l)
    where
      Goal : Bool → Type 0
      Goal b = (b ≡ true → locks_ready p st n d ≡ true → IsLetIn p st n x.op d) × AreLetIn p st n xs (cond b (deeds_after (word_for st n) x.op d) d)

      low_op : (op : Op) → op_ok p s c (answered_op op) ≡ true → LowBlock p s op
      low_op op h m a e = leb-true (reserve_stage p m) s (subst (λ o. op_ok p s c (answered_op o) ≡ true) e h)

      at : (b t : Bool) → b ≡ t → IsAlong path (word_for st n) xs (cond b (deeds_after (word_for st n) x.op d) d)
          → reads_ok p c (looked_all (cond t (record x { guards = [] } ∷ onpath path xs) (onpath path xs))) ≡ true
          → all_new vars past (cond t (record x { guards = [] } ∷ onpath path xs) (onpath path xs)) ≡ true
          → all_let_in past (cond t (record x { guards = [] } ∷ onpath path xs) (onpath path xs)) ≡ true
          → list_all (is_early p) (cond t (record x { guards = [] } ∷ onpath path xs) (onpath path xs)) ≡ true
          →
          ((c : Scan) (past : List Op) (d : Deeds) → IsAlong path (word_for st n) xs d
          → reads_ok p c (looked_all (onpath path xs)) ≡ true → all_new vars past (onpath path xs) ≡ true
          → all_let_in past (onpath path xs) ≡ true
          → list_all (is_early p) (onpath path xs) ≡ true → Covers c.held d.held → RightIf p st n s c d → LetIf s past d → AreLetIn p st n xs d)
          → Goal b
      at true false z q h k w e go = absurd (cc z)
      at false true z q h k w e go = absurd (cc z)
      at false false z q h k w e go = ((λ b. absurd (false≢true b)), go c past d q h k w e f r l)
      at true true z q h k w e go =
          let ok : op_ok p s c (answered_op x.op) ≡ true =
          subst (λ j. op_ok p j c (answered_op x.op) ≡ true) i.0 (and_right (no_guards []) _ (and_left _ _ h)) in
          let early : in_time p s x.op ≡ true = subst (λ j. in_time p j x.op ≡ true) i.0 (and_left (is_early p x) _ e) in
          let new : is_new vars past (bound_by x.op) ≡ true =
          and_left (is_new vars past (bound_by x.op)) _ (and_left (is_new vars past (bound_by x.op) && not (uses_own x.op)) _ k) in (
            (λ a b. let_op s c past x.op d ok (and_left _ _ w) early r l b),
            go (scan_after (answered_op x.op) c) (x.op ∷ past)
                (deeds_after (word_for st n) x.op d) q (and_right (no_guards [] && op_ok p x.stage c (answered_op x.op)) _ h)
                (and_right (is_new vars past (bound_by x.op) && not (uses_own x.op)) _ k)
                (and_right (is_let_in x.op past) _ w) (and_right (is_early p x) _ e)
                (subst (Covers (scan_after (answered_op x.op) c).held) (sym (held_does (word_for st n) x.op d)) (covers_op c x.op d.held f))
                (right_next p st n s c x.op d ok f r) (let_next vars s past x.op d new (low_op x.op ok) l),
          )

-- AT THE START OF A STAGE

module _ (p : Pipe) (s : ℕ) (clean : ℕ → ℕ → Type 0) (env : List ℕ) (o : Around) (es : List Entry) (past : List Op)
    (unreleased : (m a : ℕ) → s ≤ commit_stage p m → is_released m a past ≡ false)
    (cleans : (m a : ℕ) → o.can_write m (slice_index env a) ≡ true → clean m (slice_index env a))
    (kind : (m a : ℕ) → o.can_read m a ≡ true → o.can_write m a ≡ true) where
  block_let : (op : Op) (ls : List Location) → LowBlock p s op → BlockOk o env es past op → Right p s clean ls env → Right p s clean (block_of op ls) env
  block_let (Block m a) ls low b r = (low m a refl, (λ early. by early b), r)
    where
      either : (t : Bool) → cond t (o.can_write m (slice_index env a)) (o.can_read m (slice_index env a)) ≡ true → o.can_write m (slice_index env a) ≡ true
      either true i = i
      either false i = kind m (slice_index env a) i

      by : s ≤ commit_stage p m → BlockOk o env es past (Block m a) → clean m (slice_index env a)
      by early (inl i) = absurd (false≢true (sym (unreleased m a early) ∙ i))
      by early (inr i) = cleans m a (either (has_entry es m a) i)
  block_let _ ls low b r = r

  -- the locations that were blocked stand no earlier than the reserves, and are clean up to the releases
  pub let_start : (ops : List Op) → AllOps (LowBlock p s) ops → AllOps (BlockOk o env es past) ops → Right p s clean (blocks_of ops) env
  let_start [] low b = tt
  let_start (op ∷ ops) low b = block_let op (blocks_of ops) low.0 b.0 (let_start ops low.1 b.1)
