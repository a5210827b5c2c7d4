-- What is still true of the statements that a thread has carried out: its values are what they gave, its pending writes stand at the addresses of their locations, its blocks are ready.
use Rattle.std.proofs.Common.{◌≡◌, refl, sym, ap, ap₂, ◌∙◌, subst, ℕ, ◌≤◌, ◌<◌, ◌⊎◌, inl, inr, Bool, true, false, ◌&&◌, ◌||◌, not, List, [], ◌∷◌, ◌++◌, length, Some, None, ◌==◌, nat_lt, cond, arith, slice_index, slice_set, eq-eqb, ltb-true}
use Rattle.std.proofs.lemmas.List.{get_or-set_other, get_or-set_same, length-set}
use Rattle.std.proofs.lemmas.Bool.{eqb-true, not-true, or_parts, or_right, or_left}
use Rattle.pdl_semantics.specs.Flat.{Op, Bind, CombRead, DelayedRead, Write, ReserveRead, ReserveWrite, Block, Release, Call, SpecCall, Verify, SpecCheck, SpecBarrier, Stmt, value_of, all_hold, AdviceBind, AdviceRead, AdviceWrite}
use Rattle.pdl_semantics.specs.Forms.{on_block}
use Rattle.pdl_semantics.specs.Stages.{onpath, is_release}
use Rattle.pdl_semantics.specs.Machine.{Ask, same_args}
use Rattle.pdl_semantics.specs.Sound.{is_release_at, is_call}
use Rattle.pdl_theory_turns.specs.Derived.{Entry, Work, Around, work_after, do_all, moved_up, without, with_entry_value, has_entry, said, Hint}
use Rattle.pdl_theory_turns.specs.Facts.{uses_in, mentions_var, asks_for, silent_on, unseen_op, is_unseen}
use Rattle.pdl_theory_turns.specs.Scans.{is_dead}
use Rattle.pdl_theory_turns.proofs.Writes.{and_left, and_right}
use Rattle.pdl_theory_simulation.proofs.FlowFacts.{call_ok, calls_ok}
use Rattle.pdl_theory_turns.proofs.Stages.{was_ready}
use Rattle.pdl_theory_turns.proofs.Paths.{Fixed, dead_none}
use Rattle.pdl_theory_turns.proofs.DelayedReads.{AllAsks, all_more, all_both, all_snoc}
use Rattle.pdl_theory_states.specs.Strict.{bound_by, uses_own, is_mentioned, is_new, all_new}
use Rattle.pdl_theory_turns.proofs.Surroundings.{has_filled, has_moved}
use Rattle.pdl_theory_turns.proofs.Entries.{entries_of}
use Rattle.pdl_theory_turns.proofs.Guesses.{same_args_eq}
use Rattle.pdl_word.proofs.Bools.{untrue}
use Rattle.pdl_theory_states.proofs.UnusedValues.{AllOps, AnyOp, ops_map, ops_both, any_both, onto, touches, value_agree, Done, done_agrees, done_guess, guess_past, guess_agrees, mention_touch, untouched, set_agrees, given, said_past}

-- LISTS OF STATEMENTS

-- the guess stays where a variable is set that no statement hangs on
pub guess_set : (hint : Hint) (x v : ℕ) (env : List ℕ) (past : List Op) → AllOps (λ op. touches x op ≡ false) past
    → guess_past hint past env ≡ guess_past hint past (slice_set env x v)
guess_set hint x v env [] t = refl
guess_set hint x v env (op ∷ past) t =
    guess_agrees hint op past env (slice_set env x v) (set_agrees x v op env t.0) (guess_set hint x v env past t.1)

-- THREADS

-- a delayed read that was carried out made this request
abbrev pub AskedBy : List ℕ → List Op → Ask → Type 0
AskedBy env past q = AnyOp (λ op. (a : ℕ) × (op ≡ DelayedRead q.var q.mem a) × (slice_index env a ≡ q.address)) past

-- whether one hangs on the value of a variable
abbrev pub touched : ℕ → List Op → Bool
touched x [] = false
touched x (op ∷ ops) = touches x op || touched x ops

-- where no statement hangs on a variable, the list of them doesn't
pub none_touched : (x : ℕ) (ops : List Op) → AllOps (λ op. touches x op ≡ false) ops → touched x ops ≡ false
none_touched x [] h = refl
none_touched x (op ∷ ops) h = ap₂ (λ a b. a || b) h.0 (none_touched x ops h.1)

-- something of a memory is released
abbrev pub let_go : ℕ → List Op → Bool
let_go m [] = false
let_go m (op ∷ ops) = is_release m op || let_go m ops

-- each pending write stands at the address of its location, until the stage in which its memory's are released: there what a location had goes on to others
abbrev pub AllPlaced : List ℕ → List Op → List Entry → Type 0
AllPlaced env past [] = Unit {0}
AllPlaced env past (e ∷ es) = ((let_go e.mem past ≡ true) ⊎ (e.address ≡ slice_index env e.var)) × (touched e.var past ≡ true) × AllPlaced env past es

-- whether one of the statements carried out releases the location
abbrev pub AllStand : List ℕ → List Entry → Type 0
AllStand env [] = Unit {0}
AllStand env (e ∷ es) = (e.address ≡ slice_index env e.var) × AllStand env es

-- where nothing is left of what is released, each stands
pub standing : (env : List ℕ) (past : List Op) (es : List Entry)
    → AllPlaced env past es → ((m : ℕ) → let_go m past ≡ true → entries_of m es ≡ []) → AllStand env es
standing env past [] h g = tt
standing env past (e ∷ es) h g = (here h.0, standing env past es h.2 (λ m k. rest m (e.mem == m) (g m k)))
  where
    rest : (m : ℕ) (b : Bool) → cond b (e ∷ entries_of m es) (entries_of m es) ≡ [] → entries_of m es ≡ []
    rest m true i = absurd (cc i)
    rest m false i = i

    here : (let_go e.mem past ≡ true) ⊎ (e.address ≡ slice_index env e.var) → e.address ≡ slice_index env e.var
    here (inl k) = absurd (cc (sym (ap (λ b. cond b (e ∷ entries_of e.mem es) (entries_of e.mem es)) (eq-eqb e.mem e.mem refl)) ∙ g e.mem k))
    here (inr k) = k

-- whether one of these statements releases the location
abbrev pub is_released : ℕ → ℕ → List Op → Bool
is_released m a [] = false
is_released m a (op ∷ ops) = is_release_at m a op || is_released m a ops

-- a block's location was released, or the block is ready
abbrev pub BlockOk : Around → List ℕ → List Entry → List Op → Op → Type 0
BlockOk o env es past op =
    on_block (λ m a. (is_released m a past ≡ true) ⊎ (cond (has_entry es m a) (o.can_write m (slice_index env a)) (o.can_read m (slice_index env a)) ≡ true))
    (Unit {0}) op

-- what is still true of the statements that were carried out, the last one first
pub record Past (o : Around) (vars : ℕ) (past : List Op) (w : Work) : Type 0 where
  pub long : vars ≤ length w.env
  pub done : AllOps (Done w.env w.guess) past
  pub guessed : w.guess ≡ guess_past (given o) past w.env
  pub placed : AllPlaced w.env past w.entries
  pub asked : AllAsks (AskedBy w.env past) w.asks
  pub unused : AllAsks (λ q. AllOps (λ op. touches q.var op ≡ false) past) w.asks
  pub blocks : AllOps (BlockOk o w.env w.entries past) past

-- a variable with which no statement has to do gets a value
pub placed_set : (x v : ℕ) (env : List ℕ) (past : List Op) (es : List Entry)
    → touched x past ≡ false → AllPlaced env past es → AllPlaced (slice_set env x v) past es
placed_set x v env past [] h k = tt
placed_set x v env past (e ∷ es) h k =
    (at k.0, k.1, placed_set x v env past es h k.2)
  where
    at : (let_go e.mem past ≡ true) ⊎ (e.address ≡ slice_index env e.var) → (let_go e.mem past ≡ true) ⊎ (e.address ≡ slice_index (slice_set env x v) e.var)
    at (inl i) = inl i
    at (inr i) = inr (i ∙ sym (get_or-set_other env x e.var v 0 (λ i. untrue (sym h ∙ ap (λ n. touched n past) (sym i) ∙ k.1))))

asked_set : (x v : ℕ) (env : List ℕ) (past : List Op) (q : Ask)
    → AllOps (λ op. touches x op ≡ false) past → AskedBy env past q → AskedBy (slice_set env x v) past q
asked_set x v env past q h k = any_both (λ op t i. (i.0, i.1, sym (set_agrees x v op env t i.0 (ap (touches i.0) i.1 ∙ eq-eqb i.0 i.0 refl)) ∙ i.2)) past h k

-- a block stays ready, or its location released, when a variable is set on which it doesn't hang
pub block_set : (o : Around) (x v : ℕ) (env : List ℕ) (es : List Entry) (past : List Op) (op : Op)
    → touches x op ≡ false → BlockOk o env es past op → BlockOk o (slice_set env x v) es past op
block_set o x v env es past (Block m a) t (inl h) = inl h
block_set o x v env es past (Block m a) t (inr h) =
    inr (ap (λ n. cond (has_entry es m a) (o.can_write m n) (o.can_read m n)) (sym (set_agrees x v (Block m a) env t a (eq-eqb a a refl))) ∙ h)
block_set o x v env es past (Bind y e) t h = tt
block_set o x v env es past (CombRead y m a) t h = tt
block_set o x v env es past (DelayedRead y m a) t h = tt
block_set o x v env es past (Write m a e) t h = tt
block_set o x v env es past (ReserveRead m a) t h = tt
block_set o x v env es past (ReserveWrite m a) t h = tt
block_set o x v env es past (Release m a) t h = tt
block_set o x v env es past (Call args) t h = tt
block_set o x v env es past (SpecCall args) t h = tt
block_set o x v env es past (Verify last args) t h = tt
block_set o x v env es past SpecCheck t h = tt
block_set o x v env es past (AdviceBind x' e') t h = tt
block_set o x v env es past (AdviceRead x' m' a') t h = tt
block_set o x v env es past (AdviceWrite m' a' e') t h = tt
block_set o x v env es past SpecBarrier t h = tt

-- a block stays true with more pending writes, or fewer, where each location that is none any more is released
pub block_more : (o : Around) (env : List ℕ) (es es' : List Entry) (past past' : List Op) (op : Op)
    → ((m a : ℕ) → is_released m a past ≡ true → is_released m a past' ≡ true)
    → ((m a : ℕ)
    → (is_released m a past' ≡ true)
    ⊎ (cond (has_entry es m a) (o.can_write m (slice_index env a)) (o.can_read m (slice_index env a)) ≡ true
    → cond (has_entry es' m a) (o.can_write m (slice_index env a)) (o.can_read m (slice_index env a)) ≡ true))
    → BlockOk o env es past op → BlockOk o env es' past' op
block_more o env es es' past past' (Block m a) f g (inl h) = inl (f m a h)
block_more o env es es' past past' (Block m a) f g (inr h) = at (g m a)
  where
    at : (is_released m a past' ≡ true)
        ⊎ (cond (has_entry es m a) (o.can_write m (slice_index env a)) (o.can_read m (slice_index env a)) ≡ true
        → cond (has_entry es' m a) (o.can_write m (slice_index env a)) (o.can_read m (slice_index env a)) ≡ true)
        → (is_released m a past' ≡ true) ⊎ (cond (has_entry es' m a) (o.can_write m (slice_index env a)) (o.can_read m (slice_index env a)) ≡ true)
    at (inl k) = inl k
    at (inr k) = inr (k h)
block_more o env es es' past past' (Bind y e) f g h = tt
block_more o env es es' past past' (CombRead y m a) f g h = tt
block_more o env es es' past past' (DelayedRead y m a) f g h = tt
block_more o env es es' past past' (Write m a e) f g h = tt
block_more o env es es' past past' (ReserveRead m a) f g h = tt
block_more o env es es' past past' (ReserveWrite m a) f g h = tt
block_more o env es es' past past' (Release m a) f g h = tt
block_more o env es es' past past' (Call args) f g h = tt
block_more o env es es' past past' (SpecCall args) f g h = tt
block_more o env es es' past past' (Verify last args) f g h = tt
block_more o env es es' past past' SpecCheck f g h = tt
block_more o env es es' past past' (AdviceBind x' e') f g h = tt
block_more o env es es' past past' (AdviceRead x' m' a') f g h = tt
block_more o env es es' past past' (AdviceWrite m' a' e') f g h = tt
block_more o env es es' past past' SpecBarrier f g h = tt

-- one more statement was carried out
placed_more : (env : List ℕ) (past : List Op) (op : Op) (es : List Entry) → AllPlaced env past es → AllPlaced env (op ∷ past) es
placed_more env past op [] h = tt
placed_more env past op (e ∷ es) h = (at h.0, or_right (touches e.var op) _ h.1, placed_more env past op es h.2)
  where
    at : (let_go e.mem past ≡ true) ⊎ (e.address ≡ slice_index env e.var) → (let_go e.mem (op ∷ past) ≡ true) ⊎ (e.address ≡ slice_index env e.var)
    at (inl i) = inl (or_right (is_release e.mem op) _ i)
    at (inr i) = inr i

placed_filled : (env : List ℕ) (past : List Op) (es : List Entry) (m a v : ℕ) → AllPlaced env past es
    → AllPlaced env past (with_entry_value es m a v)
placed_filled env past [] m a v h = tt
placed_filled env past (e ∷ es) m a v h = at ((e.mem == m) && (e.var == a)) (placed_filled env past es m a v h.2)
  where
    at : (b : Bool) → AllPlaced env past (with_entry_value es m a v)
        → AllPlaced env past (cond b (record e { value = Some v } ∷ es) (e ∷ with_entry_value es m a v))
    at true k = h
    at false k = (h.0, h.1, k)

-- what moves up is of the memory of which something is released
placed_moved : (env : List ℕ) (past : List Op) (e : Entry) (es : List Entry)
    → let_go e.mem past ≡ true → AllPlaced env past es → AllPlaced env past (moved_up e es)
placed_moved env past e [] g h = tt
placed_moved env past e (f ∷ es) g h = at (f.mem == e.mem) refl (λ i. placed_moved env past f es i h.2) (placed_moved env past e es g h.2)
  where
    at : (b : Bool) → (f.mem == e.mem) ≡ b → (let_go f.mem past ≡ true → AllPlaced env past (moved_up f es)) → AllPlaced env past (moved_up e es)
        → AllPlaced env past (cond b (record f { address = e.address; value = e.value } ∷ moved_up f es) (f ∷ moved_up e es))
    at true i k n = let j : let_go f.mem past ≡ true = ap (λ m. let_go m past) (eqb-true f.mem e.mem i) ∙ g in (inl j, h.1, k j)
    at false i k n = (h.0, h.1, n)

placed_without : (env : List ℕ) (past : List Op) (es : List Entry) (m a : ℕ)
    → let_go m past ≡ true → AllPlaced env past es → AllPlaced env past (without es m a)
placed_without env past [] m a g h = tt
placed_without env past (e ∷ es) m a g h = at (e.mem == m) refl (e.var == a) (placed_without env past es m a g h.2)
  where
    at : (b : Bool)
        → (e.mem == m) ≡ b → (c : Bool) → AllPlaced env past (without es m a)
        → AllPlaced env past (cond (b && c) (moved_up e es) (e ∷ without es m a))
    at true i true k = placed_moved env past e es (ap (λ n. let_go n past) (eqb-true e.mem m i) ∙ g) h.2
    at true i false k = (h.0, h.1, k)
    at false i c k = (h.0, h.1, k)

-- another location's write is still pending
has_without : (es : List Entry) (n b m a : ℕ) → ((n == m) && (b == a)) ≡ false → has_entry (without es n b) m a ≡ has_entry es m a
has_without [] n b m a h = refl
has_without (e ∷ es) n b m a h = at ((e.mem == n) && (e.var == b)) refl (has_without es n b m a h)
  where
    at : (t : Bool) → ((e.mem == n) && (e.var == b)) ≡ t → has_entry (without es n b) m a ≡ has_entry es m a
        → has_entry (cond t (moved_up e es) (e ∷ without es n b)) m a ≡ (((e.mem == m) && (e.var == a)) || has_entry es m a)
    at true i k = has_moved e es m a ∙
        ap (λ t. t || has_entry es m a) (sym ((λ j. (eqb-true e.mem n (and_left _ _ i) j == m) && (eqb-true e.var b (and_right (e.mem == n) _ i) j == a)) ∙ h))
    at false i k = ap (λ t. ((e.mem == m) && (e.var == a)) || t) k

-- A STATEMENT

-- where reads are ready, so are writes
abbrev pub Kind : Around → Type 0
Kind o = (m a : ℕ) → o.can_read m a ≡ true → o.can_write m a ≡ true

module _ (o : Around) (vars : ℕ) (kind : Kind o) where
  blocks_set : (x v : ℕ) (w : Work) (op : Op) (past : List Op) → AllOps (λ op. touches x op ≡ false) past
      → AllOps (BlockOk o w.env w.entries past) past → ((m a : ℕ) → is_release_at m a op ≡ false)
      → AllOps (BlockOk o (slice_set w.env x v) w.entries (op ∷ past)) past
  blocks_set x v w op past t h r =
      ops_both
      (λ o' t' b. block_more o (slice_set w.env x v) w.entries w.entries past (op ∷ past) o' (λ m a i. or_right (is_release_at m a op) _ i)
      (λ m a. inr (λ i. i)) (block_set o x v w.env w.entries past o' t' b)) past t h

  -- a statement that binds a variable
  bind_step : (x v : ℕ) (op : Op) (past : List Op) (w : Work) → is_new vars past (Some x) ≡ true
      → AllAsks (λ q. mentions_var q.var op ≡ false) w.asks → (Done (slice_set w.env x v) w.guess op)
      → ((e : List ℕ) → guess_past (given o) (op ∷ past) e ≡ guess_past (given o) past e)
      → BlockOk o (slice_set w.env x v) w.entries (op ∷ past) op → ((m a : ℕ) → is_release_at m a op ≡ false)
      → Past o vars past w → Past o vars (op ∷ past) (record w { env = slice_set w.env x v })
  bind_step x v op past w new silent mine calm block quiet h =
      let none : is_mentioned x past ≡ false = not-true _ (and_right (nat_lt x vars) _ new) in
      let t = untouched x past none in
      record {
        long = subst (λ n. vars ≤ n) (sym (length-set w.env x v)) h.long;
        done = (mine, ops_both (λ o' t' d. done_agrees w.env (slice_set w.env x v) w.guess o' (set_agrees x v o' w.env t') d) past t h.done);
        guessed = h.guessed ∙ guess_set (given o) x v w.env past t ∙ sym (calm (slice_set w.env x v));
        placed = placed_more (slice_set w.env x v) past op w.entries (placed_set x v w.env past w.entries (none_touched x past t) h.placed);
        asked = all_more (AskedBy w.env past) (AskedBy (slice_set w.env x v) (op ∷ past)) w.asks (λ q k. inr (asked_set x v w.env past q t k)) h.asked;
        unused =
            all_more (λ q. (mentions_var q.var op ≡ false) × AllOps (λ o'. touches q.var o' ≡ false) past)
            (λ q. AllOps (λ o'. touches q.var o' ≡ false) (op ∷ past)) w.asks (λ q k. (mention_touch q.var op k.0, k.1))
            (all_both (λ q. mentions_var q.var op ≡ false) (λ q. AllOps (λ o'. touches q.var o' ≡ false) past) w.asks silent h.unused);
        blocks = (block, blocks_set x v w op past t h.blocks quiet);
      }

  -- one that only changes what is pending
  pend_step : (op : Op) (past : List Op) (w : Work) (es : List Entry)
      → AllAsks (λ q. mentions_var q.var op ≡ false) w.asks → Done w.env w.guess op → w.guess ≡ guess_past (given o) (op ∷ past) w.env
      → AllPlaced w.env (op ∷ past) es
      → BlockOk o w.env es (op ∷ past) op
      → ((m a : ℕ)
      → (is_released m a (op ∷ past) ≡ true)
      ⊎ (cond (has_entry w.entries m a) (o.can_write m (slice_index w.env a)) (o.can_read m (slice_index w.env a)) ≡ true
      → cond (has_entry es m a) (o.can_write m (slice_index w.env a)) (o.can_read m (slice_index w.env a)) ≡ true))
      → Past o vars past w → Past o vars (op ∷ past) (record w { entries = es })
  pend_step op past w es silent mine guessed placed block kept h =
      record {
        long = h.long;
        done = (mine, h.done);
        guessed = guessed;
        placed = placed;
        asked = all_more (AskedBy w.env past) (AskedBy w.env (op ∷ past)) w.asks (λ q k. inr k) h.asked;
        unused =
            all_more (λ q. (mentions_var q.var op ≡ false) × AllOps (λ o'. touches q.var o' ≡ false) past)
            (λ q. AllOps (λ o'. touches q.var o' ≡ false) (op ∷ past)) w.asks (λ q k. (mention_touch q.var op k.0, k.1))
            (all_both (λ q. mentions_var q.var op ≡ false) (λ q. AllOps (λ o'. touches q.var o' ≡ false) past) w.asks silent h.unused);
        blocks =
            (block, ops_map (λ o' b. block_more o w.env w.entries es past (op ∷ past) o' (λ m a i. or_right (is_release_at m a op) _ i) kept b) past h.blocks);
      }

  -- one that leaves all that as it is
  still_step : (op : Op) (past : List Op) (w : Work) → AllAsks (λ q. mentions_var q.var op ≡ false) w.asks
      → Done w.env w.guess op → w.guess ≡ guess_past (given o) (op ∷ past) w.env → BlockOk o w.env w.entries (op ∷ past) op → Past o vars past w
      → Past o vars (op ∷ past) w
  still_step op past w silent mine guessed block h =
      pend_step op past w w.entries silent mine guessed (placed_more w.env past op w.entries h.placed) block (λ m a. inr (λ i. i)) h

  fetch_step : (x m a : ℕ) (past : List Op) (w : Work) (free : Bool) → is_new vars past (Some x) ≡ true
      → (a == x) ≡ false → AllAsks (λ q. mentions_var q.var (DelayedRead x m a) ≡ false) w.asks → Past o vars past w
      → Past o vars (DelayedRead x m a ∷ past) (record w { asks = w.asks ++ record { mem = m; var = x; address = slice_index w.env a } ∷ []; ready = free })
  fetch_step x m a past w free new own silent h =
      let g = still_step (DelayedRead x m a) past w silent tt h.guessed tt h in
      record {
        long = g.long;
        done = g.done;
        guessed = g.guessed;
        placed = g.placed;
        asked =
            all_snoc (AskedBy w.env (DelayedRead x m a ∷ past)) w.asks
            (record { mem = m; var = x; address = slice_index w.env a }) g.asked (inl (a, refl, refl));
        unused =
            all_snoc (λ q. AllOps (λ o'. touches q.var o' ≡ false) (DelayedRead x m a ∷ past)) w.asks
            (record { mem = m; var = x; address = slice_index w.env a }) g.unused
            (own, untouched x past (not-true _ (and_right (nat_lt x vars) _ new)));
        blocks = g.blocks;
      }

  -- one that gives the guess
  guess_step : (op : Op) (g : List ℕ) (past : List Op) (w : Work)
      → AllAsks (λ q. mentions_var q.var op ≡ false) w.asks → g ≡ guess_past (given o) (op ∷ past) w.env
      → Done w.env g op → BlockOk o w.env w.entries (op ∷ past) op → ((q : Ask) → mentions_var q.var op ≡ false → touches q.var op ≡ false)
      → Past o vars past w
      → Past o vars (op ∷ past) (record w { child = Some g; guess = g })
  guess_step op g past w silent given mine block apart h =
      record {
        long = h.long;
        done = (mine, ops_map (λ op' d. done_guess w.env w.guess g op' d) past h.done);
        guessed = given;
        placed = placed_more w.env past op w.entries h.placed;
        asked = all_more (AskedBy w.env past) (AskedBy w.env (op ∷ past)) w.asks (λ q k. inr k) h.asked;
        unused =
            all_more (λ q. (mentions_var q.var op ≡ false) × AllOps (λ o'. touches q.var o' ≡ false) past)
            (λ q. AllOps (λ o'. touches q.var o' ≡ false) (op ∷ past)) w.asks (λ q k. (apart q k.0, k.1))
            (all_both (λ q. mentions_var q.var op ≡ false) (λ q. AllOps (λ o'. touches q.var o' ≡ false) past) w.asks silent h.unused);
        blocks = (
          block,
          ops_map (λ o' b. block_more o w.env w.entries w.entries past (op ∷ past) o' (λ m a i. or_right (is_release_at m a op) _ i)
              (λ m a. inr (λ i. i)) b) past h.blocks,
        );
      }

  -- only these fields matter
  same_past : (past : List Op) (w v : Work) → w.env ≡ v.env → w.guess ≡ v.guess → w.entries ≡ v.entries
      → w.asks ≡ v.asks → Past o vars past w → Past o vars past v
  same_past past w v e g s a h =
      record {
        long = subst (λ (l : List ℕ). vars ≤ length l) e h.long;
        done = subst (λ l. AllOps (Done v.env l) past) g (subst (λ l. AllOps (Done l w.guess) past) e h.done);
        guessed = sym g ∙ h.guessed ∙ ap (guess_past (given o) past) e;
        placed = subst (λ l. AllPlaced v.env past l) s (subst (λ l. AllPlaced l past w.entries) e h.placed);
        asked = subst (λ l. AllAsks (AskedBy v.env past) l) a (subst (λ l. AllAsks (AskedBy l past) w.asks) e h.asked);
        unused = subst (λ l. AllAsks (λ q. AllOps (λ op. touches q.var op ≡ false) past) l) a h.unused;
        blocks = subst (λ l. AllOps (BlockOk o v.env l past) past) s (subst (λ l. AllOps (BlockOk o l w.entries past) past) e h.blocks);
      }

  -- what is true of the past statements stays so with one more of a ready thread that binds a new variable and mentions none that is asked for
  pub past_step : (op : Op) (past : List Op) (w : Work) → is_new vars past (bound_by op) ≡ true
      → not (uses_own op) ≡ true → AllAsks (λ q. mentions_var q.var op ≡ false) w.asks
      → (is_call op ≡ true → AllOps (λ op. is_call op ≡ false) past) → (work_after o op w).ready ≡ true
      → Past o vars past w → Past o vars (op ∷ past) (work_after o op w)
  past_step (Bind x e) past w new own silent calls ready h = bind_step x (value_of e w.env) (Bind x e) past w new silent here (λ _. refl) tt (λ m a. refl) h
    where
      here : slice_index (slice_set w.env x (value_of e w.env)) x ≡ value_of e (slice_set w.env x (value_of e w.env))
      here =
          get_or-set_same w.env x (value_of e w.env) 0 (low (ltb-true _ _ (and_left _ _ new)) h.long)
          ∙ value_agree e w.env (slice_set w.env x (value_of e w.env))
          (λ g k. sym (get_or-set_other w.env x g (value_of e w.env) 0 (λ i. untrue (sym (not-true _ own) ∙ ap (λ n. uses_in n e) (sym i) ∙ k))))
        where
          low : x < vars → vars ≤ length w.env → x < length w.env
          low i j = omega arith
  past_step (CombRead x m a) past w new own silent calls ready h =
      bind_step x (o.read m (slice_index w.env a)) (CombRead x m a) past w new silent tt (λ _. refl) tt (λ m a. refl) h
  past_step (DelayedRead x m a) past w new own silent calls ready h = fetch_step x m a past w (w.ready && o.free m) new (not-true _ own) silent h
  past_step (Write m a e) past w new own silent calls ready h =
      pend_step (Write m a e) past w (with_entry_value w.entries m a (value_of e w.env)) silent tt h.guessed
      (placed_more w.env past (Write m a e) (with_entry_value w.entries m a (value_of e w.env))
      (placed_filled w.env past w.entries m a (value_of e w.env) h.placed)) tt
      (λ n b. inr
      (λ i. ap (λ t. cond t (o.can_write n (slice_index w.env b)) (o.can_read n (slice_index w.env b))) (has_filled w.entries m a (value_of e w.env) n b)
      ∙ i)) h
  past_step (ReserveRead m a) past w new own silent calls ready h = still_step (ReserveRead m a) past w silent tt h.guessed tt h
  past_step (ReserveWrite m a) past w new own silent calls ready h =
      same_past (ReserveWrite m a ∷ past)
      (record w { entries = record { mem = m; var = a; address = slice_index w.env a; value = None } ∷ w.entries })
      (work_after o (ReserveWrite m a) w) refl refl refl refl
      (pend_step (ReserveWrite m a) past w (record { mem = m; var = a; address = slice_index w.env a; value = None } ∷ w.entries) silent tt h.guessed
      (inr refl, or_left _ _ (eq-eqb a a refl), placed_more w.env past (ReserveWrite m a) w.entries h.placed) tt
      (λ n b. inr (λ i. more n b ((m == n) && (a == b)) i)) h)
    where
      more : (n b : ℕ) (t : Bool)
          → cond (has_entry w.entries n b) (o.can_write n (slice_index w.env b)) (o.can_read n (slice_index w.env b)) ≡ true
          → cond (t || has_entry w.entries n b) (o.can_write n (slice_index w.env b)) (o.can_read n (slice_index w.env b)) ≡ true
      more n b false i = i
      more n b true i = at (has_entry w.entries n b) i
        where
          at : (c : Bool) → cond c (o.can_write n (slice_index w.env b)) (o.can_read n (slice_index w.env b)) ≡ true
              → o.can_write n (slice_index w.env b) ≡ true
          at true j = j
          at false j = kind n (slice_index w.env b) j
  past_step (Block m a) past w new own silent calls ready h =
      same_past (Block m a ∷ past) w (work_after o (Block m a) w) refl refl refl refl
      (still_step (Block m a) past w silent tt h.guessed (inr (and_right w.ready _ ready)) h)
  past_step (Release m a) past w new own silent calls ready h =
      same_past (Release m a ∷ past) (record w { entries = without w.entries m a }) (work_after o (Release m a) w) refl refl refl refl
      (pend_step (Release m a) past w (without w.entries m a) silent tt h.guessed
      (placed_without w.env (Release m a ∷ past) w.entries m a (or_left _ _ (eq-eqb m m refl)) (placed_more w.env past (Release m a) w.entries h.placed)) tt
      (λ n b. at n b ((m == n) && (a == b)) refl) h)
    where
      at : (n b : ℕ) (t : Bool) → ((m == n) && (a == b)) ≡ t
          → ((((m == n) && (a == b)) || is_released n b past) ≡ true)
          ⊎ (cond (has_entry w.entries n b) (o.can_write n (slice_index w.env b)) (o.can_read n (slice_index w.env b)) ≡ true
          → cond (has_entry (without w.entries m a) n b) (o.can_write n (slice_index w.env b)) (o.can_read n (slice_index w.env b)) ≡ true)
      at n b true e = inl (or_left _ _ e)
      at n b false e =
          inr (λ i. ap (λ t. cond t (o.can_write n (slice_index w.env b)) (o.can_read n (slice_index w.env b))) (has_without w.entries m a n b e) ∙ i)
  past_step (Call args) past w new own silent calls ready h =
      same_past (Call args ∷ past) w (work_after o (Call args) w) refl refl refl refl (still_step (Call args) past w silent tt h.guessed tt h)
  past_step (SpecCall args) past w new own silent calls ready h =
      guess_step (SpecCall args) o.guess past w silent refl tt tt (λ q k. mention_touch q.var (SpecCall args) k) h
  past_step (Verify last args) past w new own silent calls ready h = at (same_args (said o last args w.env) w.guess) refl
    where
      at : (b : Bool)
          → same_args (said o last args w.env) w.guess ≡ b
          → Past o vars (Verify last args ∷ past) (cond b w (record w { child = Some (said o last args w.env); guess = said o last args w.env; fails = true }))
      at true e =
          still_step (Verify last args) past w silent tt
          (sym (same_args_eq (said o last args w.env) w.guess e) ∙ said_past o last args past w.env) tt h
      at false e =
          same_past (Verify last args ∷ past)
          (record w { child = Some (said o last args w.env); guess = said o last args w.env })
          (record w { child = Some (said o last args w.env); guess = said o last args w.env; fails = true }) refl refl refl refl
          (guess_step (Verify last args) (said o last args w.env) past w silent
          (said_past o last args past w.env) tt tt (λ q k. mention_touch q.var (Verify last args) k) h)
  past_step SpecCheck past w new own silent calls ready h = still_step SpecCheck past w silent tt h.guessed tt h
  past_step (AdviceBind x' e') past w new own silent calls ready h = still_step (AdviceBind x' e') past w silent tt h.guessed tt h
  past_step (AdviceRead x' m' a') past w new own silent calls ready h = still_step (AdviceRead x' m' a') past w silent tt h.guessed tt h
  past_step (AdviceWrite m' a' e') past w new own silent calls ready h = still_step (AdviceWrite m' a' e') past w silent tt h.guessed tt h
  past_step SpecBarrier past w new own silent calls ready h =
      same_past (SpecBarrier ∷ past) w (work_after o SpecBarrier w) refl refl refl refl (still_step SpecBarrier past w silent tt h.guessed tt h)

  -- THE STATEMENTS OF A STAGE

  -- where no call was met so far, no statement that was carried out is one
  abbrev pub Uncalled : Bool → List Op → Type 0
  Uncalled c past = c ≡ false → AllOps (λ op. is_call op ≡ false) past

  asks_silent : (op : Op) (w : Work) (ys : List Stmt) → unseen_op op ys ≡ true
      → AllAsks (λ q. silent_on q.var ys ≡ true) w.asks
      → AllAsks (λ q. silent_on q.var ys ≡ true) (work_after o op w).asks
  asks_silent (DelayedRead x m a) w ys u h = all_snoc (λ q. silent_on q.var ys ≡ true) w.asks (record { mem = m; var = x; address = slice_index w.env a }) h u
  asks_silent (Verify last args) w ys u h = at (same_args (said o last args w.env) w.guess)
    where
      at : (b : Bool)
          → AllAsks (λ q. silent_on q.var ys ≡ true)
          (cond b w (record w { child = Some (said o last args w.env); guess = said o last args w.env; fails = true })).asks
      at true = h
      at false = h
  asks_silent (Bind x e) w ys u h = h
  asks_silent (CombRead x m a) w ys u h = h
  asks_silent (Write m a e) w ys u h = h
  asks_silent (ReserveRead m a) w ys u h = h
  asks_silent (ReserveWrite m a) w ys u h = h
  asks_silent (Block m a) w ys u h = h
  asks_silent (Release m a) w ys u h = h
  asks_silent (Call args) w ys u h = h
  asks_silent (SpecCall args) w ys u h = h
  asks_silent SpecCheck w ys u h = h
  asks_silent (AdviceBind x' e') w ys u h = h
  asks_silent (AdviceRead x' m' a') w ys u h = h
  asks_silent (AdviceWrite m' a' e') w ys u h = h
  asks_silent SpecBarrier w ys u h = h

  call_flag : (c : Bool) (op : Op) (past : List Op) → call_ok c op ≡ true → Uncalled c past → is_call op ≡ true → AllOps (λ op. is_call op ≡ false) past
  call_flag true op past k u i = untrue (sym (ap (λ b. not (true && b)) i) ∙ and_left (not (true && is_call op)) _ k)
  call_flag false op past k u i = u refl

  -- what is true of the past statements stays so with those of a path in a ready stage that bind new variables and mention none asked for
  pub past_all : (path : List ℕ) (c : Bool) (xs : List Stmt) (past : List Op) (w : Work) → Fixed path o xs w
      → all_new vars past (onpath path xs) ≡ true → calls_ok c (onpath path xs) ≡ true → Uncalled c past
      → is_unseen xs ≡ true → AllAsks (λ q. silent_on q.var xs ≡ true) w.asks → (do_all o xs w).ready ≡ true
      → Past o vars past w → Past o vars (onto (onpath path xs) past) (do_all o xs w)
  past_all path c [] past w f new calls none u silent ready h = h
  past_all path c (y ∷ ys) past w f new calls none u silent ready h =
      at (all_hold y.guards w.env) refl (all_hold y.guards path) f.0 (is_dead y.guards) refl new calls ready f.1
      (λ c' past' w' f' new' calls' none' silent' ready' h'. past_all path c' ys past' w' f' new' calls' none'
      (and_right (unseen_op y.op ys) _ u) silent' ready' h')
    where
      rest : AllAsks (λ q. silent_on q.var ys ≡ true) w.asks
      rest =
          all_more (λ q. silent_on q.var (y ∷ ys) ≡ true)
          (λ q. silent_on q.var ys ≡ true) w.asks
          (λ q k. and_right (is_dead y.guards || (not (asks_for q.var y.guards) && not (mentions_var q.var y.op))) _ k) silent

      quiet : is_dead y.guards ≡ false → AllAsks (λ q. mentions_var q.var y.op ≡ false) w.asks
      quiet e =
          all_more (λ q. silent_on q.var (y ∷ ys) ≡ true)
          (λ q. mentions_var q.var y.op ≡ false) w.asks
          (λ q k. not-true _
          (and_right (not (asks_for q.var y.guards)) _
          (subst (λ d. (d || (not (asks_for q.var y.guards) && not (mentions_var q.var y.op))) ≡ true) e (and_left _ _ k)))) silent

      flags : (op : Op) → Uncalled c past → Uncalled (c || is_call op) (op ∷ past)
      flags op n i = let k = or_parts c (is_call op) i in (k.1, n k.0)

      at : (b : Bool) → all_hold y.guards w.env ≡ b → (d : Bool) → b ≡ d → (e : Bool) → is_dead y.guards ≡ e
          → all_new vars past (cond d (record y { guards = [] } ∷ onpath path ys) (onpath path ys)) ≡ true
          → calls_ok c (cond d (record y { guards = [] } ∷ onpath path ys) (onpath path ys)) ≡ true
          → (do_all o ys (cond b (work_after o y.op w) w)).ready ≡ true → Fixed path o ys (cond b (work_after o y.op w) w)
          → ((c' : Bool) (past' : List Op) (w' : Work) → Fixed path o ys w' → all_new vars past' (onpath path ys) ≡ true
          → calls_ok c' (onpath path ys) ≡ true → Uncalled c' past'
          → AllAsks (λ q. silent_on q.var ys ≡ true) w'.asks → (do_all o ys w').ready ≡ true → Past o vars past' w'
          → Past o vars (onto (onpath path ys) past') (do_all o ys w'))
          → Past o vars (onto (cond d (record y { guards = [] } ∷ onpath path ys) (onpath path ys)) past) (do_all o ys (cond b (work_after o y.op w) w))
      at true i true j true k n l r g go = untrue (sym (dead_none y.guards w.env k) ∙ i)
      at true i true j false k n l r g go =
          go (c || is_call y.op) (y.op ∷ past)
          (work_after o y.op w) g (and_right (is_new vars past (bound_by y.op) && not (uses_own y.op)) _ n)
          (and_right (call_ok c y.op) _ l) (flags y.op none) (asks_silent y.op w ys (and_left _ _ u) rest) r
          (past_step y.op past w (and_left _ _ (and_left _ _ n))
          (and_right (is_new vars past (bound_by y.op)) _ (and_left _ _ n)) (quiet k)
          (call_flag c y.op past (and_left _ _ l) none) (was_ready o ys (work_after o y.op w) r) h)
      at true i false j e k n l r g go = absurd (cc j)
      at false i true j e k n l r g go = absurd (cc j)
      at false i false j e k n l r g go = go c past w g n l none rest r h
