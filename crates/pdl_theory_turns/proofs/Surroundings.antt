-- Under the machine's surroundings a stage does what it does alone.
use Rattle.std.proofs.Common.{◌≡◌, ◌≢◌, refl, sym, ap, ◌∙◌, subst, ℕ, ◌≤◌, Bool, true, false, ◌&&◌, ◌||◌, not, List, [], ◌∷◌, Some, ◌==◌, slice_index, slice_set, cond, nat_le}
use Rattle.std.proofs.lemmas.List.{get_or-set_other}
use Rattle.std.proofs.lemmas.Bool.{eqb-true, eqb-false, leb-true, or_right as or_more}
use Rattle.pdl_semantics.specs.Flat.{SpecCall, Op, Bind, CombRead, DelayedRead, Write, ReserveWrite, Block, Release, Verify, Stmt, Guard, Pipe, value_of, all_hold, word_at}
use Rattle.pdl_semantics.specs.Stages.{in_stage, mem_at, commit_stage, reserve_stage}
use Rattle.pdl_semantics.specs.Machine.{same_args}
use Rattle.pdl_theory_turns.specs.Derived.{Work, Around, Entry, work_after, do_all, has_entry, with_entry_value, without, moved_up, said}
use Rattle.pdl_theory_turns.specs.Alone.{World, Location}
use Rattle.pdl_theory_turns.proofs.Writes.{and_left, and_right}
use Rattle.pdl_theory_turns.proofs.Stages.{ReadsRight}
use Rattle.pdl_theory_turns.specs.Scans.{no_guards, is_plain, is_address, has_location, scan_after, scan_after_all, op_ok, reads_ok, Scan, location}
use Rattle.pdl_semantics.proofs.Bools.{or_map}

-- what the surroundings of a thread in stage s give where they are right for its turn; clean is what makes a location read right
pub record Surrounds (p : Pipe) (o : Around) (world : World) (s : ℕ) (clean : ℕ → ℕ → Type 0) : Type 0 where
  pub guess : o.guess ≡ world.hint.guess
  pub update : o.update ≡ world.hint.update
  pub plain : (m a : ℕ) → is_plain (mem_at p m).lock ≡ true → o.read m a ≡ word_at world.words m a
  pub readable : (m a : ℕ) → reserve_stage p m ≤ s → s ≤ commit_stage p m → o.can_read m a ≡ true → clean m a
  pub right : (m a : ℕ) → reserve_stage p m ≤ s → s ≤ commit_stage p m → clean m a → o.read m a ≡ word_at world.words m a

-- the blocked locations stand no earlier than the reserves, and are clean up to the releases
abbrev pub Right : Pipe → ℕ → (ℕ → ℕ → Type 0) → List Location → List ℕ → Type 0
Right p s clean [] env = Unit {0}
Right p s clean (l ∷ ls) env =
    (reserve_stage p l.mem ≤ s) × (s ≤ commit_stage p l.mem → clean l.mem (slice_index env l.var)) × Right p s clean ls env

-- setting a variable that is no address keeps them right
pub right_set : (p : Pipe) (s : ℕ) (clean : ℕ → ℕ → Type 0) (ls : List Location) (env : List ℕ) (x v : ℕ)
    → not (is_address ls x) ≡ true → Right p s clean ls env → Right p s clean ls (slice_set env x v)
right_set p s clean [] env x v h r = tt
right_set p s clean (l ∷ ls) env x v h r = (
  r.0,
  subst (λ n. s ≤ commit_stage p l.mem → clean l.mem n) (sym (get_or-set_other env x l.var v 0 (apart (l.var == x) refl h))) r.1,
  right_set p s clean ls env x v (later (l.var == x) h) r.2,
)
  where
    apart : (b : Bool) → (l.var == x) ≡ b → not (b || is_address ls x) ≡ true → l.var ≢ x
    apart true e t q = cc
    apart false e t q = eqb-false l.var x e q

    later : (b : Bool) → not (b || is_address ls x) ≡ true → not (is_address ls x) ≡ true
    later true t = cc
    later false t = t

-- a location among them is clean
pub right_at : (p : Pipe) (s : ℕ) (clean : ℕ → ℕ → Type 0) (ls : List Location) (env : List ℕ) (m a : ℕ)
    → has_location ls m a ≡ true → s ≤ commit_stage p m → Right p s clean ls env → (reserve_stage p m ≤ s) × clean m (slice_index env a)
right_at p s clean [] env m a h c r = absurd (cc h)
right_at p s clean (l ∷ ls) env m a h c r = at (l.mem == m) refl (l.var == a) refl h (λ t. right_at p s clean ls env m a t c r.2)
  where
    at : (b : Bool) → (l.mem == m) ≡ b → (d : Bool) → (l.var == a) ≡ d → ((b && d) || has_location ls m a) ≡ true
        → (has_location ls m a ≡ true → (reserve_stage p m ≤ s) × clean m (slice_index env a))
        → (reserve_stage p m ≤ s) × clean m (slice_index env a)
    at true e true f t rest = here (eqb-true l.mem m e) (eqb-true l.var a f)
      where
        here : l.mem ≡ m → l.var ≡ a → (reserve_stage p m ≤ s) × clean m (slice_index env a)
        here i j = (
          subst (λ n. reserve_stage p n ≤ s) i r.0,
          subst (λ n. clean n (slice_index env a)) i (subst (λ y. clean l.mem (slice_index env y)) j (r.1 (subst (λ n. s ≤ commit_stage p n) (sym i) c))),
        )
    at true e false f t rest = rest t
    at false e d f t rest = rest t

-- the reads of a statement that is in order
pub reads_right : (p : Pipe) (o : Around) (world : World) (s : ℕ) (clean : ℕ → ℕ → Type 0) (c : Scan) (op : Op) (env : List ℕ)
    → Surrounds p o world s clean → op_ok p s c op ≡ true → Right p s clean c.blocked env → ReadsRight o world op env
reads_right p o world s clean sc (CombRead x m a) env f h r =
    at (is_plain (mem_at p m).lock) refl (has_location sc.blocked m a) refl (nat_le s (commit_stage p m)) refl (and_right (not (is_address sc.blocked x)) _ h)
  where
    at : (b : Bool) → is_plain (mem_at p m).lock ≡ b → (c : Bool) → has_location sc.blocked m a ≡ c → (d : Bool) → nat_le s (commit_stage p m) ≡ d
        → (b || (c && d)) ≡ true → o.read m (slice_index env a) ≡ word_at world.words m (slice_index env a)
    at true e c g d i t = f.plain m (slice_index env a) e
    at false e true g true i t =
        let c : s ≤ commit_stage p m = leb-true s (commit_stage p m) i in
        let q = right_at p s clean sc.blocked env m a g c r in
        f.right m (slice_index env a) q.0 c q.1
    at false e true g false i t = cc
    at false e false g d i t = cc
reads_right p o world s clean sc (DelayedRead x m a) env f h r = cc
reads_right p o world s clean sc (SpecCall args) env f h r = f.guess
reads_right p o world s clean sc (Verify true args) env f h r = tt
reads_right p o world s clean sc (Verify false args) env f h r = f.update
reads_right p o world s clean sc _ env f h r = tt

-- what is pending was reserved
abbrev pub Covers : List Location → List Entry → Type 0
Covers ls es = (m a : ℕ) → has_entry es m a ≡ true → has_location ls m a ≡ true

-- a value that is written leaves the locations that have entries as they are
pub has_filled : (es : List Entry) (n b v m a : ℕ) → has_entry (with_entry_value es n b v) m a ≡ has_entry es m a
has_filled [] n b v m a = refl
has_filled (e ∷ es) n b v m a = at ((e.mem == n) && (e.var == b)) (has_filled es n b v m a)
  where
    at : (t : Bool) → has_entry (with_entry_value es n b v) m a ≡ has_entry es m a
        → has_entry (cond t (record e { value = Some v } ∷ es) (e ∷ with_entry_value es n b v)) m a ≡ (((e.mem == m) && (e.var == a)) || has_entry es m a)
    at true h = refl
    at false h = ap (λ t. ((e.mem == m) && (e.var == a)) || t) h

-- a location that is let go leaves the others
pub has_moved : (e : Entry) (es : List Entry) (m a : ℕ) → has_entry (moved_up e es) m a ≡ has_entry es m a
has_moved e [] m a = refl
has_moved e (f ∷ es) m a = at (f.mem == e.mem) (has_moved f es m a) (has_moved e es m a)
  where
    at : (t : Bool) → has_entry (moved_up f es) m a ≡ has_entry es m a → has_entry (moved_up e es) m a ≡ has_entry es m a
        → has_entry (cond t (record f { address = e.address; value = e.value } ∷ moved_up f es) (f ∷ moved_up e es)) m a
        ≡ (((f.mem == m) && (f.var == a)) || has_entry es m a)
    at true h g = ap (λ t. ((f.mem == m) && (f.var == a)) || t) h
    at false h g = ap (λ t. ((f.mem == m) && (f.var == a)) || t) g

has_without : (es : List Entry) (n b m a : ℕ) → has_entry (without es n b) m a ≡ true → has_entry es m a ≡ true
has_without [] n b m a h = h
has_without (e ∷ es) n b m a h = at ((e.mem == n) && (e.var == b)) h (has_without es n b m a)
  where
    at : (t : Bool) → has_entry (cond t (moved_up e es) (e ∷ without es n b)) m a ≡ true
        → (has_entry (without es n b) m a ≡ true → has_entry es m a ≡ true)
        → (((e.mem == m) && (e.var == a)) || has_entry es m a) ≡ true
    at true k f = or_more _ _ (sym (has_moved e es m a) ∙ k)
    at false k f = or_map ((e.mem == m) && (e.var == a)) _ _ f k

covers_block : (b : Bool) (c : Scan) (l : Location) (es : List Entry) → Covers c.held es
    → Covers (cond b c (record { held = c.held; blocked = l ∷ c.blocked })).held es
covers_block true c l es f = f
covers_block false c l es f = f

covers_verified : (b : Bool) (x : List ℕ) (w : Work) → (cond b w (record w { child = Some x; guess = x; fails = true })).entries ≡ w.entries
covers_verified true x w = refl
covers_verified false x w = refl

-- after a statement what is pending is still among what was reserved
pub covers_op : (o : Around) (c : Scan) (op : Op) (w : Work) → Covers c.held w.entries
    → Covers (scan_after op c).held (work_after o op w).entries
covers_op o c (Write m a e) w f = λ n b h. f n b (sym (has_filled w.entries m a (value_of e w.env) n b) ∙ h)
covers_op o c (ReserveWrite m a) w f = λ n b h. or_map ((m == n) && (a == b)) _ _ (f n b) h
covers_op o c (Block m a) w f = covers_block (has_location c.held m a) c (location m a) w.entries f
covers_op o c (Release m a) w f = λ n b h. f n b (has_without w.entries m a n b h)
covers_op o c (Verify last args) w f =
    subst (λ es. Covers c.held es) (sym (covers_verified (same_args (said o last args w.env) w.guess) (said o last args w.env) w)) f
covers_op o c _ w f = f

-- a ready block makes its location clean, if it is one for reading
block_right : (p : Pipe) (o : Around) (world : World) (s : ℕ) (clean : ℕ → ℕ → Type 0) (c : Scan) (m a : ℕ) (w : Work)
    → Surrounds p o world s clean → Covers c.held w.entries → reserve_stage p m ≤ s
    → cond (has_entry w.entries m a) (o.can_write m (slice_index w.env a)) (o.can_read m (slice_index w.env a)) ≡ true
    → Right p s clean c.blocked w.env → Right p s clean (scan_after (Block m a) c).blocked w.env
block_right p o world s clean c m a w f k low h r = at (has_entry w.entries m a) refl (has_location c.held m a) refl h
  where
    at : (b : Bool) → has_entry w.entries m a ≡ b → (d : Bool) → has_location c.held m a ≡ d
        → cond b (o.can_write m (slice_index w.env a)) (o.can_read m (slice_index w.env a)) ≡ true
        → Right p s clean (cond d c (record { held = c.held; blocked = location m a ∷ c.blocked })).blocked w.env
    at b e true g i = r
    at true e false g i = absurd (cc (sym g ∙ k m a e))
    at false e false g i = (low, (λ late. f.readable m (slice_index w.env a) low late i), r)

-- the blocked locations after a statement are still right
pub right_after : (p : Pipe) (o : Around) (world : World) (s : ℕ) (clean : ℕ → ℕ → Type 0) (c : Scan) (op : Op) (w : Work)
    → Surrounds p o world s clean → Covers c.held w.entries → op_ok p s c op ≡ true → (work_after o op w).ready ≡ true
    → Right p s clean c.blocked w.env → Right p s clean (scan_after op c).blocked (work_after o op w).env
right_after p o world s clean c (Bind x e) w f g h k r = right_set p s clean c.blocked w.env x (value_of e w.env) h r
right_after p o world s clean c (CombRead x m a) w f g h k r =
    right_set p s clean c.blocked w.env x (o.read m (slice_index w.env a)) (and_left (not (is_address c.blocked x)) _ h) r
right_after p o world s clean c (DelayedRead x m a) w f g h k r = absurd (cc h)
right_after p o world s clean c (Block m a) w f g h k r =
    block_right p o world s clean c m a w f g (leb-true (reserve_stage p m) s h) (and_right w.ready _ k) r
right_after p o world s clean c (Verify last args) w f g h k r = at (same_args (said o last args w.env) w.guess)
  where
    at : (b : Bool)
        → Right p s clean c.blocked (cond b w (record w { child = Some (said o last args w.env); guess = said o last args w.env; fails = true })).env
    at true = r
    at false = r
right_after p o world s clean c _ w f g h k r = r

-- each of these statements stands in stage s
abbrev pub AllIn : ℕ → List Stmt → Type 0
AllIn s [] = Unit {0}
AllIn s (x ∷ xs) = (x.stage ≡ s) × AllIn s xs

-- the statements of stage s stand in stage s
pub in_stage_all : (s : ℕ) (xs : List Stmt) → AllIn s (in_stage s xs)
in_stage_all s [] = tt
in_stage_all s (x ∷ xs) = at (x.stage == s) refl (in_stage_all s xs)
  where
    at : (b : Bool) → (x.stage == s) ≡ b → AllIn s (in_stage s xs) → AllIn s (cond b (x ∷ in_stage s xs) (in_stage s xs))
    at true e r = (eqb-true x.stage s e, r)
    at false e r = r

-- guards hold with any values where there are none
pub taken_none : (gs : List Guard) (env : List ℕ) → no_guards gs ≡ true → all_hold gs env ≡ true
taken_none [] env h = refl
taken_none (g ∷ gs) env h = cc

-- what statements of a pipe leave pending was reserved by them
pub covers_all : (p : Pipe) (o : Around) (c : Scan) (xs : List Stmt) (w : Work)
    → reads_ok p c xs ≡ true → Covers c.held w.entries → Covers (scan_after_all xs c).held (do_all o xs w).entries
covers_all p o c [] w h f = f
covers_all p o c (x ∷ xs) w h f =
    subst (λ v. Covers (scan_after_all xs (scan_after x.op c)).held (do_all o xs v).entries)
    (sym (ap (λ b. cond b (work_after o x.op w) w) (taken_none x.guards w.env (and_left _ _ (and_left _ _ h)))))
    (covers_all p o (scan_after x.op c) xs (work_after o x.op w) (and_right _ _ h) (covers_op o c x.op w f))
