-- A stage's work is a piece of the whole thread's.
use Rattle.std.proofs.Common.{◌≡◌, refl, sym, ap, ◌∙◌, ℕ, suc, Bool, true, false, ◌&&◌, ◌||◌, List, [], ◌∷◌, ◌++◌, Option, Some, None, slice_index, slice_set, cond, if◌then◌else◌, append_assoc, append-nil}
use Rattle.std.proofs.Math.Bool.{and_assoc, and-true}
use Rattle.pdl_semantics.specs.Flat.{Op, Bind, CombRead, DelayedRead, Write, ReserveRead, ReserveWrite, Block, Release, Call, SpecCall, Verify, SpecCheck, SpecBarrier, AdviceBind, AdviceRead, AdviceWrite, Stmt, Pipe, all_hold, word_at}
use Rattle.pdl_semantics.specs.Stages.{in_stage}
use Rattle.pdl_semantics.specs.Machine.{same_args}
use Rattle.pdl_theory_turns.specs.Derived.{said, after_verify, Work, Around, work_after, do_all, work_of_stage, has_entry, released_commits}
use Rattle.pdl_theory_turns.specs.Alone.{World, alone, before, start_work, so_far, thread_at}
use Rattle.pdl_theory_turns.proofs.Writes.{and_left}

-- the first of two lists of arguments that may be there, else the second
abbrev pub or_else : Option (List ℕ) → Option (List ℕ) → Option (List ℕ)
or_else None k = k
or_else (Some x) k = Some x

-- the work v after the work w of earlier stages
abbrev pub joined : Work → Work → Work
joined w v =
    record {
      env = v.env;
      entries = v.entries;
      guess = v.guess;
      asks = w.asks ++ v.asks;
      reserves = w.reserves ++ v.reserves;
      commits = w.commits ++ v.commits;
      child = or_else v.child w.child;
      fails = v.fails || w.fails;
      ready = w.ready && v.ready;
    }

-- a work with which the next stage begins
abbrev pub reset : Work → Work
reset w =
    record { env = w.env; entries = w.entries; guess = w.guess; asks = []; reserves = []; commits = []; child = None; fails = false; ready = true }

-- a work stays the same with what the next stage begins with after it
pub rejoined : (w : Work) → w ≡ joined w (reset w)
rejoined w = λ i. record {
  env = w.env;
  entries = w.entries;
  guess = w.guess;
  asks = sym (append-nil w.asks) i;
  reserves = sym (append-nil w.reserves) i;
  commits = sym (append-nil w.commits) i;
  child = w.child;
  fails = w.fails;
  ready = sym (and-true w.ready) i;
}

verified_joined : (b : Bool) (args : List ℕ) (w v : Work)
    → cond b (joined w v) (record (joined w v) { child = Some args; guess = args; fails = true })
    ≡ joined w (cond b v (record v { child = Some args; guess = args; fails = true }))
verified_joined true args w v = refl
verified_joined false args w v = refl

does_joined : (o : Around) (op : Op) (w v : Work) → work_after o op (joined w v) ≡ joined w (work_after o op v)
does_joined o (DelayedRead x m a) w v = λ i. record (joined w (work_after o (DelayedRead x m a) v)) {
  asks = append_assoc w.asks v.asks (record { mem = m; var = x; address = slice_index v.env a } ∷ []) i;
  ready = and_assoc w.ready v.ready (o.free m) i;
}
does_joined o (ReserveWrite m a) w v =
    λ i. record
    (joined w (work_after o (ReserveWrite m a) v)) {
      reserves = append_assoc w.reserves v.reserves
          (record { mem = m; var = a; address = slice_index v.env a } ∷ []) i;
    }
does_joined o (Block m a) w v =
    λ i. record (joined w (work_after o (Block m a) v))
    { ready = and_assoc w.ready v.ready (if has_entry v.entries m a then o.can_write m (slice_index v.env a) else o.can_read m (slice_index v.env a)) i }
does_joined o (Release m a) w v =
    λ i. record (joined w (work_after o (Release m a) v)) { commits = append_assoc w.commits v.commits (released_commits v.entries m a) i }
does_joined o (Verify last args) w v = verified_joined (same_args (said o last args v.env) v.guess) (said o last args v.env) w v
does_joined o SpecBarrier w v = λ i. record (joined w (work_after o SpecBarrier v)) { ready = and_assoc w.ready v.ready o.clear i }
does_joined o _ w v = refl

-- the work after one statement, which is carried out where its guards hold
abbrev pub step : Around → Stmt → Work → Work
step o x w = if all_hold x.guards w.env then work_after o x.op w else w

-- a statement, done or not, does the same behind the work of earlier stages
pub step_joined : (b : Bool) (o : Around) (op : Op) (w v : Work)
    → cond b (work_after o op (joined w v)) (joined w v) ≡ joined w (cond b (work_after o op v) v)
step_joined true o op w v = does_joined o op w v
step_joined false o op w v = refl

-- statements do the same after the work of earlier stages
pub do_all_joined : (o : Around) (xs : List Stmt) (w v : Work) → do_all o xs (joined w v) ≡ joined w (do_all o xs v)
do_all_joined o [] w v = refl
do_all_joined o (x ∷ xs) w v = ap (do_all o xs) (step_joined (all_hold x.guards v.env) o x.op w v) ∙ do_all_joined o xs w (step o x v)

-- two lists of statements are done one after the other
pub do_all_append : (o : Around) (xs ys : List Stmt) (w : Work) → do_all o (xs ++ ys) w ≡ do_all o ys (do_all o xs w)
do_all_append o [] ys w = refl
do_all_append o (x ∷ xs) ys w = do_all_append o xs ys (step o x w)

-- what is done by the following stage is what was done before this one, with this stage's work after it
pub next_piece : (p : Pipe) (world : World) (args : List ℕ) (s : ℕ)
    → before (suc s) p.stmts ≡ before s p.stmts ++ in_stage s p.stmts
    → so_far p world args (suc s) ≡ joined (so_far p world args s) (work_of_stage p (alone world) (thread_at p world args s))
next_piece p world args s e =
    ap (λ xs. do_all (alone world) xs (start_work p args)) e
    ∙ do_all_append (alone world) (before s p.stmts) (in_stage s p.stmts) (start_work p args)
    ∙ ap (do_all (alone world) (in_stage s p.stmts)) (rejoined (so_far p world args s))
    ∙ do_all_joined (alone world) (in_stage s p.stmts) (so_far p world args s) (reset (so_far p world args s))

-- conditions that hold in the end held before
pub was_ready : (o : Around) (xs : List Stmt) (w : Work) → (do_all o xs w).ready ≡ true → w.ready ≡ true
was_ready o xs w h =
    and_left w.ready (do_all o xs (reset w)).ready
    (sym (ap (λ (v : Work). v.ready) (ap (do_all o xs) (rejoined w) ∙ do_all_joined o xs w (reset w))) ∙ h)

-- the reads of a statement are right
abbrev pub ReadsRight : Around → World → Op → List ℕ → Type 0
ReadsRight o world (CombRead x m a) env = o.read m (slice_index env a) ≡ word_at world.words m (slice_index env a)
ReadsRight o world (DelayedRead x m a) env = ⊥
ReadsRight o world (SpecCall args) env = o.guess ≡ world.hint.guess
ReadsRight o world (Bind x e) env = Unit {0}
ReadsRight o world (Write m a e) env = Unit {0}
ReadsRight o world (ReserveRead m a) env = Unit {0}
ReadsRight o world (ReserveWrite m a) env = Unit {0}
ReadsRight o world (Block m a) env = Unit {0}
ReadsRight o world (Release m a) env = Unit {0}
ReadsRight o world (Call args) env = Unit {0}
ReadsRight o world (Verify true args) env = Unit {0}
ReadsRight o world (Verify false args) env = o.update ≡ world.hint.update
ReadsRight o world SpecCheck env = Unit {0}
ReadsRight o world SpecBarrier env = Unit {0}
ReadsRight o world (AdviceBind x e) env = Unit {0}
ReadsRight o world (AdviceRead x m a) env = Unit {0}
ReadsRight o world (AdviceWrite m a e) env = Unit {0}

ready_same : (b c d : Bool) → (b && c) ≡ true → d ≡ true → (b && c) ≡ (b && d)
ready_same true c d h e = h ∙ sym e
ready_same false c d h e = refl

cond_same : (b : Bool) → cond b true true ≡ true
cond_same true = refl
cond_same false = refl

-- a statement whose conditions hold and whose reads are right does what it does alone
pub does_same : (o : Around) (world : World) (op : Op) (w : Work)
    → (work_after o op w).ready ≡ true → ReadsRight o world op w.env
    → work_after o op w ≡ work_after (alone world) op w
does_same o world (CombRead x m a) w h r = λ i. record w { env = slice_set w.env x (r i) }
does_same o world (DelayedRead x m a) w h r = absurd r
does_same o world (SpecCall args) w h r = λ i. record w { child = Some (r i); guess = r i }
does_same o world (Verify true args) w h r = refl
does_same o world (Verify false args) w h r = ap (λ u. after_verify u w) r
does_same o world (Block m a) w h r =
    λ i. record w {
      ready =
          ready_same w.ready (if has_entry w.entries m a then o.can_write m (slice_index w.env a) else o.can_read m (slice_index w.env a))
          (if has_entry w.entries m a then true else true) h (cond_same (has_entry w.entries m a)) i;
    }
does_same o world SpecBarrier w h r = λ i. record w { ready = ready_same w.ready o.clear true h refl i }
does_same o world _ w h r = refl
