-- In a cycle that is no wait the oldest thread moves. Of any pipe of the whole language.
use Rattle.std.proofs.Common.{◌≡◌, refl, sym, ap, ◌∙◌, subst, ℕ, zero, suc, ◌+◌, Bool, true, false, ◌&&◌, ◌||◌, not, List, [], ◌∷◌, Option, Some, None, is_none, is_some, cond, arith, slice_index, slice_index_or, zero-add, add-suc, suc-add}
use Rattle.std.proofs.lemmas.Bool.{and_from}
use Rattle.pdl_semantics.specs.Flat.{Op, DelayedRead, Block, Verify, SpecBarrier, Stmt, Pipe, all_hold}
use Rattle.pdl_semantics.specs.Stages.{in_stage, mem_at, stage_at, verify_stage}
use Rattle.pdl_semantics.specs.Machine.{Awaited, is_answered, same_args}
use Rattle.pdl_semantics.specs.Moves.{is_empty}
use Rattle.pdl_semantics.proofs.Readiness.{read_free, write_free}
use Rattle.pdl_theory_turns.specs.Derived.{Work, Around, Thread, State, work_after, do_all, around, act, asked_at, still, has_entry, port_free, barrier_clear, can_enter, fork_clear, is_wait, waits_from, have_room, said}
use Rattle.pdl_theory_turns.proofs.Stages.{step}

-- surroundings that hold nobody up
pub record AllTrue (o : Around) : Type 0 where
  pub can_read : (m a : ℕ) → o.can_read m a ≡ true
  pub can_write : (m a : ℕ) → o.can_write m a ≡ true
  pub free : (m : ℕ) → o.free m ≡ true
  pub clear : o.clear ≡ true

pick : (c x y : Bool) → x ≡ true → y ≡ true → cond c x y ≡ true
pick true x y h k = h
pick false x y h k = k

ready_op : (o : Around) (op : Op) (w : Work) → AllTrue o → w.ready ≡ true → (work_after o op w).ready ≡ true
ready_op o (DelayedRead x m a) w f h = and_from w.ready (o.free m) h (f.free m)
ready_op o (Block m a) w f h =
    and_from w.ready _ h (pick (has_entry w.entries m a) _ _ (f.can_write m (slice_index w.env a)) (f.can_read m (slice_index w.env a)))
ready_op o (Verify last args) w f h = at (same_args (said o last args w.env) w.guess)
  where
    at : (b : Bool) → (cond b w (record w { child = Some (said o last args w.env); guess = said o last args w.env; fails = true })).ready ≡ true
    at true = h
    at false = h
ready_op o SpecBarrier w f h = and_from w.ready o.clear h f.clear
ready_op o _ w f h = h

ready_step : (b : Bool) (o : Around) (op : Op) (w : Work) → AllTrue o → w.ready ≡ true → (cond b (work_after o op w) w).ready ≡ true
ready_step true o op w f h = ready_op o op w f h
ready_step false o op w f h = h

ready_all : (o : Around) (xs : List Stmt) (w : Work) → AllTrue o → w.ready ≡ true → (do_all o xs w).ready ≡ true
ready_all o [] w f h = h
ready_all o (x ∷ xs) w f h = ready_all o xs (step o x w) f (ready_step (all_hold x.guards w.env) o x.op w f h)

-- a cycle that is no wait answers each outstanding request
answered_at : (p : Pipe) (bits : List Bool) (k : ℕ) (asked : List (Option ℕ)) (j : ℕ)
    → waits_from p bits k asked ≡ false → is_some (slice_index_or asked j None) ≡ true
    → is_answered p bits (k + j) ≡ true
answered_at p bits k [] j h i = absurd (cc i)
answered_at p bits k (None ∷ asked) zero h i = absurd (cc i)
answered_at p bits k (None ∷ asked) (suc j) h i =
    subst (λ n. is_answered p bits n ≡ true) (suc-add k j ∙ sym (add-suc k j)) (answered_at p bits (suc k) asked j h i)
answered_at p bits k (Some a ∷ asked) zero h i = subst (λ n. is_answered p bits n ≡ true) (omega arith) (bit (is_answered p bits k) h)
  where
    bit : (b : Bool) → (not b || waits_from p bits (suc k) asked) ≡ false → b ≡ true
    bit true g = refl
    bit false g = cc
answered_at p bits k (Some a ∷ asked) (suc j) h i =
    subst (λ n. is_answered p bits n ≡ true) (suc-add k j ∙ sym (add-suc k j)) (answered_at p bits (suc k) asked j (rest (is_answered p bits k) h) i)
  where
    rest : (b : Bool) → (not b || waits_from p bits (suc k) asked) ≡ false → waits_from p bits (suc k) asked ≡ false
    rest true g = g
    rest false g = absurd (cc g)

answered_now : (p : Pipe) (st : State) (bits : List Bool) (m : ℕ)
    → is_wait p st bits ≡ false → is_some (asked_at st m) ≡ true → is_answered p bits m ≡ true
answered_now p st bits m h i = subst (λ n. is_answered p bits n ≡ true) (zero-add m) (answered_at p bits 0 st.asked m h i)

-- each awaited read has its request outstanding
abbrev pub Asked : List (Option ℕ) → List Awaited → Type 0
Asked asked [] = Unit {0}
Asked asked (r ∷ rs) = (is_some (slice_index_or asked r.mem None) ≡ true) × Asked asked rs

none_still : (p : Pipe) (st : State) (bits : List Bool) (rs : List Awaited)
    → is_wait p st bits ≡ false → Asked st.asked rs → is_empty (still p bits rs) ≡ true
none_still p st bits [] h a = refl
none_still p st bits (r ∷ rs) h a =
    ap (λ b. is_empty (cond b (still p bits rs) (r ∷ still p bits rs))) (answered_now p st bits r.mem h a.0) ∙ none_still p st bits rs h a.1

free_port : (p : Pipe) (st : State) (bits : List Bool) (m : ℕ) → is_wait p st bits ≡ false → port_free p st bits [] m ≡ true
free_port p st bits m h = at (asked_at st m) refl
  where
    at : (o : Option ℕ) → asked_at st m ≡ o → (is_none o || (is_answered p bits m && true)) ≡ true
    at None e = refl
    at (Some a) e = ap (λ b. b && true) (answered_now p st bits m h (ap is_some e))

clear_alone : (v : Option ℕ) (s : ℕ) → barrier_clear v s [] ≡ true
clear_alone None s = refl
clear_alone (Some v) s = refl

fork_alone : (p : Pipe) (f : Option ℕ) → fork_clear p [] f ≡ true
fork_alone p None = refl
fork_alone p (Some f) = refl

enter_alone : (p : Pipe) (q : Option ℕ) → can_enter p [] q ≡ true
enter_alone p None = refl
enter_alone p (Some q) = fork_alone p (stage_at p q).merges

-- the oldest thread moves in a cycle that is no wait, where locks have room and its awaited reads are outstanding
pub oldest : (p : Pipe) (st : State) (bits : List Bool) (t : Thread) → have_room p [] (act p st bits [] t).work ≡ true → Asked st.asked t.awaits
    → is_wait p st bits ≡ false → (act p st bits [] t).moves ≡ true
oldest p st bits t room a h =
    and_from _ _
    (and_from _ _ (and_from _ _ (ready_all (around p st bits [] t.stage t.hint) (in_stage t.stage p.stmts) _
    (record {
      can_read = λ m x. read_free (mem_at p m).lock;
      can_write = λ m x. write_free (mem_at p m).lock;
      free = λ m. free_port p st bits m h;
      clear = clear_alone (verify_stage p.stmts) t.stage;
    }) refl) room)
    (none_still p st bits t.awaits h a))
    (enter_alone p _)
