-- A thread that runs alone does what the sequential run does.
use Rattle.std.proofs.Common.{◌≡◌, refl, sym, ap, ap₂, ◌∙◌, subst, ℕ, Bool, true, false, ◌||◌, not, List, [], ◌∷◌, ◌++◌, Some, None, ◌==◌, cond, eq-eqb, slice_index, slice_set, append-nil}
use Rattle.std.proofs.lemmas.Bool.{eqb-true, eqb-false}
use Rattle.pdl_semantics.specs.Flat.{Array, Op, Bind, CombRead, DelayedRead, Write, ReserveWrite, Release, Call, Verify, Stmt, value_of, all_hold, word_at, Commit, of_mem, after_commits, with_word}
use Rattle.pdl_semantics.specs.Sequential.{Run, run_after, run_all}
use Rattle.pdl_semantics.specs.Promises.{wrote, row}
use Rattle.pdl_theory_turns.specs.Derived.{Entry, Work, work_after, do_all, without, with_entry_value, released_commits, said}
use Rattle.pdl_theory_turns.specs.Alone.{World, alone}
use Rattle.pdl_semantics.specs.Machine.{same_args}
use Rattle.pdl_theory_turns.proofs.Writes.{and_left, and_right, of_mem_append, row_committed, committed_append}
use Rattle.pdl_theory_turns.proofs.Entries.{entries_of, filled_other, without_own, without_other, released_own, released_other, entry, write_of, told, entries_of-filled}
use Rattle.pdl_theory_turns.proofs.Phases.{Tied, tied_moved, tied_set, tied_reserve, tied_write, tied_release, nil_of, no_fulls}
use Rattle.pdl_theory_turns.specs.Scans.{Phase, after_write, after_reserve, after_release, next_phase, may_read, may_write, phase_ok, no_guards, phases_ok, phase_all}
use Rattle.pdl_theory_turns.specs.Alone.{is_nil, is_among}
use Rattle.pdl_theory_turns.proofs.Surroundings.{taken_none}

-- the work of a thread alone on these arrays, and the sequential run, after the same statements
pub record Related (world : World) (ph : ℕ → Phase) (w : Work) (r : Run) : Type 0 where
  pub env : w.env ≡ r.env
  pub arrays_now : r.arrays ≡ after_commits world.words r.writes
  pub tied : (m : ℕ) → Tied m (ph m) w.env (entries_of m w.entries) (of_mem m w.commits) (of_mem m r.writes)

-- the phase of each memory after a statement
abbrev pub next_phases : (ℕ → Phase) → Op → ℕ → Phase
next_phases ph op m = next_phase m (ph m) op

-- a statement is one that the phase of each memory allows
abbrev pub Ok : (ℕ → Phase) → Op → Type 0
Ok ph op = (m : ℕ) → phase_ok m (ph m) op ≡ true

-- a memory that may be read was not written
unwritten : (m : ℕ) (ph : Phase) (env : List ℕ) (es : List Entry) (cs ws : List Commit)
    → may_read ph ≡ true → Tied m ph env es cs ws → ws ≡ []
unwritten m ph env es cs ws h t =
    t.written
    ∙ ap₂ (λ l k. l ++ told m k) (t.calm (nil_of ph.gone (and_right (is_nil ph.full) _ h))) (no_fulls t.fulls (t.vars ∙ nil_of ph.full (and_left _ _ h)))

reads_same : (world : World) (ph : ℕ → Phase) (w : Work) (r : Run) (x n a : ℕ)
    → Related world ph w r → Ok ph (CombRead x n a) → word_at world.words n (slice_index w.env a) ≡ word_at r.arrays n (slice_index r.env a)
reads_same world ph w r x n a rel ok =
    ap (λ e. word_at world.words n (slice_index e a)) rel.env
    ∙ ap (λ (l : Array). l (slice_index r.env a)) (sym same_row)
  where
    may : may_read (ph n) ≡ true
    may = let h : (not (n == n) || may_read (ph n)) ≡ true = and_right (not (is_among x (ph n).unwritten)) _ (ok n) in
        subst (λ b. (not b || may_read (ph n)) ≡ true) (eq-eqb n n refl) h

    same_row : row r.arrays n ≡ row world.words n
    same_row =
        ap (λ l. row l n) rel.arrays_now ∙ row_committed n r.writes world.words
        ∙ ap (wrote (row world.words n)) (unwritten n (ph n) w.env _ _ _ may (rel.tied n))

one_of : (m n a v : ℕ) (b : Bool) → (n == m) ≡ b → of_mem m (write_of n a v ∷ []) ≡ cond b (write_of n a v ∷ []) []
one_of m n a v b e = ap (λ c. cond c (write_of n a v ∷ []) []) e

tied_write_any : (m n a v : ℕ) (ph : Phase) (env : List ℕ) (es : List Entry) (cs ws : List Commit) (b : Bool)
    → (n == m) ≡ b → (not b || may_write ph a) ≡ true → Tied m ph env (entries_of m es) cs (of_mem m ws)
    → Tied m (cond b (after_write ph a) ph) env (entries_of m (with_entry_value es n a v)) cs (of_mem m (ws ++ write_of n (slice_index env a) v ∷ []))
tied_write_any m n a v ph env es cs ws true e h t =
    tied_moved m (after_write ph a) env _ _ _ _ _ _
    (ap (λ k. entries_of m (with_entry_value es k a v)) (eqb-true n m e) ∙ entries_of-filled es m a v) refl
    (of_mem_append m ws _
    ∙ ap (λ l. of_mem m ws ++ l) (one_of m n (slice_index env a) v true e ∙ ap (λ k. write_of k (slice_index env a) v ∷ []) (eqb-true n m e)))
    (tied_write m a v ph env (entries_of m es) cs (of_mem m ws) h t)
tied_write_any m n a v ph env es cs ws false e h t =
    tied_moved m ph env _ _ _ _ _ _ (filled_other es m n a v (eqb-false n m e)) refl
    (of_mem_append m ws _ ∙ ap (λ l. of_mem m ws ++ l) (one_of m n (slice_index env a) v false e) ∙ append-nil (of_mem m ws)) t

tied_reserve_any : (m n a : ℕ) (ph : Phase) (env : List ℕ) (es : List Entry) (cs ws : List Commit) (b : Bool) → (n == m) ≡ b
    → Tied m ph env (entries_of m es) cs ws
    → Tied m (cond b (after_reserve ph a) ph) env (entries_of m (entry n a (slice_index env a) None ∷ es)) cs ws
tied_reserve_any m n a ph env es cs ws true e t =
    tied_moved m (after_reserve ph a) env _ _ _ _ _ _
    (ap (λ c. cond c (entry n a (slice_index env a) None ∷ entries_of m es) (entries_of m es)) e
    ∙ ap (λ k. entry k a (slice_index env a) None ∷ entries_of m es) (eqb-true n m e))
    refl refl (tied_reserve m a ph env (entries_of m es) cs ws t)
tied_reserve_any m n a ph env es cs ws false e t =
    tied_moved m ph env _ _ _ _ _ _ (ap (λ c. cond c (entry n a (slice_index env a) None ∷ entries_of m es) (entries_of m es)) e) refl refl t

tied_release_any : (m n a : ℕ) (ph : Phase) (env : List ℕ) (es : List Entry) (cs ws : List Commit) (b : Bool) → (n == m) ≡ b
    → (not b || not (is_among a ph.unwritten)) ≡ true → Tied m ph env (entries_of m es) (of_mem m cs) ws
    → Tied m (cond b (after_release ph a) ph) env (entries_of m (without es n a)) (of_mem m (cs ++ released_commits es n a)) ws
tied_release_any m n a ph env es cs ws true e h t =
    tied_moved m (after_release ph a) env _ _ _ _ _ _
    (ap (λ k. entries_of m (without es k a)) (eqb-true n m e) ∙ without_own es m a)
    (of_mem_append m cs _ ∙ ap (λ l. of_mem m cs ++ l) (ap (λ k. of_mem m (released_commits es k a)) (eqb-true n m e) ∙ released_own es m a))
    refl (tied_release m a ph env (entries_of m es) (of_mem m cs) ws h t)
tied_release_any m n a ph env es cs ws false e h t =
    tied_moved m ph env _ _ _ _ _ _ (without_other es m n a (eqb-false n m e))
    (of_mem_append m cs _ ∙ ap (λ l. of_mem m cs ++ l) (released_other es m n a (eqb-false n m e)) ∙ append-nil (of_mem m cs))
    refl t

-- a statement that the phases allow leaves a thread alone related to its sequential run
pub related_step : (world : World) (ph : ℕ → Phase) (op : Op) (w : Work) (r : Run)
    → Ok ph op → Related world ph w r
    → Related world (next_phases ph op) (work_after (alone world) op w) (run_after op r)
related_step world ph (Bind x e) w r ok rel =
    record {
      env = ap (λ v. slice_set v x (value_of e v)) rel.env;
      arrays_now = rel.arrays_now;
      tied = λ m. tied_set m (ph m) w.env _ _ _ x (value_of e w.env) (ok m) (rel.tied m);
    }
related_step world ph (CombRead x n a) w r ok rel =
    record {
      env = ap₂ (λ v k. slice_set v x k) rel.env (reads_same world ph w r x n a rel ok);
      arrays_now = rel.arrays_now;
      tied =
          λ m. tied_set m (ph m) w.env _ _ _ x (word_at world.words n (slice_index w.env a)) (and_left (not (is_among x (ph m).unwritten)) _ (ok m))
          (rel.tied m);
    }
related_step world ph (DelayedRead x n a) w r ok rel = absurd (cc (ok 0))
related_step world ph (Write n a e) w r ok rel =
    record {
      env = rel.env;
      arrays_now = ap (λ l. with_word l n (slice_index r.env a) (value_of e r.env)) rel.arrays_now ∙ sym (committed_append r.writes _ world.words);
      tied =
          λ m. subst
          (λ v. Tied m (cond (n == m) (after_write (ph m) a) (ph m)) w.env (entries_of m (with_entry_value w.entries n a (value_of e w.env)))
          (of_mem m w.commits) (of_mem m (r.writes ++ write_of n (slice_index v a) (value_of e v) ∷ []))) rel.env
          (tied_write_any m n a (value_of e w.env) (ph m) w.env w.entries (of_mem m w.commits) r.writes (n == m) refl (ok m) (rel.tied m));
    }
related_step world ph (ReserveWrite n a) w r ok rel =
    record {
      env = rel.env;
      arrays_now = rel.arrays_now;
      tied = λ m. tied_reserve_any m n a (ph m) w.env w.entries (of_mem m w.commits) (of_mem m r.writes) (n == m) refl (rel.tied m);
    }
related_step world ph (Release n a) w r ok rel =
    record {
      env = rel.env;
      arrays_now = rel.arrays_now;
      tied = λ m. tied_release_any m n a (ph m) w.env w.entries w.commits (of_mem m r.writes) (n == m) refl (ok m) (rel.tied m);
    }
related_step world ph (Call args) w r ok rel =
    record {
      env = rel.env;
      arrays_now = rel.arrays_now;
      tied = rel.tied;
    }
related_step world ph (Verify true args) w r ok rel = at (same_args (said (alone world) true args w.env) w.guess)
  where
    at : (b : Bool)
        → Related world ph (cond b w (record w { child = Some (said (alone world) true args w.env); guess = said (alone world) true args w.env; fails = true }))
        (run_after (Verify true args) r)
    at true = record { env = rel.env; arrays_now = rel.arrays_now; tied = rel.tied }
    at false = record { env = rel.env; arrays_now = rel.arrays_now; tied = rel.tied }
related_step world ph (Verify false args) w r ok rel = at (same_args (said (alone world) false args w.env) w.guess)
  where
    at : (b : Bool)
        → Related world ph
        (cond b w (record w { child = Some (said (alone world) false args w.env); guess = said (alone world) false args w.env; fails = true }))
        (run_after (Verify false args) r)
    at true = record { env = rel.env; arrays_now = rel.arrays_now; tied = rel.tied }
    at false = record { env = rel.env; arrays_now = rel.arrays_now; tied = rel.tied }
related_step world ph _ w r ok rel =
    record { env = rel.env; arrays_now = rel.arrays_now; tied = rel.tied }

-- statements alone, and the sequential run of them
pub related_all : (world : World) (xs : List Stmt) (ph : ℕ → Phase) (w : Work) (r : Run)
    → ((m : ℕ) → phases_ok m (ph m) xs ≡ true) → Related world ph w r
    → Related world (λ m. phase_all m (ph m) xs) (do_all (alone world) xs w) (run_all xs r)
related_all world [] ph w r ok rel = rel
related_all world (x ∷ xs) ph w r ok rel =
    subst
    (λ v. Related world (λ m. phase_all m (next_phase m (ph m) x.op) xs) (do_all (alone world) xs v)
    (run_all xs (cond (all_hold x.guards r.env) (run_after x.op r) r)))
    (sym (goes w.env (work_after (alone world) x.op w) w))
    (subst (λ v. Related world (λ m. phase_all m (next_phase m (ph m) x.op) xs) (do_all (alone world) xs (work_after (alone world) x.op w)) (run_all xs v))
    (sym (goes' r.env (run_after x.op r) r))
    (related_all world xs (next_phases ph x.op) (work_after (alone world) x.op w) (run_after x.op r) (λ m. and_right _ _ (ok m))
    (related_step world ph x.op w r (λ m. and_right _ _ (and_left _ _ (ok m))) rel)))
  where
    free : no_guards x.guards ≡ true
    free = and_left _ _ (and_left _ _ (ok 0))

    goes : (env : List ℕ) (v u : Work) → cond (all_hold x.guards env) v u ≡ v
    goes env v u = ap (λ b. cond b v u) (taken_none x.guards env free)

    goes' : (env : List ℕ) (v u : Run) → cond (all_hold x.guards env) v u ≡ v
    goes' env v u = ap (λ b. cond b v u) (taken_none x.guards env free)
