-- A turn's undone writes with what is known of them, by stages.
use Rattle.std.proofs.Common.{◌≡◌, ◌≢◌, refl, sym, ap, ap₂, ◌∙◌, ℕ, suc, ◌+◌, ◌≤◌, ◌<◌, Bool, true, false, ◌&&◌, List, [], ◌∷◌, ◌++◌, length, is_some, ◌==◌, nat_lt, cond, if◌then◌else◌, arith, eq-eqb, slice_index, append-nil, append_assoc, length-append}
use Rattle.std.proofs.Common.{ltb-true, ltb-false, lt-ltb}
use Rattle.std.proofs.lemmas.List.{append_cancel_left}
use Rattle.pdl_semantics.specs.Flat.{Op, Write, Stmt, Pipe, value_of, all_hold, Commit, of_mem, Verify}
use Rattle.pdl_semantics.specs.Stages.{in_stage, mem_at, commit_stage, reserve_stage}
use Rattle.pdl_semantics.specs.Locks.{Latest, Coming, Known, as_latest}
use Rattle.pdl_semantics.specs.Sequential.{Run, run_after, run_all, thread}
use Rattle.pdl_theory_turns.specs.Derived.{Entry, work_of_stage, latest_in}
use Rattle.pdl_theory_turns.specs.Alone.{World, alone, before, so_far, thread_at, undone}
use Rattle.pdl_theory_turns.proofs.Writes.{of_mem_append}
use Rattle.pdl_theory_turns.proofs.Entries.{entries_of, write_of, places, Open, Full, waiting, known, told, length_places}
use Rattle.pdl_theory_turns.proofs.Slots.{rev}
use Rattle.pdl_theory_turns.proofs.Turn.{addresses_at, places_append}
use Rattle.pdl_theory_turns.proofs.Phases.{Tied, opened}
use Rattle.pdl_theory_turns.specs.Scans.{Fresh, phase_all, is_plain}
use Rattle.pdl_theory_turns.specs.Accepted.{Accepted}
use Rattle.pdl_theory_turns.proofs.Marks.{Mark, seen, strips, marked, Later, raised_marked, strips_marked, latest_own, no_strips, marked_more, marked_last, seen_append}
use Rattle.pdl_theory_turns.proofs.TurnPath.{run_rest, related_at, commits_early, commits_late, all_places, run_at, start_run, run_append, quiet_at, undone_step, plain_writes, undone_in_end}
use Rattle.pdl_semantics.specs.Sound.{stages_from}

-- how many entries have a value
abbrev pub known_count : List Entry → ℕ
known_count [] = 0
known_count (e ∷ es) = if is_some e.value then suc (known_count es) else known_count es

-- the undone writes of a turn in stage s
abbrev pub marks : Pipe → World → List ℕ → ℕ → ℕ → List Mark
marks p world args s m =
    if nat_lt (commit_stage p m) s then [] else marked (known_count (entries_of m (so_far p world args s).entries))
    (of_mem m (thread p world.words args).writes)

-- as many as are written and not released
count_known : (m : ℕ) (os : List Open) (fs : List Full) → known_count (waiting m os ++ known m fs) ≡ length (told m fs)
count_known m [] [] = refl
count_known m [] (f ∷ fs) = ap suc (count_known m [] fs) ∙ sym (length-append (told m fs) (write_of m f.address f.value ∷ []) ∙ one (length (told m fs)))
  where
    one : (n : ℕ) → n + 1 ≡ suc n
    one n = omega arith
count_known m (o ∷ os) fs = count_known m os fs

-- MARKS OF ENTRIES

-- what writes to these addresses that are still to come say
abbrev coming : ℕ → List ℕ → Latest → Latest
coming a [] rest = rest
coming a (n ∷ ns) rest = coming a ns (if n == a then Coming else rest)

coming_last : (a n : ℕ) (ns : List ℕ) (rest : Latest) → coming a (ns ++ n ∷ []) rest ≡ (if n == a then Coming else coming a ns rest)
coming_last a n [] rest = refl
coming_last a n (k ∷ ns) rest = coming_last a n ns (if k == a then Coming else rest)

seen_unknown : (a : ℕ) (cs : List Commit) (rest : Latest) → seen a (marked 0 cs) rest ≡ coming a (places cs) rest
seen_unknown a [] rest = refl
seen_unknown a (c ∷ cs) rest = seen_unknown a cs (if c.address == a then Coming else rest)

latest_append : (es ks : List Entry) (m a : ℕ) (rest : Latest) → latest_in (es ++ ks) m a rest ≡ latest_in es m a (latest_in ks m a rest)
latest_append [] ks m a rest = refl
latest_append (e ∷ es) ks m a rest = ap (λ l. cond ((e.mem == m) && (e.address == a)) (as_latest e.value) l) (latest_append es ks m a rest)

latest_waiting : (m a : ℕ) (env xs : List ℕ) (rest : Latest)
    → latest_in (waiting m (opened env xs)) m a rest ≡ coming a (rev (addresses_at env xs)) rest
latest_waiting m a env [] rest = refl
latest_waiting m a env (x ∷ xs) rest =
    ap₂ (λ b l. cond (b && (slice_index env x == a)) Coming l) (eq-eqb m m refl) (latest_waiting m a env xs rest)
    ∙ sym (coming_last a (slice_index env x) (rev (addresses_at env xs)) rest)

latest_known : (m a : ℕ) (fs : List Full) (rest : Latest) → latest_in (known m fs) m a rest ≡ seen a (marked (length (told m fs))
    (told m fs)) rest
latest_known m a [] rest = refl
latest_known m a (f ∷ fs) rest =
    ap₂ (λ b l. cond (b && (f.address == a)) (Known f.value) l) (eq-eqb m m refl) (latest_known m a fs rest)
    ∙ sym (ap (λ l. seen a l rest) (marked_last (told m fs) (write_of m f.address f.value)) ∙ seen_append a (marked (length (told m fs)) (told m fs)) _ rest)

-- some writes with values, and others behind them
seen_split : (a : ℕ) (xs ys : List Commit) (rest : Latest)
    → seen a (marked (length xs) (xs ++ ys)) rest ≡ seen a (marked 0 ys) (seen a (marked (length xs) xs) rest)
seen_split a [] ys rest = refl
seen_split a (x ∷ xs) ys rest =
    ap (λ l. seen a l rest) (marked_more (length xs) x (xs ++ ys)) ∙ seen_split a xs ys (if x.address == a then Known x.value else rest)
    ∙ sym (ap (λ l. seen a (marked 0 ys) (seen a l rest)) (marked_more (length xs) x xs))

-- writes are added behind
run_more : (m : ℕ) (op : Op) (r : Run) → (more : List Commit) × (of_mem m (run_after op r).writes ≡ of_mem m r.writes ++ more)
run_more m (Write n a e) r = (of_mem m (write_of n (slice_index r.env a) (value_of e r.env) ∷ []), of_mem_append m r.writes _)
run_more m (Verify true args) r = ([], sym (append-nil _))
run_more m (Verify false args) r = ([], sym (append-nil _))
run_more m _ r = ([], sym (append-nil _))

runs_more : (m : ℕ) (xs : List Stmt) (r : Run) → (more : List Commit) × (of_mem m (run_all xs r).writes ≡ of_mem m r.writes ++ more)
runs_more m [] r = ([], sym (append-nil _))
runs_more m (x ∷ xs) r = at (all_hold x.guards r.env) (runs_more m xs (run_after x.op r)) (runs_more m xs r)
  where
    at : (b : Bool)
        → (more : List Commit) × (of_mem m (run_all xs (run_after x.op r)).writes ≡ of_mem m (run_after x.op r).writes ++ more)
        → (more : List Commit) × (of_mem m (run_all xs r).writes ≡ of_mem m r.writes ++ more)
        → (more : List Commit) × (of_mem m (run_all xs (cond b (run_after x.op r) r)).writes ≡ of_mem m r.writes ++ more)
    at true rest on =
        let here = run_more m x.op r in
        (here.0 ++ rest.0, rest.1 ∙ ap (λ l. l ++ rest.0) here.1 ∙ append_assoc (of_mem m r.writes) here.0 rest.0)
    at false rest on = on

later_split : (m c s b b' : ℕ) (ws xs : List Commit)
    → strips m (marked b ws) ≡ ws → cond (nat_lt c s) [] ws ≡ xs ++ cond (nat_lt c (suc s)) [] ws → (s ≢ c → xs ≡ [])
    → (suc s ≤ c → b ≤ b')
    → Later m (cond (nat_lt c s) [] (marked b ws)) xs (cond (nat_lt c (suc s)) [] (marked b' ws))
later_split m c s b b' ws xs own e f g = at (nat_lt c s) refl (nat_lt c (suc s)) refl e
  where
    at : (t : Bool) → nat_lt c s ≡ t → (r : Bool) → nat_lt c (suc s) ≡ r → cond t [] ws ≡ xs ++ cond r [] ws
        → Later m (cond t [] (marked b ws)) xs (cond r [] (marked b' ws))
    at true i true j k = record { front = []; rest = []; whole = refl; commits = sym (f (apart (ltb-true c s i))); raised = tt }
      where
        apart : c < s → s ≢ c
        apart u v = omega arith
    at true i false j k = absurd (clash (ltb-true c s i) (ltb-false c (suc s) j))
      where
        clash : c < s → suc s ≤ c → ⊥
        clash u v = omega arith
    at false i true j k = record { front = marked b ws; rest = []; whole = sym (append-nil (marked b ws)); commits = own ∙ k ∙ append-nil xs; raised = tt }
    at false i false j k =
        record {
          front = [];
          rest = marked b ws;
          whole = refl;
          commits = sym (f (apart (ltb-false c (suc s) j)));
          raised = raised_marked b b' ws (g (ltb-false c (suc s) j));
        }
      where
        apart : suc s ≤ c → s ≢ c
        apart u v = omega arith

module _ (p : Pipe) (acc : Accepted p) (world : World) (args : List ℕ) where
  -- what stage s has written is written first
  pub writes_first : (s m : ℕ) → (more : List Commit) × (of_mem m (thread p world.words args).writes ≡ of_mem m (run_at p world.words args s).writes ++ more)
  writes_first s m =
      let r = runs_more m (stages_from s p.stmts) (run_at p world.words args s) in
      (r.0, ap (λ (q : Run). of_mem m q.writes) (run_rest p acc world args s) ∙ r.1)

  -- what stage s finds of m
  pub tied_at : (s m : ℕ)
      → Tied m (phase_all m Fresh (before s p.stmts)) (so_far p world args s).env (entries_of m (so_far p world args s).entries)
      (of_mem m (so_far p world args s).commits) (of_mem m (run_at p world.words args s).writes)
  tied_at s m = (related_at p acc world args s).tied m

  -- before the releases, all that has a value is written and the other way round
  pub early_written : (s m : ℕ) → s ≤ commit_stage p m → of_mem m (run_at p world.words args s).writes ≡ told m (tied_at s m).fulls
  early_written s m h = (tied_at s m).written ∙ ap (λ l. l ++ told m (tied_at s m).fulls) (commits_early p acc world args s m h)

  early_count : (s m : ℕ)
      → s ≤ commit_stage p m
      → known_count (entries_of m (so_far p world args s).entries) ≡ length (of_mem m (run_at p world.words args s).writes)
  early_count s m h = ap known_count (tied_at s m).entries ∙ count_known m (opened (so_far p world args s).env (phase_all m Fresh (before s p.stmts)).unwritten)
      (tied_at s m).fulls ∙ ap length (sym (early_written s m h))

  -- past the releases nothing is left
  pub late_empty : (s m : ℕ) → commit_stage p m < s → reserve_stage p m < s → entries_of m (so_far p world args s).entries ≡ []
  late_empty s m h r = (tied_at s m).entries ∙ ap₂ (λ os fs. waiting m (opened (so_far p world args s).env os) ++ known m fs) none.0 none.1
    where
      cs : List Commit
      cs = of_mem m (so_far p world args s).commits

      total : length (told m (tied_at s m).fulls) + length (rev (addresses_at (so_far p world args s).env (phase_all m Fresh (before s p.stmts)).unwritten)) ≡ 0
      total =
          let all = all_places p acc world args s m r in
          let ls : length (places (of_mem m (run_at p world.words args s).writes)) + length
          (rev (addresses_at (so_far p world args s).env (phase_all m Fresh (before s p.stmts)).unwritten))
          ≡ length (places cs) = sym (length-append (places (of_mem m (run_at p world.words args s).writes)) _)
          ∙ ap length all ∙ ap (λ l. length (places l)) (sym (commits_late p acc world args s m h)) in
          let ws : length (places (of_mem m (run_at p world.words args s).writes))
          ≡ length (places cs) + length (told m (tied_at s m).fulls) = ap (λ l. length (places l)) (tied_at s m).written
          ∙ ap length (places_append cs (told m (tied_at s m).fulls)) ∙ length-append (places cs) _
          ∙ ap (λ n. length (places cs) + n) (length_places (told m (tied_at s m).fulls)) in
          omega arith

      nothing : (xs : List ℕ) (fs : List Full) → length (told m fs) + length (rev (addresses_at (so_far p world args s).env xs)) ≡ 0 → (xs ≡ []) × (fs ≡ [])
      nothing [] [] e = (refl, refl)
      nothing [] (f ∷ fs) e =
          absurd (let l : length (told m fs ++ write_of m f.address f.value ∷ []) ≡ length (told m fs) + 1 = length-append (told m fs) _ in omega arith)
      nothing (x ∷ xs) fs e =
          absurd
          (let l : length (rev (addresses_at (so_far p world args s).env xs) ++ slice_index (so_far p world args s).env x ∷ [])
          ≡ length (rev (addresses_at (so_far p world args s).env xs)) + 1 = length-append (rev (addresses_at (so_far p world args s).env xs)) _ in omega arith)

      none : ((phase_all m Fresh (before s p.stmts)).unwritten ≡ []) × ((tied_at s m).fulls ≡ [])
      none = nothing _ _ total

  -- past the reserves of m the turn's pending writes say of an address what its undone writes say
  pub marks_seen : (s m a : ℕ) (rest : Latest) → reserve_stage p m < s
      → latest_in (so_far p world args s).entries m a rest ≡ seen a (marks p world args s m) rest
  marks_seen s m a rest h = latest_own (so_far p world args s).entries m a rest ∙ at (nat_lt (commit_stage p m) s) refl
    where
      xs : List ℕ
      xs = (phase_all m Fresh (before s p.stmts)).unwritten

      ws : List Commit
      ws = of_mem m (run_at p world.words args s).writes

      more : List Commit
      more = (writes_first s m).0

      to_come : places more ≡ rev (addresses_at (so_far p world args s).env xs)
      to_come = append_cancel_left (places ws) _ _ (sym (places_append ws more) ∙ ap places (sym (writes_first s m).1) ∙ sym (all_places p acc world args s m h))

      at : (b : Bool) → nat_lt (commit_stage p m) s ≡ b
          → latest_in (entries_of m (so_far p world args s).entries) m a rest
          ≡ seen a (cond b [] (marked (known_count (entries_of m (so_far p world args s).entries)) (of_mem m (thread p world.words args).writes))) rest
      at true e =
          ap (λ l. latest_in l m a rest)
          (late_empty s m (ltb-true _ _ e) h)
      at false e =
          let early : s ≤ commit_stage p m = ltb-false _ _ e in
          ap (λ l. latest_in l m a rest) (tied_at s m).entries
          ∙ latest_append (waiting m (opened
          (so_far p world args s).env xs))
          (known m (tied_at s m).fulls) m a rest
          ∙ latest_waiting m a (so_far p world args s).env xs _
          ∙ ap (λ l. coming a l (latest_in (known m (tied_at s m).fulls) m a rest)) (sym to_come)
          ∙ sym (seen_unknown a more _)
          ∙ ap (seen a (marked 0 more))
          (latest_known m a (tied_at s m).fulls rest ∙ ap (λ l. seen a (marked (length l) l) rest) (sym (early_written s m early)))
          ∙ sym (seen_split a ws more rest)
          ∙ ap₂ (λ n l. seen a (marked n l) rest) (sym (early_count s m early)) (sym (writes_first s m).1)

  -- the writes that the turn's marks stand for are those that it has not released
  pub marks_strips : (s m : ℕ) → strips m (marks p world args s m) ≡ undone p world.words args s m
  marks_strips s m = at (nat_lt (commit_stage p m) s)
    where
      at : (b : Bool)
          → strips m (cond b [] (marked (known_count (entries_of m (so_far p world args s).entries)) (of_mem m (thread p world.words args).writes)))
          ≡ cond b [] (of_mem m (thread p world.words args).writes)
      at true = refl
      at false = strips_marked m _ (thread p world.words args).writes

  -- a stage commits the first of the turn's undone writes of m, and leaves the others with more of their values known
  pub marks_step : (s m : ℕ)
      → Later m (marks p world args s m) (of_mem m (work_of_stage p (alone world) (thread_at p world args s)).commits) (marks p world args (suc s) m)
  marks_step s m =
      later_split m (commit_stage p m) s (known_count (entries_of m (so_far p world args s).entries))
      (known_count (entries_of m (so_far p world args (suc s)).entries)) (of_mem m (thread p world.words args).writes) _
      (strips_marked m _ (thread p world.words args).writes) (undone_step p acc world args s m)
      (quiet_at p acc world args (alone world) (thread_at p world args s) m) raise
    where
      raise : suc s ≤ commit_stage p m
          → known_count (entries_of m (so_far p world args s).entries) ≤ known_count (entries_of m (so_far p world args (suc s)).entries)
      raise h =
          let now = early_count s m (omega arith) in
          let next = early_count (suc s) m h in
          let r = runs_more m (in_stage s p.stmts) (run_at p world.words args s) in
          let grown : length (of_mem m (run_at p world.words args (suc s)).writes)
          ≡ length (of_mem m (run_at p world.words args s).writes) + length r.0 = ap (λ l. length (of_mem m (run_all l (start_run p world.words args)).writes))
          (acc.pieces s)
          ∙ ap (λ (q : Run). length (of_mem m q.writes)) (run_append (before s p.stmts) (in_stage s p.stmts) (start_run p world.words args))
          ∙ ap length r.1 ∙ length-append (of_mem m (run_at p world.words args s).writes) r.0 in
          omega arith

  -- a memory without lock has no marks, and neither has one past its releases

  -- a memory without lock has no marks
  pub marks_plain : (s m : ℕ) → is_plain (mem_at p m).lock ≡ true → marks p world args s m ≡ []
  marks_plain s m h =
      ap (λ l. cond (nat_lt (commit_stage p m) s) [] (marked (known_count (entries_of m (so_far p world args s).entries)) l))
      (plain_writes p acc world args m h)
      ∙ none (nat_lt (commit_stage p m) s)
    where
      none : (b : Bool) → cond {A = List Mark} b [] [] ≡ []
      none true = refl
      none false = refl

  -- past the stage of m's releases the turn has no undone writes of m
  pub marks_late : (s m : ℕ) → commit_stage p m < s → marks p world args s m ≡ []
  marks_late s m h =
      ap (λ b. cond b [] (marked (known_count (entries_of m (so_far p world args s).entries)) (of_mem m (thread p world.words args).writes))) (lt-ltb _ _ h)

  -- at the end of the pipe the turn has no undone writes
  pub marks_end : (m : ℕ) → marks p world args (length p.stages) m ≡ []
  marks_end m = no_strips m _ (marks_strips (length p.stages) m ∙ undone_in_end p acc world args m)
