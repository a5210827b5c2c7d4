-- Every run of the derived machine refines the sequential run, and its oldest thread moves, in the whole language.
use Rattle.std.proofs.Common.{◌≡◌, refl, sym, ap, ap₂, ◌∙◌, subst, ℕ, zero, suc, ◌+◌, ◌≤◌, ◌<◌, ◌⊎◌, inl, inr, Bool, true, false, ◌||◌, not, List, [], ◌∷◌, ◌++◌, length, Option, None, is_some, nat_lt, cond, if◌then◌else◌, arith, append-nil, append_assoc, add-zero, le_refl, le_of_lt, zero-add, ltb-true, ltb-false, lt-ltb}
use Rattle.std.specs.List.{AllByRecursion, IsDistinct, list_any}
use Rattle.std.proofs.lemmas.Map.Steps.{length-le_from_distinct_below}
use Rattle.std.proofs.lemmas.Bool.{eqb-true, ne_eqb}
use Rattle.std.proofs.Common.{eqb}
use Rattle.pdl_semantics.specs.Flat.{Arrays, Pipe, Mem, Commit, of_mem, after_commits}
use Rattle.pdl_semantics.specs.Stages.{mem_at, commit_stage}
use Rattle.pdl_semantics.specs.Cycle.{awaited_of}
use Rattle.pdl_semantics.specs.Machine.{Ask}
use Rattle.pdl_semantics.specs.Sequential.{thread, writes_from, seqwrites, after_turns}
use Rattle.pdl_semantics.specs.Promises.{wrote, row, IsPrefix}
use Rattle.pdl_theory_turns.specs.Derived.{Hint, no_hint, Work, Thread, State, Act, act, around, answered_thread, acts, all_acts, survivors, commits_of, asks_of, next_asks, cycle, after_acts, first, nothing_asked, turns, turns_from, state_after, all_commits, ended_in, is_wait}
use Rattle.pdl_theory_turns.specs.Alone.{World, so_far, Refines, Advances, oldest_moves}
use Rattle.pdl_theory_turns.specs.Scans.{is_plain}
use Rattle.pdl_theory_turns.proofs.Rooms.{room_alone}
use Rattle.pdl_theory_turns.proofs.Oldest.{oldest, Asked}
use Rattle.pdl_theory_turns.proofs.Writes.{of_mem_append, row_committed, committed_append}
use Rattle.pdl_theory_turns.proofs.Marks.{strips, later_none}
use Rattle.pdl_theory_turns.proofs.UndoneWrites.{marks}
use Rattle.pdl_theory_turns.proofs.TurnFacts.{right_guess}
use Rattle.pdl_theory_turns.proofs.Lives.{Writes, Marks, RowsAt}
use Rattle.pdl_theory.proofs.Cycle.{ends_one}
use Rattle.pdl_theory.proofs.Refine.{writes_more, writes_add, longer}
use Rattle.pdl_theory_turns.proofs.Courses.{Course}
use Rattle.pdl_theory_turns.proofs.Nested.{within_all, trunk_within}
use Rattle.pdl_theory_turns.proofs.ThreadOrder.{Under, AllUnder}
use Rattle.pdl_theory_turns.proofs.DelayedReads.{AllAsks, Out, requests_length}
use Rattle.pdl_theory.proofs.Unsure.{Unsure}
use Rattle.pdl_theory.proofs.Spots.{Spot, seat, seats, shown, is_nil, Here, Standing, Behind, Last, Tail, with_hint}
use Rattle.pdl_theory.proofs.Cycles.{start_spot, past_last, rows_next, born_standing, born_seat, not_self}
use Rattle.pdl_theory.proofs.ThreadCycle.{Turned, turned}

-- a state of a run from this image in which n threads have ended and past was committed
pub record Runs (p : Pipe) (acc : Course p) (image : Arrays) (n : ℕ) (past : List Commit) (st : State) : Type 0 where
  pub spots : List Spot
  pub strays : List Thread
  pub threads : st.threads ≡ seats p (after_turns p image n).arrays (after_turns p image n).next spots ++ strays
  pub tail : Tail p acc.stray acc.made (after_turns p image n).arrays (after_turns p image n).next spots strays
  pub arrays : st.arrays ≡ after_commits image past
  pub standing : Standing p acc st.asked (λ m. of_mem m past) (λ m. of_mem m (writes_from p n image p.start)) (λ m. [])
      (after_turns p image n).arrays (after_turns p image n).next (length p.stages ∷ []) spots
  pub live : is_nil spots ≡ false
  pub known : length st.asked ≡ length p.mems

module _ (p : Pipe) (acc : Course p) where
  -- the end of the pipe is behind whoever is in it
  under_end : (b s : ℕ) → b ≤ length p.stages → Under p b s → Under p (length p.stages) s
  under_end b s low u [] i j r t k = let l : r < b = u [] (within_all p b) j r t k in omega arith
  under_end b s low u (x ∷ c) i j r t k = trunk_within p x c _ (acc.graph.trunk_past (length p.stages) (le_refl _)) i

  under_low : (s : ℕ) → s < length p.stages → Under p (length p.stages) s
  under_low s low [] i j r t k = omega arith
  under_low s low (x ∷ c) i j r t k = trunk_within p x c _ (acc.graph.trunk_past (length p.stages) (le_refl _)) i

  -- threads behind all of some stages are behind others
  weaker : (asked : List (Option ℕ)) (past w : Writes) (v : Marks) (arrays : Arrays) (args : List ℕ) (ahead ahead2 : List ℕ) (sps : List Spot)
      → ((s : ℕ) → AllUnder p ahead s → AllUnder p ahead2 s) → (Unsure p acc.v ahead2 → Unsure p acc.v ahead)
      → Standing p acc asked past w v arrays args ahead sps → Standing p acc asked past w v arrays args ahead2 sps
  weaker asked past w v arrays args ahead ahead2 [] f g h = h
  weaker asked past w v arrays args ahead ahead2 (sp ∷ sps) f g h = (
    record {
      under = f sp.stage h.0.under;
      on = h.0.on;
      words = λ m c. h.0.words m
          (at m c);
      clean = h.0.clean;
      linked = h.0.linked;
      waits = h.0.waits;
      calm = λ u. h.0.calm (g u);
    },
    weaker asked past (λ n. w n ++ of_mem n (thread p arrays args).writes) (λ n. v n ++ marks p (with_hint arrays sp.hint) args sp.stage n)
        (thread p arrays args).arrays (thread p arrays args).next (sp.stage ∷ ahead)
        (sp.stage ∷ ahead2) sps (λ s u. (u.0, f s u.1)) (λ u. u) h.1,
  )
    where
      at : (m : ℕ) → (sp.stage ≤ commit_stage p m) ⊎ Unsure p acc.v ahead2 → (sp.stage ≤ commit_stage p m) ⊎ Unsure p acc.v ahead
      at m (inl c) = inl c
      at m (inr u) = inr (g u)

  -- nobody guesses past the last stage
  sure_end : Unsure p acc.v (length p.stages ∷ []) → ⊥
  sure_end u = let i : length p.stages ≤ acc.v = u.1 in let j : acc.v < length p.stages = acc.v_inside in omega arith

  at_end : (sp : Spot) (m : ℕ)
      → (sp.stage ≤ commit_stage p m) ⊎ Unsure p acc.v (length p.stages ∷ [])
      → (sp.stage ≤ commit_stage p m) ⊎ Unsure p acc.v (suc (length p.stages) ∷ [])
  at_end sp m (inl c) = inl c
  at_end sp m (inr u) = absurd (sure_end u)

  shown_seats : (asked : List (Option ℕ)) (past w : Writes) (v : Marks) (arrays : Arrays) (args : List ℕ) (ahead : List ℕ) (sps : List Spot)
      → ((s : ℕ) → AllUnder p ahead s → s < length p.stages)
      → Standing p acc asked past w v arrays args ahead sps → shown p arrays args sps ≡ seats p arrays args sps
  shown_seats asked past w v arrays args ahead [] f h = refl
  shown_seats asked past w v arrays args ahead (sp ∷ sps) f h =
      ap₂ (λ b xs. cond b (seat p (with_hint arrays sp.hint) args sp ∷ []) [] ++ xs) (lt-ltb sp.stage (length p.stages) (f sp.stage h.0.under))
      (shown_seats asked past (λ n. w n ++ of_mem n (thread p arrays args).writes)
      (λ n. v n ++ marks p (with_hint arrays sp.hint) args sp.stage n)
      (thread p arrays args).arrays (thread p arrays args).next (sp.stage ∷ ahead) sps (λ s u. f s u.1) h.1)

  -- who stands behind the end of the pipe is in one of its stages
  pub low_end : (s : ℕ) → AllUnder p (length p.stages ∷ []) s → s < length p.stages
  low_end s u = at (nat_lt s (length p.stages)) refl
    where
      at : (b : Bool) → nat_lt s (length p.stages) ≡ b → s < length p.stages
      at true e = ltb-true _ _ e
      at false e =
          absurd
          (let i : length p.stages < length p.stages = u.0 [] (within_all p _) (within_all p _) (length p.stages)
          (acc.graph.trunk_past (length p.stages) (le_refl _)) (ltb-false _ _ e) in
          omega arith)

  -- the sequential array at a turn
  pub rows_at : (image : Arrays) (n : ℕ) → RowsAt image (λ m. of_mem m (writes_from p n image p.start)) (after_turns p image n).arrays
  rows_at image zero m = refl
  rows_at image (suc n) m =
      rows_next p acc image (λ k. of_mem k (writes_from p n image p.start)) (with_hint (after_turns p image n).arrays no_hint) (after_turns p image n).next
      (rows_at image n) m
      ∙ ap (wrote (row image m)) (sym (of_mem_append m (writes_from p n image p.start) _) ∙ ap (of_mem m) (sym (writes_more p n image p.start)))

  -- the next threads where the oldest ends
  dropped : (asked : List (Option ℕ)) (past : Writes) (image : Arrays) (n : ℕ) (sp : Spot) (sps : List Spot) → sp.stage ≡ length p.stages
      → Standing p acc asked past (λ m. of_mem m (writes_from p n image p.start)) (λ m. [])
      (after_turns p image n).arrays (after_turns p image n).next (suc (length p.stages) ∷ []) (sp ∷ sps)
      → Standing p acc asked past (λ m. of_mem m (writes_from p (suc n) image p.start)) (λ m. [])
      (after_turns p image (suc n)).arrays (after_turns p image (suc n)).next (length p.stages ∷ []) sps
  dropped asked past image n sp sps e h =
      subst
      (λ v. Standing p acc asked past (λ m. of_mem m (writes_from p (suc n) image p.start)) v
      (after_turns p image (suc n)).arrays (after_turns p image (suc n)).next (length p.stages ∷ []) sps)
      (λ i m.
      (ap (λ s. marks p (with_hint (after_turns p image n).arrays sp.hint) (after_turns p image n).next s m) e
      ∙ acc.marks_end (with_hint (after_turns p image n).arrays sp.hint) (after_turns p image n).next m) i)
      (subst
      (λ w. Standing p acc asked past w (λ m. [] ++ marks p (with_hint (after_turns p image n).arrays sp.hint) (after_turns p image n).next sp.stage m)
      (after_turns p image (suc n)).arrays (after_turns p image (suc n)).next (length p.stages ∷ []) sps)
      (λ i m. (sym (of_mem_append m (writes_from p n image p.start) _) ∙ ap (of_mem m) (sym (writes_more p n image p.start))) i)
      (weaker asked past _ _ (after_turns p image (suc n)).arrays (after_turns p image (suc n)).next (sp.stage ∷ suc (length p.stages) ∷ [])
      (length p.stages ∷ []) sps (λ s u. (subst (λ b. Under p b s) e u.0, tt)) (λ u. absurd (sure_end u)) h.1))

  dropped_live : (asked : List (Option ℕ)) (past w : Writes) (v : Marks) (arrays : Arrays) (args : List ℕ) (ahead : List ℕ) (sp : Spot) (sps : List Spot)
      → sp.stage ≡ length p.stages
      → Standing p acc asked past w v arrays args ahead (sp ∷ sps) → is_nil sps ≡ false
  dropped_live asked past w v arrays args ahead sp sps e h =
      at (is_nil sps)
      (sym (acc.child_end (with_hint arrays sp.hint) args)
      ∙ ap (λ s. right_guess (so_far p (with_hint arrays sp.hint) args s).child (thread p arrays args).next) (sym e) ∙ h.0.linked)
    where
      at : (b : Bool) → true ≡ not b → b ≡ false
      at true f = absurd (cc f)
      at false f = refl

  dropped_tail : (arrays : Arrays) (args : List ℕ) (sp : Spot) (sps : List Spot) (strays : List Thread) → is_nil sps ≡ false
      → Tail p acc.stray acc.made arrays args (sp ∷ sps) strays → Tail p acc.stray acc.made (thread p arrays args).arrays (thread p arrays args).next sps strays
  dropped_tail arrays args sp [] strays h t = absurd (cc h)
  dropped_tail arrays args sp (r ∷ sps) strays h t = t

  -- the oldest thread has no older ones, with nothing undone, committed or asked for before it
  pub behind_none : Behind p acc [] (λ m. []) (λ m. []) (λ m. []) (λ m. None) (length p.stages ∷ []) (suc (length p.stages) ∷ [])
  behind_none =
      record {
        fits = λ m a r u f. refl;
        split = λ m. later_none m;
        gone = λ m r u h. refl;
        plain = λ m h. refl;
        moves = (refl, refl);
        asked = λ m r u h. absurd (cc h);
      }

  -- the state after a cycle, by what its threads did
  runs_after : (image : Arrays) (n : ℕ) (past : List Commit) (st' : State) (these : List Act) (hs : Hint)
      → st'.threads ≡ survivors p hs these → st'.arrays ≡ after_commits image (past ++ commits_of these) → length st'.asked ≡ length p.mems
      → Turned p acc hs st'.asked (λ m. of_mem m (past ++ commits_of these))
      (λ m. of_mem m (writes_from p n image p.start)) (λ m. [])
      (after_turns p image n).arrays (after_turns p image n).next (length p.stages ∷ [])
      (suc (length p.stages) ∷ []) these
      → Runs p acc image (if ends_one p these then suc n else n) (past ++ commits_of these) st'
  runs_after image n past st' these hs e f known t = at t.spots t.strays t.threads t.standing t.tail t.some t.ended
    where
      at : (sps : List Spot) (strays : List Thread) → survivors p hs these ≡ shown p (after_turns p image n).arrays (after_turns p image n).next sps ++ strays
          → Standing p acc st'.asked (λ m. of_mem m (past ++ commits_of these))
          (λ m. of_mem m (writes_from p n image p.start)) (λ m. [])
          (after_turns p image n).arrays (after_turns p image n).next (suc (length p.stages) ∷ []) sps
          → Tail p acc.stray acc.made (after_turns p image n).arrays (after_turns p image n).next sps strays
          → is_nil sps ≡ false → ends_one p these ≡ past_last p sps
          → Runs p acc image (if ends_one p these then suc n else n) (past ++ commits_of these) st'
      at [] strays g h t k l = absurd (cc k)
      at (sp ∷ sps) strays g h t k l = by_last (nat_lt sp.stage (length p.stages)) refl
        where
          by_last : (b : Bool) → nat_lt sp.stage (length p.stages) ≡ b → Runs p acc image (if ends_one p these then suc n else n) (past ++ commits_of these) st'
          by_last true i =
              let low : sp.stage < length p.stages = ltb-true _ _ i in
              let rest : Standing p acc st'.asked (λ m. of_mem m (past ++ commits_of these)) _ _
              (after_turns p image (suc n)).arrays (after_turns p image (suc n)).next
              (sp.stage ∷ length p.stages ∷ []) sps =
              weaker st'.asked (λ m. of_mem m (past ++ commits_of these)) _ _ (after_turns p image (suc n)).arrays
              (after_turns p image (suc n)).next (sp.stage ∷ suc (length p.stages) ∷ [])
              (sp.stage ∷ length p.stages ∷ []) sps (λ s u. (u.0, (under_end sp.stage s (le_of_lt low) u.0, tt))) (λ u. u) h.1 in
              let here : Here p acc st'.asked (λ m. of_mem m (past ++ commits_of these))
              (λ m. of_mem m (writes_from p n image p.start)) (λ m. [])
              (with_hint (after_turns p image n).arrays sp.hint) (after_turns p image n).next (length p.stages ∷ []) sp (is_nil sps) =
              record {
                under = (under_low sp.stage low, tt);
                on = h.0.on;
                words = λ m c. h.0.words m
                    (at_end sp m c);
                clean = h.0.clean;
                linked = h.0.linked;
                waits = h.0.waits;
                calm = λ u. absurd (sure_end u);
              } in
              subst (λ c. Runs p acc image (cond c (suc n) n) (past ++ commits_of these) st') (sym (l ∙ ap not i))
              (record {
                spots = sp ∷ sps;
                strays = strays;
                tail = t;
                threads =
                    e ∙ g
                    ∙ ap (λ l. l ++ strays)
                    (shown_seats st'.asked (λ m. of_mem m (past ++ commits_of these)) _ _ (after_turns p image n).arrays
                    (after_turns p image n).next (length p.stages ∷ [])
                    (sp ∷ sps) low_end (here, rest));
                arrays = f;
                standing = (here, rest);
                live = refl;
                known = known;
              })
          by_last false i =
              let past_it : sp.stage ≡ length p.stages =
              exact (ltb-false _ _ i)
              (h.0.under.0 [] (within_all p _) (within_all p _) sp.stage (acc.graph.trunk_past sp.stage (ltb-false _ _ i)) (le_refl sp.stage)) in
              let h'' = dropped st'.asked (λ m. of_mem m (past ++ commits_of these)) image n sp sps past_it h in
              subst (λ c. Runs p acc image (cond c (suc n) n) (past ++ commits_of these) st') (sym (l ∙ ap not i))
              (record {
                spots = sps;
                strays = strays;
                tail = dropped_tail _ _ sp sps strays (dropped_live st'.asked (λ m. of_mem m (past ++ commits_of these)) _ _ _ _ _ sp sps past_it h) t;
                threads =
                    e ∙ g
                    ∙ ap
                    (λ b.
                    (cond b (seat p (with_hint (after_turns p image n).arrays sp.hint) (after_turns p image n).next sp ∷ []) []
                    ++ shown p (after_turns p image (suc n)).arrays (after_turns p image (suc n)).next sps)
                    ++ strays) i
                    ∙ ap (λ l. l ++ strays)
                    (shown_seats st'.asked (λ m. of_mem m (past ++ commits_of these)) _ _
                    (after_turns p image (suc n)).arrays (after_turns p image (suc n)).next
                    (length p.stages ∷ []) sps low_end h'');
                arrays = f;
                standing = h'';
                live = dropped_live st'.asked (λ m. of_mem m (past ++ commits_of these)) _ _ _ _ _ sp sps past_it h;
                known = known;
              })
            where
              exact : length p.stages ≤ sp.stage → sp.stage < suc (length p.stages) → sp.stage ≡ length p.stages
              exact u v = omega arith

  -- a state of a run is one of a run after a cycle more, with the thread that ended in it and its commits
  pub runs_cycle : (image : Arrays) (n : ℕ) (past : List Commit) (st : State) (bits : List Bool) → Runs p acc image n past st
      → Runs p acc image (if ends_one p (all_acts p st bits) then suc n else n)
      (past ++ commits_of (all_acts p st bits)) (after_acts p st bits (all_acts p st bits))
  runs_cycle image n past st bits r =
      runs_after image n past (after_acts p st bits (all_acts p st bits)) (all_acts p st bits) (st.hints 0) refl
      (ap (λ l. after_commits l (commits_of (all_acts p st bits))) r.arrays ∙ sym (committed_append past (commits_of (all_acts p st bits)) image))
      (requests_length p bits (asks_of (all_acts p st bits)) 0 st.asked ∙ r.known)
      (subst
      (λ ts. Turned p acc (st.hints 0) (next_asks p bits (asks_of (acts p st bits [] ts)) 0 st.asked)
      (λ m. of_mem m (past ++ commits_of (acts p st bits [] ts))) (λ m. of_mem m (writes_from p n image p.start))
      (λ m. []) (after_turns p image n).arrays (after_turns p image n).next (length p.stages ∷ [])
      (suc (length p.stages) ∷ []) (acts p st bits [] ts))
      (sym r.threads)
      (turned p acc image st bits (λ m. of_mem m past)
      (λ m. of_mem m (past ++ commits_of (acts p st bits [] (seats p (after_turns p image n).arrays (after_turns p image n).next r.spots ++ r.strays))))
      (asks_of (acts p st bits [] (seats p (after_turns p image n).arrays (after_turns p image n).next r.spots ++ r.strays)))
      (λ m. ap (λ l. row l m) r.arrays ∙ row_committed m past image) r.known
      [] (λ m. []) (λ m. []) (λ m. []) (λ m. of_mem m (writes_from p n image p.start)) (λ m. None)
      (after_turns p image n).arrays (after_turns p image n).next (length p.stages ∷ [])
      (suc (length p.stages) ∷ []) r.spots r.strays
      (rows_at image n) behind_none r.standing r.tail r.live (λ m. of_mem_append m past _) (λ m. refl)))

  -- a state of a run is one of a run after a schedule more, with the threads that ended in it and its commits
  pub runs_run : (image : Arrays) (n : ℕ) (past : List Commit) (st : State) (schedule : List (List Bool)) → Runs p acc image n past st
      → Runs p acc image (n + ended_in (turns_from p st schedule)) (past ++ all_commits (turns_from p st schedule)) (state_after p st schedule)
  runs_run image n past st [] r =
      subst (λ k. Runs p acc image k (past ++ []) st) (sym (add-zero n)) (subst (λ l. Runs p acc image n l st) (sym (append-nil past)) r)
  runs_run image n past st (bits ∷ schedule) r =
      subst (λ l. Runs p acc image (n + ended_in (turns_from p st (bits ∷ schedule))) l (state_after p st (bits ∷ schedule)))
      (append_assoc past (commits_of (all_acts p st bits)) _)
      (subst
      (λ k. Runs p acc image k ((past ++ commits_of (all_acts p st bits)) ++ all_commits (turns_from p (cycle p st bits) schedule))
      (state_after p st (bits ∷ schedule)))
      (count (ends_one p (all_acts p st bits)))
      (runs_run image (if ends_one p (all_acts p st bits) then suc n else n) (past ++ commits_of (all_acts p st bits))
      (cycle p st bits) schedule (runs_cycle image n past st bits r)))
    where
      count : (b : Bool)
          → (cond b (suc n) n) + ended_in (turns_from p (cycle p st bits) schedule)
          ≡ n + cond b (suc (ended_in (turns_from p (cycle p st bits) schedule))) (ended_in (turns_from p (cycle p st bits) schedule))
      count true = omega arith
      count false = refl

  none_length : (ms : List Mem) → length (nothing_asked ms) ≡ length ms
  none_length [] = refl
  none_length (m ∷ ms) = ap suc (none_length ms)

  -- the first state is one of a run, with no thread ended and nothing committed
  pub runs_first : (image : Arrays) (hints : ℕ → Hint) → Runs p acc image 0 [] (first p image hints)
  runs_first image hints =
      record {
        spots = start_spot p (hints 0) p.start ∷ [];
        strays = [];
        tail = subst (λ c. Last p acc.stray acc.made 0 c []) (sym (ap (λ (w : Work). w.child) (acc.start_so (with_hint image (hints 0)) p.start))) refl;
        threads = ap (λ t. t ∷ []) (born_seat p acc (with_hint image (hints 0)) p.start);
        arrays = refl;
        standing =
            born_standing p acc (nothing_asked p.mems) (λ m. []) (λ m. [])
            (λ m. []) (with_hint image (hints 0)) p.start (length p.stages ∷ []) (under_low 0 acc.graph.some_stage, tt) (λ m. refl);
        live = refl;
        known = none_length p.mems;
      }

  -- the state after a schedule is one of a run, with the threads that ended in it and its commits
  pub run_of : (image : Arrays) (hints : ℕ → Hint) (schedule : List (List Bool))
      → Runs p acc image (ended_in (turns p image hints schedule)) (all_commits (turns p image hints schedule)) (state_after p (first p image hints) schedule)
  run_of image hints schedule =
      subst (λ n. Runs p acc image n (all_commits (turns p image hints schedule)) (state_after p (first p image hints) schedule))
      (zero-add (ended_in (turns p image hints schedule))) (runs_run image 0 [] (first p image hints) schedule (runs_first image hints))

  -- REFINEMENT

  -- all turns' writes are the commits with what is undone
  total : (m : ℕ) (asked : List (Option ℕ)) (past w : Writes) (v : Marks) (arrays : Arrays) (args : List ℕ) (ahead : List ℕ) (sps : List Spot)
      → Standing p acc asked past w v arrays args ahead sps
      → (rest : List Commit) × (past m ++ rest ≡ w m ++ of_mem m (writes_from p (length sps) arrays args))
  total m asked past w v arrays args ahead [] h = (strips m (v m), sym (append-nil (w m) ∙ h m))
  total m asked past w v arrays args ahead (sp ∷ sps) h =
      let k =
      total m asked past (λ n. w n ++ of_mem n (thread p arrays args).writes)
      (λ n. v n ++ marks p (with_hint arrays sp.hint) args sp.stage n)
      (thread p arrays args).arrays (thread p arrays args).next (sp.stage ∷ ahead) sps h.1 in
      (k.0, k.1 ∙ append_assoc (w m) (of_mem m (thread p arrays args).writes) _ ∙ ap (λ l. w m ++ l) (sym (of_mem_append m (thread p arrays args).writes _)))

  -- the writes before a turn are among the commits where no older thread has an undone write
  begun : (m : ℕ) (asked : List (Option ℕ)) (past w : Writes) (v : Marks) (arrays : Arrays) (args : List ℕ) (ahead : List ℕ) (sps : List Spot)
      → v m ≡ [] → Standing p acc asked past w v arrays args ahead sps
      → (rest : List Commit) × (w m ++ rest ≡ past m)
  begun m asked past w v arrays args ahead [] e h = ([], append-nil (w m) ∙ h m ∙ ap (λ l. past m ++ strips m l) e ∙ append-nil (past m))
  begun m asked past w v arrays args ahead (sp ∷ sps) e h =
      at (nat_lt (commit_stage p m) sp.stage) refl
      (λ f. begun m asked past (λ n. w n ++ of_mem n (thread p arrays args).writes)
      (λ n. v n ++ marks p (with_hint arrays sp.hint) args sp.stage n)
      (thread p arrays args).arrays (thread p arrays args).next (sp.stage ∷ ahead) sps f h.1)
    where
      at : (b : Bool) → nat_lt (commit_stage p m) sp.stage ≡ b
          → (v m ++ marks p (with_hint arrays sp.hint) args sp.stage m ≡ [] → (rest : List Commit)
          × ((w m ++ of_mem m (thread p arrays args).writes) ++ rest ≡ past m))
          → (rest : List Commit) × (w m ++ rest ≡ past m)
      at true f k =
          let r = k (ap₂ (λ l c. l ++ c) e (acc.marks_late (with_hint arrays sp.hint) args sp.stage m (ltb-true _ _ f))) in
          (of_mem m (thread p arrays args).writes ++ r.0, sym (append_assoc (w m) (of_mem m (thread p arrays args).writes) r.0) ∙ r.1)
      at false f k = ([], append-nil (w m) ∙ h.0.words m (inl (ltb-false _ _ f)) ∙ ap (λ l. past m ++ strips m l) e ∙ append-nil (past m))

  -- the live threads on their turns stand in different stages
  abbrev pub stages_of : List Spot → List ℕ
  stages_of [] = []
  stages_of (sp ∷ sps) = sp.stage ∷ stages_of sps

  apart_from : (b : ℕ) (asked : List (Option ℕ)) (past w : Writes) (v : Marks) (arrays : Arrays) (args : List ℕ) (ahead : List ℕ) (sps : List Spot)
      → ((s : ℕ) → AllUnder p ahead s → Under p b s)
      → Standing p acc asked past w v arrays args ahead sps → AllByRecursion (λ y. eqb b y ≡ false) (stages_of sps)
  apart_from b asked past w v arrays args ahead [] f h = tt
  apart_from b asked past w v arrays args ahead (sp ∷ sps) f h = (
    ne_eqb b sp.stage (λ e. not_self p acc sp.stage (subst (λ n. Under p n sp.stage) e (f sp.stage h.0.under))),
    apart_from b asked past (λ n. w n ++ of_mem n (thread p arrays args).writes)
        (λ n. v n ++ marks p (with_hint arrays sp.hint) args sp.stage n)
        (thread p arrays args).arrays (thread p arrays args).next (sp.stage ∷ ahead) sps (λ s u. f s u.1) h.1,
  )

  distinct : (asked : List (Option ℕ)) (past w : Writes) (v : Marks) (arrays : Arrays) (args : List ℕ) (ahead : List ℕ) (sps : List Spot)
      → Standing p acc asked past w v arrays args ahead sps → IsDistinct eqb (stages_of sps)
  unfolding IsDistinct
  distinct asked past w v arrays args ahead [] h = tt
  distinct asked past w v arrays args ahead (sp ∷ sps) h = (
    apart_from sp.stage asked past (λ n. w n ++ of_mem n (thread p arrays args).writes)
        (λ n. v n ++ marks p (with_hint arrays sp.hint) args sp.stage n)
        (thread p arrays args).arrays (thread p arrays args).next (sp.stage ∷ ahead) sps (λ s u. u.0) h.1,
    distinct asked past (λ n. w n ++ of_mem n (thread p arrays args).writes)
        (λ n. v n ++ marks p (with_hint arrays sp.hint) args sp.stage n)
        (thread p arrays args).arrays (thread p arrays args).next (sp.stage ∷ ahead) sps h.1,
  )

  low_ones : (asked : List (Option ℕ)) (past w : Writes) (v : Marks) (arrays : Arrays) (args : List ℕ) (ahead : List ℕ) (sps : List Spot)
      → ((s : ℕ) → AllUnder p ahead s → s < length p.stages)
      → Standing p acc asked past w v arrays args ahead sps → (q : ℕ) → list_any (eqb q) (stages_of sps) ≡ true → q < length p.stages
  low_ones asked past w v arrays args ahead [] f h q k = absurd (cc k)
  low_ones asked past w v arrays args ahead (sp ∷ sps) f h q k =
      at (eqb q sp.stage) refl k
      (low_ones asked past (λ n. w n ++ of_mem n (thread p arrays args).writes)
      (λ n. v n ++ marks p (with_hint arrays sp.hint) args sp.stage n)
      (thread p arrays args).arrays (thread p arrays args).next (sp.stage ∷ ahead) sps (λ s u. f s u.1) h.1 q)
    where
      at : (b : Bool) → eqb q sp.stage ≡ b → (b || list_any (eqb q) (stages_of sps)) ≡ true
          → (list_any (eqb q) (stages_of sps) ≡ true → q < length p.stages) → q < length p.stages
      at true e i g = subst (λ n. n < length p.stages) (sym (eqb-true q sp.stage e)) (f sp.stage h.0.under)
      at false e i g = g i

  few : (asked : List (Option ℕ)) (past w : Writes) (v : Marks) (arrays : Arrays) (args : List ℕ) (sps : List Spot)
      → Standing p acc asked past w v arrays args (length p.stages ∷ []) sps → length sps ≤ length p.stages
  few asked past w v arrays args sps h =
      subst (λ n. n ≤ length p.stages) (same sps)
      (length-le_from_distinct_below (stages_of sps) (length p.stages)
      (distinct asked past w v arrays args (length p.stages ∷ []) sps h)
      (low_ones asked past w v arrays args (length p.stages ∷ []) sps low_end h))
    where
      same : (sps : List Spot) → length (stages_of sps) ≡ length sps
      same [] = refl
      same (sp ∷ sps) = ap suc (same sps)

  run_refines : (image : Arrays) (n : ℕ) (past : List Commit) (st : State) (m k : ℕ) (r : Runs p acc image n past st) → length r.spots ≤ k
      → IsPrefix (seqwrites p image m n) (of_mem m past) × IsPrefix (of_mem m past) (seqwrites p image m (n + k))
  run_refines image n past st m k r h = (
    begun m st.asked (λ j. of_mem j past) (λ j. of_mem j (writes_from p n image p.start)) (λ m. []) _ _ (length p.stages ∷ []) r.spots refl r.standing,
    (
      t.0 ++ l.0,
      sym (append_assoc (of_mem m past) t.0 l.0)
          ∙ ap (λ x. x ++ l.0)
          (t.1 ∙ sym (of_mem_append m (writes_from p n image p.start) _) ∙ ap (of_mem m) (sym (writes_add p n (length r.spots) image p.start)))
          ∙ l.1,
    ),
  )
    where
      t : (rest : List Commit)
          × (of_mem m past ++ rest
          ≡ of_mem m (writes_from p n image p.start) ++ of_mem m (writes_from p (length r.spots) (after_turns p image n).arrays (after_turns p image n).next))
      t =
          total m st.asked (λ j. of_mem j past) (λ j. of_mem j (writes_from p n image p.start)) (λ m. [])
          (after_turns p image n).arrays (after_turns p image n).next (length p.stages ∷ []) r.spots r.standing

      l : (rest : List Commit) × (of_mem m (writes_from p (n + length r.spots) image p.start) ++ rest ≡ of_mem m (writes_from p (n + k) image p.start))
      l = longer p m n (length r.spots) k image p.start h

  -- every run of the derived machine refines the sequential run
  pub refines : (image : Arrays) (hints : ℕ → Hint) (schedule : List (List Bool)) → Refines p image hints schedule
  refines image hints schedule =
      let r = run_of image hints schedule in
      let h : length r.spots ≤ length p.stages = few _ _ _ _ _ _ r.spots r.standing in
      record {
        whole = λ m. (run_refines image _ _ _ m (length p.stages) r h).0;
        prefix = λ m. (run_refines image _ _ _ m (length p.stages) r h).1;
        end = r.arrays;
      }

  -- a memory without lock is not written
  plain_turn : (m : ℕ) (world : World) (args : List ℕ) → is_plain (mem_at p m).lock ≡ true → of_mem m (thread p world.words args).writes ≡ []
  plain_turn m world args h = sym (acc.marks_start world args m) ∙ ap (strips m) (acc.marks_plain world args 0 m h)

  -- no number of turns writes to a memory without lock
  pub plain_writes : (m k : ℕ) (arrays : Arrays) (args : List ℕ) → is_plain (mem_at p m).lock ≡ true → of_mem m (writes_from p k arrays args) ≡ []
  plain_writes m zero arrays args h = refl
  plain_writes m (suc k) arrays args h =
      of_mem_append m (thread p arrays args).writes _
      ∙ ap₂ (λ a b. a ++ b) (plain_turn m (with_hint arrays no_hint) args h) (plain_writes m k (thread p arrays args).arrays (thread p arrays args).next h)

  -- PROGRESS

  asked_all : (asked : List (Option ℕ)) (qs : List Ask) → AllAsks (Out asked) qs → Asked asked (awaited_of qs)
  asked_all asked [] h = tt
  asked_all asked (q ∷ qs) h = (ap is_some h.0, asked_all asked qs h.1)

  -- the oldest thread of a state that a run comes to moves, unless the cycle is a wait
  pub oldest_of : (image : Arrays) (n : ℕ) (past : List Commit) (st : State) (bits : List Bool) (r : Runs p acc image n past st)
      → is_wait p st bits ≡ false → oldest_moves (all_acts p st bits) ≡ true
  oldest_of image n past st bits r k = subst (λ ts. oldest_moves (acts p st bits [] ts) ≡ true) (sym r.threads) (at r.spots r.standing r.live)
    where
      at : (sps : List Spot)
          → Standing p acc st.asked (λ m. of_mem m past) (λ m. of_mem m (writes_from p n image p.start)) (λ m. [])
          (after_turns p image n).arrays (after_turns p image n).next (length p.stages ∷ []) sps
          → is_nil sps ≡ false → oldest_moves (acts p st bits [] (seats p (after_turns p image n).arrays (after_turns p image n).next sps ++ r.strays)) ≡ true
      at [] h l = absurd (cc l)
      at (sp ∷ sps) h l =
          oldest p st bits (seat p (with_hint (after_turns p image n).arrays sp.hint) (after_turns p image n).next sp)
          (room_alone p (act p st bits [] (seat p (with_hint (after_turns p image n).arrays sp.hint) (after_turns p image n).next sp)).work
          (acc.rooms (around p st bits [] sp.stage sp.hint)
          (answered_thread p st bits
          (seat p (with_hint (after_turns p image n).arrays sp.hint) (after_turns p image n).next sp)))) (asked_all st.asked sp.asks h.0.waits.out) k

  -- after any schedule the oldest thread of the derived machine moves in a cycle that isn't a wait
  pub advances : (image : Arrays) (hints : ℕ → Hint) (schedule : List (List Bool)) (bits : List Bool) → Advances p image hints schedule bits
  advances image hints schedule bits k = oldest_of image _ _ (state_after p (first p image hints) schedule) bits (run_of image hints schedule) k
