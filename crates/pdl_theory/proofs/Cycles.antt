-- A cycle keeps the live threads on their turns, in the whole language, and what is committed in step with the sequential run.
use Rattle.std.proofs.Common.{◌≡◌, ◌≢◌, refl, sym, ap, ap₂, ◌∙◌, subst, ℕ, ◌≤◌, ◌<◌, ◌⊎◌, inl, inr, Bool, true, false, ◌&&◌, ◌||◌, not, List, [], ◌∷◌, ◌++◌, length, Option, Some, None, ◌==◌, nat_lt, cond, arith, append_assoc, is_none, is_some}
use Rattle.std.proofs.lemmas.Bool.{eqb-true, eqb-false, false≢true}
use Rattle.std.proofs.Common.{ltb-false, lt-ltb, le_of_eq, le_refl, le_of_lt, lt_of_lt_of_le}
use Rattle.pdl_semantics.specs.Flat.{Arrays, Pipe, of_mem, list_all, start_env}
use Rattle.pdl_semantics.specs.Stages.{stage_at, mem_at, goes_to, commit_stage, reserve_stage}
use Rattle.pdl_semantics.specs.Locks.{Nothing}
use Rattle.pdl_semantics.specs.Machine.{Ask, Awaited, is_answered}
use Rattle.pdl_semantics.specs.Cycle.{awaited_of}
use Rattle.pdl_semantics.specs.Moves.{is_empty}
use Rattle.pdl_semantics.specs.Sequential.{thread}
use Rattle.pdl_semantics.specs.Promises.{wrote, row}
use Rattle.pdl_theory_turns.specs.Derived.{Hint, Work, Thread, State, Act, work_of_stage, around, act, acts, latest, latest_in, befores, can_enter, commits_of, asks_of, find_ask, next_asks, moved_to, fresh, answered_thread, awaits_mem}
use Rattle.pdl_theory_turns.specs.Alone.{World, so_far, thread_at}
use Rattle.pdl_theory_turns.proofs.Writes.{and_left, and_right, wrote_append}
use Rattle.pdl_theory_turns.proofs.Marks.{seen, strips, Later, later_more, later_strips, later_ready, raised_refl, seen_append, strips_append}
use Rattle.pdl_theory_turns.proofs.UndoneWrites.{marks}
use Rattle.pdl_theory_turns.proofs.Surroundings.{Right}
use Rattle.pdl_theory_turns.proofs.TurnFacts.{next_of, next_at, blocked_at, right_guess, stage_work}
use Rattle.pdl_theory_turns.proofs.Lives.{Writes, Marks, Clean, RowsAt}
use Rattle.pdl_theory.proofs.Cycle.{right_weaken, words_step, Now, moved_quiet}
use Rattle.pdl_theory_turns.proofs.Courses.{Course, AskOk, Strayed, onward}
use Rattle.pdl_theory_turns.proofs.Nested.{within_all, within_home}
use Rattle.pdl_theory_turns.proofs.ThreadOrder.{Under, AllUnder, Stepped, all_low, all_grow, all_step, not_next, fresh_under}
use Rattle.pdl_theory_turns.proofs.DelayedReads.{apart_still, AllAsks, all_more, all_both, all_still, Out, new_out, all_out, or_ask, find_append, found, held_port, answers_caught}
use Rattle.pdl_theory.proofs.Unsure.{Unsure, unsure_older, unsure_before}
use Rattle.pdl_theory.proofs.Spots.{Spot, seat, now_spot, now_seat, Sure, Waits, Here, Standing, Behind, plain_clean, surrounds, words_right, whole_now}

-- no read is awaited where the test finds none
pub none_left : (rs : List Awaited) → is_empty rs ≡ true → rs ≡ []
none_left [] h = refl
none_left (r ∷ rs) h = absurd (cc h)

-- whether the first of these spots is past the last stage
abbrev pub past_last : Pipe → List Spot → Bool
past_last p [] = false
past_last p (sp ∷ sps) = not (nat_lt sp.stage (length p.stages))

-- all requests of a cycle, where those of the first thread are told apart
abbrev pub NowAsks : List Ask → (ℕ → Option ℕ) → List Act → Type 0
NowAsks all older these = (m : ℕ) → find_ask all m ≡ or_ask (older m) (find_ask (asks_of these) m)

-- the end of a chain of the four tests of a thread that moves
moves_ready : (p : Pipe) (st : State) (bits : List Bool) (older : List Act) (t : Thread)
    → (act p st bits older t).moves ≡ true
    → (work_of_stage p (around p st bits older t.stage t.hint) (answered_thread p st bits t)).ready ≡ true
moves_ready p st bits older t e = and_right _ _ (and_left _ _ (and_left _ _ (and_left _ _ e)))

moves_answered : (p : Pipe) (st : State) (bits : List Bool) (older : List Act) (t : Thread)
    → (act p st bits older t).moves ≡ true → is_empty (answered_thread p st bits t).awaits ≡ true
moves_answered p st bits older t e = and_right _ _ (and_left _ _ e)

-- where a turn stands after it moved from stage s
abbrev pub moved_spot : Pipe → World → List ℕ → ℕ → Spot
moved_spot p world args s =
    record { stage = next_at p world args s; hint = world.hint; env = (stage_work p world args s).env; asks = (stage_work p world args s).asks }

-- the spot where a turn begins
abbrev pub start_spot : Pipe → Hint → List ℕ → Spot
start_spot p g args = record { stage = 0; hint = g; env = start_env p args; asks = [] }

module _ (p : Pipe) (acc : Course p) where
  -- no thread stands behind one in its own stage
  pub not_self : (s : ℕ) → Under p s s → ⊥
  not_self s u = let i : s < s = u (stage_at p s).branches (within_home p _ s refl) (within_home p _ s refl) s refl (le_refl s) in omega arith

  -- a new thread stands behind all that an older one stands behind
  pub under_start : (bs : List ℕ) (s : ℕ) → AllUnder p bs s → AllUnder p bs 0
  under_start [] s u = tt
  under_start (b ∷ bs) s u =
      (fresh_under p acc.graph acc.branches b (u.0 [] (within_all p _) (within_all p _) 0 acc.graph.trunk_start (omega arith)), under_start bs s u.1)

  -- what the next younger thread knows, where this one's stage becomes s'
  behind_next : (older : List Act) (v v' : Marks) (d e : Writes) (asks more : ℕ → Option ℕ) (world : World)
      (args : List ℕ) (ahead ahead' : List ℕ) (s s' : ℕ) (a : Act)
      → Behind p acc older v v' d asks ahead ahead' → AllUnder p ahead s → a.before.stage ≡ s
      → a.before.entries ≡ (so_far p world args s).entries → Stepped p a.moves s s'
      → ((m : ℕ) → Later m (marks p world args s m) (e m) (marks p world args s' m))
      → ((m : ℕ) → s ≢ commit_stage p m → e m ≡ []) → ((m : ℕ) → is_some (more m) ≡ true → s ≡ acc.fetch m)
      → Behind p acc (a ∷ older) (λ m. v m ++ marks p world args s m) (λ m. v' m ++ marks p world args s' m)
      (λ m. d m ++ e m) (λ m. or_ask (asks m) (more m)) (s ∷ ahead) (s' ∷ ahead')
  behind_next older v v' d e asks more world args ahead ahead' s s' a b u is held stepped own quiet mine =
      record {
        fits = fits;
        split = λ m. later_more m (v m) (d m) (v' m) _ (e m) _ (b.split m) (own m) (quiet_or m (s == commit_stage p m) refl);
        gone = λ m r k h. let low = k.0 [] (within_all p _) (within_all p _) (commit_stage p m) (acc.graph.trunk_commit m) h in
            ap₂ (λ x y. x ++ y) (b.gone m s u (le_of_lt low)) (acc.marks_late world args s m low);
        plain = λ m h. ap₂ (λ l k. l ++ k) (b.plain m h) (acc.marks_plain world args s m h);
        moves = (is, stepped, b.moves);
        asked = asked;
      }
    where
      fits : (m x r : ℕ) → AllUnder p (s ∷ ahead) r → reserve_stage p m ≤ r → latest (befores (a ∷ older)) m x ≡ seen x (v m ++ marks p world args s m) Nothing
      fits m x r k f =
          let low = k.0 [] (within_all p _) (within_all p _) (reserve_stage p m) (acc.graph.trunk_reserve m) f in
          ap (λ es. latest_in es m x (latest (befores older) m x)) held
          ∙ acc.marks_seen world args s m x (latest (befores older) m x) low
          ∙ ap (seen x (marks p world args s m)) (b.fits m x s u (le_of_lt low))
          ∙ sym (seen_append x (v m) (marks p world args s m) Nothing)

      quiet_or : (m : ℕ) (t : Bool) → (s == commit_stage p m) ≡ t → (e m ≡ []) ⊎ (v m ≡ [])
      quiet_or m true f = inr (b.gone m s u (le_of_eq (sym (eqb-true _ _ f))))
      quiet_or m false f = inl (quiet m (eqb-false _ _ f))

      asked : (m r : ℕ) → AllUnder p (s ∷ ahead) r → is_some (or_ask (asks m) (more m)) ≡ true → Under p (acc.fetch m) r
      asked m r k h = at (asks m) refl h
        where
          at : (o : Option ℕ) → asks m ≡ o → is_some (or_ask o (more m)) ≡ true → Under p (acc.fetch m) r
          at None f g = subst (λ n. Under p n r) (mine m g) k.0
          at (Some x) f g = b.asked m r k.1 (ap is_some f)

  -- where the first thread moves, the cycle's requests are those of the older threads, its own, and those of the ones behind it
  pub asks_moved : (all : List Ask) (asks : ℕ → Option ℕ) (a : Act) (rest : List Act) → a.moves ≡ true
      → NowAsks all asks (a ∷ rest) → NowAsks all (λ m. or_ask (asks m) (find_ask a.work.asks m)) rest
  asks_moved all asks a rest h now m =
      now m ∙ ap (λ k. or_ask (asks m) (find_ask (cond k (a.work.asks ++ asks_of rest) (asks_of rest)) m)) h
      ∙ ap (or_ask (asks m)) (find_append a.work.asks (asks_of rest) m) ∙ three (asks m) (find_ask a.work.asks m) (find_ask (asks_of rest) m)
    where
      three : (x y z : Option ℕ) → or_ask x (or_ask y z) ≡ or_ask (or_ask x y) z
      three None y z = refl
      three (Some x) y z = refl

  -- where the first thread stands, the cycle's requests are those of the older threads and of the ones behind it
  pub asks_stays : (all : List Ask) (asks : ℕ → Option ℕ) (a : Act) (rest : List Act) → a.moves ≡ false
      → NowAsks all asks (a ∷ rest) → NowAsks all (λ m. or_ask (asks m) None) rest
  asks_stays all asks a rest h now m =
      now m ∙ ap (λ k. or_ask (asks m) (find_ask (cond k (a.work.asks ++ asks_of rest) (asks_of rest)) m)) h
      ∙ ap (λ o. or_ask o (find_ask (asks_of rest) m)) (none (asks m))
    where
      none : (x : Option ℕ) → x ≡ or_ask x None
      none None = refl
      none (Some x) = refl

  -- the thread after the youngest one's turn
  start_waits : (asked : List (Option ℕ)) (v : Marks) (world : World) (args : List ℕ) → Waits p acc asked v world args (start_spot p world.hint args)
  start_waits asked v world args = record { gets = ap (λ (w : Work). w.env) (sym (acc.start_so world args)); apart = tt; out = tt; sure = tt }

  -- a new thread is the thread of its turn on the start spot
  pub born_seat : (world : World) (args : List ℕ) → fresh p world.hint args ≡ seat p world args (start_spot p world.hint args)
  born_seat world args =
      ap (λ (w : Work). record { stage = 0; hint = world.hint; env = start_env p args; entries = w.entries; guess = w.guess; awaits = [] })
      (sym (acc.start_so world args))

  -- the thread that begins a turn stands on it, where the writes before the turn are the commits and the undone ones
  pub born_standing : (asked : List (Option ℕ)) (past w : Writes) (v : Marks) (world : World) (args : List ℕ) (ahead : List ℕ) → AllUnder p ahead 0
      → ((m : ℕ) → w m ≡ past m ++ strips m (v m)) → Standing p acc asked past w v world.words args ahead (start_spot p world.hint args ∷ [])
  born_standing asked past w v world args ahead under h = (
    record {
      under = under;
      on = acc.on_start world args;
      words = λ m c. h m;
      calm = λ u. subst acc.stray (born_seat world args) (acc.stray_fresh world.hint args).0;
      clean = subst (λ l. Right p 0 (Clean p v) l (so_far p world args 0).env) (sym (acc.start_blocked world args)) tt;
      linked = ap (λ (w : Work). right_guess w.child (thread p world.words args).next) (acc.start_so world args);
      waits = start_waits asked v world args;
    },
    λ m. ap₂ (λ a b. a ++ b) (h m) (sym (acc.marks_start world args m)) ∙ append_assoc (past m) (strips m (v m)) _
        ∙ ap (λ l. past m ++ l) (sym (strips_append m (v m) (marks p world args 0 m))),
  )

  -- a thread in one of the pipe's stages isn't dropped where those past the last stage are
  pub shown_one : (t : Thread) (ts : List Thread) (s : ℕ) → s < length p.stages → t ∷ ts ≡ cond (nat_lt s (length p.stages)) (t ∷ []) [] ++ ts
  shown_one t ts s h = ap (λ b. cond b (t ∷ []) [] ++ ts) (sym (lt-ltb _ _ h))

  -- a thread ends just where its next stage is past the last one
  pub exit_last : (s : ℕ) (env : List ℕ) → s < length p.stages → is_none (goes_to (stage_at p s).next env) ≡ not (nat_lt (next_of p s env) (length p.stages))
  exit_last s env low = ap is_none (acc.graph.leaves s env low) ∙ at (nat_lt (next_of p s env) (length p.stages))
    where
      at : (b : Bool) → is_none (cond b (Some (next_of p s env)) None) ≡ not b
      at true = refl
      at false = refl

  -- where a thread stands after it moved
  moved_seat : (world : World) (args : List ℕ) (s : ℕ) → acc.on world args s → s < length p.stages
      → onward (next_at p world args s) world.hint (stage_work p world args s) ≡ seat p world args (moved_spot p world args s)
  moved_seat world args s on low =
      let n = acc.next_so world args s on low in
      ap₂
      (λ es g. record {
        stage = next_at p world args s;
        hint = world.hint;
        env = (stage_work p world args s).env;
        entries = es;
        guess = g;
        awaits = awaited_of (stage_work p world args s).asks;
      }) n.1 n.2

  -- a thread that did its turn's work of a stage is on its turn in the next one, and gone where that is past the last
  pub moved_thread : (world : World) (args : List ℕ) (s : ℕ) (w : Work) → acc.on world args s → s < length p.stages → w ≡ stage_work p world args s
      → moved_to (goes_to (stage_at p s).next w.env) world.hint w
      ≡ cond (nat_lt (next_at p world args s) (length p.stages)) (seat p world args (moved_spot p world args s) ∷ []) []
  moved_thread world args s w on low same =
      ap (λ (k : Work). moved_to (goes_to (stage_at p s).next k.env) world.hint k) same
      ∙ ap (λ o. moved_to o world.hint (stage_work p world args s)) (acc.graph.leaves s (stage_work p world args s).env low)
      ∙ at (nat_lt (next_at p world args s) (length p.stages))
    where
      at : (b : Bool)
          → moved_to (cond b (Some (next_at p world args s)) None) world.hint (stage_work p world args s)
          ≡ cond b (seat p world args (moved_spot p world args s) ∷ []) []
      at true = ap (λ t. t ∷ []) (moved_seat world args s on low)
      at false = refl

  -- after one more turn the arrays are the image with the writes before that turn and the turn's own
  pub rows_next : (image : Arrays) (w : Writes) (world : World) (args : List ℕ) → RowsAt image w world.words
      → RowsAt image (λ m. w m ++ of_mem m (thread p world.words args).writes) (thread p world.words args).arrays
  rows_next image w world args rows m =
      acc.row_after world args m ∙ ap (λ l. wrote l (of_mem m (thread p world.words args).writes)) (rows m)
      ∙ sym (wrote_append (w m) (of_mem m (thread p world.words args).writes) (row image m))

  -- behind a thread in the pipe nobody is past the last stage
  pub none_past : (asked : List (Option ℕ)) (past w : Writes) (v : Marks) (arrays : Arrays) (args : List ℕ) (s : ℕ) (ahead : List ℕ) (sps : List Spot)
      → s ≤ length p.stages → Standing p acc asked past w v arrays args (s ∷ ahead) sps → past_last p sps ≡ false
  none_past asked past w v arrays args s ahead [] low k = refl
  none_past asked past w v arrays args s ahead (sp ∷ sps) low k = at (nat_lt sp.stage (length p.stages)) refl
    where
      at : (b : Bool) → nat_lt sp.stage (length p.stages) ≡ b → not (nat_lt sp.stage (length p.stages)) ≡ false
      at true e = ap not e
      at false e =
          absurd
          (let i : length p.stages < s = k.0.under.0 [] (within_all p _) (within_all p _) (length p.stages) (acc.graph.trunk_past (length p.stages) (le_refl _))
          (ltb-false _ _ e) in
          omega arith)

-- one thread in a cycle
module _ (p : Pipe) (acc : Course p) (image : Arrays) (st : State) (bits : List Bool) (past past' : Writes)
    (all : List Ask) (rows : RowsAt image past st.arrays) (known : length st.asked ≡ length p.mems) where
  -- the requests that are outstanding after the cycle
  abbrev pub asked' : List (Option ℕ)
  asked' = next_asks p bits all 0 st.asked

  module _ (older : List Act) (v v' : Marks) (d w : Writes) (asks : ℕ → Option ℕ) (world : World) (args : List ℕ)
      (ahead ahead' : List ℕ) (sp : Spot) (last : Bool)
      (rows' : RowsAt image w world.words) (b : Behind p acc older v v' d asks ahead ahead') (h : Here p acc st.asked past w v world args ahead sp last) where
    -- the thread stands in one of the pipe's stages
    pub low_here : sp.stage < length p.stages
    low_here = all_low p acc.graph acc.branches older ahead ahead' sp.stage b.moves h.under

    clean_later : (m a : ℕ) → Clean p v m a → Clean p v' m a
    clean_later m a k = later_ready m a (mem_at p m).lock (v m) (d m) (v' m) (b.split m) k

    -- the head of the live threads after a cycle in which it stands
    pub head_stands : (ts : List Thread) → (act p st bits older (seat p world args sp)).moves ≡ false
        → Now past past' d (act p st bits older (seat p world args sp) ∷ acts p st bits (act p st bits older (seat p world args sp) ∷ older) ts)
        → NowAsks all asks (act p st bits older (seat p world args sp) ∷ acts p st bits (act p st bits older (seat p world args sp) ∷ older) ts)
        → ((m : ℕ) → (sp.stage ≤ commit_stage p m) ⊎ Unsure p acc.v ahead → of_mem m
        (commits_of (acts p st bits (act p st bits older (seat p world args sp) ∷ older) ts)) ≡ [])
        → Here p acc (next_asks p bits all 0 st.asked) past' w v' world args ahead' (now_spot p st bits sp) last
    head_stands ts stays now nowa quiet =
        record {
          under = all_grow p acc.graph acc.branches older ahead ahead' sp.stage b.moves h.under;
          on = h.on;
          words =
              λ m c. words_step (w m) (past m) (past' m) (strips m (v m)) (d m) (strips m (v' m)) _ (h.words m (was_so m c))
              (later_strips m (v m) (d m) (v' m) (b.split m)) (now m)
              (ap (λ k. of_mem m (cond k ((act p st bits older (seat p world args sp)).work.commits ++ commits_of rest) (commits_of rest))) stays
              ∙ quiet m (was_so m c));
          calm =
              λ u. subst acc.stray (now_seat p st bits world args sp)
              (acc.stray_answered st bits (seat p world args sp) (h.calm (unsure_before p acc older ahead ahead' b.moves u))).0;
          clean = right_weaken p sp.stage sp.stage v v' _ _ (le_of_eq refl) (λ m x k. clean_later m x k) h.clean;
          linked = h.linked;
          waits =
              record {
                gets =
                    answers_caught p st bits world.words sp.asks sp.env h.waits.apart
                    (words_right p acc image st past rows older v v' d w asks world args ahead ahead' sp last rows' b h)
                    ∙ h.waits.gets;
                apart = apart_still p bits sp.asks h.waits.apart;
                out =
                    all_out p bits all st.asked sp.asks h.waits.out
                    (all_more (λ q. Out st.asked q × Sure p acc v sp.stage q)
                    (λ q. is_answered p bits q.mem ≡ false → find_ask all q.mem ≡ None) sp.asks quiet_ask
                    (all_both (Out st.asked) (Sure p acc v sp.stage) sp.asks h.waits.out h.waits.sure));
                sure =
                    all_still (Sure p acc v' sp.stage) p bits sp.asks
                    (all_more (Sure p acc v sp.stage) (Sure p acc v' sp.stage) sp.asks sure_later h.waits.sure);
              };
        }
      where
        rest : List Act
        rest = acts p st bits (act p st bits older (seat p world args sp) ∷ older) ts

        was_so : (m : ℕ) → (sp.stage ≤ commit_stage p m) ⊎ Unsure p acc.v ahead' → (sp.stage ≤ commit_stage p m) ⊎ Unsure p acc.v ahead
        was_so m (inl i) = inl i
        was_so m (inr u) = inr (unsure_before p acc older ahead ahead' b.moves u)

        sure_later : (q : Ask) → Sure p acc v sp.stage q → Sure p acc v' sp.stage q
        sure_later q k = record { clean = clean_later q.mem q.address k.clean; early = k.early; exact = k.exact; low = k.low; env = k.env; next = k.next }

        -- nobody asks anew for what it still awaits
        quiet_ask : (q : Ask) → Out st.asked q × Sure p acc v sp.stage q → is_answered p bits q.mem ≡ false → find_ask all q.mem ≡ None
        quiet_ask q k e =
            nowa q.mem
            ∙ ap
            (λ t. or_ask (asks q.mem)
            (find_ask (cond t ((act p st bits older (seat p world args sp)).work.asks ++ asks_of rest) (asks_of rest)) q.mem)) stays
            ∙ ap₂ or_ask (no_older (asks q.mem) refl)
            (held_port p st bits (act p st bits older (seat p world args sp) ∷ older) ts q.mem
            (λ i. is_none (k.0 i)
            || (e i && list_all (λ o. not (awaits_mem o.before.awaits q.mem) || o.moves) (act p st bits older (seat p world args sp) ∷ older))))
          where
            no_older : (o : Option ℕ) → asks q.mem ≡ o → asks q.mem ≡ None
            no_older None f = f
            no_older (Some x) f =
                absurd
                (not_next p acc.graph acc.branches (acc.fetch q.mem) k.1.env k.1.low
                (subst (λ n. Under p (acc.fetch q.mem) n) k.1.next (b.asked q.mem sp.stage h.under (ap is_some f))))

    -- where it moves
    module _ (e : (act p st bits older (seat p world args sp)).moves ≡ true) where
      -- where it moves, the thread with its answered words is that of its turn in this stage
      pub now_placed : answered_thread p st bits (seat p world args sp) ≡ thread_at p world args sp.stage
      now_placed =
          whole_now p acc image st past rows bits older v v' d w asks world args ahead ahead' sp last rows' b h
          (moves_answered p st bits older (seat p world args sp) e)

      alike_here : (work_of_stage p (around p st bits older sp.stage world.hint) (thread_at p world args sp.stage) ≡ stage_work p world args sp.stage)
          × Right p sp.stage (Clean p v) (blocked_at p world args (next_at p world args sp.stage)) (so_far p world args (next_at p world args sp.stage)).env
          × AllAsks (λ q. Clean p v q.mem q.address) (stage_work p world args sp.stage).asks
      alike_here =
          acc.here_alike world args (around p st bits older sp.stage world.hint) sp.stage (Clean p v) h.on low_here
          (surrounds p acc image st past rows bits older v v' d w asks world args ahead ahead' sp last rows' b h)
          (plain_clean p v)
          (subst (λ t. (work_of_stage p (around p st bits older sp.stage world.hint) t).ready ≡ true) now_placed
          (moves_ready p st bits older (seat p world args sp) e)) h.clean

      -- where it moves, the thread does the work that its turn's stage does alone
      pub work_same : (act p st bits older (seat p world args sp)).work ≡ stage_work p world args sp.stage
      work_same = ap (work_of_stage p (around p st bits older sp.stage world.hint)) now_placed ∙ alike_here.0

      -- where it moves, the thread commits nothing to m unless it is in the stage of m's releases
      pub commits_quiet : (m : ℕ) → sp.stage ≢ commit_stage p m → of_mem m (act p st bits older (seat p world args sp)).work.commits ≡ []
      commits_quiet = acc.quiet_at (around p st bits older sp.stage world.hint) (answered_thread p st bits (seat p world args sp))

      -- behind a thread that isn't sure it releases nothing, and passes no barrier
      pub calm_here : Unsure p acc.v ahead
          → Strayed p acc.stray acc.made (answered_thread p st bits (seat p world args sp)) (act p st bits older (seat p world args sp)).work
      calm_here u =
          let before = unsure_older p acc older ahead ahead' sp.stage b.moves h.under u in
          acc.stray_step (around p st bits older sp.stage world.hint) (answered_thread p st bits (seat p world args sp))
          (acc.stray_answered st bits (seat p world args sp) (h.calm u)).0
          (none_left _ (moves_answered p st bits older (seat p world args sp) e)) before.0 before.1
          (moves_ready p st bits older (seat p world args sp) e)

      -- where it moves, the thread asks for m only in the stage of m's delayed reads
      pub asks_here : (m : ℕ) → is_some (find_ask (act p st bits older (seat p world args sp)).work.asks m) ≡ true → sp.stage ≡ acc.fetch m
      asks_here = acc.asks_at (around p st bits older sp.stage world.hint) (answered_thread p st bits (seat p world args sp))

      can_go : can_enter p older (goes_to (stage_at p sp.stage).next (act p st bits older (seat p world args sp)).work.env) ≡ true
      can_go = and_right _ _ e

      more : sp.stage < next_at p world args sp.stage
      more = acc.graph.up sp.stage (stage_work p world args sp.stage).env low_here

      -- after a cycle in which the thread moves it is on its turn in the next stage, behind the older threads as they stand then
      pub head_moves : (ts : List Thread) (last' : Bool)
          → Now past past' d (act p st bits older (seat p world args sp) ∷ acts p st bits (act p st bits older (seat p world args sp) ∷ older) ts)
          → NowAsks all asks (act p st bits older (seat p world args sp) ∷ acts p st bits (act p st bits older (seat p world args sp) ∷ older) ts)
          → ((m : ℕ) → (sp.stage ≤ commit_stage p m) ⊎ Unsure p acc.v ahead → of_mem m
          (commits_of (acts p st bits (act p st bits older (seat p world args sp) ∷ older) ts)) ≡ [])
          → right_guess (so_far p world args (next_at p world args sp.stage)).child (thread p world.words args).next ≡ not last'
          → Here p acc (next_asks p bits all 0 st.asked) past' w v' world args ahead' (moved_spot p world args sp.stage) last'
      head_moves ts last' now nowa quiet linked =
          record {
            under =
                subst (λ n. AllUnder p ahead' n) (ap (λ (k : Work). next_of p sp.stage k.env) work_same)
                (all_step p acc.graph acc.branches older ahead ahead' sp.stage
                (act p st bits older (seat p world args sp)).work.env b.moves h.under low_here can_go);
            on = acc.on_next world args sp.stage h.on low_here;
            words =
                λ m c. words_step (w m) (past m) (past' m) (strips m (v m)) (d m)
                (strips m (v' m)) _ (h.words m (earlier m c)) (later_strips m (v m) (d m) (v' m) (b.split m)) (now m)
                (ap (λ k. of_mem m (cond k ((act p st bits older (seat p world args sp)).work.commits ++ commits_of rest) (commits_of rest))) e
                ∙ moved_quiet m true (act p st bits older (seat p world args sp)).work.commits (commits_of rest)
                (silent m c) (quiet m (earlier m c)));
            calm =
                λ u. subst acc.stray (moved_seat p acc world args sp.stage h.on low_here)
                (subst (λ (k : Work). acc.stray (onward (next_of p sp.stage k.env) world.hint k)) work_same
                (calm_here (unsure_before p acc older ahead ahead' b.moves u)).goes_on);
            clean = right_weaken p sp.stage (next_at p world args sp.stage) v v' _ _ (le_of_lt more) (λ m x k. clean_later m x k) alike_here.1;
            linked = linked;
            waits =
                record {
                  gets = (acc.next_so world args sp.stage h.on low_here).0;
                  apart = acc.asks_apart world args sp.stage h.on low_here;
                  out =
                      all_more
                      (λ q. (find_ask (stage_work p world args sp.stage).asks q.mem ≡ Some q.address)
                      × AskOk p acc.fetch sp.stage (next_at p world args sp.stage) q)
                      (Out (next_asks p bits all 0 st.asked)) (stage_work p world args sp.stage).asks out_here
                      (all_both (λ q. find_ask (stage_work p world args sp.stage).asks q.mem ≡ Some q.address)
                      (AskOk p acc.fetch sp.stage (next_at p world args sp.stage))
                      (stage_work p world args sp.stage).asks
                      (found (stage_work p world args sp.stage).asks (acc.asks_apart world args sp.stage h.on low_here))
                      (acc.asks_ok world args sp.stage h.on low_here));
                  sure =
                      all_more (λ q. Clean p v q.mem q.address × AskOk p acc.fetch sp.stage (next_at p world args sp.stage) q)
                      (Sure p acc v' (next_at p world args sp.stage))
                      (stage_work p world args sp.stage).asks sure_here
                      (all_both (λ q. Clean p v q.mem q.address)
                      (AskOk p acc.fetch sp.stage (next_at p world args sp.stage))
                      (stage_work p world args sp.stage).asks alike_here.2 (acc.asks_ok world args sp.stage h.on low_here));
                };
          }
        where
          rest : List Act
          rest = acts p st bits (act p st bits older (seat p world args sp) ∷ older) ts

          earlier : (m : ℕ) → (next_at p world args sp.stage ≤ commit_stage p m) ⊎ Unsure p acc.v ahead' → (sp.stage ≤ commit_stage p m) ⊎ Unsure p acc.v ahead
          earlier m (inl i) = inl (le_of_lt (lt_of_lt_of_le more i))
          earlier m (inr u) = inr (unsure_before p acc older ahead ahead' b.moves u)

          apart : (m : ℕ) → next_at p world args sp.stage ≤ commit_stage p m → sp.stage ≢ commit_stage p m
          apart m i j = let k : sp.stage < commit_stage p m = lt_of_lt_of_le more i in omega arith

          silent : (m : ℕ)
              → (next_at p world args sp.stage ≤ commit_stage p m) ⊎ Unsure p acc.v ahead'
              → of_mem m (act p st bits older (seat p world args sp)).work.commits ≡ []
          silent m (inl i) = commits_quiet m (apart m i)
          silent m (inr u) = ap (of_mem m) (calm_here (unsure_before p acc older ahead ahead' b.moves u)).commits

          sure_here : (q : Ask)
              → Clean p v q.mem q.address × AskOk p acc.fetch sp.stage (next_at p world args sp.stage) q
              → Sure p acc v' (next_at p world args sp.stage) q
          sure_here q k = record {
            clean = clean_later q.mem q.address k.0;
            early = k.1.early;
            exact = k.1.exact;
            low = subst (λ n. n < length p.stages) (sym k.1.here) low_here;
            env = (stage_work p world args sp.stage).env;
            next = ap (λ n. next_of p n (stage_work p world args sp.stage).env) (sym k.1.here);
          }

          out_here : (q : Ask)
              → (find_ask (stage_work p world args sp.stage).asks q.mem ≡ Some q.address) × AskOk p acc.fetch sp.stage (next_at p world args sp.stage) q
              → Out (next_asks p bits all 0 st.asked) q
          out_here q k =
              new_out p bits all st.asked q (subst (λ n. q.mem < n) (sym known) k.1.known)
              (nowa q.mem
              ∙ ap
              (λ t. or_ask (asks q.mem)
              (find_ask (cond t ((act p st bits older (seat p world args sp)).work.asks ++ asks_of rest) (asks_of rest)) q.mem)) e
              ∙ ap (or_ask (asks q.mem))
              (find_append (act p st bits older (seat p world args sp)).work.asks (asks_of rest) q.mem
              ∙ ap (λ o. or_ask o (find_ask (asks_of rest) q.mem)) (ap (λ (u : Work). find_ask u.asks q.mem) work_same ∙ k.0))
              ∙ ap (λ o. or_ask o (Some q.address)) (no_older (asks q.mem) refl))
            where
              no_older : (o : Option ℕ) → asks q.mem ≡ o → asks q.mem ≡ None
              no_older None f = f
              no_older (Some x) f = absurd (not_self p acc sp.stage (subst (λ n. Under p n sp.stage) k.1.here (b.asked q.mem sp.stage h.under (ap is_some f))))

      -- where the thread moves, it commits the first of its undone writes, and the next younger one knows it among its older ones
      pub behind_moved :
          ((m : ℕ)
          → Later m (marks p world args sp.stage m)
          (of_mem m (act p st bits older (seat p world args sp)).work.commits)
          (marks p world args (next_at p world args sp.stage) m))
          × Behind p acc (act p st bits older (seat p world args sp) ∷ older)
          (λ m. v m ++ marks p world args sp.stage m)
          (λ m. v' m ++ marks p world args (next_at p world args sp.stage) m)
          (λ m. d m ++ of_mem m (act p st bits older (seat p world args sp)).work.commits)
          (λ m. or_ask (asks m) (find_ask (act p st bits older (seat p world args sp)).work.asks m)) (sp.stage ∷ ahead)
          (next_at p world args sp.stage ∷ ahead')
      behind_moved = (
        step,
        behind_next p acc older v v' d (λ m. of_mem m (act p st bits older (seat p world args sp)).work.commits) asks
            (λ m. find_ask (act p st bits older (seat p world args sp)).work.asks m) world args ahead ahead' sp.stage
            (next_at p world args sp.stage)
            (act p st bits older (seat p world args sp)) b h.under refl refl
            (inr ((stage_work p world args sp.stage).env, e, refl, low_here)) step commits_quiet asks_here,
      )
        where
          step : (m : ℕ)
              → Later m (marks p world args sp.stage m)
              (of_mem m (act p st bits older (seat p world args sp)).work.commits)
              (marks p world args (next_at p world args sp.stage) m)
          step m =
              subst (λ (k : Work). Later m (marks p world args sp.stage m) (of_mem m k.commits) (marks p world args (next_at p world args sp.stage) m))
              (sym work_same) (acc.marks_step world args sp.stage m h.on low_here)

    -- where the thread stands, the next younger one knows it among its older ones, with its undone writes as they were
    pub behind_stands : (act p st bits older (seat p world args sp)).moves ≡ false
        → Behind p acc (act p st bits older (seat p world args sp) ∷ older)
        (λ m. v m ++ marks p world args sp.stage m) (λ m. v' m ++ marks p world args sp.stage m) (λ m. d m ++ [])
        (λ m. or_ask (asks m) None) (sp.stage ∷ ahead) (sp.stage ∷ ahead')
    behind_stands e =
        behind_next p acc older v v' d (λ m. []) asks (λ m. None) world args ahead ahead' sp.stage sp.stage
        (act p st bits older (seat p world args sp)) b h.under refl refl (inl (low_here, e, refl))
        (λ m. record { front = []; rest = marks p world args sp.stage m; whole = refl; commits = refl; raised = raised_refl (marks p world args sp.stage m) })
        (λ m k. refl) (λ m k. absurd (false≢true k))
