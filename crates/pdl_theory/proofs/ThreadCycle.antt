-- A cycle of all live threads, in the whole language.
use Rattle.std.proofs.Common.{◌≡◌, ◌≢◌, refl, sym, ap, ap₂, ◌∙◌, subst, ℕ, ◌≤◌, ◌<◌, ◌⊎◌, inl, inr, Bool, true, false, ◌&&◌, ◌||◌, not, List, [], ◌∷◌, ◌++◌, length, Option, Some, None, nat_lt, nat_le, cond, if◌then◌else◌, arith, append-nil, append_assoc, is_none}
use Rattle.std.proofs.lemmas.Bool.Decides.{leb_tells}
use Rattle.std.proofs.Math.Bool.{or-false}
use Rattle.std.proofs.Common.{ltb-true, lt-ltb, le_refl, le_of_lt, lt_of_le_of_lt}
use Rattle.std.proofs.lemmas.Bool.{false≢true}
use Rattle.pdl_semantics.specs.Flat.{Arrays, Pipe, of_mem, list_all}
use Rattle.pdl_semantics.specs.Stages.{stage_at, goes_to, commit_stage}
use Rattle.pdl_semantics.specs.Machine.{Ask, same_args}
use Rattle.pdl_semantics.specs.Sequential.{thread}
use Rattle.pdl_theory_turns.specs.Derived.{Hint, Work, Thread, State, Act, act, acts, befores, survivors, commits_of, next_asks, moved_to, born_threads, fresh, exit_of, barrier_clear}
use Rattle.pdl_theory_turns.specs.Alone.{World, so_far}
use Rattle.pdl_theory_turns.proofs.Stages.{or_else}
use Rattle.pdl_theory_turns.proofs.Marks.{strips, later_strips, later_more, raised_refl}
use Rattle.pdl_theory_turns.proofs.UndoneWrites.{marks}
use Rattle.pdl_theory_turns.proofs.TurnFacts.{next_of, next_at, right_guess, stage_work}
use Rattle.pdl_theory_turns.proofs.Strays.{enter_next}
use Rattle.pdl_theory_turns.proofs.Lives.{Writes, Marks, RowsAt, nobody}
use Rattle.pdl_theory_turns.proofs.Guesses.{same_args_eq, Changed}
use Rattle.pdl_theory.proofs.Cycle.{words_step, Now, now_moved, now_stays, moved_quiet, ends_one}
use Rattle.pdl_theory_turns.proofs.Courses.{Course}
use Rattle.pdl_theory_turns.proofs.Nested.{within_all}
use Rattle.pdl_theory_turns.proofs.ThreadOrder.{AllUnder, Moves, fresh_under}
use Rattle.pdl_theory.proofs.Unsure.{Unsure, unsure_more, held_back, same_none}
use Rattle.pdl_theory.proofs.Spots.{Spot, seat, seats, shown, is_nil, now_spot, now_seat, Here, Standing, Behind, Strays, Last, Tail, with_hint}
use Rattle.pdl_theory.proofs.StrayCommits.{StraysAfter, strays_cycle}
use Rattle.pdl_theory.proofs.Cycles.{past_last, NowAsks, moved_spot, start_spot, under_start, asks_moved, asks_stays, born_standing, born_seat, shown_one, exit_last, moved_thread, rows_next, none_past, low_here, head_stands, work_same, commits_quiet, calm_here, head_moves, behind_moved, behind_stands}
use Rattle.pdl_word.proofs.Bools.{by_bool}

-- a right guess is one
some_right : (c : Option (List ℕ)) (next : List ℕ) → right_guess c next ≡ true → (x : List ℕ) × (c ≡ Some x)
some_right None next h = absurd (cc h)
some_right (Some x) next h = (x, refl)

-- the live threads after a cycle
pub record Turned (p : Pipe) (acc : Course p) (g : Hint) (asked' : List (Option ℕ)) (past' w : Writes) (v' : Marks) (arrays : Arrays) (args : List ℕ)
    (ahead ahead' : List ℕ) (these : List Act) : Type 0 where
  pub spots : List Spot
  pub strays : List Thread
  pub threads : survivors p g these ≡ shown p arrays args spots ++ strays
  pub standing : Standing p acc asked' past' w v' arrays args ahead' spots
  pub tail : Tail p acc.stray acc.made arrays args spots strays
  pub some : is_nil spots ≡ false
  pub ended : ends_one p these ≡ past_last p spots
  pub quiet : (m : ℕ) → (AllUnder p ahead (commit_stage p m) → ⊥) ⊎ Unsure p acc.v ahead → of_mem m (commits_of these) ≡ []

module _ (p : Pipe) (acc : Course p) (g : Hint) where
  -- the threads that a stage's work leaves: itself in the next stage, and what it made
  after_move : (world : World) (args : List ℕ) (s : ℕ) (a : Act) (rest : List Act) → acc.on world args s → s < length p.stages → a.moves ≡ true
      → a.now.stage ≡ s
      → a.now.hint ≡ world.hint
      → a.work ≡ stage_work p world args s → (c : Option (List ℕ)) → (stage_work p world args s).child ≡ c → (f : Bool)
      → (stage_work p world args s).fails ≡ f
      → survivors p g (a ∷ rest)
      ≡ (cond (nat_lt (next_at p world args s) (length p.stages)) (seat p world args (moved_spot p world args s) ∷ []) [])
      ++ (born_threads p g c ++ cond f [] (survivors p g rest))
  after_move world args s a rest on low goes is hinted same c child f fails =
      ap
      (λ b. cond b (moved_to (exit_of p a) a.now.hint a.work ++ (born_threads p g a.work.child ++ (if a.work.fails then [] else survivors p g rest)))
      (a.now ∷ survivors p g rest)) goes
      ∙ ap
      (λ n. moved_to (goes_to (stage_at p n).next a.work.env) a.now.hint a.work
      ++ (born_threads p g a.work.child ++ (if a.work.fails then [] else survivors p g rest))) is
      ∙ ap
      (λ q. moved_to (goes_to (stage_at p s).next a.work.env) q a.work
      ++ (born_threads p g a.work.child ++ (if a.work.fails then [] else survivors p g rest))) hinted
      ∙ ap (λ l. l ++ (born_threads p g a.work.child ++ (if a.work.fails then [] else survivors p g rest))) (moved_thread p acc world args s a.work on low same)
      ∙ ap₂
      (λ x f'. (cond (nat_lt (next_at p world args s) (length p.stages)) (seat p world args (moved_spot p world args s) ∷ []) [])
      ++ (born_threads p g x ++ cond f' [] (survivors p g rest)))
      (ap (λ (k : Work). k.child) same ∙ child) (ap (λ (k : Work). k.fails) same ∙ fails)

  -- one thread, and the next turn's
  shown_two : (arrays : Arrays) (args : List ℕ) (sp : Spot) (x : List ℕ) → x ≡ (thread p arrays args).next
      → cond (nat_lt sp.stage (length p.stages)) (seat p (with_hint arrays sp.hint) args sp ∷ []) [] ++ (fresh p g x ∷ [])
      ≡ shown p arrays args (sp ∷ start_spot p g (thread p arrays args).next ∷ []) ++ []
  shown_two arrays args sp x e =
      ap (λ y. cond (nat_lt sp.stage (length p.stages)) (seat p (with_hint arrays sp.hint) args sp ∷ []) [] ++ (fresh p g y ∷ [])) e
      ∙ ap (λ t. cond (nat_lt sp.stage (length p.stages)) (seat p (with_hint arrays sp.hint) args sp ∷ []) [] ++ (t ∷ []))
      (born_seat p acc (with_hint (thread p arrays args).arrays g) (thread p arrays args).next)
      ∙ ap (λ l. cond (nat_lt sp.stage (length p.stages)) (seat p (with_hint arrays sp.hint) args sp ∷ []) [] ++ l)
      (shown_one p acc (seat p (with_hint (thread p arrays args).arrays g) (thread p arrays args).next (start_spot p g (thread p arrays args).next))
      [] 0 acc.graph.some_stage)
      ∙ sym (append-nil (shown p arrays args (sp ∷ start_spot p g (thread p arrays args).next ∷ [])))

  -- the threads behind the last one on its turn
  stray_rest : (st : State) (bits : List Bool) (world : World) (args : List ℕ) (older : List Act) (s s' : ℕ) (a : Act) (strays : List Thread)
      (c : Option (List ℕ))
      → (so_far p world args s).child ≡ c
      → right_guess c (thread p world.words args).next ≡ false → Last p acc.stray acc.made s c strays → s ≤ s' → a.before.stage ≡ s → (a.moves ≡ true → s < s')
      → StraysAfter p g acc.stray acc.made s' (nobody strays) (acts p st bits (a ∷ older) strays)
  stray_rest st bits world args older s s' a strays None e q l up is moved =
      subst (λ ts. StraysAfter p g acc.stray acc.made s' (nobody ts) (acts p st bits (a ∷ older) ts)) (sym l)
      (record { commits = refl; strays = tt; ended = refl; same = refl })
  stray_rest st bits world args older s s' a strays (Some x) e q l up is moved =
      let w = acc.wrong_made world args s x e q in
      strays_cycle p g acc w.1 st bits (a ∷ older) s s' strays
      (record {
        low = w.0;
        enter = enter_next p older a s s' is moved;
        grows = up;
        unclear =
            λ r k _. ap₂ (λ x y. (x || y) && barrier_clear (Some acc.v) r (befores older)) (ap (λ n. nat_le n r) is ∙ above s r k)
            (ap (nat_lt acc.v) is ∙ below s acc.v w.0);
      }) l
    where
      above : (n r : ℕ) → r < n → nat_le n r ≡ false
      above n r k = grind (arith, leb_tells)

      below : (n r : ℕ) → n ≤ r → nat_lt r n ≡ false
      below n r k = at (nat_lt r n) refl
        where
          at : (b : Bool) → nat_lt r n ≡ b → nat_lt r n ≡ false
          at true e = absurd (let i : r < n = ltb-true r n e in omega arith)
          at false e = e

  tail_cons : (arrays : Arrays) (args : List ℕ) (sp : Spot) (sps : List Spot) (strays : List Thread) → is_nil sps ≡ false
      → Tail p acc.stray acc.made (thread p arrays args).arrays (thread p arrays args).next sps strays → Tail p acc.stray acc.made arrays args (sp ∷ sps) strays
  tail_cons arrays args sp [] strays h t = absurd (cc h)
  tail_cons arrays args sp (r ∷ sps) strays h t = t

  -- who stands no later than the releases of m keeps those behind it from them
  not_behind : (m s : ℕ) (ahead : List ℕ) → s ≤ commit_stage p m → AllUnder p (s ∷ ahead) (commit_stage p m) → ⊥
  not_behind m s ahead c u =
      let i : commit_stage p m < s = u.0 [] (within_all p _) (within_all p _) (commit_stage p m) (acc.graph.trunk_commit m) (le_refl _) in omega arith

  -- a thread behind others where the releases of m are not is not past them
  commit_ahead : (m : ℕ) (ahead : List ℕ) (s : ℕ) → AllUnder p ahead s → (AllUnder p ahead (commit_stage p m) → ⊥) → s ≢ commit_stage p m
  commit_ahead m ahead s u f e = f (subst (λ n. AllUnder p ahead n) e u)

  -- commits of m by a thread and by those behind it
  quiet_more : (m : ℕ) (a : Act) (rest : List Act) (ahead : List ℕ) (s : ℕ) → AllUnder p ahead s → (s ≢ commit_stage p m → of_mem m a.work.commits ≡ [])
      → (Unsure p acc.v ahead → a.work.commits ≡ [])
      → (AllUnder p ahead (commit_stage p m) → ⊥) ⊎ Unsure p acc.v ahead → of_mem m (commits_of rest) ≡ [] → of_mem m (commits_of (a ∷ rest)) ≡ []
  quiet_more m a rest ahead s u f c (inl g) k = moved_quiet m a.moves a.work.commits (commits_of rest) (f (commit_ahead m ahead s u g)) k
  quiet_more m a rest ahead s u f c (inr g) k = moved_quiet m a.moves a.work.commits (commits_of rest) (ap (of_mem m) (c g)) k

  -- what keeps those behind from their releases
  quiet_behind : (older : List Act) (m s : ℕ) (ahead ahead' : List ℕ)
      → Moves p older ahead ahead' → AllUnder p ahead s → (AllUnder p ahead (commit_stage p m) → ⊥) ⊎ Unsure p acc.v ahead
      → (AllUnder p (s ∷ ahead) (commit_stage p m) → ⊥) ⊎ Unsure p acc.v (s ∷ ahead)
  quiet_behind older m s ahead ahead' b u (inl c) = inl (λ k. c k.1)
  quiet_behind older m s ahead ahead' b u (inr c) = inr (unsure_more p acc older ahead ahead' s b u c)

  quiet_before : (older : List Act) (m s : ℕ) (ahead ahead' : List ℕ)
      → Moves p older ahead ahead' → AllUnder p ahead s → (s ≤ commit_stage p m) ⊎ Unsure p acc.v ahead
      → (AllUnder p (s ∷ ahead) (commit_stage p m) → ⊥) ⊎ Unsure p acc.v (s ∷ ahead)
  quiet_before older m s ahead ahead' b u (inl c) = inl (not_behind m s ahead c)
  quiet_before older m s ahead ahead' b u (inr c) = inr (unsure_more p acc older ahead ahead' s b u c)

  ended_moves : (world : World) (args : List ℕ) (s : ℕ) (a : Act) (rest : List Act) (sps : List Spot) → s < length p.stages → a.moves ≡ true
      → a.now.stage ≡ s → a.work ≡ stage_work p world args s → ends_one p rest ≡ false
      → ends_one p (a ∷ rest) ≡ past_last p (moved_spot p world args s ∷ sps)
  ended_moves world args s a rest sps low goes is same e =
      ap (λ c. (c && is_none (exit_of p a)) || ends_one p rest) goes
      ∙ ap₂ (λ x y. x || y)
      (ap (λ n. is_none (goes_to (stage_at p n).next a.work.env)) is ∙ exit_last p acc s a.work.env low
      ∙ ap (λ (k : Work). not (nat_lt (next_of p s k.env) (length p.stages))) same) e
      ∙ or-false (not (nat_lt (next_at p world args s) (length p.stages)))

  -- what is known where a thread on its turn moves, and none behind it is on its turn then, or only one that it makes
  pub record Moving (asked' : List (Option ℕ)) (past' w : Writes) (v' : Marks) (world : World) (args : List ℕ) (ahead ahead' : List ℕ) (s : ℕ)
      (a : Act) (rest : List Act) : Type 0 where
    pub low : s < length p.stages
    pub on : acc.on world args s
    pub goes : a.moves ≡ true
    pub is : a.now.stage ≡ s
    pub hinted : a.now.hint ≡ world.hint
    pub same : a.work ≡ stage_work p world args s
    pub head : (last' : Bool) → right_guess (so_far p world args (next_at p world args s)).child (thread p world.words args).next ≡ not last'
        → Here p acc asked' past' w v' world args ahead' (moved_spot p world args s) last'
    pub total : (m : ℕ) → w m ++ of_mem m (thread p world.words args).writes ≡ past' m ++ strips m (v' m ++ marks p world args (next_at p world args s) m)
    pub ended : ends_one p rest ≡ false
    pub quiet : (m : ℕ) → (AllUnder p ahead (commit_stage p m) → ⊥) ⊎ Unsure p acc.v ahead → of_mem m (commits_of (a ∷ rest)) ≡ []

  module _ (asked' : List (Option ℕ)) (past' w : Writes) (v' : Marks) (world : World) (args : List ℕ) (ahead ahead' : List ℕ)
      (s : ℕ) (a : Act) (rest : List Act)
      (k : Moving asked' past' w v' world args ahead ahead' s a rest) where
    -- one thread is left on its turn, and these behind it
    one_left : (strays' : List Thread) → right_guess (so_far p world args (next_at p world args s)).child (thread p world.words args).next ≡ false
        → survivors p g (a ∷ rest)
        ≡ (cond (nat_lt (next_at p world args s) (length p.stages)) (seat p world args (moved_spot p world args s) ∷ []) []) ++ strays'
        → Last p acc.stray acc.made (next_at p world args s) (so_far p world args (next_at p world args s)).child strays'
        → Turned p acc g asked' past' w v' world.words args ahead ahead' (a ∷ rest)
    one_left strays' wrong left last =
        record {
          spots = moved_spot p world args s ∷ [];
          strays = strays';
          threads =
              left
              ∙ ap (λ l. l ++ strays')
              (sym (append-nil (cond (nat_lt (next_at p world args s) (length p.stages)) (seat p world args (moved_spot p world args s) ∷ []) [])));
          standing = (k.head true wrong, k.total);
          tail = last;
          some = refl;
          ended = ended_moves world args s a rest [] k.low k.goes k.is k.same k.ended;
          quiet = k.quiet;
        }

    -- the next turn begins behind it
    two_left : (x : List ℕ) → right_guess (so_far p world args (next_at p world args s)).child (thread p world.words args).next ≡ true
        → x ≡ (thread p world.words args).next
        → survivors p g (a ∷ rest)
        ≡ (cond (nat_lt (next_at p world args s) (length p.stages)) (seat p world args (moved_spot p world args s) ∷ []) []) ++ (fresh p g x ∷ [])
        → Turned p acc g asked' past' w v' world.words args ahead ahead' (a ∷ rest)
    two_left x right is left =
        record {
          spots = moved_spot p world args s ∷ start_spot p g (thread p world.words args).next ∷ [];
          strays = [];
          threads = left ∙ shown_two world.words args (moved_spot p world args s) x is;
          standing = (
            k.head false right,
            born_standing p acc asked' past' _ _ (with_hint (thread p world.words args).arrays g) (thread p world.words args).next
                (next_at p world args s ∷ ahead') (
                  fresh_under p acc.graph acc.branches (next_at p world args s)
                      (lt_of_le_of_lt (le_of_zero s) (acc.graph.up s (stage_work p world args s).env k.low)),
                  under_start p acc ahead' (next_at p world args s) (k.head false right).under,
                ) k.total,
          );
          tail =
              subst (λ c. Last p acc.stray acc.made 0 c [])
              (sym (ap (λ (q : Work). q.child) (acc.start_so (with_hint (thread p world.words args).arrays g) (thread p world.words args).next))) refl;
          some = refl;
          ended = ended_moves world args s a rest (start_spot p g (thread p world.words args).next ∷ []) k.low k.goes k.is k.same k.ended;
          quiet = k.quiet;
        }
      where
        le_of_zero : (n : ℕ) → 0 ≤ n
        le_of_zero n = omega arith

    -- it makes one, which is alone behind it
    made_one : (x : List ℕ) → (stage_work p world args s).child ≡ Some x
        → survivors p g (a ∷ rest) ≡ (cond (nat_lt (next_at p world args s) (length p.stages))
        (seat p world args (moved_spot p world args s) ∷ []) []) ++ (fresh p g x ∷ [])
        → Turned p acc g asked' past' w v' world.words args ahead ahead' (a ∷ rest)
    made_one x i left =
        by_bool (same_args x (thread p world.words args).next) (Turned p acc g asked' past' w v' world.words args ahead ahead' (a ∷ rest))
        (λ right. two_left x (ap (λ c. right_guess c (thread p world.words args).next) made ∙ right) (same_args_eq x _ right) left)
        (λ wrong. one_left (fresh p g x ∷ []) (ap (λ c. right_guess c (thread p world.words args).next) made ∙ wrong) left
        (subst (λ c. Last p acc.stray acc.made (next_at p world args s) c (fresh p g x ∷ [])) (sym made) (
          (acc.stray_fresh g x).0,
          (λ r _ j. lt_of_le_of_lt j (begun s (next_at p world args s) (acc.graph.up s (stage_work p world args s).env k.low))),
          (acc.stray_fresh g x).1,
          tt,
        )))
      where
        begun : (a b : ℕ) → a < b → 0 < b
        begun a b h = omega arith

        made : (so_far p world args (next_at p world args s)).child ≡ Some x
        made = acc.child_next world args s k.on k.low ∙ ap (λ c. or_else c (so_far p world args s).child) i

    -- it replaces those behind it
    replaced : (x : List ℕ)
        → (stage_work p world args s).child ≡ Some x → (stage_work p world args s).fails ≡ true
        → Turned p acc g asked' past' w v' world.words args ahead ahead' (a ∷ rest)
    replaced x i f = made_one x i (after_move world args s a rest k.on k.low k.goes k.is k.hinted k.same (Some x) i true f)

    -- the last thread on its turn, where it moves; c is what it had made, n what it makes
    last_moves : (strays : List Thread) → (strays
        ≡ [] → rest ≡ []) → StraysAfter p g acc.stray acc.made (next_at p world args s) (nobody strays) rest
        → (c : Option (List ℕ)) → (so_far p world args s).child ≡ c → right_guess c (thread p world.words args).next ≡ false
        → Last p acc.stray acc.made s c strays
        → (n : Option (List ℕ)) → (stage_work p world args s).child ≡ n → Turned p acc g asked' past' w v' world.words args ahead ahead' (a ∷ rest)
    last_moves strays none after None e q l None i =
        one_left [] (ap (λ c. right_guess c (thread p world.words args).next) made)
        (after_move world args s a rest k.on k.low k.goes k.is k.hinted k.same None i (stage_work p world args s).fails refl
        ∙ ap (λ r. (cond (nat_lt (next_at p world args s) (length p.stages)) (seat p world args (moved_spot p world args s) ∷ []) []) ++ r)
        (same_none (stage_work p world args s).fails (survivors p g rest) (ap (survivors p g) (none l))))
        (subst (λ c. Last p acc.stray acc.made (next_at p world args s) c []) (sym made) refl)
      where
        made : (so_far p world args (next_at p world args s)).child ≡ None
        made = acc.child_next world args s k.on k.low ∙ ap₂ or_else i e
    last_moves strays none after None e q l (Some x) i =
        made_one x i
        (after_move world args s a rest k.on k.low k.goes k.is k.hinted k.same (Some x) i (stage_work p world args s).fails refl
        ∙ ap
        (λ r. (cond (nat_lt (next_at p world args s) (length p.stages)) (seat p world args (moved_spot p world args s) ∷ []) [])
        ++ (fresh p g x ∷ r))
        (same_none (stage_work p world args s).fails (survivors p g rest) (ap (survivors p g) (none l))))
    last_moves strays none after (Some x) e q l n i = changed (acc.made_changes world args s x k.on e)
      where
        changed : Changed (stage_work p world args s) → Turned p acc g asked' past' w v' world.words args ahead ahead' (a ∷ rest)
        changed (inl t) =
            let made : (so_far p world args (next_at p world args s)).child ≡ Some x = acc.child_next world args s k.on k.low ∙ ap₂ or_else t.0 e in
            one_left (survivors p g rest) (ap (λ c. right_guess c (thread p world.words args).next) made ∙ q)
            (after_move world args s a rest k.on k.low k.goes k.is k.hinted k.same None t.0 false t.1)
            (subst (λ c. Last p acc.stray acc.made (next_at p world args s) c (survivors p g rest)) (sym made) after.strays)
        changed (inr t) = replaced t.0 t.1 t.2

-- all live threads from one on
module _ (p : Pipe) (acc : Course p) (image : Arrays) (st : State) (bits : List Bool) (past past' : Writes) (all : List Ask)
    (rows : RowsAt image past st.arrays) (known : length st.asked ≡ length p.mems) where
  module _ (older : List Act) (v v' : Marks) (d w : Writes) (asks : ℕ → Option ℕ) (arrays : Arrays) (args : List ℕ) (ahead ahead' : List ℕ) (sp : Spot)
      (rows' : RowsAt image w arrays) (b : Behind p acc older v v' d asks ahead ahead') where
    -- the last thread on its turn, where it stands
    last_stands : (strays : List Thread) (h : Here p acc st.asked past w v (with_hint arrays sp.hint) args ahead sp true)
        → ((m : ℕ) → w m ++ of_mem m (thread p arrays args).writes ≡ past m ++ strips m (v m ++ marks p (with_hint arrays sp.hint) args sp.stage m))
        → Now past past' d (acts p st bits older (seat p (with_hint arrays sp.hint) args sp ∷ strays))
        → NowAsks all asks (acts p st bits older (seat p (with_hint arrays sp.hint) args sp ∷ strays))
        → Last p acc.stray acc.made sp.stage (so_far p (with_hint arrays sp.hint) args sp.stage).child strays
        → (act p st bits older (seat p (with_hint arrays sp.hint) args sp)).moves ≡ false
        → Turned p acc (st.hints 0) (next_asks p bits all 0 st.asked) past' w v' arrays args ahead ahead'
        (acts p st bits older (seat p (with_hint arrays sp.hint) args sp ∷ strays))
    last_stands strays h total now nowa l stays =
        let a : Act = act p st bits older (seat p (with_hint arrays sp.hint) args sp) in
        let rest : List Act = acts p st bits (act p st bits older (seat p (with_hint arrays sp.hint) args sp) ∷ older) strays in
        let after : StraysAfter p (st.hints 0) acc.stray acc.made sp.stage (nobody strays)
        (acts p st bits (act p st bits older (seat p (with_hint arrays sp.hint) args sp) ∷ older) strays) =
        stray_rest p acc (st.hints 0) st bits (with_hint arrays sp.hint) args older sp.stage sp.stage
        (act p st bits older (seat p (with_hint arrays sp.hint) args sp)) strays _ refl h.linked l
        (le_refl sp.stage) refl (λ k. absurd (false≢true (sym stays ∙ k))) in
        let quiet : (m : ℕ) → of_mem m (commits_of (acts p st bits (act p st bits older (seat p (with_hint arrays sp.hint) args sp) ∷ older) strays)) ≡ [] =
        λ m. ap (of_mem m) after.commits in
        let low : sp.stage < length p.stages =
        low_here p acc image st bits past past' all rows known older v v' d w asks (with_hint arrays sp.hint) args ahead ahead' sp true rows' b h in
        record {
          spots = now_spot p st bits sp ∷ [];
          strays = survivors p (st.hints 0) (acts p st bits (act p st bits older (seat p (with_hint arrays sp.hint) args sp) ∷ older) strays);
          threads =
              ap
              (λ c. cond c (moved_to (exit_of p a) a.now.hint a.work
              ++ (born_threads p (st.hints 0) a.work.child ++ (if a.work.fails then [] else survivors p (st.hints 0) rest))) (a.now
              ∷ survivors p (st.hints 0) rest)) stays
              ∙ ap (λ t. t ∷ survivors p (st.hints 0) rest) (now_seat p st bits (with_hint arrays sp.hint) args sp)
              ∙ ap (λ c. (cond c (seat p (with_hint arrays sp.hint) args (now_spot p st bits sp) ∷ []) [] ++ []) ++ survivors p (st.hints 0) rest)
              (sym (lt-ltb sp.stage (length p.stages) low));
          standing = (
            head_stands p acc image st bits past past' all rows known older v v' d w asks
                (with_hint arrays sp.hint) args ahead ahead' sp true rows' b h strays stays now nowa
                (λ m c. quiet m),
            λ m. words_step _ (past m) (past' m) (strips m (v m ++ marks p (with_hint arrays sp.hint) args sp.stage m)) (d m ++ [])
                (strips m (v' m ++ marks p (with_hint arrays sp.hint) args sp.stage m)) (of_mem m (commits_of rest)) (total m)
                (later_strips m _ (d m ++ []) _
                (later_more m (v m) (d m) (v' m) (marks p (with_hint arrays sp.hint) args sp.stage m) [] (marks p (with_hint arrays sp.hint) args sp.stage m)
                (b.split m)
                (record {
                  front = [];
                  rest = marks p (with_hint arrays sp.hint) args sp.stage m;
                  whole = refl;
                  commits = refl;
                  raised = raised_refl (marks p (with_hint arrays sp.hint) args sp.stage m);
                })
                (inl refl)))
                (now_stays past past' d a rest stays now m) (quiet m),
          );
          tail = kept (so_far p (with_hint arrays sp.hint) args sp.stage).child l after.strays;
          some = refl;
          ended = ap (λ c. (c && is_none (exit_of p a)) || ends_one p rest) stays ∙ after.ended ∙ ap not (sym (lt-ltb sp.stage (length p.stages) low));
          quiet = λ m c. ap (λ t. of_mem m (cond t (a.work.commits ++ commits_of rest) (commits_of rest))) stays ∙ quiet m;
        }
      where
        kept : (c : Option (List ℕ)) → Last p acc.stray acc.made sp.stage c strays
            → Strays p acc.stray acc.made sp.stage (survivors p (st.hints 0)
            (acts p st bits (act p st bits older (seat p (with_hint arrays sp.hint) args sp) ∷ older) strays))
            → Last p acc.stray acc.made sp.stage c (survivors p (st.hints 0)
            (acts p st bits (act p st bits older (seat p (with_hint arrays sp.hint) args sp) ∷ older) strays))
        kept None k q = ap (λ ts. survivors p (st.hints 0) (acts p st bits (act p st bits older (seat p (with_hint arrays sp.hint) args sp) ∷ older) ts)) k
        kept (Some x) k q = q

    -- where a thread stands and others on their turns are behind it
    more_stands : (ts : List Thread) (h : Here p acc st.asked past w v (with_hint arrays sp.hint) args ahead sp false)
        → Now past past' d (acts p st bits older (seat p (with_hint arrays sp.hint) args sp ∷ ts))
        → NowAsks all asks (acts p st bits older (seat p (with_hint arrays sp.hint) args sp ∷ ts))
        → (act p st bits older (seat p (with_hint arrays sp.hint) args sp)).moves ≡ false
        → Turned p acc (st.hints 0) (next_asks p bits all 0 st.asked) past' (λ m. w m ++ of_mem m (thread p arrays args).writes)
        (λ m. v' m ++ marks p (with_hint arrays sp.hint) args sp.stage m) (thread p arrays args).arrays (thread p arrays args).next (sp.stage ∷ ahead)
        (sp.stage ∷ ahead')
        (acts p st bits (act p st bits older (seat p (with_hint arrays sp.hint) args sp) ∷ older) ts)
        → Turned p acc (st.hints 0) (next_asks p bits all 0 st.asked) past' w v' arrays args ahead ahead'
        (acts p st bits older (seat p (with_hint arrays sp.hint) args sp ∷ ts))
    more_stands ts h now nowa stays t =
        let a : Act = act p st bits older (seat p (with_hint arrays sp.hint) args sp) in
        let rest : List Act = acts p st bits (act p st bits older (seat p (with_hint arrays sp.hint) args sp) ∷ older) ts in
        let low : sp.stage < length p.stages =
        low_here p acc image st bits past past' all rows known older v v' d w asks (with_hint arrays sp.hint) args ahead ahead' sp false rows' b h in
        record {
          spots = now_spot p st bits sp ∷ t.spots;
          strays = t.strays;
          threads =
              ap
              (λ c. cond c (moved_to (exit_of p a) a.now.hint a.work
              ++ (born_threads p (st.hints 0) a.work.child ++ (if a.work.fails then [] else survivors p (st.hints 0) rest))) (a.now
              ∷ survivors p (st.hints 0) rest)) stays
              ∙ ap₂ (λ x xs. x ∷ xs) (now_seat p st bits (with_hint arrays sp.hint) args sp) t.threads
              ∙ ap
              (λ c.
              (cond c (seat p (with_hint arrays sp.hint) args (now_spot p st bits sp) ∷ []) []
              ++ shown p (thread p arrays args).arrays (thread p arrays args).next t.spots)
              ++ t.strays)
              (sym (lt-ltb sp.stage (length p.stages) low));
          standing = (
            subst (λ l. Here p acc (next_asks p bits all 0 st.asked) past' w v' (with_hint arrays sp.hint) args ahead' (now_spot p st bits sp) l) (sym t.some)
                (head_stands p acc image st bits past past' all rows known older v v' d w asks
                (with_hint arrays sp.hint) args ahead ahead' sp false rows' b h ts stays now nowa
                (λ m c. t.quiet m (quiet_before p acc (st.hints 0) older m sp.stage ahead ahead' b.moves h.under c))),
            t.standing,
          );
          tail = tail_cons p acc (st.hints 0) arrays args (now_spot p st bits sp) t.spots t.strays t.some t.tail;
          some = refl;
          ended =
              ap (λ c. (c && is_none (exit_of p a)) || ends_one p rest) stays ∙ t.ended
              ∙ none_past p acc _ past' _ _ _ _ sp.stage ahead' t.spots (le_of_lt low) t.standing ∙ ap not (sym (lt-ltb sp.stage (length p.stages) low));
          quiet =
              λ m c. ap (λ t. of_mem m (cond t (a.work.commits ++ commits_of rest) (commits_of rest))) stays ∙ t.quiet m
              (quiet_behind p acc (st.hints 0) older m sp.stage ahead ahead' b.moves h.under c);
        }

    -- after a cycle in which the first thread moves, and others stand behind it, the threads from it on are again on their turns
    more_moves : (ts : List Thread) (h : Here p acc st.asked past w v (with_hint arrays sp.hint) args ahead sp false)
        → Now past past' d (acts p st bits older (seat p (with_hint arrays sp.hint) args sp ∷ ts))
        → NowAsks all asks (acts p st bits older (seat p (with_hint arrays sp.hint) args sp ∷ ts))
        → (act p st bits older (seat p (with_hint arrays sp.hint) args sp)).moves ≡ true
        → ((stage_work p (with_hint arrays sp.hint) args sp.stage).child ≡ None) × ((stage_work p (with_hint arrays sp.hint) args sp.stage).fails ≡ false)
        → Turned p acc (st.hints 0) (next_asks p bits all 0 st.asked) past' (λ m. w m ++ of_mem m (thread p arrays args).writes)
        (λ m. v' m ++ marks p (with_hint arrays sp.hint) args (next_at p (with_hint arrays sp.hint) args sp.stage) m) (thread p arrays args).arrays
        (thread p arrays args).next (sp.stage ∷ ahead)
        (next_at p (with_hint arrays sp.hint) args sp.stage ∷ ahead')
        (acts p st bits (act p st bits older (seat p (with_hint arrays sp.hint) args sp) ∷ older) ts)
        → Turned p acc (st.hints 0) (next_asks p bits all 0 st.asked) past' w v' arrays args ahead ahead'
        (acts p st bits older (seat p (with_hint arrays sp.hint) args sp ∷ ts))
    more_moves ts h now nowa goes right t =
        let a : Act = act p st bits older (seat p (with_hint arrays sp.hint) args sp) in
        let rest : List Act = acts p st bits (act p st bits older (seat p (with_hint arrays sp.hint) args sp) ∷ older) ts in
        let low : sp.stage < length p.stages =
        low_here p acc image st bits past past' all rows known older v v' d w asks (with_hint arrays sp.hint) args ahead ahead' sp false rows' b h in
        let same = work_same p acc image st bits past past' all rows known older v v' d w asks
        (with_hint arrays sp.hint) args ahead ahead' sp false rows' b h goes in
        record {
          spots = moved_spot p (with_hint arrays sp.hint) args sp.stage ∷ t.spots;
          strays = t.strays;
          threads =
              after_move p acc (st.hints 0) (with_hint arrays sp.hint) args sp.stage a rest h.on low goes refl refl same None right.0 false right.1
              ∙ ap
              (λ l. (cond (nat_lt (next_at p (with_hint arrays sp.hint) args sp.stage) (length p.stages))
              (seat p (with_hint arrays sp.hint) args (moved_spot p (with_hint arrays sp.hint) args sp.stage) ∷ []) [])
              ++ l) t.threads
              ∙ sym
              (append_assoc
              (cond (nat_lt (next_at p (with_hint arrays sp.hint) args sp.stage) (length p.stages))
              (seat p (with_hint arrays sp.hint) args (moved_spot p (with_hint arrays sp.hint) args sp.stage) ∷ []) [])
              (shown p (thread p arrays args).arrays (thread p arrays args).next t.spots) t.strays);
          standing = (
            subst
                (λ l. Here p acc (next_asks p bits all 0 st.asked) past' w v' (with_hint arrays sp.hint) args ahead'
                (moved_spot p (with_hint arrays sp.hint) args sp.stage) l) (sym t.some)
                (head_moves p acc image st bits past past' all rows known older v v' d w asks
                (with_hint arrays sp.hint) args ahead ahead' sp false rows' b h goes ts false now nowa
                (λ m c. t.quiet m (quiet_before p acc (st.hints 0) older m sp.stage ahead ahead' b.moves h.under c))
                (ap (λ c. right_guess c (thread p arrays args).next)
                (acc.child_next (with_hint arrays sp.hint) args sp.stage h.on low
                ∙ ap (λ c. or_else c (so_far p (with_hint arrays sp.hint) args sp.stage).child) right.0)
                ∙ h.linked)),
            t.standing,
          );
          tail = tail_cons p acc (st.hints 0) arrays args (moved_spot p (with_hint arrays sp.hint) args sp.stage) t.spots t.strays t.some t.tail;
          some = refl;
          ended =
              ended_moves p acc (st.hints 0) (with_hint arrays sp.hint) args sp.stage a rest t.spots low goes refl same
              (t.ended
              ∙ none_past p acc _ past' _ _ _ _ (next_at p (with_hint arrays sp.hint) args sp.stage) ahead' t.spots
              (acc.graph.inside sp.stage (stage_work p (with_hint arrays sp.hint) args sp.stage).env low) t.standing);
          quiet =
              λ m c. quiet_more p acc (st.hints 0) m a rest ahead sp.stage h.under
              (commits_quiet p acc image st bits past past' all rows known older v v' d w asks
              (with_hint arrays sp.hint) args ahead ahead' sp false rows' b h goes m) (λ u.
              (calm_here p acc image st bits past past' all rows known older v v' d w asks
              (with_hint arrays sp.hint) args ahead ahead' sp false rows' b h goes u).commits) c
              (t.quiet m (quiet_behind p acc (st.hints 0) older m sp.stage ahead ahead' b.moves h.under c));
        }

    -- what is known of one that moves
    moving : (ts : List Thread) (last : Bool) (h : Here p acc st.asked past w v (with_hint arrays sp.hint) args ahead sp last)
        → ((m : ℕ) → w m ++ of_mem m (thread p arrays args).writes ≡ past m ++ strips m (v m ++ marks p (with_hint arrays sp.hint) args sp.stage m))
        → Now past past' d (acts p st bits older (seat p (with_hint arrays sp.hint) args sp ∷ ts))
        → NowAsks all asks (acts p st bits older (seat p (with_hint arrays sp.hint) args sp ∷ ts))
        → (goes : (act p st bits older (seat p (with_hint arrays sp.hint) args sp)).moves ≡ true)
        → commits_of (acts p st bits (act p st bits older (seat p (with_hint arrays sp.hint) args sp) ∷ older) ts) ≡ []
        → ends_one p (acts p st bits (act p st bits older (seat p (with_hint arrays sp.hint) args sp) ∷ older) ts) ≡ false
        → Moving p acc (st.hints 0) (next_asks p bits all 0 st.asked) past' w v' (with_hint arrays sp.hint) args ahead ahead' sp.stage
        (act p st bits older (seat p (with_hint arrays sp.hint) args sp))
        (acts p st bits (act p st bits older (seat p (with_hint arrays sp.hint) args sp) ∷ older) ts)
    moving ts last h total now nowa goes silent ended =
        let a : Act = act p st bits older (seat p (with_hint arrays sp.hint) args sp) in
        let rest : List Act = acts p st bits (act p st bits older (seat p (with_hint arrays sp.hint) args sp) ∷ older) ts in
        let quiet : (m : ℕ) → of_mem m (commits_of (acts p st bits (act p st bits older (seat p (with_hint arrays sp.hint) args sp) ∷ older) ts))
        ≡ [] = λ m. ap (of_mem m) silent in
        let step = behind_moved p acc image st bits past past' all rows known older v v' d w asks
        (with_hint arrays sp.hint) args ahead ahead' sp last rows' b h goes in
        record {
          low = low_here p acc image st bits past past' all rows known older v v' d w asks (with_hint arrays sp.hint) args ahead ahead' sp last rows' b h;
          on = h.on;
          goes = goes;
          is = refl;
          hinted = refl;
          same =
              work_same p acc image st bits past past' all rows known older v v' d w asks (with_hint arrays sp.hint) args ahead ahead' sp last rows' b h goes;
          head =
              λ last' k. head_moves p acc image st bits past past' all rows known older v v' d w asks
              (with_hint arrays sp.hint) args ahead ahead' sp last rows' b h goes ts last' now nowa (λ m c. quiet m) k;
          total =
              λ m. words_step _ (past m) (past' m) (strips m (v m ++ marks p (with_hint arrays sp.hint) args sp.stage m)) _
              (strips m (v' m ++ marks p (with_hint arrays sp.hint) args (next_at p (with_hint arrays sp.hint) args sp.stage) m)) (of_mem m (commits_of rest))
              (total m)
              (later_strips m _ _ _ (step.1.split m)) (now_moved past past' d a rest goes now m) (quiet m);
          ended = ended;
          quiet =
              λ m c. quiet_more p acc (st.hints 0) m a rest ahead sp.stage h.under
              (commits_quiet p acc image st bits past past' all rows known older v v' d w asks
              (with_hint arrays sp.hint) args ahead ahead' sp last rows' b h goes m)
              (λ u. (calm_here p acc image st bits past past' all rows known older v v' d w asks
              (with_hint arrays sp.hint) args ahead ahead' sp last rows' b h goes u).commits) c (quiet m);
        }

    -- where it moves and replaces those behind it: they released nothing, as its guess wasn't verified
    more_changes : (ts : List Thread) (h : Here p acc st.asked past w v (with_hint arrays sp.hint) args ahead sp false)
        →
        ((m : ℕ) → Unsure p acc.v (sp.stage ∷ ahead) → w m ++ of_mem m (thread p arrays args).writes
        ≡ past m ++ strips m (v m ++ marks p (with_hint arrays sp.hint) args sp.stage m))
        → Now past past' d (acts p st bits older (seat p (with_hint arrays sp.hint) args sp ∷ ts))
        → NowAsks all asks (acts p st bits older (seat p (with_hint arrays sp.hint) args sp ∷ ts))
        → (act p st bits older (seat p (with_hint arrays sp.hint) args sp)).moves ≡ true
        → (y : List ℕ) × ((stage_work p (with_hint arrays sp.hint) args sp.stage).child ≡ Some y)
        × ((stage_work p (with_hint arrays sp.hint) args sp.stage).fails ≡ true)
        → Turned p acc (st.hints 0) (next_asks p bits all 0 st.asked) past' w v' arrays args ahead ahead'
        (acts p st bits older (seat p (with_hint arrays sp.hint) args sp ∷ ts))
    more_changes ts h words now nowa goes changed =
        let a : Act = act p st bits older (seat p (with_hint arrays sp.hint) args sp) in
        let same = work_same p acc image st bits past past' all rows known older v v' d w asks
        (with_hint arrays sp.hint) args ahead ahead' sp false rows' b h goes in
        let made = some_right (so_far p (with_hint arrays sp.hint) args sp.stage).child (thread p arrays args).next h.linked in
        let early = acc.changes_early (with_hint arrays sp.hint) args sp.stage made.0 h.on made.1 changed.2 in
        let held = held_back p st bits (act p st bits older (seat p (with_hint arrays sp.hint) args sp) ∷ older) ts
        (ap₂ (λ x y. not (x && y) && list_all (λ o. not (o.moves && o.work.fails)) older) goes (ap (λ (k : Work). k.fails) same ∙ changed.2)) in
        replaced p acc (st.hints 0) (next_asks p bits all 0 st.asked) past' w v' (with_hint arrays sp.hint) args ahead ahead' sp.stage a
        (acts p st bits (act p st bits older (seat p (with_hint arrays sp.hint) args sp) ∷ older) ts)
        (moving ts false h (λ m. words m (early.1, early.0)) now nowa goes held.0 held.1) changed.0 changed.1 changed.2

    -- where it moves and others on their turns are behind it
    more_goes : (ts : List Thread) (h : Here p acc st.asked past w v (with_hint arrays sp.hint) args ahead sp false)
        →
        ((m : ℕ) → Unsure p acc.v (sp.stage ∷ ahead) → w m ++ of_mem m (thread p arrays args).writes
        ≡ past m ++ strips m (v m ++ marks p (with_hint arrays sp.hint) args sp.stage m))
        → Now past past' d (acts p st bits older (seat p (with_hint arrays sp.hint) args sp ∷ ts))
        → NowAsks all asks (acts p st bits older (seat p (with_hint arrays sp.hint) args sp ∷ ts))
        → (act p st bits older (seat p (with_hint arrays sp.hint) args sp)).moves ≡ true
        → Turned p acc (st.hints 0) (next_asks p bits all 0 st.asked) past' (λ m. w m ++ of_mem m (thread p arrays args).writes)
        (λ m. v' m ++ marks p (with_hint arrays sp.hint) args (next_at p (with_hint arrays sp.hint) args sp.stage) m)
        (thread p arrays args).arrays (thread p arrays args).next (sp.stage ∷ ahead) (next_at p (with_hint arrays sp.hint) args sp.stage ∷ ahead')
        (acts p st bits (act p st bits older (seat p (with_hint arrays sp.hint) args sp) ∷ older) ts)
        → Changed (stage_work p (with_hint arrays sp.hint) args sp.stage)
        → Turned p acc (st.hints 0) (next_asks p bits all 0 st.asked) past' w v' arrays args ahead ahead'
        (acts p st bits older (seat p (with_hint arrays sp.hint) args sp ∷ ts))
    more_goes ts h words now nowa goes t (inl c) = more_moves ts h now nowa goes c t
    more_goes ts h words now nowa goes t (inr c) = more_changes ts h words now nowa goes c

    -- the last one, where it moves
    last_goes : (strays : List Thread) (h : Here p acc st.asked past w v (with_hint arrays sp.hint) args ahead sp true)
        → ((m : ℕ) → w m ++ of_mem m (thread p arrays args).writes ≡ past m ++ strips m (v m ++ marks p (with_hint arrays sp.hint) args sp.stage m))
        → Now past past' d (acts p st bits older (seat p (with_hint arrays sp.hint) args sp ∷ strays))
        → NowAsks all asks (acts p st bits older (seat p (with_hint arrays sp.hint) args sp ∷ strays))
        → Last p acc.stray acc.made sp.stage (so_far p (with_hint arrays sp.hint) args sp.stage).child strays
        → (act p st bits older (seat p (with_hint arrays sp.hint) args sp)).moves ≡ true
        → Turned p acc (st.hints 0) (next_asks p bits all 0 st.asked) past' w v' arrays args ahead ahead'
        (acts p st bits older (seat p (with_hint arrays sp.hint) args sp ∷ strays))
    last_goes strays h total now nowa l goes =
        let low : sp.stage < length p.stages =
        low_here p acc image st bits past past' all rows known older v v' d w asks (with_hint arrays sp.hint) args ahead ahead' sp true rows' b h in
        let up : sp.stage < next_at p (with_hint arrays sp.hint) args sp.stage = acc.graph.up sp.stage
        (stage_work p (with_hint arrays sp.hint) args sp.stage).env low in
        let after : StraysAfter p (st.hints 0) acc.stray acc.made (next_at p (with_hint arrays sp.hint) args sp.stage) (nobody strays)
        (acts p st bits (act p st bits older (seat p (with_hint arrays sp.hint) args sp) ∷ older) strays) =
        stray_rest p acc (st.hints 0) st bits (with_hint arrays sp.hint) args older sp.stage (next_at p (with_hint arrays sp.hint) args sp.stage)
        (act p st bits older (seat p (with_hint arrays sp.hint) args sp)) strays _ refl h.linked l (le_of_lt up) refl (λ _. up) in
        last_moves p acc (st.hints 0) (next_asks p bits all 0 st.asked) past' w v' (with_hint arrays sp.hint) args ahead ahead' sp.stage
        (act p st bits older (seat p (with_hint arrays sp.hint) args sp))
        (acts p st bits (act p st bits older (seat p (with_hint arrays sp.hint) args sp) ∷ older) strays)
        (moving strays true h total now nowa goes after.commits after.ended)
        strays (λ k. ap (λ ts. acts p st bits (act p st bits older (seat p (with_hint arrays sp.hint) args sp) ∷ older) ts) k) after
        (so_far p (with_hint arrays sp.hint) args sp.stage).child refl h.linked l (stage_work p (with_hint arrays sp.hint) args sp.stage).child refl

  -- after a cycle the live threads from one on are again threads on their turns, with those after a wrong guess behind them
  pub turned : (older : List Act) (v v' : Marks) (d w : Writes) (asks : ℕ → Option ℕ) (arrays : Arrays) (args : List ℕ)
      (ahead ahead' : List ℕ) (sps : List Spot) (strays : List Thread)
      → RowsAt image w arrays → Behind p acc older v v' d asks ahead ahead'
      → Standing p acc st.asked past w v arrays args ahead sps → Tail p acc.stray acc.made arrays args sps strays
      → is_nil sps ≡ false
      → Now past past' d (acts p st bits older (seats p arrays args sps ++ strays))
      → NowAsks all asks (acts p st bits older (seats p arrays args sps ++ strays))
      → Turned p acc (st.hints 0) (next_asks p bits all 0 st.asked) past' w v' arrays args ahead ahead'
      (acts p st bits older (seats p arrays args sps ++ strays))
  turned older v v' d w asks arrays args ahead ahead' [] strays rows' b h l some now nowa = absurd (cc some)
  turned older v v' d w asks arrays args ahead ahead' (sp ∷ []) strays rows' b h l some now nowa =
      by_bool (act p st bits older (seat p (with_hint arrays sp.hint) args sp)).moves
      (Turned p acc (st.hints 0) (next_asks p bits all 0 st.asked) past' w v' arrays args ahead ahead'
      (acts p st bits older (seat p (with_hint arrays sp.hint) args sp ∷ strays)))
      (λ e. last_goes older v v' d w asks arrays args ahead ahead' sp rows' b strays h.0 h.1 now nowa l e)
      (λ e. last_stands older v v' d w asks arrays args ahead ahead' sp rows' b strays h.0 h.1 now nowa l e)
  turned older v v' d w asks arrays args ahead ahead' (sp ∷ r ∷ sps) strays rows' b h l some now nowa =
      by_bool (act p st bits older (seat p (with_hint arrays sp.hint) args sp)).moves
      (Turned p acc (st.hints 0) (next_asks p bits all 0 st.asked) past' w v' arrays args ahead ahead'
      (acts p st bits older (seats p arrays args (sp ∷ r ∷ sps) ++ strays)))
      (λ e.
      let step = behind_moved p acc image st bits past past' all rows known older v v' d w asks
      (with_hint arrays sp.hint) args ahead ahead' sp false rows' b h.0 e in
      let made = some_right (so_far p (with_hint arrays sp.hint) args sp.stage).child (thread p arrays args).next h.0.linked in
      more_goes older v v' d w asks arrays args ahead ahead' sp rows' b
      (seats p (thread p arrays args).arrays (thread p arrays args).next (r ∷ sps) ++ strays) h.0 (λ m u. h.1.0.words m (inr u)) now nowa e
      (turned (act p st bits older (seat p (with_hint arrays sp.hint) args sp) ∷ older) _ _ _ (λ m. w m ++ of_mem m (thread p arrays args).writes) _
      (thread p arrays args).arrays
      (thread p arrays args).next (sp.stage ∷ ahead)
      (next_at p (with_hint arrays sp.hint) args sp.stage ∷ ahead') (r ∷ sps) strays
      (rows_next p acc image w (with_hint arrays sp.hint) args rows') step.1 h.1 l refl
      (now_moved past past' d (act p st bits older (seat p (with_hint arrays sp.hint) args sp))
      (acts p st bits (act p st bits older (seat p (with_hint arrays sp.hint) args sp) ∷ older)
      (seats p (thread p arrays args).arrays (thread p arrays args).next (r ∷ sps) ++ strays)) e now)
      (asks_moved p acc all asks (act p st bits older (seat p (with_hint arrays sp.hint) args sp))
      (acts p st bits (act p st bits older (seat p (with_hint arrays sp.hint) args sp) ∷ older)
      (seats p (thread p arrays args).arrays (thread p arrays args).next (r ∷ sps) ++ strays)) e nowa))
      (acc.made_changes (with_hint arrays sp.hint) args sp.stage made.0 h.0.on made.1))
      (λ e.
      more_stands older v v' d w asks arrays args ahead ahead' sp rows' b
      (seats p (thread p arrays args).arrays (thread p arrays args).next (r ∷ sps) ++ strays) h.0 now nowa e
      (turned (act p st bits older (seat p (with_hint arrays sp.hint) args sp) ∷ older) _ _ _ (λ m. w m ++ of_mem m (thread p arrays args).writes) _
      (thread p arrays args).arrays
      (thread p arrays args).next (sp.stage ∷ ahead)
      (sp.stage ∷ ahead') (r ∷ sps) strays
      (rows_next p acc image w (with_hint arrays sp.hint) args rows')
      (behind_stands p acc image st bits past past' all rows known older v v' d w asks
      (with_hint arrays sp.hint) args ahead ahead' sp false rows' b h.0 e) h.1 l refl
      (now_stays past past' d (act p st bits older (seat p (with_hint arrays sp.hint) args sp))
      (acts p st bits (act p st bits older (seat p (with_hint arrays sp.hint) args sp) ∷ older)
      (seats p (thread p arrays args).arrays (thread p arrays args).next (r ∷ sps) ++ strays)) e now)
      (asks_stays p acc all asks (act p st bits older (seat p (with_hint arrays sp.hint) args sp))
      (acts p st bits (act p st bits older (seat p (with_hint arrays sp.hint) args sp) ∷ older)
      (seats p (thread p arrays args).arrays (thread p arrays args).next (r ∷ sps) ++ strays)) e nowa)))
