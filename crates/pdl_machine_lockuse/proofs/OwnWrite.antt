-- What a thread's stage does to its pending writes of one memory: who writes has one, once, and what is released has its value.
use Rattle.std.proofs.Common.{◌≡◌, refl, sym, ap, ap₂, ◌∙◌, subst, ℕ, suc, ◌+◌, ◌≤◌, Bool, true, false, ◌&&◌, ◌||◌, not, List, [], ◌∷◌, ◌++◌, length, length-append, Option, Some, None, ◌==◌, cond, if◌then◌else◌, arith, eq-eqb, slice_index, append_assoc, append-nil, nat_le}
use Rattle.std.proofs.lemmas.Bool.{false≢true, leb-true, eqb-true}
use Rattle.pdl_semantics.specs.Flat.{Pipe, Op, Write, ReserveWrite, Release, Verify, Stmt, list_all, all_hold, value_of}
use Rattle.pdl_semantics.specs.Stages.{onpath, in_stage, goes_to, stage_at, commit_stage}
use Rattle.pdl_semantics.specs.Machine.{State, Pending, Blocked, Written, Ask, Deeds, deeds_after, deeds_after_all, reserves_of, held_before, same_args, word_for, checked_args}
use Rattle.pdl_semantics.specs.Moves.{block_ready, next_stage}
use Rattle.pdl_semantics.specs.Promises.{DifferInAdvice}
use Rattle.pdl_semantics.specs.Cycle.{new_entries, with_writes_of, releases_of, is_stage}
use Rattle.pdl_semantics.proofs.Facts.{put_all_length}
use Rattle.pdl_theory_turns.specs.Alone.{is_nil, is_among, is_oldest, drop_var, but_last}
use Rattle.pdl_theory_turns.specs.Derived
use Rattle.pdl_theory_turns.specs.Derived.{Entry, Work, Around, around, port_free}
use Rattle.pdl_theory_turns.specs.Scans.{Phase, Fresh, after_write, after_reserve, after_release, may_write, is_new, next_phase, phase_all, write_reserves}
use Rattle.pdl_theory_turns.specs.Facts.{Sound}
use Rattle.pdl_theory_turns.proofs.Apart.{total, oldest_length, oldest_among}
use Rattle.pdl_theory_turns.proofs.Writes.{and_left, and_right}
use Rattle.pdl_theory_turns.proofs.Entries.{entries_of, entry, Open, Full, waiting, known, open_vars, full_vars}
use Rattle.pdl_theory_turns.proofs.Deeds.{AllFit, Loosely, loose_step}
use Rattle.pdl_theory_turns.proofs.Lists.{own, pend}
use Rattle.pdl_theory_turns.proofs.Steps.{is_used, Here, new_more, pend_append}
use Rattle.pdl_theory_turns.proofs.OwnEntries.{pend_own}
use Rattle.pdl_theory_turns.proofs.Surroundings.{AllIn, in_stage_all}
use Rattle.pdl_theory_simulation.proofs.FlowFacts.{use_ok, uses_ok}
use Rattle.pdl_theory_simulation.proofs.AcceptedFacts.{sound_flows}
use Rattle.pdl_theory_simulation.proofs.Shapes.{Shape, shape_start}
use Rattle.pdl_theory_simulation.proofs.Stretches.{Keeps, start_of, keeps_next}
use Rattle.pdl_theory_simulation.proofs.StretchSteps.{step_if}
use Rattle.pdl_theory_simulation.proofs.Seats.{Live, dacts, now_of, work_of_live, deeds_of}
use Rattle.pdl_theory_simulation.proofs.Choices.{Known, keeps_now, fit_all, starts_here, like_here}
use Rattle.pdl_lockapi.specs.Forget.{has_place, place_of}
use Rattle.pdl_machine_facts.specs.Use.{in_time, is_early}
use Rattle.pdl_machine_facts.proofs.StatementUses.{IsAlong, writes_to}
use Rattle.pdl_theory_states.specs.Strict.{Strict}
use Rattle.pdl_theory_states.proofs.Releases.{is_done}
use Rattle.pdl_theory_states.proofs.FetchCounts.{any_append}
use Rattle.pdl_machine_lockuse.specs.Use.{written_in, is_open, AreOwn}
use Rattle.pdl_machine_lockuse.proofs.Reservations.{one_if, times, uses, Single, single_fresh, single_all, single_op, uses_reserve, uses_write, uses_release, total_all, gone_few, reserves_append, reserved_all}
use Rattle.pdl_machine_lockuse.proofs.Paths.{path, mine, passed, rest, whole, passed_uses, mine_uses, mine_early}
use Rattle.pdl_machine_lockuse.proofs.Begins.{begun, begun_is, along_here}
use Rattle.pdl_lockapi.proofs.Places.{place_behind}
use Rattle.pdl_machine_lockuse.proofs.OwnPlaces.{InTurn, written_more, turn_more, turn_grow, puts_place, opens_back, oldest_first, pend_length, known_length, unused_place, names, names_append, given_own}

-- what a stage does with a memory where start was pending before it, and in which phase it ends
pub record Used (m n : ℕ) (start : List Pending) (d : Deeds) (ph : Phase) : Type 0 where
  pub before : ℕ
  pub turns : InTurn m n (start ++ new_entries m n d.reserves) before d.writes
  pub once : (y : ℕ) → names n y (start ++ new_entries m n d.reserves) ≤ 1
  pub gives : AreOwn (releases_of m d.releases) n (with_writes_of m n d.writes (start ++ new_entries m n d.reserves))
  pub done : (releases_of m d.releases ≡ 0 → ⊥) → is_done ph ≡ true
  pub short : releases_of m d.releases ≤ length ph.gone

module _ (o : Around) (read : ℕ → ℕ → ℕ) (block : Blocked → Bool) (free : Ask → Bool) (m n : ℕ) (start : List Pending) (before : ℕ) where
  abbrev At : Phase → Deeds → Work → Type 0
  At ph d w = Here o read block free m n start ph d w

  -- a thread's pending writes of m, those of this stage's reservations included
  abbrev all : Deeds → List Pending
  all d = start ++ new_entries m n d.reserves

  -- each location has one pending write, and the writes went into them one after the other
  pub record Wrote (ph : Phase) (d : Deeds) : Type 0 where
    pub single : Single ph
    pub named : (y : ℕ) → names n y (all d) ≤ uses ph y
    pub made : length ph.unwritten + (before + written_in m d.writes) ≡ length (all d)
    pub turns : InTurn m n (all d) before d.writes

  puts_length : (ws : List Written) (es : List Pending) → length (with_writes_of m n ws es) ≡ length es
  puts_length ws es = put_all_length m n ws es

  -- the location that is written has the first pending write without value
  next_place : (a : ℕ) (ph : Phase) (d : Deeds) (v : Work) → may_write ph a ≡ true → At ph d v → Wrote ph d
      → (is_open n a (all d) ≡ true) × (has_place n a (all d) ≡ true) × (place_of n a (all d) ≡ before + written_in m d.writes)
  next_place a ph d v h g w = (
    opens_back m n a n d.writes (all d)
        (ap (is_open n a) two ∙ any_append _ (g.out ++ g.rest) (pend m n (waiting m g.opens)) first.0),
    sym (puts_place m n a n d.writes (all d)).0 ∙ ap (has_place n a) two ∙ behind.0 ∙ first.1,
    sym (puts_place m n a n d.writes (all d)).1 ∙ ap (place_of n a) two ∙ behind.1 ∙ counted first.2,
  )
    where
      two : with_writes_of m n d.writes (all d) ≡ (g.out ++ g.rest) ++ pend m n (waiting m g.opens)
      two = g.two ∙ sym (append_assoc g.out g.rest (pend m n (waiting m g.opens)))

      first : (is_open n a (pend m n (waiting m g.opens)) ≡ true) × (has_place n a (pend m n (waiting m g.opens)) ≡ true)
          × (place_of n a (pend m n (waiting m g.opens)) ≡ 0)
      first = oldest_first m n a g.opens (ap (is_oldest a) g.at_open ∙ h)

      unused : is_used ph a ≡ false
      unused = let i = g.apart a (oldest_among a ph.unwritten h) in ap₂ (λ b c. b || c) i.0 i.1

      behind : (has_place n a ((g.out ++ g.rest) ++ pend m n (waiting m g.opens)) ≡ has_place n a (pend m n (waiting m g.opens)))
          × (place_of n a ((g.out ++ g.rest) ++ pend m n (waiting m g.opens))
          ≡ length (g.out ++ g.rest) + place_of n a (pend m n (waiting m g.opens)))
      behind = place_behind n a (g.out ++ g.rest) (pend m n (waiting m g.opens)) (unused_place ph n a (g.out ++ g.rest) unused g.used)

      counted : place_of n a (pend m n (waiting m g.opens)) ≡ 0
          → length (g.out ++ g.rest) + place_of n a (pend m n (waiting m g.opens)) ≡ before + written_in m d.writes
      counted z =
          sums (length (g.out ++ g.rest)) (place_of n a (pend m n (waiting m g.opens))) (length ph.unwritten) (before + written_in m d.writes)
          (length (all d)) z w.made
          (sym (puts_length d.writes (all d)) ∙ ap length two ∙ length-append (g.out ++ g.rest) (pend m n (waiting m g.opens))
          ∙ ap (λ k. length (g.out ++ g.rest) + k) (pend_length m n g.opens ∙ ap length g.at_open))
        where
          sums : (i j u b l : ℕ) → j ≡ 0 → u + b ≡ l → l ≡ i + u → i + j ≡ b
          sums i j u b l e f k = omega (arith, e, f, k)

  write_next : (j a v : ℕ) (ph : Phase) (d : Deeds) (q : Work) → (b : Bool) → (j == m) ≡ b → (not b || may_write ph a) ≡ true
      → At ph d q → Wrote ph d
      → Wrote (cond b (after_write ph a) ph) (record d { writes = d.writes ++ record { mem = j; var = a; value = v } ∷ [] })
  write_next j a v ph d q true e k g w = record {
    single = λ x. subst (λ i. i ≤ 1) (sym (uses_write ph a x k)) (w.single x);
    named = λ y. subst (λ i. names n y (all d) ≤ i) (sym (uses_write ph a y k)) (w.named y);
    made =
        one (length (but_last ph.unwritten)) (length ph.unwritten) (written_in m d.writes)
        (written_in m (d.writes ++ record { mem = j; var = a; value = v } ∷ []))
        (length (all d)) (oldest_length a ph.unwritten k)
        (written_more m d.writes (record { mem = j; var = a; value = v }) ∙ ap (λ c. written_in m d.writes + one_if c) e)
        w.made;
    turns = turn_more m n (all d) before d.writes (record { mem = j; var = a; value = v }) w.turns (λ i. next_place a ph d q k g w);
  }
    where
      one : (i u f t l : ℕ) → i + 1 ≡ u → t ≡ f + 1 → u + (before + f) ≡ l → i + (before + t) ≡ l
      one i u f t l q r s = omega (arith, q, r, s)
  write_next j a v ph d q false e k g w = record {
    single = w.single;
    named = w.named;
    made =
        none (length ph.unwritten) (written_in m d.writes) (written_in m (d.writes ++ record { mem = j; var = a; value = v } ∷ [])) (length (all d))
        (written_more m d.writes (record { mem = j; var = a; value = v }) ∙ ap (λ c. written_in m d.writes + one_if c) e) w.made;
    turns = turn_more m n (all d) before d.writes (record { mem = j; var = a; value = v }) w.turns (λ i. absurd (false≢true (sym e ∙ i)));
  }
    where
      none : (u f t l : ℕ) → t ≡ f + 0 → u + (before + f) ≡ l → u + (before + t) ≡ l
      none u f t l r s = omega (arith, r, s)

  reserve_next : (j a : ℕ) (ph : Phase) (d : Deeds) → (b : Bool) → (j == m) ≡ b → (not b || is_new ph a) ≡ true → Wrote ph d
      → Wrote (cond b (after_reserve ph a) ph) (deeds_after read (ReserveWrite j a) d)
  reserve_next j a ph d b e k w = at b e k
    where
      single_new : (m : ℕ) (ph : Phase) (a : ℕ) → is_new ph a ≡ true → Single ph → Single (after_reserve ph a)
      single_new m ph a h s =
          subst (λ b. Single (cond b (after_reserve ph a) ph)) (eq-eqb m m refl)
          (single_op m ph (ReserveWrite m a) (ap (λ b. not b || is_new ph a) (eq-eqb m m refl) ∙ h) s)

      more : List Pending
      more = cond (j == m) (record { thread = n; var = a; address = slice_index d.env a; value = None } ∷ []) []

      grown : all (deeds_after read (ReserveWrite j a) d) ≡ all d ++ more
      grown =
          ap (λ l. start ++ l) (new_more m n d.reserves (record { mem = j; var = a; address = slice_index d.env a }))
          ∙ sym (append_assoc start (new_entries m n d.reserves) more)

      named_more : (y : ℕ) → names n y (all (deeds_after read (ReserveWrite j a) d)) ≡ names n y (all d) + names n y more
      named_more y = ap (names n y) grown ∙ names_append n y (all d) more

      long_more : length (all (deeds_after read (ReserveWrite j a) d)) ≡ length (all d) + length more
      long_more = ap length grown ∙ length-append (all d) more

      turns_more : InTurn m n (all (deeds_after read (ReserveWrite j a) d)) before d.writes
      turns_more = subst (λ l. InTurn m n l before d.writes) (sym grown) (turn_grow m n (all d) more before d.writes w.turns)

      at : (b : Bool) → (j == m) ≡ b → (not b || is_new ph a) ≡ true → Wrote (cond b (after_reserve ph a) ph) (deeds_after read (ReserveWrite j a) d)
      at true e k = record {
        single = single_new m ph a k w.single;
        named = λ y. subst (λ i. names n y (all (deeds_after read (ReserveWrite j a) d)) ≤ i) (sym (uses_reserve ph a y))
            (add (names n y (all (deeds_after read (ReserveWrite j a) d))) (names n y (all d)) (names n y more) (one_if (a == y)) (uses ph y)
            (named_more y) (one y) (w.named y));
        made =
            longer (length (all (deeds_after read (ReserveWrite j a) d))) (length (all d)) (length more) (length ph.unwritten) (before + written_in m d.writes)
            long_more (ap (λ c. length {A = Pending} (cond c (record { thread = n; var = a; address = slice_index d.env a; value = None } ∷ []) [])) e) w.made;
        turns = turns_more;
      }
        where
          one : (y : ℕ) → names n y more ≡ one_if (a == y) + 0
          one y =
              ap (λ c. names n y (cond c (record { thread = n; var = a; address = slice_index d.env a; value = None } ∷ []) [])) e
              ∙ ap (λ c. one_if (c && (a == y)) + 0) (eq-eqb n n refl)

          add : (t i j u s : ℕ) → t ≡ i + j → j ≡ u + 0 → i ≤ s → t ≤ u + s
          add t i j u s e f h = omega (arith, e, f, h)

          longer : (t i j u s : ℕ) → t ≡ i + j → j ≡ 1 → u + s ≡ i → suc u + s ≡ t
          longer t i j u s e f h = omega (arith, e, f, h)
      at false e k = record {
        single = w.single;
        named = λ y. same (names n y (all (deeds_after read (ReserveWrite j a) d))) (names n y (all d)) (names n y more) (uses ph y)
            (named_more y)
            (ap (λ c. names n y (cond c (record { thread = n; var = a; address = slice_index d.env a; value = None } ∷ []) [])) e) (w.named y);
        made =
            still (length (all (deeds_after read (ReserveWrite j a) d))) (length (all d)) (length more) (length ph.unwritten + (before + written_in m d.writes))
            long_more (ap (λ c. length {A = Pending} (cond c (record { thread = n; var = a; address = slice_index d.env a; value = None } ∷ []) [])) e) w.made;
        turns = turns_more;
      }
        where
          same : (t i j s : ℕ) → t ≡ i + j → j ≡ 0 → i ≤ s → t ≤ s
          same t i j s e f h = omega (arith, e, f, h)

          still : (t i j s : ℕ) → t ≡ i + j → j ≡ 0 → s ≡ i → s ≡ t
          still t i j s e f h = omega (arith, e, f, h)

  wrote_next : (op : Op) (ph : Phase) (d : Deeds) (v : Work) → use_ok m ph op ≡ true → At ph d v → Wrote ph d
      → Wrote (next_phase m ph op) (deeds_after read op d)
  wrote_next (Write j a e) ph d v k g w = write_next j a (value_of e d.env) ph d v (j == m) refl k g w
  wrote_next (ReserveWrite j a) ph d v k g w = reserve_next j a ph d (j == m) refl k w
  wrote_next (Release j a) ph d v k g w = at (j == m)
    where
      opens : (b : Bool)
          → (if b then record { unwritten = ph.unwritten; full = drop_var a ph.full; gone = a ∷ ph.gone } else ph).unwritten ≡ ph.unwritten
      opens true = refl
      opens false = refl

      at : (b : Bool) → Wrote (cond b (after_release ph a) ph) (deeds_after read (Release j a) d)
      at true = record {
        single = λ x. subst (λ i. i ≤ 1) (sym (uses_release ph a x)) (w.single x);
        named = λ y. subst (λ i. names n y (all d) ≤ i) (sym (uses_release ph a y)) (w.named y);
        made = ap (λ l. length l + (before + written_in m d.writes)) (opens (is_among a ph.full)) ∙ w.made;
        turns = w.turns;
      }
      at false = record { single = w.single; named = w.named; made = w.made; turns = w.turns }
  wrote_next (Verify last args) ph d v k g w = at (same_args (checked_args last args d) d.guess)
    where
      at : (b : Bool) → Wrote ph (cond b d (record d { child = Some (checked_args last args d); guess = checked_args last args d; fails = true }))
      at true = w
      at false = record { single = w.single; named = w.named; made = w.made; turns = w.turns }
  wrote_next _ ph d v k g w = record { single = w.single; named = w.named; made = w.made; turns = w.turns }

  -- at the end
  in_end : (ph : Phase) (d : Deeds) (w : Work) → At ph d w → Wrote ph d → Used m n start d ph
  in_end ph d w g h = record {
    before = before;
    turns = h.turns;
    once = λ y. low (h.named y) (h.single y);
    gives = subst (λ xs. AreOwn (releases_of m d.releases) n xs) (sym g.two)
        (subst (λ k. AreOwn k n (g.out ++ (g.rest ++ pend m n (waiting m g.opens)))) g.outs
        (given_own n g.out (g.rest ++ pend m n (waiting m g.opens)) g.given));
    short = subst (λ k. k ≤ length ph.gone) g.outs g.let_go;
    done = λ f. gone ph.gone (λ e. f (sym g.outs ∙ e)) g.let_go;
  }
    where
      low : {i j : ℕ} → i ≤ j → j ≤ 1 → i ≤ 1
      low e f = omega (arith, e, f)

      gone : (xs : List ℕ) → (length g.out ≡ 0 → ⊥) → length g.out ≤ length xs → not (is_nil xs) ≡ true
      gone [] f e = absurd (f (omega (arith, e)))
      gone (x ∷ xs) f e = refl

  -- statements that write and release a memory in order on a path use it as they should, up to the phase after all of them
  pub used_all : (path : List ℕ) (xs : List Stmt) (ph : Phase) (d : Deeds) (v : Work)
      → Loosely o read block free d v → AllFit o read block free xs → IsAlong path read xs d
      → uses_ok m ph (onpath path xs) ≡ true → At ph d v → Wrote ph d
      → Used m n start (deeds_after_all read xs d) (phase_all m ph (onpath path xs))
  used_all path [] ph d v l i f k g w = in_end ph d v g w
  used_all path (x ∷ xs) ph d v l i f k g w =
      at (all_hold x.guards d.env) (all_hold x.guards path) f.0 f.1 k (λ ph d v l f k g w. used_all path xs ph d v l i.1 f k g w)
    where
      at : (b c : Bool) → b ≡ c → IsAlong path read xs (cond b (deeds_after read x.op d) d)
          → uses_ok m ph (cond c (record x { guards = [] } ∷ onpath path xs) (onpath path xs)) ≡ true
          →
          ((ph : Phase) (d : Deeds) (v : Work) → Loosely o read block free d v → IsAlong path read xs d
          → uses_ok m ph (onpath path xs) ≡ true → At ph d v → Wrote ph d
          → Used m n start (deeds_after_all read xs d) (phase_all m ph (onpath path xs)))
          → Used m n start (deeds_after_all read xs (cond b (deeds_after read x.op d) d))
          (phase_all m ph (cond c (record x { guards = [] } ∷ onpath path xs) (onpath path xs)))
      at true false e f k go = absurd (cc e)
      at false true e f k go = absurd (cc e)
      at false false e f k go = go ph d v l f k g w
      at true true e f k go =
          let ok : use_ok m ph x.op ≡ true = and_left (use_ok m ph x.op) (uses_ok m (next_phase m ph x.op) (onpath path xs)) k in
          go (next_phase m ph x.op) (deeds_after read x.op d) (Derived.work_after o x.op v) (loose_step o read block free true x.op d v i.0 l) f
          (and_right (use_ok m ph x.op) (uses_ok m (next_phase m ph x.op) (onpath path xs)) k)
          (step_if o read block free m n start true x.op ph d v l (λ _. ok) g) (wrote_next x.op ph d v ok g w)

-- WRITES IN TIME

module _ (p : Pipe) (k : ℕ) (read : ℕ → ℕ → ℕ) (path : List ℕ) where
  abbrev is_timely : Written → Bool
  is_timely w = nat_le k (commit_stage p w.mem)

  all_last : (ws : List Written) (w : Written) → list_all is_timely ws ≡ true → is_timely w ≡ true → list_all is_timely (ws ++ w ∷ []) ≡ true
  all_last [] w h e = ap (λ b. b && true) e
  all_last (x ∷ ws) w h e = ap₂ (λ a b. a && b) (and_left (is_timely x) _ h) (all_last ws w (and_right (is_timely x) _ h) e)

  one : (op : Op) (d : Deeds) → in_time p k op ≡ true → list_all is_timely d.writes ≡ true → list_all is_timely (deeds_after read op d).writes ≡ true
  one (Write m a e) d g h = all_last d.writes _ h g
  one (Verify last args) d g h = at (same_args (checked_args last args d) d.guess)
    where
      at : (b : Bool)
          → list_all is_timely (cond b d (record d { child = Some (checked_args last args d); guess = checked_args last args d; fails = true })).writes ≡ true
      at true = h
      at false = h
  one _ d g h = h

  -- where the statements of stage k are early, all that they write is of memories with releases in k or later
  pub timely : (xs : List Stmt) (d : Deeds) → AllIn k xs → IsAlong path read xs d → list_all (is_early p) (onpath path xs) ≡ true
      → list_all is_timely d.writes ≡ true → list_all is_timely (deeds_after_all read xs d).writes ≡ true
  timely [] d i f e h = h
  timely (x ∷ xs) d i f e h = at (all_hold x.guards d.env) (all_hold x.guards path) f.0 f.1 e (λ d f e h. timely xs d i.1 f e h)
    where
      at : (b c : Bool) → b ≡ c → IsAlong path read xs (cond b (deeds_after read x.op d) d)
          → list_all (is_early p) (cond c (record x { guards = [] } ∷ onpath path xs) (onpath path xs)) ≡ true
          →
          ((d : Deeds) → IsAlong path read xs d → list_all (is_early p) (onpath path xs) ≡ true
          → list_all is_timely d.writes ≡ true → list_all is_timely (deeds_after_all read xs d).writes ≡ true)
          → list_all is_timely (deeds_after_all read xs (cond b (deeds_after read x.op d) d)).writes ≡ true
      at true false q f e go = absurd (false≢true (sym q))
      at false true q f e go = absurd (false≢true q)
      at false false q f e go = go d f e h
      at true true q f e go =
          go (deeds_after read x.op d) f (and_right (is_early p x) _ e) (one x.op d (subst (λ j. in_time p j x.op ≡ true) i.0 (and_left (is_early p x) _ e)) h)

  -- where all writes are of memories with releases in k or later, and one is of m, the releases of m stand in k or later
  pub timely_to : (m : ℕ) (ws : List Written) → list_all is_timely ws ≡ true → writes_to m ws ≡ true → k ≤ commit_stage p m
  timely_to m [] h w = absurd (false≢true w)
  timely_to m (x ∷ ws) h w = at (x.mem == m) refl w (timely_to m ws (and_right (is_timely x) _ h))
    where
      at : (b : Bool) → (x.mem == m) ≡ b → (b || writes_to m ws) ≡ true → (writes_to m ws ≡ true → k ≤ commit_stage p m) → k ≤ commit_stage p m
      at true e w go = subst (λ j. k ≤ commit_stage p j) (eqb-true x.mem m e) (leb-true k (commit_stage p x.mem) (and_left (is_timely x) _ h))
      at false e w go = go w

-- A LIVE THREAD

module _ (p : Pipe) (sound : Sound p) (st : State) (d : Derived.State) (bits : List Bool)
    (arrays : DifferInAdvice p st.arrays d.arrays) (older : List Live) (l : Live)
    (k : Known p (sound_flows p sound) st d bits arrays older l) where
  abbrev way : List ℕ
  way = path p sound st d bits arrays older l k

  abbrev mine_here : List Stmt
  mine_here = mine p sound st d bits arrays older l k

  abbrev done : List Stmt
  done = passed p sound st d bits arrays older l k

  keeps : Keeps p l.env (now_of p d bits l)
  keeps = keeps_now p (sound_flows p sound) st d bits arrays l k.seated

  abbrev o : Around
  o = around p d bits (dacts p d bits older) l.thread.stage l.thread.hint

  did_is : deeds_of p st bits l ≡ deeds_after_all (word_for st l.number) (in_stage l.thread.stage p.stmts) (begun p sound st d bits arrays older l k)
  did_is = ap (deeds_after_all (word_for st l.number) (in_stage l.thread.stage p.stmts)) (begun_is p sound st d bits arrays older l k)

  -- the statements of a thread's stage use each memory as they should, up to the phase after all of them
  pub used_here : (m : ℕ)
      → Used m l.number (pend m l.number l.thread.entries) (deeds_of p st bits l)
      (phase_all m (phase_all m Fresh (passed p sound st d bits arrays older l k)) (mine p sound st d bits arrays older l k))
  used_here m =
      subst
      (λ e. Used m l.number (pend m l.number l.thread.entries) e (phase_all m (phase_all m Fresh done) mine_here))
      (sym did_is)
      (used_all o (word_for st l.number) (λ b. block_ready p st l.number b)
      (λ q. port_free p d bits (dacts p d bits older) q.mem) m l.number (pend m l.number l.thread.entries) (length (phase_all m Fresh done).full)
      way (in_stage l.thread.stage p.stmts) (phase_all m Fresh done)
      (begun p sound st d bits arrays older l k) (start_of (now_of p d bits l))
      (starts_here p (sound_flows p sound) st d bits arrays older l k) (fit_all p (sound_flows p sound) st d bits arrays older l k)
      (along_here p sound st d bits arrays older l k)
      (mine_uses p sound st d bits arrays older l k m)
      (shape_start m l.number (phase_all m Fresh done) l.thread.entries (k.seated.keeps_on.shape m))
      (record {
        single = started;
        named = λ y. start_names (phase_all m Fresh done) l.thread.entries y (k.seated.keeps_on.shape m);
        made = start_length (phase_all m Fresh done) l.thread.entries (k.seated.keeps_on.shape m);
        turns = tt;
      }))
    where
      started : Single (phase_all m Fresh done)
      started = single_all m Fresh done (passed_uses p sound st d bits arrays older l k m) single_fresh

      front : (i j k : ℕ) → i + (j + k) ≡ (i + j) + k
      front i j k = omega arith

      known_names : (fs : List Full) (y : ℕ) → names l.number y (pend m l.number (known m fs)) ≡ times y (full_vars fs)
      known_names [] y = refl
      known_names (f ∷ fs) y =
          ap (λ b. names l.number y (pend m l.number (known m fs) ++ cond b (own l.number (entry m f.var f.address (Some f.value)) ∷ []) [])) (eq-eqb m m refl)
          ∙ names_append l.number y (pend m l.number (known m fs)) (own l.number (entry m f.var f.address (Some f.value)) ∷ [])
          ∙ ap₂ (λ i b. i + (one_if (b && (f.var == y)) + 0)) (known_names fs y) (eq-eqb l.number l.number refl)
          ∙ turn (times y (full_vars fs)) (one_if (f.var == y))
        where
          turn : (i j : ℕ) → i + (j + 0) ≡ j + i
          turn i j = omega arith

      waiting_names : (os : List Open) (fs : List Full) (y : ℕ)
          → names l.number y (pend m l.number (waiting m os ++ known m fs)) ≡ times y (open_vars os) + times y (full_vars fs)
      waiting_names [] fs y = known_names fs y ∙ zero (times y (full_vars fs))
        where
          zero : (i : ℕ) → i ≡ 0 + i
          zero i = omega arith
      waiting_names (o ∷ os) fs y =
          ap (λ b. names l.number y (pend m l.number (waiting m os ++ known m fs) ++ cond b (own l.number (entry m o.var o.address None) ∷ []) []))
          (eq-eqb m m refl)
          ∙ names_append l.number y (pend m l.number (waiting m os ++ known m fs)) (own l.number (entry m o.var o.address None) ∷ [])
          ∙ ap₂ (λ i b. i + (one_if (b && (o.var == y)) + 0)) (waiting_names os fs y) (eq-eqb l.number l.number refl)
          ∙ turn (times y (open_vars os)) (times y (full_vars fs)) (one_if (o.var == y))
        where
          turn : (i j k : ℕ) → (i + j) + (k + 0) ≡ (k + i) + j
          turn i j k = omega arith

      start_names : (ph : Phase) (es : List Entry) (y : ℕ) → Shape m ph (entries_of m es)
          → names l.number y (pend m l.number es ++ []) ≤ uses ph y
      start_names ph es y s =
          low (times y ph.unwritten) (times y ph.full) (times y ph.gone) (names l.number y (pend m l.number es ++ []))
          (ap (names l.number y) (append-nil (pend m l.number es) ∙ pend_own m l.number es ∙ ap (pend m l.number) s.entries)
          ∙ waiting_names s.opens s.fulls y ∙ ap₂ (λ a b. times y a + times y b) s.at_open s.at_full)
        where
          low : (i j k n : ℕ) → n ≡ i + j → n ≤ i + (j + k)
          low i j k n e = omega (arith, e)

      start_length : (ph : Phase) (es : List Entry) → Shape m ph (entries_of m es)
          → length ph.unwritten + (length ph.full + 0) ≡ length (pend m l.number es ++ [])
      start_length ph es s =
          sym
          (ap length (append-nil (pend m l.number es) ∙ pend_own m l.number es ∙ ap (pend m l.number) s.entries
          ∙ pend_append m l.number (waiting m s.opens) (known m s.fulls))
          ∙ length-append (pend m l.number (known m s.fulls)) (pend m l.number (waiting m s.opens))
          ∙ ap₂ (λ i j. i + j) (known_length m l.number s.fulls ∙ ap length s.at_full) (pend_length m l.number s.opens ∙ ap length s.at_open)
          ∙ turn (length ph.full) (length ph.unwritten))
        where
          turn : (i j : ℕ) → i + j ≡ j + (i + 0)
          turn i j = omega arith

  -- the statements of its path reserve a memory for writing no more often than those of any path
  pub all_few : (m n : ℕ) → ((path : List ℕ) → write_reserves m (onpath path p.stmts) ≤ n)
      → write_reserves m (passed p sound st d bits arrays older l k) + write_reserves m (mine p sound st d bits arrays older l k) ≤ n
  all_few m n each =
      let few = each way in
      let all = ap (write_reserves m) (whole p sound st d bits arrays older l k) in
      let first = reserves_append m done (mine_here ++ rest p sound st d bits arrays older l k) in
      let second = reserves_append m mine_here (rest p sound st d bits arrays older l k) in
      omega (arith, few, all, first, second)

  -- what its stage reserves are the reservations of its statements there
  pub reserved_here : (m : ℕ) → reserves_of m (deeds_of p st bits l).reserves ≡ 0 + write_reserves m (mine p sound st d bits arrays older l k)
  reserved_here m =
      ap (λ (e : Deeds). reserves_of m e.reserves) did_is
      ∙ reserved_all m way (word_for st l.number) (in_stage l.thread.stage p.stmts) (begun p sound st d bits arrays older l k)
      (along_here p sound st d bits arrays older l k)

  -- so the thread reserves no more
  pub few_reserves : (m n : ℕ) → ((path : List ℕ) → write_reserves m (onpath path p.stmts) ≤ n) → reserves_of m (deeds_of p st bits l).reserves ≤ n
  few_reserves m n each = let all = all_few m n each in let here = reserved_here m in omega (arith, all, here)

  -- and releases no more
  pub few_releases : (m n : ℕ) → ((path : List ℕ) → write_reserves m (onpath path p.stmts) ≤ n) → releases_of m (deeds_of p st bits l).releases ≤ n
  few_releases m n each =
      let all = all_few m n each in
      let gone = (used_here m).short in
      let more = gone_few (phase_all m (phase_all m Fresh done) mine_here) in
      let second = total_all m (phase_all m Fresh done) mine_here (mine_uses p sound st d bits arrays older l k m) in
      let first = total_all m Fresh done (passed_uses p sound st d bits arrays older l k m) in
      low_of (write_reserves m done) (write_reserves m mine_here) (total (phase_all m Fresh done))
      (total (phase_all m (phase_all m Fresh done) mine_here)) (length (phase_all m (phase_all m Fresh done) mine_here).gone)
      (releases_of m (deeds_of p st bits l).releases) first second more gone all
    where
      low_of : (i j a b g r : ℕ) → a ≡ 0 + i → b ≡ a + j → g ≤ b → r ≤ g → i + j ≤ n → r ≤ n
      low_of i j a b g r e f h k l = omega (arith, e, f, h, k, l)

  -- a thread writes no later than the releases
  pub writes_early : Strict p → (m : ℕ) → writes_to m (deeds_of p st bits l).writes ≡ true → l.thread.stage ≤ commit_stage p m
  writes_early strict m w =
      timely_to p l.thread.stage (word_for st l.number) way m (deeds_of p st bits l).writes
      (subst (λ (e : Deeds). list_all (λ (w : Written). nat_le l.thread.stage (commit_stage p w.mem)) e.writes ≡ true) (sym did_is)
      (timely p l.thread.stage (word_for st l.number) way (in_stage l.thread.stage p.stmts)
      (begun p sound st d bits arrays older l k) (in_stage_all l.thread.stage p.stmts)
      (along_here p sound st d bits arrays older l k)
      (mine_early p sound st d bits arrays older l k strict) refl)) w

  -- what it holds as it leaves for a stage is told by the values with which it leaves
  pub held_on : (q : ℕ) → is_stage q (next_stage p l.thread.stage (deeds_of p st bits l)) ≡ true
      → (deeds_of p st bits l).held ≡ held_before q (deeds_of p st bits l).env p.stmts []
  held_on q e =
      at (goes_to (stage_at p l.thread.stage).next (work_of_live p d bits older l).env) refl
      (ap (λ (env : List ℕ). is_stage q (goes_to (stage_at p l.thread.stage).next env)) env_is ∙ e)
    where
      env_is : (work_of_live p d bits older l).env ≡ (deeds_of p st bits l).env
      env_is = ap (λ (w : Work). w.env) (like_here p (sound_flows p sound) st d bits arrays older l k).is

      at : (r : Option ℕ) → goes_to (stage_at p l.thread.stage).next (work_of_live p d bits older l).env ≡ r → is_stage q r ≡ true
          → (deeds_of p st bits l).held ≡ held_before q (deeds_of p st bits l).env p.stmts []
      at None f g = absurd (false≢true g)
      at (Some r) f g =
          let next =
          keeps_next p (sound_flows p sound) l.env (now_of p d bits l) keeps o (word_for st l.number)
          (λ b. block_ready p st l.number b)
          (λ q. port_free p d bits (dacts p d bits older) q.mem) (fit_all p (sound_flows p sound) st d bits arrays older l k) r f in
          sym (like_here p (sound_flows p sound) st d bits arrays older l k).held ∙ next.held
          ∙ ap₂ (λ s env. held_before s env p.stmts []) (eqb-true r q g) env_is
