-- Which threads move, by the stated machine and as the program decides it.
use Rattle.std.proofs.Common.{◌≡◌, refl, sym, ap, ap₂, ◌∙◌, subst, ℕ, suc, ◌+◌, ◌<◌, Bool, true, false, ◌&&◌, if◌then◌else◌, List, [], ◌∷◌, ◌++◌, Option, Some, None, drop, length, get_or, set, arith}
use Rattle.std.proofs.lemmas.List.{length-set, drop_more, drop-set-lt, get_or-set_same}
use Rattle.pdl_semantics.specs.Flat.{Pipe}
use Rattle.pdl_semantics.specs.Machine.{Thread, State, Deeds, with_answers, deeds}
use Rattle.pdl_semantics.specs.Moves.{Act, may_move, no_failure, blocks_ready, have_room, is_empty, ports_free, barrier_clear, can_enter, merges_well, next_stage, acts, movers}
use Rattle.pdl_form.specs.Form.{Form}
use Rattle.pdl_machine_run.specs.declared.stage.Stage as r_stage
use Rattle.pdl_machine_run.specs.declared.beside.Beside as r_beside
use Rattle.pdl_machine_run.specs.View.{deeds_view, thread_of, thread_if, thread_in, seats}
use Rattle.pdl_machine_run.specs.Outside.{state_of, outside}
use Rattle.pdl_machine_run.specs.Acts.{act_here, all_of, mover_of, act_of, acts_of, IsCarried, passes_beside, passes_later, goes, AreDecided}

-- A STAGE MORE

-- whether a thread moves doesn't hang on what was decided before
goes_same : (p : Pipe) (b : r_beside.Beside) (bits : List Bool) (k : ℕ) (n : Option ℕ) (x : r_stage.Stage) (m : Bool)
    (later : List r_stage.Stage)
    → goes p b bits k n x later ≡ goes p b bits k n (record x { moves = m }) later
goes_same p b bits k None x m later = refl
goes_same p b bits k (Some n) x m later = refl

module _ (p : Pipe) (b : r_beside.Beside) (bits : List Bool) where
  -- where it is decided who moves in the stages after j, and now in j, it is decided in those from j on
  pub decided_more : (now : List r_stage.Stage) (j k : ℕ) (m : Bool) (d : r_stage.Stage) → j < length now → k ≡ j + 1
      → m ≡ goes p b bits j (get_or now j d).slot.number (get_or now j d) (drop (j + 1) now)
      → AreDecided p b bits k (drop k now) → AreDecided p b bits j (drop j (set now j (record (get_or now j d) { moves = m })))
  decided_more now j k m d less next e rest =
      let y : r_stage.Stage = record (get_or now j d) { moves = m } in
      let long : length (set now j y) ≡ length now = length-set now j y in
      let up : j + 1 ≡ suc j = omega arith in
      let split : drop j (set now j y) ≡ y ∷ drop (j + 1) now =
      drop_more (set now j y) j y (omega (arith, long, less))
      ∙ ap₂ (λ (z : r_stage.Stage) (zs : List r_stage.Stage). z ∷ zs) (get_or-set_same now j y y less) (drop-set-lt (j + 1) now j y (omega arith)) in
      subst (AreDecided p b bits j) (sym split) (
        e ∙ goes_same p b bits j (get_or now j d).slot.number (get_or now j d) m (drop (j + 1) now),
        subst (λ i. AreDecided p b bits i (drop (j + 1) now)) up (subst (λ i. AreDecided p b bits i (drop i now)) next rest),
      )

-- WHO MOVES

reorder : (a b c d e f g h : Bool) → ((b && c) && (d && h)) && (a && (e && (f && g))) ≡ (((((((a && b) && c) && d) && e) && f) && g) && h)
reorder true true true true true true true true = refl
reorder false true true true e f g true = refl
reorder false true true true e f g false = refl
reorder false true true false e f g h = refl
reorder false true false d e f g h = refl
reorder false false c d e f g h = refl
reorder true true true true true true true false = refl
reorder true true true true true true false true = refl
reorder true true true true true true false false = refl
reorder true true true true true false g true = refl
reorder true true true true true false g false = refl
reorder true true true true false f g true = refl
reorder true true true true false f g false = refl
reorder true true true false e f g h = refl
reorder true true false d e f g h = refl
reorder true false c d e f g h = refl

may_move_is : (p : Pipe) (st : State) (bits : List Bool) (later : List Act) (k : ℕ) (t : Thread) (d : Deeds)
    → (passes_beside p st k t d && passes_later p st bits later k d) ≡ may_move p st bits later k t d
may_move_is p st bits later k t d =
    reorder (no_failure later) (blocks_ready p st t.number d) (have_room p st d) (is_empty t.awaits)
    (ports_free p st bits later d) (barrier_clear p later d) (can_enter (next_stage p k d) later)
    (merges_well p st k (next_stage p k d))

-- THE ACTS

module _ (f : Form) (b : r_beside.Beside) (bits : List Bool) (os : List (Option Thread)) (next : ℕ) where
  abbrev st : State
  st = state_of os b next

  act_one : (k : ℕ) (o : Option Thread) (n : Option ℕ) (z : r_stage.Stage) (zs : List r_stage.Stage) (rest : List (Option Thread))
      → z.slot.number ≡ n → IsCarried f b bits k o z → z.moves ≡ goes f.pipe b bits k n z zs
      → all_of (suc k) zs ≡ acts f.pipe st bits (suc k) rest → act_here k n z ++ all_of (suc k) zs ≡ acts f.pipe st bits k (o ∷ rest)
  act_one k None n z zs rest is c m h = ap (λ (o : Option ℕ). act_here k o z ++ all_of (suc k) zs) (sym is ∙ c) ∙ h
  act_one k (Some t) None z zs rest is c m h = absurd (cc (ap (λ (o : Option ℕ). thread_if o z.slot) (sym is) ∙ c.0))
  act_one k (Some t) (Some n) z zs rest is c m h =
      let u : Thread = with_answers f.pipe (outside b) bits t in
      let stands : Some (thread_of n z.slot) ≡ Some u = ap (λ (o : Option ℕ). thread_if o z.slot) (sym is) ∙ c.0 in
      let same : thread_of n z.slot ≡ u = some_same stands in
      let does : deeds_view z.deeds ≡ deeds f.pipe (outside b) k u = c.1 in
      let moves : z.moves ≡ may_move f.pipe st bits (acts f.pipe st bits (suc k) rest) k u (deeds f.pipe (outside b) k u) =
      m ∙ may_move_is f.pipe (outside b) bits (all_of (suc k) zs) k (thread_of n z.slot) (deeds_view z.deeds)
      ∙ ap (λ (ms : List Act). may_move f.pipe (outside b) bits ms k (thread_of n z.slot) (deeds_view z.deeds)) h
      ∙ ap₂ (λ (v : Thread) (d : Deeds). may_move f.pipe (outside b) bits (acts f.pipe st bits (suc k) rest) k v d) same does in
      ap₂ (λ (v : Thread) (d : Deeds). record { stage = k; thread = v; does = d; moves = z.moves } ∷ all_of (suc k) zs) same does
      ∙ ap₂ (λ (c : Bool) (ms : List Act). record { stage = k; thread = u; does = deeds f.pipe (outside b) k u; moves = c } ∷ ms) moves h
    where
      some_same : {a c : Thread} → Some a ≡ Some c → a ≡ c
      some_same e = cc e

  -- the acts of the threads in the stages from k on are those of the stated machine
  pub acts_are : (k : ℕ) (ys zs : List r_stage.Stage) → length ys ≡ length zs
      → ((i : ℕ) (d : r_stage.Stage) → i < length ys → IsCarried f b bits (k + i) (thread_in (get_or ys i d).slot) (get_or zs i d))
      → AreDecided f.pipe b bits k zs → all_of k zs ≡ acts f.pipe st bits k (seats ys)
  acts_are k [] [] n c d = refl
  acts_are k [] (z ∷ zs) n c d = absurd (omega arith)
  acts_are k (y ∷ ys) [] n c d = absurd (omega arith)
  acts_are k (y ∷ ys) (z ∷ zs) n c d =
      let here : k + 0 ≡ k = omega arith in
      act_one k (thread_in y.slot) z.slot.number z zs (seats ys) refl (subst (λ i. IsCarried f b bits i (thread_in y.slot) z) here (c 0 z (omega arith))) d.0
      (acts_are (suc k) ys zs (omega arith)
      (λ i e less. let same : k + suc i ≡ suc k + i = omega arith in
      subst (λ j. IsCarried f b bits j (thread_in (get_or ys i e).slot) (get_or zs i e)) same (c (suc i) e (omega (arith, less)))) d.1)

-- those who move among the acts of the stages from k on are the movers of these stages
pub movers_are : (k : ℕ) (zs : List r_stage.Stage) → movers (all_of k zs) ≡ acts_of k zs
movers_are k [] = refl
movers_are k (z ∷ zs) = at z.moves z.slot.number ∙ ap (λ (ms : List Act). act_of k (mover_of z) z ++ ms) (movers_are (suc k) zs)
  where
    at : (b : Bool) (o : Option ℕ)
        → movers (act_here k o (record z { moves = b }) ++ all_of (suc k) zs) ≡ act_of k (if b then o else None) z ++ movers (all_of (suc k) zs)
    at true None = refl
    at false None = refl
    at true (Some n) = refl
    at false (Some n) = refl
