-- The live threads in the whole language: each on its turn, in a stage of its path, with the answers that it still awaits.
use Rattle.std.proofs.Common.{◌≡◌, sym, ap, ap₂, ◌∙◌, ℕ, ◌≤◌, ◌<◌, ◌⊎◌, inl, Bool, true, false, not, List, [], ◌∷◌, ◌++◌, length, Option, Some, None, is_some, nat_lt, if◌then◌else◌, arith, refl}
use Rattle.pdl_semantics.specs.Flat.{Arrays, Array, Pipe, of_mem, word_at}
use Rattle.pdl_semantics.specs.Stages.{mem_at, commit_stage, reserve_stage}
use Rattle.pdl_semantics.specs.Locks.{Nothing, value_or, read_ready}
use Rattle.pdl_semantics.specs.Machine.{Ask}
use Rattle.pdl_semantics.specs.Cycle.{awaited_of}
use Rattle.pdl_semantics.specs.Moves.{is_empty}
use Rattle.pdl_semantics.specs.Sequential.{thread}
use Rattle.pdl_semantics.specs.Promises.{wrote, row}
use Rattle.pdl_semantics.proofs.Readiness.{plain_ready, exact_none}
use Rattle.pdl_theory_turns.specs.Derived.{Hint, Thread, State, Act, around, latest, befores, answered_thread, with_answers}
use Rattle.pdl_theory_turns.specs.Alone.{World, so_far, thread_at}
use Rattle.pdl_theory_turns.proofs.Writes.{wrote_append}
use Rattle.pdl_theory_turns.specs.Scans.{is_plain}
use Rattle.pdl_theory_turns.proofs.Marks.{seen, strips, Later, ready_value}
use Rattle.pdl_theory_turns.proofs.UndoneWrites.{marks}
use Rattle.pdl_theory_turns.proofs.Surroundings.{Surrounds, Right}
use Rattle.pdl_theory_turns.proofs.TurnFacts.{Below, blocked_at, right_guess, next_of}
use Rattle.pdl_theory_turns.proofs.Lives.{Writes, Marks, Clean, RowsAt, nobody}
use Rattle.pdl_theory_turns.proofs.Courses.{Course}
use Rattle.pdl_theory_turns.specs.Facts.{is_exact}
use Rattle.pdl_theory.proofs.Unsure.{Unsure}
use Rattle.pdl_theory_turns.proofs.ThreadOrder.{Under, AllUnder, Moves, all_low}
use Rattle.pdl_theory_turns.proofs.DelayedReads.{caught, still_asks, still_awaited, none_awaited, Apart, AllAsks, all_more, all_both, Out, RightWord, answers_caught}

-- where a thread stands, its values, and the requests whose answers it awaits
pub record Spot : Type 0 where
  pub stage : ℕ
  pub hint : Hint
  pub env : List ℕ
  pub asks : List Ask

-- the arrays with which a turn begins, and what its thread guesses
abbrev pub with_hint : Arrays → Hint → World
with_hint arrays g = record { words = arrays; hint = g }

-- the thread of a turn on a spot
abbrev pub seat : Pipe → World → List ℕ → Spot → Thread
seat p world args sp =
    record {
      stage = sp.stage;
      hint = world.hint;
      env = sp.env;
      entries = (so_far p world args sp.stage).entries;
      guess = (so_far p world args sp.stage).guess;
      awaits = awaited_of sp.asks;
    }

-- the threads of the turns that begin with these world and arguments, on these spots
abbrev pub seats : Pipe → Arrays → List ℕ → List Spot → List Thread
seats p arrays args [] = []
seats p arrays args (sp ∷ sps) = seat p (with_hint arrays sp.hint) args sp ∷ seats p (thread p arrays args).arrays (thread p arrays args).next sps

-- without those that are past the last stage
abbrev pub shown : Pipe → Arrays → List ℕ → List Spot → List Thread
shown p arrays args [] = []
shown p arrays args (sp ∷ sps) =
    (if nat_lt sp.stage (length p.stages) then seat p (with_hint arrays sp.hint) args sp ∷ [] else [])
    ++ shown p (thread p arrays args).arrays (thread p arrays args).next sps

-- whether there is no spot
abbrev pub is_nil : List Spot → Bool
is_nil [] = true
is_nil (sp ∷ sps) = false

-- a spot with the answers of this cycle
abbrev pub now_spot : Pipe → State → List Bool → Spot → Spot
now_spot p st bits sp = record { stage = sp.stage; hint = sp.hint; env = with_answers p st bits (awaited_of sp.asks) sp.env; asks = still_asks p bits sp.asks }

-- the thread of a turn on a spot, with this cycle's answers, is its thread on the spot with them
pub now_seat : (p : Pipe) (st : State) (bits : List Bool) (world : World) (args : List ℕ) (sp : Spot)
    → answered_thread p st bits (seat p world args sp) ≡ seat p world args (now_spot p st bits sp)
now_seat p st bits world args sp =
    ap (λ l. record {
      stage = sp.stage;
      hint = world.hint;
      env = with_answers p st bits (awaited_of sp.asks) sp.env;
      entries = (so_far p world args sp.stage).entries;
      guess = (so_far p world args sp.stage).guess;
      awaits = l;
    }) (still_awaited p bits sp.asks)

-- a request of a thread in stage s that will have a right answer: a ready read at its address stays ready, and it was made in the stage before
pub record Sure (p : Pipe) (acc : Course p) (v : Marks) (s : ℕ) (q : Ask) : Type 0 where
  pub clean : Clean p v q.mem q.address
  pub early : s ≤ commit_stage p q.mem
  pub exact : is_exact (mem_at p q.mem).lock ≡ true
  pub low : acc.fetch q.mem < length p.stages
  pub env : List ℕ
  pub next : s ≡ next_of p (acc.fetch q.mem) env

-- with the answers that it awaits a thread will have its turn's values
pub record Waits (p : Pipe) (acc : Course p) (asked : List (Option ℕ)) (v : Marks) (world : World) (args : List ℕ) (sp : Spot) : Type 0 where
  pub gets : caught world.words sp.asks sp.env ≡ (so_far p world args sp.stage).env
  pub apart : Apart sp.asks
  pub out : AllAsks (Out asked) sp.asks
  pub sure : AllAsks (Sure p acc v sp.stage) sp.asks

-- the thread of a turn on a spot, behind older ones in these stages, of which it has passed no barrier while the next one isn't sure: w has the sequential writes before the turn, past the commits so far, v the older threads' undone writes
pub record Here (p : Pipe) (acc : Course p) (asked : List (Option ℕ)) (past w : Writes) (v : Marks) (world : World)
    (args : List ℕ) (ahead : List ℕ) (sp : Spot) (last : Bool) : Type 0 where
  pub under : AllUnder p ahead sp.stage
  pub on : acc.on world args sp.stage
  pub words : (m : ℕ) → (sp.stage ≤ commit_stage p m) ⊎ Unsure p acc.v ahead → w m ≡ past m ++ strips m (v m)
  pub clean : Right p sp.stage (Clean p v) (blocked_at p world args sp.stage) (so_far p world args sp.stage).env
  pub linked : right_guess (so_far p world args sp.stage).child (thread p world.words args).next ≡ not last
  pub waits : Waits p acc asked v world args sp
  pub calm : Unsure p acc.v ahead → acc.stray (seat p world args sp)

-- each spot is as `Here` says, and the commits with all undone writes are the writes of the turns
abbrev pub Standing : (p : Pipe) → Course p → List (Option ℕ) → Writes → Writes → Marks → Arrays → List ℕ → List ℕ → List Spot → Type 0
Standing p acc asked past w v arrays args ahead [] = (m : ℕ) → w m ≡ past m ++ strips m (v m)
Standing p acc asked past w v arrays args ahead (sp ∷ sps) =
    Here p acc asked past w v (with_hint arrays sp.hint) args ahead sp (is_nil sps)
    × Standing p acc asked past (λ m. w m ++ of_mem m (thread p arrays args).writes)
    (λ m. v m ++ marks p (with_hint arrays sp.hint) args sp.stage m)
    (thread p arrays args).arrays (thread p arrays args).next (sp.stage ∷ ahead) sps

-- what is known of the older threads: v is what they have undone at the start, d what they commit, v' what they have undone at the end, and what they ask for
pub record Behind (p : Pipe) (acc : Course p) (older : List Act) (v v' : Marks) (d : Writes) (asks : ℕ → Option ℕ) (ahead ahead' : List ℕ) : Type 0 where
  pub fits : (m a r : ℕ) → AllUnder p ahead r → reserve_stage p m ≤ r → latest (befores older) m a ≡ seen a (v m) Nothing
  pub split : (m : ℕ) → Later m (v m) (d m) (v' m)
  pub gone : (m r : ℕ) → AllUnder p ahead r → commit_stage p m ≤ r → v m ≡ []
  pub plain : (m : ℕ) → is_plain (mem_at p m).lock ≡ true → v m ≡ []
  pub moves : Moves p older ahead ahead'
  pub asked : (m r : ℕ) → AllUnder p ahead r → is_some (asks m) ≡ true → Under p (acc.fetch m) r

-- a read of a memory without lock is ready
pub plain_clean : (p : Pipe) (v : Marks) (m a : ℕ) → is_plain (mem_at p m).lock ≡ true → Clean p v m a
plain_clean p v m a h = plain_ready (mem_at p m).lock _ h

module _ (p : Pipe) (acc : Course p) (image : Arrays) (st : State) (past : Writes) (rows : RowsAt image past st.arrays) where
  -- where a read at an address is ready, the word that it finds is the turn's
  found_right : (older : List Act) (v v' : Marks) (d w : Writes) (asks : ℕ → Option ℕ) (world : World) (args : List ℕ)
      (ahead ahead' : List ℕ) (sp : Spot) (last : Bool)
      → RowsAt image w world.words → Behind p acc older v v' d asks ahead ahead'
      → Here p acc st.asked past w v world args ahead sp last
      → (m a : ℕ) → sp.stage ≤ commit_stage p m → Clean p v m a → value_or (seen a (v m) Nothing) (word_at st.arrays m a) ≡ word_at world.words m a
  found_right older v v' d w asks world args ahead ahead' sp last rows' b h m a c k =
      ready_value m a (mem_at p m).lock (v m) (row st.arrays m) (b.plain m) k
      ∙ ap (λ (l : Array). l a)
      (ap (λ l. wrote l (strips m (v m))) (rows m) ∙ sym (wrote_append (past m) (strips m (v m)) (row image m))
      ∙ ap (wrote (row image m)) (sym (h.words m (inl c))) ∙ sym (rows' m))

  -- the surroundings of a thread are right for its turn
  pub surrounds : (bits : List Bool) (older : List Act) (v v' : Marks) (d w : Writes) (asks : ℕ → Option ℕ)
      (world : World) (args : List ℕ) (ahead ahead' : List ℕ) (sp : Spot) (last : Bool)
      → RowsAt image w world.words → Behind p acc older v v' d asks ahead ahead'
      → Here p acc st.asked past w v world args ahead sp last
      → Surrounds p (around p st bits older sp.stage world.hint) world sp.stage (Clean p v)
  surrounds bits older v v' d w asks world args ahead ahead' sp last rows' b h =
      record {
        guess = refl;
        update = refl;
        plain = λ m a k. right m a (early m k) (late m k) (plain_ready (mem_at p m).lock _ k);
        readable = λ m a f c r. ap (read_ready (mem_at p m).lock) (sym (b.fits m a sp.stage h.under f)) ∙ r;
        right = right;
      }
    where
      low : sp.stage < length p.stages
      low = all_low p acc.graph acc.branches older ahead ahead' sp.stage b.moves h.under

      early : (m : ℕ) → is_plain (mem_at p m).lock ≡ true → reserve_stage p m ≤ sp.stage
      early m k = let e : reserve_stage p m ≡ 0 = acc.plain_from m k in omega arith

      late : (m : ℕ) → is_plain (mem_at p m).lock ≡ true → sp.stage ≤ commit_stage p m
      late m k = let e : commit_stage p m ≡ length p.stages = acc.plain_to m k in let i : sp.stage < length p.stages = low in omega arith

      right : (m a : ℕ) → reserve_stage p m ≤ sp.stage → sp.stage ≤ commit_stage p m → Clean p v m a
          → value_or (latest (befores older) m a) (word_at st.arrays m a) ≡ word_at world.words m a
      right m a f c k =
          ap (λ l. value_or l (word_at st.arrays m a)) (b.fits m a sp.stage h.under f)
          ∙ found_right older v v' d w asks world args ahead ahead' sp last rows' b h m a c k

  -- the words that answer the requests of a thread on its turn are right
  pub words_right : (older : List Act) (v v' : Marks) (d w : Writes) (asks : ℕ → Option ℕ) (world : World)
      (args : List ℕ) (ahead ahead' : List ℕ) (sp : Spot) (last : Bool)
      → RowsAt image w world.words → Behind p acc older v v' d asks ahead ahead'
      → Here p acc st.asked past w v world args ahead sp last
      → AllAsks (RightWord st world.words) sp.asks
  words_right older v v' d w asks world args ahead ahead' sp last rows' b h =
      all_more (λ q. Out st.asked q × Sure p acc v sp.stage q)
      (RightWord st world.words) sp.asks one (all_both (Out st.asked) (Sure p acc v sp.stage) sp.asks h.waits.out h.waits.sure)
    where
      one : (q : Ask) → Out st.asked q × Sure p acc v sp.stage q → RightWord st world.words q
      one q k =
          let none : seen q.address (v q.mem) Nothing ≡ Nothing =
          exact_none (mem_at p q.mem).lock (seen q.address (v q.mem) Nothing) k.1.exact
          (λ e. ap (λ l. seen q.address l Nothing) (b.plain q.mem e)) k.1.clean in (
            k.0,
            ap (λ l. value_or l (word_at st.arrays q.mem q.address)) (sym none)
                ∙ found_right older v v' d w asks world args ahead ahead' sp last rows' b h q.mem q.address k.1.early k.1.clean,
          )

  -- a thread with all answers is on its turn
  pub whole_now : (bits : List Bool) (older : List Act) (v v' : Marks) (d w : Writes) (asks : ℕ → Option ℕ)
      (world : World) (args : List ℕ) (ahead ahead' : List ℕ) (sp : Spot) (last : Bool)
      → RowsAt image w world.words → Behind p acc older v v' d asks ahead ahead'
      → Here p acc st.asked past w v world args ahead sp last
      → is_empty (answered_thread p st bits (seat p world args sp)).awaits ≡ true
      → answered_thread p st bits (seat p world args sp) ≡ thread_at p world args sp.stage
  whole_now bits older v v' d w asks world args ahead ahead' sp last rows' b h e =
      let none : still_asks p bits sp.asks ≡ [] = none_awaited (still_asks p bits sp.asks) (ap is_empty (sym (still_awaited p bits sp.asks)) ∙ e) in
      let right = answers_caught p st bits world.words sp.asks sp.env h.waits.apart
      (words_right older v v' d w asks world args ahead ahead' sp last rows' b h) in
      let env : with_answers p st bits (awaited_of sp.asks) sp.env ≡ (so_far p world args sp.stage).env =
      ap (λ l. caught world.words l (with_answers p st bits (awaited_of sp.asks) sp.env)) (sym none) ∙ right ∙ h.waits.gets in
      now_seat p st bits world args sp
      ∙ ap₂ (λ x l. record {
        stage = sp.stage;
        hint = world.hint;
        env = x;
        entries = (so_far p world args sp.stage).entries;
        guess = (so_far p world args sp.stage).guess;
        awaits = awaited_of l;
      }) env none

-- the threads after a wrong guess, behind this stage: each but the youngest has made its successor
abbrev pub Strays : (p : Pipe) → (Thread → Type 0) → (Thread → Bool) → ℕ → List Thread → Type 0
Strays p stray made bound [] = Unit {0}
Strays p stray made bound (t ∷ ts) = stray t × Below p [] bound t.stage × (made t ≡ not (nobody ts)) × Strays p stray made t.stage ts

-- the threads behind the last one that is on its turn
abbrev pub Last : (p : Pipe) → (Thread → Type 0) → (Thread → Bool) → ℕ → Option (List ℕ) → List Thread → Type 0
Last p stray made s None strays = strays ≡ []
Last p stray made s (Some x) strays = Strays p stray made s strays

-- the threads behind those of these turns are strays, none if the last one has made no successor
abbrev pub Tail : (p : Pipe) → (Thread → Type 0) → (Thread → Bool) → Arrays → List ℕ → List Spot → List Thread → Type 0
Tail p stray made arrays args [] strays = strays ≡ []
Tail p stray made arrays args (sp ∷ []) strays = Last p stray made sp.stage (so_far p (with_hint arrays sp.hint) args sp.stage).child strays
Tail p stray made arrays args (sp ∷ sp' ∷ sps) strays = Tail p stray made (thread p arrays args).arrays (thread p arrays args).next (sp' ∷ sps) strays
