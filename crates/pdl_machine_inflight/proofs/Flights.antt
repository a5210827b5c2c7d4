-- What holds of the threads in flight in each state that a run comes to.
use Rattle.std.proofs.Common.{◌≡◌, refl, sym, ap, ◌∙◌, subst, ℕ, inl, inr, Bool, true, false, ◌&&◌, ◌||◌, List, [], ◌∷◌, Some, ◌==◌, nat_lt, ◌++◌}
use Rattle.std.specs.Prelude.{if◌then◌else◌}
use Rattle.std.proofs.lemmas.Bool.{eqb-true, and_parts}
use Rattle.pdl_semantics.specs.Flat.{Arrays, Op, DelayedRead, Stmt, Pipe, all_hold}
use Rattle.pdl_semantics.specs.Stages.{onpath, stage_at}
use Rattle.pdl_semantics.specs.Machine.{Ask, Awaited, Thread, Owned, State, request_of}
use Rattle.pdl_semantics.specs.Cycle.{first, state_after}
use Rattle.pdl_semantics.specs.Sound.{stages_before}
use Rattle.pdl_theory_turns.specs.Facts.{Sound}
use Rattle.pdl_theory_turns.specs.Derived
use Rattle.pdl_theory_turns.specs.Derived.{awaits_mem, asked_at}
use Rattle.pdl_theory_simulation.proofs.Stretches.{AllFetched, on_way}
use Rattle.pdl_theory_simulation.proofs.Seats.{Live, seat}
use Rattle.pdl_theory_simulation.proofs.Choices.{AllOwned, Matched}
use Rattle.pdl_theory_simulation.proofs.Choices
use Rattle.pdl_theory_simulation.proofs.SimulatedStates.{Sim}
use Rattle.pdl_theory_states.specs.Strict.{Strict}
use Rattle.pdl_theory_states.proofs.PastStatements.{AskedBy}
use Rattle.pdl_theory_turns.specs.Simulation.{hints_of}
use Rattle.pdl_theory_states.proofs.UnusedValues.{AnyOp, onto}
use Rattle.pdl_theory_states.proofs.ThreadHistory.{AnyAsk, past_of, any_of}
use Rattle.pdl_theory_states.proofs.ThreadFacts.{Owns, Lasting, Along}
use Rattle.pdl_theory_states.proofs.ReachedStates.{Whole, reached}
use Rattle.pdl_machine_facts.specs.Slots.{slot}
use Rattle.pdl_machine_inflight.specs.Readings.{Reading, reading, IsTheReading, Reads}
use Rattle.pdl_machine_inflight.specs.InFlight.{Some-of, Awaits, IsAwaited, InFlight}
use Rattle.pdl_machine_inflight.proofs.Seats.{Among, each_among, seated_in, seat_of, stage_count, same_stage, number_given, behind_older}
use Rattle.pdl_machine_inflight.proofs.ReadingFacts.{read_in, is_place}
use Rattle.pdl_machine_inflight.proofs.ForkLists.{list_few}
use Rattle.pdl_theory_simulation.proofs.FlowFacts.{Ways}
use Rattle.pdl_theory_simulation.proofs.AcceptedFacts.{sound_flows}
use Rattle.pdl_word.specs.Each.{Each}

-- STATEMENTS

before_each : (P : Stmt → Type 0) (s : ℕ) (xs : List Stmt) → Each P xs → Each P (stages_before s xs)
before_each P s [] h = tt
before_each P s (x ∷ xs) h = at (nat_lt x.stage s) (before_each P s xs h.1)
  where
    at : (b : Bool) → Each P (stages_before s xs) → Each P (if b then x ∷ stages_before s xs else stages_before s xs)
    at true k = (h.0, k)
    at false k = k

path_each : (p : Pipe) (path : List ℕ) (xs : List Stmt) → Each (IsTheReading p) xs → Each (IsTheReading p) (onpath path xs)
path_each p path [] h = tt
path_each p path (x ∷ xs) h = at (all_hold x.guards path) (path_each p path xs h.1)
  where
    at : (b : Bool) → Each (IsTheReading p) (onpath path xs) → Each (IsTheReading p) (if b then record x { guards = [] } ∷ onpath path xs else onpath path xs)
    at true k = (h.0, k)
    at false k = k

-- a delayed read among these is the pipe's
read_among : (p : Pipe) (v m : ℕ) (R : ℕ → Type 0) (Goal : Type 0)
    → ((k : ℕ) → reading p m ≡ Some (record { stage = k; var = v }) → Goal) → (xs : List Stmt) (past : List Op)
    → Each (IsTheReading p) xs → (AnyOp (λ op. (a : ℕ) × (op ≡ DelayedRead v m a) × R a) past → Goal)
    → AnyOp (λ op. (a : ℕ) × (op ≡ DelayedRead v m a) × R a) (onto xs past) → Goal
read_among p v m R Goal found [] past h rest i = rest i
read_among p v m R Goal found (x ∷ xs) past h rest i = read_among p v m R Goal found xs (x.op ∷ past) h.1 at i
  where
    P : Op → Type 0
    P op = (a : ℕ) × (op ≡ DelayedRead v m a) × R a

    at : AnyOp (λ op. (a : ℕ) × (op ≡ DelayedRead v m a) × R a) (x.op ∷ past) → Goal
    at (inl e) = found x.stage (subst (λ op. IsTheReading p (record x { op = op })) e.1 h.0)
    at (inr e) = rest e

module _ (p : Pipe) (ways : Ways p) (reads : Reads p) (st : State) (d : Derived.State) (ls : List Live) (sim : Sim p st d ls) (whole : Whole p st ls) where
  lasting_of : (l : Live) (ks : List Live) → Along (Lasting p st) ks → Among l ks → (older : List Live) × Lasting p st l older
  lasting_of l [] h i = absurd i
  lasting_of l (k ∷ ks) h (inl e) = (ks, subst (λ (j : Live). Lasting p st j ks) e h.0)
  lasting_of l (k ∷ ks) h (inr i) = lasting_of l ks h.1 i

  -- the variable of an awaited read is that of its memory's delayed read
  var_of : (l : Live) (older : List Live) → (x : Lasting p st l older) → (r : Awaited)
      → AnyAsk (λ q. (q.var ≡ r.var) × (q.mem ≡ r.mem) × (request_of st r.mem ≡ Owned l.number q.address)) x.local.asks
      → (k : ℕ) × (reading p r.mem ≡ Some (record { stage = k; var = r.var }))
  var_of l older x r h =
      let a =
      any_of (AskedBy l.env (past_of p l.env l.thread.stage))
      (λ q. (q.var ≡ r.var) × (q.mem ≡ r.mem) × (request_of st r.mem ≡ Owned l.number q.address)) x.local.asks x.local.asked h in
      let q : Ask = a.0 in
      let e : q.var ≡ r.var = a.2.0 in
      let f : q.mem ≡ r.mem = a.2.1 in
      read_among p q.var q.mem (λ b. Rattle.std.specs.Prelude.slice_index l.env b ≡ q.address)
      ((k : ℕ) × (reading p r.mem ≡ Some (record { stage = k; var = r.var })))
      (λ k g. (k, subst (λ m. reading p m ≡ Some (record { stage = k; var = r.var })) f (g ∙ ap (λ v. Some (record { stage = k; var = v })) e)))
      (on_way p l.env l.thread.stage) []
      (path_each p l.env (stages_before l.thread.stage p.stmts) (before_each (IsTheReading p) l.thread.stage p.stmts reads.one))
      (λ i. absurd i) a.1

  awaited_each : (l : Live) (older : List Live) → (x : Lasting p st l older) → (rs : List Awaited)
      → AllFetched p l.thread.stage rs → AllOwned st l.number rs → Owns st l.number x.local.asks rs
      → Each (IsAwaited p st l.thread.stage l.number) rs
  awaited_each l older x [] f o w = tt
  awaited_each l older x (r ∷ rs) f o w =
      let found = read_in p f.0.0 r.mem p.stmts reads.one f.0.2 in
      let var = var_of l older x r w.0 in
      let same : record { stage = f.0.0; var = found.0 } ≡ record { stage = var.0; var = r.var } = some_is (sym found.1 ∙ var.1) in (
        record {
          address = o.0.0;
          owned = o.0.1;
          read = record { stage = f.0.0; var = found.0 };
          is = found.1;
          var = ap (λ (y : Reading). y.var) same;
          place = is_place (stage_at p f.0.0).next l.thread.stage f.0.1.0 f.0.1.1;
        },
        awaited_each l older x rs f.1 o.1 w.1,
      )
    where
      some_is : {a b : Reading} → Some a ≡ Some b → a ≡ b
      some_is e = cc e

  awaited_here : (k : ℕ) (t : Thread) → slot st k ≡ Some t → Each (IsAwaited p st k t.number) t.awaits
  awaited_here k t e =
      let a = seated_in p st d ls sim k t e in
      let l : Live = a.0 in
      let s = each_among _ l ls sim.seated a.1 in
      let x = lasting_of l ls whole.along a.1 in
      let h = awaited_each l x.0 x.1 l.thread.awaits s.keeps_on.fetched s.owned x.1.owns in
      subst (λ j. Each (IsAwaited p st j t.number) t.awaits) a.2 (subst (λ (u : Thread). Each (IsAwaited p st l.thread.stage u.number) u.awaits) a.3 h)

  -- REQUESTS

  awaits_some : (m : ℕ) (rs : List Awaited) → awaits_mem rs m ≡ true → Some-of (λ (r : Awaited). r.mem ≡ m) rs
  awaits_some m [] h = absurd (cc h)
  awaits_some m (r ∷ rs) h = at (r.mem == m) refl h (awaits_some m rs)
    where
      at : (b : Bool) → (r.mem == m) ≡ b → (b || awaits_mem rs m) ≡ true
          → (awaits_mem rs m ≡ true → Some-of (λ (x : Awaited). x.mem ≡ m) rs)
          → Some-of (λ (x : Awaited). x.mem ≡ m) (r ∷ rs)
      at true e f rest = inl (eqb-true r.mem m e)
      at false e f rest = inr (rest f)

  owner_among : (n m : ℕ) (ks : List Live) → Choices.has_owner n m ks ≡ true → (l : Live) × Among l ks × (l.number ≡ n) × (awaits_mem l.thread.awaits m ≡ true)
  owner_among n m [] h = absurd (cc h)
  owner_among n m (k ∷ ks) h = at ((k.number == n) && awaits_mem k.thread.awaits m) refl h (owner_among n m ks)
    where
      at : (b : Bool) → ((k.number == n) && awaits_mem k.thread.awaits m) ≡ b → (b || Choices.has_owner n m ks) ≡ true
          → (Choices.has_owner n m ks ≡ true → (l : Live) × Among l ks × (l.number ≡ n) × (awaits_mem l.thread.awaits m ≡ true))
          → (l : Live) × Among l (k ∷ ks) × (l.number ≡ n) × (awaits_mem l.thread.awaits m ≡ true)
      at true e f rest = let z = and_parts (k.number == n) (awaits_mem k.thread.awaits m) e in (k, inl refl, eqb-true k.number n z.0, z.1)
      at false e f rest = let r = rest f in (r.0, inr r.1, r.2, r.3)

  owner_here : (m n a : ℕ) → request_of st m ≡ Owned n a → (k : ℕ) × (t : Thread) × (slot st k ≡ Some t) × (t.number ≡ n) × Awaits t m
  owner_here m n a e =
      let h = (subst (λ q. Matched q (asked_at d m) m ls) e (sim.matched m)).1 in
      let l = owner_among n m ls h in
      (l.0.thread.stage, seat l.0, seat_of p st d ls sim l.0 l.1, l.2, awaits_some m l.0.thread.awaits l.3)

  -- a state that goes with these live threads has all that holds of threads in flight
  pub in_flight : InFlight p st
  in_flight = record {
    count = stage_count p st d ls sim;
    same = same_stage p st d ls sim;
    given = number_given p st d ls sim;
    behind = behind_older p st d ls sim;
    awaited = awaited_here;
    owner = owner_here;
    listed = sim.requests;
    forked = list_few p ways st d ls sim;
  }

-- in each state of a run all holds that holds of threads in flight
pub flights : (p : Pipe) → Sound p → Strict p → Reads p → (image : Arrays) (before : List (List Bool))
    → InFlight p (state_after p (first p image) before)
flights p sound strict reads image before =
    let r = reached p sound strict image before [] in
    in_flight p (sound_flows p sound).graph reads (state_after p (first p image) before)
    (Derived.state_after p (Derived.first p image (hints_of p (first p image) (before ++ []))) before) r.live r.sim r.whole
