-- The ports of delayed memories at the start and from cycle to cycle, by their signals.
use Rattle.std.proofs.Common.{◌≡◌, refl, sym, ap, ap₂, ◌∙◌, subst, ℕ, zero, suc, ◌<◌, ◌⊎◌, inl, inr, Bool, true, false, ◌&&◌, ◌||◌, not, List, [], ◌∷◌, length, map, Option, Some, None, arith, ◌==◌, eq-eqb}
use Rattle.std.specs.Prelude.{if◌then◌else◌, slice_index}
use Rattle.pdl_word.specs.Words.{bit}
use Rattle.pdl_semantics.specs.Flat.{Arrays, Next, Ends, Goes, Forks, Pipe}
use Rattle.pdl_semantics.specs.Stages.{stage_at}
use Rattle.pdl_semantics.specs.Machine.{Ask, Thread, State as MachineState, deeds}
use Rattle.pdl_semantics.specs.Cycle.{first, cycle, squasher, is_kept, address_of}
use Rattle.pdl_net.specs.declared.Reg.{Reg}
use Rattle.pdl_net.specs.Circuit.{Circuit, State}
use Rattle.pdl_net.specs.Signal.{Signal, mux_signal}
use Rattle.pdl_net.specs.Cycle.{next_regs, next_arrays}
use Rattle.pdl_lockapi.specs.Laws.{IsNext}
use Rattle.pdl_lockapi.proofs.NextState.{is_next, is_reset}
use Rattle.pdl_machine_facts.specs.Slots.{LeadsOn, slot, here, stage_moves, moving}
use Rattle.pdl_machine_facts.specs.Cycle.{IsByStages}
use Rattle.pdl_machine_facts.proofs.Requests.{none_requested}
use Rattle.pdl_port.specs.Port.{PortAct, Idle, step}
use Rattle.pdl_port.specs.Laws.{Drives}
use Rattle.pdl_law_parts.specs.Lives.{forks_by}
use Rattle.pdl_law_parts.specs.Walk as walk
use Rattle.pdl_law_parts.specs.Walk.{Walk, one, zero_bit, both, is_on}
use Rattle.pdl_law_parts.specs.Advice.{IsAdvisedApart}
use Rattle.pdl_law_parts.specs.Views.{View, Gates}
use Rattle.pdl_law_parts.specs.Stands.{IsSeen, asked_in}
use Rattle.pdl_law_parts.proofs.Signals.{mux_by, both_at, one_is, zero_is}
use Rattle.pdl_law_parts.proofs.LockPorts.{both_is, moves_or_not}
use Rattle.pdl_law_parts.proofs.Moves.{fork_value, ready_of}
use Rattle.pdl_machine_inflight.specs.Readings.{Reading, reading, places_of, places, place_at, place_to, Reads}
use Rattle.pdl_machine_inflight.specs.InFlight.{InFlight}
use Rattle.pdl_law_sides.specs.Sides.{Sides, asks_memory, asked_address, goes_to_place, asked_into, port_step}
use Rattle.pdl_law_sides.specs.HasSides.{HasOwn, HasPort}
use Rattle.pdl_law_follows.proofs.WaitingPorts.{SameRequest, asks_of, asked_at, port_act}
use Rattle.pdl_law_follows.proofs.WaitingStep.{proper_port, same_next}
use Rattle.pdl_law_follows.proofs.PortSides.{PortStands, IsGiven}

-- SIGNALS

-- whether a thread moves that asks a memory
pub asks_value : (s : State) (m : ℕ) (moves : Signal) (g : Bool)
    → moves.value s ≡ bit g → (qs : List walk.Ask)
    → (asks_memory m moves qs).value s ≡ bit (g && asks_of m (asked_in s qs))
asks_value s m moves g e [] = zero_is s ∙ at g
  where
    at : (b : Bool) → 0 ≡ bit (b && false)
    at true = refl
    at false = refl
asks_value s m moves g e (q ∷ qs) = at (q.mem == m) refl (asks_value s m moves g e qs)
  where
    rest : Signal
    rest = asks_memory m moves qs

    at : (b : Bool) → (q.mem == m) ≡ b → (asks_memory m moves qs).value s ≡ bit (g && asks_of m (asked_in s qs))
        → (if b then mux_signal (both moves q.on) one (asks_memory m moves qs) else asks_memory m moves qs).value s
        ≡ bit (g && asks_of m (if is_on q.on s then record { mem = q.mem; var = q.var; address = q.addr.value s } ∷ asked_in s qs else asked_in s qs))
    at false f h = h ∙ ap bit (ap (λ b. g && b) (by (is_on q.on s)))
      where
        by : (c : Bool)
            → asks_of m (asked_in s qs) ≡ asks_of m (if c then record { mem = q.mem; var = q.var; address = q.addr.value s } ∷ asked_in s qs else asked_in s qs)
        by true = sym (ap (λ b. b || asks_of m (asked_in s qs)) f)
        by false = refl
    at true f h =
        mux_by s (both moves q.on) one (asks_memory m moves qs)
        ∙ ap₂ (λ b n. if b then n else (asks_memory m moves qs).value s) (both_is s moves q.on g e) (one_is s)
        ∙ ap (λ n. if g && is_on q.on s then 1 else n) h
        ∙ by g (is_on q.on s)
      where
        by : (b d : Bool)
            → (if b && d then 1 else bit (b && asks_of m (asked_in s qs)))
            ≡ bit (b && asks_of m (if d then record { mem = q.mem; var = q.var; address = q.addr.value s } ∷ asked_in s qs else asked_in s qs))
        by true true = sym (ap (λ c. bit (c || asks_of m (asked_in s qs))) f)
        by true false = refl
        by false d = refl

-- the address of a request, 0 where there is none
abbrev pub address_or : Option ℕ → ℕ
address_or None = 0
address_or (Some a) = a

-- the address that a stage asks of a memory is its thread's, 0 where that asks nothing or doesn't move
pub address_value : (s : State) (m : ℕ) (moves : Signal) (g : Bool)
    → moves.value s ≡ bit g → (qs : List walk.Ask)
    → (asked_address m moves qs).value s ≡ (if g then address_or (address_of m (asked_in s qs) None) else 0)
address_value s m moves g e [] = zero_is s ∙ at 0 g
  where
    at : (n : ℕ) (b : Bool) → n ≡ (if b then n else n)
    at n true = refl
    at n false = refl
address_value s m moves g e (q ∷ qs) = at (q.mem == m) refl (address_value s m moves g e qs)
  where
    at : (b : Bool) → (q.mem == m) ≡ b → (asked_address m moves qs).value s ≡ (if g then address_or (address_of m (asked_in s qs) None) else 0)
        → (if b then mux_signal (both moves q.on) q.addr (asked_address m moves qs) else asked_address m moves qs).value s
        ≡ (if g
        then address_or
        (address_of m (if is_on q.on s then record { mem = q.mem; var = q.var; address = q.addr.value s } ∷ asked_in s qs else asked_in s qs) None)
        else 0)
    at false f h = h ∙ ap (λ n. if g then n else 0) (by (is_on q.on s))
      where
        by : (c : Bool)
            → address_or (address_of m (asked_in s qs) None)
            ≡ address_or (address_of m (if c then record { mem = q.mem; var = q.var; address = q.addr.value s } ∷ asked_in s qs else asked_in s qs) None)
        by true = sym (ap (λ b. address_or (if b then Some (q.addr.value s) else address_of m (asked_in s qs) None)) f)
        by false = refl
    at true f h =
        mux_by s (both moves q.on) q.addr (asked_address m moves qs)
        ∙ ap (λ b. if b then q.addr.value s else (asked_address m moves qs).value s) (both_is s moves q.on g e)
        ∙ ap (λ n. if g && is_on q.on s then q.addr.value s else n) h
        ∙ by g (is_on q.on s)
      where
        by : (b d : Bool)
            → (if b && d then q.addr.value s else (if b then address_or (address_of m (asked_in s qs) None) else 0))
            ≡ (if b
            then address_or (address_of m (if d then record { mem = q.mem; var = q.var; address = q.addr.value s } ∷ asked_in s qs else asked_in s qs) None)
            else 0)
        by true true = sym (ap (λ c. address_or (if c then Some (q.addr.value s) else address_of m (asked_in s qs) None)) f)
        by true false = refl
        by false d = refl

-- the place to which a thread goes
pub place_value : (s : State) (n : Next) (i : ℕ) (w : Walk) (env : List ℕ)
    → i < length (places_of n) → ((x : ℕ) → forks_by n x ≡ true → slice_index env x ≡ (w.vars x).value s)
    → (goes_to_place n i w).value s ≡ bit (place_to n env == i)
place_value s Ends i w env l h = absurd (omega (arith, l))
place_value s (Goes to) zero w env l h = one_is s
place_value s (Goes to) (suc i) w env l h = absurd (omega (arith, l))
place_value s (Forks x a b) zero w env l h =
    mux_by s (w.vars x) one zero_bit ∙ ap₂ (λ m n. if (w.vars x).value s == 1 then m else n) (one_is s) (zero_is s)
    ∙ ap (λ v. if v == 1 then 1 else 0) (sym (h x (eq-eqb x x refl))) ∙ at (slice_index env x == 1)
  where
    at : (b : Bool) → (if b then 1 else 0) ≡ bit ((if b then 0 else 1) == 0)
    at true = refl
    at false = refl
place_value s (Forks x a b) (suc zero) w env l h =
    mux_by s (w.vars x) zero_bit one ∙ ap₂ (λ m n. if (w.vars x).value s == 1 then m else n) (zero_is s) (one_is s)
    ∙ ap (λ v. if v == 1 then 0 else 1) (sym (h x (eq-eqb x x refl))) ∙ at (slice_index env x == 1)
  where
    at : (b : Bool) → (if b then 0 else 1) ≡ bit ((if b then 0 else 1) == 1)
    at true = refl
    at false = refl
place_value s (Forks x a b) (suc (suc i)) w env l h = absurd (omega (arith, l))

-- a next state of a fragment without array
pub own_next : (c : Circuit) (own : Rattle.pdl_net.specs.Growth.Own) (s t : State) → HasOwn c own
    → t.regs ≡ next_regs c s → t.arrays ≡ next_arrays c s → IsNext c own s t
own_next c own s t h regs arrays =
    is_next own c c s t
    (record {
      has_reg = h.regs;
      nexts = λ k lo hi. refl;
      has_array = λ i lo hi. absurd (let z = h.none in omega (arith, lo, hi, z));
      writes = λ i lo hi. refl;
    }) regs arrays

-- AT THE START

-- at the start the port of a delayed memory stands for the machine's first state
pub ports_first : (p : Pipe) (c : Circuit) (vs : ℕ → View) (gates : Gates) (moves : ℕ → Signal) (sides : Sides)
    (own : Rattle.pdl_net.specs.Growth.Own) (m : ℕ) (r : Reading)
    → HasPort p c vs gates moves sides own m r → (image : Arrays) (s : State)
    → s.regs ≡ map (λ (x : Reg). x.reset) c.regs → PortStands p sides s (first p image) m r
ports_first p c vs gates moves sides own m r h image s regs = record {
  state = Idle;
  stands = h.starts.starts s (is_reset c own.from own.to s h.owned.regs regs);
  same = subst (λ q. SameRequest p (first p image) r q Idle) (sym (none_requested 0 m p.mems)) tt;
}

-- FROM CYCLE TO CYCLE

module _ (p : Pipe) (reads : Reads p) (leads : LeadsOn p) (apart : IsAdvisedApart p) (some : 0 < length p.stages) (c : Circuit) (vs : ℕ → View)
    (gates : Gates) (moves : ℕ → Signal) (sides : Sides) (own : Rattle.pdl_net.specs.Growth.Own) (m : ℕ) (r : Reading)
    (is : reading p m ≡ Some r) (r_low : r.stage < length p.stages) (has : HasPort p c vs gates moves sides own m r)
    (s : State) (st : MachineState) (bits : List Bool) (flight : InFlight p st) (flight' : InFlight p (cycle p st bits))
    (by : IsByStages p st bits) (stand : PortStands p sides s st m r) (given : IsGiven p sides s st bits)
    (seen : (j : ℕ) → j < length p.stages → IsSeen p vs moves s st bits j)
    (spared : (k : ℕ) (t : Thread) → here p st bits k ≡ Some t → stage_moves p st bits k ≡ true → is_kept (squasher (moving p st bits)) t.number ≡ true)
    (removed : ℕ → Bool) (kills : (k : ℕ) → k < length p.stages → (gates.kill k).value s ≡ bit (removed k))
    (removes : (k : ℕ) (u : Thread) → slot st k ≡ Some u → removed k ≡ not (is_kept (squasher (moving p st bits)) u.number)) where
  asked_is : (i : ℕ) → i < length (places p r)
      → (asked_into p vs moves m r i).value s ≡ bit (asked_at p st m r (stage_moves p st bits r.stage) (here p st bits r.stage) i)
  asked_is i l = at (moves_or_not p st bits r.stage)
    where
      k : ℕ
      k = r.stage

      Goal : Type 0
      Goal = (asked_into p vs moves m r i).value s ≡ bit (asked_at p st m r (stage_moves p st bits r.stage) (here p st bits r.stage) i)

      at : (stage_moves p st bits r.stage ≡ false) ⊎ ((t : Thread) × (here p st bits r.stage ≡ Some t) × (stage_moves p st bits r.stage ≡ true))
          → (asked_into p vs moves m r i).value s ≡ bit (asked_at p st m r (stage_moves p st bits r.stage) (here p st bits r.stage) i)
      at (inl e) =
          both_at s (asks_memory m (moves r.stage) (vs r.stage).ended.asks) (goes_to_place (stage_at p r.stage).next i (vs r.stage).ended) false false
          (asks_value s m (moves r.stage) false ((seen r.stage r_low).leaves ∙ ap bit e) (vs r.stage).ended.asks) (λ z. absurd (cc z))
          ∙ ap (λ b. bit (asked_at p st m r b (here p st bits r.stage) i)) (sym e)
      at (inr e) =
          let t = e.0 in
          let so = ((seen r.stage r_low).follows t e.1).so (ready_of p st bits r.stage t by r_low e.1 e.2) in
          let d = deeds p st r.stage t in
          both_at s (asks_memory m (moves r.stage) (vs r.stage).ended.asks)
          (goes_to_place (stage_at p r.stage).next i (vs r.stage).ended)
          (asks_of m (asked_in s (vs r.stage).ended.asks)) (place_to (stage_at p r.stage).next d.env == i)
          (asks_value s m (moves r.stage) true ((seen r.stage r_low).leaves ∙ ap bit e.2) (vs r.stage).ended.asks)
          (λ z. place_value s (stage_at p r.stage).next i (vs r.stage).ended d.env l (fork_value p apart r.stage s (vs r.stage).ended d r_low so))
          ∙ ap (λ (qs : List Ask). bit (asks_of m qs && (place_to (stage_at p r.stage).next d.env == i))) (sym so.asks)
          ∙ ap₂ (λ b o. bit (asked_at p st m r b o i)) (sym e.2) (sym e.1)

  place_low : (i : ℕ) → i < length (places p r) → place_at p r i < length p.stages
  place_low i l = (Rattle.pdl_law_follows.proofs.WaitingPorts.place_up p reads leads st bits flight by m r is r_low stand.state stand.same i l).1

  abbrev act : PortAct
  act = port_act p st bits m r (λ i. removed (place_at p r i))

  drives : Drives (length (places p r)) (port_step p vs gates moves sides m r) s (port_act p st bits m r (λ i. removed (place_at p r i)))
  drives = record {
    reply = (given m r is).reply;
    moves = λ i l. (seen (place_at p r i) (place_low i l)).leaves;
    removed = λ i l. kills (place_at p r i) (place_low i l);
    asked = asked_is;
  }

  -- after the cycle the memory's port stands for the machine's next state
  pub ports_next : (t : State) → t.regs ≡ next_regs c s → t.arrays ≡ next_arrays c s → PortStands p sides t (cycle p st bits) m r
  ports_next t regs arrays = record {
    state = step (length (places p r)) stand.state (port_act p st bits m r (λ i. removed (place_at p r i)));
    stands = has.step.next s t stand.state (port_act p st bits m r (λ i. removed (place_at p r i))) stand.stands drives
        (proper_port p reads leads some st bits flight by m r is r_low stand.state stand.same (λ i. removed (place_at p r i)))
        (own_next c own s t has.owned regs arrays);
    same =
        same_next p reads leads some st bits flight by m r is r_low stand.state stand.same flight' spared (λ i. removed (place_at p r i))
        (λ i u l e. removes (place_at p r i) u e);
  }
