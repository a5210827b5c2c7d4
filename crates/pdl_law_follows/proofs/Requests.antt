-- The requests that a cycle makes, as the machine shows them and as the netlist does.
use Rattle.std.proofs.Common.{◌≡◌, refl, sym, ap, ap₂, ◌∙◌, ℕ, zero, suc, ◌+◌, ◌≤◌, ◌<◌, ◌⊎◌, inl, inr, Bool, true, false, ◌||◌, List, [], ◌∷◌, ◌++◌, length, Option, Some, None, is_some, arith, ◌==◌}
use Rattle.std.specs.Prelude.{if◌then◌else◌}
use Rattle.std.proofs.lemmas.Bool.{eqb-true, eqb-false}
use Rattle.pdl_word.specs.Words.{bit}
use Rattle.pdl_semantics.specs.Flat.{Pipe}
use Rattle.pdl_semantics.specs.Machine as machine
use Rattle.pdl_semantics.specs.Machine.{Ask, Thread, NoRequest, Owned, Orphan, State as MachineState, request_of, deeds}
use Rattle.pdl_semantics.specs.Moves.{Act}
use Rattle.pdl_semantics.specs.Cycle.{is_kept, asked_of, asked_by, address_of, asked_in, request_left}
use Rattle.pdl_net.specs.Circuit.{Circuit, State}
use Rattle.pdl_net.specs.Signal.{Signal}
use Rattle.pdl_net.specs.Well.{Suits}
use Rattle.pdl_machine_facts.specs.Slots.{here, stage_moves, mover, movers_from, moving}
use Rattle.pdl_machine_facts.specs.Cycle.{IsByStages}
use Rattle.pdl_law_parts.specs.Views.{View}
use Rattle.pdl_law_parts.specs.Stands.{IsSeen}
use Rattle.pdl_law_parts.specs.Stands as stands
use Rattle.pdl_law_parts.proofs.Signals.{zero_is}
use Rattle.pdl_law_parts.proofs.LockPorts.{moves_or_not}
use Rattle.pdl_law_parts.proofs.Moves.{ready_of}
use Rattle.pdl_machine_inflight.specs.Readings.{Reading, reading, Reads}
use Rattle.pdl_machine_inflight.proofs.DeedsIn.{AsksIn, asks_in}
use Rattle.pdl_law_sides.specs.Sides.{Sides}
use Rattle.pdl_law_follows.specs.Outside.{address_asked}
use Rattle.pdl_law_sides.specs.WholeNetlist as whole
use Rattle.pdl_law_sides.specs.WholeNetlist.{IsOutside}
use Rattle.pdl_law_follows.proofs.WaitingPorts.{asks_of}
use Rattle.pdl_law_follows.proofs.PortsNext.{asks_value, address_or, address_value}
use Rattle.pdl_word.specs.Each.{Each}

-- THE ADDRESS ASKED FOR

some_address : (m : ℕ) (qs : List Ask) → is_some (address_of m qs None) ≡ asks_of m qs
some_address m [] = refl
some_address m (q ∷ qs) = at (q.mem == m) (some_address m qs)
  where
    at : (b : Bool) → is_some (address_of m qs None) ≡ asks_of m qs → is_some (if b then Some q.address else address_of m qs None) ≡ (b || asks_of m qs)
    at true e = refl
    at false e = e

no_address : (m : ℕ) (qs : List Ask) (rest : Option ℕ) → asks_of m qs ≡ false → address_of m qs rest ≡ rest
no_address m [] rest e = refl
no_address m (q ∷ qs) rest e = at (q.mem == m) e (no_address m qs rest)
  where
    at : (b : Bool) → (b || asks_of m qs) ≡ false → (asks_of m qs ≡ false → address_of m qs rest ≡ rest)
        → (if b then Some q.address else address_of m qs rest) ≡ rest
    at true f go = absurd (cc f)
    at false f go = go f

-- what is outstanding after requests
abbrev pub or_old : Option ℕ → Option ℕ → Option ℕ
or_old None old = old
or_old (Some a) old = Some a

asked_address : (m n : ℕ) (qs : List Ask) (old : machine.Request)
    → address_asked (asked_of m n qs old) ≡ address_of m qs (address_asked old)
asked_address m n [] old = refl
asked_address m n (q ∷ qs) old = at (q.mem == m) (asked_address m n qs old)
  where
    at : (b : Bool) → address_asked (asked_of m n qs old) ≡ address_of m qs (address_asked old)
        → address_asked (if b then Owned n q.address else asked_of m n qs old) ≡ (if b then Some q.address else address_of m qs (address_asked old))
    at true e = refl
    at false e = e

address_split : (m : ℕ) (qs : List Ask) (rest : Option ℕ) → address_of m qs rest ≡ or_old (address_of m qs None) rest
address_split m [] rest = refl
address_split m (q ∷ qs) rest = at (q.mem == m) (address_split m qs rest)
  where
    at : (b : Bool) → address_of m qs rest ≡ or_old (address_of m qs None) rest
        → (if b then Some q.address else address_of m qs rest) ≡ or_old (if b then Some q.address else address_of m qs None) rest
    at true e = refl
    at false e = e

or_or : (a b c : Option ℕ) → or_old a (or_old b c) ≡ or_old (or_old a b) c
or_or None b c = refl
or_or (Some x) b c = refl

asked_all : (m : ℕ) (ms : List Act) (old : machine.Request) → address_asked (asked_by m ms old) ≡ or_old (asked_in ms m) (address_asked old)
asked_all m [] old = refl
asked_all m (a ∷ ms) old =
    asked_address m a.thread.number a.does.asks (asked_by m ms old)
    ∙ address_split m a.does.asks (address_asked (asked_by m ms old))
    ∙ ap (or_old (address_of m a.does.asks None)) (asked_all m ms old)
    ∙ or_or (address_of m a.does.asks None) (asked_in ms m) (address_asked old)
    ∙ ap (λ o. or_old o (address_asked old)) (sym (address_split m a.does.asks (asked_in ms m)))

left_address : (sq : Option ℕ) (r : machine.Request) → address_asked (request_left sq r) ≡ address_asked r
left_address sq NoRequest = refl
left_address sq (Orphan a) = refl
left_address sq (Owned n a) = at (is_kept sq n)
  where
    at : (b : Bool) → address_asked (if b then Owned n a else Orphan a) ≡ Some a
    at true = refl
    at false = refl

-- after a cycle of these movers the outstanding address is the one that they ask, else the old one
pub address_next : (m : ℕ) (sq : Option ℕ) (ms : List Act) (old : machine.Request)
    → address_asked (request_left sq (asked_by m ms old)) ≡ or_old (asked_in ms m) (address_asked old)
address_next m sq ms old = left_address sq (asked_by m ms old) ∙ asked_all m ms old

-- WHO ASKS

module _ (p : Pipe) (reads : Reads p) (st : MachineState) (bits : List Bool) (m : ℕ) where
  -- a stage that doesn't read the memory
  silent : (k : ℕ) (t : Thread) → ((r : Reading) → reading p m ≡ Some r → k ≡ r.stage → ⊥) → asks_of m (deeds p st k t).asks ≡ false
  silent k t n = each (deeds p st k t).asks (asks_in p reads st k t)
    where
      each : (qs : List Ask) → Each (AsksIn p k) qs → asks_of m qs ≡ false
      each [] h = refl
      each (q ∷ qs) h = at (q.mem == m) refl (each qs h.1)
        where
          at : (b : Bool) → (q.mem == m) ≡ b → asks_of m qs ≡ false → (b || asks_of m qs) ≡ false
          at false e f = f
          at true e f = absurd (n (record { stage = k; var = q.var }) (sym (ap (reading p) (eqb-true q.mem m e)) ∙ h.0) refl)

  past : (k : ℕ) (b : Bool) (o : Option Thread) (rest : List Act)
      → ((r : Reading) → reading p m ≡ Some r → k ≡ r.stage → ⊥)
      → asked_in (mover p st k b o ++ rest) m ≡ asked_in rest m
  past k false o rest n = refl
  past k true None rest n = refl
  past k true (Some t) rest n = no_address m (deeds p st k t).asks (asked_in rest m) (silent k t n)

  none_asked : (n k : ℕ) → ((j : ℕ) (r : Reading) → k ≤ j → j < k + n → reading p m ≡ Some r → j ≡ r.stage → ⊥) → asked_in (movers_from p st bits n k) m ≡ None
  none_asked zero k h = refl
  none_asked (suc n) k h =
      past k (stage_moves p st bits k) (here p st bits k) (movers_from p st bits n (suc k)) (λ r e. h k r (omega arith) (omega arith) e)
      ∙ none_asked n (suc k) (λ j r l i e. h j r (omega (arith, l)) (omega (arith, i)) e)

  -- a memory that is not read delayed is not asked
  pub never_asked : reading p m ≡ None → asked_in (moving p st bits) m ≡ None
  never_asked e = none_asked (length p.stages) 0 (λ j r l i f. absurd (cc (sym e ∙ f)))

  module _ (r : Reading) (is : reading p m ≡ Some r) where
    abbrev asked_there : Bool → Option Thread → Option ℕ
    asked_there false o = None
    asked_there true None = None
    asked_there true (Some t) = address_of m (deeds p st r.stage t).asks None

    one_stage : (b : Reading) → reading p m ≡ Some b → b.stage ≡ r.stage
    one_stage b e = ap (λ (y : Reading). y.stage) (some_is (sym e ∙ is))
      where
        some_is : {x y : Reading} → Some x ≡ Some y → x ≡ y
        some_is z = cc z

    there : (b : Bool) (o : Option Thread) (rest : List Act) → asked_in rest m ≡ None → asked_in (mover p st r.stage b o ++ rest) m ≡ asked_there b o
    there false o rest e = e
    there true None rest e = e
    there true (Some t) rest e = ap (address_of m (deeds p st r.stage t).asks) e

    asked_from : (n k : ℕ) → k ≤ r.stage → r.stage < k + n
        → asked_in (movers_from p st bits n k) m ≡ asked_there (stage_moves p st bits r.stage) (here p st bits r.stage)
    asked_from zero k l h = absurd (omega (arith, l, h))
    asked_from (suc n) k l h = at (k == r.stage) refl (λ i. asked_from n (suc k) i (omega (arith, h)))
      where
        at : (b : Bool) → (k == r.stage) ≡ b
            → (suc k ≤ r.stage → asked_in (movers_from p st bits n (suc k)) m ≡ asked_there (stage_moves p st bits r.stage) (here p st bits r.stage))
            → asked_in (movers_from p st bits (suc n) k) m ≡ asked_there (stage_moves p st bits r.stage) (here p st bits r.stage)
        at false e go = let d = eqb-false k r.stage e in
            past k (stage_moves p st bits k) (here p st bits k) (movers_from p st bits n (suc k)) (λ b f g. d (g ∙ one_stage b f)) ∙ go (omega (arith, l, d))
        at true e go =
            let same = eqb-true k r.stage e in
            ap (λ j. asked_in (mover p st j (stage_moves p st bits j) (here p st bits j) ++ movers_from p st bits n (suc j)) m) same
            ∙ there (stage_moves p st bits r.stage) (here p st bits r.stage) (movers_from p st bits n (suc r.stage))
            (none_asked n (suc r.stage) (λ j b i u f g. let z = one_stage b f in omega (arith, i, g, z)))

  -- what the netlist shows of the request
  module _ (c : Circuit) (vs : ℕ → View) (moves : ℕ → Signal) (sides : Sides) (ask : whole.Request)
      (outside : IsOutside p c vs moves sides ask m) (s : State) (suits : Suits c s) (by : IsByStages p st bits)
      (inside : (r : Reading) → reading p m ≡ Some r → r.stage < length p.stages)
      (seen : (j : ℕ) → j < length p.stages → IsSeen p vs moves s st bits j) where
    abbrev Shown : Option Reading → Type 0
    Shown o =
        ((whole.request_of vs moves m o).enable.value s ≡ bit (is_some (asked_in (moving p st bits) m)))
        × ((whole.request_of vs moves m o).addr.value s ≡ address_or (asked_in (moving p st bits) m))

    shown : (o : Option Reading) → reading p m ≡ o
        → ((whole.request_of vs moves m o).enable.value s ≡ bit (is_some (asked_in (moving p st bits) m)))
        × ((whole.request_of vs moves m o).addr.value s ≡ address_or (asked_in (moving p st bits) m))
    shown None e = (zero_is s ∙ ap (λ (o : Option ℕ). bit (is_some o)) (sym (never_asked e)), zero_is s ∙ ap address_or (sym (never_asked e)))
    shown (Some r) e = at (moves_or_not p st bits r.stage)
      where
        low : r.stage < length p.stages
        low = inside r e

        asked : asked_in (moving p st bits) m ≡ asked_there r e (stage_moves p st bits r.stage) (here p st bits r.stage)
        asked = asked_from r e (length p.stages) 0 (omega arith) (omega (arith, low))

        at : (stage_moves p st bits r.stage ≡ false) ⊎ ((t : Thread) × (here p st bits r.stage ≡ Some t) × (stage_moves p st bits r.stage ≡ true))
            → ((whole.request_of vs moves m (Some r)).enable.value s ≡ bit (is_some (asked_in (moving p st bits) m)))
            × ((whole.request_of vs moves m (Some r)).addr.value s ≡ address_or (asked_in (moving p st bits) m))
        at (inl f) =
            let none : asked_in (moving p st bits) m ≡ None = asked ∙ ap (λ b. asked_there r e b (here p st bits r.stage)) f in (
              asks_value s m (moves r.stage) false ((seen r.stage low).leaves ∙ ap bit f) (vs r.stage).ended.asks
                  ∙ ap (λ (o : Option ℕ). bit (is_some o)) (sym none),
              address_value s m (moves r.stage) false ((seen r.stage low).leaves ∙ ap bit f) (vs r.stage).ended.asks ∙ ap address_or (sym none),
            )
        at (inr f) =
            let t = f.0 in
            let so = ((seen r.stage low).follows t f.1).so (ready_of p st bits r.stage t by low f.1 f.2) in
            let mine : asked_in (moving p st bits) m ≡ address_of m (stands.asked_in s (vs r.stage).ended.asks) None =
            asked ∙ ap₂ (λ b o. asked_there r e b o) f.2 f.1 ∙ ap (λ (qs : List Ask). address_of m qs None) so.asks in (
              asks_value s m (moves r.stage) true ((seen r.stage low).leaves ∙ ap bit f.2) (vs r.stage).ended.asks
                  ∙ ap bit (sym (some_address m (stands.asked_in s (vs r.stage).ended.asks)))
                  ∙ ap (λ (o : Option ℕ). bit (is_some o)) (sym mine),
              address_value s m (moves r.stage) true ((seen r.stage low).leaves ∙ ap bit f.2) (vs r.stage).ended.asks ∙ ap address_or (sym mine),
            )

    -- the signals of a memory's request show whether the machine asks it, and at which address, 0 where it doesn't
    pub request_shown : (ask.enable.value s ≡ bit (is_some (asked_in (moving p st bits) m))) × (ask.addr.value s ≡ address_or (asked_in (moving p st bits) m))
    request_shown = let x = shown (reading p m) refl in (outside.enable s suits ∙ x.0, outside.addr s suits ∙ x.1)
