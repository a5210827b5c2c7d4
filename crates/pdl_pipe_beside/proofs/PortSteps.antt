-- The steps of ports, one after the other.
use Rattle.std.proofs.Common.{◌≡◌, ℕ, ◌+◌, ◌<◌, ◌∙◌, List, length, map, refl, ap, ap₂, subst, arith}
use borrow.Author.Count.{below_more}
use Rattle.std.specs.Prelude.{Option, Some, None, slice_index_or}
use Rattle.pdl_semantics.specs.Flat.{Pipe}
use Rattle.pdl_form.specs.Form.{Form}
use Rattle.pdl_net.specs.Circuit.{Circuit, State}
use Rattle.pdl_net.specs.Signal.{Signal}
use Rattle.pdl_net.specs.Meaning.{signal}
use Rattle.pdl_net.specs.Growth.{Own, Keeps, Extends, ExtendsBut}
use Rattle.pdl_lockapi.specs.Laws.{OwnKept}
use Rattle.pdl_lockapi.proofs.LockKinds.{next_kept}
use Rattle.pdl_port.specs.declared.PortRegs.{PortRegs}
use Rattle.pdl_port.specs.declared.PortStep.{PortStep}
use Rattle.pdl_port.specs.Port.{PortState}
use Rattle.pdl_port.specs.Laws.{StepLaw, StepSignals, own, step_signals, places as port_places}
use Rattle.pdl_port.specs.Places.{stands}
use Rattle.pdl_machine_inflight.specs.Readings.{Reading, reading, places, place_at}
use Rattle.pdl_law_parts.specs.Views.{View}
use Rattle.pdl_pipe_exprs.specs.Nets.{signal_at}
use Rattle.pdl_law_sides.specs.Sides.{asked_into}
use Rattle.pdl_pipe_walk.specs.Locked.{some_at}
use Rattle.pdl_pipe_beside.specs.declared.ends.StageEnd.{StageEnd}
use Rattle.pdl_pipe_beside.specs.Parts.{own_of, own_at}
use Rattle.pdl_pipe_beside.specs.Ports.{ReadsLeadOn, IsPort, StandPorts}
use Rattle.pdl_pipe_beside.specs.Ends.{no_view, view_in, move_in, kill_in, ends_in, moves_in, kills_in, AreEnds}
use Rattle.pdl_pipe_beside.specs.Steps.{AreNetsOf, port_signals, IsPortStepped}
use Rattle.pdl_pipe_beside.proofs.EndGrowth.{views_same, moves_same, kills_same}
use Rattle.pdl_pipe_beside.proofs.PartLists.{own_apart}
use Rattle.pdl_pipe_beside.proofs.PortParts.{port_stays}

-- ---- the law of a step

-- the law of a port's step holds by other signals that are the same for each place
pub law_as : (stands : State → PortState → Type 0) (n : ℕ) (o : Own) (c : Circuit) (f g : StepSignals)
    → f.reply ≡ g.reply → ((k : ℕ) → k < n → f.moves k ≡ g.moves k) → ((k : ℕ) → k < n → f.removed k ≡ g.removed k)
    → ((k : ℕ) → k < n → f.asked k ≡ g.asked k) → StepLaw stands n o c f → StepLaw stands n o c g
law_as stands n o c f g reply moves removed asked x = record {
  next = λ s t y d st dr pr nx. x.next s t y d st
      (record {
        reply = ap (λ (z : Signal). z.value s) reply ∙ dr.reply;
        moves = λ k l. ap (λ (z : Signal). z.value s) (moves k l) ∙ dr.moves k l;
        removed = λ k l. ap (λ (z : Signal). z.value s) (removed k l) ∙ dr.removed k l;
        asked = λ k l. ap (λ (z : Signal). z.value s) (asked k l) ∙ dr.asked k l;
      })
      pr nx;
}

-- the law of a port's step holds on in a circuit that keeps what its registers take next
pub law_kept : (stands : State → PortState → Type 0) (n : ℕ) (o : Own) (a b : Circuit) (f : StepSignals) → OwnKept o a b
    → StepLaw stands n o a f → StepLaw stands n o b f
law_kept stands n o a b f k x = record { next = λ s t y d st dr pr nx. x.next s t y d st dr pr (next_kept o a b s t k nx) }

-- ---- one step

module _ (a b c : Circuit) (p : Pipe) (es : List StageEnd) (qs : List (Option PortRegs)) (m : ℕ) (r : Reading)
    (q : PortRegs) (x : PortStep) (is : reading p m ≡ Some r) (at : some_at qs m ≡ Some q) (port : IsPort a p m r q)
    (grows : Extends a b)
    (asked : AreNetsOf b x.asked (length (places p r)) (asked_into p (ends_in a es) (moves_in a es) m r))
    (moves : AreNetsOf b x.moves (length (places p r)) (λ i. moves_in a es (place_at p r i)))
    (removed : AreNetsOf b x.removed (length (places p r)) (λ i. kills_in a es (place_at p r i)))
    (law : StepLaw (stands q) (port_places q) (own q) c (step_signals b q x)) where
  here : StepLaw (stands q) (length (places p r)) (own q) c (port_signals a p es m r q)
  here =
      law_as (stands q) (length (places p r)) (own q) c (step_signals b q x) (port_signals a p es m r q)
      (grows.kept q.reply port.placed.reply.there) moves.same removed.same asked.same
      (subst (λ n. StepLaw (stands q) n (own q) c (step_signals b q x)) port.count law)

  -- the port keeps the law of its step by what the stages do, where the nets of the step mean that
  pub some_stepped : IsPortStepped a c p es qs m
  some_stepped s z e f =
      let one : r ≡ s = cc (is, e) in
      let two : q ≡ z = cc (at, f) in
      let P : Reading → Type 0 = λ t. StepLaw (stands z) (length (places p t)) (own z) c (port_signals a p es m t z) in
      let Q : PortRegs → Type 0 = λ t. StepLaw (stands t) (length (places p r)) (own t) c (port_signals a p es m r t) in
      subst P one (subst Q two here)

-- ---- all steps

-- the ports of delayed memories stand in a circuit that keeps what stands in theirs
pub ports_stand : (a b : Circuit) (p : Pipe) (qs : List (Option PortRegs)) → Keeps a b → StandPorts a p qs → StandPorts b p qs
ports_stand a b p qs k h = record { count = h.count; some = h.some; each = λ m r q e f. port_stays a b k p m r q (h.each m r q e f); apart = h.apart }

-- the signals by the lists of the stages
abbrev step_by : Pipe → ℕ → Reading → List View → List Signal → List Signal → Signal → StepSignals
step_by p m r vs ms ks reply = record {
  reply = reply;
  moves = λ i. signal_at ms (place_at p r i);
  removed = λ i. signal_at ks (place_at p r i);
  asked = asked_into p (λ k. slice_index_or vs k no_view) (λ k. signal_at ms k) m r;
}

signals_same : (a b : Circuit) (f : Form) (es : List StageEnd) (m : ℕ) (r : Reading) (q : PortRegs) → Keeps a b
    → AreEnds a f es → IsPort a f.pipe m r q → port_signals b f.pipe es m r q ≡ port_signals a f.pipe es m r q
signals_same a b f es m r q k h x =
    ap₂ (λ vs ms. step_by f.pipe m r vs ms (map (kill_in b) es) (signal b q.reply)) (views_same a b k f es h) (moves_same a b k f es h)
    ∙ ap₂ (step_by f.pipe m r (map (view_in a) es) (map (move_in a) es)) (kills_same a b k f es h) (k.kept q.reply x.placed.reply.there)

module _ (a : Circuit) (f : Form) (es : List StageEnd) (qs : List (Option PortRegs)) (stand : StandPorts a f.pipe qs) (ends : AreEnds a f es) where
  -- a step is that by the signals at first
  pub stepped_as : (b c : Circuit) (m : ℕ) → Keeps a b → IsPortStepped b c f.pipe es qs m → IsPortStepped a c f.pipe es qs m
  stepped_as b c m k x r q e g =
      subst (StepLaw (stands q) (length (places f.pipe r)) (own q) c) (signals_same a b f es m r q k ends (stand.each m r q e g)) (x r q e g)

  -- a port keeps the law of its step while a later port makes its own
  pub stepped_kept : (b c : Circuit) (j m : ℕ) → j < m → m < length f.pipe.mems → Keeps a b
      → ExtendsBut (own_at own qs m) b c → IsPortStepped a b f.pipe es qs j → IsPortStepped a c f.pipe es qs j
  stepped_kept b c j m l low k d x r q e g =
      let it = stand.each j r q e g in
      let kept : OwnKept (own q) b c = record {
        has_reg = λ i lo hi. d.has_reg i (k.has_reg i (it.owned.regs i lo hi));
        nexts = λ i lo hi. d.nexts i (k.has_reg i (it.owned.regs i lo hi)) (own_apart own qs j m q (λ y h. stand.apart j m q y l low g h) i hi);
        has_array = λ i lo hi. absurd (omega (arith, lo, hi));
        writes = λ i lo hi. absurd (omega (arith, lo, hi));
      } in
      law_kept (stands q) (length (places f.pipe r)) (own q) b c (port_signals a f.pipe es j r q) kept (x r q e g)

  -- with the step of one port more, the ports of the first m + 1 memories keep their laws
  pub stepped_more : (b c : Circuit) (m : ℕ) → m < length f.pipe.mems → Keeps a b → ExtendsBut (own_at own qs m) b c
      → IsPortStepped b c f.pipe es qs m → ((j : ℕ) → j < m → IsPortStepped a b f.pipe es qs j) → (j : ℕ) → j < m + 1
      → IsPortStepped a c f.pipe es qs j
  stepped_more b c m low k d x h =
      below_more (λ j. IsPortStepped a c f.pipe es qs j) m (λ j l. stepped_kept b c j m l low k d (h j l)) (stepped_as b c m k x)

-- where the ports of the memories of a pipe have made their step, so has one of any number
pub all_stepped : (a c : Circuit) (p : Pipe) (es : List StageEnd) (qs : List (Option PortRegs)) (n : ℕ)
    → n ≡ length p.mems → ReadsLeadOn p → ((m : ℕ) → m < n → IsPortStepped a c p es qs m) → (m : ℕ)
    → IsPortStepped a c p es qs m
all_stepped a c p es qs n count leads h m r q e g = h m (let l = leads.known m r e in omega (arith, l, count)) r q e g

-- no port has an array
pub no_arrays : (qs : List (Option PortRegs)) (m : ℕ) → (own_at own qs m).last ≡ 0
no_arrays qs m = at (some_at qs m)
  where
    at : (o : Option PortRegs) → (own_of own o).last ≡ 0
    at None = refl
    at (Some q) = refl
