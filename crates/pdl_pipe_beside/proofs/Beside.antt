-- Ports and orders as the law of a netlist takes them.
use Rattle.std.proofs.Common.{◌≡◌, ℕ, zero, suc, ◌+◌, ◌*◌, ◌<◌, ◌∙◌, Bool, true, false, List, length, refl, sym, ap, ap₂, subst, arith}
use Rattle.std.specs.Prelude.{Option, Some, None, is_some, if◌then◌else◌}
use Rattle.pdl_semantics.specs.Flat.{Pipe}
use Rattle.pdl_semantics.specs.Stages.{stage_at, mem_at, is_inside, reply_place}
use Rattle.pdl_semantics.specs.Updates.{squash_stages}
use Rattle.pdl_net.specs.Circuit.{Circuit}
use Rattle.pdl_net.specs.Signal.{Signal, input_signal, mux_signal}
use Rattle.pdl_net.specs.Meaning.{signal}
use Rattle.pdl_net.specs.Growth.{Keeps}
use Rattle.pdl_lockapi.specs.Laws.{OwnKept}
use Rattle.pdl_port.specs.declared.PortRegs.{PortRegs}
use Rattle.pdl_port.specs.Laws as port_laws
use Rattle.pdl_port.specs.Places as port_places
use Rattle.pdl_order.specs.declared.OrderRegs.{OrderRegs}
use Rattle.pdl_order.specs.Laws as order_laws
use Rattle.pdl_order.specs.Words as order_words
use Rattle.pdl_machine_inflight.specs.Readings.{Reading, reading, places, place_at, branch_stages}
use Rattle.pdl_law_parts.specs.Walk.{Walk, one, zero_bit, both}
use Rattle.pdl_law_parts.specs.Views.{View, Gates}
use Rattle.pdl_law_sides.specs.Sides.{asks_memory, asked_address, goes_to_place, asked_into, into_first, into_second, into_merge, leaves_fork, emptied_by, order_step}
use Rattle.pdl_law_sides.specs.WholeNetlist.{Request, request_of, IsOutside}
use Rattle.pdl_law_sides.specs.HasSides.{HasOwn, HasPort, HasOrder}
use Rattle.pdl_pipe_answers.specs.Ports.{port_answers}
use Rattle.pdl_pipe_walk.specs.Locked.{some_at}
use Rattle.pdl_pipe_beside.specs.declared.PortInput.{PortInput}
use Rattle.pdl_pipe_beside.specs.declared.outside.RequestNets.{RequestNets}
use Rattle.pdl_pipe_beside.specs.declared.ends.StageEnd.{StageEnd}
use Rattle.pdl_pipe_beside.specs.declared.ends.Squashes.{Squashes}
use Rattle.pdl_pipe_beside.specs.Parts.{AreParts, own_of, own_at}
use Rattle.pdl_pipe_beside.specs.Ports.{ReadsLeadOn, has_port, StandPorts}
use Rattle.pdl_pipe_beside.specs.Orders.{HasOrderOf, StandOrders}
use Rattle.pdl_pipe_beside.specs.Ends.{ends_in, moves_in}
use Rattle.pdl_pipe_beside.specs.Requests.{IsRequest}
use Rattle.pdl_pipe_beside.specs.Steps.{order_signals, IsPortStepped, IsOrderStepped}
use Rattle.pdl_pipe_beside.specs.Beside.{Inputs, SquashSides, AreTaken, port_stands, order_stands, order_first, order_empty, sides_in, AreFree, AreStagesOf}
use Rattle.pdl_pipe_beside.proofs.OrderParts.{is_merged_by}
use Rattle.pdl_pipe_beside.proofs.PortSteps as port_steps
use Rattle.pdl_pipe_beside.proofs.OrderSteps as order_steps
use Rattle.pdl_word.proofs.Lists.{some_of}

-- ---- what is made stands

-- the ports that were made of all memories stand in the circuit, where delayed reads lead on
pub made_ports : (c : Circuit) (p : Pipe) (inputs : List (Option PortInput)) (low high : ℕ) (qs : List (Option PortRegs))
    → ReadsLeadOn p → AreParts port_laws.own (has_port c p inputs) low high qs (length p.mems) → StandPorts c p qs
made_ports c p inputs low high qs leads h = record {
  count = h.count;
  some = λ m r is. (h.each m (leads.known m r is)).some ∙ ap is_some is;
  each = λ m r q is e. (h.each m (leads.known m r is)).port r q is e;
  apart = h.apart;
}

-- the orders that were made of all stages stand in the circuit
pub made_orders : (c : Circuit) (p : Pipe) (low high : ℕ) (rs : List (Option OrderRegs))
    → AreParts order_laws.own (HasOrderOf c p) low high rs (length p.stages) → StandOrders c p rs
made_orders c p low high rs h = record {
  count = h.count;
  some = λ f l. (h.each f l).some;
  each = λ f r l e. (h.each f l).order r e;
  apart = h.apart;
}

-- ---- steps stay in a circuit that keeps what their registers take next

-- the step of a memory's port stays where its registers take next what they took
pub port_stays_stepped : (a c d : Circuit) (p : Pipe) (es : List StageEnd) (qs : List (Option PortRegs)) (m : ℕ)
    → ((q : PortRegs) → some_at qs m ≡ Some q → OwnKept (port_laws.own q) c d) → IsPortStepped a c p es qs m
    → IsPortStepped a d p es qs m
port_stays_stepped a c d p es qs m kept x r q is e =
    port_steps.law_kept (port_places.stands q) (length (places p r)) (port_laws.own q) c d _ (kept q e) (x r q is e)

-- the step of a fork's order stays where its registers take next what they took
pub order_stays_stepped : (a c d : Circuit) (p : Pipe) (es : List StageEnd) (y : Squashes) (rs : List (Option OrderRegs)) (f : ℕ)
    → ((r : OrderRegs) → some_at rs f ≡ Some r → OwnKept (order_laws.own r) c d) → IsOrderStepped a c p es y rs f
    → IsOrderStepped a d p es y rs f
order_stays_stepped a c d p es y rs f kept x r e = order_steps.law_kept r (branch_stages p f) c d (order_signals a p es y f) (kept r e) (x r e)

-- ---- ports

module _ (a c : Circuit) (p : Pipe) (es : List StageEnd) (y : Squashes) (vs : ℕ → View) (gates : Gates)
    (moves : ℕ → Signal) (qs : List (Option PortRegs)) (ins : ℕ → Inputs) (frees : ℕ → Signal)
    (rs : List (Option OrderRegs)) (sq : SquashSides)
    (keeps : Keeps a c) (stages : AreStagesOf a p es y vs gates moves sq.squash) where
  module _ (leads : ReadsLeadOn p) (stand : StandPorts a p qs) (taken : AreTaken c qs ins)
      (free : AreFree c p moves qs frees) (stepped : (m : ℕ) → IsPortStepped a c p es qs m) where
    asked_same : (m : ℕ) (r : Reading) (i : ℕ) → r.stage < length p.stages → asked_into p (ends_in a es) (moves_in a es) m r i ≡ asked_into p vs moves m r i
    asked_same m r i low =
        ap₂ (λ (f : Signal) (w : Walk). both (asks_memory m f w.asks) (goes_to_place (stage_at p r.stage).next i w))
        (sym (stages.move r.stage low)) (sym (stages.ends r.stage low))

    abbrev step_by : ℕ → Reading → port_laws.StepSignals
    step_by m r =
        record { reply = (ins m).reply; moves = λ i. moves (place_at p r i); removed = λ i. gates.kill (place_at p r i); asked = asked_into p vs moves m r }

    step_law : (m : ℕ) (r : Reading) (q : PortRegs) → reading p m ≡ Some r → some_at qs m ≡ Some q
        → port_laws.StepLaw (port_places.stands q) (length (places p r)) (port_laws.own q) c (step_by m r)
    step_law m r q is e =
        port_steps.law_as (port_places.stands q) (length (places p r)) (port_laws.own q) c _ (step_by m r)
        (sym (keeps.kept q.reply (stand.each m r q is e).placed.reply.there) ∙ taken.reply m q e)
        (λ k l. sym (stages.move (place_at p r k) (leads.to m r is k l)))
        (λ k l. sym (stages.kills (place_at p r k) (leads.to m r is k l)))
        (λ k l. asked_same m r k (leads.stage m r is))
        (stepped m r q is e)

    port_here : (m : ℕ) (r : Reading) (q : PortRegs) → reading p m ≡ Some r → some_at qs m ≡ Some q
        → HasPort p c vs gates moves (sides_in c qs ins frees rs sq) (own_at port_laws.own qs m) m r
    port_here m r q is e =
        let it = (port_steps.ports_stand a c p qs keeps stand).each m r q is e in
        let n = length (places p r) in
        let O : Option PortRegs → Type 0 = λ o. HasOwn c (own_of port_laws.own o) in
        let S : Option PortRegs → Type 0 = λ o. port_laws.StartLaw (port_stands o) c (own_of port_laws.own o) in
        let A : Option PortRegs → Type 0 = λ o. port_laws.AnswerLaw (port_stands o) n (ins m).reply (ins m).word (port_answers c o) in
        let R : Signal → Type 0 = λ g. port_laws.AnswerLaw (port_places.stands q) n g (signal c q.word) (port_laws.answer_signals c q) in
        let W : Signal → Type 0 = λ g. port_laws.AnswerLaw (port_places.stands q) n (ins m).reply g (port_laws.answer_signals c q) in
        let G : Signal → Type 0 = λ g. port_laws.FreeLaw (port_places.stands q) n g (λ i. moves (place_at p r i)) (frees m) in
        let F : Option PortRegs → Type 0 = λ o. port_laws.FreeLaw (port_stands o) n (ins m).reply (λ i. moves (place_at p r i)) (frees m) in
        let N : Option PortRegs → Type 0 = λ o. port_laws.StepLaw (port_stands o) n (own_of port_laws.own o) c (step_by m r) in
        record {
          owned = subst O (sym e) it.owned;
          starts = subst S (sym e) it.starts;
          answers = subst A (sym e) (subst W (taken.word m q e) (subst R (taken.reply m q e) it.answers));
          free = subst F (sym e) (subst G (taken.reply m q e) (free m r q is e));
          step = subst N (sym e) (step_law m r q is e);
        }

    -- each memory that is read delayed has its port
    pub has_ports : (m : ℕ) (r : Reading) → reading p m ≡ Some r
        → HasPort p c vs gates moves (sides_in c qs ins frees rs sq) (own_at port_laws.own qs m) m r
    has_ports m r is = let x = some_of (some_at qs m) (stand.some m r is) in port_here m r x.0 is x.1

  -- ---- what is asked outside

  module _ (leads : ReadsLeadOn p) where
    request_as : (m : ℕ) → request_of (ends_in a es) (moves_in a es) m (reading p m) ≡ request_of vs moves m (reading p m)
    request_as m = at (reading p m) refl
      where
        at : (o : Option Reading) → reading p m ≡ o → request_of (ends_in a es) (moves_in a es) m o ≡ request_of vs moves m o
        at None is = refl
        at (Some r) is =
            ap₂ (λ (f : Signal) (w : Walk). (let z : Request = record { enable = asks_memory m f w.asks; addr = asked_address m f w.asks } in z))
            (sym (stages.move r.stage (leads.stage m r is))) (sym (stages.ends r.stage (leads.stage m r is)))

    -- a delayed memory is asked by these nets, and its port takes its two inputs
    pub is_outside : (m : ℕ) (x : RequestNets) → IsRequest a c p es m x
        → (ins m).reply ≡ input_signal 1 (2 * reply_place p m)
        → (ins m).word ≡ input_signal (mem_at p m).width (2 * reply_place p m + 1)
        → IsOutside p c vs moves (sides_in c qs ins frees rs sq) (record { enable = signal c x.enable; addr = signal c x.addr }) m
    is_outside m x h reply word = record {
      enable = λ s suits. ap (λ (f : Signal). f.value s) (h.enable ∙ ap (λ (q : Request). q.enable) (request_as m));
      addr = λ s suits. h.addr s ∙ ap (λ (q : Request). q.addr.value s) (request_as m);
      reply = λ s suits. ap (λ (f : Signal). f.value s) reply;
      word = λ s suits. ap (λ (f : Signal). f.value s) word;
    }

  -- ---- orders

  module _ (stand : StandOrders a p rs) (stepped : (f : ℕ) → f < length p.stages → IsOrderStepped a c p es y rs f) where
    leave_step : (f k : ℕ) (b : Bool) (rest other : Signal) → k < length p.stages → rest ≡ other
        → (if b then mux_signal (both (moves_in a es k) (into_merge p f (stage_at p k).next (ends_in a es k).ended)) one rest else rest)
        ≡ (if b then mux_signal (both (moves k) (into_merge p f (stage_at p k).next (vs k).ended)) one other else other)
    leave_step f k true rest other low e =
        ap₂ (λ (g : Signal) (w : Walk). mux_signal (both g (into_merge p f (stage_at p k).next w)) one rest) (sym (stages.move k low)) (sym (stages.ends k low))
        ∙ ap (mux_signal (both (moves k) (into_merge p f (stage_at p k).next (vs k).ended)) one) e
    leave_step f k false rest other low e = e

    leaves_as : (f n k : ℕ) → k + n ≡ length p.stages → leaves_fork p (ends_in a es) (moves_in a es) f n k ≡ leaves_fork p vs moves f n k
    leaves_as f zero k e = refl
    leaves_as f (suc n) k e =
        leave_step f k (is_inside p f k) (leaves_fork p (ends_in a es) (moves_in a es) f n (suc k))
        (leaves_fork p vs moves f n (suc k)) (omega (arith, e)) (leaves_as f n (suc k) (omega (arith, e)))

    order_law : (f : ℕ) (r : OrderRegs) → f < length p.stages → some_at rs f ≡ Some r
        → order_laws.StepLaw (order_words.stands r) (branch_stages p f) (order_laws.own r) c (order_step p vs sq.squash moves f)
    order_law f r low e =
        order_steps.law_as r (branch_stages p f) c (order_signals a p es y f) (order_step p vs sq.squash moves f)
        (ap₂ (λ (g : Signal) (w : Walk). both g (into_first p f (stage_at p f).next w)) (sym (stages.move f low)) (sym (stages.ends f low)))
        (ap₂ (λ (g : Signal) (w : Walk). both g (into_second p f (stage_at p f).next w)) (sym (stages.move f low)) (sym (stages.ends f low)))
        (leaves_as f (length p.stages) 0 (omega arith))
        (ap (emptied_by p f (squash_stages p.stmts)) (sym stages.squashes))
        (stepped f low r e)

    order_here : (f : ℕ) (r : OrderRegs) → f < length p.stages → some_at rs f ≡ Some r
        → HasOrder p c vs gates moves (sides_in c qs ins frees rs sq) (own_at order_laws.own rs f) f
    order_here f r low e =
        let it = (order_steps.orders_stand a c p rs keeps stand).each f r low e in
        let O : Option OrderRegs → Type 0 = λ o. HasOwn c (own_of order_laws.own o) in
        let S : Option OrderRegs → Type 0 = λ o. order_laws.StartLaw (order_stands o) c (own_of order_laws.own o) in
        let F : Option OrderRegs → Type 0 = λ o. order_laws.FirstLaw (order_stands o) (order_first c o) (order_empty c o) in
        let N : Option OrderRegs → Type 0 =
        λ o. order_laws.StepLaw (order_stands o) (branch_stages p f) (own_of order_laws.own o) c (order_step p vs sq.squash moves f) in
        record {
          owned = subst O (sym e) it.owned;
          starts = subst S (sym e) it.starts;
          first = subst F (sym e) it.first;
          step = subst N (sym e) (order_law f r low e);
        }

    -- each fork that is merged has its order
    pub has_orders : (f q : ℕ) → f < length p.stages → (stage_at p q).merges ≡ Some f
        → HasOrder p c vs gates moves (sides_in c qs ins frees rs sq) (own_at order_laws.own rs f) f
    has_orders f q low merges = let x = some_of (some_at rs f) (stand.some f low ∙ is_merged_by p f q merges) in order_here f x.0 low x.1
