-- The ports of delayed memories and the orders of forks of an emission.
use Rattle.std.proofs.Common.{◌≡◌, refl, sym, ap, ap₂, ◌∙◌, subst, ℕ, ◌<◌, true, List, length, arith}
use Rattle.std.proofs.lemmas.Bool.{false≢true}
use Rattle.std.specs.Prelude.{Option, Some, None, is_some}
use Rattle.pdl_semantics.specs.Flat.{Pipe}
use Rattle.pdl_semantics.specs.Stages.{stage_at}
use Rattle.pdl_net.specs.Signal.{Signal}
use Rattle.pdl_net.specs.Meaning.{signal}
use Rattle.pdl_net.specs.declared.Net.{Net}
use Rattle.pdl_pipe_exprs.specs.Nets.{signals_in, signal_at}
use Rattle.pdl_pipe_exprs.proofs.NetLists.{signals_keep}
use Rattle.pdl_port.specs.declared.PortRegs.{PortRegs}
use Rattle.pdl_port.specs.Laws.{FreeLaw}
use Rattle.pdl_port.specs.Laws as port_laws
use Rattle.pdl_port.specs.Places as port_places
use Rattle.pdl_order.specs.Laws as order_laws
use Rattle.pdl_machine_inflight.specs.Readings.{Reading, reading, places, place_at}
use Rattle.pdl_law_sides.specs.Sides.{Sides, asked_into}
use Rattle.pdl_law_sides.specs.HasSides.{HasPort, HasOrder}
use Rattle.pdl_pipe_answers.specs.Ports.{port_answers}
use Rattle.pdl_law_parts.specs.Views.{View, Gates}
use Rattle.pdl_pipe_walk.specs.Locked.{Members, some_at}
use Rattle.pdl_pipe_beside.specs.Parts.{own_at}
use Rattle.pdl_pipe_beside.specs.Ports.{IsPort}
use Rattle.pdl_pipe_beside.specs.Steps.{IsPortStepped, IsOrderStepped}
use Rattle.pdl_pipe_beside.specs.Beside.{Inputs, AreTaken, AreFree, port_stands}
use Rattle.pdl_pipe_beside.proofs.PortSteps as port_steps
use Rattle.pdl_pipe_beside.proofs.OrderSteps as order_steps
use Rattle.pdl_pipe_beside.proofs.Beside.{port_stays_stepped, order_stays_stepped, has_ports, has_orders}
use Rattle.pdl_pipe_nexts.specs.Lines.{line_pipe}
use Rattle.pdl_pipe_nexts.proofs.LineGrowth.{bits_there}
use Rattle.pdl_pipe_moves.proofs.PassageGrowth.{free_as}
use Rattle.pdl_pipe_emitted.specs.Emitted.{Nets, Emission, inputs_of, views_of, moves_of, gates_of, sides_of, free_of, squashes_of}
use Rattle.pdl_pipe_emitted.proofs.SidesGrowth.{keeps_ab, keeps_ad, keeps_af, keeps_ag, keeps_bc, keeps_bd, keeps_cf, keeps_cg, keeps_fd, keeps_gd, port_kept, order_kept}
use Rattle.pdl_pipe_emitted.proofs.SidesStages.{are_stages}

module _ {T : Type 0} (l : Members T) (n : Nets T) (em : Emission l n) where
  abbrev p : Pipe
  p = line_pipe n.line

  abbrev ports : List (Option PortRegs)
  ports = n.line.shared.now.ports.now

  abbrev vs : ℕ → View
  vs = views_of l n em

  abbrev moves : ℕ → Signal
  moves = moves_of l n em

  abbrev gates : Gates
  gates = gates_of l n em

  abbrev sides : Sides
  sides = sides_of l n em

  -- whether the port of each memory is free
  abbrev frees : ℕ → Signal
  frees m = free_of l n em (reading p m) m

  -- whether threads move is as it was told first
  pub moves_first : (k : ℕ) → signal_at (signals_in em.b n.moves.moves.items) k ≡ moves k
  moves_first k =
      sym (ap (λ fs. signal_at fs k) (signals_keep em.b em.c n.moves.moves.items (keeps_bc l n em) (bits_there em.b n.moves.moves.items em.moved.passed.moves)))
      ∙ ap (λ (xs : List Net). signal_at (signals_in em.c xs) k) (sym em.line_moves_are)

  -- ---- ports

  port_there : (m : ℕ) (r : Reading) (q : PortRegs) → reading p m ≡ Some r → some_at ports m ≡ Some q → IsPort em.a p m r q
  port_there m r q is at = em.layout.stand_ports.each m r q is at

  -- what each port takes, by its own nets, where there is one
  abbrev taken_by : Option PortRegs → Inputs → Inputs
  taken_by None i = i
  taken_by (Some q) i = record { reply = signal em.d q.reply; word = signal em.d q.word }

  abbrev taken_at : ℕ → Inputs
  taken_at m = taken_by (some_at ports m) (inputs_of p m)

  are_taken : AreTaken em.d ports taken_at
  are_taken = record {
    reply = λ m q at. sym (ap (λ o. (taken_by o (inputs_of p m)).reply) at);
    word = λ m q at. sym (ap (λ o. (taken_by o (inputs_of p m)).word) at);
  }

  -- they are the inputs of a memory that is read delayed
  taken_is : (m : ℕ) (r : Reading) → reading p m ≡ Some r → taken_at m ≡ inputs_of p m
  taken_is m r is = by (some_at ports m) refl (em.layout.stand_ports.some m r is)
    where
      by : (o : Option PortRegs) → some_at ports m ≡ o → is_some o ≡ true → taken_by o (inputs_of p m) ≡ inputs_of p m
      by None at e = absurd (false≢true e)
      by (Some q) at e =
          let there = port_there m r q is at in
          ap₂ (λ (f g : Signal). (let i : Inputs = record { reply = f; word = g } in i))
          ((keeps_ad l n em).kept q.reply there.placed.reply.there ∙ em.layout.reply m q at)
          ((keeps_ad l n em).kept q.word there.word_there ∙ em.layout.word m q at)

  -- each port is free where its net says so
  are_free : AreFree em.d p moves ports frees
  are_free m r q is at =
      let k = length (places p r) in
      let moved = em.moved.passed.each r.stage (omega arith) (em.can.onward.stage m r is) in
      let first = signal_at (signals_in em.b n.moves.moves.items) in
      let there = (keeps_ab l n em).there q.reply (port_there m r q is at).placed.reply.there in
      let F : Signal → Signal → Type 0 = λ reply free. FreeLaw (port_places.stands q) k reply (λ i. moves (place_at p r i)) free in
      subst (λ o. F (signal em.d q.reply) (free_of l n em o m)) (sym is)
      (subst (λ f. F f (free_of l n em (Some r) m)) (sym ((keeps_bd l n em).kept q.reply there))
      (free_as (port_places.stands q) k (signal em.b q.reply) (λ i. first (place_at p r i)) (λ i. moves (place_at p r i)) (free_of l n em (Some r) m)
      (λ i low. moves_first (place_at p r i)) (moved.free m (em.can.onward.known m r is) r q is refl at)))

  ports_step : (m : ℕ) → IsPortStepped em.f em.d p n.ends ports m
  ports_step m r q is at =
      port_stays_stepped em.f em.g em.d p n.ends ports m
      (λ y e. port_kept l n em m y (em.can.onward.known m r is) e (port_there m r y is e).owned) (em.ports_stepped m) r q is at

  -- the ports have their laws
  pub ports_are : (m : ℕ) (r : Reading) → reading p m ≡ Some r → HasPort p em.d vs gates moves sides (own_at port_laws.own ports m) m r
  ports_are m r is =
      let k = length (places p r) in
      let stand = port_steps.ports_stand em.a em.f p ports (keeps_af l n em) em.layout.stand_ports in
      let h = has_ports em.f em.d p n.ends n.moves.squashes vs gates moves ports taken_at frees n.orders (squashes_of l n em)
      (keeps_fd l n em) (are_stages l n em em.f (keeps_cf l n em)) em.can.onward stand are_taken are_free ports_step m r is in
      let e = taken_is m r is in
      let stands = port_stands (some_at ports m) in
      record {
        owned = h.owned;
        starts = h.starts;
        answers = subst (λ (i : Inputs). port_laws.AnswerLaw stands k i.reply i.word (port_answers em.d (some_at ports m))) e h.answers;
        free = subst (λ (i : Inputs). FreeLaw stands k i.reply (λ j. moves (place_at p r j)) (frees m)) e h.free;
        step = subst (λ (i : Inputs). port_laws.StepLaw stands k (own_at port_laws.own ports m) em.d
            (record {
              reply = i.reply;
              moves = λ j. moves (place_at p r j);
              removed = λ j. gates.kill (place_at p r j);
              asked = asked_into p vs moves m r;
            })) e h.step;
      }

  -- ---- orders

  orders_step : (f : ℕ) → f < length p.stages → IsOrderStepped em.g em.d p n.ends n.moves.squashes n.orders f
  orders_step f low =
      order_stays_stepped em.g em.j em.d p n.ends n.moves.squashes n.orders f
      (λ r e. order_kept l n em f r low e (em.layout.stand_orders.each f r low e).owned) (em.orders_stepped f low)

  -- the orders of merged forks have their laws
  pub orders_are : (f q : ℕ) → f < length p.stages → (stage_at p q).merges ≡ Some f → HasOrder p em.d vs gates moves sides (own_at order_laws.own n.orders f) f
  orders_are f q low merges =
      let stand = order_steps.orders_stand em.a em.g p n.orders (keeps_ag l n em) em.layout.stand_orders in
      has_orders em.g em.d p n.ends n.moves.squashes vs gates moves ports (inputs_of p) frees n.orders (squashes_of l n em)
      (keeps_gd l n em) (are_stages l n em em.g (keeps_cg l n em)) stand orders_step f q low merges
