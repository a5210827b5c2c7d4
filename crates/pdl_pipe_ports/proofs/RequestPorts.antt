-- The ports of a netlist beside what the stages ask of delayed memories and take of them.
use Rattle.std.proofs.Common.{◌≡◌, ◌∙◌, ℕ, ◌<◌, true, false, List, length, inl, inr, refl, sym, ap, arith}
use Rattle.std.proofs.lemmas.Bool.{cases_lt}
use Rattle.std.proofs.lemmas.List.{get_or_past}
use Rattle.std.specs.Prelude.{Option, Some, None, is_some}
use Rattle.pdl_semantics.specs.Flat.{Pipe}
use Rattle.pdl_net.specs.Circuit.{Circuit}
use Rattle.pdl_net.specs.Meaning.{signal}
use Rattle.pdl_port.specs.declared.PortRegs.{PortRegs}
use Rattle.pdl_port.specs.Laws.{own as port_own}
use Rattle.pdl_law_sides.specs.Readings.{Reading, reading}
use Rattle.pdl_pipe_walk.specs.Locked.{some_at}
use Rattle.pdl_pipe_beside.specs.declared.PortInput.{PortInput}
use Rattle.pdl_pipe_beside.specs.declared.ends.StageEnd.{StageEnd}
use Rattle.pdl_pipe_beside.specs.declared.outside.RequestNets.{RequestNets}
use Rattle.pdl_pipe_beside.specs.Parts.{AreParts}
use Rattle.pdl_pipe_beside.specs.Ports.{has_port}
use Rattle.pdl_pipe_beside.specs.Requests.{IsRequest, AreRequests}
use Rattle.pdl_pipe_beside.specs.Beside.{AreTaken}
use Rattle.pdl_pipe_ports.specs.ToldOutputs.{IsThereRequest, AreAsked}
use Rattle.pdl_pipe_ports.specs.Inputs.{AreReplies, told_inputs, input_where, AreWhereRead, AreReadDelayed}

-- what the stages ask is there to be shown
pub are_asked : (a c : Circuit) (p : Pipe) (es : List StageEnd) (rs : List (Option RequestNets))
    → AreRequests a c p es rs (length p.mems) → AreAsked c p rs
are_asked a c p es rs h = record {
  count = h.count;
  delayed = λ m l. (h.each m l).some;
  there = λ m l. at m (some_at rs m) ((h.each m l).asks);
}
  where
    at : (m : ℕ) (o : Option RequestNets) → ((x : RequestNets) → o ≡ Some x → IsRequest a c p es m x) → IsThereRequest c o
    at m None f = tt
    at m (Some x) f = let r = f x refl in (r.enable_bit.there, r.addr_there)

-- ports that were made of what comes from the memories that are read take it as the law says
module _ (a c : Circuit) (p : Pipe) (ins xs : List (Option PortInput)) (qs : List (Option PortRegs)) (low high : ℕ)
    (replies : AreReplies c p ins (length p.mems)) (delayed : AreReadDelayed p)
    (read : AreWhereRead p ins xs (length ins))
    (ports : AreParts port_own (has_port a p xs) low high qs (length p.mems)) where
  module _ (m : ℕ) (q : PortRegs) (here : some_at qs m ≡ Some q) where
    within : m < length p.mems
    within = elim (cases_lt m (length p.mems)) [ inl l ↦ l | inr l ↦ absurd (none (sym (get_or_past qs m None (omega (arith, l, ports.count))) ∙ here)) ]
      where
        none : (let o : Option PortRegs = None in o ≡ Some q) → ⊥
        none e = cc

    reading_is : (r : Reading) × (reading p m ≡ Some r)
    reading_is = at (reading p m) refl
      where
        at : (o : Option Reading) → reading p m ≡ o → (r : Reading) × (reading p m ≡ Some r)
        at None e =
            absurd
            (let f : true ≡ false = sym (ap (λ (o : Option PortRegs). is_some o) here) ∙ (ports.each m within).some
            ∙ ap (λ (o : Option Reading). is_some o) e in
            cc)
        at (Some r) e = (r, e)

    input_is : (i : PortInput) × (some_at ins m ≡ Some i)
    input_is = at (some_at ins m) refl
      where
        at : (o : Option PortInput) → some_at ins m ≡ o → (i : PortInput) × (some_at ins m ≡ Some i)
        at None e =
            absurd
            (let f : false ≡ true = sym (ap (λ (o : Option PortInput). is_some o) e) ∙ (replies.each m within).some ∙ (delayed m reading_is.0 reading_is.1).1 in
            cc)
        at (Some i) e = (i, e)

    taken_is : some_at xs m ≡ Some input_is.0
    taken_is = read.each m (omega (arith, within, replies.count)) ∙ ap (λ (r : Option Reading). input_where r (some_at ins m)) reading_is.1 ∙ input_is.1

    -- the port of memory m takes the reply that comes from the memory
    pub reply_taken : signal c q.reply ≡ (told_inputs p m).reply
    reply_taken = ap (signal c) ((ports.each m within).reply input_is.0 q taken_is here) ∙ ((replies.each m within).reply input_is.0 input_is.1).same

    -- the port of memory m takes the word that comes from the memory
    pub word_taken : signal c q.word ≡ (told_inputs p m).word
    word_taken = ap (signal c) ((ports.each m within).word input_is.0 q taken_is here) ∙ ((replies.each m within).word input_is.0 input_is.1).same

  -- each port takes what comes from its memory
  pub are_taken : AreTaken c qs (told_inputs p)
  are_taken = record { reply = reply_taken; word = word_taken }
