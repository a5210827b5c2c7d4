-- The ports of delayed memories, as they are made and while the circuit grows.
use Rattle.std.proofs.Common.{◌≡◌, ℕ, ◌+◌, ◌-◌, ◌≤◌, ◌∙◌, Bool, List, length, refl, sym, ap, subst, arith}
use Rattle.std.specs.Prelude.{Option, Some, None, is_some}
use Rattle.pdl_semantics.specs.Flat.{Pipe}
use Rattle.pdl_semantics.specs.Stages.{mem_at, stage_at}
use Rattle.pdl_net.specs.declared.Net.{Net}
use Rattle.pdl_net.specs.Circuit.{Circuit, State, HasReg}
use Rattle.pdl_net.specs.Signal.{Signal}
use Rattle.pdl_net.specs.Meaning.{IsThere, signal}
use Rattle.pdl_net.specs.Growth.{Own, Keeps}
use Rattle.pdl_net.proofs.KeptWidths.{width_keeps}
use Rattle.pdl_port.specs.declared.PortRegs.{PortRegs}
use Rattle.pdl_port.specs.Laws.{Replies, HasAnswerNets, IsFragment, StartLaw, AnswerLaw, first_reg, end_reg, own, answer_at, answer_signals, places as port_places}
use Rattle.pdl_port.specs.Places.{ArePlaced, stands}
use Rattle.pdl_port.proofs.PortGrowth.{port_keeps}
use Rattle.pdl_machine_inflight.specs.Readings.{Reading, reading, places, places_of}
use Rattle.pdl_law_sides.specs.HasSides.{HasOwn}
use Rattle.pdl_pipe_answers.specs.Ports.{HasAnswers, IsPortFor, port_at}
use Rattle.pdl_pipe_beside.specs.declared.PortInput.{PortInput}
use Rattle.pdl_pipe_beside.specs.Parts.{AreParts, IsNewPart}
use Rattle.pdl_pipe_beside.specs.Ports.{ReadsLeadOn, IsInput, AreInputs, IsPort, HasPortOf, has_port}

-- ---- a new port

fragment_end : (a b : Circuit) (q : PortRegs) → IsFragment a b q → end_reg q ≤ length b.regs
unfolding HasReg
fragment_end a b q f =
    let n = length q.regs in
    let some : 1 ≤ n = f.some in
    let last = f.has_reg (first_reg q + (n - 1)) (omega arith) (omega (arith, some)) in
    omega (arith, last, some)

-- the registers of a new port are new
pub new_part : (a b : Circuit) (q : PortRegs) → IsFragment a b q → IsNewPart own a b (Some q)
new_part a b q f = record {
  from = λ x e.
      let P : PortRegs → Type 0 = λ y. length a.regs ≤ first_reg y in
      let same : q ≡ x = cc e in
      subst P same f.above;
  to = λ x e.
      let P : PortRegs → Type 0 = λ y. end_reg y ≤ length b.regs in
      let same : q ≡ x = cc e in
      subst P same (fragment_end a b q f);
}

-- the registers of a new port are there
pub own_there : (a b : Circuit) (q : PortRegs) → IsFragment a b q → HasOwn b (own q)
own_there a b q f = record { regs = f.has_reg; none = omega arith }

-- a port of a stage's places, with the laws of its registers, is the port of that stage's delayed read
pub is_port : (c : Circuit) (p : Pipe) (m stage w n : ℕ) (i : PortInput) (q : PortRegs)
    → w ≡ (mem_at p m).width → n ≡ length (places_of (stage_at p stage).next) → IsThere c i.word → q.reply ≡ i.reply
    → q.word ≡ i.word → port_places q ≡ n → HasAnswerNets c w q → ArePlaced c q → HasOwn c (own q)
    → StartLaw (stands q) c (own q) → AnswerLaw (stands q) n (signal c i.reply) (signal c i.word) (answer_signals c q)
    → (r : Reading) → r.stage ≡ stage → IsPort c p m r q
is_port c p m stage w n i q wide are there reply word count nets placed owned starts answers r at =
    let n_is : n ≡ length (places p r) = are ∙ ap (λ k. length (places_of (stage_at p k).next)) (sym at) in
    let W : ℕ → Type 0 = λ v. HasAnswerNets c v q in
    let L : ℕ → Type 0 = λ k. AnswerLaw (stands q) k (signal c q.reply) (signal c q.word) (answer_signals c q) in
    let R : Net → Type 0 = λ x. AnswerLaw (stands q) n (signal c x) (signal c q.word) (answer_signals c q) in
    let V : Net → Type 0 = λ x. AnswerLaw (stands q) n (signal c i.reply) (signal c x) (answer_signals c q) in
    record {
      count = count ∙ n_is;
      nets = subst W wide nets;
      placed = placed;
      word_there = subst (IsThere c) (sym word) there;
      owned = owned;
      starts = starts;
      answers = subst L n_is (subst R (sym reply) (subst V (sym word) answers));
    }

-- ---- a memory's port

-- a memory that is read delayed has this port, where that is made of its inputs
pub port_some : (c : Circuit) (p : Pipe) (m : ℕ) (r : Reading) (i : PortInput) (input : Option PortInput) (q : PortRegs)
    → reading p m ≡ Some r → input ≡ Some i → IsPort c p m r q → q.reply ≡ i.reply → q.word ≡ i.word
    → HasPortOf c p m input (Some q)
port_some c p m r i input q is at x reply word = record {
  some = sym (ap is_some is);
  port = λ s z e f.
      let P : Reading → Type 0 = λ t. IsPort c p m t z in
      let Q : PortRegs → Type 0 = λ t. IsPort c p m r t in
      let one : r ≡ s = cc (is, e) in
      let two : q ≡ z = cc f in
      subst P one (subst Q two x);
  reply = λ j z e f. cc (at, e, f, reply);
  word = λ j z e f. cc (at, e, f, word);
}

-- ---- inputs and ports stay

module _ (a b : Circuit) (k : Keeps a b) where
  -- the inputs of a delayed memory stay, with their widths
  pub input_keeps : (w : ℕ) (i : PortInput) → IsInput a w i → IsInput b w i
  input_keeps w i x = record {
    reply = width_keeps a b i.reply 1 k x.reply;
    word = width_keeps a b i.word w k x.word;
  }

  -- the inputs of all memories that are read delayed stay
  pub inputs_keep : (p : Pipe) (xs : List (Option PortInput)) → AreInputs a p xs → AreInputs b p xs
  inputs_keep p xs h = record { count = h.count; some = h.some; each = λ m i e. input_keeps (mem_at p m).width i (h.each m i e) }

  nets_keep : (w : ℕ) (q : PortRegs) → HasAnswerNets a w q → HasAnswerNets b w q
  nets_keep w q h = record {
    answered = λ j l. width_keeps a b (answer_at q j).answered 1 k (h.answered j l);
    given = λ j l. width_keeps a b (answer_at q j).given 1 k (h.given j l);
    value = λ j l. width_keeps a b (answer_at q j).value w k (h.value j l);
  }

  own_keeps : (o : Own) → HasOwn a o → HasOwn b o
  own_keeps o h = record { regs = λ r lo hi. k.has_reg r (h.regs r lo hi); none = h.none }

  starts_keep : (q : PortRegs) → HasOwn a (own q) → StartLaw (stands q) a (own q) → StartLaw (stands q) b (own q)
  starts_keep q h x = record { starts = λ s z. x.starts s (record { regs = λ r lo hi. z.regs r lo hi ∙ k.reset r (h.regs r lo hi) }) }

  replies_back : (q : PortRegs) (s : State) (r : Bool) (w : ℕ) → signal b q.reply ≡ signal a q.reply
      → signal b q.word ≡ signal a q.word → Replies (signal b q.reply) (signal b q.word) s r w
      → Replies (signal a q.reply) (signal a q.word) s r w
  replies_back q s r w e f x = record {
    reply = ap (λ (g : Signal). g.value s) (sym e) ∙ x.reply;
    word = λ on. ap (λ (g : Signal). g.value s) (sym f) ∙ x.word on;
  }

  laws_keep : (p : Pipe) (m : ℕ) (r : Reading) (q : PortRegs) → IsPort a p m r q
      → AnswerLaw (stands q) (length (places p r)) (signal b q.reply) (signal b q.word) (answer_signals b q)
  laws_keep p m r q x =
      let e = k.kept q.reply x.placed.reply.there in
      let f = k.kept q.word x.word_there in
      record {
        answered = λ s y g w st rep j l.
            ap (λ (z : Signal). z.value s) (k.kept (answer_at q j).answered (x.nets.answered j (omega (arith, l, x.count))).there)
            ∙ x.answers.answered s y g w st (replies_back q s g w e f rep) j l;
        given = λ s y g w st rep j l.
            ap (λ (z : Signal). z.value s) (k.kept (answer_at q j).given (x.nets.given j (omega (arith, l, x.count))).there)
            ∙ x.answers.given s y g w st (replies_back q s g w e f rep) j l;
        value = λ s y g w st rep j l on.
            ap (λ (z : Signal). z.value s) (k.kept (answer_at q j).value (x.nets.value j (omega (arith, l, x.count))).there)
            ∙ x.answers.value s y g w st (replies_back q s g w e f rep) j l on;
      }

  -- the port of a delayed read stays, with its laws
  pub port_stays : (p : Pipe) (m : ℕ) (r : Reading) (q : PortRegs) → IsPort a p m r q → IsPort b p m r q
  port_stays p m r q x = record {
    count = x.count;
    nets = nets_keep (mem_at p m).width q x.nets;
    placed = port_keeps a b q k x.placed;
    word_there = k.there q.word x.word_there;
    owned = own_keeps (own q) x.owned;
    starts = starts_keep q x.owned x.starts;
    answers = laws_keep p m r q x;
  }

  -- that a memory has a port with its inputs just where it is read delayed stays so
  pub has_port_stays : (p : Pipe) (inputs : List (Option PortInput)) (m : ℕ) (o : Option PortRegs) → has_port a p inputs m o → has_port b p inputs m o
  has_port_stays p inputs m o h = record { some = h.some; port = λ r q e f. port_stays p m r q (h.port r q e f); reply = h.reply; word = h.word }

-- ---- what they answer

-- the ports that were made of all memories answer the delayed reads, where these lead on
pub has_answers : (c : Circuit) (p : Pipe) (inputs : List (Option PortInput)) (low high : ℕ) (qs : List (Option PortRegs))
    → ReadsLeadOn p → AreParts own (has_port c p inputs) low high qs (length p.mems) → HasAnswers c p qs
has_answers c p inputs low high qs leads h = record { count = h.count; each = λ m r is. at m r is (port_at qs m) (h.each m (leads.known m r is)) }
  where
    at : (m : ℕ) (r : Reading) → reading p m ≡ Some r → (o : Option PortRegs) → has_port c p inputs m o → IsPortFor c p m r o
    at m r is None x = absurd (cc (x.some, ap is_some is))
    at m r is (Some q) x = let y = x.port r q is refl in (y.count, y.nets)
