-- The registers of a port that has been made, by what its calls answer.
use Rattle.std.proofs.Common.{◌≡◌, ℕ, ◌+◌, ◌^◌, ◌<◌, length, sym, ap, ◌∙◌, subst, arith}
use Rattle.std.specs.Prelude.{slice_index}
use Rattle.pdl_net.specs.Circuit.{Circuit, HasReg}
use Rattle.pdl_net.specs.Meaning.{signal}
use Rattle.pdl_net.specs.Growth.{Extends}
use Rattle.pdl_net.specs.HasWidth.{HasWidth}
use Rattle.pdl_port.specs.declared.PortRegs.{PortRegs}
use Rattle.pdl_port.specs.declared.layout.PortLayout.{PortLayout}
use Rattle.pdl_port.specs.Laws.{places, first_reg, own, IsFragment, answer_signals}
use Rattle.pdl_port.specs.Places.{HasPlaces, ArePlaced, layout_of}
use Rattle.pdl_port.specs.Nets.{AreAnswers, place_signals, own_all}

-- the numbers of a port's registers
pub record AreListed (l : PortLayout) (r : PortRegs) : Type 0 where
  pub count : length r.regs ≡ l.places + 1
  pub listed : (k : ℕ) → k < l.places + 1 → slice_index r.regs k ≡ l.from + k
  pub answers : length r.answers ≡ l.places

first_is : (l : PortLayout) (r : PortRegs) → AreListed l r → first_reg r ≡ l.from
first_is l r a = a.listed 0 (omega arith) ∙ omega arith

-- the layout of a port by its registers is the one by which they are listed
pub layout_is : (l : PortLayout) (r : PortRegs) → AreListed l r → layout_of r ≡ l
layout_is l r a =
    let From : ℕ → PortLayout = λ m. record { from = m; places = places r } in
    let Places : ℕ → PortLayout = λ m. record { from = l.from; places = m } in
    ap From (first_is l r a) ∙ ap Places a.answers

-- the registers of a port's layout are its own, where they are one more than its places
pub own_is : (r : PortRegs) → length r.regs ≡ places r + 1 → own_all (layout_of r) ≡ own r
own_is r e = ap (λ (n : ℕ). record { from = first_reg r; to = first_reg r + n; first = 0; last = 0 }) (sym e)

-- the registers of a port are in a circuit as they are listed, with the net of its reply
pub are_placed : (c : Circuit) (l : PortLayout) (r : PortRegs) → AreListed l r
    → l.from + l.places + 1 < 2 ^ 64 → HasPlaces c l l.places → HasWidth c r.reply 1 → ArePlaced c r
are_placed c l r a small h p =
    let P : PortLayout → Type 0 = λ y. HasPlaces c y y.places in
    let e = first_is l r a in
    let n = a.answers in
    record {
      count = a.count ∙ ap (λ m. m + 1) (sym n);
      small = omega (arith, e, n, small);
      reply = p;
      regs = subst P (sym (layout_is l r a)) h;
    }

-- the registers of a port, as they are listed, are new and follow one another
pub is_fragment : (a b c : Circuit) (l : PortLayout) (r : PortRegs) → AreListed l r
    → l.from ≡ length a.regs → length b.regs ≡ l.from + l.places + 1 → Extends b c → IsFragment a c r
unfolding HasReg
is_fragment a b c l r x f n e =
    let g = first_is l r x in
    record {
      some = omega (arith, x.count);
      listed = λ k h. x.listed k (omega (arith, x.count, h)) ∙ omega (arith, g);
      above = omega (arith, f, g);
      has_reg = λ k lo hi. e.has_reg k (omega (arith, n, g, x.count, hi));
    }

-- the answers' nets are what they mean
pub answers_are : (a c : Circuit) (l : PortLayout) (r : PortRegs)
    → AreAnswers c l (signal a r.reply) (signal a r.word) r.answers l.places → signal c r.reply ≡ signal a r.reply
    → signal c r.word ≡ signal a r.word → (k : ℕ) → k < l.places
    → answer_signals c r k ≡ place_signals l (signal c r.reply) (signal c r.word) k
answers_are a c l r h p q k i =
    let x = (h.answered k i).same in
    let y = (h.given k i).same in
    let z = (h.value k i).same in
    cc
