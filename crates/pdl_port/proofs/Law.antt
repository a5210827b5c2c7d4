-- The laws of a port, from what its nets mean and its registers take next.
use Rattle.std.proofs.Common.{◌≡◌, ℕ, zero, suc, ◌+◌, ◌<◌, ◌≤◌, Bool, true, false, refl, ap, ◌∙◌, arith}
use Rattle.std.specs.Prelude.{◌&&◌, if◌then◌else◌, slice_index}
use Rattle.pdl_word.specs.Words.{bit}
use Rattle.pdl_net.specs.Circuit.{Circuit, State}
use Rattle.pdl_net.specs.Signal.{Signal, reg_signal, const_signal, mux_signal, const_value, reg_value}
use Rattle.pdl_net.specs.Meaning.{next_signal}
use Rattle.pdl_lockapi.specs.Laws.{IsNext}
use Rattle.pdl_port.specs.declared.layout.PortLayout.{PortLayout}
use Rattle.pdl_port.specs.Port.{PortState, PortAct, owns}
use Rattle.pdl_port.specs.Laws.{AnswerSignals, StepSignals, AreBits, Drives, StartLaw, AnswerLaw, FreeLaw, StepLaw}
use Rattle.pdl_port.specs.Places.{AreReset, Stands, is_orphan, owns_at}
use Rattle.pdl_port.specs.Nets.{owns_signal, place_signals, free_signal, open_signal, next_owns, orphan_signal, NextPort, own_all}
use Rattle.pdl_port.proofs.Bits.{still, owns_after, lost, orphan_after, below_after, frees, frees_is}
use Rattle.pdl_net.proofs.Signals.{mux_at}

bit_if : (t x y : Bool) → (if t then bit x else bit y) ≡ bit (if t then x else y)
bit_if true x y = refl
bit_if false x y = refl

-- a choice between bits, and between a constant and a bit
choose : (c a b : Signal) (s : State) (t x y : Bool)
    → c.value s ≡ bit t → a.value s ≡ bit x → b.value s ≡ bit y → (mux_signal c a b).value s ≡ bit (if t then x else y)
choose c a b s t x y e f g =
    mux_at c a b s t e ∙ ap (λ n. if t then n else b.value s) f ∙ ap (λ n. if t then bit x else n) g ∙ bit_if t x y

one_at : (s : State) → (const_signal 1 1).value s ≡ bit true
unfolding const_value
one_at s = refl

zero_at : (s : State) → (const_signal 1 0).value s ≡ bit false
unfolding const_value
zero_at s = refl

-- the registers as signals
orphan_at : (l : PortLayout) (s : State) (x : PortState) → Stands l s x → (reg_signal 1 l.from).value s ≡ bit (is_orphan x)
unfolding reg_value
orphan_at l s x h = h.orphan

owner_at : (l : PortLayout) (s : State) (x : PortState) (k : ℕ) → Stands l s x → k < l.places → (owns_signal l k).value s ≡ bit (owns x k)
unfolding reg_value
owner_at l s x k h i = h.owner k i

-- registers at reset stand for a port at its start
pub start_law : (c : Circuit) (l : PortLayout) → AreReset c l l.places → StartLaw (Stands l) c (own_all l)
start_law c l r = record {
  starts = λ s h. record {
    below = λ k e. absurd (cc e);
    orphan = h.regs l.from (omega arith) (omega arith) ∙ r.orphan;
    owner = λ k i. h.regs (owns_at l k) (omega arith) (omega arith) ∙ r.owns k i;
  };
}

-- the nets of the answers keep the law of a port's answers
pub answer_law : (l : PortLayout) (reply word : Signal) (f : ℕ → AnswerSignals)
    → ((k : ℕ) → k < l.places → f k ≡ place_signals l reply word k) → AnswerLaw (Stands l) l.places reply word f
answer_law l reply word f same = record {
  answered =
      λ s x r w h p k i. ap (λ (g : AnswerSignals). g.answered.value s) (same k i)
      ∙ choose (owns_signal l k) reply (const_signal 1 1) s (owns x k) r true (owner_at l s x k h i) p.reply (one_at s);
  given =
      λ s x r w h p k i. ap (λ (g : AnswerSignals). g.given.value s) (same k i)
      ∙ choose (owns_signal l k) reply (const_signal 1 0) s (owns x k) r false (owner_at l s x k h i) p.reply (zero_at s);
  value = λ s x r w h p k i e. ap (λ (g : AnswerSignals). g.value.value s) (same k i) ∙ p.word (comes (owns x k) r e);
}
  where
    comes : (b r : Bool) → (if b then r else false) ≡ true → r ≡ true
    comes true r e = e
    comes false r e = absurd (cc e)

-- whether the port is free
free_value : (l : PortLayout) (reply : Signal) (moves : ℕ → Signal) (s : State) (x : PortState) (r : Bool) (on : ℕ → Bool)
    → Stands l s x → reply.value s ≡ bit r → AreBits l.places s moves on → (n : ℕ) → n ≤ l.places
    → (free_signal l reply moves n).value s ≡ bit (frees x r on n)
unfolding free_signal
free_value l reply moves s x r on h e m zero i = choose (reg_signal 1 l.from) reply (const_signal 1 1) s (is_orphan x) r true (orphan_at l s x h) e (one_at s)
free_value l reply moves s x r on h e m (suc k) i =
    choose (owns_signal l k) (mux_signal reply (moves k) (const_signal 1 0)) (free_signal l reply moves k) s (owns x k) (r && on k) (frees x r on k)
    (owner_at l s x k h (omega arith))
    (choose reply (moves k) (const_signal 1 0) s r (on k) false e (m k (omega arith)) (zero_at s) ∙ ap bit (both r (on k)))
    (free_value l reply moves s x r on h e m k (omega arith))
  where
    both : (a b : Bool) → (if a then b else false) ≡ (a && b)
    both true b = refl
    both false b = refl

-- the net of whether a port is free keeps its law, where it means this signal
pub free_law : (l : PortLayout) (reply : Signal) (moves : ℕ → Signal) (free : Signal)
    → free ≡ free_signal l reply moves l.places → FreeLaw (Stands l) l.places reply moves free
free_law l reply moves free same = record {
  holds =
      λ s x r on h p m. ap (λ (g : Signal). g.value s) same
      ∙ free_value l reply moves s x r on h p m l.places (omega arith) ∙ ap bit (frees_is x r on l.places h.below);
}

-- what the registers take next
open_value : (l : PortLayout) (f : StepSignals) (s : State) (x : PortState) (a : PortAct) (k : ℕ) → Stands l s x
    → Drives l.places f s a → k < l.places → (open_signal l f k).value s ≡ bit (if a.reply then false else owns x k)
open_value l f s x a k h d i = choose f.reply (const_signal 1 0) (owns_signal l k) s a.reply false (owns x k) d.reply (zero_at s) (owner_at l s x k h i)

owns_value : (l : PortLayout) (f : StepSignals) (s : State) (x : PortState) (a : PortAct) (k : ℕ) → Stands l s x
    → Drives l.places f s a → k < l.places
    → (next_owns l f k).value s ≡ bit (if a.asked k then true else still (a.removed k) a.reply (owns x k))
owns_value l f s x a k h d i =
    choose (f.asked k) (const_signal 1 1)
    (mux_signal (f.removed k) (const_signal 1 0) (open_signal l f k)) s (a.asked k) true (still (a.removed k) a.reply (owns x k))
    (d.asked k i) (one_at s)
    (choose (f.removed k) (const_signal 1 0)
    (open_signal l f k) s (a.removed k) false (if a.reply then false else owns x k) (d.removed k i) (zero_at s)
    (open_value l f s x a k h d i))

orphan_value : (l : PortLayout) (f : StepSignals) (s : State) (x : PortState) (a : PortAct) → Stands l s x
    → Drives l.places f s a → (n : ℕ) → n ≤ l.places → (orphan_signal l f n).value s ≡ bit (lost a x n)
unfolding orphan_signal
orphan_value l f s x a h d zero i =
    choose f.reply (const_signal 1 0) (reg_signal 1 l.from) s a.reply false (is_orphan x) d.reply (zero_at s) (orphan_at l s x h)
orphan_value l f s x a h d (suc k) i =
    let before = orphan_value l f s x a h d k (omega arith) in
    let left = if (if a.reply then false else owns x k) then true else lost a x k in
    choose (f.removed k) (mux_signal (open_signal l f k) (const_signal 1 1) (orphan_signal l f k))
    (orphan_signal l f k) s (a.removed k) left (lost a x k) (d.removed k (omega arith))
    (choose (open_signal l f k) (const_signal 1 1)
    (orphan_signal l f k) s (if a.reply then false else owns x k) true (lost a x k)
    (open_value l f s x a k h d (omega arith)) (one_at s) before)
    before

-- the register of a fragment after a cycle
next_at : (c : Circuit) (l : PortLayout) (s t : State) (r : ℕ) (f : Signal) → IsNext c (own_all l) s t
    → l.from ≤ r → r < l.from + (l.places + 1) → next_signal c r ≡ f → slice_index t.regs r ≡ f.value s
next_at c l s t r f n lo hi e = n.regs r lo hi ∙ ap (λ (g : Signal). g.value s) e

-- a port keeps the law of its step, where its registers take what they should
pub step_law : (c : Circuit) (l : PortLayout) (f : StepSignals) → NextPort c l f → StepLaw (Stands l) l.places (own_all l) c f
step_law c l f p = record {
  next = λ s t x a h d u n. record {
    below = λ k e. below_after a x l.places k h.below e;
    orphan =
        next_at c l s t l.from (orphan_signal l f l.places) n (omega arith) (omega arith) p.orphan
        ∙ orphan_value l f s x a h d l.places (omega arith) ∙ ap bit (orphan_after a x l.places h.below u.free);
    owner =
        λ k i. next_at c l s t (owns_at l k) (next_owns l f k) n (omega arith) (omega arith) (p.places.owns k i)
        ∙ owns_value l f s x a k h d i ∙ ap bit (owns_after a x l.places k i u.one u.free);
  };
}
