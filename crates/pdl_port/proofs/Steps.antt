-- The nets that say whether a port is free and what its registers take next, as they are made.
use Rattle.std.proofs.Common.{◌≡◌, ℕ, ◌+◌, ◌<◌, refl, ap, ◌∙◌, add-one, arith, inl}
use Rattle.pdl_net.specs.declared.Net.{Net}
use Rattle.pdl_net.specs.declared.Net.TheVariants.{Reg}
use Rattle.pdl_net.specs.Circuit.{Circuit}
use Rattle.pdl_net.specs.Signal.{Signal, reg_signal, const_signal, mux_signal}
use Rattle.pdl_net.specs.Meaning.{signal, Means, next_signal}
use Rattle.pdl_net.specs.Growth.{Keeps, Extends, ExtendsBut}
use Rattle.pdl_build.specs.Change.{one_reg}
use Rattle.pdl_port.specs.declared.PortRegs.{PortRegs}
use Rattle.pdl_port.specs.declared.PortStep.{PortStep}
use Rattle.pdl_port.specs.declared.layout.PortLayout.{PortLayout}
use Rattle.pdl_port.specs.Laws.{StepSignals, step_signals, net_at}
use Rattle.pdl_port.specs.Places.{HasPlaces, HasStep, owns_at}
use Rattle.pdl_port.specs.Nets.{owns_signal, free_signal, open_signal, orphan_signal, next_owns, NextPlaces}
use Rattle.pdl_word.proofs.Numbers.{upto}

-- by no places, a port is free where there is no orphan, or the orphan is answered
pub free_none : (l : PortLayout) (reply : Signal) (moves : ℕ → Signal)
    → free_signal l reply moves 0 ≡ mux_signal (reg_signal 1 l.from) reply (const_signal 1 1)
unfolding free_signal
free_none l reply moves = refl

-- whether a port is free by the first k + 1 places, by whether it is by the first k
pub free_more : (l : PortLayout) (reply : Signal) (moves : ℕ → Signal) (k : ℕ)
    → free_signal l reply moves (k + 1)
    ≡ mux_signal (owns_signal l k) (mux_signal reply (moves k) (const_signal 1 0)) (free_signal l reply moves k)
unfolding free_signal
free_more l reply moves k = ap (free_signal l reply moves) (add-one k)

pub ruleset frees = (free_none, free_more)

-- by no places, an orphan is left where there was one that isn't answered
pub orphan_none : (l : PortLayout) (f : StepSignals) → orphan_signal l f 0 ≡ mux_signal f.reply (const_signal 1 0) (reg_signal 1 l.from)
unfolding orphan_signal
orphan_none l f = refl

-- whether an orphan is left by the first k + 1 places, by whether one is by the first k
pub orphan_more : (l : PortLayout) (f : StepSignals) (k : ℕ)
    → orphan_signal l f (k + 1)
    ≡ mux_signal (f.removed k) (mux_signal (open_signal l f k) (const_signal 1 1) (orphan_signal l f k)) (orphan_signal l f k)
unfolding orphan_signal
orphan_more l f k = ap (orphan_signal l f) (add-one k)

pub ruleset orphans = (orphan_none, orphan_more)

-- the nets of a step mean what they meant
pub record SameStep (n : ℕ) (f g : StepSignals) : Type 0 where
  pub reply : f.reply ≡ g.reply
  pub moves : (k : ℕ) → k < n → f.moves k ≡ g.moves k
  pub removed : (k : ℕ) → k < n → f.removed k ≡ g.removed k
  pub asked : (k : ℕ) → k < n → f.asked k ≡ g.asked k

-- the nets of a step mean the same in a circuit that keeps them
pub same_step : (a b : Circuit) (n : ℕ) (r : PortRegs) (p : PortStep) → HasStep a n r p → Keeps a b
    → SameStep n (step_signals b r p) (step_signals a r p)
same_step a b n r p x k = record {
  reply = k.kept r.reply x.reply.there;
  moves = λ j h. k.kept (net_at p.moves j) (x.moves j h).there;
  removed = λ j h. k.kept (net_at p.removed j) (x.removed j h).there;
  asked = λ j h. k.kept (net_at p.asked j) (x.asked j h).there;
}

-- what the register of a place takes next is the same by nets that mean the same
pub owns_same : (l : PortLayout) (n : ℕ) (f g : StepSignals) (k : ℕ) → SameStep n f g → k < n → next_owns l f k ≡ next_owns l g k
owns_same l n f g k s h = let a = s.asked k h in let b = s.removed k h in let e = s.reply in cc

-- the registers of the first n places take what they should by nets that mean the same
pub places_same : (c : Circuit) (l : PortLayout) (n : ℕ) (f g : StepSignals) → SameStep n f g → NextPlaces c l f n → NextPlaces c l g n
places_same c l n f g s x = record { owns = λ k h. x.owns k h ∙ owns_same l n f g k s h }

-- the register of one more place takes what it is to take
pub places_next : (a b c : Circuit) (l : PortLayout) (n : ℕ) (f : StepSignals) (k : ℕ)
    → k < n → HasPlaces a l n → NextPlaces a l f k → Extends a b → ExtendsBut (one_reg (owns_at l k)) b c
    → next_signal c (owns_at l k) ≡ next_owns l f k → NextPlaces c l f (k + 1)
places_next a b c l n f k h x y e o p = record {
  owns =
      upto (λ j. next_signal c (owns_at l j) ≡ next_owns l f j) k p
      (λ j lt. let g = x.has_owns j (omega arith) in o.nexts (owns_at l j) (e.has_reg _ g) (inl (omega arith)) ∙ e.nexts (owns_at l j) g ∙ y.owns j lt);
}

-- whether an orphan is left by one place more
pub orphan_net : (a b m n d : Circuit) (l : PortLayout) (r : PortRegs) (p : PortStep) (k : ℕ)
    (one nought orphan open_net left removed next : Net)
    → HasPlaces a l l.places → HasStep a l.places r p → k < l.places → Extends a b → Extends b m → Extends m n
    → Means b one (const_signal 1 1) → Means b nought (const_signal 1 0)
    → Means b orphan (orphan_signal l (step_signals a r p) k) → removed ≡ net_at p.removed k
    → Means m open_net (mux_signal (signal b r.reply) (signal b nought) (signal b (Reg (owns_at l k))))
    → Means n left (mux_signal (signal m open_net) (signal m one) (signal m orphan))
    → Means d next (mux_signal (signal n removed) (signal n left) (signal n orphan))
    → Means d next (orphan_signal l (step_signals a r p) (k + 1))
orphan_net a b m n d l r p k one nought orphan open_net left removed next h g i x y z u v w e o q t =
    let reply = x.kept r.reply g.reply.there in
    let none = v.same in
    let owns = x.kept (Reg (owns_at l k)) (h.owns_there k i) ∙ h.owner k i in
    let opened = o.same in
    let one_m = y.kept one u.there ∙ u.same in
    let orphan_m = y.kept orphan w.there ∙ w.same in
    let made = q.same in
    let orphan_n = z.kept orphan (y.there orphan w.there) ∙ orphan_m in
    let gone =
    z.kept (net_at p.removed k) (y.there _ (x.there _ (g.removed k i).there))
    ∙ y.kept (net_at p.removed k) (x.there _ (g.removed k i).there)
    ∙ x.kept (net_at p.removed k) (g.removed k i).there in
    let named = ap (signal n) e in
    let more = orphan_more l (step_signals a r p) k in
    let last = t.same in
    record { there = t.there; same = cc }
