-- Registers of tails, and what comes into them.
use Rattle.std.proofs.Common.{◌≡◌, inl, inr, refl, sym, ap, ap₂, ◌∙◌, subst, ℕ, ◌+◌, ◌<◌, ◌≤◌, List, [], ◌∷◌, length, drop, get_or, arith}
use Rattle.std.proofs.lemmas.List.{drop_more}
use Rattle.pdl_word.proofs.Each.{each_get}
use Rattle.pdl_kit.specs.declared.seq.Seq.{Seq}
use Rattle.pdl_net.specs.declared.Net.{Net}
use Rattle.pdl_net.specs.Circuit.{Circuit, State, HasReg}
use Rattle.pdl_net.specs.Signal.{Signal, mux_signal}
use Rattle.pdl_net.specs.Meaning.{signal}
use Rattle.pdl_net.specs.Growth.{Keeps, Extends, ExtendsBut}
use Rattle.pdl_net.proofs.KeptWidths.{width_keeps}
use Rattle.pdl_build.specs.Change.{one_reg}
use Rattle.pdl_pipe_exprs.specs.Nets.{signal_at}
use Rattle.pdl_pipe_exprs.proofs.NetLists.{there_keeps, signals_keep}
use Rattle.pdl_pipe_nexts.specs.declared.arrivals.Arrival.{Arrival}
use Rattle.pdl_pipe_nexts.specs.Lines.{IsBit}
use Rattle.pdl_pipe_tails.specs.Carried.{tail_in, brought_tail, HaveTails, AreComing, IsCarried}

-- ---- threads that may come, and the tails of earlier stages

-- threads that may come out of the first n stages stay so in a circuit that keeps their nets
pub coming_keep : (a b : Circuit) (n : ℕ) (ys : List Arrival) → Keeps a b → AreComing a n ys → AreComing b n ys
coming_keep a b n [] e h = tt
coming_keep a b n (y ∷ ys) e h =
    ((width_keeps a b y.comes 1 e h.0.0, h.0.1), coming_keep a b n ys e h.1)

-- the i-th thread that may come has a net of 1 bit, and comes out of one of the first n stages
pub coming_nth : (c : Circuit) (n : ℕ) (ys : List Arrival) (i : ℕ) (y : Arrival)
    → i < length ys → y ≡ get_or ys i y → AreComing c n ys → IsBit c y.comes × (y.from < n)
coming_nth c n ys i y l e h =
    subst (λ (z : Arrival). IsBit c z.comes × (z.from < n)) (sym e) (each_get (λ (z : Arrival). IsBit c z.comes × (z.from < n)) ys i y l h)

-- the tail of a memory in stage k is the same in a circuit that keeps its net
pub tail_keep : (a b : Circuit) (m w : ℕ) (rows : List (Seq Net)) (k : ℕ) → Keeps a b
    → k < length rows → HaveTails a m w rows → tail_in b rows [] k m ≡ tail_in a rows [] k m
tail_keep a b m w rows k e l h = ap (λ fs. signal_at fs m) (signals_keep a b (get_or rows k []) e (h k l).there)

-- the tails of a memory in all stages stay in a circuit that keeps their nets
pub tails_keep : (a b : Circuit) (m w : ℕ) (rows : List (Seq Net)) → Keeps a b → HaveTails a m w rows → HaveTails b m w rows
tails_keep a b m w rows e h = λ k l.
    let t = h k l in
    record { there = there_keeps a b (get_or rows k []) e t.there; low = t.low; wide = ap (λ (g : Signal). g.width) (tail_keep a b m w rows k e l h) ∙ t.wide }

-- ---- what they bring

-- the threads from the i-th on bring the tail of the i-th where it comes, else what the later ones bring
pub brought_more : (c : Circuit) (rows : List (Seq Net)) (m : ℕ) (ys : List Arrival) (i : ℕ) (y : Arrival) (rest : Signal)
    → i < length ys → y ≡ get_or ys i y
    → brought_tail c rows m (drop i ys) rest
    ≡ mux_signal (signal c y.comes) (tail_in c rows [] y.from m) (brought_tail c rows m (drop (i + 1) ys) rest)
brought_more c rows m ys i y rest l e =
    ap (λ zs. brought_tail c rows m zs rest) (drop_more ys i y l) ∙ ap (λ (z : Arrival). brought_tail c rows m (z ∷ drop (i + 1) ys) rest) (sym e)

-- the tail that the first thread that comes brings is the same in a circuit that keeps the nets
pub brought_keep : (a b : Circuit) (m w : ℕ) (rows : List (Seq Net)) (ys : List Arrival) (rest : Signal) → Keeps a b
    → AreComing a (length rows) ys → HaveTails a m w rows
    → brought_tail b rows m ys rest ≡ brought_tail a rows m ys rest
brought_keep a b m w rows [] rest e h t = refl
brought_keep a b m w rows (y ∷ ys) rest e h t =
    ap₂ (λ f g. mux_signal f g (brought_tail b rows m ys rest)) (e.kept y.comes h.0.0.there) (tail_keep a b m w rows y.from e h.0.1 t)
    ∙ ap (mux_signal (signal a y.comes) (tail_in a rows [] y.from m)) (brought_keep a b m w rows ys rest e h.1 t)

-- ---- a register more

-- what a new register takes changes nothing of the older ones
pub extends_new : (a b c : Circuit) (r : ℕ) → length a.regs ≤ r → Extends a b → ExtendsBut (one_reg r) b c → Extends a c
unfolding HasReg
extends_new a b c r l x y = record {
  there = λ n h. y.there n (x.there n h);
  kept = λ n h. y.kept n (x.there n h) ∙ x.kept n h;
  has_reg = λ q h. y.has_reg q (x.has_reg q h);
  width = λ q h. y.width q (x.has_reg q h) ∙ x.width q h;
  reset = λ q h. y.reset q (x.has_reg q h) ∙ x.reset q h;
  has_array = λ m h. y.has_array m (x.has_array m h);
  word = λ m h. y.word m (x.has_array m h) ∙ x.word m h;
  depth = λ m h. y.depth m (x.has_array m h) ∙ x.depth m h;
  nexts = λ q h. y.nexts q (x.has_reg q h) (inl (omega (arith, h, l))) ∙ x.nexts q h;
  writes = λ m h. y.writes m (x.has_array m h) (inr (omega arith)) ∙ x.writes m h;
  ports = y.ports ∙ x.ports;
  shapes = y.shapes ∙ x.shapes;
}

-- a register carries on what it takes next while the circuit grows
pub carried_keep : (b c : Circuit) (low : ℕ) (g taken : Signal) → Extends b c → IsCarried b low g taken → IsCarried c low g taken
carried_keep b c low g taken e h = record {
  reg = h.reg;
  above = h.above;
  has = e.has_reg h.reg h.has;
  same = h.same;
  takes = λ s. ap (λ (f : Signal). f.value s) (e.nexts h.reg h.has) ∙ h.takes s;
}

-- a register carries a ticket as well from a lower number on, and by what has the same values
pub carried_as : (c : Circuit) (low from : ℕ) (g taken brought : Signal)
    → low ≤ from → ((s : State) → taken.value s ≡ brought.value s) → IsCarried c from g taken
    → IsCarried c low g brought
carried_as c low from g taken brought l e h = record {
  reg = h.reg;
  above = (let n = h.above in omega (arith, n, l));
  has = h.has;
  same = h.same;
  takes = λ s. h.takes s ∙ e s;
}
