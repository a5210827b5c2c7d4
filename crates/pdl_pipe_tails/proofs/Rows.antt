-- The tails of a stage, one after the other, and how they stay while the circuit grows.
use Rattle.std.proofs.Common.{◌≡◌, refl, sym, ap, ap₂, ◌∙◌, subst, ℕ, ◌+◌, ◌<◌, Bool, List, [], ◌∷◌, ◌++◌, map, length, arith}
use Rattle.std.specs.Prelude.{if◌then◌else◌}
use Rattle.pdl_word.specs.Each.{Each}
use Rattle.pdl_kit.specs.declared.seq.Seq.{Seq}
use Rattle.pdl_semantics.specs.Flat.{Pipe}
use Rattle.pdl_machine_facts.specs.Slots.{ways}
use Rattle.pdl_net.specs.declared.Net.{Net}
use Rattle.pdl_net.specs.Circuit.{Circuit, State}
use Rattle.pdl_net.specs.Signal.{Signal, mux_signal}
use Rattle.pdl_net.specs.Meaning.{signal}
use Rattle.pdl_net.specs.Growth.{Keeps, Extends}
use Rattle.pdl_net.proofs.Keeps.{extends_keeps, regs_grow}
use Rattle.pdl_pipe_exprs.specs.Nets.{NetsThere, signals_in, signal_at}
use Rattle.pdl_pipe_exprs.proofs.NetLists.{there_keeps, signals_keep}
use Rattle.pdl_law_parts.specs.Walk.{is_on}
use Rattle.pdl_law_parts.specs.Views.{View, Comer, out_of, first_coming}
use Rattle.pdl_law_parts.specs.Ports.{all_reserves}
use Rattle.pdl_law_parts.proofs.Signals.{mux_by}
use Rattle.pdl_law_sides.specs.Sides.{with_tickets}
use Rattle.pdl_pipe_nexts.proofs.pipe_registers.Lists.{up_to}
use Rattle.pdl_pipe_nexts.proofs.pipe_registers.Begins.{next_keep, each_way, signal_old, signal_new}
use Rattle.pdl_pipe_nexts.specs.declared.arrivals.Arrival.{Arrival}
use Rattle.pdl_pipe_nexts.specs.declared.line.StageLine.{StageLine}
use Rattle.pdl_pipe_nexts.specs.Lines.{line_form, line_pipe, line_views, line_moves, IsLineIn}
use Rattle.pdl_pipe_nexts.specs.Arrivals.{AreArrivals}
use Rattle.pdl_pipe_nexts.proofs.LineGrowth.{views_same, all_moves_same}
use Rattle.pdl_pipe_tails.specs.Reserved.{IsAfter, IsAfterAll, AreAfterAll}
use Rattle.pdl_pipe_tails.specs.Carried.{tail_in, brought_tail, coming_tail, HaveTails, AreComing}
use Rattle.pdl_pipe_tails.specs.Tails.{IsTail, IsStageTail, AreStageTails}
use Rattle.pdl_pipe_tails.proofs.TailRegisters.{tail_keep, brought_keep, carried_keep, carried_as}

-- ---- the next tickets, as the circuit was before

-- a ticket after all reservations is so as well by the line's nets as they stood in an earlier circuit
pub after_from : (a b : Circuit) (x : StageLine) (m : ℕ) (g : Signal) → Keeps a b → IsLineIn a x → IsAfterAll b x m g → IsAfterAll a x m g
after_from a b x m g e line h =
    subst (λ vs. IsAfter (signal_at (signals_in a x.shared.now.next) m) g (all_reserves m vs (line_moves a x) (length x.stages.now) 0))
    (views_same a b x e line)
    (subst (λ ms. IsAfter (signal_at (signals_in a x.shared.now.next) m) g (all_reserves m (line_views b x) ms (length x.stages.now) 0))
    (all_moves_same a b x e line)
    (subst (λ fs. IsAfter (signal_at fs m) g (all_reserves m (line_views b x) (line_moves b x) (length x.stages.now) 0))
    (next_keep a b (line_form x) x.shared.now e line.shared) h))

-- and as it is later
after_now : (a b : Circuit) (x : StageLine) (m : ℕ) (g : Signal) → Keeps a b → IsLineIn a x → IsAfterAll a x m g → IsAfterAll b x m g
after_now a b x m g e line h =
    subst (λ fs. IsAfter (signal_at fs m) g (all_reserves m (line_views b x) (line_moves b x) (length x.stages.now) 0))
    (sym (next_keep a b (line_form x) x.shared.now e line.shared))
    (subst (λ ms. IsAfter (signal_at (signals_in a x.shared.now.next) m) g (all_reserves m (line_views b x) ms (length x.stages.now) 0))
    (sym (all_moves_same a b x e line))
    (subst (λ vs. IsAfter (signal_at (signals_in a x.shared.now.next) m) g (all_reserves m vs (line_moves a x) (length x.stages.now) 0))
    (sym (views_same a b x e line)) h))

-- the tickets of all memories after all reservations stay so by the line's nets in a later circuit
pub all_now : (a b c : Circuit) (x : StageLine) (nets : List Net) → Keeps a c → Keeps b c → IsLineIn a x
    → AreAfterAll a b x nets → AreAfterAll c c x nets
all_now a b c x nets ac bc line h = record {
  there = there_keeps b c nets bc h.there;
  count = h.count;
  after =
      λ m l. after_now a c x m (signal_at (signals_in c nets) m) ac line
      (subst (IsAfterAll a x m) (sym (ap (λ fs. signal_at fs m) (signals_keep b c nets bc h.there))) (h.after m l));
}

-- ---- who comes out of earlier stages

-- threads that may come out of stages below n are threads that may come out of the first n
pub arrivals_coming : (c : Circuit) (p : Pipe) (vs : ℕ → View) (moves : ℕ → Signal) (q n : ℕ) (js : List ℕ) (ys : List Arrival)
    → Each (λ j. j < n) js → AreArrivals c p vs moves q js ys → AreComing c n ys
arrivals_coming c p vs moves q n [] [] low h = tt
arrivals_coming c p vs moves q n [] (y ∷ ys) low h = absurd h
arrivals_coming c p vs moves q n (j ∷ js) [] low h = absurd h
arrivals_coming c p vs moves q n (j ∷ js) (y ∷ ys) low h =
    ((h.0.comes.bit, subst (λ i. i < n) (sym h.0.from) low.0), arrivals_coming c p vs moves q n js ys low.1 h.1)

-- what they bring is what the threads bring that come
brought_is : (c : Circuit) (p : Pipe) (vs : ℕ → View) (moves : ℕ → Signal) (q : ℕ) (tails : ℕ → ℕ → Signal)
    (rows : List (Seq Net)) (m : ℕ) (rest : Signal) (s : State)
    → ((j : ℕ) → j < length rows → tails j m ≡ tail_in c rows [] j m) → (js : List ℕ) (ys : List Arrival)
    → AreArrivals c p vs moves q js ys → AreComing c (length rows) ys
    → (brought_tail c rows m ys rest).value s
    ≡ (first_coming (λ (o : Comer). o.tickets m) (map (out_of p (with_tickets vs tails) moves q) js) rest).value s
brought_is c p vs moves q tails rows m rest s same [] [] h low = refl
brought_is c p vs moves q tails rows m rest s same [] (y ∷ ys) h low = absurd h
brought_is c p vs moves q tails rows m rest s same (j ∷ js) [] h low = absurd h
brought_is c p vs moves q tails rows m rest s same (j ∷ js) (y ∷ ys) h low =
    let o = out_of p (with_tickets vs tails) moves q j in
    let tail = tail_in c rows [] y.from m in
    let later = first_coming (λ (u : Comer). u.tickets m) (map (out_of p (with_tickets vs tails) moves q) js) rest in
    mux_by s (signal c y.comes) tail (brought_tail c rows m ys rest)
    ∙ ap₂ (λ (b : Bool) n. if b then tail.value s else n) (h.0.comes.on s) (brought_is c p vs moves q tails rows m rest s same js ys h.1 low.1)
    ∙ ap (λ (f : Signal). if is_on o.comes s then f.value s else later.value s) (sym (same y.from low.0.1) ∙ ap (λ i. tails i m) h.0.from)
    ∙ sym (mux_by s o.comes (tails j m) later)

-- by other tails that are the same of the stages that lead here
coming_same : (p : Pipe) (vs : ℕ → View) (moves : ℕ → Signal) (q m : ℕ) (tails others : ℕ → ℕ → Signal) (rest : Signal) (js : List ℕ)
    → Each (λ j. tails j m ≡ others j m) js
    → first_coming (λ (o : Comer). o.tickets m) (map (out_of p (with_tickets vs tails) moves q) js) rest
    ≡ first_coming (λ (o : Comer). o.tickets m) (map (out_of p (with_tickets vs others) moves q) js) rest
coming_same p vs moves q m tails others rest [] h = refl
coming_same p vs moves q m tails others rest (j ∷ js) h =
    ap₂ (mux_signal (out_of p vs moves q j).comes) h.0 (coming_same p vs moves q m tails others rest js h.1)

-- ---- one memory's tail

tail_stays : (a c d : Circuit) (p : Pipe) (fresh : List Net) (before : List (Seq Net)) (ys : List Arrival) (k m : ℕ) (g : Signal)
    → Extends c d → IsTail a c p fresh before ys k m g → IsTail a d p fresh before ys k m g
tail_stays a c d p fresh before ys k m g e h = record {
  wide = h.wide;
  first = h.first;
  carried = λ own. carried_keep c d (length a.regs) g (brought_tail a before m ys g) e (h.carried own);
}

-- a memory's tail in a stage is so as well by the nets as they stood in an earlier circuit
pub tail_from : (a b c : Circuit) (p : Pipe) (fresh : List Net) (before : List (Seq Net)) (ys : List Arrival) (k m w : ℕ) (g : Signal)
    → Keeps a b → NetsThere a fresh → AreComing a (length before) ys → HaveTails a m w before
    → IsTail b c p fresh before ys k m g → IsTail a c p fresh before ys k m g
tail_from a b c p fresh before ys k m w g e there low rows h =
    let same = ap (λ fs. signal_at fs m) (signals_keep a b fresh e there) in
    record {
      wide = h.wide ∙ ap (λ (f : Signal). f.width) same;
      first = λ own. h.first own ∙ same;
      carried =
          λ own. carried_as c (length a.regs) (length b.regs) g (brought_tail b before m ys g)
          (brought_tail a before m ys g) (regs_grow a b e)
          (λ s. ap (λ (f : Signal). f.value s) (brought_keep a b m w before ys g e low rows)) (h.carried own);
    }

-- with the tail of one memory more, the first m + 1 have theirs in a stage
pub tails_more : (a b d : Circuit) (p : Pipe) (fresh : List Net) (before : List (Seq Net)) (ys : List Arrival) (k : ℕ)
    (xs : List Net) (m : ℕ) (new : Net)
    → Extends b d → NetsThere b xs → length xs ≡ m
    → ((i : ℕ) → i < m → IsTail a b p fresh before ys k i (signal_at (signals_in b xs) i))
    → IsTail a d p fresh before ys k m (signal d new) → (i : ℕ) → i < m + 1
    → IsTail a d p fresh before ys k i (signal_at (signals_in d (xs ++ new ∷ [])) i)
tails_more a b d p fresh before ys k xs m new e there n old here =
    let same = signals_keep b d xs (extends_keeps b d e) there in
    up_to (λ i. IsTail a d p fresh before ys k i (signal_at (signals_in d (xs ++ new ∷ [])) i)) m
    (λ i l. subst (IsTail a d p fresh before ys k i)
    (sym (signal_old d xs new i (omega (arith, l, n)) ∙ ap (λ fs. signal_at fs i) same))
    (tail_stays a b d p fresh before ys k i (signal_at (signals_in b xs) i) e (old i l)))
    (subst (IsTail a d p fresh before ys k m) (sym (signal_new d xs new m (sym n))) here)

-- ---- the tails of a stage, by signals

-- a memory's tail by the nets of a stage is its tail by the signals of the threads that come
pub stage_tail_is : (a b c : Circuit) (x : StageLine) (fresh : List Net) (before : List (Seq Net)) (ys : List Arrival)
    (k m w : ℕ) (tails : ℕ → ℕ → Signal) (g : Signal)
    → Keeps a b → AreAfterAll a a x fresh → m < length fresh → HaveTails a m w before → length before ≡ k
    → AreArrivals b (line_pipe x) (line_views a x) (line_moves a x) k (ways (line_pipe x) k) ys
    → ((j : ℕ) → j < k → tails j m ≡ tail_in a before [] j m) → IsTail b c (line_pipe x) fresh before ys k m g
    → IsStageTail a c x tails k m g
stage_tail_is a b c x fresh before ys k m w tails g e after low rows count come same h =
    let p = line_pipe x in
    let vs = line_views a x in
    let moves = line_moves a x in
    let kept = ap (λ fs. signal_at fs m) (signals_keep a b fresh e after.there) in
    let coming = arrivals_coming b p vs moves k (length before) (ways p k) ys (each_way p k (λ j. j < length before) (λ j l. omega (arith, l, count))) come in
    record {
      wide = h.wide ∙ ap (λ (f : Signal). f.width) kept ∙ (after.after m low).wide;
      first = λ own. subst (IsAfterAll a x m) (sym (h.first own ∙ kept)) (after.after m low);
      carried = λ own.
          carried_as c (length a.regs) (length b.regs) g (brought_tail b before m ys g) (coming_tail p vs moves tails k m g) (regs_grow a b e)
          (λ s. brought_is b p vs moves k tails before m g s (λ j l. same j (omega (arith, l, count)) ∙ sym (tail_keep a b m w before j e l rows))
          (ways p k) ys come coming)
          (h.carried own);
    }

-- the tails of a stage stay while the circuit grows
pub stage_keep : (a c d : Circuit) (x : StageLine) (tails : ℕ → ℕ → Signal) (k : ℕ) (nets : List Net) → Extends c d
    → AreStageTails a c x tails k nets → AreStageTails a d x tails k nets
stage_keep a c d x tails k nets e h =
    let keeps = extends_keeps c d e in
    record {
      there = there_keeps c d nets keeps h.there;
      count = h.count;
      each = λ m l.
          let g = signal_at (signals_in c nets) m in
          let it = h.each m l in
          let now : IsStageTail a d x tails k m g = record {
            wide = it.wide;
            first = it.first;
            carried = λ own. carried_keep c d (length a.regs) g (coming_tail (line_pipe x) (line_views a x) (line_moves a x) tails k m g) e (it.carried own);
          } in
          subst (IsStageTail a d x tails k m) (sym (ap (λ fs. signal_at fs m) (signals_keep c d nets keeps h.there))) now;
    }

-- the tails of a stage are so by other signals that are the same in the stages before it
pub stage_as : (a c : Circuit) (x : StageLine) (tails others : ℕ → ℕ → Signal) (k : ℕ) (nets : List Net)
    → ((j m : ℕ) → j < k → m < length nets → tails j m ≡ others j m) → AreStageTails a c x tails k nets
    → AreStageTails a c x others k nets
stage_as a c x tails others k nets same h = record {
  there = h.there;
  count = h.count;
  each = λ m l.
      let p = line_pipe x in
      let g = signal_at (signals_in c nets) m in
      let it = h.each m l in
      record {
        wide = it.wide;
        first = it.first;
        carried = λ own.
            carried_as c (length a.regs) (length a.regs) g (coming_tail p (line_views a x) (line_moves a x) tails k m g)
            (coming_tail p (line_views a x) (line_moves a x) others k m g) (omega arith)
            (λ s. ap (λ (f : Signal). f.value s)
            (coming_same p (line_views a x) (line_moves a x) k m tails others g (ways p k)
            (each_way p k (λ j. tails j m ≡ others j m) (λ j low. same j m low l))))
            (it.carried own);
      };
}

-- the tails of a stage are so by the circuit as it was before
pub stage_from : (a b c : Circuit) (x : StageLine) (tails : ℕ → ℕ → Signal) (k : ℕ) (nets : List Net) → Keeps a b
    → IsLineIn a x → AreStageTails b c x tails k nets → AreStageTails a c x tails k nets
stage_from a b c x tails k nets e line h = record {
  there = h.there;
  count = h.count;
  each = λ m l.
      let p = line_pipe x in
      let g = signal_at (signals_in c nets) m in
      let it = h.each m l in
      record {
        wide = it.wide ∙ ap (λ fs. (signal_at fs m).width) (next_keep a b (line_form x) x.shared.now e line.shared);
        first = λ own. after_from a b x m g e line (it.first own);
        carried = λ own.
            carried_as c (length a.regs) (length b.regs) g (coming_tail p (line_views b x) (line_moves b x) tails k m g)
            (coming_tail p (line_views a x) (line_moves a x) tails k m g) (regs_grow a b e)
            (λ s. ap₂ (λ (vs : ℕ → View) (ms : ℕ → Signal). (coming_tail p vs ms tails k m g).value s) (views_same a b x e line) (all_moves_same a b x e line))
            (it.carried own);
      };
}
