-- The laws of an order, from what its nets mean and its registers take next.
use Rattle.std.proofs.Common.{◌≡◌, ℕ, ◌+◌, ◌^◌, ◌≤◌, Bool, true, false, List, [], ◌∷◌, ◌++◌, length, refl, sym, ap, ◌∙◌, arith, length-append}
use Rattle.std.specs.Prelude.{if◌then◌else◌, drop}
use Rattle.std.proofs.Math.Pow.{pow_mono}
use Rattle.std.proofs.lemmas.Nat.{pow_pos}
use Rattle.pdl_word.specs.Words as words
use Rattle.pdl_word.specs.Words.{bit}
use Rattle.pdl_net.specs.declared.BinOp.TheVariants.{Shr}
use Rattle.pdl_net.specs.Circuit.{Circuit, State, reg_reset}
use Rattle.pdl_net.specs.Signal.{Signal, const_signal, bin_signal, mux_signal, const_value, reg_value, bin_value, slice_value}
use Rattle.pdl_order.specs.declared.layout.OrderLayout.{OrderLayout}
use Rattle.pdl_order.specs.Order.{OrderAct, Proper, step, after_left, after_entered}
use Rattle.pdl_order.specs.Laws.{StepSignals, Drives, StartLaw, FirstLaw, StepLaw}
use Rattle.pdl_order.specs.Words.{sides_at, word_of, Stands}
use Rattle.pdl_order.specs.Nets.{used_signal, sides_signal, empty_signal, first_signal, used_left, sides_left, place_signal, more_signal, used_entered, sides_entered, next_used, next_sides, NextWords, own_words}
use Rattle.pdl_order.proofs.Lists.{word_below, word_more, half, used_half, sides_half, sum_is, used_none, lowest}
use Rattle.pdl_word.proofs.Numbers.{twice_power}
use Rattle.pdl_net.proofs.Signals.{mux_at}

-- registers at reset stand for no thread inside
pub start_law : (c : Circuit) (l : OrderLayout)
    → reg_reset c l.from ≡ 0 → reg_reset c (sides_at l) ≡ 0 → StartLaw (Stands l) c (own_words l)
start_law c l u d = record {
  starts = λ s h. record {
    room = omega arith;
    used = ap (λ n. n + 1) (h.regs l.from (omega arith) (omega arith) ∙ u);
    sides = h.regs (sides_at l) (omega arith) (omega arith) ∙ d;
  };
}

used_at : (l : OrderLayout) (s : State) (xs : List Bool) → Stands l s xs → (used_signal l).value s + 1 ≡ 2 ^ length xs
unfolding reg_value
used_at l s xs h = h.used

sides_value : (l : OrderLayout) (s : State) (xs : List Bool) → Stands l s xs → (sides_signal l).value s ≡ word_of xs
unfolding reg_value
sides_value l s xs h = h.sides

empty_value : (l : OrderLayout) (s : State) (xs : List Bool) → Stands l s xs
    → (empty_signal l).value s ≡ words.equal ((used_signal l).value s) 0
unfolding bin_value const_value
empty_value l s xs h = refl

first_value : (l : OrderLayout) (s : State) (xs : List Bool) → Stands l s xs → (first_signal l).value s ≡ words.slice 0 0 (word_of xs)
unfolding slice_value
first_value l s xs h = ap (words.slice 0 0) (sides_value l s xs h)

-- the nets of emptiness and of the first entry keep their law, where they are an order's signals
pub first_law : (l : OrderLayout) (first empty : Signal) → first ≡ first_signal l → empty ≡ empty_signal l → FirstLaw (Stands l) first empty
first_law l first empty f e = record {
  empties = λ s xs h. ap (λ (g : Signal). g.value s) e ∙ empty_value l s xs h ∙ used_none ((used_signal l).value s) xs (used_at l s xs h);
  leads = λ s x xs h. ap (λ (g : Signal). g.value s) f ∙ first_value l s (x ∷ xs) h ∙ lowest x xs;
}

-- signals whose values are the words of a list of at most n branches
record AreWords (n : ℕ) (f g : Signal) (s : State) (xs : List Bool) : Type 0 where
  room : length xs ≤ n
  used : f.value s + 1 ≡ 2 ^ length xs
  sides : g.value s ≡ word_of xs

half_value : (l : OrderLayout) (f : Signal) (s : State)
    → (bin_signal Shr f (const_signal l.stages 1)).value s ≡ words.shr f.width (f.value s) 1
unfolding bin_value const_value
half_value l f s = refl

-- after the oldest has left
halved : (l : OrderLayout) (s : State) (xs : List Bool)
    → 1 ≤ l.stages → 1 ≤ length xs → Stands l s xs
    → AreWords l.stages (bin_signal Shr (used_signal l) (const_signal l.stages 1)) (bin_signal Shr (sides_signal l) (const_signal l.stages 1)) s (drop 1 xs)
halved l s [] one some h = absurd (omega arith)
halved l s (x ∷ xs) one some h =
    let wide : 2 ^ length (x ∷ xs) ≤ 2 ^ l.stages = pow_mono h.room in
    let u = used_at l s (x ∷ xs) h in
    let d = sides_value l s (x ∷ xs) h in
    let below = word_below (x ∷ xs) in
    record {
      room = omega (arith, h.room);
      used =
          ap (λ n. n + 1) (half_value l (used_signal l) s ∙ half l.stages ((used_signal l).value s) one (omega (arith, u, wide)))
          ∙ used_half ((used_signal l).value s) x xs u;
      sides =
          half_value l (sides_signal l) s ∙ ap (λ n. words.shr l.stages n 1) d
          ∙ half l.stages (word_of (x ∷ xs)) one (omega (arith, below, wide)) ∙ sides_half x xs;
    }

left_words : (l : OrderLayout) (f : StepSignals) (s : State) (xs : List Bool) (a : OrderAct)
    → 1 ≤ l.stages → Stands l s xs → Drives f s a → (a.left ≡ true → 1 ≤ length xs)
    → AreWords l.stages (used_left l f) (sides_left l f) s (after_left a xs)
left_words l f s xs a one h d some = by_left a.left refl
  where
    u : Signal
    u = used_signal l

    g : Signal
    g = sides_signal l

    fewer : Signal → Signal
    fewer x = bin_signal Shr x (const_signal l.stages 1)

    by_left : (t : Bool) → a.left ≡ t → AreWords l.stages (used_left l f) (sides_left l f) s (if t then drop 1 xs else xs)
    by_left true e =
        let w = halved l s xs one (some e) h in
        let m = d.left ∙ ap bit e in
        record {
          room = w.room;
          used = ap (λ n. n + 1) (mux_at f.left (fewer u) u s true m) ∙ w.used;
          sides = mux_at f.left (fewer g) g s true m ∙ w.sides;
        }
    by_left false e =
        let m = d.left ∙ ap bit e in
        record {
          room = h.room;
          used = ap (λ n. n + 1) (mux_at f.left (fewer u) u s false m) ∙ used_at l s xs h;
          sides = mux_at f.left (fewer g) g s false m ∙ sides_value l s xs h;
        }

-- the words with one more
place_value : (l : OrderLayout) (f : StepSignals) (s : State) → (place_signal l f).value s ≡ words.add l.stages ((used_left l f).value s) 1
unfolding bin_value const_value
place_value l f s = refl

more_value : (l : OrderLayout) (f : StepSignals) (g : Signal) (s : State)
    → (more_signal l f g).value s ≡ words.add g.width (g.value s) ((place_signal l f).value s)
unfolding bin_value
more_value l f g s = refl

place_is : (l : OrderLayout) (f : StepSignals) (s : State) (ys : List Bool)
    → AreWords l.stages (used_left l f) (sides_left l f) s ys → length ys + 1 ≤ l.stages
    → (place_signal l f).value s ≡ 2 ^ length ys
place_is l f s ys w h =
    let wide : 2 ^ (length ys + 1) ≤ 2 ^ l.stages = pow_mono h in
    let double = twice_power (length ys) in
    let some = pow_pos (length ys) in
    let u = w.used in
    place_value l f s ∙ sum_is l.stages ((used_left l f).value s) 1 (omega (arith, wide, double, some, u)) ∙ u

used_grown : (l : OrderLayout) (f : StepSignals) (s : State) (ys : List Bool)
    → AreWords l.stages (used_left l f) (sides_left l f) s ys → length ys + 1 ≤ l.stages
    → (more_signal l f (used_left l f)).value s + 1 ≡ 2 ^ (length ys + 1)
used_grown l f s ys w h =
    let n = (used_left l f).value s in
    let wide : 2 ^ (length ys + 1) ≤ 2 ^ l.stages = pow_mono h in
    let double = twice_power (length ys) in
    let u = w.used in
    let sum : words.add l.stages n (2 ^ length ys) ≡ n + 2 ^ length ys = sum_is l.stages n (2 ^ length ys) (omega (arith, wide, double, u)) in
    ap (λ m. m + 1) (more_value l f (used_left l f) s ∙ ap (words.add l.stages n) (place_is l f s ys w h) ∙ sum) ∙ omega (arith, double, u)

sides_grown : (l : OrderLayout) (f : StepSignals) (s : State) (ys : List Bool)
    → AreWords l.stages (used_left l f) (sides_left l f) s ys → length ys + 1 ≤ l.stages
    → (more_signal l f (sides_left l f)).value s ≡ word_of (ys ++ true ∷ [])
sides_grown l f s ys w h =
    let n = (sides_left l f).value s in
    let wide : 2 ^ (length ys + 1) ≤ 2 ^ l.stages = pow_mono h in
    let double = twice_power (length ys) in
    let below = word_below ys in
    let d = w.sides in
    let sum : words.add l.stages n (2 ^ length ys) ≡ n + 2 ^ length ys = sum_is l.stages n (2 ^ length ys) (omega (arith, wide, double, below, d)) in
    more_value l f (sides_left l f) s ∙ ap (words.add l.stages n) (place_is l f s ys w h) ∙ sum ∙ omega (arith, d, word_more ys true)

-- with the thread that comes in
pushed : (ys : List Bool) (x : Bool) → length (ys ++ x ∷ []) ≡ length ys + 1
pushed ys x = length-append ys (x ∷ [])

entered_words : (l : OrderLayout) (f : StepSignals) (s : State) (ys : List Bool) (a : OrderAct)
    → AreWords l.stages (used_left l f) (sides_left l f) s ys → Drives f s a → length (after_entered a ys) ≤ l.stages
    → AreWords l.stages (used_entered l f) (sides_entered l f) s (after_entered a ys)
entered_words l f s ys a w d room = by_first a.entered_first a.entered_second refl refl room
  where
    u : Signal
    u = used_left l f

    g : Signal
    g = sides_left l f

    more : Signal → Signal
    more x = more_signal l f x

    by_first : (t v : Bool) → a.entered_first ≡ t → a.entered_second ≡ v
        → length (if t then ys ++ true ∷ [] else (if v then ys ++ false ∷ [] else ys)) ≤ l.stages
        → AreWords l.stages (used_entered l f) (sides_entered l f) s (if t then ys ++ true ∷ [] else (if v then ys ++ false ∷ [] else ys))
    by_first true v e i fits =
        let m = d.entered_first ∙ ap bit e in
        let n = pushed ys true in
        let h : length ys + 1 ≤ l.stages = omega (arith, n, fits) in
        record {
          room = fits;
          used =
              ap (λ k. k + 1) (mux_at f.entered_first (more u) (mux_signal f.entered_second (more u) u) s true m)
              ∙ used_grown l f s ys w h ∙ ap (λ k. 2 ^ k) (sym n);
          sides = mux_at f.entered_first (more g) g s true m ∙ sides_grown l f s ys w h;
        }
    by_first false true e i fits =
        let m = d.entered_first ∙ ap bit e in
        let o = d.entered_second ∙ ap bit i in
        let n = pushed ys false in
        let h : length ys + 1 ≤ l.stages = omega (arith, n, fits) in
        record {
          room = fits;
          used =
              ap (λ k. k + 1) (mux_at f.entered_first (more u) (mux_signal f.entered_second (more u) u) s false m ∙ mux_at f.entered_second (more u) u s true o)
              ∙ used_grown l f s ys w h ∙ ap (λ k. 2 ^ k) (sym n);
          sides = mux_at f.entered_first (more g) g s false m ∙ w.sides ∙ omega (arith, word_more ys false);
        }
    by_first false false e i fits =
        let m = d.entered_first ∙ ap bit e in
        let o = d.entered_second ∙ ap bit i in
        record {
          room = fits;
          used =
              ap (λ k. k + 1)
              (mux_at f.entered_first (more u) (mux_signal f.entered_second (more u) u) s false m ∙ mux_at f.entered_second (more u) u s false o)
              ∙ w.used;
          sides = mux_at f.entered_first (more g) g s false m ∙ w.sides;
        }

none_value : (n : ℕ) (s : State) → (const_signal n 0).value s ≡ 0
unfolding const_value
none_value n s = refl

-- after the cycle
step_words : (l : OrderLayout) (f : StepSignals) (s : State) (xs : List Bool) (a : OrderAct)
    → 1 ≤ l.stages → Stands l s xs → Drives f s a → Proper l.stages xs a
    → AreWords l.stages (next_used l f) (next_sides l f) s (step xs a)
step_words l f s xs a one h d p = by_emptied a.emptied refl p.room
  where
    ys : List Bool
    ys = after_left a xs

    zs : List Bool
    zs = after_entered a ys

    none : Signal
    none = const_signal l.stages 0

    u : Signal
    u = used_entered l f

    g : Signal
    g = sides_entered l f

    by_emptied : (t : Bool) → a.emptied ≡ t → length (if t then [] else zs) ≤ l.stages
        → AreWords l.stages (next_used l f) (next_sides l f) s (if t then [] else zs)
    by_emptied true e fits =
        let m = d.emptied ∙ ap bit e in
        record {
          room = fits;
          used = ap (λ k. k + 1) (mux_at f.emptied none u s true m ∙ none_value l.stages s);
          sides = mux_at f.emptied none g s true m ∙ none_value l.stages s;
        }
    by_emptied false e fits =
        let m = d.emptied ∙ ap bit e in
        let w = entered_words l f s ys a (left_words l f s xs a one h d p.some) d fits in
        record {
          room = w.room;
          used = ap (λ k. k + 1) (mux_at f.emptied none u s false m) ∙ w.used;
          sides = mux_at f.emptied none g s false m ∙ w.sides;
        }

-- where the two registers take the next words, they keep the law of a step
pub step_law : (c : Circuit) (l : OrderLayout) (f : StepSignals)
    → 1 ≤ l.stages → NextWords c l f → StepLaw (Stands l) l.stages (own_words l) c f
step_law c l f one p = record {
  next = λ s t xs a h d u n.
      let w = step_words l f s xs a one h d u in
      record {
        room = w.room;
        used = ap (λ k. k + 1) (n.regs l.from (omega arith) (omega arith) ∙ ap (λ (g : Signal). g.value s) p.used) ∙ w.used;
        sides = n.regs (sides_at l) (omega arith) (omega arith) ∙ ap (λ (g : Signal). g.value s) p.sides ∙ w.sides;
      };
}
