-- What needs no register stays: a constant with which all that come into a stage come.
use Rattle.std.proofs.Common.{◌≡◌, ℕ, zero, suc, ◌+◌, ◌<◌, ◌≤◌, false, ◌⊎◌, inl, inr, List, [], ◌∷◌, ◌++◌, map, length, refl, sym, ap, ap₂, ◌∙◌, subst, arith, ne_eqb}
use Rattle.std.proofs.lemmas.Bool.{cases_lt}
use Rattle.std.proofs.lemmas.List.{get_or_past, length-take}
use Rattle.pdl_semantics.specs.Flat.{Pipe}
use Rattle.pdl_form.specs.Form.{Form}
use Rattle.pdl_machine_facts.specs.Slots.{ways}
use Rattle.pdl_net.specs.Circuit.{Circuit, State}
use Rattle.pdl_net.specs.Signal.{Signal, no_signal, const_value, const_signal, mux_signal}
use Rattle.pdl_pipe_exprs.specs.Nets.{signals_in, signal_at}
use Rattle.pdl_pipe_exprs.proofs.NetLists.{length_widths}
use Rattle.pdl_port.specs.Laws.{AnswerSignals}
use Rattle.pdl_pipe_answers.specs.Readings.{gets_answer}
use Rattle.pdl_pipe_answers.proofs.PortAnswers.{answer_none}
use Rattle.pdl_law_parts.specs.Walk.{Birth}
use Rattle.pdl_law_parts.specs.Views.{View, Comer, new_by, new_from, out_of, comers, first_coming}
use Rattle.pdl_law_parts.specs.Compiled.{Becomes}
use Rattle.pdl_law_parts.proofs.Signals.{zero_is}
use Rattle.pdl_law_parts.proofs.Establish.{becomes_const, AllBring}
use Rattle.pdl_pipe_walk.specs.Sized.{IsSizedBirth}
use Rattle.pdl_pipe_registers.specs.declared.nets.Item.{Item}
use Rattle.pdl_pipe_registers.specs.declared.nets.Item.TheVariants.{Var, Mark, Ticket, Guess}
use Rattle.pdl_pipe_registers.specs.declared.nets.StageNets.{StageNets}
use Rattle.pdl_pipe_registers.specs.Items.{ended_item, kept_item, comer_item, is_answered, IsZero}
use Rattle.pdl_pipe_registers.specs.Stages.{view_in, IsThereBegun, HasAnswered, IsCommon, IsSettled}
use Rattle.pdl_pipe_nexts.proofs.BroughtItems.{none_left, after_first}
use Rattle.pdl_pipe_emitted.specs.MadeLine.{BeginsFirst}
use Rattle.pdl_pipe_emitted.proofs.Begins.{first_unanswered}
use Rattle.pdl_word.specs.Each.{Each}

const_is : (s : State) (w v : ℕ) (f : Signal) → f ≡ const_signal w v → f.value s ≡ v
unfolding const_value
const_is s w v f e = ap (λ (y : Signal). y.value s) e

-- a constant that all bring stays
constant_stays : (c : Circuit) (of : Comer → Signal) (w v : ℕ) (f : Signal) (os : List Comer) → f ≡ const_signal w v → AllBring of v os
    → Becomes c f (first_coming of os f)
constant_stays c of w v f os e h = subst (λ (g : Signal). Becomes c g (first_coming of os g)) (sym e) (becomes_const c w v of os h)

-- ---- new threads

-- calls with no more arguments than there are parameters
abbrev pub AreShort : ℕ → List Birth → Type 0
AreShort n bs = Each (λ (b : Birth). length b.args ≤ n) bs

-- calls whose arguments have the parameters' widths have no more arguments than there are parameters
pub calls_short : (p : Pipe) (ws : List ℕ) (bs : List Birth) → Each (IsSizedBirth p ws) bs → AreShort (length p.start) bs
calls_short p ws [] h = tt
calls_short p ws (b ∷ bs) h =
    let sized = h.0 in
    let e : length b.args ≡ length _ = sym (length_widths b.args) ∙ ap length sized.1 in
    let t = length-take (length p.start) ws in
    (omega (arith, e, t), calls_short p ws bs h.1)

zero_const : (p : Pipe) (i : Item) (f : Signal) → IsZero p i f → (w : ℕ) × (f ≡ const_signal w 0)
zero_const p (Var x) f h = h.1
zero_const p (Mark k m a) f h = (1, h)
zero_const p (Ticket m) f h = (1, h)
zero_const p (Guess i) f h = h

-- a new thread comes with zero for what is zero in stage 0
call_brings : (p : Pipe) (i : Item) (f moves : Signal) (b : Birth) → IsZero p i f → length b.args ≤ length p.start → (s : State)
    → (comer_item i (new_by moves b)).value s ≡ 0
call_brings p (Var x) f moves b h l s = ap (λ (g : Signal). g.value s) (get_or_past b.args x no_signal (let q = h.0 in omega (arith, l, q)))
call_brings p (Mark k m a) f moves b h l s = zero_is s
call_brings p (Ticket m) f moves b h l s = refl
call_brings p (Guess i) f moves b h l s = refl

bring_append : (of : Comer → Signal) (v : ℕ) (xs ys : List Comer) → AllBring of v xs → AllBring of v ys → AllBring of v (xs ++ ys)
bring_append of v [] ys h k = k
bring_append of v (x ∷ xs) ys h k = (h.0, bring_append of v xs ys h.1 k)

calls_bring : (p : Pipe) (i : Item) (f moves : Signal) (bs : List Birth) → IsZero p i f → AreShort (length p.start) bs
    → AllBring (comer_item i) 0 (map (new_by moves) bs)
calls_bring p i f moves [] h l = tt
calls_bring p i f moves (b ∷ bs) h l = (call_brings p i f moves b h l.0, calls_bring p i f moves bs h l.1)

module _ (p : Pipe) (vs : ℕ → View) (moves : ℕ → Signal) where
  new_bring : (i : Item) (f : Signal) (n k : ℕ) → IsZero p i f → ((j : ℕ) → k ≤ j → j < k + n → AreShort (length p.start) (vs j).ended.births)
      → AllBring (comer_item i) 0 (new_from vs moves n k)
  new_bring i f zero k h short = tt
  new_bring i f (suc n) k h short =
      bring_append (comer_item i) 0 (map (new_by (moves k)) (vs k).ended.births) (new_from vs moves n (suc k))
      (calls_bring p i f (moves k) (vs k).ended.births h (short k (omega arith) (omega arith)))
      (new_bring i f n (suc k) h (λ j m q. short j (omega (arith, m)) (omega (arith, q))))

  -- into stage 0 new threads alone come
  pub zero_stays : (c : Circuit) → ((j : ℕ) → j < length p.stages → AreShort (length p.start) (vs j).ended.births) → (i : Item) (f : Signal) → IsZero p i f
      → Becomes c f (first_coming (comer_item i) (comers p vs moves 0) f)
  zero_stays c short i f h =
      let const = zero_const p i f h in
      subst (λ os. Becomes c f (first_coming (comer_item i) os f)) (none_left p vs moves (length p.stages) refl)
      (constant_stays c (comer_item i) const.0 0 f (new_from vs moves (length p.stages) 0) const.1
      (new_bring i f (length p.stages) 0 h (λ j a b. short j (omega (arith, b)))))

  -- ---- threads out of other stages

  -- one comes with the constant with which its stage ends
  way_brings : (q j : ℕ) (i : Item) (w v : ℕ) → ended_item (vs j) i ≡ const_signal w v → (s : State) → (comer_item i (out_of p vs moves q j)).value s ≡ v
  way_brings q j (Var x) w v e s = const_is s w v ((vs j).ended.vars x) e
  way_brings q j (Mark k m a) w v e s = const_is s w v ((vs j).ended.marks k m a) e
  way_brings q j (Ticket m) w v e s = const_is s w v ((vs j).tickets m) e
  way_brings q j (Guess i) w v e s = const_is s w v (signal_at (vs j).ended.guess i) e

  ways_bring : (q : ℕ) (js : List ℕ) (i : Item) (w v : ℕ) (g : Signal) → g ≡ const_signal w v → Each (λ j. ended_item (vs j) i ≡ g) js
      → AllBring (comer_item i) v (map (out_of p vs moves q) js)
  ways_bring q [] i w v g e h = tt
  ways_bring q (j ∷ js) i w v g e h = (way_brings q j i w v (h.0 ∙ e), ways_bring q js i w v g e h.1)

  -- in a later stage, an item with which all come as one constant stays that constant
  pub common_stays : (c : Circuit) (k : ℕ) (i : Item) (f : Signal) → IsCommon p vs (suc k) i f
      → Becomes c f (first_coming (comer_item i) (comers p vs moves (suc k)) f)
  common_stays c k i f h =
      let const = h.constant in
      subst (λ os. Becomes c f (first_coming (comer_item i) os f)) (after_first p vs moves (suc k) (ne_eqb (suc k) 0 (λ e. omega (arith, e))))
      (constant_stays c (comer_item i) const.0 const.1 f (map (out_of p vs moves (suc k)) (ways p (suc k))) const.2
      (ways_bring (suc k) (ways p (suc k)) i const.0 const.1 f const.2 h.same))

  -- in any stage, what is settled stays so, whoever comes into it
  pub settled_stays : (c : Circuit) → ((j : ℕ) → j < length p.stages → AreShort (length p.start) (vs j).ended.births) → (k : ℕ) (i : Item) (f : Signal)
      → IsSettled p vs k i f → Becomes c f (first_coming (comer_item i) (comers p vs moves k) f)
  settled_stays c short zero i f h = zero_stays c short i f h
  settled_stays c short (suc k) i f h = common_stays c k i f h

  -- ---- items that all come with alike

  way_alike : (q j : ℕ) (i i' : Item) → ended_item (vs j) i ≡ ended_item (vs j) i'
      → comer_item i (out_of p vs moves q j) ≡ comer_item i' (out_of p vs moves q j)
  way_alike q j i i' e = comer_ends q j i ∙ e ∙ sym (comer_ends q j i')
    where
      comer_ends : (q j : ℕ) (i : Item) → comer_item i (out_of p vs moves q j) ≡ ended_item (vs j) i
      comer_ends q j (Var x) = refl
      comer_ends q j (Mark k m a) = refl
      comer_ends q j (Ticket m) = refl
      comer_ends q j (Guess i) = refl

  ways_alike : (q : ℕ) (js : List ℕ) (i i' : Item) (f : Signal) → Each (λ j. ended_item (vs j) i ≡ ended_item (vs j) i') js
      → first_coming (comer_item i) (map (out_of p vs moves q) js) f ≡ first_coming (comer_item i') (map (out_of p vs moves q) js) f
  ways_alike q [] i i' f h = refl
  ways_alike q (j ∷ js) i i' f h = ap₂ (λ g r. mux_signal (out_of p vs moves q j).comes g r) (way_alike q j i i' h.0) (ways_alike q js i i' f h.1)

  -- into a later stage than the first the same comes for both
  pub arrives_alike : (k : ℕ) (i i' : Item) (f : Signal) → 0 < k → Each (λ j. ended_item (vs j) i ≡ ended_item (vs j) i') (ways p k)
      → first_coming (comer_item i) (comers p vs moves k) f ≡ first_coming (comer_item i') (comers p vs moves k) f
  arrives_alike zero i i' f l h = absurd (omega (arith, l))
  arrives_alike (suc k) i i' f l h =
      subst (λ os. first_coming (comer_item i) os f ≡ first_coming (comer_item i') os f)
      (after_first p vs moves (suc k) (ne_eqb (suc k) 0 (λ e. omega (arith, e))))
      (ways_alike (suc k) (ways p (suc k)) i i' f h)

-- ---- answers

-- what a stage holds of an item where no thread comes: of a variable its answer
abbrev pub held_item : View → Item → Signal
held_item v (Var x) = v.begun.vars x
held_item v (Mark k m a) = v.begun.marks k m a
held_item v (Ticket m) = v.tickets m
held_item v (Guess i) = signal_at v.begun.guess i

-- what needs no register gets no answer
pub settled_unanswered : (p : Pipe) → BeginsFirst p → (us : ℕ → View) (k : ℕ) (i : Item) (f : Signal)
    → IsSettled p us k i f → is_answered p k i ≡ false
settled_unanswered p begins us zero (Var x) f h = first_unanswered p begins x
settled_unanswered p begins us zero (Mark k m a) f h = refl
settled_unanswered p begins us zero (Ticket m) f h = refl
settled_unanswered p begins us zero (Guess i) f h = refl
settled_unanswered p begins us (suc k) i f h = h.unanswered

module _ (c : Circuit) (f : Form) (nexts : List Signal) (answers : ℕ → ℕ → AnswerSignals) (k : ℕ) (s : StageNets)
    (there : IsThereBegun c f nexts s) (answered : HasAnswered c f answers k s) where
  variable_unanswered : (x : ℕ) → gets_answer f.pipe k x ≡ false → signal_at (signals_in c s.begun) x ≡ signal_at (signals_in c s.vars) x
  variable_unanswered x e = at (cases_lt x (length f.widths))
    where
      at : (x < length f.widths) ⊎ (length f.widths ≤ x) → signal_at (signals_in c s.begun) x ≡ signal_at (signals_in c s.vars) x
      at (inl low) = answered x low ∙ answer_none f.pipe answers k x (signal_at (signals_in c s.vars) x) e
      at (inr high) =
          let n = length_widths (signals_in c s.begun) in
          let n' = ap length there.begun_wide in
          let m = length_widths (signals_in c s.vars) in
          let m' = ap length there.vars_wide in
          get_or_past (signals_in c s.begun) x no_signal (omega (arith, high, n, n'))
          ∙ sym (get_or_past (signals_in c s.vars) x no_signal (omega (arith, high, m, m')))

  -- so it is held as it was kept
  pub held_as_kept : (i : Item) → is_answered f.pipe k i ≡ false → held_item (view_in c s) i ≡ kept_item (view_in c s) i
  held_as_kept (Var x) e = variable_unanswered x e
  held_as_kept (Mark h m a) e = refl
  held_as_kept (Ticket m) e = refl
  held_as_kept (Guess i) e = refl
