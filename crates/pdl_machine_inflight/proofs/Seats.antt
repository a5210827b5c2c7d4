-- The live threads of a state by their stages: who stands in a stage is one of them, and each of them stands in its stage.
use Rattle.std.proofs.Common.{◌≡◌, refl, sym, ap, ◌∙◌, subst, ℕ, ◌+◌, ◌<◌, ◌≤◌, ◌⊎◌, inl, inr, ⊎_elim, Bool, true, false, List, [], ◌∷◌, length, Option, Some, None, ◌==◌, cond, arith, ne_eqb}
use Rattle.std.specs.Prelude.{if◌then◌else◌, slice_index_or}
use Rattle.std.proofs.lemmas.Bool.{eqb-true, cases_lt}
use Rattle.pdl_semantics.specs.Flat.{Pipe}
use Rattle.pdl_semantics.specs.Stages.{stage_at}
use Rattle.pdl_semantics.specs.Machine.{State, Thread}
use Rattle.pdl_theory_turns.specs.Derived
use Rattle.pdl_theory_simulation.proofs.Stretches.{Behind, less_home, left_trunk}
use Rattle.pdl_theory_turns.specs.Graphs.{Trunk}
use Rattle.pdl_theory_simulation.proofs.Seats.{Live, seat, find, Ordered, Falls, falls_each}
use Rattle.pdl_theory_simulation.proofs.SimulatedStates.{Sim}
use Rattle.pdl_machine_facts.specs.Slots.{slot}
use Rattle.pdl_machine_facts.proofs.StagewisePorts.{at_stage, past_stage, stages_count}
use Rattle.pdl_word.specs.Each.{Each}

-- a live thread is one of these
abbrev pub Among : Live → List Live → Type 0
Among l [] = ⊥
Among l (k ∷ ks) = (k ≡ l) ⊎ Among l ks

-- what holds of each of these live threads holds of one among them
pub each_among : (P : Live → Type 0) (l : Live) (ls : List Live) → Each P ls → Among l ls → P l
each_among P l [] h i = absurd i
each_among P l (k ∷ ks) h (inl e) = subst P e h.0
each_among P l (k ∷ ks) h (inr i) = each_among P l ks h.1 i

-- who is found is one of them, with his stage
pub found : (q : ℕ) (t : Thread) (ls : List Live) → find q ls ≡ Some t → (l : Live) × Among l ls × (l.thread.stage ≡ q) × (seat l ≡ t)
found q t [] e = absurd (cc e)
found q t (l ∷ ls) e = at (l.thread.stage == q) refl e (found q t ls)
  where
    at : (b : Bool) → (l.thread.stage == q) ≡ b → (if b then Some (seat l) else find q ls) ≡ Some t
        → (find q ls ≡ Some t → (k : Live) × Among k ls × (k.thread.stage ≡ q) × (seat k ≡ t))
        → (k : Live) × Among k (l ∷ ls) × (k.thread.stage ≡ q) × (seat k ≡ t)
    at true f g rest = (l, inl refl, eqb-true l.thread.stage q f, cc g)
    at false f g rest = let r = rest g in (r.0, inr r.1, r.2, r.3)

-- no two stand in one stage
stands_alone : (p : Pipe) (l : Live) (ls : List Live) → Ordered p ls → Among l ls → find l.thread.stage ls ≡ Some (seat l)
stands_alone p l [] o i = absurd i
stands_alone p l (k ∷ ks) o (inl e) =
    subst (λ (j : Live). find j.thread.stage (k ∷ ks) ≡ Some (seat j)) e
    (ap (λ b. cond b (Some (seat k)) (find k.thread.stage ks)) (Rattle.std.proofs.Common.eq-eqb k.thread.stage k.thread.stage refl))
stands_alone p l (k ∷ ks) o (inr i) =
    ap (λ b. cond b (Some (seat k)) (find l.thread.stage ks)) (ne_eqb k.thread.stage l.thread.stage (λ e. other e))
    ∙ stands_alone p l ks o.1 i
  where
    other : k.thread.stage ≡ l.thread.stage → ⊥
    other e =
        let b : Behind p k.thread.stage l.thread.stage = each_among _ l ks o.0 i in
        let low = less_home p _ _ b (ap (λ s. (stage_at p s).branches) e) in
        omega (arith, low, e)

-- two with one number are one
one_number : (n : ℕ) (a b : Live) (ls : List Live) → Falls n ls → Among a ls → Among b ls → a.number ≡ b.number → a ≡ b
one_number n a b [] f i j e = absurd i
one_number n a b (k ∷ ks) f (inl i) (inl j) e = sym i ∙ j
one_number n a b (k ∷ ks) f (inl i) (inr j) e =
    let low = each_among _ b ks (falls_each k.number ks f.1) j in absurd (let z = ap (λ (l : Live). l.number) i in omega (arith, low, e, z))
one_number n a b (k ∷ ks) f (inr i) (inl j) e =
    let low = each_among _ a ks (falls_each k.number ks f.1) i in absurd (let z = ap (λ (l : Live). l.number) j in omega (arith, low, e, z))
one_number n a b (k ∷ ks) f (inr i) (inr j) e = one_number k.number a b ks f.1 i j e

-- a younger one stands behind an older one
stands_behind : (p : Pipe) (n : ℕ) (a b : Live) (ls : List Live) → Falls n ls → Ordered p ls → Among a ls → Among b ls
    → b.number < a.number → Behind p a.thread.stage b.thread.stage
stands_behind p n a b [] f o i j e = absurd i
stands_behind p n a b (k ∷ ks) f o (inl i) (inl j) e = absurd (let z = ap (λ (l : Live). l.number) (sym i ∙ j) in omega (arith, e, z))
stands_behind p n a b (k ∷ ks) f o (inl i) (inr j) e = subst (λ (l : Live). Behind p l.thread.stage b.thread.stage) i (each_among _ b ks o.0 j)
stands_behind p n a b (k ∷ ks) f o (inr i) (inl j) e =
    let low = each_among _ a ks (falls_each k.number ks f.1) i in absurd (let z = ap (λ (l : Live). l.number) j in omega (arith, low, e, z))
stands_behind p n a b (k ∷ ks) f o (inr i) (inr j) e = stands_behind p k.number a b ks f.1 o.1 i j e

module _ (p : Pipe) (st : State) (d : Derived.State) (ls : List Live) (sim : Sim p st d ls) where
  slot_low : (k : ℕ) → k < length p.stages → slot st k ≡ find k ls
  slot_low k l =
      ap (λ (xs : List (Option Thread)). slice_index_or xs k None) sim.stages
      ∙ at_stage (λ q. find q ls) 0 p.stages k None l ∙ ap (λ n. find n ls) (let z : 0 + k ≡ k = omega arith in z)

  -- the thread that stands in a stage is a live one
  pub seated_in : (k : ℕ) (t : Thread) → slot st k ≡ Some t → (l : Live) × Among l ls × (l.thread.stage ≡ k) × (seat l ≡ t)
  seated_in k t e = ⊎_elim
      (λ (l : k < length p.stages). found k t ls (sym (slot_low k l) ∙ e))
      (λ (l : length p.stages ≤ k). absurd
      (none_some (sym (ap (λ (xs : List (Option Thread)). slice_index_or xs k None) sim.stages ∙ past_stage (λ q. find q ls) 0 p.stages k None l) ∙ e)))
      (cases_lt k (length p.stages))
    where
      none_some : None ≡ Some t → ⊥
      none_some h = cc h

  -- each live thread stands in its stage
  pub seat_of : (l : Live) → Among l ls → slot st l.thread.stage ≡ Some (seat l)
  seat_of l i = slot_low l.thread.stage ((each_among _ l ls sim.seated i).keeps_on.inside) ∙ stands_alone p l ls sim.ordered i

  -- the state has as many stages as the pipe
  pub stage_count : length st.stages ≡ length p.stages
  stage_count = ap length sim.stages ∙ stages_count (λ q. find q ls) 0 p.stages

  -- two threads with one number stand in one stage
  pub same_stage : (j k : ℕ) (t u : Thread) → slot st j ≡ Some t → slot st k ≡ Some u → t.number ≡ u.number → j ≡ k
  same_stage j k t u e f g =
      let a = seated_in j t e in
      let b = seated_in k u f in
      let same = one_number st.next a.0 b.0 ls sim.falls a.1 b.1 (ap (λ (v : Thread). v.number) a.3 ∙ g ∙ sym (ap (λ (v : Thread). v.number) b.3)) in
      sym a.2 ∙ ap (λ (l : Live). l.thread.stage) same ∙ b.2

  -- each thread has a number below the next thread's
  pub number_given : (k : ℕ) (t : Thread) → slot st k ≡ Some t → t.number < st.next
  number_given k t e =
      let a = seated_in k t e in
      let low = each_among _ a.0 ls (falls_each st.next ls sim.falls) a.1 in
      let z = ap (λ (v : Thread). v.number) a.3 in omega (arith, low, z)

  -- each trunk stage that a thread has reached is one that an older thread has left
  pub behind_older : (j k : ℕ) (t u : Thread) → slot st j ≡ Some t → slot st k ≡ Some u → u.number < t.number → (r : ℕ)
      → Trunk p r → r ≤ j → r < k
  behind_older j k t u e f g r trunk low =
      let a = seated_in j t e in
      let b = seated_in k u f in
      let x = ap (λ (v : Thread). v.number) a.3 in
      let y = ap (λ (v : Thread). v.number) b.3 in
      let h =
      left_trunk p _ _ (stands_behind p st.next a.0 b.0 ls sim.falls sim.ordered a.1 b.1 (omega (arith, g, x, y))) r trunk
      (let z = a.2 in omega (arith, low, z)) in
      let z = b.2 in omega (arith, h, z)
