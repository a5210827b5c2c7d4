-- The orders of forks, as they are made and while the circuit grows.
use Rattle.std.proofs.Common.{◌≡◌, ℕ, zero, suc, ◌+◌, ◌-◌, ◌≤◌, ◌==◌, ◌∙◌, Bool, true, false, ◌||◌, List, [], ◌∷◌, length, refl, sym, ap, subst, arith}
use Rattle.std.specs.Prelude.{Option, Some, slice_index_or}
use Rattle.std.proofs.lemmas.List.Sums.{count_by-le-length}
use Rattle.std.proofs.lemmas.Bool.{false≢true}
use Rattle.pdl_word.proofs.Numbers.{eqb_self}
use Rattle.pdl_semantics.specs.Flat.{Stage, Pipe}
use Rattle.pdl_semantics.specs.Stages.{stage_at, last_stage, list_any, merges_fork}
use Rattle.pdl_net.specs.Circuit.{Circuit, HasReg}
use Rattle.pdl_net.specs.Signal.{Signal}
use Rattle.pdl_net.specs.Meaning.{signal}
use Rattle.pdl_net.specs.Growth.{Keeps}
use Rattle.pdl_net.proofs.KeptWidths.{width_keeps}
use Rattle.pdl_order.specs.declared.OrderRegs.{OrderRegs}
use Rattle.pdl_order.specs.Laws.{HasOrderNets, IsFragment, StartLaw, FirstLaw, first_reg, end_reg, own}
use Rattle.pdl_order.specs.Words.{ArePlaced, stands}
use Rattle.pdl_order.proofs.OrderGrowth.{order_keeps}
use Rattle.pdl_machine_inflight.specs.Readings.{branch_stages}
use Rattle.pdl_pipe_beside.specs.Parts.{IsNewPart}
use Rattle.pdl_pipe_beside.specs.Orders.{ForksFit, merged_in, is_merged, IsOrder, HasOrderOf}
use Rattle.pdl_semantics.proofs.Facts.{merges_some}

-- ---- which forks are merged

merged_here : (ss : List Stage) (f : ℕ) → merged_in ss f ≡ true → (q : ℕ) × ((slice_index_or ss q last_stage).merges ≡ Some f)
merged_here [] f e = absurd (false≢true e)
merged_here (s ∷ ss) f e = at (merges_fork s.merges f) refl e (merged_here ss f)
  where
    at : (b : Bool) → merges_fork s.merges f ≡ b → (b || merged_in ss f) ≡ true
        → (merged_in ss f ≡ true → (q : ℕ) × ((slice_index_or ss q last_stage).merges ≡ Some f))
        → (q : ℕ) × ((slice_index_or (s ∷ ss) q last_stage).merges ≡ Some f)
    at true d h later = (0, merges_some s.merges f d)
    at false d h later = let r = later h in (suc r.0, r.1)

-- a fork that is merged is merged by a stage
pub merged_by : (p : Pipe) (f : ℕ) → is_merged p f ≡ true → (q : ℕ) × ((stage_at p q).merges ≡ Some f)
merged_by p f e = merged_here p.stages f e

at_merged : (ss : List Stage) (f q : ℕ) → (slice_index_or ss q last_stage).merges ≡ Some f → merged_in ss f ≡ true
at_merged [] f q e = absurd (cc e)
at_merged (s ∷ ss) f zero e = ap (λ o. merges_fork o f || merged_in ss f) e ∙ ap (λ b. b || merged_in ss f) (eqb_self f)
at_merged (s ∷ ss) f (suc q) e = ap (λ b. merges_fork s.merges f || b) (at_merged ss f q e) ∙ or_true (merges_fork s.merges f)
  where
    or_true : (b : Bool) → (b || true) ≡ true
    or_true true = refl
    or_true false = refl

-- a fork that stage q merges is merged
pub is_merged_by : (p : Pipe) (f q : ℕ) → (stage_at p q).merges ≡ Some f → is_merged p f ≡ true
is_merged_by p f q e = at_merged p.stages f q e

-- a pipe of 64 stages at most has no longer branches
pub forks_fit : (p : Pipe) → length p.stages ≤ 64 → ForksFit p
forks_fit p h = record { few = λ f q e. let z = count_by-le-length (λ (x : Stage). list_any (λ b. b.fork == f) x.branches) p.stages in omega (arith, z, h) }

-- ---- a new order

fragment_end : (a b : Circuit) (r : OrderRegs) → IsFragment a b r → end_reg r ≤ length b.regs
unfolding HasReg
fragment_end a b r f =
    let n = length r.regs in
    let some : 1 ≤ n = f.some in
    let last = f.has_reg (first_reg r + (n - 1)) (omega arith) (omega (arith, some)) in
    omega (arith, last, some)

-- the registers of a new order are new
pub new_order : (a b : Circuit) (r : OrderRegs) → IsFragment a b r → IsNewPart own a b (Some r)
new_order a b r f = record {
  from = λ x e.
      let P : OrderRegs → Type 0 = λ y. length a.regs ≤ first_reg y in
      let same : r ≡ x = cc e in
      subst P same f.above;
  to = λ x e.
      let P : OrderRegs → Type 0 = λ y. end_reg y ≤ length b.regs in
      let same : r ≡ x = cc e in
      subst P same (fragment_end a b r f);
}

-- a merged fork has the order that was made for it, which has room for the stages of its branches
pub order_some : (a c : Circuit) (p : Pipe) (f : ℕ) (r : OrderRegs)
    → is_merged p f ≡ true → branch_stages p f ≤ r.stages → IsFragment a c r → HasOrderNets c r → ArePlaced c r
    → StartLaw (stands r) c (own r) → FirstLaw (stands r) (signal c r.first) (signal c r.empty)
    → HasOrderOf c p f (Some r)
order_some a c p f r merged fits fragment nets placed starts first = record {
  some = sym merged;
  order = λ x e.
      let same : r ≡ x = cc e in
      let here : IsOrder c p f r =
      record {
        stages = fits;
        nets = nets;
        placed = placed;
        owned = record { regs = fragment.has_reg; none = omega arith };
        starts = starts;
        first = first;
      } in
      subst (IsOrder c p f) same here;
}

-- ---- orders stay

module _ (a b : Circuit) (k : Keeps a b) where
  -- a fork's order stays, with its laws
  pub order_stays : (p : Pipe) (f : ℕ) (r : OrderRegs) → IsOrder a p f r → IsOrder b p f r
  order_stays p f r x =
      let e = k.kept r.first x.nets.first.there in
      let g = k.kept r.empty x.nets.empty.there in
      record {
        stages = x.stages;
        nets = record {
          first = width_keeps a b r.first 1 k x.nets.first;
          empty = width_keeps a b r.empty 1 k x.nets.empty;
        };
        placed = order_keeps a b r k x.placed;
        owned = record { regs = λ i lo hi. k.has_reg i (x.owned.regs i lo hi); none = x.owned.none };
        starts = record { starts = λ s z. x.starts.starts s (record { regs = λ i lo hi. z.regs i lo hi ∙ k.reset i (x.owned.regs i lo hi) }) };
        first = record {
          empties = λ s xs st. ap (λ (h : Signal). h.value s) g ∙ x.first.empties s xs st;
          leads = λ s y xs st. ap (λ (h : Signal). h.value s) e ∙ x.first.leads s y xs st;
        };
      }

  -- that a fork has an order just where it is merged stays so
  pub has_order_stays : (p : Pipe) (f : ℕ) (o : Option OrderRegs) → HasOrderOf a p f o → HasOrderOf b p f o
  has_order_stays p f o h = record { some = h.some; order = λ r e. order_stays p f r (h.order r e) }
