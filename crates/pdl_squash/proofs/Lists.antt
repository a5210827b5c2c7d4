-- Lists of nets that are made one by one, from the first on or from the last down.
use Rattle.std.proofs.Common.{◌≡◌, ℕ, zero, suc, ◌+◌, ◌-◌, ◌<◌, ◌≤◌, List, length, refl, ap, ◌∙◌, sym, subst, arith, add-one, ⊎_elim}
use Rattle.std.specs.Prelude.{slice_set}
use Rattle.std.proofs.lemmas.Bool.{cases_lt}
use Rattle.std.proofs.lemmas.List.{get_or-set_same, get_or-set_other, length-set}
use Rattle.pdl_net.specs.declared.Net.{Net}
use Rattle.pdl_net.specs.declared.Net.TheVariants.{Input}
use Rattle.pdl_net.specs.Circuit.{Circuit}
use Rattle.pdl_net.specs.Signal.{Signal, const_signal, mux_signal}
use Rattle.pdl_net.specs.Meaning.{IsThere, signal, Means}
use Rattle.pdl_net.specs.Growth.{Extends}
use Rattle.pdl_net.proofs.KeptWidths.{width_kept}
use Rattle.pdl_squash.specs.declared.SquashPorts.{SquashPorts}
use Rattle.pdl_squash.specs.Laws.{SquashSignals, squash_signals, AreBits, net_at, signal_at}
use Rattle.pdl_squash.specs.Nets.{MeanFrom, squash_signal, removed_signal, none_signal, clear_signal}

-- n nets of 1 bit stay there while the circuit grows
pub bits_kept : (a b : Circuit) (nets : List Net) (n : ℕ) → AreBits a nets n → Extends a b → AreBits b nets n
bits_kept a b nets n h e = record {
  count = h.count;
  each = λ k l. width_kept a b (net_at nets k) 1 e (h.each k l);
}

-- a list with one net more before those that were set
mean_set : (a b : Circuit) (nets : List Net) (x : Net) (k n : ℕ) (f : ℕ → Signal) → MeanFrom a nets (k + 1) n f
    → Extends a b → k < n → Means b x (f k) → MeanFrom b (slice_set nets k x) k n f
mean_set a b nets x k n f h e l m =
    let here : net_at (slice_set nets k x) k ≡ x = get_or-set_same nets k x (Input 0) (omega (arith, h.count, l)) in
    let after : (j : ℕ) → k < j → net_at (slice_set nets k x) j ≡ net_at nets j = λ j g. get_or-set_other nets k j x (Input 0) (λ (i : j ≡ k). omega arith) in
    let There : Net → Type 0 = λ y. IsThere b y in
    record {
      count = length-set nets k x ∙ h.count;
      there = λ j lo hi. ⊎_elim
          (λ (g : k < j). subst There (sym (after j g)) (e.there (net_at nets j) (h.there j (omega arith) hi)))
          (λ (g : j ≤ k). let i : k ≡ j = omega arith in
          let P : ℕ → Type 0 = λ q. IsThere b (net_at (slice_set nets k x) q) in
          subst P i (subst There (sym here) m.there))
          (cases_lt k j);
      same = λ j lo hi. ⊎_elim
          (λ (g : k < j). ap (signal b) (after j g) ∙ e.kept (net_at nets j) (h.there j (omega arith) hi) ∙ h.same j (omega arith) hi)
          (λ (g : j ≤ k). let i : k ≡ j = omega arith in
          let P : ℕ → Type 0 = λ q. signal_at b (slice_set nets k x) q ≡ f q in
          subst P i (ap (signal b) here ∙ m.same))
          (cases_lt k j);
    }

-- the chain from the last stage down
pub none_none : (f : SquashSignals) (k : ℕ) → none_signal f 0 k ≡ const_signal 1 1
unfolding none_signal
none_none f k = refl

-- the signal that n + 1 stages hold no thread is 0 where the first holds one, else that of the n after it
pub none_more : (f : SquashSignals) (n : ℕ)
    → n < f.stage
    → none_signal f (n + 1) (f.stage - n) ≡ mux_signal (f.valid (f.stage - n)) (const_signal 1 0) (none_signal f n (f.stage - n + 1))
unfolding none_signal
none_more f n h = ap (λ m. none_signal f m (f.stage - n)) (add-one n)

-- where n stages from the last down are none, the stage before them is clear
pub clear_is : (f : SquashSignals) (n : ℕ) → n < f.stage → clear_signal f (f.stage - n - 1) ≡ none_signal f (n + 1) (f.stage - n)
clear_is f n h =
    let i : f.stage - (f.stage - n - 1) ≡ n + 1 = omega arith in
    let j : f.stage - n - 1 + 1 ≡ f.stage - n = omega arith in
    cc

-- one more step of the chain
pub none_net : (b d : Circuit) (f : SquashSignals) (n : ℕ) (valid nought none x : Net)
    → n < f.stage → signal b valid ≡ f.valid (f.stage - n) → Means b nought (const_signal 1 0)
    → Means b none (none_signal f n (f.stage - n + 1))
    → Means d x (mux_signal (signal b valid) (signal b nought) (signal b none))
    → Means d x (none_signal f (n + 1) (f.stage - n))
none_net b d f n valid nought none x h v z m g =
    let e = z.same in
    let o = m.same in
    let t = g.same in
    let more = none_more f n h in
    record { there = g.there; same = cc }

-- where n stages from the last down have their nets, n + 1 have
pub clear_set : (b d : Circuit) (f : SquashSignals) (n : ℕ) (nets : List Net) (x : Net)
    → n < f.stage → MeanFrom b nets (f.stage - n) f.stage (clear_signal f) → Extends b d
    → Means d x (none_signal f (n + 1) (f.stage - n))
    → MeanFrom d (slice_set nets (f.stage - n - 1) x) (f.stage - (n + 1)) f.stage (clear_signal f)
clear_set b d f n nets x h c e m =
    let k = f.stage - n - 1 in
    let i : f.stage - n ≡ k + 1 = omega arith in
    let j : k ≡ f.stage - (n + 1) = omega arith in
    let P : ℕ → Type 0 = λ q. MeanFrom b nets q f.stage (clear_signal f) in
    let Q : ℕ → Type 0 = λ q. MeanFrom d (slice_set nets k x) q f.stage (clear_signal f) in
    subst Q j (mean_set b d nets x k f.stage (clear_signal f) (subst P i c) e (omega arith) (record { there = m.there; same = m.same ∙ sym (clear_is f n h) }))

-- nets that mean signals of 1 bit
pub mean_bits : (c : Circuit) (nets : List Net) (n : ℕ) (f : ℕ → Signal) → MeanFrom c nets 0 n f
    → ((k : ℕ) → k < n → (f k).width ≡ 1) → AreBits c nets n
mean_bits c nets n f h w = record {
  count = h.count;
  each = λ k l. record {
    there = h.there k (omega arith) l;
    width = ap (λ (g : Signal). g.width) (h.same k (omega arith) l) ∙ w k l;
  };
}

-- nets go on meaning their signals in a circuit to which more is added
pub mean_kept : (a b : Circuit) (nets : List Net) (first n : ℕ) (f : ℕ → Signal) → MeanFrom a nets first n f
    → Extends a b → MeanFrom b nets first n f
mean_kept a b nets first n f h e = record {
  count = h.count;
  there = λ k lo hi. e.there (net_at nets k) (h.there k lo hi);
  same = λ k lo hi. e.kept (net_at nets k) (h.there k lo hi) ∙ h.same k lo hi;
}

none_one : (f : SquashSignals) (n k : ℕ) → (none_signal f n k).width ≡ 1
unfolding none_signal
none_one f zero k = refl
none_one f (suc n) k = refl

-- the signal that a stage before the squashing one is clear has 1 bit
pub clear_one : (f : SquashSignals) (k : ℕ) → k < f.stage → (clear_signal f k).width ≡ 1
clear_one f k h = none_one f (f.stage - k) (k + 1)

-- what a squash goes by is the same up to its stage
pub record Alike (f g : SquashSignals) : Type 0 where
  pub stage : f.stage ≡ g.stage
  pub valid : (k : ℕ) → k ≤ f.stage → f.valid k ≡ g.valid k
  pub moves : f.moves ≡ g.moves
  pub fails : f.fails ≡ g.fails

-- what a squash goes by is the same in a circuit to which more is added
pub signals_alike : (a b : Circuit) (p : SquashPorts)
    → p.stage < length p.valid → AreBits a p.valid (length p.valid) → IsThere a p.moves → IsThere a p.fails
    → Extends a b → Alike (squash_signals b p) (squash_signals a p)
signals_alike a b p h v m f e = record {
  stage = refl;
  valid = λ k l. e.kept (net_at p.valid k) (v.each k (omega (arith, h, l))).there;
  moves = e.kept p.moves m;
  fails = e.kept p.fails f;
}

-- squashes that go by the same signals have the same signal that a stage's thread is removed
pub removed_alike : (f g : SquashSignals) (k : ℕ) → Alike f g → k < f.stage → removed_signal f k ≡ removed_signal g k
removed_alike f g k h l = let v = h.valid k (omega arith) in let m = h.moves in let e = h.fails in cc

none_alike : (f g : SquashSignals) (n k : ℕ) → Alike f g → k + n ≤ f.stage + 1 → none_signal f n k ≡ none_signal g n k
unfolding none_signal
none_alike f g zero k h l = refl
none_alike f g (suc n) k h l = let v = h.valid k (omega arith) in let m = none_alike f g n (k + 1) h (omega arith) in cc

-- squashes that go by the same signals have the same signal that a stage is clear
pub clear_alike : (f g : SquashSignals) (k : ℕ) → Alike f g → k < f.stage → clear_signal f k ≡ clear_signal g k
clear_alike f g k h l = none_alike f g (f.stage - k) (k + 1) h (omega arith) ∙ ap (λ n. none_signal g (n - k) (k + 1)) h.stage

-- the net that takes the failing guess where the thread moves, else 0, means that there is a squash
pub squash_is : (a b : Circuit) (p : SquashPorts) (nought : Net) → IsThere a p.moves → IsThere a p.fails → Extends a b
    → Means b nought (const_signal 1 0)
    → mux_signal (signal b p.moves) (signal b p.fails) (signal b nought) ≡ squash_signal (squash_signals a p)
squash_is a b p nought m f e z = let x = e.kept p.moves m in let y = e.kept p.fails f in let w = z.same in cc
