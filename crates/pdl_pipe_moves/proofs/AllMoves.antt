-- The moves of all stages, with the squash of one.
use Rattle.std.proofs.Common.{◌≡◌, ◌≢◌, ◌<◌, ◌≤◌, ℕ, zero, suc, ◌+◌, Bool, refl, sym, ap, ap₂, ◌∙◌, subst, length, List, [], ◌∷◌, ◌++◌, arith}
use Rattle.std.specs.Prelude.{◌⊎◌, slice_set}
use Rattle.std.proofs.lemmas.Bool.{cases_lt}
use Rattle.std.proofs.Common.{inl, inr}
use Rattle.std.proofs.lemmas.List.{length-set, get_or-set_same, get_or-set_other}
use Rattle.pdl_word.specs.Each.{Each}
use Rattle.pdl_kit.specs.declared.seq.Seq.{Seq}
use Rattle.pdl_semantics.specs.Flat.{Pipe}
use Rattle.pdl_net.specs.declared.Net.{Net}
use Rattle.pdl_net.specs.declared.Net.TheVariants.{Input}
use Rattle.pdl_net.specs.Circuit.{Circuit, State}
use Rattle.pdl_net.specs.Signal.{Signal}
use Rattle.pdl_net.specs.Meaning.{signal, IsThere}
use Rattle.pdl_net.specs.Growth.{Keeps}
use Rattle.pdl_net.proofs.Keeps.{keeps_trans}
use Rattle.pdl_net.proofs.KeptWidths.{width_meant}
use Rattle.pdl_squash.specs.Laws.{net_at, Drives, SquashLaw, AreBits as AreSquashBits, signal_at as squash_net}
use Rattle.pdl_pipe_exprs.specs.Conditions.{AreBits}
use Rattle.pdl_pipe_exprs.specs.declared.bits.Bits.{Bits}
use Rattle.pdl_pipe_exprs.specs.Nets.{signals_in, signal_at}
use Rattle.pdl_pipe_exprs.proofs.NetLists.{signals_keep}
use Rattle.pdl_law_parts.specs.Walk.{is_on}
use Rattle.pdl_law_parts.specs.Views.{View, moves_where}
use Rattle.pdl_pipe_walk.proofs.Lists.{each_by}
use Rattle.pdl_pipe_nexts.proofs.pipe_registers.Lists.{some_stage, view_at}
use Rattle.pdl_pipe_beside.specs.Ports.{StandPorts}
use Rattle.pdl_pipe_beside.proofs.OrderSteps.{squashes_keep}
use Rattle.pdl_pipe_answers.specs.Ports.{IsBit, IsBitFor}
use Rattle.pdl_pipe_nexts.specs.declared.line.StageLine.{StageLine}
use Rattle.pdl_pipe_nexts.specs.Lines.{line_pipe, line_views, line_moves, IsLineIn}
use Rattle.pdl_pipe_nexts.proofs.LineGrowth.{line_keep, views_same, all_moves_same, bits_there}
use Rattle.pdl_pipe_moves.specs.declared.controls.Controls.{Controls}
use Rattle.pdl_pipe_moves.specs.declared.passing.Passage.{Passage}
use Rattle.pdl_pipe_moves.specs.Inside.{LeadsInside}
use Rattle.pdl_pipe_moves.specs.Signs.{gate_by, signs_by, IsControlled}
use Rattle.pdl_pipe_moves.specs.Passed.{HaveFree, IsMovedBy, IsPassed, ArePassed, frees_at}
use Rattle.pdl_pipe_moves.specs.StageSquashes.{ArePadded, HasValids}
use Rattle.pdl_pipe_moves.proofs.TurnGrowth.{turns_keep}
use Rattle.pdl_pipe_moves.proofs.GateParts.{bits_keep}
use Rattle.pdl_pipe_moves.proofs.FreePorts.{net_signal}
use Rattle.pdl_pipe_moves.proofs.GateGrowth.{gate_same}
use Rattle.pdl_pipe_moves.proofs.PassageGrowth.{each_set, gate_as, passed_keep, passed_set, passed_new}

-- with a net more after them, the nets before stay at their numbers
pub at_first : (xs : List Net) (y : Net) (k : ℕ) → k < length xs → net_at (xs ++ y ∷ []) k ≡ net_at xs k
at_first [] y k l = absurd (omega (arith, l))
at_first (x ∷ xs) y zero l = refl
at_first (x ∷ xs) y (suc k) l = at_first xs y k (omega (arith, l))

-- the net that was added is the last one
pub at_last : (xs : List Net) (y : Net) (k : ℕ) → k ≡ length xs → net_at (xs ++ y ∷ []) k ≡ y
at_last [] y zero e = refl
at_last [] y (suc k) e = absurd (omega (arith, e))
at_last (x ∷ xs) y zero e = absurd (omega (arith, e))
at_last (x ∷ xs) y (suc k) e = at_last xs y k (omega (arith, e))

-- ---- controls

-- the nets of turns, of squashes and of clear stages stay in a circuit that keeps what stands in theirs
pub controls_keep : (a b : Circuit) (p : Pipe) (y : Controls) → Keeps a b → IsControlled a p y → IsControlled b p y
controls_keep a b p y e h = record {
  turns = turns_keep a b e p y.orders.now h.turns;
  squashes = squashes_keep a b y.squashes e h.squashes;
  clear_count = h.clear_count;
  clear = bits_keep a b y.clear.now e h.clear;
}

-- ---- a stage that is asked

module _ (a b : Circuit) (e : Keeps a b) (x : StageLine) (y : Controls) (line : IsLineIn a x)
    (inside : LeadsInside (line_pipe x)) (h : IsControlled a (line_pipe x) y) where
  -- the thread of stage k moves by a gate that was made, and by moves as they were then
  pub moved_so : (c : Circuit) (f : Keeps b c) (frees : List Net) (gate moves : Net) (k : ℕ) → k < length (line_pipe x).stages → Each (IsBit a) frees
      → IsBitFor b gate (gate_by (line_pipe x) (line_views a x) (signs_by a x y) (signal_at (signals_in a frees)) k)
      → IsBitFor c moves (moves_where (line_pipe x) (line_views b x) (λ j. signal b gate) (line_moves b x) k)
      → IsMovedBy c x (signs_by c x y) (signal_at (signals_in c frees)) (line_moves c x) k (signal c moves)
  moved_so c f frees gate moves k low fs g m s =
      let lb = line_keep a b x e line in
      let ac = keeps_trans a b c e f in
      m.on s
      ∙ gate_as (line_pipe x) (line_views b x) (λ j. signal b gate)
      (λ j. gate_by (line_pipe x) (line_views a x) (signs_by a x y) (signal_at (signals_in a frees)) k)
      (line_moves b x) k g.on s
      ∙ ap₂
      (λ (vs : ℕ → View)
      (ms : ℕ → Signal). is_on
      (moves_where (line_pipe x) vs (λ j. gate_by (line_pipe x) (line_views a x) (signs_by a x y) (signal_at (signals_in a frees)) k) ms k) s)
      (sym (views_same b c x f lb)) (sym (all_moves_same b c x f lb))
      ∙ ap (λ (i : Signal). is_on (moves_where (line_pipe x) (line_views c x) (λ j. i) (line_moves c x) k) s)
      (sym (gate_same a c ac x y line inside h (signal_at (signals_in a frees)) k low)
      ∙ ap (λ fs. gate_by (line_pipe x) (line_views c x) (signs_by c x y) (signal_at fs) k) (sym (signals_keep a c frees ac (bits_there a frees fs))))

-- ---- one stage more

frees_other : (xs : List (Seq Net)) (k j : ℕ) (y : Seq Net) → j ≢ k → frees_at (slice_set xs k y) j ≡ frees_at xs j
frees_other xs k j y h = get_or-set_other xs k j y [] h

all_keep : (a b : Circuit) → Keeps a b → (xs : List (Seq Net)) → Each (λ (fs : Seq Net). Each (IsBit a) fs) xs
    → Each (λ (fs : Seq Net). Each (IsBit b) fs) xs
all_keep a b e [] h = tt
all_keep a b e (fs ∷ xs) h = (bits_keep a b fs e h.0, all_keep a b e xs h.1)

frees_bits : (c : Circuit) (xs : List (Seq Net)) (k : ℕ) → Each (λ (fs : Seq Net). Each (IsBit c) fs) xs → Each (IsBit c) (frees_at xs k)
frees_bits c [] k h = tt
frees_bits c (fs ∷ xs) zero h = h.0
frees_bits c (fs ∷ xs) (suc k) h = frees_bits c xs k h.1

module _ (a b : Circuit) (e : Keeps a b) (x : StageLine) (y : Controls) (line : IsLineIn a x)
    (inside : LeadsInside (line_pipe x)) (stand : StandPorts a (line_pipe x) x.shared.now.ports.now)
    (h : IsControlled a (line_pipe x) y) where
  -- stages of which it is known whether their threads move stay so in the circuit that grew
  pub all_passed_keep : (nets : List Net) (opens : List (Seq Net)) (low : ℕ)
      → ArePassed a x (signs_by a x y) nets opens low → ArePassed b x (signs_by b x y) nets opens low
  all_passed_keep nets opens low it = record {
    moves_count = it.moves_count;
    moves = bits_keep a b nets e it.moves;
    frees_count = it.frees_count;
    frees = all_keep a b e opens it.frees;
    each = λ k l m.
        passed_keep a b e x line stand (signs_by a x y)
        (signs_by b x y) nets (frees_at opens k) k (λ fs. gate_same a b e x y line inside h fs k m) it.moves (frees_bits a opens k it.frees)
        (it.each k l m);
  }

  -- with the move of stage k and its free ports found, it is known of each stage from k on
  pub passed_more : (nets : List Net) (opens : List (Seq Net)) (k : ℕ) (one : Passage) (z : StageLine)
      → z.moves.now ≡ nets → k < length (line_pipe x).stages → ArePassed a x (signs_by a x y) nets opens (k + 1)
      → IsBit b one.moves → HaveFree b (record z { pipe = x.pipe; shared = x.shared; stages = x.stages }) k one.frees (length (line_pipe x).mems)
      → IsMovedBy b x (signs_by b x y) (signal_at (signals_in b one.frees)) (line_moves b z) k (signal b one.moves)
      → ArePassed b x (signs_by b x y) (slice_set nets k one.moves) (slice_set opens k one.frees) k
  passed_more nets opens k one z same low it bit free is =
      let kept = all_passed_keep nets opens (k + 1) it in
      record {
        moves_count = length-set nets k one.moves ∙ it.moves_count;
        moves = each_set (IsBit b) nets k one.moves kept.moves bit;
        frees_count = length-set opens k one.frees ∙ it.frees_count;
        frees = each_set (λ (fs : Seq Net). Each (IsBit b) fs) opens k one.frees kept.frees free.bits;
        each = λ j l m. at j l m (cases_lt k j);
      }
    where
      w : StageLine
      w = record z { pipe = x.pipe; shared = x.shared; stages = x.stages }

      at : (j : ℕ) → k ≤ j → j < length (line_pipe x).stages → (k < j) ⊎ (j ≤ k)
          → IsPassed b x (signs_by b x y) (slice_set nets k one.moves) (frees_at (slice_set opens k one.frees) j) j
      at j l m (inl q) =
          let n = it.moves_count in
          subst (λ fs. IsPassed b x (signs_by b x y) (slice_set nets k one.moves) fs j) (sym (frees_other opens k j one.frees (λ f. omega (arith, q, f))))
          (passed_set x inside j m b (signs_by b x y) nets (frees_at opens j) k one.moves q (omega (arith, q, m, n))
          ((all_passed_keep nets opens (k + 1) it).each j (omega (arith, q)) m))
      at j l m (inr q) =
          let f : k ≡ j = omega (arith, l, q) in
          let n = it.moves_count in
          let c = it.frees_count in
          let here =
          passed_new w inside k low b (signs_by b x y) nets one.frees one.moves (omega (arith, low, n)) free
          (λ i. ap (λ ns. signal_at (signals_in b ns) i) same) is in
          subst (λ i. IsPassed b x (signs_by b x y) (slice_set nets k one.moves) (frees_at (slice_set opens k one.frees) i) i) f
          (subst (λ fs. IsPassed b x (signs_by b x y) (slice_set nets k one.moves) fs k)
          (sym (get_or-set_same opens k one.frees [] (omega (arith, low, c))))
          (record { moves = here.moves; free = here.free }))

-- ---- lists of one net, and lists that are filled up

-- in a list of one net again and again each number has this net's signal
pub filled_at : (c : Circuit) (z : Net) (xs : List Net) (k : ℕ)
    → k < length xs → Each (λ (x : Net). x ≡ z) xs → signal_at (signals_in c xs) k ≡ signal c z
filled_at c z [] k l h = absurd (omega (arith, l))
filled_at c z (x ∷ xs) zero l h = ap (signal c) h.0
filled_at c z (x ∷ xs) (suc k) l h = filled_at c z xs k (omega (arith, l)) h.1

-- a list of one net of 1 bit again and again has nets of 1 bit
pub filled_bits : (c : Circuit) (z : Net) (xs : List Net) → IsBit c z → Each (λ (x : Net). x ≡ z) xs → Each (IsBit c) xs
filled_bits c z [] b h = tt
filled_bits c z (x ∷ xs) b h = (subst (IsBit c) (sym h.0) b, filled_bits c z xs b h.1)

-- the net that is always 0 has 1 bit
pub zero_bits : (c : Circuit) (y : Bits) → AreBits c y → IsBit c y.zero
zero_bits c y h = width_meant c y.zero _ 1 h.zero refl

-- nets of 1 bit that were filled up by a net of 1 bit are nets of 1 bit
pub padded_bits : (c : Circuit) (nets : List Net) (fill : Net) (n m : ℕ) (xs : List Net) → AreSquashBits c nets m
    → IsBit c fill → ArePadded nets fill n xs → Each (IsBit c) xs
padded_bits c nets fill n m xs bits none h = each_by (IsBit c) xs (Input 0) (λ i l. at i (let e = h.count_is in omega (arith, l, e)) (cases_lt i (length nets)))
  where
    at : (i : ℕ) → i < n → (i < length nets) ⊎ (length nets ≤ i) → IsBit c (net_at xs i)
    at i l (inl q) = let e = bits.count in
        subst (IsBit c) (sym (h.front i q l)) (bits.each i (omega (arith, q, e)))
    at i l (inr q) = subst (IsBit c) (sym (h.rest i q l)) none

-- among nets that were filled up, each that was there before has its signal at its number
pub padded_front : (c : Circuit) (nets : List Net) (fill : Net) (n : ℕ) (xs : List Net) (k : ℕ)
    → k < length nets → k < n → ArePadded nets fill n xs → squash_net c nets k ≡ signal_at (signals_in c xs) k
padded_front c nets fill n xs k l m h = ap (signal c) (sym (h.front k l m)) ∙ net_signal c xs k (let e = h.count_is in omega (arith, m, e))

-- past the nets that were filled up each number has the signal of the net that fills up
pub padded_rest : (c : Circuit) (nets : List Net) (fill : Net) (n : ℕ) (xs : List Net) (k : ℕ)
    → length nets ≤ k → k < n → ArePadded nets fill n xs → signal_at (signals_in c xs) k ≡ signal c fill
padded_rest c nets fill n xs k l m h = sym (net_signal c xs k (let e = h.count_is in omega (arith, m, e))) ∙ ap (signal c) (h.rest k l m)

-- ---- a squash

-- a squash by the same signals keeps its law
pub squash_as : (v : ℕ) (va vb : ℕ → Signal) (ma mb fa fb qa qb : Signal) (ra rb ca cb : ℕ → Signal)
    → ((k : ℕ) → k ≤ v → va k ≡ vb k) → ma ≡ mb → fa ≡ fb → qa ≡ qb → ((k : ℕ) → k < v → ra k ≡ rb k)
    → ((k : ℕ) → k < v → ca k ≡ cb k) → SquashLaw (record { valid = va; stage = v; moves = ma; fails = fa }) qa ra ca
    → SquashLaw (record { valid = vb; stage = v; moves = mb; fails = fb }) qb rb cb
squash_as v va vb ma mb fa fb qa qb ra rb ca cb valid moves fails squash removed clear law = record {
  squashes = λ s held m f d. ap (λ (g : Signal). g.value s) (sym squash) ∙ law.squashes s held m f (drives s held m f d);
  removes = λ s held m f d k l. ap (λ (g : Signal). g.value s) (sym (removed k l)) ∙ law.removes s held m f (drives s held m f d) k l;
  clears = λ s held m f d k n e l. ap (λ (g : Signal). g.value s) (sym (clear k l)) ∙ law.clears s held m f (drives s held m f d) k n e l;
}
  where
    drives : (s : State) (held : ℕ → Bool) (m f : Bool)
        → Drives (record { valid = vb; stage = v; moves = mb; fails = fb }) s held m f
        → Drives (record { valid = va; stage = v; moves = ma; fails = fa }) s held m f
    drives s held m f d = record {
      valid = λ k l. ap (λ (g : Signal). g.value s) (valid k l) ∙ d.valid k l;
      moves = ap (λ (g : Signal). g.value s) moves ∙ d.moves;
      fails = λ e. ap (λ (g : Signal). g.value s) fails ∙ d.fails e;
    }

-- the nets of whether stages hold threads
valid_net : (c : Circuit) (x : StageLine) (xs : List Net) → IsLineIn c x → HasValids x xs → (k : ℕ)
    → k < length xs → IsThere c (net_at xs k) × (squash_net c xs k ≡ (line_views c x k).valid)
valid_net c x xs line h k l =
    let n = h.count in
    let low : k < length x.stages.now = omega (arith, l, n) in
    let some = some_stage x.stages.now k low in
    let s = some.0 in
    let now = line.stages k s low some.1 in
    let net = h.each k s l some.1 in (
      subst (IsThere c) (sym net) now.registers.valid.there,
      ap (signal c) net ∙ now.registers.valid.same ∙ sym (ap (λ (v : View). v.valid) (view_at c x.stages.now k s low some.1)),
    )

-- the nets that tell whether stages hold threads have 1 bit each
pub valid_bits : (c : Circuit) (x : StageLine) (xs : List Net) → IsLineIn c x → HasValids x xs → AreSquashBits c xs (length xs)
valid_bits c x xs line h = record {
  count = refl;
  each = λ k l.
      let n = h.count in
      let low : k < length x.stages.now = omega (arith, l, n) in
      let some = some_stage x.stages.now k low in
      let net = valid_net c x xs line h k l in
      record {
        there = net.0;
        width = ap (λ (f : Signal). f.width) (net.1 ∙ ap (λ (v : View). v.valid) (view_at c x.stages.now k some.0 low some.1));
      };
}

-- the k-th of the nets that tell whether stages hold threads tells it of stage k
pub valid_is : (c : Circuit) (x : StageLine) (xs : List Net) → IsLineIn c x → HasValids x xs → (k : ℕ)
    → k < length xs → squash_net c xs k ≡ (line_views c x k).valid
valid_is c x xs line h k l = (valid_net c x xs line h k l).1

-- the k-th of some nets of 1 bit has 1 bit
pub net_bit : (c : Circuit) (xs : List Net) (k : ℕ) → k < length xs → Each (IsBit c) xs → IsBit c (net_at xs k)
net_bit c [] k l h = absurd (omega (arith, l))
net_bit c (x ∷ xs) zero l h = h.0
net_bit c (x ∷ xs) (suc k) l h = net_bit c xs k (omega (arith, l)) h.1
