-- What the registers of a stage take next, one after the other.
use Rattle.std.proofs.Common.{◌≡◌, refl, sym, ap, ◌∙◌, ℕ, zero, suc, ◌+◌, ◌<◌, ◌≤◌, List, [], ◌∷◌, ◌++◌, length, arith}
use Rattle.std.specs.Prelude.{Some, None, slice_index}
use Rattle.std.proofs.lemmas.List.{length-append}
use Rattle.pdl_form.specs.Form.{Form}
use Rattle.pdl_net.specs.declared.Net.{Net}
use Rattle.pdl_net.specs.declared.Net.TheVariants.{Reg as RegNet}
use Rattle.pdl_net.specs.Circuit.{Circuit, HasReg}
use Rattle.pdl_net.specs.Signal.{Signal}
use Rattle.pdl_net.specs.Meaning.{signal, IsThere}
use Rattle.pdl_net.specs.Growth.{Keeps}
use Rattle.pdl_pipe_exprs.specs.Nets.{NetsThere, signals_in, signal_at}
use Rattle.pdl_pipe_exprs.proofs.NetLists.{net_more, there_keeps, signals_keep, width_at}
use Rattle.pdl_pipe_registers.specs.declared.nets.Item.{Item}
use Rattle.pdl_pipe_registers.specs.declared.nets.Item.TheVariants.{Var, Mark, Ticket, Guess}
use Rattle.pdl_pipe_registers.specs.declared.nets.StageNets.{StageNets}
use Rattle.pdl_pipe_registers.specs.Items.{IsOwn, item_at, item_width}
use Rattle.pdl_pipe_registers.specs.Stages.{reg_of}
use Rattle.pdl_pipe_registers.specs.Begun.{IsItem}
use Rattle.pdl_pipe_registers.proofs.Lists.{up_to}
use Rattle.pdl_pipe_registers.proofs.Begins.{nets_long, signal_old, signal_new}
use Rattle.pdl_pipe_nexts.specs.declared.line.StageLine.{StageLine}
use Rattle.pdl_pipe_nexts.specs.Lines.{IsStageNow, IsLineIn, ValueAs, line_form}
use Rattle.pdl_pipe_nexts.proofs.LineGrowth.{arriving_same, staying_same}
use Rattle.pdl_pipe_nexts.specs.Brings.{IsArgument, IsBrought}
use Rattle.pdl_pipe_nexts.specs.Nexts.{arriving, kept_signal, staying, IsKeptNow, IsKeptItem, AreNexts}

-- ---- the items of a stage

-- each is one of the form
own_item : (f : Form) (k : ℕ) (i : Item) → length f.pipe.start ≤ length f.widths → IsOwn f k i → IsItem f i
own_item f zero (Var x) p h = omega (arith, p, h)
own_item f zero (Mark mark m a) p h = absurd h
own_item f zero (Ticket m) p h = absurd h
own_item f zero (Guess i) p h = absurd h
own_item f (suc k) (Var x) p h = h
own_item f (suc k) (Mark mark m a) p h = tt
own_item f (suc k) (Ticket m) p h = h
own_item f (suc k) (Guess i) p h = let n = Rattle.std.proofs.lemmas.List.length-take (length f.pipe.start) f.widths in omega (arith, p, h, n)

own_argument : (f : Form) (k : ℕ) (i : Item) → k ≡ 0 → IsOwn f k i → IsArgument f.pipe (Some i)
own_argument f zero (Var x) e h = h
own_argument f zero (Mark mark m a) e h = h
own_argument f zero (Ticket m) e h = h
own_argument f zero (Guess i) e h = h
own_argument f (suc k) i e h = absurd (omega (arith, e))

module _ (c : Circuit) (f : Form) (nexts : List Signal) (k : ℕ) (s : StageNets) (h : IsStageNow c f nexts k s) (i : ℕ) (low : i < length s.regs.items) where
  -- the i-th item is one of the form
  pub item_is : length f.pipe.start ≤ length f.widths → IsBrought f (Some (item_at s.regs.items i))
  item_is p = own_item f k (item_at s.regs.items i) p (h.own i low)

  -- in stage 0 the i-th item is an argument of new threads
  pub argument_is : k ≡ 0 → IsArgument f.pipe (Some (item_at s.regs.items i))
  argument_is e = own_argument f k (item_at s.regs.items i) e (h.own i low)

  -- the register of the i-th item is one of the circuit's
  pub reg_low : reg_of s.regs i < length c.regs
  unfolding HasReg
  reg_low = (h.registers.kept i low).has

  -- the i-th item has its register, or is a variable of the stage
  pub item_kept : length f.pipe.start ≤ length f.widths → IsKeptItem c s i
  item_kept p = at (item_at s.regs.items i) (own_item f k (item_at s.regs.items i) p (h.own i low))
    where
      at : (j : Item) → IsItem f j → IsKeptNow c s i j
      at (Var x) l = let n = nets_long c f.widths s.begun h.nets.begun_wide in omega (arith, l, n)
      at (Mark mark m a) l = (h.registers.kept i low).there
      at (Ticket m) l = (h.registers.kept i low).there
      at (Guess j) l = (h.registers.kept i low).there

  -- the signal that keeps the i-th item is as wide as its register
  pub kept_wide : length f.pipe.start ≤ length f.widths → (kept_signal c s i (item_at s.regs.items i)).width ≡ item_width f nexts (item_at s.regs.items i)
  kept_wide p = at (item_at s.regs.items i) (ap (λ (g : Signal). g.width) (h.registers.kept i low).same)
    where
      at : (j : Item) → (signal c (RegNet (reg_of s.regs i))).width ≡ item_width f nexts j → (kept_signal c s i j).width ≡ item_width f nexts j
      at (Var x) e = sym (width_at (signals_in c s.begun) x) ∙ ap (λ ws. slice_index ws x) h.nets.begun_wide
      at (Mark mark m a) e = e
      at (Ticket m) e = e
      at (Guess j) e = e

-- what an item of a stage holds where no thread comes is the same in a circuit that keeps its nets
pub kept_signal_keep : (a b : Circuit) (f : Form) (nexts : List Signal) (k : ℕ) (s : StageNets) (i : ℕ) (j : Item)
    → Keeps a b → i < length s.regs.items → IsStageNow a f nexts k s → kept_signal b s i j ≡ kept_signal a s i j
kept_signal_keep a b f nexts k s i (Var x) e l h = ap (λ fs. signal_at fs x) (signals_keep a b s.begun e h.nets.begun)
kept_signal_keep a b f nexts k s i (Mark mark m n) e l h = e.kept (RegNet (reg_of s.regs i)) (h.registers.kept i l).there
kept_signal_keep a b f nexts k s i (Ticket m) e l h = e.kept (RegNet (reg_of s.regs i)) (h.registers.kept i l).there
kept_signal_keep a b f nexts k s i (Guess n) e l h = e.kept (RegNet (reg_of s.regs i)) (h.registers.kept i l).there

-- ---- the first of them

-- the nets for whether stage k holds a thread next and for its first i items are there, with their widths and values
pub record NextsSoFar (a c : Circuit) (x : StageLine) (k : ℕ) (s : StageNets) (nets : List Net) (i : ℕ) : Type 0 where
  pub there : NetsThere c nets
  pub count : length nets ≡ suc i
  pub valid_wide : (signal_at (signals_in c nets) 0).width ≡ 1
  pub valid : ValueAs (signal_at (signals_in c nets) 0) (arriving a x k None (staying a x k s))
  pub kept_wide : (j : ℕ) → j < i
      → (signal_at (signals_in c nets) (suc j)).width ≡ item_width (line_form x) (signals_in a x.shared.now.next) (item_at s.regs.items j)
  pub kept : (j : ℕ) → j < i
      → ValueAs (signal_at (signals_in c nets) (suc j)) (arriving a x k (Some (item_at s.regs.items j)) (kept_signal a s j (item_at s.regs.items j)))

-- at first there is the net for whether stage k holds a thread next, and none of an item
pub nexts_first : (a b c : Circuit) (x : StageLine) (k : ℕ) (s : StageNets) (stays valid : Net) → Keeps a b
    → IsLineIn a x → IsThere c valid → (signal c valid).width ≡ 1 → signal b stays ≡ staying b x k s
    → ValueAs (signal c valid) (arriving b x k None (signal b stays)) → NextsSoFar a c x k s (valid ∷ []) 0
nexts_first a b c x k s stays valid e line there wide rest h = record {
  there = (there, tt);
  count = refl;
  valid_wide = wide;
  valid =
      λ z. h z
      ∙ ap (λ (f : Signal). f.value z) (arriving_same a b x e line k None (signal b stays) ∙ ap (arriving a x k None) (rest ∙ staying_same a b x e line k s));
  kept_wide = λ j l. absurd (omega (arith, l));
  kept = λ j l. absurd (omega (arith, l));
}

-- with the net of one item more, the first i + 1 items have theirs
pub nexts_more : (a b c : Circuit) (x : StageLine) (k : ℕ) (s : StageNets) (nets : List Net) (i : ℕ) (rest net : Net)
    → Keeps a b → Keeps b c → IsLineIn a x → IsStageNow a (line_form x) (signals_in a x.shared.now.next) k s
    → i < length s.regs.items → signal b rest ≡ kept_signal b s i (item_at s.regs.items i) → IsThere c net
    → (signal c net).width ≡ (signal b rest).width
    → ValueAs (signal c net) (arriving b x k (Some (item_at s.regs.items i)) (signal b rest))
    → NextsSoFar a b x k s nets i → NextsSoFar a c x k s (nets ++ net ∷ []) (i + 1)
nexts_more a b c x k s nets i rest net ab bc line now low is there wide h so =
    let item = item_at s.regs.items i in
    let f = line_form x in
    let nexts = signals_in a x.shared.now.next in
    let same = signals_keep b c nets bc so.there in
    let kept = is ∙ kept_signal_keep a b f nexts k s i item ab low now in
    let n = so.count in
    let old : (j : ℕ) → j < length nets → signal_at (signals_in c (nets ++ net ∷ [])) j ≡ signal_at (signals_in b nets) j =
    λ j l. signal_old c nets net j l ∙ ap (λ fs. signal_at fs j) same in
    let new : signal_at (signals_in c (nets ++ net ∷ [])) (suc i) ≡ signal c net = signal_new c nets net (suc i) (sym so.count) in
    record {
      there = net_more c nets net (there_keeps b c nets bc so.there) there;
      count = length-append nets (net ∷ []) ∙ (let z : length nets + 1 ≡ suc (i + 1) = omega (arith, n) in z);
      valid_wide = ap (λ (g : Signal). g.width) (old 0 (omega (arith, n))) ∙ so.valid_wide;
      valid = λ z. ap (λ (g : Signal). g.value z) (old 0 (omega (arith, n))) ∙ so.valid z;
      kept_wide = up_to (λ j. (signal_at (signals_in c (nets ++ net ∷ [])) (suc j)).width ≡ item_width f nexts (item_at s.regs.items j)) i
          (λ j l. ap (λ (g : Signal). g.width) (old (suc j) (omega (arith, n, l))) ∙ so.kept_wide j l)
          (ap (λ (g : Signal). g.width) new ∙ wide ∙ ap (λ (g : Signal). g.width) kept ∙ kept_wide a f nexts k s now i low line.params);
      kept =
          up_to
          (λ j. ValueAs (signal_at (signals_in c (nets ++ net ∷ [])) (suc j))
          (arriving a x k (Some (item_at s.regs.items j)) (kept_signal a s j (item_at s.regs.items j)))) i
          (λ j l z. ap (λ (g : Signal). g.value z) (old (suc j) (omega (arith, n, l))) ∙ so.kept j l z)
          (λ z. ap (λ (g : Signal). g.value z) new ∙ h z
          ∙ ap (λ (g : Signal). g.value z) (arriving_same a b x ab line k (Some item) (signal b rest) ∙ ap (arriving a x k (Some item)) kept));
    }

-- with the nets of all items, a stage has what its registers take next
pub nexts_all : (a c : Circuit) (x : StageLine) (k : ℕ) (s : StageNets) (nets : List Net) (i : ℕ)
    → i ≡ length s.regs.items → NextsSoFar a c x k s nets i → AreNexts a c x k s nets
nexts_all a c x k s nets i e h = record {
  there = h.there;
  count = h.count ∙ ap suc e;
  valid_wide = h.valid_wide;
  valid = h.valid;
  kept_wide = λ j l. h.kept_wide j (omega (arith, l, e));
  kept = λ j l. h.kept j (omega (arith, l, e));
}
