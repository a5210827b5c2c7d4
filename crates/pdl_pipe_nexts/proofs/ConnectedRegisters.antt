-- Registers of stages that are told what they take next, one after the other.
use Rattle.std.proofs.Common.{◌≡◌, inl, inr, ℕ, zero, suc, ◌+◌, ◌<◌, ◌≤◌, ◌++◌, ◌∷◌, [], List, length, get_or, sym, ap, ◌∙◌, subst, arith}
use Rattle.std.specs.Prelude.{Some, None}
use Rattle.std.proofs.lemmas.List.{get_or_append_left}
use Rattle.std.proofs.Math.Seq.{get_or-append_seam}
use Rattle.pdl_kit.specs.declared.seq.Seq.{Seq}
use Rattle.pdl_net.specs.declared.Net.{Net}
use Rattle.pdl_net.specs.Circuit.{Circuit, HasReg, reg_width}
use Rattle.pdl_net.specs.Signal.{Signal}
use Rattle.pdl_net.specs.Meaning.{signal, next_signal}
use Rattle.pdl_net.specs.Growth.{Own, Outside, Keeps, ExtendsBut}
use Rattle.pdl_net.proofs.Keeps.{but_keeps, but_trans}
use Rattle.pdl_build.specs.Change.{one_reg}
use Rattle.pdl_pipe_exprs.specs.Nets.{NetsThere, signals_in, signal_at}
use Rattle.pdl_pipe_exprs.proofs.NetLists.{there_keeps, signals_keep}
use Rattle.pdl_pipe_registers.specs.declared.nets.StageNets.{StageNets}
use Rattle.pdl_pipe_registers.specs.Items.{item_at, item_width}
use Rattle.pdl_pipe_registers.specs.Stages.{reg_of, end_of, IsAt}
use Rattle.pdl_pipe_registers.specs.Staged.{AreApart}
use Rattle.pdl_pipe_registers.proofs.Begins.{next_keep}
use Rattle.pdl_pipe_registers.proofs.Lists.{up_to}
use Rattle.pdl_pipe_nexts.specs.declared.line.StageLine.{StageLine}
use Rattle.pdl_pipe_nexts.specs.Lines.{IsStageNow, IsLineIn, line_form}
use Rattle.pdl_pipe_nexts.specs.Nexts.{arriving, staying, kept_signal, regs_of, AreNexts, AllNexts, FitsRegs, AreSet, TakesNext}
use Rattle.pdl_pipe_nexts.proofs.LineGrowth.{at_same, arriving_same, staying_same}
use Rattle.pdl_pipe_nexts.proofs.NextsMade.{kept_signal_keep}

-- ---- ranges of registers

but_wider : (o p : Own) (a b : Circuit) → ((r : ℕ) → Outside p.from p.to r → Outside o.from o.to r)
    → ((m : ℕ) → Outside p.first p.last m → Outside o.first o.last m) → ExtendsBut o a b → ExtendsBut p a b
but_wider o p a b f g x = record {
  there = x.there;
  kept = x.kept;
  has_reg = x.has_reg;
  width = x.width;
  reset = x.reset;
  has_array = x.has_array;
  word = x.word;
  depth = x.depth;
  nexts = λ r h k. x.nexts r h (f r k);
  writes = λ m h k. x.writes m h (g m k);
  ports = x.ports;
  shapes = x.shapes;
}

outside_wider : (a b c d : ℕ) → a ≤ c → d ≤ b → (r : ℕ) → Outside a b r → Outside c d r
outside_wider a b c d l h r (inl k) = inl (omega (arith, k, l))
outside_wider a b c d l h r (inr k) = inr (omega (arith, k, h))

-- registers from a lower one on up to a higher one
but_more : (a b : Circuit) (low high from to : ℕ)
    → low ≤ from → to ≤ high → ExtendsBut (regs_of from to) a b → ExtendsBut (regs_of low high) a b
but_more a b low high from to l h x = but_wider (regs_of from to) (regs_of low high) a b (outside_wider low high from to l h) (λ m k. k) x

but_one : (a b : Circuit) (low high r : ℕ) → low ≤ r → r < high → ExtendsBut (one_reg r) a b → ExtendsBut (regs_of low high) a b
but_one a b low high r l h x = but_wider (one_reg r) (regs_of low high) a b (outside_wider low high r (r + 1) l (omega (arith, h))) (λ m k. k) x

-- ---- one register more

-- a circuit has each register whose number is below how many it has
pub has_low : (c : Circuit) (r : ℕ) → r < length c.regs → HasReg c r
unfolding HasReg
has_low c r l = l

-- the first i registers of a stage take these
pub record SetSoFar (a b : Circuit) (s : StageNets) (nets : List Net) (i : ℕ) : Type 0 where
  pub extends : ExtendsBut (regs_of s.regs.valid (end_of s.regs)) a b
  pub set : (j : ℕ) → j < i → next_signal b (s.regs.valid + j) ≡ signal_at (signals_in a nets) j

-- with one register told what it takes next, the first i + 1 registers of a stage take their nets
pub set_more : (a b c : Circuit) (s : StageNets) (nets : List Net) (i : ℕ) (net : Net)
    → i < length nets → length nets ≡ suc (length s.regs.items) → NetsThere a nets → FitsRegs a s nets
    → signal b net ≡ signal_at (signals_in b nets) i → next_signal c (s.regs.valid + i) ≡ signal b net
    → ExtendsBut (one_reg (s.regs.valid + i)) b c → SetSoFar a b s nets i → SetSoFar a c s nets (i + 1)
set_more a b c s nets i net low count there fits is new x h =
    let own = regs_of s.regs.valid (end_of s.regs) in
    let e = but_keeps own a b h.extends in
    record {
      extends = but_trans own a b c h.extends (but_one b c s.regs.valid (end_of s.regs) (s.regs.valid + i) (omega arith) (omega (arith, low, count)) x);
      set = up_to (λ j. next_signal c (s.regs.valid + j) ≡ signal_at (signals_in a nets) j) i
          (λ j l. x.nexts (s.regs.valid + j)
          (e.has_reg (s.regs.valid + j) (has_low a (s.regs.valid + j) (fits j (omega (arith, l, low))).0))
          (inl (omega (arith, l)))
          ∙ h.set j l)
          (new ∙ is ∙ ap (λ fs. signal_at fs i) (signals_keep a b nets e there));
    }

-- ---- one stage more

nexts_keep : (a b c : Circuit) (x : StageLine) (k : ℕ) (s : StageNets) (nets : List Net) → Keeps b c
    → AreNexts a b x k s nets → AreNexts a c x k s nets
nexts_keep a b c x k s nets e h =
    let same = signals_keep b c nets e h.there in
    record {
      there = there_keeps b c nets e h.there;
      count = h.count;
      valid_wide = ap (λ fs. (signal_at fs 0).width) same ∙ h.valid_wide;
      valid = λ z. ap (λ fs. (signal_at fs 0).value z) same ∙ h.valid z;
      kept_wide = λ i l. ap (λ fs. (signal_at fs (suc i)).width) same ∙ h.kept_wide i l;
      kept = λ i l z. ap (λ fs. (signal_at fs (suc i)).value z) same ∙ h.kept i l z;
    }

-- the nets for the registers of all stages stay in a circuit that keeps them
pub all_keep : (a b c : Circuit) (x : StageLine) (xs : List (Seq Net)) → Keeps b c → AllNexts a b x xs → AllNexts a c x xs
all_keep a b c x xs e h = record { count = h.count; each = λ k s nets l is at. nexts_keep a b c x k s nets e (h.each k s nets l is at) }

-- the nets of the first k stages
abbrev pub FirstNexts : Circuit → Circuit → StageLine → List (Seq Net) → ℕ → Type 0
FirstNexts a c x xs n = (k : ℕ) (s : StageNets) (nets : Seq Net) → k < n → IsAt x.stages.now k s → get_or xs k nets ≡ nets → AreNexts a c x k s nets

-- with nets for the registers of one stage more, the first n + 1 stages have theirs
pub first_more : (a b c : Circuit) (x : StageLine) (xs : List (Seq Net)) (new : Seq Net) (n : ℕ)
    → n ≡ length xs → Keeps b c → FirstNexts a b x xs n
    → ((s : StageNets) → IsAt x.stages.now n s → AreNexts a c x n s new) → FirstNexts a c x (xs ++ new ∷ []) (n + 1)
first_more a b c x xs new n e keeps old here k s nets l is at =
    up_to (λ j. (t : StageNets) (ys : Seq Net) → IsAt x.stages.now j t → get_or (xs ++ new ∷ []) j ys ≡ ys → AreNexts a c x j t ys) n
    (λ j q t ys it z. nexts_keep a b c x j t ys keeps (old j t ys q it (sym (get_or_append_left xs (new ∷ []) ys j (omega (arith, q, e))) ∙ z)))
    (λ t ys it z. subst (AreNexts a c x n t)
    (sym (get_or-append_seam xs new [] ys) ∙ ap (λ j. get_or (xs ++ new ∷ []) j ys) (sym e) ∙ z)
    (here t it)) k l s nets is at

-- ---- registers fit their nets

-- the nets for the registers of a stage have the widths of these registers
pub fits_regs : (a b : Circuit) (x : StageLine) (k : ℕ) (s : StageNets) (nets : List Net) (nexts : List Signal)
    → nexts ≡ signals_in a x.shared.now.next → IsStageNow b (line_form x) nexts k s → AreNexts a b x k s nets
    → FitsRegs b s nets
unfolding HasReg
fits_regs a b x k s nets nexts e now h zero l = let q = now.registers.valid in
    subst (λ r. (r < length b.regs) × ((signal_at (signals_in b nets) 0).width ≡ reg_width b r))
    (let z : s.regs.valid ≡ s.regs.valid + 0 = omega arith in z) (q.has, h.valid_wide ∙ sym q.width)
fits_regs a b x k s nets nexts e now h (suc i) l =
    let n = h.count in
    let low : i < length s.regs.items = omega (arith, l, n) in
    let q = now.registers.kept i low in
    subst (λ r. (r < length b.regs) × ((signal_at (signals_in b nets) (suc i)).width ≡ reg_width b r))
    (let z : reg_of s.regs i ≡ s.regs.valid + suc i = omega arith in z)
    (q.has, h.kept_wide i low ∙ ap (λ fs. Rattle.pdl_pipe_registers.specs.Items.item_width (line_form x) fs (item_at s.regs.items i)) (sym e) ∙ sym q.width)

-- the registers of a stage take what they should, where they are set to its nets
pub takes_now : (a b d : Circuit) (x : StageLine) (k : ℕ) (s : StageNets) (nets : List Net) → AreNexts a b x k s nets
    → AreSet b d s nets → TakesNext a d x k s
takes_now a b d x k s nets h set =
    let n = h.count in
    record {
      valid =
          λ z. ap (λ (f : Signal). f.value z) (ap (next_signal d) (let y : s.regs.valid ≡ s.regs.valid + 0 = omega arith in y) ∙ set 0 (omega (arith, n)))
          ∙ h.valid z;
      kept =
          λ i l z. ap (λ (f : Signal). f.value z)
          (ap (next_signal d) (let y : reg_of s.regs i ≡ s.regs.valid + suc i = omega arith in y) ∙ set (suc i) (omega (arith, n, l)))
          ∙ h.kept i l z;
    }

-- and still do where others are told
takes_keep : (a b d : Circuit) (x : StageLine) (k : ℕ) (s : StageNets) (nexts : List Signal) (low high : ℕ)
    → IsStageNow b (line_form x) nexts k s → end_of s.regs ≤ low → ExtendsBut (regs_of low high) b d
    → TakesNext a b x k s → TakesNext a d x k s
takes_keep a b d x k s nexts low high now l e h = record {
  valid = λ z. ap (λ (f : Signal). f.value z) (e.nexts s.regs.valid now.registers.valid.has (inl (omega (arith, l)))) ∙ h.valid z;
  kept = λ i q z. ap (λ (f : Signal). f.value z) (e.nexts (reg_of s.regs i) (now.registers.kept i q).has (inl (omega (arith, l, q)))) ∙ h.kept i q z;
}

-- ---- all stages

-- the registers of the first n stages take what they should, and only registers of stages have changed what they take next
pub record ConnectedSoFar (a b : Circuit) (x : StageLine) (n : ℕ) : Type 0 where
  pub extends : (low : ℕ) → AreApart low (length a.regs) x.stages.now → ExtendsBut (regs_of low (length a.regs)) a b
  pub takes : (k : ℕ) (s : StageNets) → k < n → IsAt x.stages.now k s → TakesNext a b x k s

-- with the registers of one stage more connected, those of the first n + 1 take what they should
pub connected_more : (a b d : Circuit) (x : StageLine) (n : ℕ) (t : StageNets) (nexts : List Signal)
    → n < length x.stages.now → IsAt x.stages.now n t → AreApart 0 (length a.regs) x.stages.now
    → ((k : ℕ) (s : StageNets) → k < length x.stages.now → IsAt x.stages.now k s → IsStageNow b (line_form x) nexts k s)
    → ExtendsBut (regs_of t.regs.valid (end_of t.regs)) b d → TakesNext a d x n t → ConnectedSoFar a b x n
    → ConnectedSoFar a d x (n + 1)
connected_more a b d x n t nexts l is apart now e new h = record {
  extends = λ low at.
      but_trans (regs_of low (length a.regs)) a b d (h.extends low at)
      (but_more b d low (length a.regs) t.regs.valid (end_of t.regs) (at.from n t l is) (at.to n t l is) e);
  takes = λ k s q at.
      up_to (λ j. (u : StageNets) → IsAt x.stages.now j u → TakesNext a d x j u) n
      (λ j m u it. takes_keep a b d x j u nexts t.regs.valid (end_of t.regs) (now j u (omega (arith, m, l)) it)
      (apart.apart j n u t m l it is) e (h.takes j u m it))
      (λ u it. subst (TakesNext a d x n) (at_same x.stages.now n t u l is it) new) k q s at;
}

-- ---- a net by its place

-- the i-th of some nets that are there is there
pub net_there : (c : Circuit) (xs : List Net) (i : ℕ) (x : Net)
    → i < length xs → x ≡ get_or xs i x → NetsThere c xs → Rattle.pdl_net.specs.Meaning.IsThere c x
net_there c [] i x l e h = absurd (omega (arith, l))
net_there c (y ∷ ys) zero x l e h = subst (Rattle.pdl_net.specs.Meaning.IsThere c) (sym e) h.0
net_there c (y ∷ ys) (suc i) x l e h = net_there c ys i x (omega (arith, l)) e h.1

-- the i-th of some nets means the i-th of their signals
pub net_is : (c : Circuit) (xs : List Net) (i : ℕ) (x : Net)
    → i < length xs → x ≡ get_or xs i x → signal c x ≡ signal_at (signals_in c xs) i
net_is c [] i x l e = absurd (omega (arith, l))
net_is c (y ∷ ys) zero x l e = ap (signal c) e
net_is c (y ∷ ys) (suc i) x l e = net_is c ys i x (omega (arith, l)) e

-- ---- by the nets as they stood before

-- nets for the registers of a stage are such too by the line's nets as they stood in an earlier circuit
pub nexts_as : (a b c : Circuit) (x : StageLine) (k : ℕ) (s : StageNets) (nets : List Net) → Keeps a b → IsLineIn a x
    → IsStageNow a (line_form x) (signals_in a x.shared.now.next) k s → AreNexts b c x k s nets
    → AreNexts a c x k s nets
nexts_as a b c x k s nets e line now h =
    let f = line_form x in
    let nexts = signals_in a x.shared.now.next in
    record {
      there = h.there;
      count = h.count;
      valid_wide = h.valid_wide;
      valid =
          λ z. h.valid z
          ∙ ap (λ (g : Signal). g.value z) (arriving_same a b x e line k None (staying b x k s) ∙ ap (arriving a x k None) (staying_same a b x e line k s));
      kept_wide = λ i l. h.kept_wide i l ∙ ap (λ fs. item_width f fs (item_at s.regs.items i)) (next_keep a b f x.shared.now e line.shared);
      kept = λ i l z.
          h.kept i l z
          ∙ ap (λ (g : Signal). g.value z)
          (arriving_same a b x e line k (Some (item_at s.regs.items i)) (kept_signal b s i (item_at s.regs.items i))
          ∙ ap (arriving a x k (Some (item_at s.regs.items i))) (kept_signal_keep a b f nexts k s i (item_at s.regs.items i) e l now));
    }
