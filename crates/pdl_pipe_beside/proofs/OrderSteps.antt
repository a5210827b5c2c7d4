-- The steps of orders, one after the other.
use Rattle.std.proofs.Common.{◌≡◌, ℕ, suc, ◌+◌, ◌-◌, ◌<◌, ◌≤◌, ◌∙◌, List, length, map, refl, ap, ap₂, subst, arith}
use borrow.Author.Count.{below_more}
use Rattle.std.specs.Prelude.{Option, Some, None, slice_index_or}
use Rattle.pdl_semantics.specs.Flat.{Pipe}
use Rattle.pdl_semantics.specs.Stages.{verify_stage}
use Rattle.pdl_form.specs.Form.{Form}
use Rattle.pdl_net.specs.Circuit.{Circuit}
use Rattle.pdl_net.specs.Signal.{Signal}
use Rattle.pdl_net.specs.Meaning.{signal}
use Rattle.pdl_net.specs.Growth.{Keeps, ExtendsBut}
use Rattle.pdl_net.proofs.KeptWidths.{width_keeps}
use Rattle.pdl_lockapi.specs.Laws.{OwnKept}
use Rattle.pdl_lockapi.proofs.LockKinds.{next_kept}
use Rattle.pdl_order.specs.declared.OrderRegs.{OrderRegs}
use Rattle.pdl_order.specs.declared.OrderPorts.{OrderPorts}
use Rattle.pdl_order.specs.Laws.{StepLaw, StepSignals, step_signals, own}
use Rattle.pdl_order.specs.Words.{stands}
use Rattle.pdl_machine_inflight.specs.Readings.{branch_stages}
use Rattle.pdl_law_parts.specs.Views.{View}
use Rattle.pdl_pipe_exprs.specs.Nets.{signal_at}
use Rattle.pdl_law_sides.specs.Sides.{leaves_fork, order_step}
use Rattle.pdl_pipe_walk.specs.Locked.{some_at}
use Rattle.pdl_pipe_beside.specs.declared.ends.StageEnd.{StageEnd}
use Rattle.pdl_pipe_beside.specs.declared.ends.Squashes.{Squashes}
use Rattle.pdl_pipe_beside.specs.Squashed.{by_stage, squashes_in, HasSquashes}
use Rattle.pdl_pipe_beside.specs.Parts.{own_of, own_at}
use Rattle.pdl_pipe_beside.specs.Orders.{IsOrder, StandOrders}
use Rattle.pdl_pipe_beside.specs.Ends.{no_view, view_in, move_in, ends_in, moves_in, AreEnds}
use Rattle.pdl_pipe_beside.specs.Steps.{leave_or, order_signals, IsOrderStepped}
use Rattle.pdl_pipe_beside.proofs.EndGrowth.{views_same, moves_same}
use Rattle.pdl_pipe_beside.proofs.PartLists.{own_apart}
use Rattle.pdl_pipe_beside.proofs.OrderParts.{order_stays}

-- the last i + 1 of n stages
pub leave_more : (p : Pipe) (vs : ℕ → View) (moves : ℕ → Signal) (f n i : ℕ)
    → i < n
    → leave_or p vs moves f (n - 1 - i) (leaves_fork p vs moves f i (n - i)) ≡ leaves_fork p vs moves f (i + 1) (n - (i + 1))
leave_more p vs moves f n i l =
    let count : suc i ≡ i + 1 = omega arith in
    let from : n - 1 - i ≡ n - (i + 1) = omega (arith, l) in
    let next : n - i ≡ suc (n - (i + 1)) = omega (arith, l) in
    ap₂ (λ k j. leave_or p vs moves f k (leaves_fork p vs moves f i j)) from next ∙ ap (λ c. leaves_fork p vs moves f c (n - (i + 1))) count

-- ---- the nets of a step

module _ (a b : Circuit) (f : Form) (es : List StageEnd) (k : ℕ) (e : Keeps a b) (h : AreEnds a f es) where
  -- whether the thread of stage k moves is told by the same signal while the circuit grows
  pub move_same : moves_in b es k ≡ moves_in a es k
  move_same = ap (λ ms. signal_at ms k) (moves_same a b e f es h)

  -- stage k has the same view while the circuit grows
  pub view_same : ends_in b es k ≡ ends_in a es k
  view_same = ap (λ vs. slice_index_or vs k no_view) (views_same a b e f es h)

  -- whether a thread leaves the fork of stage k is told by the same signal while the circuit grows
  pub leaves_same : leaves_fork f.pipe (ends_in b es) (moves_in b es) k (length f.pipe.stages) 0
      ≡ leaves_fork f.pipe (ends_in a es) (moves_in a es) k (length f.pipe.stages) 0
  leaves_same =
      ap₂ (λ vs ms. leaves_fork f.pipe (λ j. slice_index_or vs j no_view) (λ j. signal_at ms j) k (length f.pipe.stages) 0)
      (views_same a b e f es h) (moves_same a b e f es h)

-- the nets of an order's step mean what the stages do to it, where each of the four nets does
pub ports_same : (a c : Circuit) (p : Pipe) (es : List StageEnd) (y : Squashes) (k : ℕ) (x : OrderPorts)
    → signal c x.entered_first ≡ (order_signals a p es y k).entered_first
    → signal c x.entered_second ≡ (order_signals a p es y k).entered_second
    → signal c x.left ≡ (order_signals a p es y k).left
    → signal c x.emptied ≡ (order_signals a p es y k).emptied → step_signals c x ≡ order_signals a p es y k
ports_same a c p es y k x first second left emptied =
    ap₂ (λ (g h : Signal × Signal). (let z : StepSignals = record { entered_first = g.0; entered_second = g.1; left = h.0; emptied = h.1 } in z))
    (ap₂ (λ (g h : Signal). (g, h)) first second) (ap₂ (λ (g h : Signal). (g, h)) left emptied)

-- ---- the law of a step

-- the law of an order's step holds by other signals that are the same
pub law_as : (r : OrderRegs) (n : ℕ) (c : Circuit) (f g : StepSignals)
    → f.entered_first ≡ g.entered_first → f.entered_second ≡ g.entered_second → f.left ≡ g.left → f.emptied ≡ g.emptied
    → StepLaw (stands r) n (own r) c f → StepLaw (stands r) n (own r) c g
law_as r n c f g first second left emptied x = record {
  next = λ s t xs d st dr pr nx. x.next s t xs d st
      (record {
        entered_first = ap (λ (z : Signal). z.value s) first ∙ dr.entered_first;
        entered_second = ap (λ (z : Signal). z.value s) second ∙ dr.entered_second;
        left = ap (λ (z : Signal). z.value s) left ∙ dr.left;
        emptied = ap (λ (z : Signal). z.value s) emptied ∙ dr.emptied;
      })
      pr nx;
}

-- for fewer threads
law_fewer : (r : OrderRegs) (k n : ℕ) (c : Circuit) (g : StepSignals)
    → k ≤ n → StepLaw (stands r) n (own r) c g → StepLaw (stands r) k (own r) c g
law_fewer r k n c g le x = record {
  next = λ s t xs d st dr pr nx. x.next s t xs d st dr (record { one = pr.one; some = pr.some; room = let z = pr.room in omega (arith, z, le) }) nx;
}

-- ---- one step

-- an order that keeps the law of a step for all stages it has room for keeps it for those of its fork
pub some_stepped : (a c : Circuit) (p : Pipe) (es : List StageEnd) (y : Squashes) (rs : List (Option OrderRegs)) (f : ℕ)
    (r : OrderRegs) (g : StepSignals)
    → some_at rs f ≡ Some r → IsOrder a p f r → g ≡ order_signals a p es y f
    → StepLaw (stands r) r.stages (own r) c g → IsOrderStepped a c p es y rs f
some_stepped a c p es y rs f r g is order same law s e =
    let two : r ≡ s = cc (is, e) in
    let G : StepSignals → Type 0 = λ h. StepLaw (stands r) (branch_stages p f) (own r) c h in
    let R : OrderRegs → Type 0 = λ t. StepLaw (stands t) (branch_stages p f) (own t) c (order_signals a p es y f) in
    subst R two (subst G same (law_fewer r (branch_stages p f) r.stages c g order.stages law))

-- ---- all steps

-- the orders of forks stand in a circuit that keeps what stands in theirs
pub orders_stand : (a b : Circuit) (p : Pipe) (rs : List (Option OrderRegs)) → Keeps a b → StandOrders a p rs → StandOrders b p rs
orders_stand a b p rs k h = record { count = h.count; some = h.some; each = λ f r l e. order_stays a b k p f r (h.each f r l e); apart = h.apart }

-- the signals by the lists of the stages
abbrev step_by : Pipe → ℕ → List View → List Signal → (ℕ → Signal) → StepSignals
step_by p f vs ms squash = order_step p (λ k. slice_index_or vs k no_view) squash (λ k. signal_at ms k) f

-- the nets of squashes stay there while the circuit grows
pub squashes_keep : (a b : Circuit) (y : Squashes) → Keeps a b → HasSquashes a y → HasSquashes b y
squashes_keep a b y e h = record { verify = width_keeps a b y.verify 1 e h.verify; update = width_keeps a b y.update 1 e h.update }

-- two stages squash by the same signals while the circuit grows
pub squashes_same : (a b : Circuit) (p : Pipe) (y : Squashes) → Keeps a b → HasSquashes a y → squashes_in b p y ≡ squashes_in a p y
squashes_same a b p y e h = ap₂ (by_stage (verify_stage p.stmts)) (e.kept y.verify h.verify.there) (e.kept y.update h.update.there)

signals_same : (a b : Circuit) (f : Form) (es : List StageEnd) (y : Squashes) (k : ℕ) → Keeps a b → AreEnds a f es
    → HasSquashes a y → order_signals b f.pipe es y k ≡ order_signals a f.pipe es y k
signals_same a b f es y k e h t =
    ap₂ (λ vs ms. step_by f.pipe k vs ms (squashes_in b f.pipe y)) (views_same a b e f es h) (moves_same a b e f es h)
    ∙ ap (step_by f.pipe k (map (view_in a) es) (map (move_in a) es)) (squashes_same a b f.pipe y e t)

-- the law of an order's step holds on in a circuit that keeps what its registers take next
pub law_kept : (r : OrderRegs) (n : ℕ) (a b : Circuit) (f : StepSignals) → OwnKept (own r) a b
    → StepLaw (stands r) n (own r) a f → StepLaw (stands r) n (own r) b f
law_kept r n a b f k x = record { next = λ s t xs d st dr pr nx. x.next s t xs d st dr pr (next_kept (own r) a b s t k nx) }

module _ (a : Circuit) (f : Form) (es : List StageEnd) (y : Squashes) (rs : List (Option OrderRegs))
    (there : HasSquashes a y) (stand : StandOrders a f.pipe rs) (ends : AreEnds a f es) where
  -- a step is that by the signals at first
  stepped_as : (b c : Circuit) (k : ℕ) → Keeps a b → IsOrderStepped b c f.pipe es y rs k → IsOrderStepped a c f.pipe es y rs k
  stepped_as b c k e x r g = subst (StepLaw (stands r) (branch_stages f.pipe k) (own r) c) (signals_same a b f es y k e ends there) (x r g)

  -- an order keeps the law of its step while a later order makes its own
  stepped_kept : (b c : Circuit) (j k : ℕ) → j < k → k < length f.pipe.stages → Keeps a b
      → ExtendsBut (own_at own rs k) b c → IsOrderStepped a b f.pipe es y rs j
      → IsOrderStepped a c f.pipe es y rs j
  stepped_kept b c j k l low e d x r g =
      let it = stand.each j r (omega (arith, l, low)) g in
      let kept : OwnKept (own r) b c = record {
        has_reg = λ i lo hi. d.has_reg i (e.has_reg i (it.owned.regs i lo hi));
        nexts = λ i lo hi. d.nexts i (e.has_reg i (it.owned.regs i lo hi)) (own_apart own rs j k r (λ q h. stand.apart j k r q l low g h) i hi);
        has_array = λ i lo hi. absurd (omega (arith, lo, hi));
        writes = λ i lo hi. absurd (omega (arith, lo, hi));
      } in
      law_kept r (branch_stages f.pipe j) b c (order_signals a f.pipe es y j) kept (x r g)

  -- with the step of one order more, the orders of the first k + 1 stages keep their laws
  pub stepped_more : (b c : Circuit) (k : ℕ) → k < length f.pipe.stages → Keeps a b → ExtendsBut (own_at own rs k) b c
      → IsOrderStepped b c f.pipe es y rs k → ((j : ℕ) → j < k → IsOrderStepped a b f.pipe es y rs j)
      → (j : ℕ) → j < k + 1 → IsOrderStepped a c f.pipe es y rs j
  stepped_more b c k low e d x h =
      below_more (λ j. IsOrderStepped a c f.pipe es y rs j) k (λ j l. stepped_kept b c j k l low e d (h j l)) (stepped_as b c k e x)

-- no order has an array
pub no_arrays : (rs : List (Option OrderRegs)) (f : ℕ) → (own_at own rs f).last ≡ 0
no_arrays rs f = at (some_at rs f)
  where
    at : (o : Option OrderRegs) → (own_of own o).last ≡ 0
    at None = refl
    at (Some r) = refl
