-- The steps of the loops that make a plan.
use Rattle.std.proofs.Common.{◌≡◌, ℕ, zero, suc, ◌+◌, ◌<◌, ◌≤◌, List, [], ◌∷◌, ◌++◌, length, get_or, take, drop, map, filter_map, All, Some, refl, sym, ap, ◌∙◌, subst, arith, append_assoc, append-nil}
use Rattle.std.specs.Prelude.{slice_get, slice_index}
use Rattle.std.proofs.lemmas.List.{take_all, map_more, drop_more, get_or_default}
use Rattle.std.proofs.lemmas.Option.{slice_get-get_or}
use Rattle.pdl_net.specs.declared.Net.{Net}
use Rattle.pdl_net.specs.declared.Cell.{Cell}
use Rattle.pdl_net.specs.declared.Cell.TheVariants as cell
use Rattle.pdl_net.specs.declared.Reg.{Reg}
use Rattle.pdl_net.specs.declared.Port.{Port}
use Rattle.pdl_net.specs.declared.Dir.{Dir}
use Rattle.pdl_net.specs.declared.Dir.TheVariants.{Out}
use Rattle.pdl_net.specs.declared.Array.{Array}
use Rattle.pdl_net.specs.declared.WritePort.{WritePort}
use Rattle.pdl_net.specs.declared.Netlist.{Netlist}
use Rattle.pdl_net.specs.Circuit.{Circuit, circuit_of, no_reg, no_array, array_at}
use Rattle.pdl_net.specs.Meaning.{signal, IsThereAt, IsThere}
use Rattle.pdl_net.specs.Well.{FitsIn, IsWell, IsDriven}
use Rattle.pdl_netrun.specs.declared.operation.CellKind.{CellKind}
use Rattle.pdl_netrun.specs.declared.operation.CellOperands.{CellOperands}
use Rattle.pdl_netrun.specs.declared.order.CellOrder.{CellOrder}
use Rattle.pdl_netrun.specs.declared.walk.CellRun.{CellRun}
use Rattle.pdl_netrun.specs.RunKinds.{kind_in}
use Rattle.pdl_netrun.specs.Steps.{Step, steps_with, steps_of}
use Rattle.pdl_netrun.specs.Order.{IsOrder, IsNetThere}
use Rattle.pdl_netrun.specs.Plan.{step_of, IsWriteThere}
use Rattle.pdl_netrun.proofs.Orders.{fits_whole}

-- RUNS

-- one run more
steps_append : (rs qs : List CellRun) → steps_of (rs ++ qs) ≡ steps_of rs ++ steps_of qs
steps_append [] qs = refl
steps_append (r ∷ rs) qs =
    ap (λ l. steps_with (kind_in r.kind) r.operands.items ++ l) (steps_append rs qs) ∙ sym (append_assoc (steps_with (kind_in r.kind) r.operands.items) (steps_of rs) (steps_of qs))

-- the steps of one run more come after those of the runs before it
pub steps_push : (rs : List CellRun) (r : CellRun) → steps_of (rs ++ r ∷ []) ≡ steps_of rs ++ steps_with (kind_in r.kind) r.operands.items
steps_push rs r = steps_append rs (r ∷ []) ∙ ap (λ l. steps_of rs ++ l) (append-nil (steps_with (kind_in r.kind) r.operands.items))

-- one cell more in a run
pub with_push : (kind : CellKind) (os : List CellOperands) (o : CellOperands)
    → steps_with kind (os ++ o ∷ []) ≡ steps_with kind os ++ step_of kind o ∷ []
with_push kind [] o = refl
with_push kind (p ∷ os) o = ap (λ l. step_of kind p ∷ l) (with_push kind os o)

pub ruleset pushes = (steps_push, with_push, append_assoc)

-- a cell of the order fits the netlist's nets
pub ordered_fits : (c : Circuit) (order ps : List ℕ) (xs : List Cell) (j k : ℕ) → IsWell c → IsOrder c order ps
    → j < length order → k ≡ slice_index order j → xs ≡ c.cells
    → FitsIn c (IsThereAt c (length c.cells)) (signal c) (get_or xs k (cell.Const 0 0))
ordered_fits c order ps xs j k w o h e f =
    let P : List Cell → Type 0 = λ l. FitsIn c (IsThereAt c (length c.cells)) (signal c) (get_or l k (cell.Const 0 0)) in
    subst P (sym f) (fits_whole c w k (subst (λ i. i < length c.cells) (sym e) ((o.turns j h).there)))

-- where a last run ends the order, the steps of all runs are those of the whole order
pub runs_end : (rs all : List CellRun) (r : CellRun) (order : List ℕ) (f : ℕ → Step) (j : ℕ)
    → all ≡ rs ++ r ∷ [] → steps_of rs ++ steps_with (kind_in r.kind) r.operands.items ≡ map f (take j order) → length order ≤ j
    → steps_of all ≡ map f order
runs_end rs all r order f j e i l = ap steps_of e ∙ steps_push rs r ∙ i ∙ ap (map f) (take_all j order l)

pub ruleset runs = (map_more)

pub ruleset places = (map_more)

-- NETS THAT ARE THERE

-- of the netlist of an order
pub there_in : (o : CellOrder) (n : Netlist) → o.net.now ≡ n → (x : Net) → IsThereAt (circuit_of n) (length n.cells) x → IsNetThere o x
there_in o n e x h = subst (λ (y : Netlist). IsThereAt (circuit_of y) (length y.cells) x) (sym e) h

-- the net that a register of a well formed circuit takes next is there
pub next_there : (c : Circuit) (xs : List Reg) (r : ℕ) → IsWell c
    → r < length c.regs → xs ≡ c.regs → IsThereAt c (length c.cells) (get_or xs r no_reg).next
unfolding IsThere
next_there c xs r w h e =
    let P : List Reg → Type 0 = λ l. IsThereAt c (length c.cells) (get_or l r no_reg).next in
    subst P (sym e) ((w.regs r h).next)

pub ruleset nexts = (map_more)

-- the net that an output of a well formed circuit shows is there
pub driver_there : (c : Circuit) (xs : List Port) (i : ℕ) (p : Port) (x : Net) → IsWell c
    → i < length c.ports → xs ≡ c.ports → p ≡ get_or xs i p → p.dir ≡ Out x → IsThereAt c (length c.cells) x
unfolding IsThere
driver_there c xs i p x w h e f g =
    let q : slice_get c.ports i ≡ Some p = slice_get-get_or c.ports i p h ∙ ap Some (sym (f ∙ ap (λ l. get_or l i p) e)) in
    let d = (w.ports i p q).driven in
    let P : Dir → Type 0 = λ y. IsDriven c p.width y in
    let t : IsThere c x × ((signal c x).width ≡ p.width) = subst P g d in
    t.0

pub ruleset drivers = (drop_more)

-- the nets of the write ports of an array
pub writes_there : (o : CellOrder) (n : Netlist) (xs : List Array) (m : ℕ) (a : Array) (ps : List WritePort)
    → IsWell (circuit_of n) → o.net.now ≡ n → m < length n.arrays → xs ≡ n.arrays → a ≡ get_or xs m a → ps ≡ a.writes
    → All (IsWriteThere o) ps
unfolding IsThere
writes_there o n xs m a ps w q h e f g =
    let c = circuit_of n in
    let s : a ≡ array_at c m = f ∙ ap (λ l. get_or l m a) e ∙ get_or_default c.arrays m a no_array h in
    let P : List WritePort → Type 0 = λ l. All (IsWriteThere o) l in
    let there : (x : Net) → IsThereAt c (length c.cells) x → IsNetThere o x = there_in o n q in
    subst P (sym (g ∙ ap (λ (x : Array). x.writes) s)) (λ k d l.
    let v = (w.arrays m h).writes k (get_or (array_at c m).writes k d) (slice_get-get_or (array_at c m).writes k d l) in
    record { enable = there _ v.enable; addr = there _ v.addr; value = there _ v.value })

pub ruleset writes = (drop_more)

pub ruleset array_writes = (map_more)
