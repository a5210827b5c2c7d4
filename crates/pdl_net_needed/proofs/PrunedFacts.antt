-- What holds of a netlist with its needed registers and cells alone.
use Rattle.std.proofs.Common.{◌≡◌, ◌≢◌, AllPairs, ℕ, List, Result, Ok, Err, IfOk, sym, subst}
use Rattle.pdl_net.specs.declared.Netlist.{Netlist}
use Rattle.pdl_net.specs.Circuit.{circuit_of}
use Rattle.pdl_net.specs.Pipe.{IsWellFormed}
use Rattle.pdl_net.specs.Run.{nports}
use Rattle.pdl_net_needed.specs.Needed.{Choice, KeepsNeeded, AllNeeded}
use Rattle.pdl_net_needed.specs.Pruned.{pruned, IsPruned, HasSameFrame}
use Rattle.pdl_net_needed.proofs.ClosedChoices.{closed}
use Rattle.pdl_net_needed.proofs.PrunedWellFormed.{frame, well_formed as well_formed_by}
use Rattle.pdl_net_needed.proofs.PrunedOutputs.{shows_same}
use Rattle.pdl_net_needed.proofs.Needs.{all_needed}
use Rattle.pdl_net_needed.proofs.DistinctCells.{distinct_cells}

-- what an answer makes known of a netlist, where it is one
lifted : {E : Type 0} (P Q : Netlist → Type 0) (r : Result Netlist E) → ((p : Netlist) → P p → Q p) → IfOk r P → IfOk r Q
lifted P Q (Ok p) f h = f p h
lifted P Q (Err e) f h = tt

-- what holds of a choice holds of an answer that is this choice
pub all_as : {E : Type 0} (P : Choice → Type 0) (k : Choice) (r : Result Choice E) → P k → IfOk r (λ x. x ≡ k) → IfOk r P
all_as P k (Ok x) h e = subst P (sym e) h
all_as P k (Err y) h e = tt

-- an answer that is pruned by a choice of what is needed has the needed registers and cells alone
pub all_pruned : {E : Type 0} (n : Netlist) (k : Choice) (r : Result Netlist E) → KeepsNeeded (circuit_of n) k
    → IfOk r (λ p. p ≡ pruned k n) → IfOk r (IsPruned n)
all_pruned n k r h o = lifted (λ p. p ≡ pruned k n) (IsPruned n) r (λ p e. record { kept = k; needed = h; same = e }) o

well_formed : (n p : Netlist) → IsWellFormed n → IsPruned n p → IsWellFormed p
well_formed n p w h = subst IsWellFormed (sym h.same) (well_formed_by h.kept n (closed (circuit_of n) h.kept h.needed) w)

shows : (n p : Netlist) → IsWellFormed n → IsPruned n p → (image : List (List ℕ)) (schedule : List ℕ)
    → nports p image schedule ≡ nports n image schedule
shows n p w h =
    subst (λ (q : Netlist). (image : List (List ℕ)) (schedule : List ℕ) → nports q image schedule ≡ nports n image schedule)
    (sym h.same) (shows_same h.kept n (closed (circuit_of n) h.kept h.needed) w.well)

same_frame : (n p : Netlist) → IsPruned n p → HasSameFrame n p
same_frame n p h = subst (HasSameFrame n) (sym h.same) (frame h.kept n)

needed : (n p : Netlist) → IsPruned n p → AllNeeded (circuit_of p)
needed n p h = subst (λ (q : Netlist). AllNeeded (circuit_of q)) (sym h.same) (all_needed h.kept n h.needed)

distinct : (n p : Netlist) → IsPruned n p → AllPairs (λ a b. a ≢ b) n.cells → AllPairs (λ a b. a ≢ b) p.cells
distinct n p h a = subst (λ (q : Netlist). AllPairs (λ x y. x ≢ y) q.cells) (sym h.same) (distinct_cells h.kept n (closed (circuit_of n) h.kept h.needed) a)

-- a netlist with its needed registers and cells alone is well formed where the whole one is
pub all_well : {E : Type 0} (n : Netlist) (r : Result Netlist E) → IsWellFormed n → IfOk r (IsPruned n) → IfOk r IsWellFormed
all_well n r w o = lifted (IsPruned n) IsWellFormed r (λ p h. well_formed n p w h) o

-- a netlist with its needed registers and cells alone shows what the whole one shows, which is well formed
pub all_show : {E : Type 0} (n : Netlist) (r : Result Netlist E) → IsWellFormed n → IfOk r (IsPruned n)
    → IfOk r (λ p. (image : List (List ℕ)) (schedule : List ℕ) → nports p image schedule ≡ nports n image schedule)
all_show n r w o =
    lifted (IsPruned n) (λ p. (image : List (List ℕ)) (schedule : List ℕ) → nports p image schedule ≡ nports n image schedule) r (λ p h. shows n p w h) o

-- a netlist with its needed registers and cells alone has the name, ports, array shapes and memories of all
pub all_framed : {E : Type 0} (n : Netlist) (r : Result Netlist E) → IfOk r (IsPruned n) → IfOk r (HasSameFrame n)
all_framed n r o = lifted (IsPruned n) (HasSameFrame n) r (same_frame n) o

-- in a netlist with its needed registers and cells alone each of them is needed
pub all_need : {E : Type 0} (n : Netlist) (r : Result Netlist E) → IfOk r (IsPruned n) → IfOk r (λ p. AllNeeded (circuit_of p))
all_need n r o = lifted (IsPruned n) (λ p. AllNeeded (circuit_of p)) r (needed n) o

-- no two cells of a netlist with its needed registers and cells alone are equal where no two of all are
pub all_distinct : {E : Type 0} (n : Netlist) (r : Result Netlist E) → IfOk r (IsPruned n)
    → IfOk r (λ p. AllPairs (λ a b. a ≢ b) n.cells → AllPairs (λ a b. a ≢ b) p.cells)
all_distinct n r o = lifted (IsPruned n) (λ p. AllPairs (λ a b. a ≢ b) n.cells → AllPairs (λ a b. a ≢ b) p.cells) r (distinct n) o
