-- What is marked is what is needed.
use Rattle.std.proofs.Common.{◌≡◌, ℕ, zero, suc, ◌+◌, ◌<◌, ◌≤◌, ◌⊎◌, ⊎_elim, inl, inr, Bool, false, List, [], ◌∷◌, ◌++◌, length, flat_map, replicate, get_or, All, Some, sym, ap, ◌∙◌, subst, arith, length-append}
use Rattle.std.specs.Prelude.{Contains, slice_get}
use Rattle.std.proofs.lemmas.List.{length-replicate, get_or-replicate, get_or_past}
use Rattle.std.proofs.lemmas.List.Elements.{Contains-append_left, Contains-push, Contains-push_cases, All-from_get_or}
use Rattle.std.proofs.lemmas.Bool.{cases_lt}
use Rattle.pdl_word.specs.Each.{Each}
use Rattle.pdl_word.proofs.Bools.{untrue}
use Rattle.pdl_word.proofs.Each.{each_weaker, each_get, each_flat, each_from_get}
use Rattle.pdl_net.specs.declared.Net.{Net}
use Rattle.pdl_net.specs.declared.Net.TheVariants.{Input, Reg as RegNet, Cell as CellNet}
use Rattle.pdl_net.specs.declared.Cell.{Cell}
use Rattle.pdl_net.specs.declared.Cell.TheVariants.{Const, Not, Bin, Mux, Slice, Cat, Rep, Read}
use Rattle.pdl_net.specs.declared.Dir.{Dir}
use Rattle.pdl_net.specs.declared.Dir.TheVariants.{In, Out}
use Rattle.pdl_net.specs.declared.Port.{Port}
use Rattle.pdl_net.specs.declared.Array.{Array}
use Rattle.pdl_net.specs.declared.WritePort.{WritePort}
use Rattle.pdl_net.specs.declared.Reg.{Reg}
use Rattle.pdl_net.specs.Circuit.{Circuit, reg_at, array_at, no_array, no_reg}
use Rattle.pdl_net.specs.Signal.{Signal}
use Rattle.pdl_net.specs.Meaning.{signal, IsThereAt, IsThere}
use Rattle.pdl_net.specs.Well.{FitsIn, IsDriven, IsWell}
use Rattle.pdl_net.proofs.CellSignals.{fits_cell}
use Rattle.pdl_net.proofs.WidthLists.{there_within}
use Rattle.pdl_net_needed.specs.Needed.{reads_of, shown_by, read_by, written_from, used_outside, no_cell, cell_at, sources, IsNeeded, Choice, IsKept, KeepsNeeded}
use Rattle.pdl_net_needed.specs.Needed.IsNeeded.{outside, inside}
use Rattle.pdl_net_needed.specs.Marks.{IsWithin}
use Rattle.pdl_net_needed.specs.Marking.{Work, IsPart, left_of, Adds, IsMarking, begun}
use Rattle.pdl_net_needed.proofs.Counts.{within_marks}
use Rattle.pdl_net_needed.proofs.AddedMarks.{adds_then}
use Rattle.pdl_net_needed.proofs.PrunedOutputs.{each_from_at}

contained_each : {A : Type 0} (P : A → Type 0) (xs : List A) (x : A) → Each P xs → Contains xs x → P x
contained_each P xs x h m = subst P m.2 (each_get P xs m.0 x m.1 h)

none_marked : (n i : ℕ) → get_or (replicate n false) i false ≡ false
none_marked n i = ⊎_elim
    (λ (l : i < n). get_or-replicate n i false false l)
    (λ (g : n ≤ i). let e = length-replicate {A = Bool} n false in get_or_past (replicate n false) i false (omega arith))
    (cases_lt i n)

not_begun : (c : Circuit) (x : Net) {R : Type 0} → IsPart x → IsKept (begun c).kept x → R
not_begun c (Input i) p e = absurd p
not_begun c (RegNet r) p e = untrue (sym (none_marked (length c.regs) r) ∙ e)
not_begun c (CellNet j) p e = untrue (sym (none_marked (length c.cells) j) ∙ e)

-- what is used outside is marked
marking_begun : (c : Circuit) (w : Work) → Adds (begun c) w (used_outside c) → IsMarking c w
marking_begun c w h = record {
  regs = h.regs ∙ length-replicate (length c.regs) false;
  cells = h.cells ∙ length-replicate (length c.cells) false;
  ends = h.marked;
  needed = needed;
  done = done;
  waiting = λ x m. ⊎_elim
      (λ (f : Contains [] x). absurd (omega (arith, f.1)))
      (λ (f : IsPart x × IsKept w.kept x). f)
      (h.added x m);
}
  where
    needed : (x : Net) → IsPart x → IsKept w.kept x → IsNeeded c x
    needed x p e = ⊎_elim
        (λ (f : IsKept (begun c).kept x). not_begun c x p f)
        (λ (f : Contains (used_outside c) x × Contains w.waiting x). outside f.0)
        (h.fresh x e)

    done_part : (x : Net) → IsPart x → IsKept w.kept x → Contains w.waiting x ⊎ Each (IsKept w.kept) (sources c x)
    done_part x p e = ⊎_elim
        (λ (f : IsKept (begun c).kept x). not_begun c x p f)
        (λ (f : Contains (used_outside c) x × Contains w.waiting x). inl f.1)
        (h.fresh x e)

    done : (x : Net) → IsKept w.kept x → Contains w.waiting x ⊎ Each (IsKept w.kept) (sources c x)
    done (Input i) e = inr tt
    done (RegNet r) e = done_part (RegNet r) tt e
    done (CellNet j) e = done_part (CellNet j) tt e

-- one net's sources are marked too
pub marking_more : (c : Circuit) (u v w : Work) (x : Net) → IsMarking c u
    → u.waiting ≡ v.waiting ++ x ∷ [] → v.kept ≡ u.kept → Adds v w (sources c x) → IsMarking c w
marking_more c u v w x h e k g =
    let here : Contains u.waiting x = subst (λ ys. Contains ys x) (sym e) (Contains-push v.waiting x) in
    let p = h.waiting x here in
    let Old : Net → Type 0 = IsKept v.kept in
    let stays : (y : Net) → IsKept u.kept y → IsKept w.kept y = λ y f. g.stays y (subst (λ j. IsKept j y) (sym k) f) in
    let back : (y : Net) → IsKept v.kept y → IsKept u.kept y = λ y f. subst (λ j. IsKept j y) k f in
    record {
      regs = g.regs ∙ ap (λ (j : Choice). length j.regs) k ∙ h.regs;
      cells = g.cells ∙ ap (λ (j : Choice). length j.cells) k ∙ h.cells;
      ends = each_weaker (IsKept u.kept) (IsKept w.kept) stays (used_outside c) h.ends;
      needed = λ y q f. ⊎_elim
          (λ (o : IsKept v.kept y). h.needed y q (back y o))
          (λ (o : Contains (sources c x) y × Contains w.waiting y). inside (h.needed x p.0 p.1) o.0)
          (g.fresh y f);
      done = λ y f. ⊎_elim
          (λ (o : IsKept v.kept y). ⊎_elim
          (λ (m : Contains u.waiting y). ⊎_elim
          (λ (n : Contains v.waiting y). inl (g.waiting y n))
          (λ (n : x ≡ y). inr (subst (λ z. Each (IsKept w.kept) (sources c z)) n g.marked))
          (Contains-push_cases v.waiting x y (subst (λ ys. Contains ys y) e m)))
          (λ (m : Each (IsKept u.kept) (sources c y)). inr (each_weaker (IsKept u.kept) (IsKept w.kept) stays (sources c y) m))
          (h.done y (back y o)))
          (λ (o : Contains (sources c x) y × Contains w.waiting y). inl o.1)
          (g.fresh y f);
      waiting = λ y m. ⊎_elim
          (λ (o : Contains v.waiting y).
          let q = h.waiting y (subst (λ ys. Contains ys y) (sym e) (Contains-append_left v.waiting (x ∷ []) y o)) in
          (q.0, stays y q.1))
          (λ (o : IsPart y × IsKept w.kept y). o)
          (g.added y m);
    }

-- there is less to be looked at
pub fewer : (u v w : Work) (x : Net) (xs : List Net)
    → u.waiting ≡ v.waiting ++ x ∷ [] → v.kept ≡ u.kept → Adds v w xs → left_of w < left_of u
fewer u v w x xs e k g =
    let n : length u.waiting ≡ length v.waiting + 1 = ap length e ∙ length-append v.waiting (x ∷ []) in
    let m : left_of v ≡ left_of (record { kept = u.kept; waiting = v.waiting }) = ap (λ (j : Choice). left_of (record { kept = j; waiting = v.waiting })) k in
    omega (arith, g.left, n, m)

-- where nothing is left, exactly what is needed is marked
pub marking_done : (c : Circuit) (w : Work) → IsMarking c w → w.waiting ≡ [] → KeepsNeeded c w.kept
marking_done c w h e = record {
  reg_count = h.regs;
  cell_count = h.cells;
  needed = λ x b. needed b;
  regs = λ r kept. h.needed (RegNet r) tt kept;
  cells = λ j kept. h.needed (CellNet j) tt kept;
}
  where
    sources_kept : (x : Net) → IsKept w.kept x → Each (IsKept w.kept) (sources c x)
    sources_kept x f = ⊎_elim
        (λ (m : Contains w.waiting x). let n : Contains [] x = subst (λ ys. Contains ys x) e m in absurd (omega (arith, n.1)))
        (λ (m : Each (IsKept w.kept) (sources c x)). m)
        (h.done x f)

    needed : {x : Net} → IsNeeded c x → IsKept w.kept x
    needed (outside {x = x} m) = contained_each (IsKept w.kept) (used_outside c) x h.ends m
    needed (inside {x = x} {y = y} b m) = contained_each (IsKept w.kept) (sources c x) y (sources_kept x (needed b)) m

-- ---- nets that are there have marks

-- a net that is there has a mark where each register and each cell has one
pub within : (c : Circuit) (k : Choice)
    → length k.regs ≡ length c.regs → length k.cells ≡ length c.cells → (x : Net) → IsThere c x → IsWithin k x
unfolding IsThere
within c k r g (Input i) h = tt
within c k r g (RegNet q) h = omega (arith, r, h)
within c k r g (CellNet j) h = omega (arith, g, h)

each_within : (c : Circuit) (k : Choice)
    → length k.regs ≡ length c.regs → length k.cells ≡ length c.cells → (xs : List Net) → Each (IsThere c) xs
    → Each (IsWithin k) xs
each_within c k r g xs h = each_weaker (IsThere c) (IsWithin k) (within c k r g) xs h

reads_there : (c : Circuit) (There : Net → Type 0) (at : Net → Signal) (g : Cell) → FitsIn c There at g → Each There (reads_of g)
reads_there c There at (Const w v) f = tt
reads_there c There at (Not a) f = (f, tt)
reads_there c There at (Bin op a b) f = (f.0, (f.1, tt))
reads_there c There at (Mux x a b) f = (f.0, (f.1, (f.2, tt)))
reads_there c There at (Slice a high low) f = (f.0, tt)
reads_there c There at (Cat a b) f = (f.0, (f.1, tt))
reads_there c There at (Rep n a) f = (f.0, tt)
reads_there c There at (Read m a) f = (f.1, tt)

-- the nets that a cell of a well formed circuit reads are there
pub cell_there : (c : Circuit) → IsWell c → (j : ℕ) → j < length c.cells → Each (IsThere c) (reads_of (cell_at c j))
cell_there c w j l =
    each_weaker (IsThereAt c j) (IsThere c) (λ x h. there_within c j x (omega arith) h) (reads_of (cell_at c j))
    (reads_there c (IsThereAt c j) (signal c) (cell_at c j) (fits_cell c w.cells j l))

-- the net that a port of a well formed circuit shows is there
pub shown_there : (c : Circuit) → IsWell c → (i : ℕ) (p : Port) → slice_get c.ports i ≡ Some p → Each (IsThere c) (shown_by p.dir)
shown_there c w i p e = at p.width p.dir (w.ports i p e).driven
  where
    at : (v : ℕ) (d : Dir) → IsDriven c v d → Each (IsThere c) (shown_by d)
    at v In d = tt
    at v (Out x) d = (d.0, tt)

-- the nets that all ports of a well formed circuit show are there
pub ports_there : (c : Circuit) → IsWell c → Each (λ p. Each (IsThere c) (shown_by p.dir)) c.ports
ports_there c w = each_from_get (λ (p : Port). Each (IsThere c) (shown_by p.dir)) c.ports (shown_there c w)

-- the nets that the write ports of an array read are there, in a well formed circuit
pub writes_there : (c : Circuit) → IsWell c → (m : ℕ) → m < length c.arrays → Each (λ p. Each (IsThere c) (read_by p)) (array_at c m).writes
writes_there c w m l =
    each_from_get (λ (p : WritePort). Each (IsThere c) (read_by p))
    (array_at c m).writes (λ i p e. let f = (w.arrays m l).writes i p e in (f.enable, (f.addr, (f.value, tt))))

arrays_there : (c : Circuit) → IsWell c → Each (λ a. Each (λ p. Each (IsThere c) (read_by p)) a.writes) c.arrays
arrays_there c w = each_from_at (λ (a : Array). Each (λ p. Each (IsThere c) (read_by p)) a.writes) no_array c.arrays (writes_there c w)

-- what is used outside has marks from the beginning
pub ports_within : (c : Circuit) (w : Work) (ps : List Port) → IsWell c
    → w ≡ begun c → ps ≡ c.ports → Each (IsWithin w.kept) (flat_map (λ p. shown_by p.dir) ps)
ports_within c w ps f e p =
    let shown = λ (q : Port). shown_by q.dir in
    let r = ap (λ (v : Work). length v.kept.regs) e ∙ length-replicate (length c.regs) false in
    let g = ap (λ (v : Work). length v.kept.cells) e ∙ length-replicate (length c.cells) false in
    each_within c w.kept r g (flat_map shown ps)
    (subst (λ qs. Each (IsThere c) (flat_map shown qs)) (sym p) (each_flat (IsThere c) shown c.ports (ports_there c f)))

-- the nets that write ports read have marks, after nets were added to none
pub arrays_within : (c : Circuit) (u v : Work) (ms : List Array) (xs : List Net) → IsWell c
    → u ≡ begun c → Adds u v xs → ms ≡ c.arrays → Each (IsWithin v.kept) (flat_map written_from ms)
arrays_within c u v ms xs f e h m =
    let r = h.regs ∙ ap (λ (w : Work). length w.kept.regs) e ∙ length-replicate (length c.regs) false in
    let g = h.cells ∙ ap (λ (w : Work). length w.kept.cells) e ∙ length-replicate (length c.cells) false in
    let there =
    each_weaker (λ (a : Array). Each (λ p. Each (IsThere c) (read_by p)) a.writes)
    (λ a. Each (IsThere c) (written_from a))
    (λ a t. each_flat (IsThere c) read_by a.writes t) c.arrays (arrays_there c f) in
    each_within c v.kept r g (flat_map written_from ms)
    (subst (λ as'. Each (IsThere c) (flat_map written_from as')) (sym m) (each_flat (IsThere c) written_from c.arrays there))

-- marking stands once what outputs show and write ports read is marked, and nothing was before
pub marking_ready : (c : Circuit) (u v w : Work) (ps : List Port) (ms : List Array)
    → u ≡ begun c → ps ≡ c.ports → ms ≡ c.arrays → Adds u v (flat_map (λ p. shown_by p.dir) ps)
    → Adds v w (flat_map written_from ms) → IsMarking c w
marking_ready c u v w ps ms e p m h g =
    let shown = λ (q : Port). shown_by q.dir in
    let h' : Adds (begun c) v (flat_map shown c.ports) =
    subst (λ (x : Work). Adds x v (flat_map shown c.ports)) e (subst (λ qs. Adds u v (flat_map shown qs)) p h) in
    let g' : Adds v w (flat_map written_from c.arrays) = subst (λ xs. Adds v w (flat_map written_from xs)) m g in
    marking_begun c w (adds_then (begun c) v w (flat_map shown c.ports) (flat_map written_from c.arrays) h' g')

-- a net that was still to be looked at is there
pub taken_there : (c : Circuit) (u v : Work) (x : Net) → IsMarking c u → u.waiting ≡ v.waiting ++ x ∷ [] → IsThere c x
unfolding IsThere
taken_there c u v x h e = there x (p.0) (p.1)
  where
    p : IsPart x × IsKept u.kept x
    p = h.waiting x (subst (λ ys. Contains ys x) (sym e) (Contains-push v.waiting x))

    there : (y : Net) → IsPart y → IsKept u.kept y → IsThere c y
    there (Input i) q f = absurd q
    there (RegNet r) q f = let b = within_marks u.kept.regs r f in omega (arith, b, h.regs)
    there (CellNet j) q f = let b = within_marks u.kept.cells j f in omega (arith, b, h.cells)

sources_there : (c : Circuit) → IsWell c → (x : Net) → IsThere c x → Each (IsThere c) (sources c x)
unfolding IsThere
sources_there c f (Input i) h = tt
sources_there c f (RegNet r) h = ((f.regs r h).next, tt)
sources_there c f (CellNet j) h = cell_there c f j h

-- the sources of a net that was still to be looked at have marks
pub taken_within : (c : Circuit) (u v : Work) (x : Net) → IsWell c → IsMarking c u
    → u.waiting ≡ v.waiting ++ x ∷ [] → v.kept ≡ u.kept → Each (IsWithin v.kept) (sources c x)
taken_within c u v x f h e k =
    each_within c v.kept (ap (λ (j : Choice). length j.regs) k ∙ h.regs) (ap (λ (j : Choice). length j.cells) k ∙ h.cells) (sources c x)
    (sources_there c f x (taken_there c u v x h e))

-- ---- what a well formed netlist reads has marks

all_from_each : {A : Type 0} (P : A → Type 0) (xs : List A) → Each P xs → All P xs
all_from_each P [] h i d l = absurd (omega arith)
all_from_each P (x ∷ xs) h zero d l = h.0
all_from_each P (x ∷ xs) h (suc i) d l = all_from_each P xs h.1 i d (omega (arith, l))

kept_within : (c : Circuit) (k : Choice) → KeepsNeeded c k → (xs : List Net) → Each (IsThere c) xs → Each (IsWithin k) xs
kept_within c k h xs t = each_within c k h.reg_count h.cell_count xs t

-- what the ports of a well formed circuit show has marks in a choice that keeps what is needed
pub ports_marked : (c : Circuit) (k : Choice) (ps : List Port) → IsWell c → KeepsNeeded c k
    → ps ≡ c.ports → All (λ p. Each (IsWithin k) (shown_by p.dir)) ps
ports_marked c k ps w h e =
    subst (All (λ (p : Port). Each (IsWithin k) (shown_by p.dir))) (sym e)
    (all_from_each (λ (p : Port). Each (IsWithin k) (shown_by p.dir)) c.ports
    (each_weaker (λ (p : Port). Each (IsThere c) (shown_by p.dir)) (λ p. Each (IsWithin k) (shown_by p.dir))
    (λ p t. kept_within c k h (shown_by p.dir) t) c.ports (ports_there c w)))

-- what the registers of a well formed circuit take next has marks in a choice that keeps what is needed
pub regs_marked : (c : Circuit) (k : Choice) (rs : List Reg) → IsWell c → KeepsNeeded c k → rs ≡ c.regs → All (λ r. IsWithin k r.next) rs
regs_marked c k rs w h e =
    subst (All (λ (r : Reg). IsWithin k r.next)) (sym e)
    (All-from_get_or (λ (r : Reg). IsWithin k r.next) c.regs no_reg (λ i l. within c k h.reg_count h.cell_count (reg_at c i).next (w.regs i l).next))

-- what the cells of a well formed circuit read has marks in a choice that keeps what is needed
pub cells_marked : (c : Circuit) (k : Choice) (gs : List Cell) → IsWell c → KeepsNeeded c k
    → gs ≡ c.cells → All (λ g. Each (IsWithin k) (reads_of g)) gs
cells_marked c k gs w h e =
    subst (All (λ g. Each (IsWithin k) (reads_of g))) (sym e)
    (All-from_get_or (λ g. Each (IsWithin k) (reads_of g)) c.cells no_cell (λ i l. kept_within c k h (reads_of (cell_at c i)) (cell_there c w i l)))

-- what the write ports of a well formed circuit read has marks in a choice that keeps what is needed
pub arrays_marked : (c : Circuit) (k : Choice) (ms : List Array) → IsWell c → KeepsNeeded c k
    → ms ≡ c.arrays → All (λ a. All (λ p. Each (IsWithin k) (read_by p)) a.writes) ms
arrays_marked c k ms w h e =
    let At : Array → Type 0 = λ a. All (λ (p : WritePort). Each (IsWithin k) (read_by p)) a.writes in
    let one : (a : Array) → Each (λ p. Each (IsThere c) (read_by p)) a.writes → At a =
    λ a t. all_from_each (λ p. Each (IsWithin k) (read_by p)) a.writes
    (each_weaker (λ p. Each (IsThere c) (read_by p)) (λ p. Each (IsWithin k) (read_by p)) (λ p u. kept_within c k h (read_by p) u) a.writes t) in
    subst (All At) (sym e)
    (all_from_each At c.arrays (each_weaker (λ (a : Array). Each (λ p. Each (IsThere c) (read_by p)) a.writes) At one c.arrays (arrays_there c w)))

pub ruleset taken = (fewer, taken_within, taken_there)
