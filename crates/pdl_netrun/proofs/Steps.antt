-- The steps of the loops over cells, runs, places and writes.
use Rattle.std.proofs.Common.{◌≡◌, false, ℕ, suc, ◌+◌, ◌-◌, ◌<◌, ◌≤◌, List, [], ◌∷◌, ◌++◌, length, get_or, take, drop, set, map, refl, sym, ap, ◌∙◌, subst, arith, length-append}
use Rattle.std.proofs.lemmas.List.{take_all, map_more, drop_more, drop_all, length-set, length-map, take-append-drop, map-append, length-take-le, length-drop}
use Rattle.std.proofs.lemmas.Grind.{take-set_at}
use Rattle.pdl_netrun.specs.declared.operation.CellKind.{CellKind}
use Rattle.pdl_netrun.specs.declared.operation.CellKind.TheVariants as kinds
use Rattle.pdl_netrun.specs.declared.operation.CellOperands.{CellOperands}
use Rattle.pdl_netrun.specs.declared.walk.CellRun.{CellRun}
use Rattle.pdl_netrun.specs.RunKinds.{is_constant, kind_in}
use Rattle.pdl_netrun.specs.declared.run_kind.RunKind.{RunKind}
use Rattle.pdl_netrun.specs.declared.run_kind.RunKind.TheVariants.{Taking, Testing, Counting}
use Rattle.pdl_netrun.specs.declared.run_kind.TakingKind.TheVariants.{Word, Part}
use Rattle.pdl_netrun.specs.declared.run_kind.TestingKind.TheVariants.{Compare, Combine}
use Rattle.pdl_netrun.specs.declared.run_kind.CountingKind.TheVariants.{Count, Turn}
use Rattle.pdl_netrun.specs.declared.run_kind.WordKind.TheVariants as word
use Rattle.pdl_netrun.specs.declared.run_kind.PartKind.TheVariants as part
use Rattle.pdl_netrun.specs.declared.run_kind.CompareKind.TheVariants as compare
use Rattle.pdl_netrun.specs.declared.run_kind.CombineKind.TheVariants as combine
use Rattle.pdl_netrun.specs.declared.run_kind.CountKind.TheVariants as count
use Rattle.pdl_netrun.specs.declared.run_kind.TurnKind.TheVariants as turn
use Rattle.pdl_netrun.specs.declared.writes.PlannedWrite.{PlannedWrite}
use Rattle.pdl_netrun.specs.Steps.{Step, KindFits, StepsFit, steps_with, steps_of, after_kind, kind_value, after_step, after_steps, after_write, after_all}

-- CELLS OF ONE KIND

-- a cell that stands at k is the first of those from k on
pub cells_more : (kind : CellKind) (os : List CellOperands) (first k : ℕ) (o : CellOperands) (vs : List ℕ) (ws : List (List ℕ))
    → k < length os → o ≡ get_or os k o
    → after_steps (steps_with kind (drop (k + 1) os)) (first + (k + 1)) (after_kind kind o (first + k) vs ws) ws
    ≡ after_steps (steps_with kind (drop k os)) (first + k) vs ws
cells_more kind os first k o vs ws h e =
    let n : first + (k + 1) ≡ suc (first + k) = omega arith in
    ap (λ j. after_steps (steps_with kind (drop (k + 1) os)) j (after_kind kind o (first + k) vs ws) ws) n
    ∙ ap (λ y. after_steps (steps_with kind (drop (k + 1) os)) (suc (first + k)) (after_kind kind y (first + k) vs ws) ws) e
    ∙ sym (ap (λ l. after_steps (steps_with kind l) (first + k) vs ws) (drop_more os k o h))

-- a cell whose turn it is fits, and so do those after it
pub cells_fit : (bits : ℕ) (kind : CellKind) (os : List CellOperands) (first k : ℕ) (o : CellOperands) (vs : List ℕ) (ws : List (List ℕ))
    → k < length os → o ≡ get_or os k o → StepsFit bits (steps_with kind (drop k os)) (first + k) vs ws
    → KindFits bits kind o vs ws × StepsFit bits (steps_with kind (drop (k + 1) os)) (first + (k + 1)) (after_kind kind o (first + k) vs ws) ws
cells_fit bits kind os first k o vs ws h e f =
    let P : List CellOperands → Type 0 = λ l. StepsFit bits (steps_with kind l) (first + k) vs ws in
    let g : StepsFit bits (steps_with kind (get_or os k o ∷ drop (k + 1) os)) (first + k) vs ws = subst P (drop_more os k o h) f in
    let n : suc (first + k) ≡ first + (k + 1) = omega arith in
    let Q : CellOperands → Type 0 =
    λ y. KindFits bits kind y vs ws × StepsFit bits (steps_with kind (drop (k + 1) os)) (suc (first + k)) (after_kind kind y (first + k) vs ws) ws in
    let q : Q o = subst Q (sym e) g in
    (q.0, let R : ℕ → Type 0 = λ j. StepsFit bits (steps_with kind (drop (k + 1) os)) j (after_kind kind o (first + k) vs ws) ws in subst R n q.1)

-- past the last cell of a kind no step changes the values
pub cells_all : (kind : CellKind) (os : List CellOperands) (first k : ℕ) (vs : List ℕ) (ws : List (List ℕ))
    → length os ≤ k → after_steps (steps_with kind (drop k os)) (first + k) vs ws ≡ vs
cells_all kind os first k vs ws h = ap (λ l. after_steps (steps_with kind l) (first + k) vs ws) (drop_all k os h)

-- a cell that is no constant gives its place its value
pub given : (kind : RunKind) (o : CellOperands) (at : ℕ) (vs : List ℕ) (ws : List (List ℕ))
    → is_constant kind ≡ false → after_kind (kind_in kind) o at vs ws ≡ set vs at (kind_value (kind_in kind) o vs ws)
given (Taking (Word word.Constant)) o at vs ws e = absurd cc
given (Taking (Word word.Choose)) o at vs ws e = refl
given (Taking (Word word.Look)) o at vs ws e = refl
given (Taking (Part part.Slice)) o at vs ws e = refl
given (Taking (Part part.Join)) o at vs ws e = refl
given (Taking (Part part.Repeat)) o at vs ws e = refl
given (Testing (Compare compare.Equal)) o at vs ws e = refl
given (Testing (Compare compare.Differ)) o at vs ws e = refl
given (Testing (Compare compare.Less)) o at vs ws e = refl
given (Testing (Combine combine.And)) o at vs ws e = refl
given (Testing (Combine combine.Or)) o at vs ws e = refl
given (Testing (Combine combine.Xor)) o at vs ws e = refl
given (Counting (Count count.Add)) o at vs ws e = refl
given (Counting (Count count.Sub)) o at vs ws e = refl
given (Counting (Count count.Mul)) o at vs ws e = refl
given (Counting (Turn turn.Complement)) o at vs ws e = refl
given (Counting (Turn turn.ShiftLeft)) o at vs ws e = refl
given (Counting (Turn turn.ShiftRight)) o at vs ws e = refl

-- RUNS

-- steps after others
after_append : (xs ys : List Step) (at : ℕ) (vs : List ℕ) (ws : List (List ℕ))
    → after_steps (xs ++ ys) at vs ws ≡ after_steps ys (at + length xs) (after_steps xs at vs ws) ws
after_append [] ys at vs ws = let e : at + 0 ≡ at = omega arith in ap (λ n. after_steps ys n vs ws) (sym e)
after_append (x ∷ xs) ys at vs ws =
    let e : suc at + length xs ≡ at + suc (length xs) = omega arith in
    after_append xs ys (suc at) (after_step x at vs ws) ws ∙ ap (λ n. after_steps ys n (after_steps xs (suc at) (after_step x at vs ws) ws) ws) e

fit_append : (bits : ℕ) (xs ys : List Step) (at : ℕ) (vs : List ℕ) (ws : List (List ℕ)) → StepsFit bits (xs ++ ys) at vs ws
    → StepsFit bits xs at vs ws × StepsFit bits ys (at + length xs) (after_steps xs at vs ws) ws
fit_append bits [] ys at vs ws f = let e : at ≡ at + 0 = omega arith in (tt, subst (λ n. StepsFit bits ys n vs ws) e f)
fit_append bits (x ∷ xs) ys at vs ws f =
    let e : suc at + length xs ≡ at + suc (length xs) = omega arith in
    let r = fit_append bits xs ys (suc at) (after_step x at vs ws) ws f.1 in
    ((f.0, r.0), subst (λ n. StepsFit bits ys n (after_steps xs (suc at) (after_step x at vs ws) ws) ws) e r.1)

-- the steps of constants change no value
pub constants_stand : (os : List CellOperands) (at : ℕ) (vs : List ℕ) (ws : List (List ℕ))
    → after_steps (steps_with kinds.Constant os) at vs ws ≡ vs
constants_stand [] at vs ws = refl
constants_stand (o ∷ os) at vs ws = constants_stand os (suc at) vs ws

-- there are as many steps of a kind as cells of it
pub with_length : (kind : CellKind) (os : List CellOperands) → length (steps_with kind os) ≡ length os
with_length kind os = simp length-map

-- PARTS OF A RUN

-- the steps of the first n cells and then those of the others are the steps of all
with_halves : (kind : CellKind) (os : List CellOperands) (n : ℕ)
    → steps_with kind os ≡ steps_with kind (take n os) ++ steps_with kind (drop n os)
with_halves kind os n =
    ap (λ l. steps_with kind l) (sym (take-append-drop n os)) ∙ map-append (λ (o : CellOperands). record { kind = kind; operands = o }) (take n os) (drop n os)

-- the first n cells have n steps
first_count : (kind : CellKind) (os : List CellOperands) (n : ℕ) → n ≤ length os → length (steps_with kind (take n os)) ≡ n
first_count kind os n l = with_length kind (take n os) ∙ length-take-le n os l

-- after the first n cells and then the others the values are as after all of them
pub halves_after : (kind : CellKind) (os : List CellOperands) (n first : ℕ) (vs : List ℕ) (ws : List (List ℕ)) → n ≤ length os
    → after_steps (steps_with kind (drop n os)) (first + n) (after_steps (steps_with kind (take n os)) first vs ws) ws
    ≡ after_steps (steps_with kind os) first vs ws
halves_after kind os n first vs ws l =
    ap (λ i. after_steps (steps_with kind (drop n os)) (first + i) (after_steps (steps_with kind (take n os)) first vs ws) ws) (sym (first_count kind os n l))
    ∙ sym (after_append (steps_with kind (take n os)) (steps_with kind (drop n os)) first vs ws)
    ∙ sym (ap (λ xs. after_steps xs first vs ws) (with_halves kind os n))

-- where all cells fit, the first n do, and then the others
pub halves_fit : (bits : ℕ) (kind : CellKind) (os : List CellOperands) (n first : ℕ) (vs : List ℕ) (ws : List (List ℕ)) → n ≤ length os
    → StepsFit bits (steps_with kind os) first vs ws
    → StepsFit bits (steps_with kind (take n os)) first vs ws
    × StepsFit bits (steps_with kind (drop n os)) (first + n) (after_steps (steps_with kind (take n os)) first vs ws) ws
halves_fit bits kind os n first vs ws l f =
    let g = fit_append bits (steps_with kind (take n os)) (steps_with kind (drop n os)) first vs ws (subst (λ xs. StepsFit bits xs first vs ws) (with_halves kind os n) f) in
    (g.0, subst (λ i. StepsFit bits (steps_with kind (drop n os)) (first + i) (after_steps (steps_with kind (take n os)) first vs ws) ws) (first_count kind os n l) g.1)

-- all that is left after the first n cells
pub left_all : (os : List CellOperands) (n : ℕ) → take (length os - n) (drop n os) ≡ drop n os
left_all os n = take_all (length os - n) (drop n os) (let e = length-drop n os in omega (arith, e))

pub ruleset halves = (halves_after, halves_fit, left_all)

-- where no cell is left, the values stand
pub none_left : (kind : CellKind) (os : List CellOperands) (first : ℕ) (vs : List ℕ) (ws : List (List ℕ)) → length os ≡ 0
    → after_steps (steps_with kind os) first vs ws ≡ vs
none_left kind [] first vs ws e = refl
none_left kind (o ∷ os) first vs ws e = absurd (omega (arith, e))

pub ruleset nothing = (none_left)

-- the steps from the k-th run on
abbrev run_steps : CellRun → List Step
run_steps r = steps_with (kind_in r.kind) r.operands.items

runs_more : (rs : List CellRun) (k : ℕ) (r : CellRun)
    → k < length rs → r ≡ get_or rs k r
    → steps_of (drop k rs) ≡ steps_with (kind_in r.kind) r.operands.items ++ steps_of (drop (k + 1) rs)
runs_more rs k r h e = ap steps_of (drop_more rs k r h) ∙ ap (λ (q : CellRun). run_steps q ++ steps_of (drop (k + 1) rs)) (sym e)

-- a run that stands at k fits, and so do those after it
pub run_fits : (bits : ℕ) (rs : List CellRun) (k n at : ℕ) (r : CellRun) (vs : List ℕ) (ws : List (List ℕ))
    → k < length rs → r ≡ get_or rs k r → n ≡ length r.operands.items → StepsFit bits (steps_of (drop k rs)) at vs ws
    → StepsFit bits (steps_with (kind_in r.kind) r.operands.items) at vs ws
    × StepsFit bits (steps_of (drop (k + 1) rs)) (at + n) (after_steps (steps_with (kind_in r.kind) r.operands.items) at vs ws) ws
run_fits bits rs k n at r vs ws h e m f =
    let P : List Step → Type 0 = λ l. StepsFit bits l at vs ws in
    let g = fit_append bits (steps_with (kind_in r.kind) r.operands.items) (steps_of (drop (k + 1) rs)) at vs ws (subst P (runs_more rs k r h e) f) in (
      g.0,
      subst (λ i. StepsFit bits (steps_of (drop (k + 1) rs)) (at + i) (after_steps (steps_with (kind_in r.kind) r.operands.items) at vs ws) ws)
          (with_length (kind_in r.kind) r.operands.items ∙ sym m) g.1,
    )

-- after the run at k and then those after it the values are as after all runs from k on
pub run_rest : (rs : List CellRun) (k n at : ℕ) (r : CellRun) (vs : List ℕ) (ws : List (List ℕ))
    → k < length rs → r ≡ get_or rs k r → n ≡ length r.operands.items
    → after_steps (steps_of (drop (k + 1) rs)) (at + n) (after_steps (steps_with (kind_in r.kind) r.operands.items) at vs ws) ws
    ≡ after_steps (steps_of (drop k rs)) at vs ws
run_rest rs k n at r vs ws h e m =
    ap (λ i. after_steps (steps_of (drop (k + 1) rs)) (at + i) (after_steps (steps_with (kind_in r.kind) r.operands.items) at vs ws) ws)
    (m ∙ sym (with_length (kind_in r.kind) r.operands.items))
    ∙ sym (after_append (steps_with (kind_in r.kind) r.operands.items) (steps_of (drop (k + 1) rs)) at vs ws)
    ∙ sym (ap (λ l. after_steps l at vs ws) (runs_more rs k r h e))

-- the steps from the k-th run on are as many as its cells and the steps of the runs after it
pub run_length : (rs : List CellRun) (k : ℕ) (r : CellRun)
    → k < length rs → r ≡ get_or rs k r
    → length (steps_of (drop k rs)) ≡ length r.operands.items + length (steps_of (drop (k + 1) rs))
run_length rs k r h e =
    ap length (runs_more rs k r h e)
    ∙ length-append (steps_with (kind_in r.kind) r.operands.items) (steps_of (drop (k + 1) rs))
    ∙ ap (λ i. i + length (steps_of (drop (k + 1) rs))) (with_length (kind_in r.kind) r.operands.items)

-- all runs that are left after the first n
pub left_runs : (rs : List CellRun) (n : ℕ) → take (length rs - n) (drop n rs) ≡ drop n rs
left_runs rs n = take_all (length rs - n) (drop n rs) (let e = length-drop n rs in omega (arith, e))

-- steps leave the number of values
pub after_kind_length : (kind : CellKind) (o : CellOperands) (at : ℕ) (vs : List ℕ) (ws : List (List ℕ))
    → length (after_kind kind o at vs ws) ≡ length vs
after_kind_length kinds.Constant o at vs ws = refl
after_kind_length _ o at vs ws = length-set vs at _

-- after some steps there are as many values as before
pub after_length : (xs : List Step) (at : ℕ) (vs : List ℕ) (ws : List (List ℕ)) → length (after_steps xs at vs ws) ≡ length vs
after_length [] at vs ws = refl
after_length (x ∷ xs) at vs ws = after_length xs (suc at) (after_step x at vs ws) ws ∙ after_kind_length x.kind x.operands at vs ws

-- past the last run no step changes the values
pub runs_all : (rs : List CellRun) (k at : ℕ) (vs : List ℕ) (ws : List (List ℕ))
    → length rs ≤ k → after_steps (steps_of (drop k rs)) at vs ws ≡ vs
runs_all rs k at vs ws h = ap (λ l. after_steps (steps_of l) at vs ws) (drop_all k rs h)

pub ruleset cells = (cells_more, cells_fit, cells_all, given, constants_stand)

pub ruleset runs = (constants_stand, with_length, run_length, after_length, runs_all)

-- PLACES AND WRITES

-- one more of a mapped list
pub mapped_more : {X : Type 0} → (f : X → ℕ) (xs : List X) (ys : List ℕ) (k v : ℕ) (d : X)
    → take k ys ≡ map f (take k xs) → k < length xs → k < length ys → v ≡ f (get_or xs k d)
    → take (k + 1) (set ys k v) ≡ map f (take (k + 1) xs)
mapped_more f xs ys k v d e l m w =
    take-set_at ys k (k + 1) v refl m ∙ ap (λ (z : List ℕ). z ++ v ∷ []) e ∙ ap (λ n. map f (take k xs) ++ n ∷ []) w ∙ sym (map_more f xs k d l)

-- past the last element, a list that was set place by place is the whole mapped list
pub mapped_all : {X : Type 0} → (f : X → ℕ) (xs : List X) (ys : List ℕ) (k : ℕ)
    → take k ys ≡ map f (take k xs) → length xs ≤ k → length ys ≤ k → ys ≡ map f xs
mapped_all f xs ys k e l m = sym (take_all k ys m) ∙ e ∙ ap (map f) (take_all k xs l)

pub ruleset reads = (mapped_more, mapped_all)

-- after the write at k and then those after it the arrays are as after all writes from k on
pub writes_more : (ps : List PlannedWrite) (k : ℕ) (p : PlannedWrite) (vs : List ℕ) (ws : List (List ℕ))
    → k < length ps → p ≡ get_or ps k p
    → after_all (drop (k + 1) ps) vs (after_write p vs ws) ≡ after_all (drop k ps) vs ws
writes_more ps k p vs ws h e =
    ap (λ q. after_all (drop (k + 1) ps) vs (after_write q vs ws)) e
    ∙ sym (ap (λ l. after_all l vs ws) (drop_more ps k p h))

-- past the last write no array changes
pub writes_all : (ps : List PlannedWrite) (k : ℕ) (vs : List ℕ) (ws : List (List ℕ)) → length ps ≤ k → after_all (drop k ps) vs ws ≡ ws
writes_all ps k vs ws h = ap (λ l. after_all l vs ws) (drop_all k ps h)

pub ruleset writes = (writes_more, writes_all)
