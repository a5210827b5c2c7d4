-- Stages of which some change places.
use Rattle.std.proofs.Common.{◌≡◌, refl, sym, ap, ap₂, ◌∙◌, subst, ℕ, zero, suc, ◌+◌, ◌<◌, ◌≤◌, Bool, true, false, if◌then◌else◌, List, [], ◌∷◌, ◌++◌, map, Option, Some, None, is_none, drop, length, get_or, set, ◌⊎◌, inl, inr, arith, ne_eqb, eq-eqb}
use Rattle.std.proofs.lemmas.Bool.{cases_eq}
use Rattle.std.proofs.lemmas.List.{length-set, length-drop, drop_more, get_or_default, get_or-set_same, get_or-set_other}
use Rattle.std.proofs.lemmas.List.Edits.{swapped_from_swap, length-swap}
use Rattle.std.specs.List.{swap}
use Rattle.pdl_semantics.specs.Flat.{Pipe}
use Rattle.pdl_semantics.specs.Machine.{Thread, Deeds}
use Rattle.pdl_semantics.specs.Moves.{Act, next_stage}
use Rattle.pdl_semantics.specs.Cycle.{is_stage, thread_after, or_then, next_thread, if_kept}
use Rattle.pdl_machine_facts.specs.Slots.{LeadsOn}
use Rattle.pdl_form.specs.Form.{Form}
use Rattle.pdl_machine_run.specs.declared.stage.Stage as r_stage
use Rattle.pdl_machine_run.specs.View.{deeds_view, thread_of, thread_if, thread_in}
use Rattle.pdl_machine_run.specs.Acts.{act_here, all_of, mover_of, comes, stays}
use Rattle.pdl_machine_run.specs.Ready.{IsStage, AreStages}

-- the stage that was set, at a place that is equal to its own
pub set_at : (xs : List r_stage.Stage) (k i : ℕ) (y d : r_stage.Stage) → i ≡ k → k < length xs → get_or (set xs k y) i d ≡ y
set_at xs k i y d e h = ap (λ j. get_or (set xs k y) j d) e ∙ get_or-set_same xs k y d h

-- stages are wide enough after one of them is set to one that is
pub stages_set : (f : Form) (xs : List r_stage.Stage) (k : ℕ) (y : r_stage.Stage) → AreStages f xs → IsStage f y → AreStages f (set xs k y)
stages_set f xs k y h here i d less = at (cases_eq i k)
  where
    long : length (set xs k y) ≡ length xs
    long = length-set xs k y

    at : (i ≡ k) ⊎ (i ≡ k → ⊥) → IsStage f (get_or (set xs k y) i d)
    at (inl e) = let there : k < length xs = omega (arith, long, less, e) in subst (IsStage f) (sym (set_at xs k i y d e there)) here
    at (inr n) = subst (IsStage f) (sym (get_or-set_other xs k i y d n)) (h i d (omega (arith, long, less)))

-- where those before a stage are left as a squash leaves them, and the others as they were, so they are with this stage
pub removed_more : (sq : Option ℕ) (init now : List r_stage.Stage) (k : ℕ) (x y : r_stage.Stage) → k < length now
    → ((i : ℕ) (d : r_stage.Stage) → i < k → thread_in (get_or now i d).slot ≡ if_kept sq (thread_in (get_or init i d).slot))
    → ((i : ℕ) (d : r_stage.Stage) → k ≤ i → get_or now i d ≡ get_or init i d)
    → thread_in y.slot ≡ if_kept sq (thread_in (get_or now k x).slot)
    → (i : ℕ) (d : r_stage.Stage) → i < k + 1 → thread_in (get_or (set now k y) i d).slot ≡ if_kept sq (thread_in (get_or init i d).slot)
removed_more sq init now k x y there done left e i d low = at (cases_eq i k)
  where
    at : (i ≡ k) ⊎ (i ≡ k → ⊥) → thread_in (get_or (set now k y) i d).slot ≡ if_kept sq (thread_in (get_or init i d).slot)
    at (inl same) =
        ap (λ (z : r_stage.Stage). thread_in z.slot) (set_at now k i y d same there)
        ∙ e
        ∙ ap (λ (z : r_stage.Stage). if_kept sq (thread_in z.slot))
        (get_or_default now k x d there ∙ left k d (omega arith) ∙ ap (λ j. get_or init j d) (sym same))
    at (inr n) = ap (λ (z : r_stage.Stage). thread_in z.slot) (get_or-set_other now k i y d n) ∙ done i d (omega (arith, low, n))

module _ (xs : List r_stage.Stage) (k q : ℕ) (hk : k < length xs) (hq : q < length xs) where
  -- after stages k and q change places, q has what stood at k
  pub swapped_there : (d : r_stage.Stage) → get_or (swap xs k q) q d ≡ get_or xs k d
  swapped_there d = (swapped_from_swap xs (swap xs k q) k q d hk hq refl).1

  -- after stages k and q change places, k has what stood at q
  pub swapped_here : (d : r_stage.Stage) → get_or (swap xs k q) k d ≡ get_or xs q d
  swapped_here d = (swapped_from_swap xs (swap xs k q) k q d hk hq refl).0

  -- after stages k and q change places, each other stage stands where it stood
  pub swapped_other : (i : ℕ) (d : r_stage.Stage) → (i ≡ k → ⊥) → (i ≡ q → ⊥) → get_or (swap xs k q) i d ≡ get_or xs i d
  swapped_other i d n m = (swapped_from_swap xs (swap xs k q) k q d hk hq refl).2 i n m

  -- after two stages change places all are wide enough, if they were before
  pub stages_swap : (f : Form) → AreStages f xs → AreStages f (swap xs k q)
  stages_swap f h i d less = at (cases_eq i k) (cases_eq i q)
    where
      at : (i ≡ k) ⊎ (i ≡ k → ⊥) → (i ≡ q) ⊎ (i ≡ q → ⊥) → IsStage f (get_or (swap xs k q) i d)
      at (inl e) o = subst (IsStage f) (sym (ap (λ j. get_or (swap xs k q) j d) e ∙ swapped_here d)) (h q d hq)
      at (inr n) (inl e) = subst (IsStage f) (sym (ap (λ j. get_or (swap xs k q) j d) e ∙ swapped_there d)) (h k d hk)
      at (inr n) (inr m) = let long = length-swap xs k q in subst (IsStage f) (sym (swapped_other i d n m)) (h i d (omega (arith, long, less)))

-- lists of which one element changes, but not as it is seen
pub map_set : {X Y : Type 0} (view : X → Y) (xs : List X) (k : ℕ) (y d : X)
    → k < length xs → view y ≡ view (get_or xs k d) → map view (set xs k y) ≡ map view xs
map_set view [] k y d h e = refl
map_set view (x ∷ xs) zero y d h e = ap (λ z. z ∷ map view xs) e
map_set view (x ∷ xs) (suc k) y d h e = ap (λ zs. view x ∷ zs) (map_set view xs k y d (omega arith) e)

-- WHO GOES WHERE

module _ (p : Pipe) where
  -- who leaves stage k comes into its next stage, whoever stood there
  pub passed : (q k : ℕ) (x y : r_stage.Stage) (to : Option ℕ) (old : Option Thread) → is_none (mover_of x) ≡ false → to ≡ next_stage p k (deeds_view x.deeds)
      → ((j n : ℕ) → thread_of n y.slot ≡ thread_after (record { stage = j; thread = thread_of n x.slot; does = deeds_view x.deeds; moves = true }))
      → y.slot.number ≡ x.slot.number
      → (if is_stage q to then thread_in y.slot else old) ≡ or_then (comes p q k (mover_of x) x) old
  passed q k x y to old some goes left same =
      ap₂ (λ (o : Option ℕ) (n : Option ℕ). if is_stage q o then thread_if n y.slot else old) goes same ∙ at x.moves x.slot.number some
    where
      into : (n : ℕ) (c : Bool)
          → (if c then Some (thread_of n y.slot) else old)
          ≡ or_then (if c then Some (thread_after (record { stage = k; thread = thread_of n x.slot; does = deeds_view x.deeds; moves = true })) else None) old
      into n true = ap (λ (t : Thread). Some t) (left k n)
      into n false = refl

      at : (b : Bool) (o : Option ℕ) → is_none (if b then o else None) ≡ false
          → (if is_stage q (next_stage p k (deeds_view x.deeds)) then thread_if o y.slot else old) ≡ or_then (comes p q k (if b then o else None) x) old
      at false o e = absurd (cc e)
      at true None e = absurd (cc e)
      at true (Some n) e = into n (is_stage q (next_stage p k (deeds_view x.deeds)))

  -- one thread more, which isn't in the stage
  pub next_more : (q k : ℕ) (x : r_stage.Stage) (more : List Act) → (k ≡ q → ⊥)
      → next_thread p q (act_here k x.slot.number x ++ more) ≡ or_then (comes p q k (mover_of x) x) (next_thread p q more)
  next_more q k x more apart = at x.moves x.slot.number
    where
      at : (b : Bool) (o : Option ℕ)
          → next_thread p q (act_here k o (record x { moves = b }) ++ more) ≡ or_then (comes p q k (if b then o else None) x) (next_thread p q more)
      at true None = refl
      at false None = refl
      at true (Some n) = refl
      at false (Some n) =
          ap (λ (c : Bool). or_then (if c then Some (thread_of n x.slot) else None) (next_thread p q more)) (ne_eqb k q apart)

  module _ (leads : LeadsOn p) where
    never_back : (q k : ℕ) (d : Deeds) → q ≤ k → k < length p.stages → is_stage q (next_stage p k d) ≡ false
    never_back q k d low less = at (next_stage p k d) refl
      where
        at : (o : Option ℕ) → next_stage p k d ≡ o → is_stage q o ≡ false
        at None e = refl
        at (Some r) e = let up = (leads.up k r d.env less e).0 in ne_eqb r q (λ same. absurd (omega (arith, up, same, low)))

    -- nobody in later stages comes into this one
    pub none_back : (q k : ℕ) (zs : List r_stage.Stage) → q < k → k + length zs ≤ length p.stages → next_thread p q (all_of k zs) ≡ None
    none_back q k [] low n = refl
    none_back q k (z ∷ zs) low n = at z.slot.number z.moves (none_back q (suc k) zs (omega arith) (omega arith))
      where
        at : (o : Option ℕ) (b : Bool) → next_thread p q (all_of (suc k) zs) ≡ None
            → next_thread p q (act_here k o (record z { moves = b }) ++ all_of (suc k) zs) ≡ None
        at None b h = h
        at (Some m) true h =
            ap₂
            (λ (c : Bool)
            (o : Option Thread). or_then
            (if c then Some (thread_after (record { stage = k; thread = thread_of m z.slot; does = deeds_view z.deeds; moves = true })) else None) o)
            (never_back q k (deeds_view z.deeds) (omega arith) (omega arith)) h
        at (Some m) false h =
            ap₂ (λ (c : Bool) (o : Option Thread). or_then (if c then Some (thread_of m z.slot) else None) o)
            (ne_eqb k q (λ e. absurd (omega (arith, e, low)))) h

    -- no later thread comes into stage k: who stands there after all moves is who stays
    pub next_here : (k : ℕ) (x : r_stage.Stage) (zs : List r_stage.Stage) → suc k + length zs ≤ length p.stages
        → next_thread p k (act_here k x.slot.number x ++ all_of (suc k) zs) ≡ stays x
    next_here k x zs n = at x.slot.number x.moves (none_back k (suc k) zs (omega arith) n)
      where
        at : (o : Option ℕ) (b : Bool) → next_thread p k (all_of (suc k) zs) ≡ None
            → next_thread p k (act_here k o (record x { moves = b }) ++ all_of (suc k) zs) ≡ (if b then None else thread_if o x.slot)
        at None true h = h
        at None false h = h
        at (Some m) true h =
            ap₂
            (λ (c : Bool)
            (o : Option Thread). or_then
            (if c then Some (thread_after (record { stage = k; thread = thread_of m x.slot; does = deeds_view x.deeds; moves = true })) else None) o)
            (never_back k k (deeds_view x.deeds) (omega arith) (omega arith)) h
        at (Some m) false h =
            ap₂ (λ (c : Bool) (o : Option Thread). or_then (if c then Some (thread_of m x.slot) else None) o) (eq-eqb k k refl) h

    -- a stage more, after those of which each has who comes into it or stays
    pub moved : (j : ℕ) (init now new : List r_stage.Stage) → j < length init → length init ≡ length p.stages → length now ≡ length init
        → ((i : ℕ) (d : r_stage.Stage) → i < j + 1 → get_or now i d ≡ get_or init i d)
        → ((q : ℕ) (d : r_stage.Stage) → j + 1 ≤ q → q < length now → thread_in (get_or now q d).slot ≡ next_thread p q (all_of (j + 1) (drop (j + 1) init)))
        → ((q : ℕ) (d : r_stage.Stage) → j < q
        → thread_in (get_or new q d).slot ≡ or_then (comes p q j (mover_of (get_or now j d)) (get_or now j d)) (thread_in (get_or now q d).slot))
        → ((d : r_stage.Stage) → thread_in (get_or new j d).slot ≡ stays (get_or now j d))
        → (q : ℕ) (d : r_stage.Stage) → j ≤ q → q < length now → thread_in (get_or new q d).slot ≡ next_thread p q (all_of j (drop j init))
    moved j init now new less count long left done there here q d low high = at (cases_eq q j)
      where
        x : r_stage.Stage
        x = get_or init j d

        same : get_or now j d ≡ x
        same = left j d (omega arith)

        up : j + 1 ≡ suc j
        up = omega arith

        split : all_of j (drop j init) ≡ act_here j x.slot.number x ++ all_of (suc j) (drop (j + 1) init)
        split = ap (all_of j) (drop_more init j d less)

        at : (q ≡ j) ⊎ (q ≡ j → ⊥) → thread_in (get_or new q d).slot ≡ next_thread p q (all_of j (drop j init))
        at (inl e) =
            let rest : suc j + length (drop (j + 1) init) ≤ length p.stages = omega (arith, length-drop (j + 1) init, count, less) in
            ap (λ i. thread_in (get_or new i d).slot) e ∙ here d ∙ ap (λ (z : r_stage.Stage). stays z) same
            ∙ sym (next_here j x (drop (j + 1) init) rest)
            ∙ ap₂ (λ i (ms : List Act). next_thread p i ms) (sym e) (sym split)
        at (inr n) =
            let past : j < q = omega (arith, low, n) in
            there q d past
            ∙ ap₂ (λ (z : r_stage.Stage) (o : Option Thread). or_then (comes p q j (mover_of z) z) o) same
            (done q d (omega (arith, past)) high ∙ ap (λ i. next_thread p q (all_of i (drop (j + 1) init))) up)
            ∙ sym (next_more q j x (all_of (suc j) (drop (j + 1) init)) (λ e. n (sym e)))
            ∙ ap (next_thread p q) (sym split)
