-- The acts of a cycle: of each stage that holds a thread, decided from the last one down, and which of them move.
use Rattle.std.proofs.Common.{◌≡◌, refl, sym, ap, ap₂, ◌∙◌, ℕ, zero, suc, ◌+◌, ◌-◌, ◌≤◌, ◌<◌, Bool, true, false, ◌&&◌, ◌||◌, not, List, [], ◌∷◌, ◌++◌, length, drop, Option, Some, None, is_none, is_some, ◌==◌, arith, slice_index_or, ne_eqb}
use Rattle.std.proofs.lemmas.Bool.{eqb-true, eqb-false}
use Rattle.std.proofs.lemmas.List.{length-drop}
use Rattle.pdl_semantics.specs.Flat.{Pipe, list_all}
use Rattle.pdl_semantics.specs.Machine.{Thread, State, Deeds, deeds, with_answers}
use Rattle.pdl_semantics.specs.Moves.{Act, act_of, acts, all_acts, movers, no_failure, blocks_ready, have_room, is_empty, ports_free, barrier_clear, can_enter, merges_well, next_stage}
use Rattle.pdl_machine_facts.specs.Slots.{LeadsOn, slot, with_now, here, later_acts, locks_ready, may_pass, slot_moves, stage_moves, may_enter, mover, movers_from}

-- the first of what is left, and the rest
dropped : (xs : List (Option Thread)) (k : ℕ) (o : Option Thread) (ts : List (Option Thread))
    → drop k xs ≡ o ∷ ts → (slice_index_or xs k None ≡ o) × (drop (suc k) xs ≡ ts)
dropped [] zero o ts e = absurd (cc e)
dropped [] (suc k) o ts e = absurd (cc e)
dropped (x ∷ xs) zero o ts e = (cc e, cc e)
dropped (x ∷ xs) (suc k) o ts e = dropped xs k o ts e

-- the eight conditions, in four
regroup : (f b r a o c e m : Bool) → (((((((f && b) && r) && a) && o) && c) && e) && m) ≡ ((a && (b && r)) && ((f && (o && (c && m))) && e))
regroup true true true true true true e m = swap e m
  where
    swap : (e m : Bool) → (e && m) ≡ (m && e)
    swap true true = refl
    swap true false = refl
    swap false true = refl
    swap false false = refl
regroup true true true true true false e m = refl
regroup true true true true false c e m = refl
regroup true true true false o c e m = refl
regroup true true false true o c e m = refl
regroup true true false false o c e m = refl
regroup true false r true o c e m = refl
regroup true false r false o c e m = refl
regroup false b r a o c e m = sym (none (a && (b && r)))
  where
    none : (x : Bool) → (x && false) ≡ false
    none true = refl
    none false = refl

module _ (p : Pipe) (st : State) (bits : List Bool) where
  -- the act of a stage whose thread moves or stays
  abbrev pub seen : Bool → ℕ → Option Thread → List Act
  seen b k None = []
  seen b k (Some t) = record { stage = k; thread = t; does = deeds p st k t; moves = b } ∷ []

  -- the acts of n stages, of which the first is k
  abbrev pub line_acts : ℕ → ℕ → List Act
  line_acts zero k = []
  line_acts (suc n) k = seen (stage_moves p st bits k) k (here p st bits k) ++ line_acts n (suc k)

  acts_are : (ts : List (Option Thread)) (k : ℕ) → drop k st.stages ≡ ts → acts p st bits k ts ≡ line_acts (length ts) k
  acts_are [] k e = refl
  acts_are (o ∷ ts) k e = let d = dropped st.stages k o ts e in at o (ap (with_now p st bits) d.0) (ap (acts p st bits (suc k)) d.1) (acts_are ts (suc k) d.1)
    where
      n : ℕ
      n = length ts

      at : (o : Option Thread) → here p st bits k ≡ with_now p st bits o
          → later_acts p st bits k ≡ acts p st bits (suc k) ts → acts p st bits (suc k) ts ≡ line_acts n (suc k)
          → acts p st bits k (o ∷ ts) ≡ seen (stage_moves p st bits k) k (here p st bits k) ++ line_acts n (suc k)
      at None h b rest = rest ∙ ap (λ x. seen (stage_moves p st bits k) k x ++ line_acts n (suc k)) (sym h)
      at (Some t) h b rest =
          let u = with_answers p st bits t in
          ap₂ (λ l later. act_of p st bits l k u (deeds p st k u) ∷ later) (sym b) rest
          ∙ ap (λ x. seen (slot_moves p st bits k x) k x ++ line_acts n (suc k)) (sym h)

  -- all acts are those of the stages from the first on
  pub all_are : all_acts p st bits ≡ line_acts (length st.stages) 0
  all_are = acts_are st.stages 0 refl

  -- the acts after stage k are those of the stages that follow it
  pub after_are : (k : ℕ) → later_acts p st bits k ≡ line_acts (length st.stages - suc k) (suc k)
  after_are k = acts_are (drop (suc k) st.stages) (suc k) refl ∙ ap (λ n. line_acts n (suc k)) (length-drop (suc k) st.stages)

  -- answers don't empty a stage
  pub none_here : (k : ℕ) → is_none (here p st bits k) ≡ is_none (slot st k)
  none_here k = at (slot st k)
    where
      at : (o : Option Thread) → is_none (with_now p st bits o) ≡ is_none o
      at None = refl
      at (Some t) = refl

  -- a stage holds a thread with this cycle's answers just where it held one
  pub some_here : (k : ℕ) → is_some (here p st bits k) ≡ is_some (slot st k)
  some_here k = at (slot st k)
    where
      at : (o : Option Thread) → is_some (with_now p st bits o) ≡ is_some o
      at None = refl
      at (Some t) = refl

  -- whether no thread of these stays in a stage
  abbrev opens : ℕ → Act → Bool
  opens q a = not (a.stage == q) || a.moves

  no_other : (x m r : Bool) → x ≡ false → r ≡ true → ((not x || m) && r) ≡ true
  no_other x m r e f = rw (e, f) refl

  one_other : (x m r : Bool) → x ≡ false → ((not x || m) && r) ≡ r
  one_other x m r e = rw e refl

  open_seen : (b : Bool) (k q : ℕ) (o : Option Thread) (rest : List Act) → (k == q) ≡ false → list_all (opens q) (seen b k o ++ rest) ≡ list_all (opens q) rest
  open_seen b k q None rest e = refl
  open_seen b k q (Some t) rest e = one_other (k == q) b (list_all (opens q) rest) e

  open_before : (n k q : ℕ) → q < k → list_all (opens q) (line_acts n k) ≡ true
  open_before zero k q h = refl
  open_before (suc n) k q h =
      open_seen (stage_moves p st bits k) k q (here p st bits k) (line_acts n (suc k)) (ne_eqb k q (λ e. absurd (omega arith)))
      ∙ open_before n (suc k) q (omega arith)

  open_here : (b : Bool) (k q : ℕ) (o : Option Thread) (rest : List Act) → (k == q) ≡ true
      → list_all (opens q) rest ≡ true → list_all (opens q) (seen b k o ++ rest) ≡ (is_none o || b)
  open_here b k q None rest e h = h
  open_here b k q (Some t) rest e h = ap₂ (λ x y. (not x || b) && y) e h ∙ at b
    where
      at : (b : Bool) → ((not true || b) && true) ≡ (false || b)
      at true = refl
      at false = refl

  open_at : (n k q : ℕ) → k ≤ q → q < k + n → list_all (opens q) (line_acts n k) ≡ (is_none (slot st q) || stage_moves p st bits q)
  open_at zero k q h i = absurd (omega (arith, h, i))
  open_at (suc n) k q h i = at (k == q) refl (λ j. open_at n (suc k) q j (omega (arith, i)))
    where
      at : (x : Bool) → (k == q) ≡ x
          → (k < q → list_all (opens q) (line_acts n (suc k)) ≡ (is_none (slot st q) || stage_moves p st bits q))
          → list_all (opens q) (line_acts (suc n) k) ≡ (is_none (slot st q) || stage_moves p st bits q)
      at true e f =
          open_here (stage_moves p st bits k) k q (here p st bits k) (line_acts n (suc k)) e (open_before n (suc k) q (let j = eqb-true k q e in omega arith))
          ∙ ap (λ o. o || stage_moves p st bits k) (none_here k)
          ∙ ap (λ j. is_none (slot st j) || stage_moves p st bits j) (eqb-true k q e)
      at false e f = open_seen (stage_moves p st bits k) k q (here p st bits k) (line_acts n (suc k)) e ∙ f (let j = eqb-false k q e in omega arith)

  module _ (leads : LeadsOn p) (count : length st.stages ≡ length p.stages) where
    enters : (k : ℕ) (d : Deeds) → k < length p.stages → can_enter (next_stage p k d) (later_acts p st bits k) ≡ may_enter p st bits (next_stage p k d)
    enters k d l = at (next_stage p k d) (λ q e. leads.up k q d.env l e)
      where
        at : (q : Option ℕ) → ((r : ℕ) → q ≡ Some r → (k < r) × (r < length p.stages)) → can_enter q (later_acts p st bits k) ≡ may_enter p st bits q
        at None f = refl
        at (Some r) f = let g = f r refl in
            ap (list_all (opens r)) (after_are k) ∙ open_at (length st.stages - suc k) (suc k) r g.0 (omega (arith, g.0, g.1, count))

    -- a thread moves where the locks, the rest and its next stage let it
    pub goes_is : (k : ℕ) (t : Thread) → k < length p.stages → here p st bits k ≡ Some t
        → stage_moves p st bits k
        ≡ ((is_empty t.awaits && locks_ready p st t.number (deeds p st k t))
        && (may_pass p st bits (later_acts p st bits k) k (deeds p st k t) && may_enter p st bits (next_stage p k (deeds p st k t))))
    goes_is k t l e =
        let d = deeds p st k t in
        let later = later_acts p st bits k in
        ap (slot_moves p st bits k) e
        ∙ regroup (no_failure later) (blocks_ready p st t.number d) (have_room p st d) (is_empty t.awaits)
        (ports_free p st bits later d) (barrier_clear p later d) (can_enter (next_stage p k d) later)
        (merges_well p st k (next_stage p k d))
        ∙ ap (λ b. (is_empty t.awaits && locks_ready p st t.number d) && (may_pass p st bits later k d && b)) (enters k d l)

  mover_seen : (b : Bool) (k : ℕ) (o : Option Thread) (rest : List Act) → movers (seen b k o ++ rest) ≡ mover p st k b o ++ movers rest
  mover_seen true k None rest = refl
  mover_seen true k (Some t) rest = refl
  mover_seen false k None rest = refl
  mover_seen false k (Some t) rest = refl

  -- those who move among the acts of n stages are the threads that move in these stages
  pub movers_are : (n k : ℕ) → movers (line_acts n k) ≡ movers_from p st bits n k
  movers_are zero k = refl
  movers_are (suc n) k =
      mover_seen (stage_moves p st bits k) k (here p st bits k) (line_acts n (suc k))
      ∙ ap (λ l. mover p st k (stage_moves p st bits k) (here p st bits k) ++ l) (movers_are n (suc k))

  -- only a thread moves
  pub someone : (k : ℕ) → (stage_moves p st bits k && is_some (here p st bits k)) ≡ stage_moves p st bits k
  someone k = at (here p st bits k)
    where
      and_true : (b : Bool) → (b && true) ≡ b
      and_true true = refl
      and_true false = refl

      at : (o : Option Thread) → (slot_moves p st bits k o && is_some o) ≡ slot_moves p st bits k o
      at None = refl
      at (Some t) = and_true (slot_moves p st bits k (Some t))
