-- Who squashes, whom a squash removes, and for whom a barrier waits. In a cycle nobody squashes, or the thread of one stage does: where two would, the later one keeps the other from moving.
use Rattle.std.proofs.Common.{◌≡◌, refl, sym, ap, ◌∙◌, subst, ℕ, zero, suc, ◌+◌, ◌≤◌, ◌<◌, ◌⊎◌, inl, inr, ⊎_elim, Bool, true, false, ◌&&◌, ◌||◌, not, List, [], ◌∷◌, ◌++◌, length, Option, Some, None, is_some, arith, ◌==◌, nat_lt, nat_le, lt-ltb, le-leb}
use Rattle.std.specs.Prelude.{if◌then◌else◌}
use Rattle.std.proofs.lemmas.Bool.{eqb-true, eqb-false, cases_lt, le-ltb, lt-leb, ltb-true, ltb-false, and_parts, false≢true, false_from_ne_true}
use Rattle.std.proofs.lemmas.List.{get_or_past}
use Rattle.pdl_word.proofs.Bools.{by_or, same_bools}
use Rattle.pdl_semantics.specs.Flat.{Pipe}
use Rattle.pdl_semantics.specs.Stages.{list_any, verify_stage}
use Rattle.pdl_semantics.specs.Updates.{squash_stages}
use Rattle.pdl_theory_turns.specs.Graphs.{Trunk}
use Rattle.pdl_semantics.specs.Machine.{Thread, State, deeds, with_answers}
use Rattle.pdl_semantics.specs.Moves.{Act, next_stage, no_failure, blocks_ready, have_room, is_empty, ports_free, none_up_to, barrier_clear, can_enter, merges_well}
use Rattle.pdl_semantics.specs.Cycle.{squasher, squash_stage, is_kept, merges_by}
use Rattle.pdl_theory_turns.specs.Facts.{Sound}
use Rattle.pdl_machine_facts.specs.Slots.{slot, with_now, here, slot_moves, later_acts, stage_moves, mover, movers_from, moving}
use Rattle.pdl_machine_inflight.specs.InFlight.{InFlight, Some-of, UpdatesTogether}
use Rattle.pdl_machine_inflight.proofs.SquashStages.{MaySquash, v_low, fails_in, fails_trunk}
use Rattle.pdl_machine_inflight.proofs.LaterActs.{all_later, not_all_later}

-- who stands in a stage with this cycle's answers stood there
pub stood_in : (p : Pipe) (st : State) (bits : List Bool) (k : ℕ) (t : Thread)
    → here p st bits k ≡ Some t → (u : Thread) × (slot st k ≡ Some u) × (with_answers p st bits u ≡ t)
stood_in p st bits k t h = at (slot st k) refl h
  where
    at : (o : Option Thread) → slot st k ≡ o → with_now p st bits o ≡ Some t → (u : Thread) × (slot st k ≡ Some u) × (with_answers p st bits u ≡ t)
    at None e g = absurd (cc g)
    at (Some u) e g = (u, e, cc g)

-- whether the thread of a stage fails a verify, or changes its guess by an update
abbrev pub failing : Pipe → State → ℕ → Option Thread → Bool
failing p st k None = false
failing p st k (Some t) = (deeds p st k t).fails

-- whether the thread of a stage squashes: it moves and fails
abbrev pub squashing : Pipe → State → List Bool → ℕ → Bool
squashing p st bits k = stage_moves p st bits k && failing p st k (here p st bits k)

-- MOVERS

past : (p : Pipe) (st : State) (k : ℕ) (b : Bool) (o : Option Thread) (rest : List Act) → (b && failing p st k o) ≡ false
    → (squasher (mover p st k b o ++ rest) ≡ squasher rest) × (squash_stage (mover p st k b o ++ rest) ≡ squash_stage rest)
past p st k false o rest h = (refl, refl)
past p st k true None rest h = (refl, refl)
past p st k true (Some t) rest h = (ap (λ c. if c then Some t.number else squasher rest) h, ap (λ c. if c then Some k else squash_stage rest) h)

-- of these movers this thread of stage z squashes
abbrev IsBy : ℕ → Option Thread → List Act → Type 0
IsBy z o ms = (t : Thread) × (o ≡ Some t) × (squasher ms ≡ Some t.number) × (squash_stage ms ≡ Some z)

is_first : (p : Pipe) (st : State) (k : ℕ) (b : Bool) (o : Option Thread) (rest : List Act) → (b && failing p st k o) ≡ true
    → IsBy k o (mover p st k b o ++ rest)
is_first p st k false o rest h = absurd (false≢true h)
is_first p st k true None rest h = absurd (false≢true h)
is_first p st k true (Some t) rest h =
    (t, refl, ap (λ c. if c then Some t.number else squasher rest) h, ap (λ c. if c then Some k else squash_stage rest) h)

module _ (p : Pipe) (st : State) (bits : List Bool) where
  none_from : (n k : ℕ) → ((j : ℕ) → squashing p st bits j ≡ false)
      → (squasher (movers_from p st bits n k) ≡ None) × (squash_stage (movers_from p st bits n k) ≡ None)
  none_from zero k h = (refl, refl)
  none_from (suc n) k h =
      let one = past p st k (stage_moves p st bits k) (here p st bits k) (movers_from p st bits n (suc k)) (h k) in
      let rest = none_from n (suc k) h in
      (one.0 ∙ rest.0, one.1 ∙ rest.1)

  first_from : (z n k : ℕ) → k ≤ z → z < k + n → squashing p st bits z ≡ true → ((j : ℕ) → j < z → squashing p st bits j ≡ false)
      → IsBy z (here p st bits z) (movers_from p st bits n k)
  first_from z zero k low high e h = absurd (omega (arith, low, high))
  first_from z (suc n) k low high e h = at (k == z) refl (λ l. first_from z n (suc k) l (omega (arith, high)) e h)
    where
      at : (b : Bool) → (k == z) ≡ b → (suc k ≤ z → IsBy z (here p st bits z) (movers_from p st bits n (suc k)))
          → IsBy z (here p st bits z) (movers_from p st bits (suc n) k)
      at true f rest =
          let same = eqb-true k z f in
          subst (λ j. IsBy j (here p st bits j) (movers_from p st bits (suc n) k)) same
          (is_first p st k (stage_moves p st bits k) (here p st bits k) (movers_from p st bits n (suc k)) (ap (squashing p st bits) same ∙ e))
      at false f rest =
          let apart = eqb-false k z f in
          let before : k < z = omega (arith, low, apart) in
          let one = past p st k (stage_moves p st bits k) (here p st bits k) (movers_from p st bits n (suc k)) (h k before) in
          let r = rest (omega (arith, before)) in
          (r.0, r.1, one.0 ∙ r.2, one.1 ∙ r.3)

  -- what the act of a thread says
  says : (j : ℕ) (t : Thread) → here p st bits j ≡ Some t → (stage_moves p st bits j && (deeds p st j t).fails) ≡ squashing p st bits j
  says j t e = ap (λ o. stage_moves p st bits j && failing p st j o) (sym e)

  -- who squashes stands there, moves and fails
  pub squashing_is : (z : ℕ) → squashing p st bits z ≡ true
      → (t : Thread) × (here p st bits z ≡ Some t) × (stage_moves p st bits z ≡ true) × ((deeds p st z t).fails ≡ true)
  squashing_is z e = at (here p st bits z) refl (and_parts (stage_moves p st bits z) (failing p st z (here p st bits z)) e)
    where
      at : (o : Option Thread) → here p st bits z ≡ o → (stage_moves p st bits z ≡ true) × (failing p st z (here p st bits z) ≡ true)
          → (t : Thread) × (here p st bits z ≡ Some t) × (stage_moves p st bits z ≡ true) × ((deeds p st z t).fails ≡ true)
      at None f h = absurd (false≢true (sym (ap (failing p st z) f) ∙ h.1))
      at (Some t) f h = (t, f, h.0, sym (ap (failing p st z) f) ∙ h.1)

  -- CONDITION 1

  module _ (count : length st.stages ≡ length p.stages) where
    low_here : (z : ℕ) → squashing p st bits z ≡ true → z < length p.stages
    low_here z e = ⊎_elim
        (λ (l : z < length p.stages). l)
        (λ (l : length p.stages ≤ z).
        let r = squashing_is z e in
        absurd (none_some r.0 (sym (ap (with_now p st bits) (get_or_past st.stages z None (omega (arith, l, count)))) ∙ r.1)))
        (cases_lt z (length p.stages))
      where
        none_some : (t : Thread) → None ≡ Some t → ⊥
        none_some t i = cc i

    calm_later : (k : ℕ) → ((j : ℕ) → k < j → squashing p st bits j ≡ false) → no_failure (later_acts p st bits k) ≡ true
    calm_later k h =
        all_later p st bits (λ (o : Act). not (o.moves && o.does.fails)) count k (λ j t low l e. ap not (says j t e ∙ h j low))

    fails_later : (k z : ℕ) → k < z → squashing p st bits z ≡ true → no_failure (later_acts p st bits k) ≡ false
    fails_later k z low e =
        let r = squashing_is z e in
        not_all_later p st bits (λ (o : Act). not (o.moves && o.does.fails)) count k z r.0 low (low_here z e) r.1 (ap not (says z r.0 r.1 ∙ e))

    -- before the stage of a squash nobody moves
    stopped : (j z : ℕ) → j < z → squashing p st bits z ≡ true → squashing p st bits j ≡ false
    stopped j z low e = ap (λ b. b && failing p st j (here p st bits j)) (at (here p st bits j) refl)
      where
        at : (o : Option Thread) → here p st bits j ≡ o → stage_moves p st bits j ≡ false
        at None f = ap (slot_moves p st bits j) f
        at (Some t) f =
            let d = deeds p st j t in
            let later = later_acts p st bits j in
            ap (slot_moves p st bits j) f
            ∙ ap (λ b. b && blocks_ready p st t.number d && have_room p st d && is_empty t.awaits && ports_free p st bits later d
            && barrier_clear p later d && can_enter (next_stage p j d) later && merges_well p st j (next_stage p j d))
            (fails_later j z low e)

    -- WHO SQUASHES

    -- nobody does
    pub record Nobody : Type 0 where
      pub calm : (j : ℕ) → squashing p st bits j ≡ false
      pub none : squasher (moving p st bits) ≡ None
      pub nowhere : squash_stage (moving p st bits) ≡ None

    -- the thread of stage z does, and no other
    pub record IsSquasher (z : ℕ) : Type 0 where
      pub squashes : squashing p st bits z ≡ true
      pub alone : (j : ℕ) → (j ≡ z → ⊥) → squashing p st bits j ≡ false
      pub thread : Thread
      pub stands : slot st z ≡ Some thread
      pub is : squasher (moving p st bits) ≡ Some thread.number
      pub stage : squash_stage (moving p st bits) ≡ Some z

    found : (n : ℕ) → ((z : ℕ) × (squashing p st bits z ≡ true)) ⊎ ((j : ℕ) → j < n → squashing p st bits j ≡ false)
    found zero = inr (λ j l. absurd (omega (arith, l)))
    found (suc n) = at (found n) (squashing p st bits n) refl
      where
        at : ((z : ℕ) × (squashing p st bits z ≡ true)) ⊎ ((j : ℕ) → j < n → squashing p st bits j ≡ false) → (b : Bool) → squashing p st bits n ≡ b
            → ((z : ℕ) × (squashing p st bits z ≡ true)) ⊎ ((j : ℕ) → j < suc n → squashing p st bits j ≡ false)
        at (inl h) b e = inl h
        at (inr h) true e = inl (n, e)
        at (inr h) false e = inr (λ j l. ⊎_elim
            (λ (below : j < n). h j below)
            (λ (top : n ≤ j). let same : j ≡ n = omega (arith, l, top) in ap (squashing p st bits) same ∙ e)
            (cases_lt j n))

    squasher_is : (z : ℕ) → squashing p st bits z ≡ true → IsSquasher z
    squasher_is z e =
        let r = first_from z (length p.stages) 0 (omega arith) (let l = low_here z e in omega (arith, l)) e (λ j l. stopped j z l e) in
        let u = stood_in p st bits z r.0 r.1 in
        record {
          squashes = e;
          alone = λ j n. ⊎_elim
              (λ (l : j < z). stopped j z l e)
              (λ (l : z ≤ j). false_from_ne_true (squashing p st bits j)
              (λ f. let before : z < j = omega (arith, l, n) in false≢true (sym (stopped z j before f) ∙ e)))
              (cases_lt j z);
          thread = u.0;
          stands = u.1;
          is = r.2 ∙ ap (λ (x : Thread). Some x.number) (sym u.2);
          stage = r.3;
        }

    -- in a cycle nobody squashes, or the thread of one stage does
    pub who_squashes : Nobody ⊎ ((z : ℕ) × IsSquasher z)
    who_squashes = at (found (length p.stages))
      where
        at : ((z : ℕ) × (squashing p st bits z ≡ true)) ⊎ ((j : ℕ) → j < length p.stages → squashing p st bits j ≡ false)
            → Nobody ⊎ ((z : ℕ) × IsSquasher z)
        at (inl h) = inr (h.0, squasher_is h.0 h.1)
        at (inr h) = inl (record { calm = calm; none = (none_from (length p.stages) 0 calm).0; nowhere = (none_from (length p.stages) 0 calm).1 })
          where
            calm : (j : ℕ) → squashing p st bits j ≡ false
            calm j = false_from_ne_true (squashing p st bits j) (λ e. false≢true (sym (h j (low_here j e)) ∙ e))

-- AMONG STAGES

-- whether one of some stages that pass a test squashes
abbrev pub any_squashing : Pipe → State → List Bool → (ℕ → Bool) → List ℕ → Bool
any_squashing p st bits test zs = list_any (λ (z : ℕ). test z && squashing p st bits z) zs

none_among : (test q : ℕ → Bool) (zs : List ℕ) → ((j : ℕ) → q j ≡ false) → list_any (λ (z : ℕ). test z && q z) zs ≡ false
none_among test q [] h = refl
none_among test q (z ∷ zs) h = off (test z) (q z) (h z) (none_among test q zs h)
  where
    off : (a b : Bool) → b ≡ false → list_any (λ (y : ℕ). test y && q y) zs ≡ false → ((a && b) || list_any (λ (y : ℕ). test y && q y) zs) ≡ false
    off true b e r = ap (λ c. c || list_any (λ (y : ℕ). test y && q y) zs) e ∙ r
    off false b e r = r

module _ (test q : ℕ → Bool) (z : ℕ) (on : q z ≡ true) (alone : (j : ℕ) → (j ≡ z → ⊥) → q j ≡ false) where
  gives : (zs : List ℕ) → list_any (λ (y : ℕ). test y && q y) zs ≡ true → test z ≡ true
  gives [] e = absurd (false≢true e)
  gives (y ∷ zs) e =
      by_or (test y && q y) (list_any (λ (x : ℕ). test x && q x) zs) (test z ≡ true) e
      (λ i. let two = and_parts (test y) (q y) i in at (y == z) refl two.0 two.1)
      (λ i. gives zs i)
    where
      at : (b : Bool) → (y == z) ≡ b → test y ≡ true → q y ≡ true → test z ≡ true
      at true f i j = sym (ap test (eqb-true y z f)) ∙ i
      at false f i j = absurd (false≢true (sym (alone y (eqb-false y z f)) ∙ j))

  has : (zs : List ℕ) → Some-of (λ (y : ℕ). y ≡ z) zs → test z ≡ true → list_any (λ (y : ℕ). test y && q y) zs ≡ true
  has [] i e = absurd i
  has (y ∷ zs) (inl same) e =
      ap (λ b. (b && q y) || list_any (λ (x : ℕ). test x && q x) zs) (ap test same ∙ e)
      ∙ ap (λ b. b || list_any (λ (x : ℕ). test x && q x) zs) (ap q same ∙ on)
  has (y ∷ zs) (inr i) e = later (test y && q y) (has zs i e)
    where
      later : (b : Bool) → list_any (λ (x : ℕ). test x && q x) zs ≡ true → (b || list_any (λ (x : ℕ). test x && q x) zs) ≡ true
      later true r = refl
      later false r = r

  one_among : (zs : List ℕ) → Some-of (λ (y : ℕ). y ≡ z) zs → list_any (λ (y : ℕ). test y && q y) zs ≡ test z
  one_among zs i = same_bools _ _ (gives zs) (has zs i)

module _ (p : Pipe) (sound : Sound p) (together : UpdatesTogether p) (st : State) (bits : List Bool) (flight : InFlight p st) where
  -- whether one of the stages in which a thread may squash does, of those that pass a test
  abbrev any_of : (ℕ → Bool) → Bool
  any_of test = any_squashing p st bits test (squash_stages p.stmts)

  -- the stage of a squash is V or U
  pub squash_in : (z : ℕ) → squashing p st bits z ≡ true → MaySquash p z
  squash_in z e = let r = squashing_is p st bits z e in fails_in p sound together st z r.0 r.3

  trunk_in : (z : ℕ) → squashing p st bits z ≡ true → Trunk p z
  trunk_in z e = let r = squashing_is p st bits z e in fails_trunk p sound st z r.0 r.3

  none_of_them : Nobody p st bits flight.count → (test : ℕ → Bool) → any_of test ≡ false
  none_of_them h test = none_among test (squashing p st bits) (squash_stages p.stmts) h.calm

  one_of_them : (z : ℕ) → IsSquasher p st bits flight.count z → (test : ℕ → Bool) → any_of test ≡ test z
  one_of_them z h test = one_among test (squashing p st bits) z h.squashes h.alone (squash_stages p.stmts) (squash_in z h.squashes)

  -- there is a squash just where one of V and U squashes
  pub some_squash : is_some (squasher (moving p st bits)) ≡ any_squashing p st bits (λ z. true) (squash_stages p.stmts)
  some_squash = ⊎_elim
      (λ (h : Nobody p st bits flight.count). ap (λ (o : Option ℕ). is_some o) h.none ∙ sym (none_of_them h (λ z. true)))
      (λ (h : (z : ℕ) × IsSquasher p st bits flight.count z). ap (λ (o : Option ℕ). is_some o) h.1.is ∙ sym (one_of_them h.0 h.1 (λ z. true)))
      (who_squashes p st bits flight.count)

  -- condition 1: a thread in a later stage moves and fails just where one of V and U that is later squashes
  pub told_later : (k : ℕ) → no_failure (later_acts p st bits k) ≡ not (any_squashing p st bits (nat_lt k) (squash_stages p.stmts))
  told_later k = ⊎_elim
      (λ (h : Nobody p st bits flight.count).
      calm_later p st bits flight.count k (λ j low. h.calm j) ∙ ap not (sym (none_of_them h (nat_lt k))))
      (λ (h : (z : ℕ) × IsSquasher p st bits flight.count z). one h.0 h.1 (nat_lt k h.0) refl)
      (who_squashes p st bits flight.count)
    where
      one : (z : ℕ) → IsSquasher p st bits flight.count z → (b : Bool) → nat_lt k z ≡ b
          → no_failure (later_acts p st bits k) ≡ not (any_squashing p st bits (nat_lt k) (squash_stages p.stmts))
      one z h true e =
          fails_later p st bits flight.count k z (ltb-true k z e) h.squashes ∙ ap not (sym (one_of_them z h (nat_lt k) ∙ e))
      one z h false e =
          let high = ltb-false k z e in
          calm_later p st bits flight.count k (λ j low. h.alone j (λ i. omega (arith, i, low, high)))
          ∙ ap not (sym (one_of_them z h (nat_lt k) ∙ e))

  -- a squash empties the list of a fork just where one of V and U squashes in which, or before which, the fork merges
  pub emptied_where : (f : ℕ)
      → merges_by p f (squash_stage (moving p st bits)) ≡ any_squashing p st bits (λ z. merges_by p f (Some z)) (squash_stages p.stmts)
  emptied_where f = ⊎_elim
      (λ (h : Nobody p st bits flight.count). ap (merges_by p f) h.nowhere ∙ sym (none_of_them h (λ z. merges_by p f (Some z))))
      (λ (h : (z : ℕ) × IsSquasher p st bits flight.count z). ap (merges_by p f) h.1.stage ∙ sym (one_of_them h.0 h.1 (λ z. merges_by p f (Some z))))
      (who_squashes p st bits flight.count)

  -- the squasher stands in V or U
  pub squasher_in : (n : ℕ) → squasher (moving p st bits) ≡ Some n
      → (z : ℕ) × MaySquash p z × (squashing p st bits z ≡ true) × ((j : ℕ) → (j ≡ z → ⊥) → squashing p st bits j ≡ false)
      × (u : Thread) × (slot st z ≡ Some u) × (u.number ≡ n)
  squasher_in n e = ⊎_elim
      (λ (h : Nobody p st bits flight.count). absurd (none_some (sym h.none ∙ e)))
      (λ (h : (z : ℕ) × IsSquasher p st bits flight.count z). (
        h.0,
        squash_in h.0 h.1.squashes,
        h.1.squashes,
        h.1.alone,
        h.1.thread,
        h.1.stands,
        some_is (sym h.1.is ∙ e),
      ))
      (who_squashes p st bits flight.count)
    where
      none_some : None ≡ Some n → ⊥
      none_some i = cc i

      some_is : {a b : ℕ} → Some a ≡ Some b → a ≡ b
      some_is i = cc i

  -- WHO IS REMOVED

  -- a squash removes the threads of all stages before its own, and none that stands there or later
  pub kept_where : (k : ℕ) (t : Thread) → slot st k ≡ Some t
      → is_kept (squasher (moving p st bits)) t.number ≡ not (any_squashing p st bits (nat_lt k) (squash_stages p.stmts))
  kept_where k t e = ⊎_elim
      (λ (h : Nobody p st bits flight.count). ap (λ o. is_kept o t.number) h.none ∙ ap not (sym (none_of_them h (nat_lt k))))
      (λ (h : (z : ℕ) × IsSquasher p st bits flight.count z).
      ap (λ o. is_kept o t.number) h.1.is ∙ one h.0 h.1 (nat_lt k h.0) refl ∙ ap not (sym (one_of_them h.0 h.1 (nat_lt k))))
      (who_squashes p st bits flight.count)
    where
      one : (z : ℕ) (h : IsSquasher p st bits flight.count z) (b : Bool) → nat_lt k z ≡ b → nat_le t.number h.thread.number ≡ not (nat_lt k z)
      one z h true f =
          let low = ltb-true k z f in
          let n = h.thread.number in
          lt-leb t.number n (⊎_elim
          (λ (l : n < t.number). l)
          (λ (l : t.number ≤ n). absurd (⊎_elim
          (λ (lt : t.number < n). let w = flight.behind z k h.thread t h.stands e lt z (trunk_in z h.squashes) (omega arith) in omega (arith, w, low))
          (λ (ge : n ≤ t.number). let w = flight.same k z t h.thread e h.stands (omega (arith, ge, l)) in omega (arith, w, low))
          (cases_lt t.number n)))
          (cases_lt n t.number))
          ∙ ap not (sym f)
      one z h false f =
          let high = ltb-false k z f in
          let n = h.thread.number in
          le-leb t.number n (⊎_elim
          (λ (lt : n < t.number). absurd (let w = flight.behind k z t h.thread e h.stands lt z (trunk_in z h.squashes) high in omega (arith, w)))
          (λ (ge : t.number ≤ n). ge)
          (cases_lt n t.number))
          ∙ ap not (sym f)

-- BARRIERS

module _ (p : Pipe) (sound : Sound p) (st : State) (bits : List Bool) (flight : InFlight p st) (v : ℕ) (is : verify_stage p.stmts ≡ Some v) where
  -- from V on a barrier finds no thread in a later stage up to V
  pub clear_high : (k : ℕ) → v ≤ k → none_up_to (Some v) (later_acts p st bits k) ≡ true
  clear_high k high = all_later p st bits (λ (o : Act). nat_lt v o.stage) flight.count k (λ j t low l e. lt-ltb v j (omega (arith, high, low)))

  -- a barrier finds nobody where the stages after its own and up to V are empty
  pub clear_where : (k : ℕ) → ((j : ℕ) → k < j → j ≤ v → slot st j ≡ None) → none_up_to (Some v) (later_acts p st bits k) ≡ true
  clear_where k h = all_later p st bits (λ (o : Act). nat_lt v o.stage) flight.count k
      (λ j t low l e. lt-ltb v j (⊎_elim
      (λ (lt : v < j). lt)
      (λ (ge : j ≤ v). absurd (none_some t (sym (ap (with_now p st bits) (h j low ge)) ∙ e)))
      (cases_lt v j)))
    where
      none_some : (t : Thread) → None ≡ Some t → ⊥
      none_some t i = cc i

  -- a barrier finds somebody where a thread stands after its stage, in V or before
  pub not_clear : (k j : ℕ) (t : Thread) → k < j → j ≤ v → slot st j ≡ Some t → none_up_to (Some v) (later_acts p st bits k) ≡ false
  not_clear k j t low high e =
      not_all_later p st bits (λ (o : Act). nat_lt v o.stage) flight.count k j (with_answers p st bits t) low
      (let l = v_low p sound v is in omega (arith, l, high))
      (ap (with_now p st bits) e)
      (le-ltb v j high)
