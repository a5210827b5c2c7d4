-- The words of an array without lock after the advisory writes of a cycle are those of the machine's memory.
use Rattle.std.proofs.Common.{◌≡◌, ℕ, zero, suc, ◌+◌, ◌<◌, ◌≤◌, Bool, true, false, List, [], ◌∷◌, ◌++◌, length, refl, sym, ap, ◌∙◌, subst, arith, ◌==◌, ◌⊎◌, ⊎_elim, eq-eqb}
use Rattle.std.specs.Prelude.{Some, slice_index, slice_set, if◌then◌else◌, ◌≢◌}
use Rattle.std.proofs.lemmas.Bool.{eqb-true, eqb-false, ne_eqb, cases_eq}
use Rattle.std.proofs.lemmas.List.{get_or-set_same, get_or-set_other, length-set}
use Rattle.pdl_word.specs.Words.{bit}
use Rattle.pdl_semantics.specs.Flat.{Arrays, Pipe, with_value, with_word}
use Rattle.pdl_semantics.specs.Machine as machine
use Rattle.pdl_semantics.specs.Machine.{Thread, Advised, deeds}
use Rattle.pdl_semantics.specs.Cycle.{with_advised, with_all_advised}
use Rattle.pdl_net.specs.Circuit.{State}
use Rattle.pdl_net.specs.Signal.{Signal}
use Rattle.pdl_net.specs.Meaning.{WriteSignal}
use Rattle.pdl_lockapi.specs.Laws.{after_writes}
use Rattle.pdl_machine_facts.specs.Slots.{here, stage_moves, movers_from}
use Rattle.pdl_law_parts.specs.Walk.{Advising, both, is_on}
use Rattle.pdl_law_parts.specs.Views.{View}
use Rattle.pdl_law_parts.specs.Ports.{advises_to, all_advises}
use Rattle.pdl_law_parts.specs.Stands.{advised_in}
use Rattle.pdl_law_parts.proofs.LockPorts.{both_is, moves_or_not, no_mover, one_mover}

-- a memory has these words below its depth
abbrev pub HasWordsOf : ℕ → ℕ → Arrays → List ℕ → Type 0
HasWordsOf m depth arrays ws = (depth ≤ length ws) × ((a : ℕ) → a < depth → arrays m a ≡ slice_index ws a)

-- it has them after a write of one word, in both
one_word : (m depth : ℕ) (arrays : Arrays) (ws : List ℕ) (x v : ℕ) → HasWordsOf m depth arrays ws → HasWordsOf m depth (with_word arrays m x v) (slice_set ws x v)
one_word m depth arrays ws x v h = ((let n = length-set ws x v in let l = h.0 in omega (arith, n, l)), λ a low. word a low (cases_eq a x))
  where
    word : (a : ℕ) → a < depth → (a ≡ x) ⊎ (a ≢ x) → with_word arrays m x v m a ≡ slice_index (slice_set ws x v) a
    word a low c =
        ap (λ (t : Bool). (if t then with_value (arrays m) x v else arrays m) a) (eq-eqb m m refl)
        ∙ ⊎_elim
        (λ (i : a ≡ x).
        ap (λ (t : Bool). if t then v else arrays m a) (eq-eqb a x i)
        ∙ sym (get_or-set_same ws x v 0 (let l = h.0 in omega (arith, i, l, low)))
        ∙ ap (slice_index (slice_set ws x v)) (sym i))
        (λ (i : a ≢ x). ap (λ (t : Bool). if t then v else arrays m a) (ne_eqb a x i) ∙ h.1 a low ∙ sym (get_or-set_other ws x a v 0 i))
        c

-- and after a write of another memory
other_word : (m n depth : ℕ) (arrays : Arrays) (ws : List ℕ) (x v : ℕ) → (n == m) ≡ false → HasWordsOf m depth arrays ws
    → HasWordsOf m depth (with_word arrays n x v) ws
other_word m n depth arrays ws x v e h =
    (h.0, λ a low. ap (λ (t : Bool). (if t then with_value (arrays n) x v else arrays m) a) (ne_eqb m n (λ i. eqb-false n m e (sym i))) ∙ h.1 a low)

-- the ports of one list write, and then those of the other
writes_append : (s : State) (xs ys : List WriteSignal) (ws : List ℕ) → after_writes s (xs ++ ys) ws ≡ after_writes s ys (after_writes s xs ws)
writes_append s [] ys ws = refl
writes_append s (x ∷ xs) ys ws = writes_append s xs ys (if x.enable.value s == 1 then slice_set ws (x.addr.value s) (x.value.value s) else ws)

-- the ports of a stage whose thread moves write what the thread writes
stage_words : (m depth : ℕ) (s : State) (moves : Signal) → moves.value s ≡ bit true → (xs : List Advising) (arrays : Arrays) (ws : List ℕ)
    → HasWordsOf m depth arrays ws → HasWordsOf m depth (with_advised (advised_in s xs) arrays) (after_writes s (advises_to m moves xs) ws)
stage_words m depth s moves e [] arrays ws h = h
stage_words m depth s moves e (x ∷ xs) arrays ws h =
    at (is_on x.on s) (x.mem == m) (both_is s moves x.on true e) refl (λ later us i. stage_words m depth s moves e xs later us i)
  where
    place : ℕ
    place = x.addr.value s

    word : ℕ
    word = x.value.value s

    rest : List Advised
    rest = advised_in s xs

    ports : List WriteSignal
    ports = advises_to m moves xs

    at : (o b : Bool) → ((both moves x.on).value s == 1) ≡ o → (x.mem == m) ≡ b
        → ((later : Arrays) (us : List ℕ) → HasWordsOf m depth later us → HasWordsOf m depth (with_advised rest later) (after_writes s ports us))
        → HasWordsOf m depth (with_advised (if o then record { mem = x.mem; address = place; value = word } ∷ rest else rest) arrays)
        (after_writes s (if b then record { enable = both moves x.on; addr = x.addr; value = x.value } ∷ ports else ports) ws)
    at true true i j go =
        subst
        (λ (c : Bool). HasWordsOf m depth (with_advised rest (with_word arrays x.mem place word)) (after_writes s ports (if c then slice_set ws place word else ws)))
        (sym i)
        (go (with_word arrays x.mem place word) (slice_set ws place word)
        (subst (λ n. HasWordsOf m depth (with_word arrays n place word) (slice_set ws place word)) (sym (eqb-true x.mem m j))
        (one_word m depth arrays ws place word h)))
    at true false i j go = go (with_word arrays x.mem place word) ws (other_word m x.mem depth arrays ws place word j h)
    at false true i j go =
        subst (λ (c : Bool). HasWordsOf m depth (with_advised rest arrays) (after_writes s ports (if c then slice_set ws place word else ws))) (sym i)
        (go arrays ws h)
    at false false i j go = go arrays ws h

-- the ports of any other stage write nothing
still_words : (m : ℕ) (s : State) (moves : Signal) → moves.value s ≡ bit false → (xs : List Advising) (ws : List ℕ)
    → after_writes s (advises_to m moves xs) ws ≡ ws
still_words m s moves e [] ws = refl
still_words m s moves e (x ∷ xs) ws = at (x.mem == m) (still_words m s moves e xs ws)
  where
    ports : List WriteSignal
    ports = advises_to m moves xs

    at : (b : Bool) → after_writes s ports ws ≡ ws
        → after_writes s (if b then record { enable = both moves x.on; addr = x.addr; value = x.value } ∷ ports else ports) ws ≡ ws
    at true h =
        ap (λ (c : Bool). after_writes s ports (if c then slice_set ws (x.addr.value s) (x.value.value s) else ws)) (both_is s moves x.on false e) ∙ h
    at false h = h

module _ (p : Pipe) (vs : ℕ → View) (moves : ℕ → Signal) (s : State) (st : machine.State) (bits : List Bool)
    (leaves : (k : ℕ) → k < length p.stages → (moves k).value s ≡ bit (stage_moves p st bits k))
    (told : (k : ℕ) (t : Thread) → k < length p.stages → here p st bits k ≡ Some t → stage_moves p st bits k ≡ true
    → (deeds p st k t).advises ≡ advised_in s (vs k).ended.advises) where
  -- the ports of the stages from k on write what their threads write, the last stage first
  pub advised_words : (m depth n k : ℕ) (arrays : Arrays) (ws : List ℕ) → k + n ≡ length p.stages → HasWordsOf m depth arrays ws
      → HasWordsOf m depth (with_all_advised (movers_from p st bits n k) arrays) (after_writes s (all_advises m vs moves n k) ws)
  advised_words m depth zero k arrays ws e h = h
  advised_words m depth (suc n) k arrays ws e h =
      let l : k < length p.stages = omega (arith, e) in
      let rest = movers_from p st bits n (suc k) in
      let ports = all_advises m vs moves n (suc k) in
      let own = advises_to m (moves k) (vs k).ended.advises in
      let later = after_writes s ports ws in
      let split = writes_append s ports own ws in
      let more : HasWordsOf m depth (with_all_advised rest arrays) later = advised_words m depth n (suc k) arrays ws (omega (arith, e)) h in
      ⊎_elim
      (λ (f : stage_moves p st bits k ≡ false).
      let still = still_words m s (moves k) (leaves k l ∙ ap bit f) (vs k).ended.advises later in
      subst (λ ms. HasWordsOf m depth (with_all_advised (ms ++ rest) arrays) (after_writes s (ports ++ own) ws)) (sym (no_mover p st bits k f))
      (subst (HasWordsOf m depth (with_all_advised rest arrays)) (sym (split ∙ still)) more))
      (λ (f : (t : Thread) × (here p st bits k ≡ Some t) × (stage_moves p st bits k ≡ true)).
      subst (λ ms. HasWordsOf m depth (with_all_advised (ms ++ rest) arrays) (after_writes s (ports ++ own) ws)) (sym (one_mover p st bits k f.0 f.1 f.2))
      (subst (λ xs. HasWordsOf m depth (with_advised xs (with_all_advised rest arrays)) (after_writes s (ports ++ own) ws)) (sym (told k f.0 l f.1 f.2))
      (subst (HasWordsOf m depth (with_advised (advised_in s (vs k).ended.advises) (with_all_advised rest arrays))) (sym split)
      (stage_words m depth s (moves k) (leaves k l ∙ ap bit f.2) (vs k).ended.advises (with_all_advised rest arrays) later more))))
      (moves_or_not p st bits k)
