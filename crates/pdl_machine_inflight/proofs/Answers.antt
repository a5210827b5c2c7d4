-- What a thread awaits beyond a cycle, and the values that it has with the answers of the cycle.
use Rattle.std.proofs.Common.{◌≡◌, refl, sym, ap, ◌∙◌, subst, ℕ, ◌<◌, ◌⊎◌, inl, inr, Bool, true, false, ◌&&◌, List, [], ◌∷◌, ◌++◌, length, Some, None, is_some, arith, ◌==◌, eq-eqb}
use Rattle.std.specs.Prelude.{if◌then◌else◌, slice_index, slice_set}
use Rattle.std.proofs.lemmas.Bool.{eqb-true, eqb-false, false≢true}
use Rattle.std.proofs.lemmas.List.{get_or-set_same, get_or-set_other, length-set}
use Rattle.pdl_semantics.specs.Flat.{Pipe, word_at}
use Rattle.pdl_semantics.specs.Machine.{Awaited, State, request_of, is_answered, answer_to, answer_for, kept_answer, unanswered_reads, answered_reads, with_kept}
use Rattle.pdl_semantics.specs.Moves.{is_empty}
use Rattle.pdl_semantics.specs.Sound.{request_address}
use Rattle.pdl_machine_inflight.specs.InFlight.{Some-of, IsAwaited}
use Rattle.pdl_word.specs.Each.{Each}

-- the word that an outstanding request asks for
abbrev pub word_asked : State → ℕ → ℕ
word_asked st m = word_at st.arrays m (request_address (request_of st m))

module _ (p : Pipe) (st : State) (bits : List Bool) (k n : ℕ) where
  -- the answer to a read that a thread awaits
  answer_is : (r : Awaited) → IsAwaited p st k n r → answer_for p st bits n r.mem ≡ (if is_answered p bits r.mem then Some (word_asked st r.mem) else None)
  answer_is r h =
      ap (λ q. answer_to st n r.mem q (is_answered p bits r.mem)) h.owned ∙ at (is_answered p bits r.mem) (n == n) (eq-eqb n n refl)
      ∙ ap (λ q. if is_answered p bits r.mem then Some (word_at st.arrays r.mem (request_address q)) else None) (sym h.owned)
    where
      at : (b c : Bool) → c ≡ true
          → (if b && c then Some (word_at st.arrays r.mem h.address) else None) ≡ (if b then Some (word_at st.arrays r.mem h.address) else None)
      at true true e = refl
      at true false e = absurd (cc e)
      at false c e = refl

  -- WHAT IS AWAITED STILL

  unanswered_head : (r : Awaited) (rs : List Awaited) → IsAwaited p st k n r
      → unanswered_reads p st bits n (r ∷ rs) ≡ (if is_answered p bits r.mem then [] else r ∷ []) ++ unanswered_reads p st bits n rs
  unanswered_head r rs h = ap (λ o. (if is_some o then [] else r ∷ []) ++ unanswered_reads p st bits n rs) (answer_is r h) ∙ at (is_answered p bits r.mem)
    where
      at : (b : Bool)
          → (if is_some (if b then Some (word_asked st r.mem) else None) then [] else r ∷ []) ++ unanswered_reads p st bits n rs
          ≡ (if b then [] else r ∷ []) ++ unanswered_reads p st bits n rs
      at true = refl
      at false = refl

  -- who awaits nothing any more has all answers
  pub all_in : (rs : List Awaited) → Each (IsAwaited p st k n) rs → is_empty (unanswered_reads p st bits n rs) ≡ true
      → (m : ℕ) → Some-of (λ (r : Awaited). r.mem ≡ m) rs → is_answered p bits m ≡ true
  all_in [] h e m i = absurd i
  all_in (r ∷ rs) h e m i = at (is_answered p bits r.mem) refl (sym (ap is_empty (unanswered_head r rs h.0)) ∙ e) i (all_in rs h.1)
    where
      at : (b : Bool) → is_answered p bits r.mem ≡ b
          → is_empty ((if b then [] else r ∷ []) ++ unanswered_reads p st bits n rs) ≡ true
          → (r.mem ≡ m) ⊎ Some-of (λ (r : Awaited). r.mem ≡ m) rs
          → (is_empty (unanswered_reads p st bits n rs) ≡ true → (m : ℕ) → Some-of (λ (r : Awaited). r.mem ≡ m) rs → is_answered p bits m ≡ true)
          → is_answered p bits m ≡ true
      at false f g j rest = absurd (cc g)
      at true f g (inl j) rest = ap (is_answered p bits) (sym j) ∙ f
      at true f g (inr j) rest = rest g m j

  -- who awaits something has a read that isn't answered
  pub some_open : (rs : List Awaited) → Each (IsAwaited p st k n) rs
      → is_empty (unanswered_reads p st bits n rs) ≡ false
      → Some-of (λ (r : Awaited). IsAwaited p st k n r × (is_answered p bits r.mem ≡ false)) rs
  some_open [] h e = absurd (cc e)
  some_open (r ∷ rs) h e = at (is_answered p bits r.mem) refl (sym (ap is_empty (unanswered_head r rs h.0)) ∙ e) (some_open rs h.1)
    where
      at : (b : Bool) → is_answered p bits r.mem ≡ b → is_empty ((if b then [] else r ∷ []) ++ unanswered_reads p st bits n rs) ≡ false
          → (is_empty (unanswered_reads p st bits n rs) ≡ false → Some-of (λ (r : Awaited). IsAwaited p st k n r × (is_answered p bits r.mem ≡ false)) rs)
          → Some-of (λ (r : Awaited). IsAwaited p st k n r × (is_answered p bits r.mem ≡ false)) (r ∷ rs)
      at false f g rest = inl (h.0, f)
      at true f g rest = inr (rest g)

  -- and what is awaited still was awaited
  pub still_awaited : (m : ℕ) (rs : List Awaited) → Each (IsAwaited p st k n) rs
      → Some-of (λ (r : Awaited). r.mem ≡ m) (unanswered_reads p st bits n rs)
      → Some-of (λ (r : Awaited). r.mem ≡ m) rs × (is_answered p bits m ≡ false)
  still_awaited m [] h i = absurd i
  still_awaited m (r ∷ rs) h i =
      at (is_answered p bits r.mem) refl (subst (Some-of (λ (r : Awaited). r.mem ≡ m)) (unanswered_head r rs h.0) i) (still_awaited m rs h.1)
    where
      at : (b : Bool) → is_answered p bits r.mem ≡ b → Some-of (λ (r : Awaited). r.mem ≡ m) ((if b then [] else r ∷ []) ++ unanswered_reads p st bits n rs)
          → (Some-of (λ (r : Awaited). r.mem ≡ m) (unanswered_reads p st bits n rs) → Some-of (λ (r : Awaited). r.mem ≡ m) rs × (is_answered p bits m ≡ false))
          → Some-of (λ (r : Awaited). r.mem ≡ m) (r ∷ rs) × (is_answered p bits m ≡ false)
      at true f g rest = let z = rest g in (inr z.0, z.1)
      at false f (inl g) rest = (inl g, ap (is_answered p bits) (sym g) ∙ f)
      at false f (inr g) rest = let z = rest g in (inr z.0, z.1)

  -- VALUES

  answered_head : (r : Awaited) (rs : List Awaited) (env : List ℕ) → IsAwaited p st k n r
      → with_kept (answered_reads p st bits n (r ∷ rs)) env
      ≡ with_kept (answered_reads p st bits n rs) (if is_answered p bits r.mem then slice_set env r.var (word_asked st r.mem) else env)
  answered_head r rs env h = ap (λ o. with_kept (kept_answer r.var o ++ answered_reads p st bits n rs) env) (answer_is r h) ∙ at (is_answered p bits r.mem)
    where
      at : (b : Bool)
          → with_kept (kept_answer r.var (if b then Some (word_asked st r.mem) else None) ++ answered_reads p st bits n rs) env
          ≡ with_kept (answered_reads p st bits n rs) (if b then slice_set env r.var (word_asked st r.mem) else env)
      at true = refl
      at false = refl

  -- a variable that no answer binds
  pub not_bound : (x : ℕ) (rs : List Awaited) (env : List ℕ) → Each (IsAwaited p st k n) rs
      → Each (λ (r : Awaited). r.var ≡ x → is_answered p bits r.mem ≡ false) rs
      → slice_index (with_kept (answered_reads p st bits n rs) env) x ≡ slice_index env x
  not_bound x [] env h f = refl
  not_bound x (r ∷ rs) env h f =
      ap (λ e. slice_index e x) (answered_head r rs env h.0)
      ∙ not_bound x rs (if is_answered p bits r.mem then slice_set env r.var (word_asked st r.mem) else env) h.1 f.1
      ∙ at (is_answered p bits r.mem) refl
    where
      at : (b : Bool) → is_answered p bits r.mem ≡ b → slice_index (if b then slice_set env r.var (word_asked st r.mem) else env) x ≡ slice_index env x
      at false e = refl
      at true e = get_or-set_other env r.var x (word_asked st r.mem) 0 (λ i. false≢true (sym (f.0 (sym i)) ∙ e))

  -- one that has its word keeps it
  keeps_word : (x m : ℕ) (rs : List Awaited) (env : List ℕ) → Each (IsAwaited p st k n) rs
      → Each (λ (r : Awaited). r.var ≡ x → r.mem ≡ m) rs → x < length env → slice_index env x ≡ word_asked st m
      → slice_index (with_kept (answered_reads p st bits n rs) env) x ≡ word_asked st m
  keeps_word x m [] env h f l e = e
  keeps_word x m (r ∷ rs) env h f l e =
      ap (λ e. slice_index e x) (answered_head r rs env h.0)
      ∙ keeps_word x m rs (if is_answered p bits r.mem then slice_set env r.var (word_asked st r.mem) else env) h.1 f.1 (long (is_answered p bits r.mem))
      (at (is_answered p bits r.mem))
    where
      long : (b : Bool) → x < length (if b then slice_set env r.var (word_asked st r.mem) else env)
      long false = l
      long true = let z = length-set env r.var (word_asked st r.mem) in omega (arith, l, z)

      at : (b : Bool) → slice_index (if b then slice_set env r.var (word_asked st r.mem) else env) x ≡ word_asked st m
      at false = e
      at true = by (r.var == x) refl
        where
          by : (c : Bool) → (r.var == x) ≡ c → slice_index (slice_set env r.var (word_asked st r.mem)) x ≡ word_asked st m
          by false g = get_or-set_other env r.var x (word_asked st r.mem) 0 (λ i. eqb-false r.var x g (sym i)) ∙ e
          by true g =
              let same = eqb-true r.var x g in
              subst (λ y. slice_index (slice_set env y (word_asked st r.mem)) x ≡ word_asked st r.mem) (sym same)
              (get_or-set_same env x (word_asked st r.mem) 0 l)
              ∙ ap (word_asked st) (f.0 same)

  -- one that an answer binds has it
  pub bound : (x m : ℕ) (rs : List Awaited) (env : List ℕ) → Each (IsAwaited p st k n) rs
      → Each (λ (r : Awaited). r.var ≡ x → r.mem ≡ m) rs → x < length env → is_answered p bits m ≡ true
      → Some-of (λ (r : Awaited). (r.mem ≡ m) × (r.var ≡ x)) rs
      → slice_index (with_kept (answered_reads p st bits n rs) env) x ≡ word_asked st m
  bound x m [] env h f l a i = absurd i
  bound x m (r ∷ rs) env h f l a i =
      ap (λ e. slice_index e x) (answered_head r rs env h.0) ∙ at i (is_answered p bits r.mem) refl (λ e j g. bound x m rs e h.1 f.1 j a g)
    where
      long : (b : Bool) → x < length (if b then slice_set env r.var (word_asked st r.mem) else env)
      long false = l
      long true = let z = length-set env r.var (word_asked st r.mem) in omega (arith, l, z)

      at : ((r.mem ≡ m) × (r.var ≡ x)) ⊎ Some-of (λ (r : Awaited). (r.mem ≡ m) × (r.var ≡ x)) rs → (b : Bool) → is_answered p bits r.mem ≡ b
          → ((e : List ℕ) → x < length e → Some-of (λ (r : Awaited). (r.mem ≡ m) × (r.var ≡ x)) rs
          → slice_index (with_kept (answered_reads p st bits n rs) e) x ≡ word_asked st m)
          → slice_index (with_kept (answered_reads p st bits n rs) (if b then slice_set env r.var (word_asked st r.mem) else env)) x ≡ word_asked st m
      at (inr g) b e rest = rest (if b then slice_set env r.var (word_asked st r.mem) else env) (long b) g
      at (inl g) false e rest = absurd (false≢true (sym e ∙ ap (is_answered p bits) g.0 ∙ a))
      at (inl g) true e rest =
          keeps_word x m rs (slice_set env r.var (word_asked st r.mem)) h.1 f.1 (long true)
          (subst (λ y. slice_index (slice_set env y (word_asked st r.mem)) x ≡ word_asked st r.mem) (sym g.1) (get_or-set_same env x (word_asked st r.mem) 0 l)
          ∙ ap (word_asked st) g.0)
