-- What is each live thread's own: the reads that it awaits, and its entries in the locks' lists.
use Rattle.std.proofs.Common.{◌≡◌, ◌≢◌, refl, ap, ap₂, ◌∙◌, ℕ, ◌<◌, Bool, true, false, List, [], ◌∷◌, ◌++◌, ◌==◌, cond, arith, append-nil, eq-eqb}
use Rattle.std.proofs.lemmas.Bool.{ne_eqb}
use Rattle.pdl_semantics.specs.Flat.{Pipe}
use Rattle.pdl_semantics.specs.Machine.{State, Pending, lock_of}
use Rattle.pdl_theory_turns.specs.Derived.{Entry}
use Rattle.pdl_semantics.specs.Sound.{entries_by}
use Rattle.pdl_theory_turns.proofs.Lists.{own, pend}
use Rattle.pdl_theory_simulation.proofs.Seats.{Live, Falls, pends}
use Rattle.pdl_theory_states.proofs.ThreadHistory.{Local}
use Rattle.pdl_theory_states.proofs.ThreadFacts.{Lasting, Along, Owns}
use Rattle.pdl_word.specs.Each.{Each}

-- a live thread's own: what it keeps to, the requests that it awaits, and its entries in the locks' lists
pub record Mine (p : Pipe) (st : State) (l : Live) : Type 0 where
  pub local : Local p l.env l.kept l.thread
  pub owns : Owns st l.number local.asks l.thread.awaits
  pub listed : (m : ℕ) → entries_by l.number (lock_of st m) ≡ pend m l.number l.thread.entries

-- a thread's entries of two lists joined are those of the first and then those of the second
pub by_append : (n : ℕ) (xs ys : List Pending) → entries_by n (xs ++ ys) ≡ entries_by n xs ++ entries_by n ys
by_append n [] ys = refl
by_append n (x ∷ xs) ys = at (x.thread == n) (by_append n xs ys)
  where
    at : (b : Bool)
        → entries_by n (xs ++ ys) ≡ entries_by n xs ++ entries_by n ys
        → cond b (x ∷ entries_by n (xs ++ ys)) (entries_by n (xs ++ ys)) ≡ cond b (x ∷ entries_by n xs) (entries_by n xs) ++ entries_by n ys
    at true h = ap (λ l. x ∷ l) h
    at false h = h

by_own : (m n : ℕ) (es : List Entry) → entries_by n (pend m n es) ≡ pend m n es
by_own m n [] = refl
by_own m n (e ∷ es) = by_append n (pend m n es) _ ∙ ap₂ (λ l k. l ++ k) (by_own m n es) (at (e.mem == m))
  where
    at : (b : Bool) → entries_by n (cond b (own n e ∷ []) []) ≡ cond b (own n e ∷ []) []
    at true = ap (λ b. cond b (own n e ∷ []) []) (eq-eqb n n refl)
    at false = refl

-- entries of others
by_other : (m n k : ℕ) (es : List Entry) → k ≢ n → entries_by n (pend m k es) ≡ []
by_other m n k [] h = refl
by_other m n k (e ∷ es) h = by_append n (pend m k es) _ ∙ ap₂ (λ l k. l ++ k) (by_other m n k es h) (at (e.mem == m))
  where
    at : (b : Bool) → entries_by n (cond b (own k e ∷ []) []) ≡ []
    at true = ap (λ b. cond b (own k e ∷ []) []) (ne_eqb k n h)
    at false = refl

by_older : (m n : ℕ) (ks : List Live) → Falls n ks → entries_by n (pends m ks) ≡ []
by_older m n [] f = refl
by_older m n (k ∷ ks) f =
    by_append n (pends m ks) _
    ∙ ap₂ (λ l k. l ++ k) (by_older m n ks (falls_on k.number n ks (let i = f.0 in omega arith) f.1))
    (by_other m n k.number k.thread.entries (λ e. absurd (let i = f.0 in omega arith)))
  where
    falls_on : (k n : ℕ) (ks : List Live) → k < n → Falls k ks → Falls n ks
    falls_on k n [] h f = tt
    falls_on k n (j ∷ ks) h f = (let i = f.0 in omega arith, f.1)

module _ (p : Pipe) (st : State) where
  mine_of : (bound : ℕ) (ks : List Live) → Falls bound ks → Along (Lasting p st) ks
      → ((m n : ℕ) → n < bound → entries_by n (lock_of st m) ≡ entries_by n (pends m ks))
      → Each (Mine p st) ks
  mine_of bound [] f a g = tt
  mine_of bound (l ∷ ks) f a g = (
    record {
      local = a.0.local;
      owns = a.0.owns;
      listed =
          λ m. g m l.number f.0 ∙ by_append l.number (pends m ks) _ ∙ ap₂ (λ l k. l ++ k) (by_older m l.number ks f.1) (by_own m l.number l.thread.entries);
    },
    mine_of l.number ks f.1 a.1
        (λ m n i. g m n (let j = f.0 in omega arith) ∙ by_append n (pends m ks) _
        ∙ ap (λ k. entries_by n (pends m ks) ++ k) (by_other m n l.number l.thread.entries (λ e. absurd (let j = i in omega arith))) ∙ append-nil _),
  )

  -- each live thread has these for its own, where the locks' lists are the live threads' entries
  pub each_mine : (ls : List Live) → Falls st.next ls → Along (Lasting p st) ls → ((m : ℕ) → lock_of st m ≡ pends m ls) → Each (Mine p st) ls
  each_mine ls f a e = mine_of st.next ls f a (λ m n i. ap (entries_by n) (e m))
