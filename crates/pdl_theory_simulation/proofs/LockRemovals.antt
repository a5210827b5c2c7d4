-- What leaves a lock's list in a cycle, and whose entries a list holds none of.
use Rattle.std.proofs.Common.{◌≡◌, ◌≢◌, refl, sym, ap, ap₂, ◌∙◌, ℕ, zero, suc, ◌+◌, ◌≤◌, ◌⊎◌, inl, inr, arith, length, take, drop, length-append, Bool, true, false, ◌&&◌, List, [], ◌∷◌, ◌++◌, Some, None, ◌==◌, cond, if◌then◌else◌, append-nil, append_assoc}
use Rattle.std.proofs.lemmas.Bool.{ne_eqb}
use Rattle.pdl_semantics.specs.Flat.{Commit}
use Rattle.pdl_semantics.specs.Machine.{Pending}
use Rattle.pdl_semantics.specs.Cycle.{new_entries, with_value_of, with_writes_of}
use Rattle.pdl_semantics.specs.Machine
use Rattle.pdl_theory_turns.specs.Derived.{Entry, commits_of}
use Rattle.pdl_theory_turns.specs.Derived
use Rattle.pdl_theory_turns.proofs.Lists.{own, pend, Foreign}
use Rattle.pdl_theory_turns.proofs.EntryCommits.{released}

-- no entry of two lists is thread k's where none of either is
pub foreign_append : (k : ℕ) (xs ys : List Pending) → Foreign k xs → Foreign k ys → Foreign k (xs ++ ys)
foreign_append k [] ys f g = g
foreign_append k (x ∷ xs) ys f g = (f.0, foreign_append k xs ys f.1 g)

foreign_if : (k n : ℕ) (b : Bool) (e : Pending) → n ≢ k → e.thread ≡ n → Foreign k (cond b (e ∷ []) [])
foreign_if k n true e h f = (ne_eqb e.thread k (λ i. h (sym f ∙ i)), tt)
foreign_if k n false e h f = tt

-- no pending write of another thread is thread k's
pub foreign_pend : (k m n : ℕ) (es : List Entry) → n ≢ k → Foreign k (pend m n es)
foreign_pend k m n [] h = tt
foreign_pend k m n (e ∷ es) h = foreign_append k (pend m n es) _ (foreign_pend k m n es h) (foreign_if k n (e.mem == m) (own n e) h refl)

-- no entry for a reservation of another thread is thread k's
pub foreign_new : (k m n : ℕ) (rs : List Machine.Reserved) → n ≢ k → Foreign k (new_entries m n rs)
foreign_new k m n [] h = tt
foreign_new k m n (r ∷ rs) h =
    foreign_append k _ (new_entries m n rs)
    (foreign_if k n (r.mem == m) (record { thread = n; var = r.var; address = r.address; value = None }) h refl)
    (foreign_new k m n rs h)

foreign_put : (k n y v : ℕ) (xs : List Pending) → Foreign k xs → Foreign k (with_value_of n y v xs)
foreign_put k n y v [] f = tt
foreign_put k n y v (x ∷ xs) f = (at ((x.thread == n) && (x.var == y)), foreign_put k n y v xs f.1)
  where
    at : (b : Bool) → ((cond b (record x { value = Some v }) x).thread == k) ≡ false
    at true = f.0
    at false = f.0

-- no entry becomes thread k's as values are written
pub foreign_put_all : (k m n : ℕ) (ws : List Machine.Written) (xs : List Pending) → Foreign k xs → Foreign k (with_writes_of m n ws xs)
foreign_put_all k m n [] xs f = f
foreign_put_all k m n (w ∷ ws) xs f = foreign_put_all k m n ws (if w.mem == m then with_value_of n w.var w.value xs else xs) (at (w.mem == m))
  where
    at : (b : Bool) → Foreign k (cond b (with_value_of n w.var w.value xs) xs)
    at true = foreign_put k n w.var w.value xs f
    at false = f

-- with one more thread behind, the commits are followed by its own, if it moves
pub commits_more : (xs : List Derived.Act) (b : Derived.Act)
    → commits_of (xs ++ b ∷ []) ≡ commits_of xs ++ (if b.moves then b.work.commits else [])
commits_more [] b = at b.moves
  where
    at : (c : Bool) → cond c (b.work.commits ++ []) [] ≡ cond c b.work.commits []
    at true = append-nil b.work.commits
    at false = refl
commits_more (x ∷ xs) b = at x.moves (commits_more xs b)
  where
    at : (c : Bool) → commits_of (xs ++ b ∷ []) ≡ commits_of xs ++ (if b.moves then b.work.commits else [])
        → cond c (x.work.commits ++ commits_of (xs ++ b ∷ [])) (commits_of (xs ++ b ∷ []))
        ≡ cond c (x.work.commits ++ commits_of xs) (commits_of xs) ++ (if b.moves then b.work.commits else [])
    at true h = ap (λ l. x.work.commits ++ l) h ∙ sym (append_assoc x.work.commits (commits_of xs) _)
    at false h = h

-- step 3 of a list: how many are taken out, the list before and after it, and the commits
pub record Out (m k : ℕ) (two three : List Pending) (commits : List Commit) : Type 0 where
  pub left : drop k two ≡ three
  pub enough : k ≤ length two
  pub shows : commits ≡ released m (take k two)

-- what nobody takes anything out of
abbrev pub Still : ℕ → List Pending → List Pending → List Commit → Type 0
Still k two three commits = (k ≡ 0) × (two ≡ []) × (three ≡ []) × (commits ≡ [])

-- some of the first of two lists
drop_first : {X : Type 0} → (k : ℕ) (xs ys : List X) → k ≤ length xs → (drop k (xs ++ ys) ≡ drop k xs ++ ys) × (take k (xs ++ ys) ≡ take k xs)
drop_first zero xs ys h = (refl, refl)
drop_first (suc k) [] ys h = absurd (omega arith)
drop_first (suc k) (x ∷ xs) ys h = let r = drop_first k xs ys (omega arith) in (r.0, ap (λ l. x ∷ l) r.1)

-- one more thread behind

-- with one more thread behind the others, what is taken out of a lock is what is committed, and the rest is left
pub out_more : (m k rel : ℕ) (two three mine mine' : List Pending) (cs c : List Commit)
    → Out m k two three cs → mine' ≡ drop rel mine
    → rel ≤ length mine → c ≡ released m (take rel mine)
    → (rel ≡ 0) ⊎ Still k two three cs → Out m (k + rel) (two ++ mine) (three ++ mine') (cs ++ c)
out_more m k rel two three mine mine' cs c out e f g (inl h) =
    let z : k + rel ≡ k = omega arith in
    let d = drop_first k two mine out.enough in
    record {
      left = ap (λ j. drop j (two ++ mine)) z ∙ d.0 ∙ ap₂ (λ a b. a ++ b) out.left (sym (e ∙ ap (λ j. drop j mine) h));
      enough = let l = length-append two mine in let o = out.enough in omega arith;
      shows =
          ap₂ (λ a b. a ++ b) out.shows (g ∙ ap (λ j. released m (take j mine)) h) ∙ append-nil _
          ∙ sym (ap (λ j. released m (take j (two ++ mine))) z ∙ ap (released m) d.1);
    }
out_more m k rel two three mine mine' cs c out e f g (inr s) =
    let z : k + rel ≡ rel = let i = s.0 in omega arith in
    record {
      left = ap₂ (λ j l. drop j (l ++ mine)) z s.1 ∙ sym e ∙ ap (λ l. l ++ mine') (sym s.2);
      enough = let l = length-append two mine in omega arith;
      shows = ap₂ (λ a b. a ++ b) s.3 g ∙ sym (ap₂ (λ j l. released m (take j (l ++ mine))) z s.1);
    }
