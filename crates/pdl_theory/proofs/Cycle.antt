-- What a cycle does to the commits, and to the locations that stay right.
use Rattle.std.proofs.Common.{◌≡◌, sym, ap, ap₂, ◌∙◌, ℕ, ◌≤◌, Bool, true, false, ◌&&◌, List, [], ◌∷◌, ◌++◌, cond, arith, slice_index, append-nil, append_assoc, is_none}
use Rattle.pdl_semantics.specs.Flat.{Pipe, Commit, of_mem}
use Rattle.pdl_semantics.specs.Stages.{list_any, commit_stage, reserve_stage}
use Rattle.pdl_theory_turns.specs.Derived.{Act, commits_of, exit_of}
use Rattle.pdl_theory_turns.specs.Alone.{Location}
use Rattle.pdl_theory_turns.proofs.Writes.{of_mem_append}
use Rattle.pdl_theory_turns.proofs.Surroundings.{Right}
use Rattle.pdl_theory_turns.proofs.Lives.{Writes, Marks, Clean}

-- blocked locations that are right in a stage are right in later ones, where what is clean stays clean
pub right_weaken : (p : Pipe) (s s' : ℕ) (v v' : Marks) (ls : List Location) (env : List ℕ) → s ≤ s'
    → ((m a : ℕ) → Clean p v m a → Clean p v' m a) → Right p s (Clean p v) ls env → Right p s' (Clean p v') ls env
right_weaken p s s' v v' [] env h f r = tt
right_weaken p s s' v v' (l ∷ ls) env h f r =
    (up r.0, (λ c. f l.mem (slice_index env l.var) (r.1 (down c))), right_weaken p s s' v v' ls env h f r.2)
  where
    up : reserve_stage p l.mem ≤ s → reserve_stage p l.mem ≤ s'
    up k = omega arith

    down : s' ≤ commit_stage p l.mem → s ≤ commit_stage p l.mem
    down k = omega arith

-- nothing is committed to m where neither a thread nor those behind it commit anything to m
pub moved_quiet : (m : ℕ) (b : Bool) (xs ys : List Commit) → of_mem m xs ≡ [] → of_mem m ys ≡ [] → of_mem m (cond b (xs ++ ys) ys) ≡ []
moved_quiet m true xs ys h k = of_mem_append m xs ys ∙ ap₂ (λ a b. a ++ b) h k
moved_quiet m false xs ys h k = k

-- whether one of these threads ends in the cycle
abbrev pub ends_one : Pipe → List Act → Bool
ends_one p these = list_any (λ a. a.moves && is_none (exit_of p a)) these

-- a cycle that commits the first of the uncommitted writes leaves commits and a rest that make up all writes
pub words_step : (w past past' u d u' x : List Commit) → w ≡ past ++ u → u ≡ d ++ u' → past' ≡ past ++ (d ++ x) → x ≡ [] → w ≡ past' ++ u'
words_step w past past' u d u' x e f g h =
    e ∙ ap (λ l. past ++ l) f ∙ sym (append_assoc past d u') ∙ ap (λ l. l ++ u') (sym (g ∙ ap (λ l. past ++ (d ++ l)) h ∙ ap (λ l. past ++ l) (append-nil d)))

-- the commits after this cycle
abbrev pub Now : Writes → Writes → Writes → List Act → Type 0
Now past past' d these = (m : ℕ) → past' m ≡ past m ++ (d m ++ of_mem m (commits_of these))

-- the commits split where the first thread's commits are told apart
pub now_moved : (past past' d : Writes) (a : Act) (rest : List Act)
    → a.moves ≡ true → Now past past' d (a ∷ rest) → Now past past' (λ m. d m ++ of_mem m a.work.commits) rest
now_moved past past' d a rest h now m =
    now m ∙ ap (λ k. past m ++ (d m ++ of_mem m (cond k (a.work.commits ++ commits_of rest) (commits_of rest)))) h
    ∙ ap (λ l. past m ++ (d m ++ l)) (of_mem_append m a.work.commits (commits_of rest))
    ∙ ap (λ l. past m ++ l) (sym (append_assoc (d m) (of_mem m a.work.commits) (of_mem m (commits_of rest))))

-- where the first thread stands, the commits of a cycle are those of the threads behind it
pub now_stays : (past past' d : Writes) (a : Act) (rest : List Act)
    → a.moves ≡ false → Now past past' d (a ∷ rest) → Now past past' (λ m. d m ++ []) rest
now_stays past past' d a rest h now m =
    now m ∙ ap (λ k. past m ++ (d m ++ of_mem m (cond k (a.work.commits ++ commits_of rest) (commits_of rest)))) h
    ∙ ap (λ l. past m ++ (l ++ of_mem m (commits_of rest))) (sym (append-nil (d m)))
