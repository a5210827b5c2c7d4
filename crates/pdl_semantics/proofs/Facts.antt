-- Facts on the definitions that several layers cite.
use Rattle.std.proofs.Common.{◌≡◌, refl, sym, ap, ◌∙◌, ℕ, suc, ◌≤◌, Bool, true, false, ◌&&◌, List, [], ◌∷◌, ◌++◌, length, if◌then◌else◌, nat_lt, ◌==◌, Some, arith, le-ltb, zero, cond, ap₂, Option, None, append_assoc}
use Rattle.std.proofs.Math.Bool.{and_assoc, and-true}
use Rattle.std.specs.Option.{is_some}
use Rattle.pdl_semantics.specs.Flat.{Stmt, all_hold, list_all, has_lock, Pipe, Arrays, Commit, of_mem, Branch}
use Rattle.pdl_semantics.specs.Machine.{Pending, Written, HeldLocation, held_after, held_before, State, Kept, with_kept}
use Rattle.pdl_semantics.specs.Cycle.{with_value_of, with_writes_of, entries_left, cycle, state_after}
use Rattle.pdl_semantics.specs.Tree as tree
use Rattle.pdl_semantics.specs.Tree.{BinaryOp, Equal, Differ, Less, LockDecl, LockKind, Queue, Bypass, Rename}
use Rattle.pdl_semantics.specs.Flatten.{op_width, flat_lock, Var, past_all, at_start}
use Rattle.pdl_semantics.specs.PendingLists.{count_older}
use Rattle.pdl_semantics.specs.Sequential.{thread, turn_at}
use Rattle.std.specs.Prelude.{slice_set}
use Rattle.std.proofs.lemmas.List.{length-set}
use Rattle.pdl_semantics.specs.Stages.{merges_fork, sides_of}
use Rattle.std.proofs.lemmas.Bool.{eqb-true, false≢true}
use Rattle.pdl_word.specs.Words.{widest}

-- all elements of a list and one more at its end pass a test if those of the list do, and this one
pub all_push : {X : Type 0} (test : X → Bool) (xs : List X) (x : X) → list_all test (xs ++ x ∷ []) ≡ (list_all test xs && test x)
all_push test [] x = and-true (test x)
all_push test (y ∷ xs) x = ap (λ b. test y && b) (all_push test xs x) ∙ sym (and_assoc (test y) (list_all test xs) (test x))

-- what is held before the first stage
pub held_first : (path : List ℕ) (xs : List Stmt) (ls : List HeldLocation) → held_before 0 path xs ls ≡ ls
held_first path [] ls = refl
held_first path (x ∷ xs) ls =
    ap (λ b. held_before 0 path xs (if b && all_hold x.guards path then held_after x.op ls else ls)) (low x.stage) ∙ held_first path xs ls
  where
    low : (n : ℕ) → nat_lt n 0 ≡ false
    low n = le-ltb n 0 (omega arith)

-- a value put into a thread's entries in two lists, one after the other, is put into those of each
pub put_append : (n y v : ℕ) (xs ys : List Pending) → with_value_of n y v (xs ++ ys) ≡ with_value_of n y v xs ++ with_value_of n y v ys
put_append n y v [] ys = refl
put_append n y v (x ∷ xs) ys = ap (λ l. (if (x.thread == n) && (x.var == y) then record x { value = Some v } else x) ∷ l) (put_append n y v xs ys)

-- writes keep how many entries there are
pub put_length : (n y v : ℕ) (xs : List Pending) → length (with_value_of n y v xs) ≡ length xs
put_length n y v [] = refl
put_length n y v (x ∷ xs) = ap suc (put_length n y v xs)

-- the writes of a thread keep how many entries a lock's list has
pub put_all_length : (m n : ℕ) (ws : List Written) (xs : List Pending) → length (with_writes_of m n ws xs) ≡ length xs
put_all_length m n [] xs = refl
put_all_length m n (w ∷ ws) xs = put_all_length m n ws (if w.mem == m then with_value_of n w.var w.value xs else xs) ∙ at (w.mem == m)
  where
    at : (b : Bool) → length (if b then with_value_of n w.var w.value xs else xs) ≡ length xs
    at true = put_length n w.var w.value xs
    at false = refl

-- no operator makes a word wider than the widest
pub op_narrow : (op : BinaryOp) (w : ℕ) → w ≤ widest → op_width op w ≤ widest
op_narrow Equal w h = omega arith
op_narrow Differ w h = omega arith
op_narrow Less w h = omega arith
op_narrow _ w h = h

-- writes keep how many entries are older
pub put_older : (t n y v : ℕ) (xs : List Pending) → count_older t (with_value_of n y v xs) ≡ count_older t xs
put_older t n y v [] = refl
put_older t n y v (x ∷ xs) = ap₂ (λ b k. cond b (suc k) k) (at ((x.thread == n) && (x.var == y))) (put_older t n y v xs)
  where
    at : (b : Bool) → nat_lt (cond b (record x { value = Some v }) x).thread t ≡ nat_lt x.thread t
    at true = refl
    at false = refl

-- there is a lock where one is declared
pub lock_declared : (l : Option LockDecl) → has_lock (flat_lock l) ≡ is_some l
lock_declared None = refl
lock_declared (Some l) = of_kind l.kind refl
  where
    of_kind : (k : LockKind) → l.kind ≡ k → has_lock (flat_lock (Some l)) ≡ true
    of_kind Queue e = rw e refl
    of_kind Bypass e = rw e refl
    of_kind Rename e = rw e refl

-- the turns from the second on
pub turn_front : (p : Pipe) (k : ℕ) (arrays : Arrays) (args : List ℕ)
    → ((turn_at p arrays args (suc k)).arrays ≡ (turn_at p (thread p arrays args).arrays (thread p arrays args).next k).arrays)
    × ((turn_at p arrays args (suc k)).next ≡ (turn_at p (thread p arrays args).arrays (thread p arrays args).next k).next)
turn_front p zero arrays args = (refl, refl)
turn_front p (suc k) arrays args =
    let h = turn_front p k arrays args in
    (ap₂ (λ a g. (thread p a g).arrays) h.0 h.1, ap₂ (λ a g. (thread p a g).next) h.0 h.1)

-- the variables of the whole text
abbrev pub all_vars : tree.Pipe → List Var
all_vars p = (past_all p.mems p.body (at_start p)).vars

-- where nothing squashes, a lock's list stays as it is
pub none_leaves : (es : List Pending) → entries_left None es ≡ es
none_leaves [] = refl
none_leaves (e ∷ es) = ap (λ (xs : List Pending). e ∷ xs) (none_leaves es)

-- the state after one cycle more is that of the cycle from the state before it
pub after_more : (q : Pipe) (st : State) (before : List (List Bool)) (bits : List Bool)
    → state_after q st (before ++ bits ∷ []) ≡ cycle q (state_after q st before) bits
after_more q st [] bits = refl
after_more q st (b ∷ before) bits = after_more q (cycle q st b) before bits

-- values kept one list after another are those of both lists
pub kept_append : (xs ys : List Kept) (env : List ℕ) → with_kept (xs ++ ys) env ≡ with_kept ys (with_kept xs env)
kept_append [] ys env = refl
kept_append (x ∷ xs) ys env = kept_append xs ys (slice_set env x.var x.word)

-- values that are kept leave the number of variables
pub kept_long : (xs : List Kept) (env : List ℕ) → length (with_kept xs env) ≡ length env
kept_long [] env = refl
kept_long (x ∷ xs) env = kept_long xs (slice_set env x.var x.word) ∙ length-set env x.var x.word

-- a stage merges a fork only where it has one
pub merges_some : (o : Option ℕ) (f : ℕ) → merges_fork o f ≡ true → o ≡ Some f
merges_some None f h = absurd (false≢true h)
merges_some (Some g) f h = ap Some (eqb-true g f h)

-- the writes to m in two lists are those of the one and then those of the other
pub of_mem_append : (m : ℕ) (xs ys : List Commit) → of_mem m (xs ++ ys) ≡ of_mem m xs ++ of_mem m ys
of_mem_append m [] ys = refl
of_mem_append m (x ∷ xs) ys = at (x.mem == m) (of_mem_append m xs ys)
  where
    at : (b : Bool)
        → of_mem m (xs ++ ys) ≡ of_mem m xs ++ of_mem m ys
        → cond b (x ∷ of_mem m (xs ++ ys)) (of_mem m (xs ++ ys)) ≡ cond b (x ∷ of_mem m xs) (of_mem m xs) ++ of_mem m ys
    at true e = ap (λ l. x ∷ l) e
    at false e = e

-- of two lists of branches those of a fork are those of the one and then those of the other
pub sides_append : (f : ℕ) (xs ys : List Branch) → sides_of f (xs ++ ys) ≡ sides_of f xs ++ sides_of f ys
sides_append f [] ys = refl
sides_append f (x ∷ xs) ys =
    ap (λ l. (if x.fork == f then x.first ∷ [] else []) ++ l) (sides_append f xs ys)
    ∙ sym (append_assoc (if x.fork == f then x.first ∷ [] else []) (sides_of f xs) (sides_of f ys))
