-- On a path that uses the lock of a memory as the rules say, a thread writes that memory at most as often as it reserves it.
use Rattle.std.proofs.Common.{◌≡◌, refl, sym, ap, ◌∙◌, subst, ℕ, ◌+◌, ◌≤◌, Bool, true, false, ◌||◌, not, cond, if◌then◌else◌, ◌==◌, List, [], ◌∷◌, ◌++◌, length, length-append, suc, arith}
use Rattle.pdl_semantics.specs.Flat.{Op, Bind, CombRead, DelayedRead, Write, ReserveRead, ReserveWrite, Block, Release, Call, SpecCall, Verify, SpecCheck, SpecBarrier, AdviceBind, AdviceRead, AdviceWrite, Stmt, Commit, of_mem, all_hold}
use Rattle.pdl_semantics.specs.Sequential.{Run, run_after, run_all}
use Rattle.pdl_semantics.specs.Stages.{is_write_reserve}
use Rattle.pdl_theory_turns.specs.Alone.{is_among, drop_var}
use Rattle.pdl_theory_turns.proofs.Writes.{and_left, and_right, of_mem_append}
use Rattle.pdl_theory_turns.specs.Scans.{Phase, after_write, after_reserve, after_release, next_phase, may_write, phase_ok, phases_ok, write_reserves}
use Rattle.pdl_theory_turns.proofs.Apart.{oldest_length}
use Rattle.pdl_theory_turns.proofs.Surroundings.{taken_none}

-- how many writes of the memory there were
abbrev pub count : ℕ → Run → ℕ
count m r = length (of_mem m r.writes)

-- the writes with one more
one_more : (m : ℕ) (ws : List Commit) (c : Commit) (b : Bool)
    → (c.mem == m) ≡ b → length (of_mem m (ws ++ c ∷ [])) ≡ length (of_mem m ws) + (if b then 1 else 0)
one_more m ws c b e =
    ap length (of_mem_append m ws (c ∷ []))
    ∙ length-append (of_mem m ws) (of_mem m (c ∷ []))
    ∙ ap (λ t. length (of_mem m ws) + length (cond t (c ∷ []) [])) e
    ∙ at b
  where
    at : (t : Bool) → length (of_mem m ws) + length (cond t (c ∷ []) []) ≡ length (of_mem m ws) + (if t then 1 else 0)
    at true = refl
    at false = refl

-- how many reservations of the memory are not written yet
abbrev pub left : Phase → ℕ
left ph = length ph.unwritten

-- a write takes one of those that wait
write_step : (m a k k' : ℕ) (ph : Phase) (b : Bool)
    → (not b || may_write ph a) ≡ true → k' ≡ k + (if b then 1 else 0)
    → k' + left (if b then after_write ph a else ph) ≤ (k + left ph) + 0
write_step m a k k' ph true h e = let one = oldest_length a ph.unwritten h in omega (arith, e, one)
write_step m a k k' ph false h e = omega arith

-- a reservation brings one
reserve_step : (a k : ℕ) (ph : Phase) (b : Bool) → k + left (if b then after_reserve ph a else ph) ≤ (k + left ph) + (if b then 1 else 0)
reserve_step a k ph true = omega arith
reserve_step a k ph false = omega arith

-- a release takes none
release_step : (a k : ℕ) (ph : Phase) (b : Bool) → k + left (if b then after_release ph a else ph) ≤ (k + left ph) + 0
release_step a k ph true = by (is_among a ph.full)
  where
    by : (c : Bool) → k + left (if c then record { unwritten = ph.unwritten; full = drop_var a ph.full; gone = a ∷ ph.gone } else ph) ≤ (k + left ph) + 0
    by true = omega arith
    by false = omega arith
release_step a k ph false = omega arith

-- how many reservations of the memory an operation makes
abbrev pub made : ℕ → Op → ℕ
made m op = if is_write_reserve m op then 1 else 0

-- one statement
step : (m : ℕ) (ph : Phase) (op : Op) (r : Run)
    → phase_ok m ph op ≡ true → count m (run_after op r) + left (next_phase m ph op) ≤ (count m r + left ph) + made m op
step m ph (Bind x e) r h = omega arith
step m ph (CombRead x n a) r h = omega arith
step m ph (DelayedRead x n a) r h = omega arith
step m ph (Write n a e) r h =
    write_step m a (count m r) (count m (run_after (Write n a e) r)) ph (n == m) h (one_more m r.writes _ (n == m) refl)
step m ph (ReserveRead n a) r h = omega arith
step m ph (ReserveWrite n a) r h = reserve_step a (count m r) ph (n == m)
step m ph (Block n a) r h = omega arith
step m ph (Release n a) r h = release_step a (count m r) ph (n == m)
step m ph (Call args) r h = omega arith
step m ph (SpecCall args) r h = omega arith
step m ph (Verify true args) r h = omega arith
step m ph (Verify false args) r h = omega arith
step m ph SpecCheck r h = omega arith
step m ph SpecBarrier r h = omega arith
step m ph (AdviceBind x e) r h = omega arith
step m ph (AdviceRead x n a) r h = omega arith
step m ph (AdviceWrite n a e) r h = omega arith

-- statements in order write a memory at most as often as reservations wait before them and they reserve it
pub at_most : (m : ℕ) (xs : List Stmt) (ph : Phase) (r : Run)
    → phases_ok m ph xs ≡ true → count m (run_all xs r) ≤ (count m r + left ph) + write_reserves m xs
at_most m [] ph r h = omega arith
at_most m (x ∷ xs) ph r h =
    let here = and_left _ _ h in
    let taken_here : all_hold x.guards r.env ≡ true = taken_none x.guards r.env (and_left _ _ here) in
    let one : count m (run_after x.op r) + left (next_phase m ph x.op) ≤ (count m r + left ph) + made m x.op = step m ph x.op r (and_right _ _ here) in
    let rest : count m (run_all xs (run_after x.op r)) ≤ (count m (run_after x.op r) + left (next_phase m ph x.op)) + write_reserves m xs =
    at_most m xs (next_phase m ph x.op) (run_after x.op r) (and_right _ _ h) in
    let all : made m x.op + write_reserves m xs ≡ write_reserves m (x ∷ xs) = sum (is_write_reserve m x.op) in
    let both : count m (run_all xs (run_after x.op r)) ≤ (count m r + left ph) + write_reserves m (x ∷ xs) = omega (arith, one, rest, all) in
    subst (λ b. count m (run_all xs (cond b (run_after x.op r) r)) ≤ (count m r + left ph) + write_reserves m (x ∷ xs)) (sym taken_here) both
  where
    sum : (b : Bool) → (if b then 1 else 0) + write_reserves m xs ≡ (if b then suc (write_reserves m xs) else write_reserves m xs)
    sum true = omega arith
    sum false = omega arith
