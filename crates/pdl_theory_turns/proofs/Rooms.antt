-- A thread's stage reserves no more of a memory for writing than its lock has room for.
use Rattle.std.proofs.Common.{◌≡◌, refl, sym, ap, ap₂, ◌∙◌, subst, ℕ, suc, ◌+◌, ◌≤◌, Bool, true, false, List, [], ◌∷◌, ◌++◌, ◌==◌, cond, Some, arith, append-nil}
use Rattle.std.proofs.lemmas.Bool.{and_from}
use Rattle.pdl_semantics.specs.Flat.{list_all, Op, DelayedRead, ReserveWrite, Verify, Stmt, Pipe, all_hold}
use Rattle.pdl_semantics.specs.Stages.{onpath, in_stage, mem_at, is_write_reserve}
use Rattle.pdl_semantics.specs.Locks.{has_room}
use Rattle.pdl_semantics.specs.Machine.{Reserved, reserves_of, same_args}
use Rattle.pdl_theory_turns.specs.Derived.{Work, Around, Thread, work_after, do_all, work_of_stage, have_room, said}
use Rattle.pdl_theory_turns.specs.Alone.{answered_op}
use Rattle.pdl_semantics.proofs.Readiness.{room_fewer}
use Rattle.pdl_theory_turns.proofs.Stages.{step}
use Rattle.pdl_theory_turns.specs.Scans.{is_fixed, write_reserves}
use Rattle.pdl_theory_turns.specs.Facts.{Sound, looked_all}
use Rattle.pdl_theory_turns.proofs.Paths.{Fixed}
use Rattle.pdl_theory_turns.proofs.OwnEntries.{fixed_to}
use Rattle.pdl_theory_turns.proofs.OfStage.{fixed_stage}
use Rattle.pdl_theory_turns.proofs.Looks.{path_looked}
use Rattle.pdl_theory_turns.proofs.StrayPaths.{fixed_looked}

one_more : (m : ℕ) (rs : List Reserved) (r : Reserved) → reserves_of m (rs ++ r ∷ []) ≡ reserves_of m rs + cond (r.mem == m) 1 0
one_more m [] r = none (r.mem == m)
  where
    none : (b : Bool) → cond {A = ℕ} b 1 0 ≡ 0 + cond b 1 0
    none true = refl
    none false = refl
one_more m (x ∷ rs) r = at (x.mem == m) (one_more m rs r)
  where
    at : (b : Bool)
        → reserves_of m (rs ++ r ∷ []) ≡ reserves_of m rs + cond (r.mem == m) 1 0
        → cond b (suc (reserves_of m (rs ++ r ∷ []))) (reserves_of m (rs ++ r ∷ []))
        ≡ cond b (suc (reserves_of m rs)) (reserves_of m rs) + cond (r.mem == m) 1 0
    at true h = omega arith
    at false h = h

plus_none : (n : ℕ) → n ≡ n + 0
plus_none n = omega arith

counted_op : (m : ℕ) (o : Around) (op : Op) (w : Work)
    → reserves_of m (work_after o op w).reserves ≡ reserves_of m w.reserves + cond (is_write_reserve m op) 1 0
counted_op m o (ReserveWrite n a) w = one_more m w.reserves _
counted_op m o (Verify last args) w = at (same_args (said o last args w.env) w.guess)
  where
    at : (b : Bool)
        → reserves_of m (cond b w (record w { child = Some (said o last args w.env); guess = said o last args w.env; fails = true })).reserves
        ≡ reserves_of m w.reserves + 0
    at true = plus_none (reserves_of m w.reserves)
    at false = plus_none (reserves_of m w.reserves)
counted_op m o _ w = plus_none (reserves_of m w.reserves)

-- what a stage reserves is what its statements on the path say
counted : (path : List ℕ) (m : ℕ) (o : Around) (xs : List Stmt) (w : Work) → Fixed path o xs w
    → reserves_of m (do_all o xs w).reserves ≡ reserves_of m w.reserves + write_reserves m (onpath path xs)
counted path m o [] w f = plus_none (reserves_of m w.reserves)
counted path m o (x ∷ xs) w f = counted path m o xs (step o x w) f.1 ∙ at (all_hold x.guards w.env) (all_hold x.guards path) f.0
  where
    at : (b c : Bool) → b ≡ c → reserves_of m (cond b (work_after o x.op w) w).reserves + write_reserves m (onpath path xs)
        ≡ reserves_of m w.reserves + write_reserves m (cond c (record x { guards = [] } ∷ onpath path xs) (onpath path xs))
    at true true e = ap (λ n. n + write_reserves m (onpath path xs)) (counted_op m o x.op w) ∙ by (is_write_reserve m x.op)
      where
        by : (d : Bool)
            → (reserves_of m w.reserves + cond d 1 0) + write_reserves m (onpath path xs)
            ≡ reserves_of m w.reserves + cond d (suc (write_reserves m (onpath path xs))) (write_reserves m (onpath path xs))
        by true = omega arith
        by false = omega arith
    at true false e = absurd (cc e)
    at false true e = absurd (cc e)
    at false false e = refl

stage_fewer : (path : List ℕ) (m s : ℕ) (xs : List Stmt) → write_reserves m (onpath path (in_stage s xs)) ≤ write_reserves m (onpath path xs)
stage_fewer path m s [] = omega arith
stage_fewer path m s (x ∷ xs) = at (x.stage == s) (all_hold x.guards path) refl (is_write_reserve m x.op) refl (stage_fewer path m s xs)
  where
    at : (b c : Bool)
        → all_hold x.guards path ≡ c → (d : Bool) → is_write_reserve m x.op ≡ d
        → write_reserves m (onpath path (in_stage s xs)) ≤ write_reserves m (onpath path xs)
        → write_reserves m (onpath path (cond b (x ∷ in_stage s xs) (in_stage s xs))) ≤ write_reserves m
        (cond c (record x { guards = [] } ∷ onpath path xs) (onpath path xs))
    at true true e d f h =
        subst
        (λ c. write_reserves m (cond c (record x { guards = [] } ∷ onpath path (in_stage s xs)) (onpath path (in_stage s xs))) ≤ cond (is_write_reserve m x.op)
        (suc (write_reserves m (onpath path xs))) (write_reserves m (onpath path xs))) (sym e)
        (by (is_write_reserve m x.op))
      where
        by : (d : Bool)
            → cond d (suc (write_reserves m (onpath path (in_stage s xs)))) (write_reserves m (onpath path (in_stage s xs))) ≤ cond d
            (suc (write_reserves m (onpath path xs))) (write_reserves m (onpath path xs))
        by true = omega arith
        by false = h
    at true false e d f h =
        subst
        (λ c. write_reserves m (cond c (record x { guards = [] } ∷ onpath path (in_stage s xs)) (onpath path (in_stage s xs))) ≤ write_reserves m
        (onpath path xs)) (sym e) h
    at false true e d f h = by (is_write_reserve m x.op)
      where
        by : (d : Bool) → write_reserves m (onpath path (in_stage s xs)) ≤ cond d (suc (write_reserves m (onpath path xs))) (write_reserves m (onpath path xs))
        by true = omega arith
        by false = h
    at false false e d f h = h

reserve_looked : (m : ℕ) (op : Op) → is_write_reserve m (answered_op op) ≡ is_write_reserve m op
reserve_looked m (DelayedRead x n a) = refl
reserve_looked m _ = refl

all_looked : (m : ℕ) (xs : List Stmt) → write_reserves m (looked_all xs) ≡ write_reserves m xs
all_looked m [] = refl
all_looked m (x ∷ xs) = ap₂ (λ b n. cond b (suc n) n) (reserve_looked m x.op) (all_looked m xs)

module _ (p : Pipe) (acc : Sound p) where
  -- each stage's reservations have room in an empty lock
  pub rooms : (o : Around) (t : Thread) (m : ℕ) → has_room (mem_at p m).lock (reserves_of m (work_of_stage p o t).reserves) 0 ≡ true
  rooms o t m =
      room_fewer (mem_at p m).lock (write_reserves m (onpath path (looked_all p.stmts))) _ 0 fewer ((acc.pathwise.paths path).locks m)
    where
      path : List ℕ
      path = (work_of_stage p o t).env

      fixed : is_fixed (in_stage t.stage p.stmts ++ []) ≡ true
      fixed = ap is_fixed (append-nil (in_stage t.stage p.stmts)) ∙ fixed_stage t.stage p.stmts (sym (fixed_looked p.stmts) ∙ acc.pathwise.fixed_guards)

      fewer : reserves_of m (work_of_stage p o t).reserves ≤ write_reserves m (onpath path (looked_all p.stmts))
      fewer =
          let e = counted path m o (in_stage t.stage p.stmts) _ (fixed_to path o (in_stage t.stage p.stmts) [] _ fixed (λ g h. refl)) in
          let f = ap (write_reserves m) (path_looked path p.stmts) ∙ all_looked m (onpath path p.stmts) in
          let s = stage_fewer path m t.stage p.stmts in
          omega arith

-- room for all that a work reserves, where there is room for each memory's
all_rooms : (p : Pipe) (w : Work) (rs : List Reserved) → ((m : ℕ) → has_room (mem_at p m).lock (reserves_of m w.reserves) 0 ≡ true)
    → list_all (λ r. has_room (mem_at p r.mem).lock (reserves_of r.mem w.reserves) 0) rs ≡ true
all_rooms p w [] h = refl
all_rooms p w (r ∷ rs) h = and_from _ _ (h r.mem) (all_rooms p w rs h)

-- a thread that is alone has room for what its stage reserves, where each memory has
pub room_alone : (p : Pipe) (w : Work) → ((m : ℕ) → has_room (mem_at p m).lock (reserves_of m w.reserves) 0 ≡ true) → have_room p [] w ≡ true
room_alone p w h = all_rooms p w w.reserves h
