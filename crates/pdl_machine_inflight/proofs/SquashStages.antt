-- The stages in which a thread may squash: V and, before it, U. A thread fails in no other stage, and both stand in the trunk.
use Rattle.std.proofs.Common.{◌≡◌, refl, sym, ap, ◌∙◌, subst, ℕ, ◌≤◌, ◌<◌, ◌⊎◌, inl, inr, Bool, true, false, ◌&&◌, ◌||◌, not, List, [], ◌∷◌, ◌++◌, length, Option, Some, None, arith, ◌==◌, nat_lt}
use Rattle.std.specs.Prelude.{if◌then◌else◌}
use Rattle.std.proofs.lemmas.Bool.{eqb-true, false≢true, and_parts, or_left, or_right, ltb-true}
use Rattle.pdl_word.proofs.Bools.{by_or}
use Rattle.pdl_semantics.specs.Flat.{Op, Verify, Stmt, Branch, Pipe, list_all, all_hold}
use Rattle.pdl_semantics.specs.Stages.{list_any, onpath, in_stage, stage_at, is_verify, is_check, verify_stage}
use Rattle.pdl_semantics.specs.Updates.{is_update, first_update, earlier, listed, squash_stages}
use Rattle.pdl_semantics.specs.Machine.{State, Thread, deeds}
use Rattle.pdl_theory_turns.specs.Alone.{answered_op}
use Rattle.pdl_theory_turns.specs.Scans.{none_of, all_at}
use Rattle.pdl_theory_turns.specs.GuessScans.{Making, Unmade, next_making, making_ok, makings_ok, is_guessed, stands_at, stands_before}
use Rattle.pdl_theory_turns.specs.Graphs.{Trunk}
use Rattle.pdl_theory_turns.specs.Facts.{Sound, looked_all, trunk_only}
use Rattle.pdl_theory_simulation.proofs.theory_turns.StrayPaths.{verify_looked}
use Rattle.pdl_machine_inflight.specs.InFlight.{Some-of, UpdatesTogether}
use Rattle.pdl_machine_inflight.proofs.DeedsIn.{has_check, fails_checked}

-- V AND U

-- a stage is one in which a thread may squash
abbrev pub MaySquash : Pipe → ℕ → Type 0
MaySquash p z = Some-of (λ (y : ℕ). y ≡ z) (squash_stages p.stmts)

one_listed : (z s : ℕ) → Some-of (λ (y : ℕ). y ≡ z) (s ∷ []) → s ≡ z
one_listed z s (inl e) = e
one_listed z s (inr i) = absurd i

by_verify : (o u : Option ℕ) (z : ℕ) → Some-of (λ (y : ℕ). y ≡ z) (listed o ++ listed (earlier o u)) → (v : ℕ) × (o ≡ Some v) × (z ≤ v)
by_verify None u z i = absurd i
by_verify (Some v) None z i = (v, refl, (let e = one_listed z v i in omega (arith, e)))
by_verify (Some v) (Some u) z i = at (nat_lt u v) refl i
  where
    at : (b : Bool) → nat_lt u v ≡ b → Some-of (λ (y : ℕ). y ≡ z) (v ∷ listed (if b then Some u else None)) → (w : ℕ) × (Some v ≡ Some w) × (z ≤ w)
    at b f (inl e) = (v, refl, omega (arith, e))
    at true f (inr j) = (v, refl, (let e = one_listed z u j in let l = ltb-true u v f in omega (arith, e, l)))
    at false f (inr j) = absurd j

-- where a thread may squash there is a V, and the stage is not after it
pub squash_early : (p : Pipe) (z : ℕ) → MaySquash p z → (v : ℕ) × (verify_stage p.stmts ≡ Some v) × (z ≤ v)
squash_early p z i = by_verify (verify_stage p.stmts) (first_update p.stmts) z i

verify_low : (n v : ℕ) (xs : List Stmt) → list_all (λ (y : Stmt). nat_lt y.stage n) xs ≡ true → verify_stage xs ≡ Some v → v < n
verify_low n v [] h e = absurd (cc e)
verify_low n v (x ∷ xs) h e = at (is_verify x.op) e (verify_low n v xs (and_parts (nat_lt x.stage n) _ h).1)
  where
    at : (b : Bool) → (if b then Some x.stage else verify_stage xs) ≡ Some v → (verify_stage xs ≡ Some v → v < n) → v < n
    at true f rest = let same : x.stage ≡ v = cc f in subst (λ j. j < n) same (ltb-true x.stage n (and_parts (nat_lt x.stage n) _ h).0)
    at false f rest = rest f

-- V is one of the pipe's stages
pub v_low : (p : Pipe) → Sound p → (v : ℕ) → verify_stage p.stmts ≡ Some v → v < length p.stages
v_low p sound v is = verify_low (length p.stages) v p.stmts sound.inside is

-- where a thread may squash is one of the pipe's stages
pub squash_low : (p : Pipe) → Sound p → (z : ℕ) → MaySquash p z → z < length p.stages
squash_low p sound z i = let e = squash_early p z i in let l = v_low p sound e.0 e.1 in let h = e.2 in omega (arith, l, h)

-- WHERE A THREAD FAILS

-- stage k is V, or it is before V and has an update
abbrev Stands : Option ℕ → ℕ → List Stmt → Type 0
Stands v k xs = (stands_at v k ≡ true) ⊎ ((stands_before v k ≡ true) × (list_any (λ (x : Stmt). is_update x.op) (in_stage k xs) ≡ true))

-- on a path that makes the next thread in order each check stands in V or, where it is an update, before it
checked : (v : Option ℕ) (g : Making) (env : List ℕ) (k : ℕ) (xs : List Stmt) → makings_ok v g (onpath env (looked_all xs)) ≡ true
    → has_check env (in_stage k xs) ≡ true → Stands v k xs
checked v g env k [] h e = absurd (false≢true e)
checked v g env k (x ∷ xs) h e =
    at (all_hold x.guards env) refl (x.stage == k) refl e
    (more (all_hold x.guards env) h (λ g' m r. checked v g' env k xs m r)) (made (all_hold x.guards env) h)
  where
    Later : Bool → Type 0
    Later b = (stands_at v k ≡ true)
        ⊎ ((stands_before v k ≡ true) × (list_any (λ (y : Stmt). is_update y.op) (if b then x ∷ in_stage k xs else in_stage k xs) ≡ true))

    more : (t : Bool)
        → makings_ok v g (if t then record x { guards = []; op = answered_op x.op } ∷ onpath env (looked_all xs) else onpath env (looked_all xs)) ≡ true
        → ((g' : Making) → makings_ok v g' (onpath env (looked_all xs)) ≡ true → has_check env (in_stage k xs) ≡ true → Stands v k xs)
        → has_check env (in_stage k xs) ≡ true → Stands v k xs
    more true m go r = go (next_making g (answered_op x.op)) (and_parts (making_ok v g x.stage (answered_op x.op)) _ m).1 r
    more false m go r = go g m r

    made : (t : Bool)
        → makings_ok v g (if t then record x { guards = []; op = answered_op x.op } ∷ onpath env (looked_all xs) else onpath env (looked_all xs)) ≡ true
        → t ≡ true → making_ok v g x.stage (answered_op x.op) ≡ true
    made true m i = (and_parts (making_ok v g x.stage (answered_op x.op)) _ m).0
    made false m i = absurd (false≢true i)

    later : (b : Bool) → Stands v k xs → Later b
    later b (inl i) = inl i
    later true (inr i) = inr (i.0, or_right (is_update x.op) (list_any (λ (y : Stmt). is_update y.op) (in_stage k xs)) i.1)
    later false (inr i) = inr i

    here : (op : Op) → making_ok v g x.stage (answered_op op) ≡ true → is_check op ≡ true → x.stage ≡ k
        → (stands_at v k ≡ true) ⊎ ((stands_before v k ≡ true) × (is_update op ≡ true))
    here (Verify true args) m c s = inl (subst (λ j. stands_at v j ≡ true) s (and_parts (is_guessed g) (stands_at v x.stage) m).1)
    here (Verify false args) m c s = inr (subst (λ j. stands_before v j ≡ true) s (and_parts (is_guessed g) (stands_before v x.stage) m).1, refl)
    here _ m c s = absurd (false≢true c)

    mine : (stands_at v k ≡ true) ⊎ ((stands_before v k ≡ true) × (is_update x.op ≡ true)) → Later true
    mine (inl i) = inl i
    mine (inr i) = inr (i.0, or_left (is_update x.op) (list_any (λ (y : Stmt). is_update y.op) (in_stage k xs)) i.1)

    at : (t : Bool) → all_hold x.guards env ≡ t → (b : Bool) → (x.stage == k) ≡ b
        → list_any (λ (y : Stmt). is_check y.op && all_hold y.guards env) (if b then x ∷ in_stage k xs else in_stage k xs) ≡ true
        → (has_check env (in_stage k xs) ≡ true → Stands v k xs) → (t ≡ true → making_ok v g x.stage (answered_op x.op) ≡ true) → Later b
    at t f false s c go m = later false (go c)
    at t f true s c go m =
        by_or (is_check x.op && all_hold x.guards env) (has_check env (in_stage k xs)) (Later true) c
        (λ i. let two = and_parts (is_check x.op) (all_hold x.guards env) i in mine (here x.op (m (sym f ∙ two.1)) two.0 (eqb-true x.stage k s)))
        (λ i. later true (go i))

first_there : (k : ℕ) (xs : List Stmt) → list_any (λ (x : Stmt). is_update x.op) (in_stage k xs) ≡ true → (u : ℕ) × (first_update xs ≡ Some u)
first_there k [] e = absurd (false≢true e)
first_there k (x ∷ xs) e = at (is_update x.op) refl (x.stage == k) e (first_there k xs)
  where
    at : (c : Bool) → is_update x.op ≡ c → (b : Bool) → list_any (λ (y : Stmt). is_update y.op) (if b then x ∷ in_stage k xs else in_stage k xs) ≡ true
        → (list_any (λ (y : Stmt). is_update y.op) (in_stage k xs) ≡ true → (u : ℕ) × (first_update xs ≡ Some u))
        → (u : ℕ) × ((if c then Some x.stage else first_update xs) ≡ Some u)
    at true f b i rest = (x.stage, refl)
    at false f true i rest = rest (sym (ap (λ c. c || list_any (λ (y : Stmt). is_update y.op) (in_stage k xs)) f) ∙ i)
    at false f false i rest = rest i

same_there : (u k : ℕ) (xs : List Stmt) → all_at is_update u xs ≡ true → list_any (λ (x : Stmt). is_update x.op) (in_stage k xs) ≡ true → u ≡ k
same_there u k [] h e = absurd (false≢true e)
same_there u k (x ∷ xs) h e = at (x.stage == k) refl e (same_there u k xs parts.1)
  where
    parts : ((not (is_update x.op) || (x.stage == u)) ≡ true) × (all_at is_update u xs ≡ true)
    parts = and_parts (not (is_update x.op) || (x.stage == u)) (all_at is_update u xs) h

    at : (b : Bool) → (x.stage == k) ≡ b → list_any (λ (y : Stmt). is_update y.op) (if b then x ∷ in_stage k xs else in_stage k xs) ≡ true
        → (list_any (λ (y : Stmt). is_update y.op) (in_stage k xs) ≡ true → u ≡ k) → u ≡ k
    at false s i rest = rest i
    at true s i rest = by_or (is_update x.op) (list_any (λ (y : Stmt). is_update y.op) (in_stage k xs)) (u ≡ k) i
        (λ j. sym (eqb-true x.stage u (ap (λ b. not b || (x.stage == u)) (sym j) ∙ parts.0)) ∙ eqb-true x.stage k s)
        rest

at_verify : (o u : Option ℕ) (k : ℕ) → stands_at o k ≡ true → Some-of (λ (y : ℕ). y ≡ k) (listed o ++ listed (earlier o u))
at_verify None u k h = absurd (false≢true h)
at_verify (Some v) u k h = inl (sym (eqb-true k v h))

before_verify : (o u : Option ℕ) (k : ℕ) → stands_before o k ≡ true → u ≡ Some k → Some-of (λ (y : ℕ). y ≡ k) (listed o ++ listed (earlier o u))
before_verify None u k h e = absurd (false≢true h)
before_verify (Some v) u k h e =
    inr (subst (Some-of (λ (y : ℕ). y ≡ k)) (sym (ap (λ w. listed (earlier (Some v) w)) e ∙ ap (λ b. listed (if b then Some k else None)) h)) (inl refl))

-- a thread fails only in a stage where it may squash
pub fails_in : (p : Pipe) → Sound p → UpdatesTogether p → (st : State) (k : ℕ) (t : Thread) → (deeds p st k t).fails ≡ true → MaySquash p k
fails_in p sound together st k t f = at (checked (verify_stage (looked_all p.stmts)) Unmade r.0 k p.stmts (sound.pathwise.makings r.0) r.1)
  where
    r : (env : List ℕ) × (has_check env (in_stage k p.stmts) ≡ true)
    r = fails_checked p st k t f

    at : Stands (verify_stage (looked_all p.stmts)) k p.stmts → MaySquash p k
    at (inl i) = at_verify (verify_stage p.stmts) (first_update p.stmts) k (ap (λ o. stands_at o k) (sym (verify_looked p.stmts)) ∙ i)
    at (inr i) =
        let u = first_there k p.stmts i.1 in
        before_verify (verify_stage p.stmts) (first_update p.stmts) k (ap (λ o. stands_before o k) (sym (verify_looked p.stmts)) ∙ i.0)
        (u.1 ∙ ap (λ j. Some j) (same_there u.0 k p.stmts (together u.0 u.1) i.1))

no_check : (env : List ℕ) (xs : List Stmt) → none_of trunk_only xs ≡ true → has_check env xs ≡ true → ⊥
no_check env [] h e = absurd (false≢true e)
no_check env (x ∷ xs) h e =
    by_or (is_check x.op && all_hold x.guards env) (has_check env xs) ⊥ e
    (λ i. at x.op (and_parts (is_check x.op) (all_hold x.guards env) i).0 (and_parts (not (trunk_only x.op)) (none_of trunk_only xs) h).0)
    (λ i. no_check env xs (and_parts (not (trunk_only x.op)) (none_of trunk_only xs) h).1 i)
  where
    at : (op : Op) → is_check op ≡ true → not (trunk_only op) ≡ true → ⊥
    at (Verify last args) c n = false≢true n
    at _ c n = false≢true c

-- the stage in which a thread fails stands in the trunk
pub fails_trunk : (p : Pipe) → Sound p → (st : State) (k : ℕ) (t : Thread) → (deeds p st k t).fails ≡ true → Trunk p k
fails_trunk p sound st k t f = at (stage_at p k).branches refl
  where
    at : (bs : List Branch) → (stage_at p k).branches ≡ bs → Trunk p k
    at [] i = i
    at (x ∷ c) i = let r = fails_checked p st k t f in absurd (no_check r.0 (in_stage k p.stmts) (sound.trunk_holds x c k i) r.1)
