-- What a stage's statements may do: they ask for the delayed reads of the stage, and a thread fails only where one of them checks the guess.
use Rattle.std.proofs.Common.{◌≡◌, refl, sym, ap, ap₂, ◌∙◌, ℕ, suc, Bool, true, false, ◌&&◌, ◌||◌, not, List, [], ◌∷◌, Some, ◌==◌, nat_le, arith, cond, if◌then◌else◌}
use Rattle.std.proofs.lemmas.Bool.{and_parts, or_left, or_right, eqb-true, leb-true, false≢true}
use Rattle.pdl_semantics.specs.Flat.{Op, Bind, CombRead, DelayedRead, Write, ReserveRead, ReserveWrite, Block, Release, Call, SpecCall, Verify, SpecCheck, SpecBarrier, AdviceBind, AdviceRead, AdviceWrite, Stmt, Pipe, all_hold}
use Rattle.pdl_semantics.specs.Stages.{list_any, in_stage, is_verify, is_check, verify_stage}
use Rattle.pdl_semantics.specs.Machine.{State, Thread, Ask, Deeds, same_args, deeds_after, deeds_after_all, deeds, word_for, checked_args}
use Rattle.pdl_theory_turns.specs.Scans.{all_at}
use Rattle.pdl_machine_inflight.specs.Readings.{reading, IsTheReading, Reads}
use Rattle.pdl_word.specs.Each.{Each}
use Rattle.pdl_word.proofs.Each.{each_push}

-- a request is of a delayed read of this stage
abbrev pub AsksIn : Pipe → ℕ → Ask → Type 0
AsksIn p k q = reading p q.mem ≡ Some (record { stage = k; var = q.var })

stage_each : (P : Stmt → Type 0) (k : ℕ) (xs : List Stmt) → Each P xs → Each (λ (x : Stmt). P x × (x.stage ≡ k)) (in_stage k xs)
stage_each P k [] h = tt
stage_each P k (x ∷ xs) h = at (x.stage == k) refl (stage_each P k xs h.1)
  where
    at : (b : Bool) → (x.stage == k) ≡ b → Each (λ (x : Stmt). P x × (x.stage ≡ k)) (in_stage k xs)
        → Each (λ (x : Stmt). P x × (x.stage ≡ k)) (if b then x ∷ in_stage k xs else in_stage k xs)
    at true e r = ((h.0, eqb-true x.stage k e), r)
    at false e r = r

asks_op : (p : Pipe) (k s : ℕ) (read : ℕ → ℕ → ℕ) (x : Stmt) → IsTheReading p x
    → x.stage ≡ k → (d : Deeds) → Each (AsksIn p k) d.asks → Each (AsksIn p k) (deeds_after read x.op d).asks
asks_op p k s read x h e d r = by x.op h
  where
    verified : (args : List ℕ) (b : Bool) → Each (AsksIn p k) (cond b d (record d { child = Some args; guess = args; fails = true })).asks
    verified args true = r
    verified args false = r

    by : (op : Op) → IsTheReading p (record x { op = op }) → Each (AsksIn p k) (deeds_after read op d).asks
    by (DelayedRead y m a) g = each_push (AsksIn p k) d.asks _ r (g ∙ ap (λ j. Some (record { stage = j; var = y })) e)
    by (Verify last args) g = verified (checked_args last args d) (same_args (checked_args last args d) d.guess)
    by (Bind y a) g = r
    by (CombRead y m a) g = r
    by (Write m a b) g = r
    by (ReserveRead m a) g = r
    by (ReserveWrite m a) g = r
    by (Block m a) g = r
    by (Release m a) g = r
    by (Call args) g = r
    by (SpecCall args) g = r
    by SpecCheck g = r
    by SpecBarrier g = r
    by (AdviceBind y a) g = r
    by (AdviceRead y m a) g = r
    by (AdviceWrite m a b) g = r

asks_all : (p : Pipe) (k : ℕ) (read : ℕ → ℕ → ℕ) (xs : List Stmt)
    → Each (λ (x : Stmt). IsTheReading p x × (x.stage ≡ k)) xs → (d : Deeds) → Each (AsksIn p k) d.asks
    → Each (AsksIn p k) (deeds_after_all read xs d).asks
asks_all p k read [] h d r = r
asks_all p k read (x ∷ xs) h d r = asks_all p k read xs h.1 (if all_hold x.guards d.env then deeds_after read x.op d else d) (at (all_hold x.guards d.env))
  where
    at : (b : Bool) → Each (AsksIn p k) (if b then deeds_after read x.op d else d).asks
    at true = asks_op p k k read x h.0.0 h.0.1 d r
    at false = r

-- a thread's requests are of the delayed reads of its stage
pub asks_in : (p : Pipe) → Reads p → (st : State) (k : ℕ) (t : Thread) → Each (AsksIn p k) (deeds p st k t).asks
asks_in p reads st k t = asks_all p k (word_for st t.number) (in_stage k p.stmts) (stage_each (IsTheReading p) k p.stmts reads.one) _ tt

-- FAILURES

fails_op : (read : ℕ → ℕ → ℕ) (o : Op) (d : Deeds) → is_check o ≡ false → (deeds_after read o d).fails ≡ d.fails
fails_op read (Verify last args) d h = absurd (false≢true (sym h))
fails_op read (Bind x e) d h = refl
fails_op read (CombRead x m a) d h = refl
fails_op read (DelayedRead x m a) d h = refl
fails_op read (Write m a e) d h = refl
fails_op read (ReserveRead m a) d h = refl
fails_op read (ReserveWrite m a) d h = refl
fails_op read (Block m a) d h = refl
fails_op read (Release m a) d h = refl
fails_op read (Call args) d h = refl
fails_op read (SpecCall args) d h = refl
fails_op read SpecCheck d h = refl
fails_op read SpecBarrier d h = refl
fails_op read (AdviceBind x e) d h = refl
fails_op read (AdviceRead x m a) d h = refl
fails_op read (AdviceWrite m a e) d h = refl

-- whether one of these statements asks whether the guess is another, where the variables have these values
abbrev pub has_check : List ℕ → List Stmt → Bool
has_check env xs = list_any (λ (x : Stmt). is_check x.op && all_hold x.guards env) xs

fails_all : (read : ℕ → ℕ → ℕ) (xs : List Stmt) (d : Deeds) → d.fails ≡ false → (deeds_after_all read xs d).fails ≡ true
    → (env : List ℕ) × (has_check env xs ≡ true)
fails_all read [] d e f = absurd (false≢true (sym e ∙ f))
fails_all read (x ∷ xs) d e f = at (all_hold x.guards d.env) refl (is_check x.op) refl f (λ d' e' f'. fails_all read xs d' e' f')
  where
    more : (d' : Deeds) → d'.fails ≡ false → (deeds_after_all read xs d').fails ≡ true
        → ((d' : Deeds) → d'.fails ≡ false → (deeds_after_all read xs d').fails ≡ true → (env : List ℕ) × (has_check env xs ≡ true))
        → (env : List ℕ) × (has_check env (x ∷ xs) ≡ true)
    more d' e' f' later = let r = later d' e' f' in (r.0, or_right (is_check x.op && all_hold x.guards r.0) (has_check r.0 xs) r.1)

    at : (b : Bool) → all_hold x.guards d.env ≡ b → (c : Bool) → is_check x.op ≡ c
        → (deeds_after_all read xs (if b then deeds_after read x.op d else d)).fails ≡ true
        → ((d' : Deeds) → d'.fails ≡ false → (deeds_after_all read xs d').fails ≡ true → (env : List ℕ) × (has_check env xs ≡ true))
        → (env : List ℕ) × (has_check env (x ∷ xs) ≡ true)
    at false g c h f later = more d e f later
    at true g true h f later = (d.env, or_left (is_check x.op && all_hold x.guards d.env) (has_check d.env xs) (ap₂ (λ a b. a && b) h g))
    at true g false h f later = more (deeds_after read x.op d) (fails_op read x.op d h ∙ e) f later

-- a thread that fails in a stage carries out a check there: with some values this is on the path
pub fails_checked : (p : Pipe) (st : State) (k : ℕ) (t : Thread) → (deeds p st k t).fails ≡ true
    → (env : List ℕ) × (has_check env (in_stage k p.stmts) ≡ true)
fails_checked p st k t f = fails_all (word_for st t.number) (in_stage k p.stmts) _ refl f

apart : (v k : ℕ) (xs : List Stmt) → all_at is_verify v xs ≡ true
    → list_any (λ (r : Stmt). nat_le (suc k) r.stage && is_verify r.op) xs ≡ true → k ≡ v → ⊥
apart v k [] h g e = absurd (cc g)
apart v k (x ∷ xs) h g e = by (nat_le (suc k) x.stage && is_verify x.op) refl g (λ i. apart v k xs parts.1 i e)
  where
    parts : ((not (is_verify x.op) || (x.stage == v)) ≡ true) × (all_at is_verify v xs ≡ true)
    parts = and_parts (not (is_verify x.op) || (x.stage == v)) (all_at is_verify v xs) h

    by : (b : Bool) → (nat_le (suc k) x.stage && is_verify x.op) ≡ b
        → (b || list_any (λ (r : Stmt). nat_le (suc k) r.stage && is_verify r.op) xs) ≡ true
        → (list_any (λ (r : Stmt). nat_le (suc k) r.stage && is_verify r.op) xs ≡ true → ⊥) → ⊥
    by true f g rest =
        let two = and_parts (nat_le (suc k) x.stage) (is_verify x.op) f in
        let s = eqb-true x.stage v (ap (λ b. not b || (x.stage == v)) (sym two.1) ∙ parts.0) in
        let l = leb-true (suc k) x.stage two.0 in
        omega (arith, s, l, e)
    by false f g rest = rest g

-- where a later stage verifies, a stage is not V
pub verified_later : (p : Pipe) → ((v : ℕ) → verify_stage p.stmts ≡ Some v → all_at is_verify v p.stmts ≡ true) → (k : ℕ)
    → list_any (λ (r : Stmt). nat_le (suc k) r.stage && is_verify r.op) p.stmts ≡ true → verify_stage p.stmts ≡ Some k → ⊥
verified_later p one k later e = apart k k p.stmts (one k e) later refl
