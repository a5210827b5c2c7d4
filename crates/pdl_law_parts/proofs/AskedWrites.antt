-- What a thread writes in a stage: for each location a write of that stage asks for its marks.
use Rattle.std.proofs.Common.{◌≡◌, refl, ap, ap₂, ℕ, Bool, true, false, ◌&&◌, ◌||◌, List, [], ◌∷◌, Some, arith, le-leb}
use Rattle.std.specs.Prelude.{if◌then◌else◌, nat_le, ◌==◌}
use Rattle.std.proofs.lemmas.Bool.{or_left, or_right, eqb-true}
use Rattle.pdl_word.specs.Each.{Each}
use Rattle.pdl_word.proofs.Each.{each_push}
use Rattle.pdl_word.proofs.Numbers.{eqb_self}
use Rattle.pdl_semantics.specs.Flat.{Op, Bind, CombRead, DelayedRead, Write, ReserveRead, ReserveWrite, Block, Release, Call, SpecCall, Verify, SpecCheck, SpecBarrier, AdviceBind, AdviceRead, AdviceWrite, Stmt, Pipe, all_hold}
use Rattle.pdl_semantics.specs.Stages.{in_stage, list_any}
use Rattle.pdl_semantics.specs.Machine.{Thread, State, Written, Deeds, same_args, checked_args, deeds_after, deeds_after_all, word_for, deeds}
use Rattle.pdl_machine_facts.specs.Use.{before_stage}
use Rattle.pdl_law_parts.specs.declared.Mark.TheVariants.{Late}
use Rattle.pdl_law_parts.specs.Lives.{asks_late, mark_from}

-- each of these writes is of a location that has the property
abbrev Have : (ℕ → ℕ → Type 0) → List Written → Type 0
Have P ws = Each (λ (w : Written). P w.mem w.var) ws

op_asked : (P : ℕ → ℕ → Type 0) (read : ℕ → ℕ → ℕ) (op : Op) (d : Deeds)
    → ((m a : ℕ) → asks_late op m a ≡ true → P m a) → Have P d.writes → Have P (deeds_after read op d).writes
op_asked P read (Write n a e) d f h =
    each_push (λ (w : Written). P w.mem w.var) d.writes _ h (f n a (ap₂ (λ x y. x && y) (eqb_self n) (eqb_self a)))
op_asked P read (Verify last args) d f h = at (same_args (checked_args last args d) d.guess)
  where
    at : (b : Bool) → Have P (if b then d else record d { child = Some (checked_args last args d); guess = checked_args last args d; fails = true }).writes
    at true = h
    at false = h
op_asked P read (Bind x e) d f h = h
op_asked P read (CombRead x n a) d f h = h
op_asked P read (DelayedRead x n a) d f h = h
op_asked P read (ReserveRead n a) d f h = h
op_asked P read (ReserveWrite n a) d f h = h
op_asked P read (Block n a) d f h = h
op_asked P read (Release n a) d f h = h
op_asked P read (Call args) d f h = h
op_asked P read (SpecCall args) d f h = h
op_asked P read SpecCheck d f h = h
op_asked P read SpecBarrier d f h = h
op_asked P read (AdviceBind x e) d f h = h
op_asked P read (AdviceRead x n a) d f h = h
op_asked P read (AdviceWrite n a e) d f h = h

all_asked : (P : ℕ → ℕ → Type 0) (read : ℕ → ℕ → ℕ) (xs : List Stmt) (d : Deeds)
    → ((m a : ℕ) → list_any (λ (r : Stmt). asks_late r.op m a) xs ≡ true → P m a)
    → Have P d.writes → Have P (deeds_after_all read xs d).writes
all_asked P read [] d f h = h
all_asked P read (x ∷ xs) d f h =
    all_asked P read xs (if all_hold x.guards d.env then deeds_after read x.op d else d)
    (λ m a e. f m a (or_right (asks_late x.op m a) _ e)) (at (all_hold x.guards d.env))
  where
    at : (b : Bool) → Have P (if b then deeds_after read x.op d else d).writes
    at true = op_asked P read x.op d (λ m a e. f m a (or_left (asks_late x.op m a) _ e)) h
    at false = h

stage_asked : (k m a : ℕ) (xs : List Stmt) → list_any (λ (r : Stmt). asks_late r.op m a) (in_stage k xs) ≡ true
    → list_any (λ (r : Stmt). nat_le k r.stage && asks_late r.op m a) xs ≡ true
stage_asked k m a [] e = e
stage_asked k m a (x ∷ xs) e = at (x.stage == k) refl (stage_asked k m a xs) e
  where
    Rest : Bool
    Rest = list_any (λ (r : Stmt). nat_le k r.stage && asks_late r.op m a) xs

    own : (b c : Bool) → asks_late x.op m a ≡ b → nat_le k x.stage ≡ true → (b || c) ≡ true → (c ≡ true → Rest ≡ true)
        → ((nat_le k x.stage && asks_late x.op m a) || Rest) ≡ true
    own true c i low g go = ap (λ t. t || Rest) (ap₂ (λ s t. s && t) low i)
    own false c i low g go = or_right (nat_le k x.stage && asks_late x.op m a) Rest (go g)

    at : (b : Bool) → (x.stage == k) ≡ b
        → (list_any (λ (r : Stmt). asks_late r.op m a) (in_stage k xs) ≡ true → Rest ≡ true)
        → list_any (λ (r : Stmt). asks_late r.op m a) (if b then x ∷ in_stage k xs else in_stage k xs) ≡ true
        → ((nat_le k x.stage && asks_late x.op m a) || Rest) ≡ true
    at true i go g =
        let same : x.stage ≡ k = eqb-true x.stage k i in
        own (asks_late x.op m a) (list_any (λ (r : Stmt). asks_late r.op m a) (in_stage k xs)) refl (le-leb k x.stage (omega (arith, same))) g go
    at false i go g = or_right (nat_le k x.stage && asks_late x.op m a) Rest (go g)

-- the marks of what a thread writes in a stage are asked for from that stage on
pub written_marks : (p : Pipe) (st : State) (k : ℕ) (t : Thread) → Each (λ (w : Written). mark_from p k Late w.mem w.var ≡ true) (deeds p st k t).writes
written_marks p st k t =
    all_asked (λ m a. mark_from p k Late m a ≡ true) (word_for st t.number) (in_stage k p.stmts) (before_stage p k t)
    (λ m a e. stage_asked k m a p.stmts e) tt
