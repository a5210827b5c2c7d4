-- The locations that a thread holds for writing, by what it passed.
use Rattle.std.proofs.Common.{◌≡◌, ℕ, suc, ◌-◌, arith, ap, sym, refl, ◌∙◌, Bool, true, false, nat_lt, List, [], ◌∷◌, ◌++◌, append_assoc, append-nil}
use Rattle.std.proofs.lemmas.List.{map-append}
use Rattle.std.specs.Prelude.{◌&&◌, ◌==◌, map, if◌then◌else◌}
use Rattle.pdl_semantics.specs.Flat.{list_all, Op, Bind, CombRead, DelayedRead, Write, ReserveRead, ReserveWrite, Block, Release, Call, SpecCall, Verify, SpecCheck, SpecBarrier, AdviceBind, AdviceRead, AdviceWrite, Guard, Stmt, all_hold}
use Rattle.pdl_semantics.specs.Forms.{on_block}
use Rattle.pdl_semantics.specs.Stages.{in_stage}
use Rattle.pdl_machine_lockuse.proofs.HeldLocations.{held_does}
use Rattle.pdl_semantics.specs.Machine.{HeldLocation, Deeds, is_held, let_go, held_after, held_before, deeds_after, deeds_after_all}
use Rattle.pdl_plain.specs.HeldLocations.{path_of, takes, is_on, passed, with_one, times_held, holds, done, marks, begun, HoldsBefore, MarksBlocks}

-- how often this location is among these
abbrev count : List HeldLocation → ℕ → ℕ → ℕ
count [] m a = 0
count (l ∷ ls) m a = if (l.mem == m) && (l.var == a) then suc (count ls m a) else count ls m a

held_is : (ls : List HeldLocation) (m a : ℕ) → is_held ls m a ≡ nat_lt 0 (count ls m a)
held_is [] m a = refl
held_is (l ∷ ls) m a = grind (arith, held_is ls m a)

same : (p q k b m a : ℕ) → ((p == k) && (q == b)) ≡ true → ((p == m) && (q == a)) ≡ ((k == m) && (b == a))
same p q k b m a e = grind arith

apart : (p q k b m a : ℕ) → ((p == k) && (q == b)) ≡ false → ((p == m) && (q == a)) ≡ true → ((k == m) && (b == a)) ≡ true → ⊥
apart p q k b m a e f g = grind arith

one_less : (t u : Bool) (c : ℕ) → t ≡ u → c ≡ (if u then (if t then suc c else c) - 1 else (if t then suc c else c))
one_less t true c e = rw e (omega arith)
one_less t false c e = rw e refl

as_many : (t u : Bool) (c : ℕ) → (t ≡ true → u ≡ true → ⊥)
    → (if t then suc (if u then c - 1 else c) else (if u then c - 1 else c)) ≡ (if u then (if t then suc c else c) - 1 else (if t then suc c else c))
as_many true true c h = absurd (h refl refl)
as_many true false c h = refl
as_many false true c h = refl
as_many false false c h = refl

go_by : (l : HeldLocation) (ls : List HeldLocation) (k b m a : ℕ) (s : Bool) → ((l.mem == k) && (l.var == b)) ≡ s
    → count (let_go ls k b) m a ≡ (if (k == m) && (b == a) then count ls m a - 1 else count ls m a)
    → count (let_go (l ∷ ls) k b) m a ≡ (if (k == m) && (b == a) then count (l ∷ ls) m a - 1 else count (l ∷ ls) m a)
go_by l ls k b m a true e h =
    rw e (one_less ((l.mem == m) && (l.var == a)) ((k == m) && (b == a)) (count ls m a) (same l.mem l.var k b m a e))
go_by l ls k b m a false e h =
    rw (e, h) (as_many ((l.mem == m) && (l.var == a)) ((k == m) && (b == a)) (count ls m a) (apart l.mem l.var k b m a e))

none_left : (c : Bool) → 0 ≡ (if c then 0 - 1 else 0)
none_left true = refl
none_left false = refl

go_is : (ls : List HeldLocation) (k b m a : ℕ)
    → count (let_go ls k b) m a ≡ (if (k == m) && (b == a) then count ls m a - 1 else count ls m a)
go_is [] k b m a = none_left ((k == m) && (b == a))
go_is (l ∷ ls) k b m a = go_by l ls k b m a ((l.mem == k) && (l.var == b)) refl (go_is ls k b m a)

after_is : (op : Op) (ls : List HeldLocation) (m a : ℕ) → count (held_after op ls) m a ≡ with_one m a op (count ls m a)
after_is (ReserveWrite k b) ls m a = refl
after_is (Release k b) ls m a = go_is ls k b m a
after_is (Bind x e) ls m a = refl
after_is (CombRead x k b) ls m a = refl
after_is (DelayedRead x k b) ls m a = refl
after_is (Write k b e) ls m a = refl
after_is (ReserveRead k b) ls m a = refl
after_is (Block k b) ls m a = refl
after_is (Call args) ls m a = refl
after_is (SpecCall args) ls m a = refl
after_is (Verify last args) ls m a = refl
after_is SpecCheck ls m a = refl
after_is SpecBarrier ls m a = refl
after_is (AdviceBind x e) ls m a = refl
after_is (AdviceRead x k b) ls m a = refl
after_is (AdviceWrite k b e) ls m a = refl

on_is : (gs : List Guard) (env : List ℕ) → all_hold gs env ≡ list_all (takes (path_of env)) gs
on_is [] env = refl
on_is (g ∷ gs) env = ap (λ b. takes (path_of env) g && b) (on_is gs env)

before_is : (s : ℕ) (env : List ℕ) (xs : List Stmt) (ls : List HeldLocation) (m a : ℕ)
    → count (held_before s env xs ls) m a ≡ times_held m a (passed s (path_of env) xs) (count ls m a)
before_is s env [] ls m a = refl
before_is s env (x ∷ xs) ls m a =
    let e : all_hold x.guards env ≡ is_on (path_of env) x = on_is x.guards env in
    grind (arith, e, before_is s env xs ls m a, before_is s env xs (held_after x.op ls) m a, after_is x.op ls m a)

-- what is held before a stage, as often as the statements before say
pub holds_before : HoldsBefore
holds_before s env xs m a = held_is (held_before s env xs []) m a ∙ ap (nat_lt 0) (before_is s env xs [] m a)

blocks_after : (read : ℕ → ℕ → ℕ) (op : Op) (d : Deeds)
    → map (λ b. b.writes) (deeds_after read op d).blocks ≡ map (λ b. b.writes) d.blocks ++ on_block (λ m a. is_held d.held m a ∷ []) [] op
blocks_after read (Block k b) d = map-append (λ b. b.writes) d.blocks _
blocks_after read (ReserveWrite k b) d = sym (append-nil _)
blocks_after read (Release k b) d = sym (append-nil _)
blocks_after read (Bind x e) d = sym (append-nil _)
blocks_after read (CombRead x k b) d = sym (append-nil _)
blocks_after read (DelayedRead x k b) d = sym (append-nil _)
blocks_after read (Write k b e) d = sym (append-nil _)
blocks_after read (ReserveRead k b) d = sym (append-nil _)
blocks_after read (Call args) d = sym (append-nil _)
blocks_after read (SpecCall args) d = sym (append-nil _)
blocks_after read (Verify last args) d = grind (arith, append-nil)
blocks_after read SpecCheck d = sym (append-nil _)
blocks_after read SpecBarrier d = sym (append-nil _)
blocks_after read (AdviceBind x e) d = sym (append-nil _)
blocks_after read (AdviceRead x k b) d = sym (append-nil _)
blocks_after read (AdviceWrite k b e) d = sym (append-nil _)

flags_same : (ls : List HeldLocation) (before : List Stmt) (op : Op) → ((m a : ℕ) → count ls m a ≡ times_held m a before 0)
    → on_block (λ m a. is_held ls m a ∷ []) [] op ≡ on_block (λ m a. holds before m a ∷ []) [] op
flags_same ls before (Block m a) h = ap (λ b. b ∷ []) (held_is ls m a ∙ ap (nat_lt 0) (h m a))
flags_same ls before (ReserveWrite k b) h = refl
flags_same ls before (Release k b) h = refl
flags_same ls before (Bind x e) h = refl
flags_same ls before (CombRead x k b) h = refl
flags_same ls before (DelayedRead x k b) h = refl
flags_same ls before (Write k b e) h = refl
flags_same ls before (ReserveRead k b) h = refl
flags_same ls before (Call args) h = refl
flags_same ls before (SpecCall args) h = refl
flags_same ls before (Verify last args) h = refl
flags_same ls before SpecCheck h = refl
flags_same ls before SpecBarrier h = refl
flags_same ls before (AdviceBind x e) h = refl
flags_same ls before (AdviceRead x k b) h = refl
flags_same ls before (AdviceWrite k b e) h = refl

times_more : (m a : ℕ) (xs : List Stmt) (x : Stmt) (n : ℕ) → times_held m a (xs ++ x ∷ []) n ≡ with_one m a x.op (times_held m a xs n)
times_more m a [] x n = refl
times_more m a (y ∷ ys) x n = times_more m a ys x (with_one m a y.op n)

held_more : (read : ℕ → ℕ → ℕ) (x : Stmt) (d : Deeds) (before : List Stmt) → ((m a : ℕ) → count d.held m a ≡ times_held m a before 0)
    → (m a : ℕ) → count (deeds_after read x.op d).held m a ≡ times_held m a (before ++ x ∷ []) 0
held_more read x d before h m a =
    ap (λ ls. count ls m a) (held_does read x.op d) ∙ after_is x.op d.held m a ∙ ap (with_one m a x.op) (h m a) ∙ sym (times_more m a before x 0)

marks_then : (read : ℕ → ℕ → ℕ) (x : Stmt) (xs : List Stmt) (d : Deeds) (before : List Stmt)
    → ((m a : ℕ) → count d.held m a ≡ times_held m a before 0)
    → ((e : Deeds) (past : List Stmt) → ((m a : ℕ) → count e.held m a ≡ times_held m a past 0)
    → map (λ b. b.writes) (deeds_after_all read xs e).blocks ≡ map (λ b. b.writes) e.blocks ++ marks past (done read xs e))
    → (b : Bool)
    → map (λ b. b.writes) (deeds_after_all read xs (if b then deeds_after read x.op d else d)).blocks
    ≡ map (λ b. b.writes) d.blocks ++ marks before (if b then x ∷ done read xs (deeds_after read x.op d) else done read xs d)
marks_then read x xs d before h rest false = rest d before h
marks_then read x xs d before h rest true =
    rest (deeds_after read x.op d) (before ++ x ∷ []) (held_more read x d before h)
    ∙ (ap (λ l. l ++ marks (before ++ x ∷ []) (done read xs (deeds_after read x.op d)))
    (blocks_after read x.op d ∙ ap (λ l. map (λ b. b.writes) d.blocks ++ l) (flags_same d.held before x.op h))
    ∙ append_assoc (map (λ b. b.writes) d.blocks) (on_block (λ m a. holds before m a ∷ []) [] x.op)
    (marks (before ++ x ∷ []) (done read xs (deeds_after read x.op d))))

marks_by : (read : ℕ → ℕ → ℕ) (x : Stmt) (xs : List Stmt) (d : Deeds) (before : List Stmt)
    → ((m a : ℕ) → count d.held m a ≡ times_held m a before 0)
    → ((e : Deeds) (past : List Stmt) → ((m a : ℕ) → count e.held m a ≡ times_held m a past 0)
    → map (λ b. b.writes) (deeds_after_all read xs e).blocks ≡ map (λ b. b.writes) e.blocks ++ marks past (done read xs e))
    → (b : Bool) → all_hold x.guards d.env ≡ b
    → map (λ b. b.writes) (deeds_after_all read (x ∷ xs) d).blocks ≡ map (λ b. b.writes) d.blocks ++ marks before (done read (x ∷ xs) d)
marks_by read x xs d before h rest b e =
    ap (λ c. map (λ b. b.writes) (deeds_after_all read xs (if c then deeds_after read x.op d else d)).blocks) e
    ∙ (marks_then read x xs d before h rest b
    ∙ sym (ap (λ c. map (λ b. b.writes) d.blocks ++ marks before (if c then x ∷ done read xs (deeds_after read x.op d) else done read xs d))
    (sym (on_is x.guards d.env) ∙ e)))

all_marks : (read : ℕ → ℕ → ℕ) (xs : List Stmt) (d : Deeds) (before : List Stmt) → ((m a : ℕ) → count d.held m a ≡ times_held m a before 0)
    → map (λ b. b.writes) (deeds_after_all read xs d).blocks ≡ map (λ b. b.writes) d.blocks ++ marks before (done read xs d)
all_marks read [] d before h = sym (append-nil _)
all_marks read (x ∷ xs) d before h =
    marks_by read x xs d before h (λ e past k. all_marks read xs e past k) (all_hold x.guards d.env) refl

-- what the blocks of a stage tell, by the statements before each
pub marks_blocks : MarksBlocks
marks_blocks read p s t =
    all_marks read (in_stage s p.stmts) (begun p s t) (passed s (path_of t.env) p.stmts) (λ m a. before_is s t.env p.stmts [] m a)
