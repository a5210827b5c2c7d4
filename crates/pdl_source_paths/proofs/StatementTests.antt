-- Tests of the flat statements on a path, and of those of a text where delayed reads are reads, from tests of the sites.
use Rattle.std.proofs.Common.{◌≡◌, refl, ap, ap₂, ◌∙◌, ℕ, ◌<◌, Bool, true, false, ◌&&◌, ◌||◌, not, List, [], ◌∷◌, ◌++◌, length, ◌==◌, nat_lt, Some, if◌then◌else◌, eq-eqb, lt-ltb}
use Rattle.std.proofs.lemmas.Bool.{and_parts, and_from, or_parts, or_left, or_right}
use Rattle.pdl_semantics.specs.Tree.{Span, Variable, Location, Kind, R, W, Stmt, CombRead, Bind, DelayedRead, Write, Reserve, Block, Release, If, Mem}
use Rattle.pdl_semantics.specs.Flat
use Rattle.pdl_semantics.specs.Flatten.{Var, mem_of, var_of, flat_expr, is_advisory_mem, is_advised}
use Rattle.pdl_source_stages.proofs.SiteFacts.{either_read, either_bind, either_write}
use Rattle.pdl_semantics.specs.Stages.{is_reserve, is_release, is_verify, verify_stage}
use Rattle.pdl_rules.specs.Parts.{location_of}
use Rattle.pdl_rules.specs.Typed.{is_memory}
use Rattle.pdl_theory_turns.specs.Alone.{answered_op}
use Rattle.pdl_theory_turns.specs.Scans.{none_of, all_at}
use Rattle.pdl_theory_turns.specs.Checks.{knows_memory, is_below}
use Rattle.pdl_theory_turns.specs.Facts.{looked_all}
use Rattle.pdl_source_stages.proofs.Sites.{Site, own, owns, All}
use Rattle.pdl_source_paths.proofs.PathStatements.{ops_of, ops, stmts_at, own_is, seen_ops, seen, looked_append}
use Rattle.pdl_source_paths.proofs.Numbers.{mem_low}
use Rattle.pdl_source_paths.proofs.SiteStages.{some_op, none_append}
use Rattle.pdl_source_paths.proofs.PathScans.{ops_all, list_append}
use Rattle.pdl_semantics.specs.Sound.{is_fetch}

-- a test that takes a delayed read for a read
abbrev pub Blind : (Flat.Op → Bool) → Type 0
Blind test = (op : Flat.Op) → test (answered_op op) ≡ test op

-- the test for a reserve of a memory takes a delayed read for a read
pub reserve_blind : (i : ℕ) → Blind (is_reserve i)
reserve_blind i (Flat.DelayedRead x m a) = refl
reserve_blind i _ = refl

-- the test for a release of a memory takes a delayed read for a read
pub release_blind : (i : ℕ) → Blind (is_release i)
release_blind i (Flat.DelayedRead x m a) = refl
release_blind i _ = refl

verify_blind : Blind is_verify
verify_blind (Flat.DelayedRead x m a) = refl
verify_blind _ = refl

-- THE TEXT

-- a kind of statements stands in one stage just where it does with delayed reads answered at once
pub all_looked : (test : Flat.Op → Bool) → Blind test → (s : ℕ) (xs : List Flat.Stmt) → all_at test s (looked_all xs) ≡ all_at test s xs
all_looked test f s [] = refl
all_looked test f s (x ∷ xs) = ap₂ (λ a b. (not a || (x.stage == s)) && b) (f x.op) (all_looked test f s xs)

-- the verifies' stage stays the same where delayed reads are answered at once
pub verify_looked : (xs : List Flat.Stmt) → verify_stage (looked_all xs) ≡ verify_stage xs
verify_looked [] = refl
verify_looked (x ∷ xs) = ap₂ (λ a b. if a then Some x.stage else b) (verify_blind x.op) (verify_looked xs)

-- no statement is a delayed read where delayed reads are answered at once
pub unfetched : (xs : List Flat.Stmt) → none_of is_fetch (looked_all xs) ≡ true
unfetched [] = refl
unfetched (x ∷ xs) = and_from _ _ (here x.op) (unfetched xs)
  where
    here : (op : Flat.Op) → not (is_fetch (answered_op op)) ≡ true
    here (Flat.DelayedRead x m a) = refl
    here _ = refl

below_text : (n : ℕ) (xs : List Flat.Stmt)
    → Flat.list_all (λ (x : Flat.Stmt). nat_lt x.stage n) xs ≡ true → is_below n (verify_stage xs) ≡ true
below_text n [] h = refl
below_text n (x ∷ xs) h = at (is_verify x.op) (and_parts (nat_lt x.stage n) (Flat.list_all (λ (x : Flat.Stmt). nat_lt x.stage n) xs) h) (below_text n xs)
  where
    at : (b : Bool) → (nat_lt x.stage n ≡ true) × (Flat.list_all (λ (x : Flat.Stmt). nat_lt x.stage n) xs ≡ true)
        → (Flat.list_all (λ (x : Flat.Stmt). nat_lt x.stage n) xs ≡ true → is_below n (verify_stage xs) ≡ true)
        → is_below n (if b then Some x.stage else verify_stage xs) ≡ true
    at true p k = p.0
    at false p k = k p.1

-- V is below n where all statements stand in stages below n, also with delayed reads answered at once
pub below_verify : (n : ℕ) (xs : List Flat.Stmt)
    → Flat.list_all (λ (x : Flat.Stmt). nat_lt x.stage n) xs ≡ true → is_below n (verify_stage (looked_all xs)) ≡ true
below_verify n xs h = ap (is_below n) (verify_looked xs) ∙ below_text n xs h

-- each operation passes a test
ops_text : (test : Flat.Op → Bool) (k : ℕ) (gs : List Flat.Guard) (os : List Flat.Op)
    → ops_all (λ op. test (answered_op op)) os ≡ true
    → Flat.list_all (λ (x : Flat.Stmt). test x.op) (looked_all (stmts_at k gs os)) ≡ true
ops_text test k gs [] h = refl
ops_text test k gs (op ∷ os) h = let parts = and_parts (test (answered_op op)) (ops_all (λ op. test (answered_op op)) os) h in
    and_from _ _ parts.0 (ops_text test k gs os parts.1)

-- where the operations of all sites pass a test with delayed reads answered at once, the flat statements of the text pass it so
pub all_text : (test : Flat.Op → Bool) (ms : List Mem) (ts : List Site)
    → All (λ t. ops_all (λ op. test (answered_op op)) (ops ms t) ≡ true) ts
    → Flat.list_all (λ (x : Flat.Stmt). test x.op) (looked_all (owns ms ts)) ≡ true
all_text test ms [] h = refl
all_text test ms (t ∷ ts) h =
    ap (Flat.list_all (λ (x : Flat.Stmt). test x.op)) (looked_append (own ms t) (owns ms ts))
    ∙ list_append (λ x. test x.op) (looked_all (own ms t)) (looked_all (owns ms ts))
    (ap (λ l. Flat.list_all (λ (x : Flat.Stmt). test x.op) (looked_all l)) (own_is ms t.gs t.walk t.stmt) ∙ ops_text test t.walk.stage t.gs (ops ms t) h.0)
    (all_text test ms ts h.1)

inside_ops : (n k : ℕ) (gs : List Flat.Guard) (os : List Flat.Op)
    → k < n → Flat.list_all (λ (x : Flat.Stmt). nat_lt x.stage n) (stmts_at k gs os) ≡ true
inside_ops n k gs [] h = refl
inside_ops n k gs (op ∷ os) h = and_from _ _ (lt-ltb k n h) (inside_ops n k gs os h)

-- where all sites stand in stages below n, so do their flat statements
pub inside_text : (n : ℕ) (ms : List Mem) (ts : List Site)
    → All (λ t. t.walk.stage < n) ts → Flat.list_all (λ (x : Flat.Stmt). nat_lt x.stage n) (owns ms ts) ≡ true
inside_text n ms [] h = refl
inside_text n ms (t ∷ ts) h =
    list_append (λ x. nat_lt x.stage n) (own ms t) (owns ms ts)
    (ap (Flat.list_all (λ (x : Flat.Stmt). nat_lt x.stage n)) (own_is ms t.gs t.walk t.stmt) ∙ inside_ops n t.walk.stage t.gs (ops ms t) h.0)
    (inside_text n ms ts h.1)

-- ON A PATH

seen_test : (test : Flat.Op → Bool) (k : ℕ) (os : List Flat.Op)
    → ops_all (λ op. test (answered_op op)) os ≡ true
    → Flat.list_all (λ (x : Flat.Stmt). test x.op) (seen_ops k os) ≡ true
seen_test test k [] h = refl
seen_test test k (op ∷ os) h = let parts = and_parts (test (answered_op op)) (ops_all (λ op. test (answered_op op)) os) h in
    and_from _ _ parts.0 (seen_test test k os parts.1)

-- each flat statement on a path passes a test that all operations of its sites pass
pub all_seen : (test : Flat.Op → Bool) (ms : List Mem) (ts : List Site)
    → All (λ t. ops_all (λ op. test (answered_op op)) (ops ms t) ≡ true) ts
    → Flat.list_all (λ (x : Flat.Stmt). test x.op) (seen ms ts) ≡ true
all_seen test ms [] h = refl
all_seen test ms (t ∷ ts) h =
    list_append (λ x. test x.op) (seen_ops t.walk.stage (ops ms t)) (seen ms ts) (seen_test test t.walk.stage (ops ms t) h.0) (all_seen test ms ts h.1)

at_append : (test : Flat.Op → Bool) (s : ℕ) (xs ys : List Flat.Stmt)
    → all_at test s xs ≡ true → all_at test s ys ≡ true → all_at test s (xs ++ ys) ≡ true
at_append test s [] ys h i = i
at_append test s (x ∷ xs) ys h i = let parts = and_parts (not (test x.op) || (x.stage == s)) (all_at test s xs) h in
    and_from _ _ parts.0 (at_append test s xs ys parts.1 i)

at_ops : (test : Flat.Op → Bool) → Blind test → (s k : ℕ) (os : List Flat.Op)
    → (some_op test os ≡ true → k ≡ s) → all_at test s (seen_ops k os) ≡ true
at_ops test f s k [] h = refl
at_ops test f s k (op ∷ os) h =
    and_from _ _ (at (test op) (f op) (λ e. h (or_left (test op) (some_op test os) e)) refl)
    (at_ops test f s k os (λ e. h (or_right (test op) (some_op test os) e)))
  where
    at : (b : Bool) → test (answered_op op) ≡ test op → (test op ≡ true → k ≡ s) → test op ≡ b → (not (test (answered_op op)) || (k == s)) ≡ true
    at true e i j = or_right (not (test (answered_op op))) _ (eq-eqb k s (i j))
    at false e i j = or_left _ (k == s) (ap not (e ∙ j))

-- the flat statements of a kind on a path stand in stage s, where the sites that have such an operation do
pub at_seen : (test : Flat.Op → Bool) → Blind test → (s : ℕ) (ms : List Mem) (ts : List Site)
    → All (λ t. some_op test (ops ms t) ≡ true → t.walk.stage ≡ s) ts → all_at test s (seen ms ts) ≡ true
at_seen test f s ms [] h = refl
at_seen test f s ms (t ∷ ts) h =
    at_append test s (seen_ops t.walk.stage (ops ms t)) (seen ms ts) (at_ops test f s t.walk.stage (ops ms t) h.0) (at_seen test f s ms ts h.1)

none_ops : (test : Flat.Op → Bool) → Blind test → (k : ℕ) (os : List Flat.Op)
    → some_op test os ≡ false → none_of test (seen_ops k os) ≡ true
none_ops test f k [] h = refl
none_ops test f k (op ∷ os) h = let parts = or_parts (test op) (some_op test os) h in and_from _ _ (ap not (f op ∙ parts.0)) (none_ops test f k os parts.1)

-- no flat statement on a path is of a kind of which no site has an operation
pub none_seen : (test : Flat.Op → Bool) → Blind test → (ms : List Mem) (ts : List Site)
    → All (λ t. some_op test (ops ms t) ≡ false) ts → none_of test (seen ms ts) ≡ true
none_seen test f ms [] h = refl
none_seen test f ms (t ∷ ts) h =
    none_append test (seen_ops t.walk.stage (ops ms t)) (seen ms ts) (none_ops test f t.walk.stage (ops ms t) h.0) (none_seen test f ms ts h.1)

-- KINDS OF STATEMENTS

-- a statement that doesn't reserve memory i has no flat form that does
pub no_reserve : (ms : List Mem) (i : ℕ) (vs : List Var) (s : Stmt)
    → ((sp : Span) (at : Location) (k : Kind) → s ≡ Reserve sp at k → (mem_of ms at.mem.name == i) ≡ false)
    → some_op (is_reserve i) (ops_of ms vs s) ≡ false
no_reserve ms i vs (Reserve sp at R) f = ap (λ b. b || false) (f sp at R refl)
no_reserve ms i vs (Reserve sp at W) f = ap (λ b. b || false) (f sp at W refl)
no_reserve ms i vs (If sp (Variable x) a b) f = refl
no_reserve ms i vs (If sp _ a b) f = refl
no_reserve ms i vs (CombRead sp x at) f = either_read (λ op. some_op (is_reserve i) (op ∷ []) ≡ false) (is_advisory_mem ms at.mem.name) _ _ _ refl refl
no_reserve ms i vs (Bind sp x e) f = either_bind (λ op. some_op (is_reserve i) (op ∷ []) ≡ false) (is_advised vs e) _ _ refl refl
no_reserve ms i vs (Write sp at e) f = either_write (λ op. some_op (is_reserve i) (op ∷ []) ≡ false) (is_advisory_mem ms at.mem.name) _ _ _ refl refl
no_reserve ms i vs _ f = refl

-- a statement that doesn't release memory i has no flat form that does
pub no_release : (ms : List Mem) (i : ℕ) (vs : List Var) (s : Stmt)
    → ((sp : Span) (at : Location) → s ≡ Release sp at → (mem_of ms at.mem.name == i) ≡ false)
    → some_op (is_release i) (ops_of ms vs s) ≡ false
no_release ms i vs (Release sp at) f = ap (λ b. b || false) (f sp at refl)
no_release ms i vs (Reserve sp at R) f = refl
no_release ms i vs (Reserve sp at W) f = refl
no_release ms i vs (If sp (Variable x) a b) f = refl
no_release ms i vs (If sp _ a b) f = refl
no_release ms i vs (CombRead sp x at) f = either_read (λ op. some_op (is_release i) (op ∷ []) ≡ false) (is_advisory_mem ms at.mem.name) _ _ _ refl refl
no_release ms i vs (Bind sp x e) f = either_bind (λ op. some_op (is_release i) (op ∷ []) ≡ false) (is_advised vs e) _ _ refl refl
no_release ms i vs (Write sp at e) f = either_write (λ op. some_op (is_release i) (op ∷ []) ≡ false) (is_advisory_mem ms at.mem.name) _ _ _ refl refl
no_release ms i vs _ f = refl

-- where the memory of a statement's location is there, each of its operations has a memory that is there
pub knows_all : (ms : List Mem) (vs : List Var) (s : Stmt)
    → ((at : Location) → location_of s ≡ Some at → is_memory ms at.mem.name ≡ true)
    → ops_all (λ op. knows_memory (length ms) (answered_op op)) (ops_of ms vs s) ≡ true
knows_all ms vs s f = here s f
  where
    low : (m : List ℕ) → is_memory ms m ≡ true → (nat_lt (mem_of ms m) (length ms) && true) ≡ true
    low m h = and_from _ _ (lt-ltb _ _ (mem_low ms m h)) refl

    here : (t : Stmt) → ((at : Location) → location_of t ≡ Some at → is_memory ms at.mem.name ≡ true)
        → ops_all (λ op. knows_memory (length ms) (answered_op op)) (ops_of ms vs t) ≡ true
    here (CombRead sp x at) g =
        either_read (λ op. ops_all (λ o. knows_memory (length ms) (answered_op o)) (op ∷ []) ≡ true) (is_advisory_mem ms at.mem.name) (length vs)
        (mem_of ms at.mem.name) (var_of vs at.address.name) refl (low at.mem.name (g at refl))
    here (Bind sp x e) g = either_bind (λ op. ops_all (λ o. knows_memory (length ms) (answered_op o)) (op ∷ []) ≡ true) (is_advised vs e) _ _ refl refl
    here (DelayedRead sp x at) g = low at.mem.name (g at refl)
    here (Write sp at v) g =
        either_write (λ op. ops_all (λ o. knows_memory (length ms) (answered_op o)) (op ∷ []) ≡ true) (is_advisory_mem ms at.mem.name) (mem_of ms at.mem.name)
        (var_of vs at.address.name) (flat_expr vs v) refl (low at.mem.name (g at refl))
    here (Reserve sp at R) g = low at.mem.name (g at refl)
    here (Reserve sp at W) g = low at.mem.name (g at refl)
    here (Block sp at) g = low at.mem.name (g at refl)
    here (Release sp at) g = low at.mem.name (g at refl)
    here (If sp (Variable x) a b) g = refl
    here (If sp _ a b) g = refl
    here _ g = refl

-- what holds for each number holds of each site
pub all_numbers : (P : ℕ → Site → Type 0) (ts : List Site) → ((i : ℕ) → All (P i) ts) → All (λ t. (i : ℕ) → P i t) ts
all_numbers P [] f = tt
all_numbers P (t ∷ ts) f = ((λ i. (f i).0), all_numbers P ts (λ i. (f i).1))
