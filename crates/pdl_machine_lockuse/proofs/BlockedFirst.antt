-- On each path of an accepted source the location of a write was blocked before.
use Rattle.std.proofs.Common.{◌≡◌, refl, sym, ap, ap₂, ◌∙◌, subst, ℕ, ◌⊎◌, inl, inr, Bool, true, false, ◌&&◌, ◌||◌, not, List, [], ◌∷◌, ◌++◌, map, filter, fold, if◌then◌else◌, Some, bytes_eq, eq-eqb}
use Rattle.std.proofs.lemmas.Bool.{false≢true, and_parts, and_from, or_left, or_right, not-false}
use Rattle.std.proofs.lemmas.List.Folds.{list_any-append}
use Rattle.pdl_semantics.specs.Tree.{Span, Location, R, W, Stmt, Separator, CombRead, Bind, SpecCall, DelayedRead, Write, Reserve, Block, Release, If, Call, Verify, Update, SpecCheck, SpecBarrier, Expr, Variable, Param, Mem, Pipe}
use Rattle.pdl_semantics.specs.Flat
use Rattle.pdl_semantics.specs.Flatten.{Var, var_of, mem_of, flat_expr, is_advisory_mem, is_advised, write_op}
use Rattle.pdl_rules.specs.Places.{Place, Parameter, Memory, Statement, Branch}
use Rattle.pdl_rules.specs.Parts.{location_of}
use Rattle.pdl_rules.specs.Locks
use Rattle.pdl_rules.specs.Locks.{same_location, Hold, Nothing, Reserved, Blocked, Released, after_place, hold_after, is_blocked, is_blocked_for}
use Rattle.pdl_rules.specs.Typed.{is_named}
use Rattle.pdl_rules.proofs.EachPlace.{Each, closing}
use Rattle.pdl_rules.proofs.SingleWrites.{KeepsLocks}
use Rattle.pdl_theory_turns.specs.Alone.{answered_op}
use Rattle.pdl_theory_turns.specs.Facts.{looked_all}
use Rattle.pdl_source_stages.proofs.Sites.{Site, front_of, place_of, All}
use Rattle.pdl_source_stages.proofs.SiteFacts.{either_read, either_bind}
use Rattle.pdl_source_paths.proofs.Numbers.{var_stays}
use Rattle.pdl_source_paths.proofs.PathStatements.{ops_of, seen_ops, seen}
use Rattle.pdl_source_paths.proofs.Growth.{Grown, Grows, grown_more, past_grown, vars_past}
use Rattle.pdl_source_paths.proofs.ReadsKept.{held_more}
use Rattle.pdl_source_paths.proofs.Variables.{IsNamed}
use Rattle.pdl_theory_states.proofs.UnusedValues.{onto}
use Rattle.pdl_machine_lockuse.specs.Careful.{is_block_at, was_blocked, is_let_in, all_let_in}
use Rattle.pdl_word.proofs.Bytes.{bytes_same}

-- WHERE DELAYED READS ARE READS

block_looked : (m a : ℕ) (op : Flat.Op) → is_block_at m a (answered_op op) ≡ is_block_at m a op
block_looked m a (Flat.DelayedRead x n b) = refl
block_looked m a _ = refl

let_looked : (op : Flat.Op) (past past' : List Flat.Op) → ((m a : ℕ) → was_blocked m a past' ≡ was_blocked m a past)
    → is_let_in (answered_op op) past' ≡ is_let_in op past
let_looked (Flat.Write m a e) past past' f = f m a
let_looked (Flat.DelayedRead x n b) past past' f = refl
let_looked _ past past' f = refl

-- the locations of writes were blocked before them just where they were with delayed reads answered at once
pub lets_looked : (past past' : List Flat.Op) → ((m a : ℕ) → was_blocked m a past' ≡ was_blocked m a past) → (xs : List Flat.Stmt)
    → all_let_in past' (looked_all xs) ≡ all_let_in past xs
lets_looked past past' f [] = refl
lets_looked past past' f (x ∷ xs) =
    ap₂ (λ a b. a && b) (let_looked x.op past past' f)
    (lets_looked (x.op ∷ past) (answered_op x.op ∷ past') (λ m a. ap₂ (λ b c. b || c) (block_looked m a x.op) (f m a)) xs)

-- WHAT IS BLOCKED

-- the name of one of the variables is one of theirs where more variables follow
pub named_grown : (vs ws : List Var) (x : List ℕ) → Grown vs ws → is_named vs x ≡ true → is_named ws x ≡ true
named_grown vs ws x g n = ap (λ l. is_named l x) g.1 ∙ list_any-append _ vs g.0 ∙ or_left (is_named vs x) _ n

was_more : (m a : ℕ) (zs : List Flat.Stmt) (past : List Flat.Op) → was_blocked m a past ≡ true → was_blocked m a (onto zs past) ≡ true
was_more m a [] past h = h
was_more m a (z ∷ zs) past h = was_more m a zs (z.op ∷ past) (or_right (is_block_at m a z.op) (was_blocked m a past) h)

module _ (ms : List Mem) where
  -- a location with a name was blocked by one of these statements
  abbrev WasBlocked : List Var → List Flat.Op → Location → Type 0
  WasBlocked vs past l = (is_named vs l.address.name ≡ true) × (was_blocked (mem_of ms l.mem.name) (var_of vs l.address.name) past ≡ true)

  -- what is blocked after these places was
  abbrev Blocks : List Place → List Var → List Flat.Op → Type 0
  Blocks before vs past = (l : Location) → is_blocked (hold_after l before) ≡ true → WasBlocked vs past l

  carry : (vs ws : List Var) (zs : List Flat.Stmt) (past : List Flat.Op) (l : Location) → Grown vs ws → WasBlocked vs past l → WasBlocked ws (onto zs past) l
  carry vs ws zs past l g w =
      let stays : var_of ws l.address.name ≡ var_of vs l.address.name = ap (λ us. var_of us l.address.name) g.1 ∙ var_stays vs g.0 l.address.name w.0 in (
        named_grown vs ws l.address.name g w.0,
        ap (λ n. was_blocked (mem_of ms l.mem.name) n (onto zs past)) stays ∙ was_more (mem_of ms l.mem.name) (var_of vs l.address.name) zs past w.1,
      )

  -- a place after which a location is blocked
  abbrev BlocksIt : Location → Stmt → Type 0
  BlocksIt l s = (sp : Span) × (at : Location) × (s ≡ Block sp at) × (same_location at l ≡ true)

  blocked_or : (l : Location) (h : Hold) (s : Stmt) (bs : List Branch) → is_blocked (after_place l h (Statement s bs)) ≡ true
      → (is_blocked h ≡ true) ⊎ BlocksIt l s
  blocked_or l h (Reserve sp at k) bs e = by (same_location at l) e
    where
      by : (b : Bool) → is_blocked (if b then Reserved k else h) ≡ true → (is_blocked h ≡ true) ⊎ BlocksIt l (Reserve sp at k)
      by true i = absurd (false≢true i)
      by false i = inl i
  blocked_or l h (Block sp at) bs e = by (same_location at l) refl e
    where
      by : (b : Bool) → same_location at l ≡ b → is_blocked (if b then Locks.after_block h else h) ≡ true → (is_blocked h ≡ true) ⊎ BlocksIt l (Block sp at)
      by true f i = inr (sp, at, refl, f)
      by false f i = inl i
  blocked_or l h (Release sp at) bs e = by (same_location at l) e
    where
      by : (b : Bool) → is_blocked (if b then Released else h) ≡ true → (is_blocked h ≡ true) ⊎ BlocksIt l (Release sp at)
      by true i = absurd (false≢true i)
      by false i = inl i
  blocked_or l h _ bs e = inl e

  block_here : (k : ℕ) (ws : List Var) (past : List Flat.Op) (l : Location) (s : Stmt) → ((at : Location) → location_of s ≡ Some at → IsNamed ms ws at)
      → BlocksIt l s → WasBlocked (vars_past ms ws s) (onto (seen_ops k (ops_of ms ws s)) past) l
  block_here k ws past l s named b =
      let parts = and_parts (bytes_eq b.1.mem.name l.mem.name) (bytes_eq b.1.address.name l.address.name) b.3 in
      let mem : b.1.mem.name ≡ l.mem.name = bytes_same b.1.mem.name l.mem.name parts.0 in
      let var : b.1.address.name ≡ l.address.name = bytes_same b.1.address.name l.address.name parts.1 in
      let there : is_named ws b.1.address.name ≡ true = (named b.1 (ap location_of b.2)).1 in
      subst (λ r. WasBlocked (vars_past ms ws r) (onto (seen_ops k (ops_of ms ws r)) past) l) (sym b.2) (
        subst (λ x. is_named ws x ≡ true) var there,
        or_left _ _
            (and_from _ _ (eq-eqb (mem_of ms b.1.mem.name) (mem_of ms l.mem.name) (ap (mem_of ms) mem))
            (eq-eqb (var_of ws b.1.address.name) (var_of ws l.address.name) (ap (var_of ws) var))),
      )

  step : (k : ℕ) (before : List Place) (past : List Flat.Op) (vs ws : List Var) (s : Stmt) (bs : List Branch) → Grown vs ws
      → ((at : Location) → location_of s ≡ Some at → IsNamed ms ws at) → Blocks before vs past
      → Blocks (before ++ Statement s bs ∷ []) (vars_past ms ws s) (onto (seen_ops k (ops_of ms ws s)) past)
  step k before past vs ws s bs g named i =
      λ l h. by l (blocked_or l (hold_after l before) s bs (ap is_blocked (sym (held_more l before (Statement s bs))) ∙ h))
    where
      by : (l : Location) → (is_blocked (hold_after l before) ≡ true) ⊎ BlocksIt l s
          → WasBlocked (vars_past ms ws s) (onto (seen_ops k (ops_of ms ws s)) past) l
      by l (inl e) = carry vs (vars_past ms ws s) (seen_ops k (ops_of ms ws s)) past l (grown_more vs ws (vars_past ms ws s) g (past_grown ms ws s)) (i l e)
      by l (inr b) = block_here k ws past l s named b

  blocked_some : (h : Hold) → is_blocked_for W h ≡ true → is_blocked h ≡ true
  blocked_some (Blocked k) i = refl
  blocked_some Nothing i = absurd (false≢true i)
  blocked_some (Reserved k) i = absurd (false≢true i)
  blocked_some Released i = absurd (false≢true i)

-- A PATH

-- on sites of a path that keep the rules on locks each write's location was blocked before
pub sites_let : (p : Pipe) (vs us : List Var) (before : List Place) (past : List Flat.Op) (ts : List Site) → Grows p.mems vs ts us
    → Each (KeepsLocks p) before (map place_of ts ++ closing p) → All (λ t. (l : Location) → location_of t.stmt ≡ Some l → IsNamed p.mems t.walk.vars l) ts
    →
    ((l : Location) → is_blocked (hold_after l before) ≡ true
    → (is_named vs l.address.name ≡ true) × (was_blocked (mem_of p.mems l.mem.name) (var_of vs l.address.name) past ≡ true))
    → all_let_in past (seen p.mems ts) ≡ true
sites_let p vs us before past [] g each named i = refl
sites_let p vs us before past (t ∷ ts) g each named i =
    here t.stmt refl
    (sites_let p (vars_past p.mems t.walk.vars t.stmt) us (before ++ place_of t ∷ [])
    (onto (seen_ops t.walk.stage (ops_of p.mems t.walk.vars t.stmt)) past) ts g.1 each.1 named.1
    (step p.mems t.walk.stage before past vs t.walk.vars t.stmt t.branches g.0 named.0 i))
  where
    write : (sp : Span) (at : Location) (v : Expr) → t.stmt ≡ Write sp at v → is_advisory_mem p.mems at.mem.name ≡ false
        → was_blocked (mem_of p.mems at.mem.name) (var_of t.walk.vars at.address.name) past ≡ true
    write sp at v e plain =
        (carry p.mems vs t.walk.vars [] past at g.0
        (i at
        (blocked_some p.mems (hold_after at before) (not-false _
        (ap (λ b. not b && not (is_blocked_for W (hold_after at before))) (sym plain)
        ∙ subst (λ s. Locks.lacks_hold p before (Statement s t.branches) ≡ false) e each.0.l1))))).1

    Passes : Flat.Op → Type 0
    Passes op =
        all_let_in (onto (seen_ops t.walk.stage (op ∷ [])) past) (seen p.mems ts) ≡ true
        → all_let_in past (seen_ops t.walk.stage (op ∷ []) ++ seen p.mems ts) ≡ true

    here : (s : Stmt) → t.stmt ≡ s → all_let_in (onto (seen_ops t.walk.stage (ops_of p.mems t.walk.vars s)) past) (seen p.mems ts) ≡ true
        → all_let_in past (seen_ops t.walk.stage (ops_of p.mems t.walk.vars s) ++ seen p.mems ts) ≡ true
    here (Write sp at v) e rest = by (is_advisory_mem p.mems at.mem.name) refl rest
      where
        by : (b : Bool) → is_advisory_mem p.mems at.mem.name ≡ b
            → Passes (write_op b (mem_of p.mems at.mem.name) (var_of t.walk.vars at.address.name) (flat_expr t.walk.vars v))
        by true j r = r
        by false j r = and_from _ _ (write sp at v e j) r
    here (Separator sp) e rest = rest
    here (CombRead sp x from) e rest = either_read Passes (is_advisory_mem p.mems from.mem.name) _ _ _ (λ r. r) (λ r. r) rest
    here (Bind sp x v) e rest = either_bind Passes (is_advised t.walk.vars v) _ _ (λ r. r) (λ r. r) rest
    here (SpecCall sp x args) e rest = rest
    here (DelayedRead sp x from) e rest = rest
    here (Reserve sp at R) e rest = rest
    here (Reserve sp at W) e rest = rest
    here (Block sp at) e rest = rest
    here (Release sp at) e rest = rest
    here (If sp (Variable x) when otherwise) e rest = rest
    here (If sp c when otherwise) e rest = rest
    here (Call sp args) e rest = rest
    here (Verify sp x args) e rest = rest
    here (Update sp x args) e rest = rest
    here (SpecCheck sp) e rest = rest
    here (SpecBarrier sp) e rest = rest

-- BEFORE THE STATEMENTS

params_still : (l : Location) (test : Place → Bool) (ps : List Param) (qs : List Place)
    → fold (after_place l) Nothing (filter test (map Parameter ps ++ qs)) ≡ fold (after_place l) Nothing (filter test qs)
params_still l test [] qs = refl
params_still l test (a ∷ ps) qs = at (test (Parameter a)) ∙ params_still l test ps qs
  where
    at : (b : Bool)
        → fold (after_place l) Nothing (if b then Parameter a ∷ filter test (map Parameter ps ++ qs) else filter test (map Parameter ps ++ qs)) ≡ fold
        (after_place l) Nothing (filter test (map Parameter ps ++ qs))
    at true = refl
    at false = refl

mems_still : (l : Location) (test : Place → Bool) (ms : List Mem) → fold (after_place l) Nothing (filter test (map Memory ms)) ≡ Nothing
mems_still l test [] = refl
mems_still l test (m ∷ ms) = at (test (Memory m)) ∙ mems_still l test ms
  where
    at : (b : Bool)
        → fold (after_place l) Nothing (if b then Memory m ∷ filter test (map Memory ms) else filter test (map Memory ms)) ≡ fold (after_place l) Nothing
        (filter test (map Memory ms))
    at true = refl
    at false = refl

-- before the statements of a source no location is blocked
pub none_blocked : (p : Pipe) (test : Place → Bool) (l : Location) → is_blocked (hold_after l (filter test (front_of p))) ≡ false
none_blocked p test l = ap is_blocked (params_still l test p.params (map Memory p.mems) ∙ mems_still l test p.mems)
