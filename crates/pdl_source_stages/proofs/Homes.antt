-- Reserves, releases, verifies and delayed reads: each in its stage, of memories that are there.
use Rattle.std.proofs.Common.{◌≡◌, refl, sym, ap, ap₂, ◌∙◌, subst, ℕ, suc, ◌+◌, ◌≤◌, ◌<◌, Bool, true, false, ◌&&◌, not, List, [], ◌∷◌, ◌++◌, map, length, append_assoc, Option, Some, None, unwrap_or, arith, if◌then◌else◌, ◌==◌, bytes_eq, slice_index_or, eq-eqb, eqb-true}
use Rattle.std.proofs.lemmas.Bool.{false≢true, and_parts, or_parts, not-false, eqb-false}
use Rattle.std.specs.List.{list_any}
use Rattle.pdl_kit.specs.declared.rule.Rule.TheVariants.{Z7, L2, S3, F3, F4}
use Rattle.pdl_semantics.specs.Tree.{R, W, Variable, Stmt, CombRead, Bind, Write, MemKind, Comb, Delayed, Advisory, DelayedRead, Reserve, Release, If, Mem, LockDecl, LockKind, Queue, Bypass, Rename, Pipe}
use Rattle.pdl_semantics.specs.Flat
use Rattle.pdl_semantics.specs.Flat.{is_delayed, is_advisory, list_all}
use Rattle.pdl_semantics.specs.Promises.{fits_kind}
use Rattle.pdl_semantics.specs.Flatten.{var_of, flat_expr, is_advisory_mem, is_advised, mem_of, mems_of, flat_lock, separators, first_stages, flat}
use Rattle.pdl_semantics.specs.Flatten
use Rattle.pdl_semantics.specs.Stages.{is_reserve, is_release, is_verify, verify_stage, reserve_stage, commit_stage, plain_mem, mem_at, in_stage}
use Rattle.pdl_rules.specs.Places.{Place, Parameter, Memory, Statement, places, statements}
use Rattle.pdl_rules.specs.Parts.{location_of, is_some_and}
use Rattle.pdl_rules.specs.Limits.{is_wrong_lock, is_width, is_depth, is_size, allows_lock}
use Rattle.pdl_rules.specs.Stages.{reserves_memory, releases_memory, is_elsewhere, stage_in, stage_after}
use Rattle.pdl_rules.specs.Speculation
use Rattle.pdl_rules.specs.Forks.{breaks_fetch_order, is_delayed_memory}
use Rattle.pdl_rules.specs.Refusal.{KeepsRules}
use Rattle.pdl_theory_turns.specs.Scans.{none_of, all_at}
use Rattle.pdl_theory_turns.specs.Facts.{is_exact}
use Rattle.pdl_source_stages.proofs.Sites.{Site, sites_of, place_of, All, front_of}
use Rattle.pdl_source_stages.proofs.Walks.{cut, cut_append, cut_all, at_front}
use Rattle.pdl_source_stages.proofs.BodyShape.{body_forked, stage_count}
use Rattle.pdl_source_stages.proofs.SiteStages.{all_both}
use Rattle.pdl_source_stages.proofs.SiteFacts.{Fine, all_fine, AtSite, each_stmt, each_fine, each_in_stage, all_at_each, none_each, op_of, from_op, read_none, bind_none, write_none}
use Rattle.pdl_source_stages.proofs.Trunks.{first_index, first_past, verify_first}
use Rattle.pdl_source_stages.proofs.Firsts.{Alike, one_stage, none_elsewhere, is_known, known_low, known_one, located}
use Rattle.pdl_word.proofs.Bytes.{bytes_same, bytes_refl}
use Rattle.pdl_semantics.specs.Sound.{is_fetch}
use Rattle.pdl_rules.proofs.EachPlace.{closing}
use Rattle.pdl_word.specs.Each.{Each}
use Rattle.pdl_word.proofs.Each.{each_weaker}

-- ALL OF A KIND

all_swap : {X : Type 0} (P : X → Site → Type 0) (ts : List Site) → ((x : X) → All (P x) ts) → All (λ t. (x : X) → P x t) ts
all_swap P [] h = tt
all_swap P (t ∷ ts) h = ((λ x. (h x).0), all_swap P ts (λ x. (h x).1))

-- numbers of memories are equal just where their names are
same_memory : (ms : List Mem) (n o : List ℕ) → is_known ms n ≡ true → is_known ms o ≡ true → (mem_of ms o == mem_of ms n) ≡ bytes_eq o n
same_memory ms n o h k = at (mem_of ms o == mem_of ms n) (bytes_eq o n) refl refl
  where
    at : (b c : Bool) → (mem_of ms o == mem_of ms n) ≡ b → bytes_eq o n ≡ c → b ≡ c
    at true true e f = refl
    at false false e f = refl
    at true false e f = absurd (false≢true (sym f ∙ ap (λ x. bytes_eq x n) (known_one ms o n k h (eqb-true (mem_of ms o) (mem_of ms n) e)) ∙ bytes_refl n))
    at false true e f = absurd (eqb-false (mem_of ms o) (mem_of ms n) e (ap (mem_of ms) (bytes_same o n f)))

-- RESERVES

reserve_alike : (p : Pipe) (n : List ℕ)
    → is_known p.mems n ≡ true → KeepsRules p → (t : Site) → Fine p t
    → Alike p.mems (is_reserve (mem_of p.mems n)) (reserves_memory n) t
reserve_alike p n k rules t h = at t.stmt refl
  where
    at : (s : Stmt) → t.stmt ≡ s → from_op (is_reserve (mem_of p.mems n)) (op_of p.mems t.walk.vars s) ≡ reserves_memory n (Statement s t.branches)
    at (Reserve sp l R) e = same_memory p.mems n l.mem.name k (located p rules t h l (ap location_of e))
    at (Reserve sp l W) e = same_memory p.mems n l.mem.name k (located p rules t h l (ap location_of e))
    at (If sp (Variable x) when otherwise) e = refl
    at (If sp c when otherwise) e = refl
    at (CombRead sp x l) e =
        read_none (is_reserve (mem_of p.mems n)) (is_advisory_mem p.mems l.mem.name) (length t.walk.vars) (mem_of p.mems l.mem.name)
        (var_of t.walk.vars l.address.name) refl refl
    at (Bind sp x v) e = bind_none (is_reserve (mem_of p.mems n)) (is_advised t.walk.vars v) (length t.walk.vars) (flat_expr t.walk.vars v) refl refl
    at (Write sp l v) e =
        write_none (is_reserve (mem_of p.mems n)) (is_advisory_mem p.mems l.mem.name) (mem_of p.mems l.mem.name) (var_of t.walk.vars l.address.name)
        (flat_expr t.walk.vars v) refl refl
    at s e = refl

reserve_elsewhere : (p : Pipe) (n : List ℕ) → KeepsRules p → (t : Site) → Fine p t
    → reserves_memory n (place_of t) ≡ true → is_elsewhere (reserves_memory n) t.front t.walk.stage ≡ false
reserve_elsewhere p n rules t h f = at t.stmt refl f
  where
    at : (s : Stmt) → t.stmt ≡ s → reserves_memory n (Statement s t.branches) ≡ true → is_elsewhere (reserves_memory n) t.front t.walk.stage ≡ false
    at (Reserve sp l k) e g =
        ap₂ (λ m i. is_elsewhere (reserves_memory m) t.front i) (sym (bytes_same l.mem.name n g)) (sym h.staged)
        ∙ rules L2 t.front (Statement (Reserve sp l k) t.branches) h.later (h.whole ∙ ap (λ s. t.front ++ Statement s t.branches ∷ h.later) e)
    at s e g = absurd (false≢true g)

release_alike : (p : Pipe) (n : List ℕ)
    → is_known p.mems n ≡ true → KeepsRules p → (t : Site) → Fine p t
    → Alike p.mems (is_release (mem_of p.mems n)) (releases_memory n) t
release_alike p n k rules t h = at t.stmt refl
  where
    at : (s : Stmt) → t.stmt ≡ s → from_op (is_release (mem_of p.mems n)) (op_of p.mems t.walk.vars s) ≡ releases_memory n (Statement s t.branches)
    at (Release sp l) e = same_memory p.mems n l.mem.name k (located p rules t h l (ap location_of e))
    at (Reserve sp l R) e = refl
    at (Reserve sp l W) e = refl
    at (If sp (Variable x) when otherwise) e = refl
    at (If sp c when otherwise) e = refl
    at (CombRead sp x l) e =
        read_none (is_release (mem_of p.mems n)) (is_advisory_mem p.mems l.mem.name) (length t.walk.vars) (mem_of p.mems l.mem.name)
        (var_of t.walk.vars l.address.name) refl refl
    at (Bind sp x v) e = bind_none (is_release (mem_of p.mems n)) (is_advised t.walk.vars v) (length t.walk.vars) (flat_expr t.walk.vars v) refl refl
    at (Write sp l v) e =
        write_none (is_release (mem_of p.mems n)) (is_advisory_mem p.mems l.mem.name) (mem_of p.mems l.mem.name) (var_of t.walk.vars l.address.name)
        (flat_expr t.walk.vars v) refl refl
    at s e = refl

release_elsewhere : (p : Pipe) (n : List ℕ) → KeepsRules p → (t : Site) → Fine p t
    → releases_memory n (place_of t) ≡ true → is_elsewhere (releases_memory n) t.front t.walk.stage ≡ false
release_elsewhere p n rules t h f = at t.stmt refl f
  where
    at : (s : Stmt) → t.stmt ≡ s → releases_memory n (Statement s t.branches) ≡ true → is_elsewhere (releases_memory n) t.front t.walk.stage ≡ false
    at (Release sp l) e g =
        ap₂ (λ m i. is_elsewhere (releases_memory m) t.front i) (sym (bytes_same l.mem.name n g)) (sym h.staged)
        ∙ rules L2 t.front (Statement (Release sp l) t.branches) h.later (h.whole ∙ ap (λ s. t.front ++ Statement s t.branches ∷ h.later) e)
    at s e g = absurd (false≢true g)

-- a kind of statement at a memory, each in the stage of the first
each_memory : (p : Pipe) (op_test : ℕ → Flat.Op → Bool) (test : List ℕ → Place → Bool)
    → ((t : Site) → Fine p t → (m : ℕ) (op : Flat.Op) → op_of p.mems t.walk.vars t.stmt ≡ Some op → op_test m op ≡ true
    → (n : List ℕ) × (is_known p.mems n ≡ true) × (mem_of p.mems n ≡ m) × (test n (place_of t) ≡ true))
    → ((n : List ℕ) → is_known p.mems n ≡ true
    → All (λ t. test n (place_of t) ≡ true → Some t.walk.stage ≡ Flatten.first_stage (op_test (mem_of p.mems n)) (flat p).stmts) (sites_of p))
    → KeepsRules p
    → Each (λ y. (m : ℕ) → op_test m y.op ≡ true → (m < length p.mems) × (Some y.stage ≡ Flatten.first_stage (op_test m) (flat p).stmts)) (flat p).stmts
each_memory p op_test test named same rules =
    each_stmt p (λ y. (m : ℕ) → op_test m y.op ≡ true → (m < length p.mems) × (Some y.stage ≡ Flatten.first_stage (op_test m) (flat p).stmts))
    (all_both (Fine p)
    (λ t. (n : List ℕ) → is_known p.mems n ≡ true → test n (place_of t) ≡ true
    → Some t.walk.stage ≡ Flatten.first_stage (op_test (mem_of p.mems n)) (flat p).stmts)
    (AtSite (λ y. (m : ℕ) → op_test m y.op ≡ true → (m < length p.mems) × (Some y.stage ≡ Flatten.first_stage (op_test m) (flat p).stmts)) p.mems)
    (λ t h k op e m f.
    let r = named t h m op e f in (
      subst (λ i. i < length p.mems) r.2 (known_low p.mems r.0 r.1),
      subst (λ i. Some t.walk.stage ≡ Flatten.first_stage (op_test i) (flat p).stmts) r.2 (k r.0 r.1 r.3),
    ))
    (sites_of p) (all_fine p rules)
    (all_swap
    (λ n t. is_known p.mems n ≡ true → test n (place_of t) ≡ true → Some t.walk.stage ≡ Flatten.first_stage (op_test (mem_of p.mems n)) (flat p).stmts)
    (sites_of p) (λ n. push n)))
  where
    push_all : (n : List ℕ) (ts : List Site)
        → (is_known p.mems n ≡ true
        → All (λ t. test n (place_of t) ≡ true → Some t.walk.stage ≡ Flatten.first_stage (op_test (mem_of p.mems n)) (flat p).stmts) ts)
        → All
        (λ t. is_known p.mems n ≡ true → test n (place_of t) ≡ true → Some t.walk.stage ≡ Flatten.first_stage (op_test (mem_of p.mems n)) (flat p).stmts) ts
    push_all n [] h = tt
    push_all n (t ∷ ts) h = ((λ k. (h k).0), push_all n ts (λ k. (h k).1))

    push : (n : List ℕ)
        → All (λ t. is_known p.mems n ≡ true → test n (place_of t) ≡ true → Some t.walk.stage ≡ Flatten.first_stage (op_test (mem_of p.mems n)) (flat p).stmts)
        (sites_of p)
    push n = push_all n (sites_of p) (same n)

-- a delayed read of a memory
abbrev pub is_fetch_of : ℕ → Flat.Op → Bool
is_fetch_of m (Flat.DelayedRead x n a) = n == m
is_fetch_of m _ = false

module _ (p : Pipe) (rules : KeepsRules p) where
  reserve_named : (t : Site) → Fine p t → (m : ℕ) (op : Flat.Op) → op_of p.mems t.walk.vars t.stmt ≡ Some op
      → is_reserve m op ≡ true
      → (n : List ℕ) × (is_known p.mems n ≡ true) × (mem_of p.mems n ≡ m) × (reserves_memory n (place_of t) ≡ true)
  reserve_named t h m op e f = at t.stmt refl (ap (from_op (is_reserve m)) e ∙ f)
    where
      at : (s : Stmt) → t.stmt ≡ s → from_op (is_reserve m) (op_of p.mems t.walk.vars s) ≡ true
          → (n : List ℕ) × (is_known p.mems n ≡ true) × (mem_of p.mems n ≡ m) × (reserves_memory n (Statement s t.branches) ≡ true)
      at (Reserve sp l R) i g = (l.mem.name, located p rules t h l (ap location_of i), eqb-true (mem_of p.mems l.mem.name) m g, bytes_refl l.mem.name)
      at (Reserve sp l W) i g = (l.mem.name, located p rules t h l (ap location_of i), eqb-true (mem_of p.mems l.mem.name) m g, bytes_refl l.mem.name)
      at (If sp (Variable x) when otherwise) i g = absurd (false≢true g)
      at (If sp c when otherwise) i g = absurd (false≢true g)
      at (CombRead sp x l) i g =
          absurd
          (false≢true (sym (read_none (is_reserve m) (is_advisory_mem p.mems l.mem.name) (length t.walk.vars) (mem_of p.mems l.mem.name)
          (var_of t.walk.vars l.address.name) refl refl) ∙ g))
      at (Bind sp x v) i g =
          absurd (false≢true (sym (bind_none (is_reserve m) (is_advised t.walk.vars v) (length t.walk.vars) (flat_expr t.walk.vars v) refl refl) ∙ g))
      at (Write sp l v) i g =
          absurd
          (false≢true (sym (write_none (is_reserve m) (is_advisory_mem p.mems l.mem.name) (mem_of p.mems l.mem.name) (var_of t.walk.vars l.address.name)
          (flat_expr t.walk.vars v) refl refl) ∙ g))
      at s i g = absurd (false≢true g)

  release_named : (t : Site) → Fine p t → (m : ℕ) (op : Flat.Op) → op_of p.mems t.walk.vars t.stmt ≡ Some op
      → is_release m op ≡ true
      → (n : List ℕ) × (is_known p.mems n ≡ true) × (mem_of p.mems n ≡ m) × (releases_memory n (place_of t) ≡ true)
  release_named t h m op e f = at t.stmt refl (ap (from_op (is_release m)) e ∙ f)
    where
      at : (s : Stmt) → t.stmt ≡ s → from_op (is_release m) (op_of p.mems t.walk.vars s) ≡ true
          → (n : List ℕ) × (is_known p.mems n ≡ true) × (mem_of p.mems n ≡ m) × (releases_memory n (Statement s t.branches) ≡ true)
      at (Release sp l) i g = (l.mem.name, located p rules t h l (ap location_of i), eqb-true (mem_of p.mems l.mem.name) m g, bytes_refl l.mem.name)
      at (Reserve sp l R) i g = absurd (false≢true g)
      at (Reserve sp l W) i g = absurd (false≢true g)
      at (If sp (Variable x) when otherwise) i g = absurd (false≢true g)
      at (If sp c when otherwise) i g = absurd (false≢true g)
      at (CombRead sp x l) i g =
          absurd
          (false≢true (sym (read_none (is_release m) (is_advisory_mem p.mems l.mem.name) (length t.walk.vars) (mem_of p.mems l.mem.name)
          (var_of t.walk.vars l.address.name) refl refl) ∙ g))
      at (Bind sp x v) i g =
          absurd (false≢true (sym (bind_none (is_release m) (is_advised t.walk.vars v) (length t.walk.vars) (flat_expr t.walk.vars v) refl refl) ∙ g))
      at (Write sp l v) i g =
          absurd
          (false≢true (sym (write_none (is_release m) (is_advisory_mem p.mems l.mem.name) (mem_of p.mems l.mem.name) (var_of t.walk.vars l.address.name)
          (flat_expr t.walk.vars v) refl refl) ∙ g))
      at s i g = absurd (false≢true g)

  -- L2
  each_reserve : Each (λ y. (m : ℕ) → is_reserve m y.op ≡ true → (m < length p.mems) × (Some y.stage ≡ Flatten.first_stage (is_reserve m) (flat p).stmts))
      (flat p).stmts
  each_reserve =
      each_memory p is_reserve reserves_memory reserve_named
      (λ n k. one_stage p rules (is_reserve (mem_of p.mems n)) (reserves_memory n) (λ a. refl) (λ m. refl)
      (reserve_alike p n k rules) (reserve_elsewhere p n rules)) rules

  each_release : Each (λ y. (m : ℕ) → is_release m y.op ≡ true → (m < length p.mems) × (Some y.stage ≡ Flatten.first_stage (is_release m) (flat p).stmts))
      (flat p).stmts
  each_release =
      each_memory p is_release releases_memory release_named
      (λ n k. one_stage p rules (is_release (mem_of p.mems n)) (releases_memory n) (λ a. refl) (λ m. refl)
      (release_alike p n k rules) (release_elsewhere p n rules)) rules

  -- the stage of the first is the memory's
  stage_or : (test : ℕ → Flat.Op → Bool) (d m s : ℕ) → m < length p.mems
      → Some s ≡ Flatten.first_stage (test m) (flat p).stmts
      → s ≡ unwrap_or (slice_index_or (first_stages test (flat p).stmts 0 p.mems) m None) d
  stage_or test d m s l e =
      ap (λ o. unwrap_or o d)
      (e ∙ ap (λ i. Flatten.first_stage (test i) (flat p).stmts) (let z : m ≡ 0 + m = omega arith in z)
      ∙ sym (first_index test (flat p).stmts 0 m p.mems l))

  -- all reserves of a memory stand in one stage, that of its first reserve
  pub reserves_in : (m : ℕ) → all_at (is_reserve m) (reserve_stage (flat p) m) (flat p).stmts ≡ true
  reserves_in m =
      all_at_each (is_reserve m) (reserve_stage (flat p) m) (flat p).stmts
      (each_weaker (λ y. (i : ℕ) → is_reserve i y.op ≡ true → (i < length p.mems) × (Some y.stage ≡ Flatten.first_stage (is_reserve i) (flat p).stmts))
      (λ y. is_reserve m y.op ≡ true → y.stage ≡ reserve_stage (flat p) m)
      (λ y h e. let r = h m e in stage_or is_reserve 0 m y.stage r.0 r.1) (flat p).stmts each_reserve)

  -- all releases of a memory stand in one stage, that of its first release
  pub releases_in : (m : ℕ) → all_at (is_release m) (commit_stage (flat p) m) (flat p).stmts ≡ true
  releases_in m =
      all_at_each (is_release m) (commit_stage (flat p) m) (flat p).stmts
      (each_weaker (λ y. (i : ℕ) → is_release i y.op ≡ true → (i < length p.mems) × (Some y.stage ≡ Flatten.first_stage (is_release i) (flat p).stmts))
      (λ y. is_release m y.op ≡ true → y.stage ≡ commit_stage (flat p) m)
      (λ y h e. let r = h m e in stage_or is_release (length (flat p).stages) m y.stage r.0 r.1) (flat p).stmts each_release)

  mems_long : (ms : List Mem) → length (mems_of ms) ≡ length ms
  mems_long [] = refl
  mems_long (m ∷ ms) = ap suc (mems_long ms)

  -- N1: a number that no memory has is reserved by no statement
  pub unreserved : (m : ℕ) → length (flat p).mems ≤ m → none_of (is_reserve m) (flat p).stmts ≡ true
  unreserved m l =
      none_each (is_reserve m) (flat p).stmts
      (each_weaker (λ y. (i : ℕ) → is_reserve i y.op ≡ true → (i < length p.mems) × (Some y.stage ≡ Flatten.first_stage (is_reserve i) (flat p).stmts))
      (λ y. is_reserve m y.op ≡ false) at (flat p).stmts each_reserve)
    where
      at : (y : Flat.Stmt)
          → ((i : ℕ) → is_reserve i y.op ≡ true → (i < length p.mems) × (Some y.stage ≡ Flatten.first_stage (is_reserve i) (flat p).stmts))
          → is_reserve m y.op ≡ false
      at y h = by (is_reserve m y.op) refl
        where
          by : (b : Bool) → is_reserve m y.op ≡ b → b ≡ false
          by true e = absurd (let r = (h m e).0 in let z = mems_long p.mems in let k : length (mems_of p.mems) ≤ m = l in omega arith)
          by false e = refl

  -- a number that no memory has is released in no stage of the pipe
  pub unreleased : (m : ℕ) → length (flat p).mems ≤ m → length (flat p).stages ≤ commit_stage (flat p) m
  unreleased m l =
      let z = mems_long p.mems in
      let k : length (mems_of p.mems) ≤ m = l in
      let e : commit_stage (flat p) m ≡ length (flat p).stages =
      ap (λ o. unwrap_or o (length (flat p).stages)) (first_past is_release (flat p).stmts 0 m p.mems (omega arith)) in
      omega arith

  -- S3
  verify_alike : (t : Site) → Fine p t → Alike p.mems is_verify Speculation.is_verify t
  verify_alike t h = at t.stmt
    where
      at : (s : Stmt) → from_op is_verify (op_of p.mems t.walk.vars s) ≡ Speculation.is_verify (Statement s t.branches)
      at (Reserve sp l R) = refl
      at (Reserve sp l W) = refl
      at (If sp (Variable x) when otherwise) = refl
      at (If sp c when otherwise) = refl
      at (CombRead sp x l) =
          read_none (is_verify) (is_advisory_mem p.mems l.mem.name) (length t.walk.vars) (mem_of p.mems l.mem.name)
          (var_of t.walk.vars l.address.name) refl refl
      at (Bind sp x v) = bind_none (is_verify) (is_advised t.walk.vars v) (length t.walk.vars) (flat_expr t.walk.vars v) refl refl
      at (Write sp l v) =
          write_none (is_verify) (is_advisory_mem p.mems l.mem.name) (mem_of p.mems l.mem.name) (var_of t.walk.vars l.address.name)
          (flat_expr t.walk.vars v) refl refl
      at s = refl

  verify_elsewhere : (t : Site) → Fine p t → Speculation.is_verify (place_of t) ≡ true → is_elsewhere Speculation.is_verify t.front t.walk.stage ≡ false
  verify_elsewhere t h e =
      ap (is_elsewhere Speculation.is_verify t.front) (sym h.staged)
      ∙ other (Speculation.is_verify (place_of t))
      (is_elsewhere Speculation.is_verify t.front (stage_in t.front t.branches)) e (rules S3 t.front (place_of t) h.later h.whole)
    where
      other : (a b : Bool) → a ≡ true → (a && b) ≡ false → b ≡ false
      other true b f g = g
      other false b f g = absurd (false≢true f)

  each_verify : Each (λ y. is_verify y.op ≡ true → Some y.stage ≡ Flatten.first_stage is_verify (flat p).stmts) (flat p).stmts
  each_verify =
      each_stmt p (λ y. is_verify y.op ≡ true → Some y.stage ≡ Flatten.first_stage is_verify (flat p).stmts)
      (all_both (Fine p)
      (λ t. Speculation.is_verify (place_of t) ≡ true → Some t.walk.stage ≡ Flatten.first_stage is_verify (flat p).stmts)
      (AtSite (λ y. is_verify y.op ≡ true → Some y.stage ≡ Flatten.first_stage is_verify (flat p).stmts) p.mems)
      (λ t h k op e f. k (sym (verify_alike t h) ∙ ap (from_op is_verify) e ∙ f))
      (sites_of p) (all_fine p rules)
      (one_stage p rules is_verify Speculation.is_verify (λ a. refl) (λ m. refl) verify_alike verify_elsewhere))

  -- all verifies of a source that breaks no rule stand in V
  pub verifies_in : (v : ℕ) → verify_stage (flat p).stmts ≡ Some v → all_at is_verify v (flat p).stmts ≡ true
  verifies_in v e =
      all_at_each is_verify v (flat p).stmts
      (each_weaker (λ y. is_verify y.op ≡ true → Some y.stage ≡ Flatten.first_stage is_verify (flat p).stmts) (λ y. is_verify y.op ≡ true → y.stage ≡ v)
      (λ y h f. ap (λ o. unwrap_or o 0) (h f ∙ sym (verify_first (flat p).stmts) ∙ e)) (flat p).stmts each_verify)

  -- DELAYED READS

  -- F3
  fetch_alike : (n : List ℕ) → is_known p.mems n ≡ true → (t : Site) → Fine p t → Alike p.mems (is_fetch_of (mem_of p.mems n)) (breaks_fetch_order n) t
  fetch_alike n k t h = at t.stmt refl
    where
      at : (s : Stmt) → t.stmt ≡ s → from_op (is_fetch_of (mem_of p.mems n)) (op_of p.mems t.walk.vars s) ≡ breaks_fetch_order n (Statement s t.branches)
      at (DelayedRead sp x l) e = same_memory p.mems n l.mem.name k (located p rules t h l (ap location_of e))
      at (Reserve sp l R) e = refl
      at (Reserve sp l W) e = refl
      at (If sp (Variable x) when otherwise) e = refl
      at (If sp c when otherwise) e = refl
      at (CombRead sp x l) e =
          read_none (is_fetch_of (mem_of p.mems n)) (is_advisory_mem p.mems l.mem.name) (length t.walk.vars) (mem_of p.mems l.mem.name)
          (var_of t.walk.vars l.address.name) refl refl
      at (Bind sp x v) e = bind_none (is_fetch_of (mem_of p.mems n)) (is_advised t.walk.vars v) (length t.walk.vars) (flat_expr t.walk.vars v) refl refl
      at (Write sp l v) e =
          write_none (is_fetch_of (mem_of p.mems n)) (is_advisory_mem p.mems l.mem.name) (mem_of p.mems l.mem.name) (var_of t.walk.vars l.address.name)
          (flat_expr t.walk.vars v) refl refl
      at s e = refl

  fetch_elsewhere : (n : List ℕ) (t : Site) → Fine p t → breaks_fetch_order n (place_of t) ≡ true
      → is_elsewhere (breaks_fetch_order n) t.front t.walk.stage ≡ false
  fetch_elsewhere n t h f = at t.stmt refl f
    where
      at : (s : Stmt) → t.stmt ≡ s → breaks_fetch_order n (Statement s t.branches) ≡ true → is_elsewhere (breaks_fetch_order n) t.front t.walk.stage ≡ false
      at (DelayedRead sp x l) e g =
          none_elsewhere (breaks_fetch_order n) t.front t.walk.stage
          (ap (λ m. list_any (breaks_fetch_order m) t.front) (sym (bytes_same l.mem.name n g))
          ∙ (or_parts (stage_in t.front t.branches == stage_after (places p)) (list_any (breaks_fetch_order l.mem.name) t.front)
          (rules F3 t.front (Statement (DelayedRead sp x l) t.branches) h.later (h.whole ∙ ap (λ s. t.front ++ Statement s t.branches ∷ h.later) e))).1)
      at s e g = absurd (false≢true g)

  -- a site whose flat statement is a delayed read of memory m is a delayed read of a name that has the number m
  pub fetch_named : (t : Site) → Fine p t → (m : ℕ) (op : Flat.Op) → op_of p.mems t.walk.vars t.stmt ≡ Some op
      → is_fetch_of m op ≡ true
      → (n : List ℕ) × (is_known p.mems n ≡ true) × (mem_of p.mems n ≡ m) × (breaks_fetch_order n (place_of t) ≡ true)
  fetch_named t h m op e f = at t.stmt refl (ap (from_op (is_fetch_of m)) e ∙ f)
    where
      at : (s : Stmt) → t.stmt ≡ s → from_op (is_fetch_of m) (op_of p.mems t.walk.vars s) ≡ true
          → (n : List ℕ) × (is_known p.mems n ≡ true) × (mem_of p.mems n ≡ m) × (breaks_fetch_order n (Statement s t.branches) ≡ true)
      at (DelayedRead sp x l) i g = (l.mem.name, located p rules t h l (ap location_of i), eqb-true (mem_of p.mems l.mem.name) m g, bytes_refl l.mem.name)
      at (Reserve sp l R) i g = absurd (false≢true g)
      at (Reserve sp l W) i g = absurd (false≢true g)
      at (If sp (Variable x) when otherwise) i g = absurd (false≢true g)
      at (If sp c when otherwise) i g = absurd (false≢true g)
      at (CombRead sp x l) i g =
          absurd
          (false≢true (sym (read_none (is_fetch_of m) (is_advisory_mem p.mems l.mem.name) (length t.walk.vars) (mem_of p.mems l.mem.name)
          (var_of t.walk.vars l.address.name) refl refl) ∙ g))
      at (Bind sp x v) i g =
          absurd (false≢true (sym (bind_none (is_fetch_of m) (is_advised t.walk.vars v) (length t.walk.vars) (flat_expr t.walk.vars v) refl refl) ∙ g))
      at (Write sp l v) i g =
          absurd
          (false≢true (sym (write_none (is_fetch_of m) (is_advisory_mem p.mems l.mem.name) (mem_of p.mems l.mem.name) (var_of t.walk.vars l.address.name)
          (flat_expr t.walk.vars v) refl refl) ∙ g))
      at s i g = absurd (false≢true g)

  each_fetch : Each (λ y. (m : ℕ) → is_fetch_of m y.op ≡ true → (m < length p.mems) × (Some y.stage ≡ Flatten.first_stage (is_fetch_of m) (flat p).stmts))
      (flat p).stmts
  each_fetch =
      each_memory p is_fetch_of breaks_fetch_order fetch_named
      (λ n k. one_stage p rules (is_fetch_of (mem_of p.mems n)) (breaks_fetch_order n) (λ a. refl) (λ m. refl) (fetch_alike n k) (fetch_elsewhere n)) rules

  -- the stage of a memory's delayed read
  abbrev pub fetch_at : ℕ → ℕ
  fetch_at m = unwrap_or (Flatten.first_stage (is_fetch_of m) (flat p).stmts) 0

  -- each delayed read stands in the stage of its memory's delayed read, and its memory is there
  pub fetch_here : Each (λ y. (x m a : ℕ) → y.op ≡ Flat.DelayedRead x m a → (fetch_at m ≡ y.stage) × (m < length (flat p).mems)) (flat p).stmts
  fetch_here =
      each_weaker (λ y. (m : ℕ) → is_fetch_of m y.op ≡ true → (m < length p.mems) × (Some y.stage ≡ Flatten.first_stage (is_fetch_of m) (flat p).stmts))
      (λ y. (x m a : ℕ) → y.op ≡ Flat.DelayedRead x m a → (fetch_at m ≡ y.stage) × (m < length (flat p).mems))
      (λ y h x m a e.
      let r = h m (ap (is_fetch_of m) e ∙ eq-eqb m m refl) in
      (ap (λ o. unwrap_or o 0) (sym r.1), subst (λ n. m < n) (sym (mems_long p.mems)) r.0))
      (flat p).stmts each_fetch

  -- F3: none in the last stage
  each_last : Each (λ y. is_fetch y.op ≡ true → suc y.stage ≡ length (flat p).stages → ⊥) (flat p).stmts
  each_last =
      each_fine p rules (λ y. is_fetch y.op ≡ true → suc y.stage ≡ length (flat p).stages → ⊥)
      (λ t h op e f g. at t h t.stmt refl (ap (from_op is_fetch) e ∙ f) g)
    where
      after : stage_after (places p) ≡ separators p.body
      after =
          let a = cut_append (front_of p ++ statements [] p.body) (closing p) in
          let b = cut_append (front_of p) (statements [] p.body) in
          let c = cut_all [] p.body in
          let d = (at_front p).begun in
          let e : cut (closing p) ≡ 0 = refl in
          let f : cut (places p) ≡ separators p.body = omega arith in
          f

      at : (t : Site) → Fine p t → (s : Stmt) → t.stmt ≡ s → from_op is_fetch (op_of p.mems t.walk.vars s) ≡ true
          → suc t.walk.stage ≡ length (flat p).stages → ⊥
      at t h (DelayedRead sp x l) e f g =
          let k = stage_count p (body_forked p rules) in
          let r = (or_parts (stage_in t.front t.branches == stage_after (places p)) (list_any (breaks_fetch_order l.mem.name) t.front)
          (rules F3 t.front (Statement (DelayedRead sp x l) t.branches) h.later (h.whole ∙ ap (λ s. t.front ++ Statement s t.branches ∷ h.later) e))).0
          in
          let z = h.staged in
          let y = after in
          eqb-false (stage_in t.front t.branches) (stage_after (places p)) r (omega arith)
      at t h (Reserve sp l R) e f g = false≢true f
      at t h (Reserve sp l W) e f g = false≢true f
      at t h (If sp (Variable x) when otherwise) e f g = false≢true f
      at t h (If sp c when otherwise) e f g = false≢true f
      at t h (CombRead sp x l) e f g =
          false≢true
          (sym (read_none (is_fetch) (is_advisory_mem p.mems l.mem.name) (length t.walk.vars) (mem_of p.mems l.mem.name)
          (var_of t.walk.vars l.address.name) refl refl) ∙ f)
      at t h (Bind sp x v) e f g =
          false≢true (sym (bind_none (is_fetch) (is_advised t.walk.vars v) (length t.walk.vars) (flat_expr t.walk.vars v) refl refl) ∙ f)
      at t h (Write sp l v) e f g =
          false≢true
          (sym (write_none (is_fetch) (is_advisory_mem p.mems l.mem.name) (mem_of p.mems l.mem.name) (var_of t.walk.vars l.address.name)
          (flat_expr t.walk.vars v) refl refl) ∙ f)
      at t h s e f g = false≢true f

  -- no delayed read stands in the last stage
  pub fetch_inside : (s : ℕ) → suc s ≡ length (flat p).stages → none_of is_fetch (in_stage s (flat p).stmts) ≡ true
  fetch_inside s e =
      none_each is_fetch (in_stage s (flat p).stmts)
      (each_in_stage (λ y. is_fetch y.op ≡ false) s (flat p).stmts
      (each_weaker (λ y. is_fetch y.op ≡ true → suc y.stage ≡ length (flat p).stages → ⊥)
      (λ y. y.stage ≡ s → is_fetch y.op ≡ false) at (flat p).stmts each_last))
    where
      at : (y : Flat.Stmt) → (is_fetch y.op ≡ true → suc y.stage ≡ length (flat p).stages → ⊥) → y.stage ≡ s → is_fetch y.op ≡ false
      at y h f = by (is_fetch y.op) refl
        where
          by : (b : Bool) → is_fetch y.op ≡ b → b ≡ false
          by true g = absurd (h g (ap suc f ∙ e))
          by false g = refl

  -- Z7, F4: the lock of a delayed memory
  sound_mems : (front : List Place) (ms : List Mem) (later : List Place) → places p ≡ front ++ (map Memory ms ++ later)
      → (n : List ℕ) → is_delayed_memory ms n ≡ true
      → is_exact (slice_index_or (mems_of ms) (mem_of ms n) plain_mem).lock ≡ true
  sound_mems front [] later e n h = absurd (false≢true h)
  sound_mems front (m ∷ ms) later e n h =
      at (bytes_eq m.name.name n) h (sound_mems (front ++ Memory m ∷ []) ms later (e ∙ sym (append_assoc front (Memory m ∷ []) (map Memory ms ++ later))) n)
    where
      kind : (k : LockKind) (d s : ℕ) → allows_lock d true k s ≡ true
          → is_exact (flat_lock (Some (record { kind = k; size = record { value = s; span = m.name.span } }))) ≡ true
      kind Queue d s i = refl
      kind Bypass d s i = absurd (false≢true i)
      kind Rename d s i = absurd (false≢true i)

      lock : (o : Option LockDecl) → is_some_and (is_wrong_lock m) o ≡ false → is_delayed m.kind ≡ true → is_exact (flat_lock o) ≡ true
      lock None i j = refl
      lock (Some l) i j =
          kind l.kind m.depth.value l.size.value
          (ap (λ b. allows_lock m.depth.value b l.kind l.size.value) (sym j)
          ∙
          (and_parts (is_size l.size.value) (allows_lock m.depth.value (is_delayed m.kind) l.kind l.size.value)
          (not-false _ (or_parts (is_advisory m.kind) _ i).1)).1)

      at : (b : Bool) → (if b then is_delayed m.kind else is_delayed_memory ms n) ≡ true
          → (is_delayed_memory ms n ≡ true → is_exact (slice_index_or (mems_of ms) (mem_of ms n) plain_mem).lock ≡ true)
          → is_exact (slice_index_or (mems_of (m ∷ ms)) (if b then 0 else suc (mem_of ms n)) plain_mem).lock ≡ true
      at true i k =
          lock m.lock
          (or_parts (not (is_width m.width.value && is_depth m.depth.value)) (is_some_and (is_wrong_lock m) m.lock)
          (rules Z7 front (Memory m) (map Memory ms ++ later) e)).1 i
      at false i k = k i

  -- the lock of a memory that is read delayed is one in which a ready read finds no pending write
  pub fetch_exact : Each (λ y. (x m a : ℕ) → y.op ≡ Flat.DelayedRead x m a → is_exact (mem_at (flat p) m).lock ≡ true) (flat p).stmts
  fetch_exact =
      each_fine p rules (λ y. (x m a : ℕ) → y.op ≡ Flat.DelayedRead x m a → is_exact (mem_at (flat p) m).lock ≡ true)
      (λ t h op e x m a f. at t h t.stmt refl m (ap (from_op (is_fetch_of m)) (e ∙ ap Some f) ∙ eq-eqb m m refl))
    where
      at : (t : Site) → Fine p t → (s : Stmt) → t.stmt ≡ s → (m : ℕ)
          → from_op (is_fetch_of m) (op_of p.mems t.walk.vars s) ≡ true → is_exact (mem_at (flat p) m).lock ≡ true
      at t h (DelayedRead sp x l) e m f =
          subst (λ i. is_exact (mem_at (flat p) i).lock ≡ true) (eqb-true (mem_of p.mems l.mem.name) m f)
          (sound_mems (map Parameter p.params) p.mems (statements [] p.body ++ closing p)
          (ap (λ l. l ++ closing p) (append_assoc (map Parameter p.params) (map Memory p.mems) (statements [] p.body))
          ∙ append_assoc (map Parameter p.params) (map Memory p.mems ++ statements [] p.body) (closing p)
          ∙ ap (λ l. map Parameter p.params ++ l) (append_assoc (map Memory p.mems) (statements [] p.body) (closing p)))
          l.mem.name
          (not-false _
          (rules F4 t.front (Statement (DelayedRead sp x l) t.branches) h.later (h.whole ∙ ap (λ s. t.front ++ Statement s t.branches ∷ h.later) e))))
      at t h (Reserve sp l R) e m f = absurd (false≢true f)
      at t h (Reserve sp l W) e m f = absurd (false≢true f)
      at t h (If sp (Variable x) when otherwise) e m f = absurd (false≢true f)
      at t h (If sp c when otherwise) e m f = absurd (false≢true f)
      at t h (CombRead sp x l) e m f =
          absurd
          (false≢true (sym (read_none (is_fetch_of m) (is_advisory_mem p.mems l.mem.name) (length t.walk.vars) (mem_of p.mems l.mem.name)
          (var_of t.walk.vars l.address.name) refl refl) ∙ f))
      at t h (Bind sp x v) e m f =
          absurd (false≢true (sym (bind_none (is_fetch_of m) (is_advised t.walk.vars v) (length t.walk.vars) (flat_expr t.walk.vars v) refl refl) ∙ f))
      at t h (Write sp l v) e m f =
          absurd
          (false≢true (sym (write_none (is_fetch_of m) (is_advisory_mem p.mems l.mem.name) (mem_of p.mems l.mem.name) (var_of t.walk.vars l.address.name)
          (flat_expr t.walk.vars v) refl refl) ∙ f))
      at t h s e m f = absurd (false≢true f)

  -- in the flat form a memory is advisory where the memory of its name is
  pub advisory_is : (ms : List Mem) (n : List ℕ) → is_advisory (slice_index_or (mems_of ms) (mem_of ms n) plain_mem).kind ≡ Flatten.is_advisory_mem ms n
  advisory_is [] n = refl
  advisory_is (m ∷ ms) n = at (bytes_eq m.name.name n) (advisory_is ms n)
    where
      at : (b : Bool) → is_advisory (slice_index_or (mems_of ms) (mem_of ms n) plain_mem).kind ≡ Flatten.is_advisory_mem ms n
          → is_advisory (slice_index_or (mems_of (m ∷ ms)) (if b then 0 else suc (mem_of ms n)) plain_mem).kind
          ≡ (if b then is_advisory m.kind else Flatten.is_advisory_mem ms n)
      at true k = refl
      at false k = k

  slow_plain : (ms : List Mem) (n : List ℕ) → is_delayed_memory ms n ≡ true → Flatten.is_advisory_mem ms n ≡ false
  slow_plain [] n h = absurd (false≢true h)
  slow_plain (m ∷ ms) n h = at (bytes_eq m.name.name n) h (slow_plain ms n)
    where
      kind : (k : MemKind) → is_delayed k ≡ true → is_advisory k ≡ false
      kind Comb i = refl
      kind Delayed i = refl
      kind Advisory i = absurd (false≢true i)

      at : (b : Bool)
          → (if b then is_delayed m.kind else is_delayed_memory ms n) ≡ true
          → (is_delayed_memory ms n ≡ true → Flatten.is_advisory_mem ms n ≡ false)
          → (if b then is_advisory m.kind else Flatten.is_advisory_mem ms n) ≡ false
      at true i k = kind m.kind i
      at false i k = k i

  -- of what a site does
  abbrev fits_some : Option Flat.Op → Bool
  fits_some None = true
  fits_some (Some op) = fits_kind (flat p) op

  -- each flat statement takes its memory by its kind
  pub advice_fits : Each (λ y. fits_kind (flat p) y.op ≡ true) (flat p).stmts
  advice_fits = each_fine p rules (λ y. fits_kind (flat p) y.op ≡ true) (λ t h op e. sym (ap fits_some e) ∙ at t h t.stmt refl)
    where
      read : (b : Bool) (n : List ℕ) (x a : ℕ) → Flatten.is_advisory_mem p.mems n ≡ b → fits_kind (flat p) (Flatten.read_op b x (mem_of p.mems n) a) ≡ true
      read true n x a i = refl
      read false n x a i = ap not (advisory_is p.mems n ∙ i)

      written : (b : Bool) (n : List ℕ) (a : ℕ) (v : Flat.Expr)
          → Flatten.is_advisory_mem p.mems n ≡ b → fits_kind (flat p) (Flatten.write_op b (mem_of p.mems n) a v) ≡ true
      written true n a v i = advisory_is p.mems n ∙ i
      written false n a v i = refl

      bound : (b : Bool) (x : ℕ) (v : Flat.Expr) → fits_kind (flat p) (Flatten.bind_op b x v) ≡ true
      bound true x v = refl
      bound false x v = refl

      at : (t : Site) → Fine p t → (s : Stmt) → t.stmt ≡ s → fits_some (op_of p.mems t.walk.vars s) ≡ true
      at t h (CombRead sp x l) e = read (Flatten.is_advisory_mem p.mems l.mem.name) l.mem.name _ _ refl
      at t h (Bind sp x v) e = bound (Flatten.is_advised t.walk.vars v) _ _
      at t h (Write sp l v) e = written (Flatten.is_advisory_mem p.mems l.mem.name) l.mem.name _ _ refl
      at t h (DelayedRead sp x l) e =
          ap not
          (advisory_is p.mems l.mem.name
          ∙ slow_plain p.mems l.mem.name
          (not-false _ (rules F4 t.front (Statement (DelayedRead sp x l) t.branches) h.later
          (h.whole ∙ ap (λ s. t.front ++ Statement s t.branches ∷ h.later) e))))
      at t h (Reserve sp l R) e = refl
      at t h (Reserve sp l W) e = refl
      at t h (If sp (Variable x) when otherwise) e = refl
      at t h (If sp c when otherwise) e = refl
      at t h s e = refl

  -- so the flat form does
  pub advice : list_all (λ y. fits_kind (flat p) y.op) (flat p).stmts ≡ true
  advice = all_each (flat p).stmts advice_fits
    where
      all_each : (ys : List Flat.Stmt) → Each (λ y. fits_kind (flat p) y.op ≡ true) ys → list_all (λ y. fits_kind (flat p) y.op) ys ≡ true
      all_each [] h = refl
      all_each (y ∷ ys) h = ap₂ (λ a b. a && b) h.0 (all_each ys h.1)
