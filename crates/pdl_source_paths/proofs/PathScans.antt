-- The scans of the statements on a path of a source that breaks no rule.
use Rattle.std.proofs.Common.{◌≡◌, refl, sym, ap, ◌∙◌, subst, ℕ, suc, ◌≤◌, ◌<◌, ◌⊎◌, inl, inr, Bool, true, false, ◌&&◌, not, List, [], ◌∷◌, ◌++◌, length, map, nat_lt, nat_le, bytes_eq, Option, Some, arith, append_assoc, append-nil, le-leb, leb-true, lt-ltb, eq-eqb, ⊎_elim}
use Rattle.std.proofs.lemmas.Bool.{false≢true, and_parts, and_from, or_left}
use Rattle.std.specs.List.{list_any}
use Rattle.pdl_semantics.specs.Tree.{Location, R, W, Stmt, Separator, Reserve, Mem, Pipe}
use Rattle.pdl_semantics.specs.Flat
use Rattle.pdl_semantics.specs.Flatten.{Var, mem_of, is_advisory_mem}
use Rattle.pdl_semantics.specs.Stages.{mem_at, is_reserve, reserve_stage, commit_stage}
use Rattle.pdl_rules.specs.Places.{Place, Statement, Branch}
use Rattle.pdl_rules.specs.Parts.{location_of}
use Rattle.pdl_rules.specs.Limits.{is_separator}
use Rattle.pdl_rules.specs.Locks.{is_locked, most_reservations}
use Rattle.pdl_theory_turns.proofs.Apart.{total}
use Rattle.pdl_rules.specs.Stages.{reserves_memory}
use Rattle.pdl_rules.specs.Speculation.{releases_unsure}
use Rattle.pdl_rules.specs.Speculation
use Rattle.pdl_rules.specs.Typed.{is_memory}
use Rattle.pdl_rules.proofs.EachPlace.{Each, closing}
use Rattle.pdl_rules.proofs.SingleWrites.{KeepsLocks, AreBacked, backed_next}
use Rattle.pdl_rules.proofs.KnownVariables.{any_split}
use Rattle.pdl_theory_turns.specs.Scans.{is_plain, Scan, reads_ok, Phase, phases_ok, phase_all, is_over}
use Rattle.pdl_theory_turns.specs.GuessScans.{Making, makings_ok, making_all, stands_before, all_sure}
use Rattle.pdl_theory_turns.specs.Checks.{in_text_order}
use Rattle.pdl_source_stages.proofs.Sites.{Site, place_of, All}
use Rattle.pdl_source_paths.proofs.PathStatements.{ops_of, ops, seen_ops, seen}
use Rattle.pdl_source_paths.proofs.Variables.{IsNamed}
use Rattle.pdl_source_paths.proofs.Growth.{vars_past, Grows}
use Rattle.pdl_source_paths.proofs.Order.{Next, Rises}
use Rattle.pdl_source_paths.proofs.SiteStages.{some_op}
use Rattle.pdl_source_paths.proofs.ReadsKept.{Scanned, scanned_grown, scanned_next, scan_ok, reads_append, reads_at, opens_ops}
use Rattle.pdl_source_paths.proofs.Standing.{Stands}
use Rattle.pdl_source_paths.proofs.WritesKept.{stands_grown, stands_next, ends_over, phases_append, phase_append, phase_ops}
use Rattle.pdl_source_paths.proofs.Calls.{Stood, Asked, stood_by, makings_append, making_append, making_ops}
use Rattle.pdl_source_paths.proofs.ReleaseBarriers.{sure_by, sures_append, barred_ops}
use Rattle.pdl_word.proofs.Bytes.{bytes_same}

-- what is known of each site on a path
pub record Known (p : Pipe) (q : Flat.Pipe) (t : Site) : Type 0 where
  pub located : (at : Location) → location_of t.stmt ≡ Some at → IsNamed p.mems t.walk.vars at
  pub reserves : (i : ℕ) → some_op (is_reserve i) (ops p.mems t) ≡ true → t.walk.stage ≡ reserve_stage q i
  pub late : (at : Location) → reads_at t.stmt ≡ Some at → is_locked p.mems at.mem.name ≡ true → t.walk.stage ≤ commit_stage q (mem_of p.mems at.mem.name)
  pub inside : t.walk.stage < length q.stages

-- a separator does nothing
cut_or : (ms : List Mem) (vs : List Var) (bs : List Branch) (s : Stmt)
    → ((is_separator (Statement s bs) ≡ true) × (ops_of ms vs s ≡ [])) ⊎ (is_separator (Statement s bs) ≡ false)
cut_or ms vs bs (Separator sp) = inl (refl, refl)
cut_or ms vs bs s = inr refl

-- IN ORDER

order_ops : (l k : ℕ) (os : List Flat.Op) (rest : List Flat.Stmt)
    → l ≤ k → in_text_order k rest ≡ true → in_text_order l (seen_ops k os ++ rest) ≡ true
order_ops l k [] rest h i = lower l k rest h i
  where
    lower : (l k : ℕ) (xs : List Flat.Stmt) → l ≤ k → in_text_order k xs ≡ true → in_text_order l xs ≡ true
    lower l k [] h i = refl
    lower l k (x ∷ xs) h i =
        let parts = and_parts (nat_le k x.stage) (in_text_order x.stage xs) i in
        and_from _ _ (le-leb l x.stage (low (nat_le k x.stage) refl parts.0)) parts.1
      where
        low : (b : Bool) → nat_le k x.stage ≡ b → b ≡ true → l ≤ x.stage
        low true e f = let j : k ≤ x.stage = leb-true k x.stage e in omega arith
        low false e f = absurd (false≢true f)
order_ops l k (op ∷ os) rest h i = and_from _ _ (le-leb l k h) (order_ops k k os rest (let j : k ≤ k = omega arith in j) i)

-- the flat statements of sites that rise from stage k on stand in the order of their stages too
pub order_along : (ms : List Mem) (k end : ℕ) (ts : List Site) → Rises k ts end → in_text_order k (seen ms ts) ≡ true
order_along ms k end [] r = refl
order_along ms k end (t ∷ ts) r = at (cut_or ms t.walk.vars t.branches t.stmt) r (λ n h. order_along ms n end ts h)
  where
    lower : (a b : ℕ) (xs : List Flat.Stmt) → a ≤ b → in_text_order b xs ≡ true → in_text_order a xs ≡ true
    lower a b xs h i = order_ops a b [] xs h i

    at : ((is_separator (place_of t) ≡ true) × (ops_of ms t.walk.vars t.stmt ≡ [])) ⊎ (is_separator (place_of t) ≡ false)
        → Next (is_separator (place_of t)) k t.walk.stage (λ n. Rises n ts end)
        → ((n : ℕ) → Rises n ts end → in_text_order n (seen ms ts) ≡ true) → in_text_order k (seen ms (t ∷ ts)) ≡ true
    at (inl e) h f =
        ap (λ os. in_text_order k (seen_ops t.walk.stage os ++ seen ms ts)) e.1
        ∙ lower k (suc k) (seen ms ts) (omega arith) (f (suc k) (subst (λ b. Next b k t.walk.stage (λ n. Rises n ts end)) e.0 h))
    at (inr e) h f =
        let j = subst (λ b. Next b k t.walk.stage (λ n. Rises n ts end)) e h in
        order_ops k t.walk.stage (ops ms t) (seen ms ts) j.0 (f t.walk.stage j.1)

-- TESTS OF EACH STATEMENT

-- each of these operations passes the test
abbrev pub ops_all : (Flat.Op → Bool) → List Flat.Op → Bool
ops_all test [] = true
ops_all test (op ∷ os) = test op && ops_all test os

-- a list passes a test of all its statements where two parts of it do
pub list_append : (test : Flat.Stmt → Bool) (xs ys : List Flat.Stmt)
    → Flat.list_all test xs ≡ true → Flat.list_all test ys ≡ true → Flat.list_all test (xs ++ ys) ≡ true
list_append test [] ys h i = i
list_append test (x ∷ xs) ys h i = let parts = and_parts (test x) (Flat.list_all test xs) h in and_from _ _ parts.0 (list_append test xs ys parts.1 i)

inside_ops : (n k : ℕ) (os : List Flat.Op) → k < n → Flat.list_all (λ (x : Flat.Stmt). nat_lt x.stage n) (seen_ops k os) ≡ true
inside_ops n k [] h = refl
inside_ops n k (op ∷ os) h = and_from _ _ (lt-ltb k n h) (inside_ops n k os h)

-- the flat statements of sites on a path stand in stages of the pipe, as the sites do
pub inside_along : (p : Pipe) (q : Flat.Pipe) (ts : List Site) → All (Known p q) ts
    → Flat.list_all (λ (x : Flat.Stmt). nat_lt x.stage (length q.stages)) (seen p.mems ts) ≡ true
inside_along p q [] h = refl
inside_along p q (t ∷ ts) h =
    list_append _ (seen_ops t.walk.stage (ops p.mems t)) (seen p.mems ts)
    (inside_ops (length q.stages) t.walk.stage (ops p.mems t) h.0.inside) (inside_along p q ts h.1)

-- ALONG A PATH

-- the reserves so far stand in stage k or before
abbrev Since : Pipe → Flat.Pipe → ℕ → List Place → Type 0
Since p q k before = (m : List ℕ) → is_memory p.mems m ≡ true → list_any (reserves_memory m) before ≡ true → reserve_stage q (mem_of p.mems m) ≤ k

-- each of these sites keeps what the rules of calls and guesses ask of it after the places before it
abbrev pub AllAsked : Pipe → Option ℕ → List Place → List Site → Type 0
AllAsked p v before [] = Unit {0}
AllAsked p v before (t ∷ ts) = Asked p.mems v before t.branches t.walk.vars t.walk.stage t.stmt × AllAsked p v (before ++ place_of t ∷ []) ts

-- each of these sites keeps what the rule of releases asks of it after the places before it
abbrev pub AllSure : Option ℕ → List Place → List Site → Type 0
AllSure v before [] = Unit {0}
AllSure v before (t ∷ ts) = (stands_before v t.walk.stage ≡ true → releases_unsure before (place_of t) ≡ false) × AllSure v (before ++ place_of t ∷ []) ts

module _ (p : Pipe) (q : Flat.Pipe) (lock_is : (m : List ℕ) → is_plain (mem_at q (mem_of p.mems m)).lock ≡ not (is_locked p.mems m)) where
  since_next : (k : ℕ) (before : List Place) (t : Site) → Known p q t → k ≤ t.walk.stage → Since p q k before
      → Since p q t.walk.stage (before ++ place_of t ∷ [])
  since_next k before t h low since m there e =
      ⊎_elim (λ a. let j = since m there a in omega arith) (λ a. here t.stmt refl a) (any_split (reserves_memory m) before (place_of t) e)
    where
      same : (n : List ℕ) → bytes_eq n m ≡ true → some_op (is_reserve (mem_of p.mems n)) (ops p.mems t) ≡ true
          → reserve_stage q (mem_of p.mems m) ≤ t.walk.stage
      same n f g = let i = h.reserves (mem_of p.mems n) g in
          let j : reserve_stage q (mem_of p.mems n) ≡ reserve_stage q (mem_of p.mems m) = ap (λ l. reserve_stage q (mem_of p.mems l)) (bytes_same n m f) in
          omega arith

      here : (s : Stmt) → t.stmt ≡ s → reserves_memory m (Statement s t.branches) ≡ true → reserve_stage q (mem_of p.mems m) ≤ t.walk.stage
      here (Reserve sp at R) i f =
          same at.mem.name f (ap (λ x. some_op (is_reserve (mem_of p.mems at.mem.name)) (ops_of p.mems t.walk.vars x)) i ∙ or_left _ false (eq-eqb _ _ refl))
      here (Reserve sp at W) i f =
          same at.mem.name f (ap (λ x. some_op (is_reserve (mem_of p.mems at.mem.name)) (ops_of p.mems t.walk.vars x)) i ∙ or_left _ false (eq-eqb _ _ refl))
      here _ i f = absurd (false≢true f)

  since_cut : (k : ℕ) (before : List Place) (t : Site) → is_separator (place_of t) ≡ true → Since p q k before → Since p q (suc k) (before ++ place_of t ∷ [])
  since_cut k before t cut since m there e =
      ⊎_elim (λ a. let j = since m there a in omega arith) (λ a. absurd (here t.stmt cut a)) (any_split (reserves_memory m) before (place_of t) e)
    where
      here : (s : Stmt) → is_separator (Statement s t.branches) ≡ true → reserves_memory m (Statement s t.branches) ≡ true → ⊥
      here (Separator sp) f g = absurd (false≢true g)
      here _ f g = absurd (false≢true f)

  -- the flat statements of sites along a path pass the scan of reads, where the places before are those of the scan
  pub reads_along : (k end : ℕ) (vs us : List Var) (before : List Place) (c : Scan) (ts : List Site)
      → All (Known p q) ts → Grows p.mems vs ts us → Rises k ts end
      → Each (KeepsLocks p) before (map place_of ts ++ closing p)
      → Since p q k before → Scanned p vs before c → reads_ok q c (seen p.mems ts) ≡ true
  reads_along k end vs us before c [] h g r each since i = refl
  reads_along k end vs us before c (t ∷ ts) h g r each since i =
      at (cut_or p.mems t.walk.vars t.branches t.stmt) r
      (λ l d s j rise. reads_along l end (vars_past p.mems t.walk.vars t.stmt) us (before ++ place_of t ∷ []) d ts h.1 g.1 rise each.1 s j)
    where
      here : Scanned p t.walk.vars before c
      here = scanned_grown p vs t.walk.vars before c g.0 i

      next : Scanned p (vars_past p.mems t.walk.vars t.stmt) (before ++ place_of t ∷ []) (opens_ops (ops p.mems t) c)
      next = scanned_next p q lock_is t.walk.vars before c t.branches here t.stmt each.0 h.0.located

      at : ((is_separator (place_of t) ≡ true) × (ops_of p.mems t.walk.vars t.stmt ≡ [])) ⊎ (is_separator (place_of t) ≡ false)
          → Next (is_separator (place_of t)) k t.walk.stage (λ n. Rises n ts end)
          → ((l : ℕ) (d : Scan) → Since p q l (before ++ place_of t ∷ [])
          → Scanned p (vars_past p.mems t.walk.vars t.stmt) (before ++ place_of t ∷ []) d → Rises l ts end
          → reads_ok q d (seen p.mems ts) ≡ true)
          → reads_ok q c (seen_ops t.walk.stage (ops p.mems t) ++ seen p.mems ts) ≡ true
      at (inl e) rise f =
          ap (λ os. reads_ok q c (seen_ops t.walk.stage os ++ seen p.mems ts)) e.1
          ∙ f (suc k) c (since_cut k before t e.0 since)
          (subst (λ os. Scanned p (vars_past p.mems t.walk.vars t.stmt) (before ++ place_of t ∷ []) (opens_ops os c)) e.1 next)
          (subst (λ b. Next b k t.walk.stage (λ n. Rises n ts end)) e.0 rise)
      at (inr e) rise f =
          let j = subst (λ b. Next b k t.walk.stage (λ n. Rises n ts end)) e rise in
          let low : (m : List ℕ) → is_memory p.mems m ≡ true → list_any (reserves_memory m) before ≡ true → reserve_stage q (mem_of p.mems m) ≤ t.walk.stage =
          λ m there a. (let x = since m there a in let y = j.0 in omega arith) in
          reads_append q t.walk.stage c (ops p.mems t) (seen p.mems ts)
          (scan_ok p q lock_is t.walk.vars before c t.branches here t.walk.stage low t.stmt each.0 h.0.located h.0.late)
          (f t.walk.stage (opens_ops (ops p.mems t) c) (since_next k before t h.0 j.0 since) next j.1)

  -- the flat statements of sites along a path write memory m in order, and at the end its write isn't begun or is done
  pub writes_along : (m : List ℕ) → is_memory p.mems m ≡ true
      → is_advisory_mem p.mems m ≡ false → (vs us : List Var) (before : List Place) (ph : Phase) (ts : List Site) → All (Known p q) ts
      → Grows p.mems vs ts us → Each (KeepsLocks p) before (map place_of ts ++ closing p)
      → AreBacked p before → Stands p vs before m ph
      → (phases_ok (mem_of p.mems m) ph (seen p.mems ts) ≡ true) × (is_over (phase_all (mem_of p.mems m) ph (seen p.mems ts)) ≡ true)
      × (total (phase_all (mem_of p.mems m) ph (seen p.mems ts)) ≤ most_reservations p.mems W m)
  writes_along m there plain vs us before ph [] h g each b i =
      (refl, ends_over p m there plain [] vs before ph each.0 i, subst (λ n. n ≤ most_reservations p.mems W m) i.count i.few)
  writes_along m there plain vs us before ph (t ∷ ts) h g each b i =
      let here = stands_next p m there plain t.branches t.walk.vars before (map place_of ts) ph t.stmt h.0.located b each
      (stands_grown p vs t.walk.vars before m ph g.0 i) in
      let rest =
      writes_along m there plain (vars_past p.mems t.walk.vars t.stmt) us (before ++ place_of t ∷ [])
      (phase_ops (mem_of p.mems m) ph (ops p.mems t)) ts h.1 g.1 each.1 (backed_next p before (place_of t) each.0 b) here.1 in (
        phases_append (mem_of p.mems m) t.walk.stage ph (ops p.mems t) (seen p.mems ts) here.0 rest.0,
        ap is_over (phase_append (mem_of p.mems m) t.walk.stage ph (ops p.mems t) (seen p.mems ts)) ∙ rest.1,
        subst (λ k. total k ≤ most_reservations p.mems W m) (sym (phase_append (mem_of p.mems m) t.walk.stage ph (ops p.mems t) (seen p.mems ts))) rest.2,
      )

  -- the flat statements of sites along a path make the next thread in order, and after them the places are as far as they say
  pub makings_along : (v : Option ℕ) (before : List Place) (k : Making) (ts : List Site) → AllAsked p v before ts
      → Stood k before
      → (makings_ok v k (seen p.mems ts) ≡ true) × (j : Making) × (making_all k (seen p.mems ts) ≡ j) × Stood j (before ++ map place_of ts)
  makings_along v before k [] a i = (refl, k, refl, subst (Stood k) (sym (append-nil before)) i)
  makings_along v before k (t ∷ ts) a i =
      let here = stood_by p.mems v before t.branches t.walk.vars t.walk.stage k t.stmt a.0 i in
      let rest = makings_along v (before ++ place_of t ∷ []) (making_ops k (ops p.mems t)) ts a.1 here.1 in (
        makings_append v k t.walk.stage (ops p.mems t) (seen p.mems ts) here.0 rest.0,
        rest.1,
        making_append k t.walk.stage (ops p.mems t) (seen p.mems ts) ∙ rest.2,
        subst (Stood rest.1) (append_assoc before (place_of t ∷ []) (map place_of ts)) rest.3,
      )

  -- each release of a write reservation among the flat statements of sites along a path is certain
  pub sure_along : (v : Option ℕ) (vs us : List Var) (before : List Place) (c : Scan) (b : Bool) (ts : List Site)
      → All (Known p q) ts → Grows p.mems vs ts us → Each (KeepsLocks p) before (map place_of ts ++ closing p)
      → AllSure v before ts
      → Scanned p vs before c → list_any Speculation.is_barrier before ≡ b → all_sure v b c (seen p.mems ts) ≡ true
  sure_along v vs us before c b [] h g each s i e = refl
  sure_along v vs us before c b (t ∷ ts) h g each s i e =
      let here = scanned_grown p vs t.walk.vars before c g.0 i in
      let step = sure_by p v t.walk.vars before c t.branches t.walk.stage here b e t.stmt each.0 h.0.located s.0 in
      sures_append v b c t.walk.stage (ops p.mems t) (seen p.mems ts) step.0
      (sure_along v (vars_past p.mems t.walk.vars t.stmt) us (before ++ place_of t ∷ []) (opens_ops (ops p.mems t) c)
      (barred_ops b (ops p.mems t)) ts h.1 g.1 each.1 s.1
      (scanned_next p q lock_is t.walk.vars before c t.branches here t.stmt each.0 h.0.located) step.1)
