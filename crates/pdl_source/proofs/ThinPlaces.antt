-- The places of a source without its updates are those of the source but for the updates, each without updates inside; what rules ask of places is the same of these.
use Rattle.std.proofs.Common.{◌≡◌, refl, sym, ap, ap₂, ◌∙◌, ◌+◌, Bool, true, false, ◌&&◌, ◌||◌, List, [], ◌∷◌, ◌++◌, map, filter, fold, count_by, if◌then◌else◌, arith}
use Rattle.std.specs.List.{list_any, list_all}
use mathlib.Core.Path.{fun_ext}
use Rattle.std.proofs.lemmas.Bool.{false≢true}
use Rattle.std.proofs.lemmas.List.{map-append}
use Rattle.pdl_semantics.specs.Tree.{Span, Ident, Expr, Stmt, Separator, CombRead, Bind, SpecCall, DelayedRead, Write, Reserve, Block, Release, If, Call, Verify, Update, SpecCheck, SpecBarrier, Stmts, Nil, Cons, Param, Mem, Pipe}
use Rattle.pdl_semantics.specs.UpdateFree.{with_before, update_free, without_update}
use Rattle.pdl_rules.specs.Places.{Guard, guard_of, is_among, Branch, Place, Parameter, Memory, Statement, End, StartClause, at_statement, with_inner, statements, places, with_guard, guards, choices, paths, is_taken, on_path, on_some_path}
use Rattle.pdl_rules.specs.Forms.{of_if}
use Rattle.pdl_rules.specs.Speculation.{is_update}
use Rattle.pdl_rules.proofs.Counts.{weight, count_cons}

-- WITHOUT UPDATES

-- a branch without the updates in it
abbrev pub thin_branch : Branch → Branch
thin_branch b = record b { inside = update_free b.inside }

-- branches without the updates in them
abbrev pub thin_branches : List Branch → List Branch
thin_branches bs = map thin_branch bs

-- a statement without the updates inside it
abbrev pub thin_stmt : Stmt → Stmt
thin_stmt (If s c when otherwise) = If s c (update_free when) (update_free otherwise)
thin_stmt (Separator s) = Separator s
thin_stmt (CombRead s x at) = CombRead s x at
thin_stmt (Bind s x e) = Bind s x e
thin_stmt (SpecCall s g args) = SpecCall s g args
thin_stmt (DelayedRead s x at) = DelayedRead s x at
thin_stmt (Write s at e) = Write s at e
thin_stmt (Reserve s at k) = Reserve s at k
thin_stmt (Block s at) = Block s at
thin_stmt (Release s at) = Release s at
thin_stmt (Call s args) = Call s args
thin_stmt (Verify s g args) = Verify s g args
thin_stmt (Update s g args) = Update s g args
thin_stmt (SpecCheck s) = SpecCheck s
thin_stmt (SpecBarrier s) = SpecBarrier s

-- a place without the updates inside it
abbrev pub thin_place : Place → Place
thin_place (Parameter a) = Parameter a
thin_place (Memory m) = Memory m
thin_place (Statement s bs) = Statement (thin_stmt s) (thin_branches bs)
thin_place (End s) = End s
thin_place (StartClause s) = StartClause s

-- places but for the updates
abbrev pub thin : List Place → List Place
thin [] = []
thin (x ∷ xs) = if is_update x then thin xs else thin_place x ∷ thin xs

-- of two lists, one after the other, the updates are left out of each
pub thin_both : (xs ys : List Place) → thin (xs ++ ys) ≡ thin xs ++ thin ys
thin_both [] ys = refl
thin_both (x ∷ xs) ys = at (is_update x) (thin_both xs ys)
  where
    at : (u : Bool) → thin (xs ++ ys) ≡ thin xs ++ thin ys
        → (if u then thin (xs ++ ys) else thin_place x ∷ thin (xs ++ ys)) ≡ (if u then thin xs else thin_place x ∷ thin xs) ++ thin ys
    at true e = e
    at false e = ap (λ zs. thin_place x ∷ zs) e

mutual
  thin_inner : (bs : List Branch) (s : Stmt) (rest : Stmts)
      → statements (thin_branches bs) (with_before s rest) ≡ thin (with_inner bs s) ++ statements (thin_branches bs) rest
  thin_inner bs (Update s g args) rest = refl
  thin_inner bs (If s c when otherwise) rest =
      let first : Branch = record { guard = guard_of s c; truth = true; inside = when } in
      let second : Branch = record { guard = guard_of s c; truth = false; inside = otherwise } in
      ap (λ xs. (Statement (If s c (update_free when) (update_free otherwise)) (thin_branches bs) ∷ xs) ++ statements (thin_branches bs) rest)
      (ap₂ (λ a b. a ++ b)
      (ap (λ cs. statements cs (update_free when)) (sym (map-append thin_branch bs (first ∷ []))) ∙ thin_statements (bs ++ first ∷ []) when)
      (ap (λ cs. statements cs (update_free otherwise)) (sym (map-append thin_branch bs (second ∷ []))) ∙ thin_statements (bs ++ second ∷ []) otherwise)
      ∙ sym (thin_both (statements (bs ++ first ∷ []) when) (statements (bs ++ second ∷ []) otherwise)))
  thin_inner bs (Separator s) rest = refl
  thin_inner bs _ rest = refl

  thin_statements : (bs : List Branch) (ss : Stmts) → statements (thin_branches bs) (update_free ss) ≡ thin (statements bs ss)
  thin_statements bs Nil = refl
  thin_statements bs (Cons s ss) =
      thin_inner bs s (update_free ss) ∙ ap (λ xs. thin (with_inner bs s) ++ xs) (thin_statements bs ss)
      ∙ sym (thin_both (with_inner bs s) (statements bs ss))

-- what stands in one branch more
pub thin_in : (bs : List Branch) (b : Branch) (ss : Stmts)
    → statements (thin_branches bs ++ thin_branch b ∷ []) (update_free ss) ≡ thin (statements (bs ++ b ∷ []) ss)
thin_in bs b ss = ap (λ cs. statements cs (update_free ss)) (sym (map-append thin_branch bs (b ∷ []))) ∙ thin_statements (bs ++ b ∷ []) ss

thin_params : (ps : List Param) → map Parameter ps ≡ thin (map Parameter ps)
thin_params [] = refl
thin_params (a ∷ ps) = ap (λ xs. Parameter a ∷ xs) (thin_params ps)

thin_mems : (ms : List Mem) → map Memory ms ≡ thin (map Memory ms)
thin_mems [] = refl
thin_mems (m ∷ ms) = ap (λ xs. Memory m ∷ xs) (thin_mems ms)

-- the places of a source without its updates
pub places_thin : (p : Pipe) → places (without_update p) ≡ thin (places p)
places_thin p =
    let ends = End p.end ∷ StartClause p.start ∷ [] in
    let heads = map Parameter p.params ++ map Memory p.mems in
    let body = statements [] p.body in
    ap (λ a. a ++ ends)
    (ap₂ (λ a b. a ++ b)
    (ap₂ (λ a b. a ++ b) (thin_params p.params) (thin_mems p.mems) ∙ sym (thin_both (map Parameter p.params) (map Memory p.mems)))
    (thin_statements [] p.body)
    ∙ sym (thin_both heads body))
    ∙ sym (thin_both (heads ++ body) ends)

-- A PLACE AMONG THE OTHERS

-- a place that is left stands in the source, between places that leave those before it and after it
pub record IsLeft (xs before' : List Place) (x' : Place) (later' : List Place) : Type 0 where
  pub before : List Place
  pub x : Place
  pub later : List Place
  pub whole : xs ≡ before ++ x ∷ later
  pub stays : is_update x ≡ false
  pub front : before' ≡ thin before
  pub here : x' ≡ thin_place x
  pub rest : later' ≡ thin later

head_of : {x y : Place} {xs ys : List Place} → x ∷ xs ≡ y ∷ ys → x ≡ y
head_of {x = x} e = ap (λ zs. first x zs) e
  where
    first : Place → List Place → Place
    first x [] = x
    first x (z ∷ zs) = z

tail_of : {x y : Place} {xs ys : List Place} → x ∷ xs ≡ y ∷ ys → xs ≡ ys
tail_of e = ap behind e
  where
    behind : List Place → List Place
    behind [] = []
    behind (z ∷ zs) = zs

-- each place of the source without updates is one that is left
pub is_left : (xs before' : List Place) (x' : Place) (later' : List Place) → thin xs ≡ before' ++ x' ∷ later' → IsLeft xs before' x' later'
is_left [] [] x' later' e = absurd (cc e)
is_left [] (b ∷ bs) x' later' e = absurd (cc e)
is_left (y ∷ ys) before' x' later' e = at (is_update y) refl before' e (λ bs. is_left ys bs x' later')
  where
    at : (u : Bool) → is_update y ≡ u → (before' : List Place) → (if u then thin ys else thin_place y ∷ thin ys) ≡ before' ++ x' ∷ later'
        → ((bs : List Place) → thin ys ≡ bs ++ x' ∷ later' → IsLeft ys bs x' later') → IsLeft (y ∷ ys) before' x' later'
    at true i before' e left =
        let l = left before' e in
        record {
          before = y ∷ l.before;
          x = l.x;
          later = l.later;
          whole = ap (λ zs. y ∷ zs) l.whole;
          stays = l.stays;
          front = l.front ∙ sym (ap (λ u. if u then thin l.before else thin_place y ∷ thin l.before) i);
          here = l.here;
          rest = l.rest;
        }
    at false i [] e left =
        record { before = []; x = y; later = ys; whole = refl; stays = i; front = refl; here = sym (head_of e); rest = sym (tail_of e) }
    at false i (b ∷ bs) e left =
        let l = left bs (tail_of e) in
        record {
          before = y ∷ l.before;
          x = l.x;
          later = l.later;
          whole = ap (λ zs. y ∷ zs) l.whole;
          stays = l.stays;
          front = ap₂ (λ z zs. z ∷ zs) (sym (head_of e)) l.front ∙ sym (ap (λ u. if u then thin l.before else thin_place y ∷ thin l.before) i);
          here = l.here;
          rest = l.rest;
        }

-- TESTS

-- a test that looks into no branch, and that no update passes
pub record Stays (test : Place → Bool) : Type 0 where
  pub same : (x : Place) → test (thin_place x) ≡ test x
  pub none : (x : Place) → is_update x ≡ true → test x ≡ false

-- what is told of an `if` by its span and condition alone is told of a statement without the updates in it
pub thin_same : {T : Type 0} (f : Stmt → T)
    → ((s : Span) (c : Expr) (when otherwise : Stmts) → f (If s c (update_free when) (update_free otherwise)) ≡ f (If s c when otherwise))
    → (s : Stmt) → f (thin_stmt s) ≡ f s
thin_same f inner (If s c when otherwise) = inner s c when otherwise
thin_same f inner (Separator s) = refl
thin_same f inner _ = refl

-- the same of a place, by whichever branches
pub thin_at : {T : Type 0} (other : T) (f : Stmt → List Branch → T) (g : Stmt → List Branch → T)
    → ((s : Stmt) (bs : List Branch) → f (thin_stmt s) (thin_branches bs) ≡ g s bs) → (x : Place)
    → at_statement other f (thin_place x) ≡ at_statement other g x
thin_at other f g inner (Statement s bs) = inner s bs
thin_at other f g inner (Parameter a) = refl
thin_at other f g inner _ = refl

-- a test of places by their statements
pub stays_place : (test : Place → Bool) → ((x : Place) → test (thin_place x) ≡ test x)
    → ((s : Span) (g : Ident) (args : List Expr) (bs : List Branch) → test (Statement (Update s g args) bs) ≡ false) → Stays test
stays_place test same never = record { same = same; none = none }
  where
    none : (x : Place) → is_update x ≡ true → test x ≡ false
    none (Statement (Update s g args) bs) h = never s g args bs
    none (Statement _ bs) h = absurd (false≢true h)
    none (Parameter a) h = absurd (false≢true h)
    none _ h = absurd (false≢true h)

-- a test of statements, whatever their branches
pub stays_at : (f : Stmt → Bool)
    → ((s : Span) (c : Expr) (when otherwise : Stmts) → f (If s c (update_free when) (update_free otherwise)) ≡ f (If s c when otherwise))
    → ((s : Span) (g : Ident) (args : List Expr) → f (Update s g args) ≡ false) → Stays (λ x. at_statement false (λ s bs. f s) x)
stays_at f inner never =
    stays_place (λ x. at_statement false (λ s bs. f s) x)
    (thin_at false (λ s bs. f s) (λ s bs. f s) (λ s bs. thin_same f inner s)) (λ s g args bs. never s g args)

-- LISTS OF PLACES

-- some place passes
pub any_thin : (test : Place → Bool) → Stays test → (xs : List Place) → list_any test (thin xs) ≡ list_any test xs
any_thin test stays [] = refl
any_thin test stays (x ∷ xs) = at (is_update x) refl (any_thin test stays xs)
  where
    at : (u : Bool) → is_update x ≡ u → list_any test (thin xs) ≡ list_any test xs
        → list_any test (if u then thin xs else thin_place x ∷ thin xs) ≡ (test x || list_any test xs)
    at true i e = e ∙ sym (ap (λ b. b || list_any test xs) (stays.none x i))
    at false i e = ap₂ (λ a b. a || b) (stays.same x) e

-- how many pass
pub count_thin : (test : Place → Bool) → Stays test → (xs : List Place) → count_by test (thin xs) ≡ count_by test xs
count_thin test stays [] = refl
count_thin test stays (x ∷ xs) = at (is_update x) refl (count_thin test stays xs)
  where
    at : (u : Bool) → is_update x ≡ u → count_by test (thin xs) ≡ count_by test xs
        → count_by test (if u then thin xs else thin_place x ∷ thin xs) ≡ count_by test (x ∷ xs)
    at true i e =
        let here : count_by test (x ∷ xs) ≡ weight (test x) + count_by test xs = count_cons test x xs in
        let none : weight (test x) ≡ 0 = ap weight (stays.none x i) in
        omega (arith, e, here, none)
    at false i e =
        count_cons test (thin_place x) (thin xs) ∙ ap₂ (λ b n. weight b + n) (stays.same x) e ∙ sym (count_cons test x xs)

-- what is told by one place after another
pub fold_thin : {S : Type 0} (f : S → Place → S) → ((a : S) (x : Place) → f a (thin_place x) ≡ f a x)
    → ((a : S) (x : Place) → is_update x ≡ true → f a x ≡ a) → (a : S) (xs : List Place) → fold f a (thin xs) ≡ fold f a xs
fold_thin f same none a [] = refl
fold_thin f same none a (x ∷ xs) = at (is_update x) refl (fold_thin f same none (f a x) xs)
  where
    at : (u : Bool) → is_update x ≡ u → fold f (f a x) (thin xs) ≡ fold f (f a x) xs
        → fold f a (if u then thin xs else thin_place x ∷ thin xs) ≡ fold f (f a x) xs
    at true i e = ap (λ b. fold f b (thin xs)) (sym (none a x i)) ∙ e
    at false i e = ap (λ b. fold f b (thin xs)) (same a x) ∙ e

-- PATHS

-- the guards are the same
pub guards_thin : (xs : List Place) → guards (thin xs) ≡ guards xs
guards_thin xs = fold_thin with_guard same none [] xs
  where
    same : (gs : List Guard) (x : Place) → with_guard gs (thin_place x) ≡ with_guard gs x
    same gs =
        thin_at gs _ _
        (λ s bs. thin_same (λ t. of_if gs (λ from c. if is_among (guard_of from c) gs then gs else gs ++ guard_of from c ∷ []) t) (λ s c w o. refl) s)

    none : (gs : List Guard) (x : Place) → is_update x ≡ true → with_guard gs x ≡ gs
    none gs (Statement (Update s g args) bs) h = refl
    none gs (Statement _ bs) h = absurd (false≢true h)
    none gs (Parameter a) h = absurd (false≢true h)
    none gs _ h = absurd (false≢true h)

-- the paths are the same
pub paths_thin : (p : Pipe) → paths (without_update p) ≡ paths p
paths_thin p = ap choices (ap guards (places_thin p) ∙ guards_thin (places p))

taken_thin : (path : List Guard) (bs : List Branch) → list_all (is_taken path) (thin_branches bs) ≡ list_all (is_taken path) bs
taken_thin path [] = refl
taken_thin path (b ∷ bs) = ap (λ c. is_taken path b && c) (taken_thin path bs)

-- a place that stays is on the same paths
pub on_path_thin : (path : List Guard) (x : Place) → on_path path (thin_place x) ≡ on_path path x
on_path_thin path = thin_at true _ _ (λ s bs. taken_thin path bs)

-- the places on a path
pub earlier_thin : (path : List Guard) (xs : List Place) → filter (on_path path) (thin xs) ≡ thin (filter (on_path path) xs)
earlier_thin path [] = refl
earlier_thin path (x ∷ xs) = at (is_update x) (on_path path x) refl (on_path_thin path x) (earlier_thin path xs)
  where
    keep : List Place → List Place
    keep = filter (on_path path)

    at : (u k : Bool) → is_update x ≡ u → on_path path (thin_place x) ≡ k → keep (thin xs) ≡ thin (keep xs)
        → keep (if u then thin xs else thin_place x ∷ thin xs) ≡ thin (if k then x ∷ keep xs else keep xs)
    at true true i o e = e ∙ sym (ap (λ u. if u then thin (keep xs) else thin_place x ∷ thin (keep xs)) i)
    at true false i o e = e
    at false true i o e =
        ap (λ (b : Bool). if b then thin_place x ∷ keep (thin xs) else keep (thin xs)) o ∙ ap (λ zs. thin_place x ∷ zs) e
        ∙ sym (ap (λ u. if u then thin (keep xs) else thin_place x ∷ thin (keep xs)) i)
    at false false i o e = ap (λ (b : Bool). if b then thin_place x ∷ keep (thin xs) else keep (thin xs)) o ∙ e

-- what is asked on each path of the places before
pub some_path_thin : (p : Pipe) (test test' : List Place → Bool) (before : List Place) (x : Place)
    → ((earlier : List Place) → test' (thin earlier) ≡ test earlier)
    → on_some_path test' (without_update p) (thin before) (thin_place x) ≡ on_some_path test p before x
some_path_thin p test test' before x same =
    ap₂ (λ f gss. list_any f gss)
    (fun_ext (λ path. ap₂ (λ a b. a && b) (on_path_thin path x) (ap test' (earlier_thin path before) ∙ same (filter (on_path path) before))))
    (paths_thin p)

-- what is asked on each path by itself
pub each_path_thin : (p : Pipe) (test test' : List Guard → Bool) (x : Place) → ((path : List Guard) → test' path ≡ test path)
    → list_any (λ path. on_path path (thin_place x) && test' path) (paths (without_update p)) ≡ list_any (λ path. on_path path x && test path) (paths p)
each_path_thin p test test' x same =
    ap₂ (λ f gss. list_any f gss) (fun_ext (λ path. ap₂ (λ a b. a && b) (on_path_thin path x) (same path))) (paths_thin p)
