-- Behind each block of a path of an accepted source its location is not reserved again; and guesses and verifies pass as many arguments as the start.
use Rattle.std.proofs.Common.{◌≡◌, refl, sym, ap, ap₂, ◌∙◌, subst, ℕ, suc, ◌≤◌, ◌<◌, if◌then◌else◌, Bool, true, false, ◌&&◌, not, List, [], ◌∷◌, ◌++◌, length, map, Some, ◌==◌, eq-eqb, append_assoc}
use Rattle.std.proofs.lemmas.Bool.{false≢true, and_parts, and_from, both_ways, not-false, eqb-true}
use Rattle.std.specs.List.{list_any}
use Rattle.std.specs.Cmp.Lexicographic.{pointwise}
use Rattle.std.proofs.lemmas.List.{length-map}
use Rattle.std.specs.Prelude.{nat_eq, bytes_eq}
use Rattle.pdl_kit.specs.declared.rule.Rule.TheVariants.{W5}
use Rattle.pdl_semantics.specs.Tree.{Span, Location, R, W, Stmt, Separator, CombRead, Bind, SpecCall, DelayedRead, Write, Reserve, Block, Release, If, Call, Verify, Update, SpecCheck, SpecBarrier, Expr, Variable, Literal, Param, Pipe}
use Rattle.pdl_semantics.specs.Flat
use Rattle.pdl_semantics.specs.Flatten.{Var, var_of, mem_of, flat, flat_exprs, start_of, params_of, width_of, is_advisory_mem, is_advised}
use Rattle.pdl_semantics.specs.Stages.{onpath, is_write_reserve}
use Rattle.pdl_rules.specs.Places.{on_path, Place, Statement, StartClause, End}
use Rattle.pdl_rules.specs.Parts.{location_of}
use Rattle.pdl_rules.specs.Locks
use Rattle.pdl_rules.specs.Locks.{same_location, hold_after, reserves_location}
use Rattle.pdl_rules.specs.Refusal.{KeepsRules}
use Rattle.pdl_rules.specs.Widths.{variables, are_no_arguments, breaks_w5}
use Rattle.pdl_rules.proofs.EachPlace.{Each, closing}
use Rattle.pdl_rules.proofs.SingleWrites.{KeepsLocks, any_weaker, any_front, reserves_alike}
use Rattle.pdl_theory_turns.specs.Alone.{answered_op}
use Rattle.pdl_theory_turns.proofs.Writes.{and_left, and_right}
use Rattle.pdl_theory_turns.specs.Scans.{none_of, write_reserves}
use Rattle.pdl_source_paths.proofs.Memories.{mems_length}
use Rattle.pdl_source_paths.proofs.PathTests.{few_ok}
use Rattle.pdl_theory_turns.specs.Facts.{looked_all}
use Rattle.pdl_theory_turns.proofs.Looks.{path_looked}
use Rattle.pdl_source_stages.proofs.Sites.{Site, sites_of, front_of, place_of, own, owns, All, stmts_are}
use Rattle.pdl_source_stages.proofs.SiteFacts.{either_read, either_bind, either_write}
use Rattle.pdl_source_stages.proofs.SiteStages.{all_map}
use Rattle.pdl_source_paths.specs.Source.{is_source}
use Rattle.pdl_source_paths.proofs.Choices.{path_of}
use Rattle.pdl_source_paths.proofs.Numbers.{var_stays, var_same, mem_same}
use Rattle.pdl_source_paths.proofs.PathStatements.{ops_of, stmts_at, own_is, seen_ops, seen, on_sites, path_is}
use Rattle.pdl_source_paths.proofs.Growth.{Grown, Grows, grown_more, past_grown, vars_past, grows_all, grows_on}
use Rattle.pdl_source_paths.proofs.ReadsKept.{open_reserved, reserved_open}
use Rattle.pdl_source_paths.proofs.Variables.{Here, all_here, IsNamed, located}
use Rattle.pdl_source_paths.proofs.Walk.{all_on, keeps_all, text_places}
use Rattle.pdl_source_paths.proofs.FlatPaths.{value, all_alike}
use Rattle.pdl_theory_turns.proofs.StageFacts.{none_looked}
use Rattle.pdl_machine_lockuse.specs.Careful.{Careful, reserves_at, keeps_kind, all_keep_kind, all_let_in, passes_on}
use Rattle.pdl_machine_lockuse.proofs.BlockedFirst.{named_grown, lets_looked, sites_let, none_blocked}
use Rattle.pdl_word.proofs.Bytes.{bytes_refl}
use Rattle.pdl_source_paths.proofs.SiteStages.{none_append}
use Rattle.pdl_semantics.proofs.Facts.{all_vars}

-- WHERE DELAYED READS ARE READS

reserves_looked : (m a : ℕ) (op : Flat.Op) → reserves_at m a (answered_op op) ≡ reserves_at m a op
reserves_looked m a (Flat.DelayedRead x n b) = refl
reserves_looked m a _ = refl

keeps_looked : (op : Flat.Op) (xs : List Flat.Stmt) → keeps_kind (answered_op op) (looked_all xs) ≡ keeps_kind op xs
keeps_looked (Flat.Block m a) xs = none_looked (reserves_at m a) (reserves_looked m a) xs
keeps_looked (Flat.DelayedRead x n b) xs = refl
keeps_looked (Flat.Bind x e) xs = refl
keeps_looked (Flat.CombRead x m a) xs = refl
keeps_looked (Flat.Write m a e) xs = refl
keeps_looked (Flat.ReserveRead m a) xs = refl
keeps_looked (Flat.ReserveWrite m a) xs = refl
keeps_looked (Flat.Release m a) xs = refl
keeps_looked (Flat.Call args) xs = refl
keeps_looked (Flat.SpecCall args) xs = refl
keeps_looked (Flat.Verify last args) xs = refl
keeps_looked Flat.SpecCheck xs = refl
keeps_looked Flat.SpecBarrier xs = refl
keeps_looked (Flat.AdviceBind x e) xs = refl
keeps_looked (Flat.AdviceRead x m a) xs = refl
keeps_looked (Flat.AdviceWrite m a e) xs = refl

kinds_looked : (xs : List Flat.Stmt) → all_keep_kind (looked_all xs) ≡ all_keep_kind xs
kinds_looked [] = refl
kinds_looked (x ∷ xs) = ap₂ (λ a b. a && b) (keeps_looked x.op xs) (kinds_looked xs)

-- A LOCATION THAT WAS RESERVED

module _ (p : Pipe) (at : Location) (vs : List Var) (there : IsNamed p.mems vs at) where
  abbrev m0 : ℕ
  m0 = mem_of p.mems at.mem.name

  abbrev a0 : ℕ
  a0 = var_of vs at.address.name

  -- another reservation is of another location
  other : (before : List Place) (l : Location) (ws : List Var) → Grown vs ws → IsNamed p.mems ws l → list_any (reserves_location at) before ≡ true
      → list_any (reserves_location l) before ≡ false
      → ((mem_of p.mems l.mem.name == m0) && (var_of ws l.address.name == a0)) ≡ false
  other before l ws g n r again = by ((mem_of p.mems l.mem.name == m0) && (var_of ws l.address.name == a0)) refl
    where
      by : (b : Bool) → ((mem_of p.mems l.mem.name == m0) && (var_of ws l.address.name == a0)) ≡ b
          → ((mem_of p.mems l.mem.name == m0) && (var_of ws l.address.name == a0)) ≡ false
      by false e = e
      by true e =
          let parts = and_parts (mem_of p.mems l.mem.name == m0) (var_of ws l.address.name == a0) e in
          let mems : l.mem.name ≡ at.mem.name = mem_same p.mems l.mem.name at.mem.name n.0 there.0 (eqb-true (mem_of p.mems l.mem.name) m0 parts.0) in
          let stays : var_of ws at.address.name ≡ a0 = ap (λ us. var_of us at.address.name) g.1 ∙ var_stays vs g.0 at.address.name there.1 in
          let vars : l.address.name ≡ at.address.name =
          var_same ws l.address.name at.address.name n.1 (named_grown vs ws at.address.name g there.1)
          (eqb-true (var_of ws l.address.name) a0 parts.1 ∙ sym stays) in
          let same : same_location l at ≡ true =
          and_from _ _ (ap (λ x. bytes_eq x at.mem.name) mems ∙ bytes_refl at.mem.name)
          (ap (λ x. bytes_eq x at.address.name) vars ∙ bytes_refl at.address.name) in
          absurd (both_ways _ again (any_weaker (reserves_location at) (reserves_location l) (λ x i. reserves_alike l at same x ∙ i) before r))

  one_site : (before : List Place) (k : ℕ) (ws : List Var) (s : Stmt) (bs : List Rattle.pdl_rules.specs.Places.Branch) → Grown vs ws
      → ((l : Location) → location_of s ≡ Some l → IsNamed p.mems ws l) → list_any (reserves_location at) before ≡ true
      → KeepsLocks p before (Statement s bs) → none_of (reserves_at m0 a0) (seen_ops k (ops_of p.mems ws s)) ≡ true
  one_site before k ws (Reserve sp l W) bs g n r keeps = and_from _ _ (ap not (other before l ws g (n l refl) r keeps.l5)) refl
  one_site before k ws (Reserve sp l R) bs g n r keeps = refl
  one_site before k ws (Separator sp) bs g n r keeps = refl
  one_site before k ws (CombRead sp x l) bs g n r keeps = either_read (λ op. none_of (reserves_at m0 a0) (seen_ops k (op ∷ [])) ≡ true)
      (is_advisory_mem p.mems l.mem.name) _ _ _ refl refl
  one_site before k ws (Bind sp x e) bs g n r keeps = either_bind (λ op. none_of (reserves_at m0 a0) (seen_ops k (op ∷ [])) ≡ true)
      (is_advised ws e) _ _ refl refl
  one_site before k ws (SpecCall sp x args) bs g n r keeps = refl
  one_site before k ws (DelayedRead sp x l) bs g n r keeps = refl
  one_site before k ws (Write sp l e) bs g n r keeps = either_write (λ op. none_of (reserves_at m0 a0) (seen_ops k (op ∷ [])) ≡ true)
      (is_advisory_mem p.mems l.mem.name) _ _ _ refl refl
  one_site before k ws (Block sp l) bs g n r keeps = refl
  one_site before k ws (Release sp l) bs g n r keeps = refl
  one_site before k ws (If sp (Variable x) when otherwise) bs g n r keeps = refl
  one_site before k ws (If sp c when otherwise) bs g n r keeps = refl
  one_site before k ws (Call sp args) bs g n r keeps = refl
  one_site before k ws (Verify sp x args) bs g n r keeps = refl
  one_site before k ws (Update sp x args) bs g n r keeps = refl
  one_site before k ws (SpecCheck sp) bs g n r keeps = refl
  one_site before k ws (SpecBarrier sp) bs g n r keeps = refl

  not_again : (ws us : List Var) (before : List Place) (ts : List Site) → Grown vs ws → Grows p.mems ws ts us
      → Each (KeepsLocks p) before (map place_of ts ++ closing p) → All (λ t. (l : Location) → location_of t.stmt ≡ Some l → IsNamed p.mems t.walk.vars l) ts
      → list_any (reserves_location at) before ≡ true → none_of (reserves_at m0 a0) (seen p.mems ts) ≡ true
  not_again ws us before [] g gs each n r = refl
  not_again ws us before (t ∷ ts) g gs each n r =
      none_append (reserves_at m0 a0) (seen_ops t.walk.stage (ops_of p.mems t.walk.vars t.stmt)) (seen p.mems ts)
      (one_site before t.walk.stage t.walk.vars t.stmt t.branches (grown_more vs ws t.walk.vars g gs.0) n.0 r each.0)
      (not_again (vars_past p.mems t.walk.vars t.stmt) us (before ++ place_of t ∷ []) ts
      (grown_more vs t.walk.vars (vars_past p.mems t.walk.vars t.stmt) (grown_more vs ws t.walk.vars g gs.0)
      (past_grown p.mems t.walk.vars t.stmt)) gs.1 each.1 n.1
      (any_front (reserves_location at) before (place_of t) r))

-- A PATH

sites_kinds : (p : Pipe) (vs us : List Var) (before : List Place) (ts : List Site) → Grows p.mems vs ts us
    → Each (KeepsLocks p) before (map place_of ts ++ closing p)
    → All (λ t. (l : Location) → location_of t.stmt ≡ Some l → IsNamed p.mems t.walk.vars l) ts
    → all_keep_kind (seen p.mems ts) ≡ true
sites_kinds p vs us before [] g each named = refl
sites_kinds p vs us before (t ∷ ts) g each named =
    here t.stmt refl (sites_kinds p (vars_past p.mems t.walk.vars t.stmt) us (before ++ place_of t ∷ []) ts g.1 each.1 named.1)
  where
    block : (sp : Span) (at : Location) → t.stmt ≡ Block sp at
        → none_of (reserves_at (mem_of p.mems at.mem.name) (var_of t.walk.vars at.address.name)) (seen p.mems ts) ≡ true
    block sp at e =
        not_again p at t.walk.vars (named.0 at (ap location_of e)) (vars_past p.mems t.walk.vars t.stmt) us (before ++ place_of t ∷ []) ts
        (past_grown p.mems t.walk.vars t.stmt) g.1 each.1 named.1
        (any_front (reserves_location at) before (place_of t)
        (open_reserved at before
        (reserved_open (hold_after at before) (not-false _ (subst (λ s. Locks.lacks_hold p before (Statement s t.branches) ≡ false) e each.0.l1)))))

    here : (s : Stmt) → t.stmt ≡ s → all_keep_kind (seen p.mems ts) ≡ true
        → all_keep_kind (seen_ops t.walk.stage (ops_of p.mems t.walk.vars s) ++ seen p.mems ts) ≡ true
    here (Block sp at) e rest = and_from _ _ (block sp at e) rest
    here (Separator sp) e rest = rest
    here (CombRead sp x from) e rest = either_read (λ op. all_keep_kind (seen_ops t.walk.stage (op ∷ []) ++ seen p.mems ts) ≡ true)
        (is_advisory_mem p.mems from.mem.name) _ _ _ rest rest
    here (Bind sp x v) e rest = either_bind (λ op. all_keep_kind (seen_ops t.walk.stage (op ∷ []) ++ seen p.mems ts) ≡ true)
        (is_advised t.walk.vars v) _ _ rest rest
    here (SpecCall sp x args) e rest = rest
    here (DelayedRead sp x from) e rest = rest
    here (Write sp to v) e rest = either_write (λ op. all_keep_kind (seen_ops t.walk.stage (op ∷ []) ++ seen p.mems ts) ≡ true)
        (is_advisory_mem p.mems to.mem.name) _ _ _ rest rest
    here (Reserve sp at R) e rest = rest
    here (Reserve sp at W) e rest = rest
    here (Release sp at) e rest = rest
    here (If sp (Variable x) when otherwise) e rest = rest
    here (If sp c when otherwise) e rest = rest
    here (Call sp args) e rest = rest
    here (Verify sp x args) e rest = rest
    here (Update sp x args) e rest = rest
    here (SpecCheck sp) e rest = rest
    here (SpecBarrier sp) e rest = rest

-- ARGUMENTS

same_length : (xs ys : List ℕ) → pointwise nat_eq xs ys ≡ true → length xs ≡ length ys
same_length [] [] h = refl
same_length [] (y ∷ ys) h = absurd (cc h)
same_length (x ∷ xs) [] h = absurd (cc h)
same_length (x ∷ xs) (y ∷ ys) h = ap suc (same_length xs ys (and_right (nat_eq x y) _ h))

flat_length : (vs : List Var) (es : List Expr) → length (flat_exprs vs es) ≡ length es
flat_length vs [] = refl
flat_length vs (e ∷ es) = ap suc (flat_length vs es)

start_length : (ls : List Literal) → length (start_of ls) ≡ length ls
start_length [] = refl
start_length (l ∷ ls) = ap suc (start_length ls)

module _ (p : Pipe) (rules : KeepsRules p) where
  as_many : (ws : List ℕ) → are_no_arguments p ws ≡ false → length ws ≡ length p.params
  as_many ws h = same_length ws (map (λ (a : Param). a.width.value) p.params) (not-false _ h) ∙ length-map p.params (λ (a : Param). a.width.value)

  start_right : length p.start.args ≡ length p.params
  start_right =
      sym (length-map p.start.args (λ (l : Literal). l.width))
      ∙ as_many (map (λ (l : Literal). l.width) p.start.args) (rules W5 (front_of p ++ (map place_of (sites_of p) ++ End p.end ∷ [])) (StartClause p.start) []
      (text_places p
      ∙ ap (λ l. front_of p ++ l) (sym (append_assoc (map place_of (sites_of p)) (End p.end ∷ []) (StartClause p.start ∷ [])))
      ∙ sym (append_assoc (front_of p) (map place_of (sites_of p) ++ End p.end ∷ []) (StartClause p.start ∷ []))))

  args_right : (vs : List Var) (args : List Expr) → are_no_arguments p (map (width_of (variables p)) args) ≡ false
      → (length (flat_exprs vs args) == length (flat p).start) ≡ true
  args_right vs args h =
      eq-eqb (length (flat_exprs vs args)) (length (flat p).start)
      (flat_length vs args ∙ sym (length-map args (width_of (variables p)))
      ∙ as_many (map (width_of (variables p)) args) h ∙ sym start_right ∙ sym (start_length p.start.args))

  site_passes : (k : ℕ) (gs : List Flat.Guard) (vs : List Var) (s : Stmt) (bs : List Rattle.pdl_rules.specs.Places.Branch)
      → breaks_w5 p (Statement s bs) ≡ false
      → Flat.list_all (λ (x : Flat.Stmt). passes_on (length (flat p).start) x.op) (stmts_at k gs (ops_of p.mems vs s)) ≡ true
  site_passes k gs vs (SpecCall sp x args) bs h = and_from _ _ (args_right vs args h) refl
  site_passes k gs vs (Verify sp x args) bs h = and_from _ _ (args_right vs args h) refl
  site_passes k gs vs (Update sp x args) bs h = and_from _ _ (args_right vs args h) refl
  site_passes k gs vs (Separator sp) bs h = refl
  site_passes k gs vs (CombRead sp x l) bs h =
      either_read (λ op. Flat.list_all (λ (x : Flat.Stmt). passes_on (length (flat p).start) x.op) (stmts_at k gs (op ∷ [])) ≡ true)
      (is_advisory_mem p.mems l.mem.name) _ _ _ refl refl
  site_passes k gs vs (Bind sp x e) bs h =
      either_bind (λ op. Flat.list_all (λ (x : Flat.Stmt). passes_on (length (flat p).start) x.op) (stmts_at k gs (op ∷ [])) ≡ true)
      (is_advised vs e) _ _ refl refl
  site_passes k gs vs (DelayedRead sp x l) bs h = refl
  site_passes k gs vs (Write sp l e) bs h =
      either_write (λ op. Flat.list_all (λ (x : Flat.Stmt). passes_on (length (flat p).start) x.op) (stmts_at k gs (op ∷ [])) ≡ true)
      (is_advisory_mem p.mems l.mem.name) _ _ _ refl refl
  site_passes k gs vs (Reserve sp l R) bs h = refl
  site_passes k gs vs (Reserve sp l W) bs h = refl
  site_passes k gs vs (Block sp l) bs h = refl
  site_passes k gs vs (Release sp l) bs h = refl
  site_passes k gs vs (If sp (Variable x) when otherwise) bs h = refl
  site_passes k gs vs (If sp c when otherwise) bs h = refl
  site_passes k gs vs (Call sp args) bs h = refl
  site_passes k gs vs (SpecCheck sp) bs h = refl
  site_passes k gs vs (SpecBarrier sp) bs h = refl

  all_append : (test : Flat.Stmt → Bool) (xs ys : List Flat.Stmt) → Flat.list_all test xs ≡ true → Flat.list_all test ys ≡ true
      → Flat.list_all test (xs ++ ys) ≡ true
  all_append test [] ys h k = k
  all_append test (x ∷ xs) ys h k = and_from _ _ (and_left _ _ h) (all_append test xs ys (and_right (test x) _ h) k)

  sites_pass : (ts : List Site) → All (Here p) ts → Flat.list_all (λ (x : Flat.Stmt). passes_on (length (flat p).start) x.op) (owns p.mems ts) ≡ true
  sites_pass [] h = refl
  sites_pass (t ∷ ts) h =
      all_append (λ (x : Flat.Stmt). passes_on (length (flat p).start) x.op) (own p.mems t) (owns p.mems ts)
      (subst (λ xs. Flat.list_all (λ (x : Flat.Stmt). passes_on (length (flat p).start) x.op) xs ≡ true)
      (sym (own_is p.mems t.gs t.walk t.stmt))
      (site_passes t.walk.stage t.gs t.walk.vars t.stmt t.branches (rules W5 t.front (place_of t) h.0.later h.0.whole)))
      (sites_pass ts h.1)

  -- THE PIPE

  module _ (source : is_source p ≡ true) (path : List ℕ) where
    abbrev ts : List Site
    ts = on_sites (path_of p (value p path)) (sites_of p)

    seen_is : looked_all (onpath path (flat p).stmts) ≡ seen p.mems ts
    seen_is =
        sym (path_looked path (flat p).stmts) ∙ ap (λ l. onpath path (looked_all l)) (stmts_are p)
        ∙ path_is p.mems path (path_of p (value p path)) (sites_of p) (all_alike p rules source path)

    locations : All (λ t. (l : Location) → location_of t.stmt ≡ Some l → IsNamed p.mems t.walk.vars l) ts
    locations =
        all_on (λ t. (l : Location) → location_of t.stmt ≡ Some l → IsNamed p.mems t.walk.vars l) (path_of p (value p path)) (sites_of p)
        (all_map (Here p) (λ t. (l : Location) → location_of t.stmt ≡ Some l → IsNamed p.mems t.walk.vars l)
        (λ t h. located p rules t h) (sites_of p) (all_here p))

    kinds : all_keep_kind (onpath path (flat p).stmts) ≡ true
    kinds =
        sym (kinds_looked (onpath path (flat p).stmts)) ∙ ap all_keep_kind seen_is
        ∙ sites_kinds p (params_of p.params) (all_vars p) _ ts
        (grows_on p.mems (path_of p (value p path)) (params_of p.params) (all_vars p) (sites_of p) (grows_all p)) (keeps_all p rules (value p path))
        locations

    writes : all_let_in [] (onpath path (flat p).stmts) ≡ true
    writes =
        sym (lets_looked [] [] (λ m a. refl) (onpath path (flat p).stmts)) ∙ ap (all_let_in []) seen_is
        ∙ sites_let p (params_of p.params) (all_vars p) _ [] ts
        (grows_on p.mems (path_of p (value p path)) (params_of p.params) (all_vars p) (sites_of p) (grows_all p)) (keeps_all p rules (value p path)) locations
        (λ l h. absurd (false≢true (sym (none_blocked p (on_path (path_of p (value p path))) l) ∙ h)))

    reserve_looked : (m : ℕ) (op : Flat.Op) → is_write_reserve m (answered_op op) ≡ is_write_reserve m op
    reserve_looked m (Flat.DelayedRead x n b) = refl
    reserve_looked m _ = refl

    few_looked : (m : ℕ) (xs : List Flat.Stmt) → write_reserves m (looked_all xs) ≡ write_reserves m xs
    few_looked m [] = refl
    few_looked m (x ∷ xs) = ap₂ (λ b n. if b then suc n else n) (reserve_looked m x.op) (few_looked m xs)

    few : (m : ℕ) → m < length (flat p).mems → write_reserves m (onpath path (flat p).stmts) ≤ 2
    few m low =
        subst (λ n. n ≤ 2) (ap (write_reserves m) (path_looked path (flat p).stmts) ∙ few_looked m (onpath path (flat p).stmts))
        (few_ok p rules source path m (subst (λ n. m < n) (mems_length p.mems) low))

  -- the flat form of an accepted source is careful with its blocks, its writes and the arguments of its guesses
  pub careful_source : is_source p ≡ true → Careful (flat p)
  careful_source source =
      record {
        kinds = kinds source;
        writes = writes source;
        few = few source;
        args = ap (Flat.list_all (λ (x : Flat.Stmt). passes_on (length (flat p).start) x.op)) (stmts_are p) ∙ sites_pass (sites_of p) (all_here p);
      }
