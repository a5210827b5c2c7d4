-- What the rules of the language give of a pipe, as far as its netlist hangs on it.
use Rattle.std.proofs.Common.{◌≡◌, refl, sym, ap, subst, ℕ, suc, ◌<◌, ◌≤◌, Bool, true, false, if◌then◌else◌, List, [], ◌∷◌, ◌++◌, length, length-append, Option, Some, None, nat_lt, arith, bytes_eq, slice_index_or}
use Rattle.std.specs.Prelude.{⊤}
use Rattle.std.proofs.lemmas.Bool.{false≢true, not-false, and_parts, ltb-true}
use Rattle.pdl_semantics.specs.Tree as tree
use Rattle.pdl_semantics.specs.Tree.{R, W, Variable, Separator, CombRead, Bind, DelayedRead, Write, Reserve, If, Mem}
use Rattle.pdl_semantics.specs.Flat
use Rattle.pdl_semantics.specs.Flat.{is_delayed, list_all, Op, Stmt, Pipe}
use Rattle.pdl_semantics.specs.Forms.{on_delayed_read}
use Rattle.pdl_semantics.specs.Stages.{mem_at, plain_mem}
use Rattle.pdl_semantics.specs.Flatten.{Var, flat, flat_expr, mem_of, var_of, mems_of, params_of, at_position, is_advisory_mem, is_advised, read_op, write_op}
use Rattle.pdl_semantics.specs.Flatten
use Rattle.pdl_semantics.proofs.Facts.{all_vars}
use Rattle.pdl_kit.specs.declared.rule.Rule.TheVariants.{F4}
use Rattle.pdl_rules.specs.Forks.{is_delayed_memory, is_wrong_read}
use Rattle.pdl_rules.specs.Refusal.{KeepsRules}
use Rattle.pdl_theory_turns.specs.Facts.{Sound}
use Rattle.pdl_source_stages.proofs.Sites.{Site, sites_of, place_of, owns, stmts_are}
use Rattle.pdl_source_stages.proofs.SiteFacts.{op_of, rows_of, own_is, each_fine, either_read, either_bind, either_write}
use Rattle.pdl_source_stages.proofs.Facts.{stage_facts}
use Rattle.pdl_source_paths.specs.Source.{is_source, is_named}
use Rattle.pdl_source_paths.proofs.Growth.{Grows, vars_past, past_grown, grows_all}
use Rattle.pdl_source_paths.proofs.PipeFacts.{of_source}
use Rattle.pdl_machine_lockuse.proofs.InUse.{leads_sound}
use Rattle.pdl_law_parts.specs.Rows.{HasRow, HaveRows}
use Rattle.pdl_machine_inflight.specs.Readings.{ReadsAtOnce, Reads}
use Rattle.pdl_law_follows.specs.StandingStates.{IsLawful}
use Rattle.pdl_law_follows.proofs.AdviceFacts.{unlocked_there, apart_source}
use Rattle.pdl_law_follows.proofs.DelayedReads.{RisesIn, rises_from, reading_has, risen, reads_apart, each_reading}
use Rattle.pdl_word.specs.Each.{Each}
use Rattle.pdl_word.proofs.Each.{each_weaker}

-- ---- MEMORIES

-- a memory that the rules take for delayed is there, and delayed; one that they don't is not
delayed_there : (ms : List Mem) (n : List ℕ)
    → is_delayed_memory ms n ≡ true
    → (mem_of ms n < length (mems_of ms)) × (is_delayed (slice_index_or (mems_of ms) (mem_of ms n) plain_mem).kind ≡ true)
delayed_there [] n e = absurd (false≢true e)
delayed_there (x ∷ xs) n e = at (bytes_eq x.name.name n) e (delayed_there xs n)
  where
    at : (b : Bool) → (if b then is_delayed x.kind else is_delayed_memory xs n) ≡ true
        → (is_delayed_memory xs n ≡ true → (mem_of xs n < length (mems_of xs)) × (is_delayed (slice_index_or (mems_of xs) (mem_of xs n) plain_mem).kind ≡ true))
        → ((if b then 0 else suc (mem_of xs n)) < suc (length (mems_of xs)))
        × (is_delayed (slice_index_or (mems_of (x ∷ xs)) (if b then 0 else suc (mem_of xs n)) plain_mem).kind ≡ true)
    at true f rest = (omega arith, f)
    at false f rest = let r = rest f in (let l = r.0 in omega (arith, l), r.1)

comb_there : (ms : List Mem) (n : List ℕ)
    → is_delayed_memory ms n ≡ false → is_delayed (slice_index_or (mems_of ms) (mem_of ms n) plain_mem).kind ≡ false
comb_there [] n e = refl
comb_there (x ∷ xs) n e = at (bytes_eq x.name.name n) e (comb_there xs n)
  where
    at : (b : Bool) → (if b then is_delayed x.kind else is_delayed_memory xs n) ≡ false
        → (is_delayed_memory xs n ≡ false → is_delayed (slice_index_or (mems_of xs) (mem_of xs n) plain_mem).kind ≡ false)
        → is_delayed (slice_index_or (mems_of (x ∷ xs)) (if b then 0 else suc (mem_of xs n)) plain_mem).kind ≡ false
    at true f rest = f
    at false f rest = rest f

-- what a statement of the source does, if anything, has a property
abbrev OnSome : (Op → Type 0) → Option Op → Type 0
OnSome P None = ⊤
OnSome P (Some op) = P op

-- each form of read is of a memory of its kind
abbrev IsOfKind : Pipe → Op → Type 0
IsOfKind p op = ReadsAtOnce p op × on_delayed_read (λ y m a. (m < length p.mems) × (is_delayed (mem_at p m).kind ≡ true)) ⊤ op

kind_at : (p : tree.Pipe) (s : tree.Stmt) (vs : List Var) → is_wrong_read p.mems s ≡ false → OnSome (IsOfKind (flat p)) (op_of p.mems vs s)
kind_at p (CombRead sp x from) vs e =
    either_read (IsOfKind (flat p)) (is_advisory_mem p.mems from.mem.name) (length vs) (mem_of p.mems from.mem.name) (var_of vs from.address.name)
    (tt, tt) (comb_there p.mems from.mem.name e, tt)
kind_at p (Bind sp x a) vs e = either_bind (IsOfKind (flat p)) (is_advised vs a) (length vs) (flat_expr vs a) (tt, tt) (tt, tt)
kind_at p (DelayedRead sp x from) vs e = (tt, delayed_there p.mems from.mem.name (not-false _ e))
kind_at p (Write sp to a) vs e =
    either_write (IsOfKind (flat p)) (is_advisory_mem p.mems to.mem.name) (mem_of p.mems to.mem.name) (var_of vs to.address.name) (flat_expr vs a)
    (tt, tt) (tt, tt)
kind_at p (Reserve sp at R) vs e = (tt, tt)
kind_at p (Reserve sp at W) vs e = (tt, tt)
kind_at p (If sp (Variable x) when otherwise) vs e = tt
kind_at p (If sp c when otherwise) vs e = (tt, tt)
kind_at p (Separator sp) vs e = tt
kind_at p _ vs e = (tt, tt)

-- each read of a pipe that keeps the rules is of a memory of its kind, delayed or at once
pub kinds : (p : tree.Pipe) → KeepsRules p → Each (λ (x : Stmt). IsOfKind (flat p) x.op) (flat p).stmts
kinds p rules =
    each_fine p rules (λ (x : Stmt). IsOfKind (flat p) x.op)
    (λ t h op e. subst (OnSome (IsOfKind (flat p))) e (kind_at p t.stmt t.walk.vars (rules F4 t.front (place_of t) h.later h.whole)))

-- ---- ROWS

row_of : (p : tree.Pipe) → KeepsRules p → (s : tree.Stmt) (vs : List Var) → is_wrong_read p.mems s ≡ false → OnSome (HasRow (flat p)) (op_of p.mems vs s)
row_of p rules (CombRead sp x from) vs e = at (is_advisory_mem p.mems from.mem.name) refl
  where
    at : (b : Bool) → is_advisory_mem p.mems from.mem.name ≡ b
        → HasRow (flat p) (read_op b (length vs) (mem_of p.mems from.mem.name) (var_of vs from.address.name))
    at true i = unlocked_there p rules from.mem.name i
    at false i = comb_there p.mems from.mem.name e
row_of p rules (Bind sp x a) vs e = either_bind (HasRow (flat p)) (is_advised vs a) (length vs) (flat_expr vs a) tt tt
row_of p rules (Write sp to a) vs e = at (is_advisory_mem p.mems to.mem.name) refl
  where
    at : (b : Bool) → is_advisory_mem p.mems to.mem.name ≡ b
        → HasRow (flat p) (write_op b (mem_of p.mems to.mem.name) (var_of vs to.address.name) (flat_expr vs a))
    at true i = unlocked_there p rules to.mem.name i
    at false i = tt
row_of p rules (Reserve sp at R) vs e = tt
row_of p rules (Reserve sp at W) vs e = tt
row_of p rules (If sp (Variable x) when otherwise) vs e = tt
row_of p rules (If sp c when otherwise) vs e = tt
row_of p rules (Separator sp) vs e = tt
row_of p rules _ vs e = tt

-- a row stands for each statement of a pipe that keeps the rules
have_rows : (p : tree.Pipe) → KeepsRules p → HaveRows (flat p)
have_rows p rules =
    each_fine p rules (λ (x : Stmt). HasRow (flat p) x.op)
    (λ t h op e. subst (OnSome (HasRow (flat p))) e (row_of p rules t.stmt t.walk.vars (rules F4 t.front (place_of t) h.later h.whole)))

-- ---- VARIABLES

-- of one site, and then the rest
rises_row : (ms : List Mem) (gs : List Flat.Guard) (w : Flatten.Position) (s : tree.Stmt) (lo hi : ℕ) (rest : List Stmt)
    → lo ≤ length w.vars → RisesIn (length (vars_past ms w.vars s)) hi rest
    → RisesIn lo hi (rows_of gs w (op_of ms w.vars s) ++ rest)
rises_row ms gs w s lo hi rest l h = at s h past
  where
    past : lo ≤ length (vars_past ms w.vars s)
    past = let g = past_grown ms w.vars s in let e = ap length g.1 in let f = length-append w.vars g.0 in omega (arith, l, e, f)

    at : (s : tree.Stmt) → RisesIn (length (vars_past ms w.vars s)) hi rest → lo ≤ length (vars_past ms w.vars s)
        → RisesIn lo hi (rows_of gs w (op_of ms w.vars s) ++ rest)
    at (DelayedRead sp x from) i k = (
      l,
      subst (λ n. RisesIn n hi rest)
          (let e = length-append w.vars (record { name = x.name; width = Flatten.mem_width ms from.mem.name; advised = false } ∷ []) in
          let z : length (vars_past ms w.vars (DelayedRead sp x from)) ≡ suc (length w.vars) = omega (arith, e) in z) i,
    )
    at (CombRead sp x from) i k =
        either_read (λ op. RisesIn lo hi (at_position gs w op ++ rest)) (is_advisory_mem ms from.mem.name) (length w.vars)
        (mem_of ms from.mem.name) (var_of w.vars from.address.name) (rises_from lo _ hi rest k i) (rises_from lo _ hi rest k i)
    at (Bind sp x e) i k =
        either_bind (λ op. RisesIn lo hi (at_position gs w op ++ rest)) (is_advised w.vars e) (length w.vars) (flat_expr w.vars e)
        (rises_from lo _ hi rest k i) (rises_from lo _ hi rest k i)
    at (Write sp to e) i k =
        either_write (λ op. RisesIn lo hi (at_position gs w op ++ rest)) (is_advisory_mem ms to.mem.name)
        (mem_of ms to.mem.name) (var_of w.vars to.address.name) (flat_expr w.vars e) (rises_from lo _ hi rest k i) (rises_from lo _ hi rest k i)
    at (Reserve sp place R) i k = rises_from lo (length w.vars) hi rest k i
    at (Reserve sp place W) i k = rises_from lo (length w.vars) hi rest k i
    at (If sp (Variable x) when otherwise) i k = rises_from lo (length w.vars) hi rest k i
    at (If sp c when otherwise) i k = rises_from lo _ hi rest k i
    at _ i k = rises_from lo _ hi rest k i

rises_sites : (ms : List Mem) (vs us : List Var) (ts : List Site) → Grows ms vs ts us → RisesIn (length vs) (length us) (owns ms ts)
rises_sites ms vs us [] g = let e = ap length g.1 in let f = length-append vs g.0 in omega (arith, e, f)
rises_sites ms vs us (t ∷ ts) g =
    subst (λ r. RisesIn (length vs) (length us) (r ++ owns ms ts)) (sym (own_is ms t.gs t.walk t.stmt))
    (rises_row ms t.gs t.walk t.stmt (length vs) (length us) (owns ms ts)
    (let e = ap length g.0.1 in let f = length-append vs g.0.0 in omega (arith, e, f))
    (rises_sites ms (vars_past ms t.walk.vars t.stmt) us ts g.1))

-- the variables of delayed reads rise along the text
pub rises : (p : tree.Pipe) → RisesIn (length (params_of p.params)) (flat p).vars (flat p).stmts
rises p =
    subst (RisesIn (length (params_of p.params)) (flat p).vars) (sym (stmts_are p))
    (rises_sites p.mems (params_of p.params) (all_vars p) (sites_of p) (grows_all p))

-- ---- STAGES

each_low : (n : ℕ) (xs : List Stmt)
    → list_all (λ (y : Stmt). nat_lt y.stage n) xs ≡ true
    → Each (λ (x : Stmt). on_delayed_read (λ y m a. x.stage < n) ⊤ x.op) xs
each_low n [] h = tt
each_low n (x ∷ xs) h = (at x.op, each_low n xs parts.1)
  where
    parts : (nat_lt x.stage n ≡ true) × (list_all (λ (y : Stmt). nat_lt y.stage n) xs ≡ true)
    parts = and_parts (nat_lt x.stage n) (list_all (λ (y : Stmt). nat_lt y.stage n) xs) h

    at : (op : Op) → on_delayed_read (λ y m a. x.stage < n) ⊤ op
    at (Flat.DelayedRead y m a) = ltb-true x.stage n parts.0
    at _ = tt

-- ---- ALL

reads_source : (p : tree.Pipe) → KeepsRules p → Sound (flat p) → Reads (flat p)
reads_source p rules sound = record {
  one = each_reading (flat p) sound;
  apart = reads_apart (length (params_of p.params)) (flat p).vars (flat p).stmts (rises p);
  known =
      λ m r e.
      (let k = reading_has (λ n q. (n < length (flat p).mems) × (is_delayed (mem_at (flat p) n).kind ≡ true))
      (flat p).stmts (each_weaker (λ (x : Stmt). IsOfKind (flat p) x.op) _ (λ x h. h.1) (flat p).stmts (kinds p rules)) m r e in (
        k.0,
        k.1,
        (reading_has (λ n q. (length (params_of p.params) ≤ q.var) × (q.var < (flat p).vars))
            (flat p).stmts (risen (length (params_of p.params)) (flat p).vars (flat p).stmts (rises p)).0 m r e).1,
      ));
  at_once = each_weaker (λ (x : Stmt). IsOfKind (flat p) x.op) (λ (x : Stmt). ReadsAtOnce (flat p) x.op) (λ x h. h.0) (flat p).stmts (kinds p rules);
}

-- a source that breaks no rule has what its netlist hangs on
pub lawful_source : (p : tree.Pipe) → KeepsRules p → is_source p ≡ true → is_named p ≡ true → IsLawful (flat p)
lawful_source p rules source named =
    let sound = of_source p rules source named in
    record {
      sound = sound;
      leads = leads_sound (flat p) sound;
      some = (let h = sound.graph.some_stage in omega (arith, h));
      updates = (stage_facts p rules).updates;
      reads = reads_source p rules sound;
      rows = have_rows p rules;
      apart = apart_source p rules named;
      inside = reading_has (λ n q. q.stage < length (flat p).stages) (flat p).stmts (each_low (length (flat p).stages) (flat p).stmts sound.inside);
    }
