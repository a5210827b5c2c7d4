-- The flat form of a source without its updates is that of the source without those.
use Rattle.std.proofs.Common.{◌≡◌, refl, sym, ap, ap₂, ◌∙◌, subst, ℕ, suc, ◌+◌, Bool, true, false, List, [], ◌∷◌, ◌++◌, if◌then◌else◌, ◌==◌, Option, Some, None, length, zero-add}
use Rattle.std.proofs.lemmas.Bool.{false≢true}
use Rattle.pdl_semantics.specs.Tree.{Span, Expr, Variable, Kind, R, W, Stmt, Separator, CombRead, Bind, SpecCall, DelayedRead, Write, Reserve, Block, Release, If, Call, Verify, Update, SpecCheck, SpecBarrier, Stmts, Nil, Cons, Mem, Pipe}
use Rattle.pdl_semantics.specs.Flat as flat
use Rattle.pdl_semantics.specs.Flat.{Arrays}
use Rattle.pdl_semantics.specs.Flatten
use Rattle.pdl_semantics.specs.Flatten.{Position, Graph, past, past_all, with_guard, back_in, at_otherwise, at_position, binds_guard, on_variable, guard_of, under, bind_op, read_op, write_op, reserve_op, flat_stmt, flat_stmts, flat_expr, flat_exprs, is_advised, is_advisory_mem, mem_of, var_of, separators, separators_in, graph, graph_before, graph_with_fork, side, first_stage, first_stages, at_start, mems_of, start_of}
use Rattle.pdl_semantics.specs.Stages.{is_reserve, is_release}
use Rattle.pdl_semantics.specs.Sequential.{seqwrites}
use Rattle.pdl_semantics.specs.Cycle.{turns, commits}
use Rattle.pdl_semantics.specs.Promises.{IsPrefix}
use Rattle.pdl_semantics.specs.Updates.{is_update, without_updates, not_updated, CommitsAlike}
use Rattle.pdl_semantics.specs.UpdateFree.{with_before, update_free, without_update, UpdatesAreIdle}
use Rattle.pdl_semantics.proofs.Updates.{both_left, seq_alike}

-- WHERE A WALK IS

mutual
  past_statement : (ms : List Mem) (s : Stmt) (rest : Stmts) (at' : Position) → past_all ms (with_before s rest) at' ≡ past_all ms rest (past ms s at')
  past_statement ms (If span c when otherwise) rest at' =
      ap (λ q. past_all ms rest (back_in at'.stage (past_all ms (update_free otherwise) (back_in at'.stage q)))) (past_free ms when (with_guard c at'))
      ∙ ap (λ q. past_all ms rest (back_in at'.stage q)) (past_free ms otherwise (at_otherwise ms c when at'))
  past_statement ms (Separator span) rest at' = refl
  past_statement ms _ rest at' = refl

  past_free : (ms : List Mem) (ss : Stmts) (at' : Position) → past_all ms (update_free ss) at' ≡ past_all ms ss at'
  past_free ms Nil at' = refl
  past_free ms (Cons s ss) at' = past_statement ms s (update_free ss) at' ∙ past_free ms ss (past ms s at')

past_if : (ms : List Mem) (span : Span) (c : Expr) (when otherwise : Stmts) (at' : Position)
    → past ms (If span c (update_free when) (update_free otherwise)) at' ≡ past ms (If span c when otherwise) at'
past_if ms span c when otherwise at' = past_statement ms (If span c when otherwise) Nil at'

-- STATEMENTS

one_left : (gs : List flat.Guard) (at' : Position) (op : flat.Op) → is_update op ≡ false → at_position gs at' op ≡ without_updates (at_position gs at' op)
one_left gs at' op e = sym (ap (λ (u : Bool). if u then [] else at_position gs at' op) e)

bind_stays : (b : Bool) (x : ℕ) (e : flat.Expr) → is_update (bind_op b x e) ≡ false
bind_stays true x e = refl
bind_stays false x e = refl

read_stays : (b : Bool) (x m a : ℕ) → is_update (read_op b x m a) ≡ false
read_stays true x m a = refl
read_stays false x m a = refl

write_stays : (b : Bool) (m a : ℕ) (e : flat.Expr) → is_update (write_op b m a e) ≡ false
write_stays true m a e = refl
write_stays false m a e = refl

reserve_stays : (k : Kind) (m a : ℕ) → is_update (reserve_op k m a) ≡ false
reserve_stays R m a = refl
reserve_stays W m a = refl

guard_stays : (gs : List flat.Guard) (at' : Position) (c : Expr) → binds_guard gs at' c ≡ without_updates (binds_guard gs at' c)
guard_stays gs at' (Variable x) = refl
guard_stays gs at' _ = refl

three_left : (xs ys zs ys' zs' : List flat.Stmt) → xs ≡ without_updates xs → ys' ≡ without_updates ys → zs' ≡ without_updates zs
    → xs ++ ys' ++ zs' ≡ without_updates (xs ++ ys ++ zs)
three_left xs ys zs ys' zs' e f g =
    ap₂ (λ a b. a ++ b) (ap₂ (λ a b. a ++ b) e f ∙ sym (both_left xs ys)) g ∙ sym (both_left (xs ++ ys) zs)

mutual
  -- one statement
  flat_alone : (ms : List Mem) (gs : List flat.Guard) (s : Stmt) (rest : Stmts) (at' : Position)
      → flat_stmts ms gs (with_before s rest) at' ≡ without_updates (flat_stmt ms gs s at') ++ flat_stmts ms gs rest (past ms s at')
  flat_alone ms gs (Update span guess args) rest at' = refl
  flat_alone ms gs (Separator span) rest at' = refl
  flat_alone ms gs (CombRead span x from) rest at' =
      ap (λ xs. xs ++ flat_stmts ms gs rest (past ms (CombRead span x from) at'))
      (one_left gs at' _ (read_stays (is_advisory_mem ms from.mem.name) _ (mem_of ms from.mem.name) (var_of at'.vars from.address.name)))
  flat_alone ms gs (Bind span x e) rest at' =
      ap (λ xs. xs ++ flat_stmts ms gs rest (past ms (Bind span x e) at')) (one_left gs at' _ (bind_stays (is_advised at'.vars e) _ (flat_expr at'.vars e)))
  flat_alone ms gs (Write span to e) rest at' =
      ap (λ xs. xs ++ flat_stmts ms gs rest at')
      (one_left gs at' _ (write_stays (is_advisory_mem ms to.mem.name) (mem_of ms to.mem.name) (var_of at'.vars to.address.name) (flat_expr at'.vars e)))
  flat_alone ms gs (Reserve span at kind) rest at' =
      ap (λ xs. xs ++ flat_stmts ms gs rest at') (one_left gs at' _ (reserve_stays kind (mem_of ms at.mem.name) (var_of at'.vars at.address.name)))
  flat_alone ms gs (If span c when otherwise) rest at' =
      let second = under gs at'.vars c false in
      ap₂ (λ xs q. xs ++ flat_stmts ms gs rest q)
      (three_left (binds_guard gs at' c) _ _ _ _ (guard_stays gs at' c) (flat_free ms (under gs at'.vars c true) when (with_guard c at'))
      (ap (λ q. flat_stmts ms second (update_free otherwise) (back_in at'.stage q)) (past_free ms when (with_guard c at'))
      ∙ flat_free ms second otherwise (at_otherwise ms c when at')))
      (past_if ms span c when otherwise at')
  flat_alone ms gs _ rest at' = refl

  flat_free : (ms : List Mem) (gs : List flat.Guard) (ss : Stmts) (at' : Position)
      → flat_stmts ms gs (update_free ss) at' ≡ without_updates (flat_stmts ms gs ss at')
  flat_free ms gs Nil at' = refl
  flat_free ms gs (Cons s ss) at' =
      flat_alone ms gs s (update_free ss) at' ∙ ap (λ xs. without_updates (flat_stmt ms gs s at') ++ xs) (flat_free ms gs ss (past ms s at'))
      ∙ sym (both_left (flat_stmt ms gs s at') (flat_stmts ms gs ss (past ms s at')))

-- THE STAGE GRAPH

mutual
  begun_alone : (s : Stmt) (rest : Stmts) → separators (with_before s rest) ≡ separators_in s + separators rest
  begun_alone (If span c when otherwise) rest = ap₂ (λ a b. a + b + separators rest) (begun_free when) (begun_free otherwise)
  begun_alone (Update span guess args) rest = sym (zero-add (separators rest))
  begun_alone (Separator span) rest = refl
  begun_alone _ rest = refl

  -- as many stages begin
  pub begun_free : (ss : Stmts) → separators (update_free ss) ≡ separators ss
  begun_free Nil = refl
  begun_free (Cons s ss) = begun_alone s (update_free ss) ∙ ap (λ n. separators_in s + n) (begun_free ss)

-- the graph of an `if`, by how many stages begin in its branches and by these
abbrev graph_if : Expr → Position → Graph → ℕ → ℕ → (flat.Next → Graph) → (flat.Next → Graph) → Graph
graph_if c at' rest a b first second =
    if a + b == 0
    then rest
    else (let merge = flat.Goes (suc (at'.begun + a + b)) in graph_with_fork at'.stage (guard_of at'.vars c) (first merge) (second merge) rest)

mutual
  graph_alone : (ms : List Mem) (branches : List flat.Branch) (exit : flat.Next) (s : Stmt) (rest : Stmts) (at' : Position)
      → graph ms branches exit (with_before s rest) at' ≡ graph_before ms branches s at' (graph ms branches exit rest (past ms s at'))
  graph_alone ms branches exit (If span c when otherwise) rest at' =
      let last = graph ms branches exit rest (past ms (If span c when otherwise) at') in
      let inside = side at'.stage true ∷ branches in
      let outside = side at'.stage false ∷ branches in
      let first = λ (to : flat.Next). graph ms inside to (update_free when) (with_guard c at') in
      let second = λ (to : flat.Next). graph ms outside to (update_free otherwise) (at_otherwise ms c (update_free when) at') in
      let merge = flat.Goes (suc (at'.begun + separators when + separators otherwise)) in
      ap (λ q. graph_before ms branches (If span c (update_free when) (update_free otherwise)) at' (graph ms branches exit rest q))
      (past_if ms span c when otherwise at')
      ∙ ap₂ (λ a b. graph_if c at' last a b first second) (begun_free when) (begun_free otherwise)
      ∙ ap₂ (λ g h. if separators when + separators otherwise == 0 then last else graph_with_fork at'.stage (guard_of at'.vars c) g h last)
      (graph_free ms inside merge when (with_guard c at'))
      (ap (λ q. graph ms outside merge (update_free otherwise) (back_in at'.stage q)) (past_free ms when (with_guard c at'))
      ∙ graph_free ms outside merge otherwise (at_otherwise ms c when at'))
  graph_alone ms branches exit (Separator span) rest at' = refl
  graph_alone ms branches exit _ rest at' = refl

  graph_free : (ms : List Mem) (branches : List flat.Branch) (exit : flat.Next) (ss : Stmts) (at' : Position)
      → graph ms branches exit (update_free ss) at' ≡ graph ms branches exit ss at'
  graph_free ms branches exit Nil at' = refl
  graph_free ms branches exit (Cons s ss) at' =
      graph_alone ms branches exit s (update_free ss) at' ∙ ap (graph_before ms branches s at') (graph_free ms branches exit ss (past ms s at'))

-- THE WHOLE

-- the first of a kind that has no update stands in the same stage
first_left : (test : flat.Op → Bool) → ((op : flat.Op) → is_update op ≡ true → test op ≡ false) → (xs : List flat.Stmt)
    → first_stage test (without_updates xs) ≡ first_stage test xs
first_left test others [] = refl
first_left test others (x ∷ xs) = at (is_update x.op) (others x.op) (first_left test others xs)
  where
    at : (u : Bool) → (u ≡ true → test x.op ≡ false) → first_stage test (without_updates xs) ≡ first_stage test xs
        → first_stage test (if u then without_updates xs else x ∷ without_updates xs) ≡ first_stage test (x ∷ xs)
    at true other e = e ∙ sym (ap (λ b. if b then Some x.stage else first_stage test xs) (other refl))
    at false other e = ap (λ o. if test x.op then Some x.stage else o) e

firsts_left : (test : ℕ → flat.Op → Bool) → ((m : ℕ) (op : flat.Op) → is_update op ≡ true → test m op ≡ false)
    → (xs : List flat.Stmt) (m : ℕ) (ms : List Mem) → first_stages test (without_updates xs) m ms ≡ first_stages test xs m ms
firsts_left test others xs m [] = refl
firsts_left test others xs m (x ∷ ms) = ap₂ (λ o os. o ∷ os) (first_left (test m) (others m) xs) (firsts_left test others xs (suc m) ms)

no_reserve : (m : ℕ) (op : flat.Op) → is_update op ≡ true → is_reserve m op ≡ false
no_reserve m (flat.Verify last args) h = refl
no_reserve m _ h = absurd (false≢true h)

no_release : (m : ℕ) (op : flat.Op) → is_update op ≡ true → is_release m op ≡ false
no_release m (flat.Verify last args) h = refl
no_release m _ h = absurd (false≢true h)

-- a flat form by where the walk ends, its statements and its stage graph
abbrev form : Pipe → Position → List flat.Stmt → Graph → flat.Pipe
form p last stmts g =
    record {
      vars = length last.vars;
      mems = mems_of p.mems;
      stmts = stmts;
      stages = record { next = g.next; branches = []; merges = None } ∷ g.later;
      start = start_of p.start.args;
      reserves_at = first_stages is_reserve stmts 0 p.mems;
      releases_at = first_stages is_release stmts 0 p.mems;
    }

-- the flat form of a source without its updates
pub flat_without : (p : Pipe) → Flatten.flat (without_update p) ≡ not_updated (Flatten.flat p)
flat_without p =
    let last = past_all p.mems p.body (at_start p) in
    let stmts = flat_stmts p.mems [] p.body (at_start p) in
    let stages = graph p.mems [] flat.Ends p.body (at_start p) in
    let free_stmts = flat_stmts p.mems [] (update_free p.body) (at_start p) in
    let free_stages = graph p.mems [] flat.Ends (update_free p.body) (at_start p) in
    ap (λ q. form p q free_stmts free_stages) (past_free p.mems p.body (at_start p))
    ∙ ap₂ (form p last) (flat_free p.mems [] p.body (at_start p)) (graph_free p.mems [] flat.Ends p.body (at_start p))
    ∙ ap₂ (λ r l. record (form p last (without_updates stmts) stages) { reserves_at = r; releases_at = l })
    (firsts_left is_reserve no_reserve stmts 0 p.mems) (firsts_left is_release no_release stmts 0 p.mems)

-- where the commits of a pipe with its updates and without them begin one list, those of a source do
pub updates_idle : (p : Pipe) (image : Arrays) (schedule replies : List (List Bool))
    → CommitsAlike (Flatten.flat p) image schedule replies → UpdatesAreIdle p image schedule replies
updates_idle p image schedule replies h = record {
  writes = λ m k. ap (λ q. seqwrites q image m k) (flat_without p) ∙ seq_alike (Flatten.flat p) image m k;
  commits = λ m. (
    (h m).0,
    (h m).1,
    subst (λ q. IsPrefix (commits m (turns q image replies)) (h m).0) (sym (flat_without p)) (h m).2,
  );
}
