-- Squashes of stages, one or two of them, by nets for all stages.
use Rattle.std.proofs.Common.{◌≡◌, ◌<◌, ◌≤◌, ◌==◌, ℕ, ◌+◌, Bool, true, false, refl, sym, ap, ap₂, ◌∙◌, subst, List, [], ◌∷◌, ◌++◌, ◌⊎◌, inl, inr, arith}
use Rattle.std.specs.Prelude.{Option, Some, None, nat_lt, if◌then◌else◌, filter, Contains}
use Rattle.std.proofs.lemmas.Bool.{cases_lt, le-ltb, lt-ltb}
use Rattle.std.proofs.lemmas.List.{length-append, get_or_append_left, get_or_push}
use Rattle.pdl_semantics.specs.Flat.{Stmt}
use Rattle.pdl_semantics.specs.Stages.{verify_stage}
use Rattle.pdl_semantics.specs.Updates.{update_stage, listed, squash_stages}
use Rattle.pdl_semantics.proofs.SquashStages.{update_early, update_before, never_update, squash_either}
use Rattle.pdl_net.specs.Circuit.{Circuit}
use Rattle.pdl_net.specs.Signal.{Signal, no_signal, mux_signal}
use Rattle.pdl_net.specs.Meaning.{signal}
use Rattle.pdl_net.specs.Growth.{Keeps}
use Rattle.pdl_squash.specs.Laws.{SquashLaw}
use Rattle.pdl_law_parts.specs.Walk.{one, zero_bit}
use Rattle.pdl_law_parts.specs.Views.{View}
use Rattle.pdl_law_sides.specs.Sides.{any_removes}
use Rattle.pdl_law_sides.specs.HasSides.{squash_of}
use Rattle.pdl_pipe_exprs.specs.Nets.{signals_in, signal_at}
use Rattle.pdl_pipe_exprs.proofs.NetLists.{signals_keep}
use Rattle.pdl_pipe_beside.specs.Squashed.{by_stage, either, passes}
use Rattle.pdl_pipe_beside.proofs.SquashFolds.{verify_has, update_has, any_two, any_as}
use Rattle.pdl_pipe_nexts.specs.declared.line.StageLine.{StageLine}
use Rattle.pdl_pipe_nexts.specs.Lines.{line_pipe, line_views, IsLineIn}
use Rattle.pdl_pipe_nexts.proofs.LineGrowth.{views_same, bits_there}
use Rattle.pdl_pipe_moves.specs.declared.squash.StageSquash.{StageSquash}
use Rattle.pdl_pipe_moves.specs.StageSquashes.{joined_signal, AreJoined, IsSquash}
use Rattle.pdl_pipe_moves.proofs.GateParts.{bit_keep, bits_keep}
use Rattle.pdl_pipe_moves.proofs.AllMoves.{squash_as}

-- ---- one stage

-- the squash of a stage keeps its law in a circuit that grew, by a move of its thread that is the same
pub squash_keep : (a b : Circuit) (x : StageLine) (v : ℕ) (moves others : Signal) (z : StageSquash) → Keeps a b → IsLineIn a x → moves ≡ others
    → IsSquash a x v moves z → IsSquash b x v others z
squash_keep a b x v moves others z e line same h = record {
  happens = bit_keep a b z.happens e h.happens;
  removed_count = h.removed_count;
  removed = bits_keep a b z.removed.items e h.removed;
  clear_count = h.clear_count;
  clear = bits_keep a b z.clear.items e h.clear;
  law =
      squash_as v (λ k. (line_views a x k).valid) (λ k. (line_views b x k).valid) moves others
      (line_views a x v).ended.fails (line_views b x v).ended.fails (signal a z.happens) (signal b z.happens)
      (signal_at (signals_in a z.removed.items)) (signal_at (signals_in b z.removed.items))
      (signal_at (signals_in a z.clear.items)) (signal_at (signals_in b z.clear.items))
      (λ k l. ap (λ (vs : ℕ → View). (vs k).valid) views) same (ap (λ (vs : ℕ → View). (vs v).ended.fails) views)
      (sym (e.kept z.happens h.happens.there)) (λ k l. ap (λ fs. signal_at fs k) (sym removed)) (λ k l. ap (λ fs. signal_at fs k) (sym clear)) h.law;
  spared = λ k l m. ap (λ fs. signal_at fs k) removed ∙ h.spared k l m;
}
  where
    views : line_views a x ≡ line_views b x
    views = sym (views_same a b x e line)

    removed : signals_in b z.removed.items ≡ signals_in a z.removed.items
    removed = signals_keep a b z.removed.items e (bits_there a z.removed.items h.removed)

    clear : signals_in b z.clear.items ≡ signals_in a z.clear.items
    clear = signals_keep a b z.clear.items e (bits_there a z.clear.items h.clear)

-- signals that are those of a stage's squash keep its law
law_at : (c : Circuit) (x : StageLine) (moves : ℕ → Signal) (q : ℕ) (z : StageSquash) (squash : Signal) (removed clear : ℕ → Signal)
    → IsSquash c x q (moves q) z → squash ≡ signal c z.happens → removed ≡ signal_at (signals_in c z.removed.items)
    → clear ≡ signal_at (signals_in c z.clear.items) → SquashLaw (squash_of (line_views c x) moves q) squash removed clear
law_at c x moves q z squash removed clear h e f g =
    subst (λ s. SquashLaw (squash_of (line_views c x) moves q) s removed clear) (sym e)
    (subst (λ r. SquashLaw (squash_of (line_views c x) moves q) (signal c z.happens) r clear) (sym f)
    (subst (λ k. SquashLaw (squash_of (line_views c x) moves q) (signal c z.happens) (signal_at (signals_in c z.removed.items)) k) (sym g) h.law))

-- each stage that may squash keeps the law of its squash, where V and U have these
pub laws_at : (c : Circuit) (x : StageLine) (moves : ℕ → Signal) (y z : StageSquash)
    → ((v : ℕ) → verify_stage (line_pipe x).stmts ≡ Some v → IsSquash c x v (moves v) y)
    → ((u : ℕ) → update_stage (line_pipe x).stmts ≡ Some u → IsSquash c x u (moves u) z)
    → (q : ℕ) → Contains (squash_stages (line_pipe x).stmts) q
    → SquashLaw (squash_of (line_views c x) moves q) (by_stage (verify_stage (line_pipe x).stmts) (signal c y.happens) (signal c z.happens) q)
    (by_stage (verify_stage (line_pipe x).stmts) (signal_at (signals_in c y.removed.items)) (signal_at (signals_in c z.removed.items)) q)
    (by_stage (verify_stage (line_pipe x).stmts) (signal_at (signals_in c y.clear.items)) (signal_at (signals_in c z.clear.items)) q)
laws_at c x moves y z first second q is = at (squash_either xs q is)
  where
    xs : List Stmt
    xs = (line_pipe x).stmts

    Law : Type 0
    Law =
        SquashLaw (squash_of (line_views c x) moves q) (by_stage (verify_stage xs) (signal c y.happens) (signal c z.happens) q)
        (by_stage (verify_stage xs) (signal_at (signals_in c y.removed.items)) (signal_at (signals_in c z.removed.items)) q)
        (by_stage (verify_stage xs) (signal_at (signals_in c y.clear.items)) (signal_at (signals_in c z.clear.items)) q)

    early : (v : ℕ) → update_stage xs ≡ Some q → verify_stage xs ≡ Some v → Law
    early v e f =
        let l = update_before xs q v e f in
        law_at c x moves q z _ _ _ (second q e) (update_has (verify_stage xs) v q (signal c y.happens) (signal c z.happens) f l)
        (update_has (verify_stage xs) v q (signal_at (signals_in c y.removed.items)) (signal_at (signals_in c z.removed.items)) f l)
        (update_has (verify_stage xs) v q (signal_at (signals_in c y.clear.items)) (signal_at (signals_in c z.clear.items)) f l)

    at : (verify_stage xs ≡ Some q) ⊎ (update_stage xs ≡ Some q) → Law
    at (inl e) =
        law_at c x moves q y _ _ _ (first q e) (verify_has (verify_stage xs) q (signal c y.happens) (signal c z.happens) e)
        (verify_has (verify_stage xs) q (signal_at (signals_in c y.removed.items)) (signal_at (signals_in c z.removed.items)) e)
        (verify_has (verify_stage xs) q (signal_at (signals_in c y.clear.items)) (signal_at (signals_in c z.clear.items)) e)
    at (inr e) = let r = update_early xs q e in early r.0 e r.1

-- ---- whom two stages remove

-- with that of the next stage, the first n + 1 are joined
pub joined_more : (f g : ℕ → Signal) (u n : ℕ) (hs : List Signal) (h : Signal) → AreJoined f g u n hs → h ≡ joined_signal u n (f n) (g n)
    → AreJoined f g u (n + 1) (hs ++ h ∷ [])
joined_more f g u n hs h it e = record {
  count = length-append hs (h ∷ []) ∙ ap (λ i. i + 1) it.count;
  each = λ k l. at k l (cases_lt k n);
}
  where
    at : (k : ℕ) → k < n + 1 → (k < n) ⊎ (n ≤ k) → signal_at (hs ++ h ∷ []) k ≡ joined_signal u k (f k) (g k)
    at k l (inl q) = get_or_append_left hs (h ∷ []) no_signal k (let c = it.count in omega (arith, q, c)) ∙ it.each k q
    at k l (inr q) =
        let here : n ≡ k = omega (arith, l, q) in
        subst (λ i. signal_at (hs ++ h ∷ []) i ≡ joined_signal u i (f i) (g i)) here (get_or_push hs h no_signal n it.count ∙ e)

by_both : (o : Option ℕ) (f g : ℕ → Signal) (k z : ℕ) → by_stage o f g z k ≡ by_stage o (f k) (g k) z
by_both None f g k z = refl
by_both (Some v) f g k z = at (z == v)
  where
    at : (b : Bool) → (if b then f else g) k ≡ (if b then f k else g k)
    at true = refl
    at false = refl

removes_two : (xs : List Stmt) (f g : ℕ → Signal) (k : ℕ)
    → any_removes (squash_stages xs) (by_stage (verify_stage xs) f g) k
    ≡ either (passes (nat_lt k) (verify_stage xs)) (passes (nat_lt k) (update_stage xs)) (f k) (g k)
removes_two xs f g k =
    any_as (filter (nat_lt k) (squash_stages xs)) (λ z. by_stage (verify_stage xs) f g z k) (by_stage (verify_stage xs) (f k) (g k))
    (by_both (verify_stage xs) f g k)
    ∙ any_two xs (nat_lt k) (f k) (g k)

-- without a stage that may squash no thread is removed
pub removes_none : (xs : List Stmt) (removed : ℕ → ℕ → Signal) (k : ℕ) → verify_stage xs ≡ None → any_removes (squash_stages xs) removed k ≡ zero_bit
removes_none xs removed k e = ap₂ (λ o i. any_removes (listed o ++ listed i) removed k) e (never_update xs e)

-- V alone removes the threads of the stages before it
pub removes_one : (xs : List Stmt) (v : ℕ) (f g : ℕ → Signal) (k : ℕ) → verify_stage xs ≡ Some v → update_stage xs ≡ None
    → (v ≤ k → f k ≡ zero_bit) → any_removes (squash_stages xs) (by_stage (verify_stage xs) f g) k ≡ f k
removes_one xs v f g k e none spared =
    removes_two xs f g k
    ∙ ap₂ (λ o i. either (passes (nat_lt k) o) (passes (nat_lt k) i) (f k) (g k)) e none
    ∙ at (cases_lt k v)
  where
    at : (k < v) ⊎ (v ≤ k) → either (nat_lt k v) false (f k) (g k) ≡ f k
    at (inl l) = ap (λ b. either b false (f k) (g k)) (lt-ltb k v l)
    at (inr l) = ap (λ b. either b false (f k) (g k)) (le-ltb k v l) ∙ sym (spared l)

-- U removes those of the stages before it as well
pub removes_both : (xs : List Stmt) (v u : ℕ) (f g : ℕ → Signal) (k : ℕ) → verify_stage xs ≡ Some v → update_stage xs ≡ Some u
    → (v ≤ k → f k ≡ zero_bit) → any_removes (squash_stages xs) (by_stage (verify_stage xs) f g) k ≡ joined_signal u k (f k) (g k)
removes_both xs v u f g k e i spared =
    removes_two xs f g k
    ∙ ap₂ (λ o j. either (passes (nat_lt k) o) (passes (nat_lt k) j) (f k) (g k)) e i
    ∙ at (cases_lt k u) (cases_lt k v)
  where
    early : u < v
    early = update_before xs u v i e

    at : (k < u) ⊎ (u ≤ k) → (k < v) ⊎ (v ≤ k) → either (nat_lt k v) (nat_lt k u) (f k) (g k) ≡ joined_signal u k (f k) (g k)
    at (inl l) (inl m) =
        ap₂ (λ b d. either b d (f k) (g k)) (lt-ltb k v m) (lt-ltb k u l) ∙ sym (ap (λ b. if b then mux_signal (f k) one (g k) else f k) (lt-ltb k u l))
    at (inl l) (inr m) = absurd (omega (arith, l, m, early))
    at (inr l) (inl m) =
        ap₂ (λ b d. either b d (f k) (g k)) (lt-ltb k v m) (le-ltb k u l)
        ∙ sym (ap (λ b. if b then mux_signal (f k) one (g k) else f k) (le-ltb k u l))
    at (inr l) (inr m) =
        ap₂ (λ b d. either b d (f k) (g k)) (le-ltb k v m) (le-ltb k u l)
        ∙ sym (spared m)
        ∙ sym (ap (λ b. if b then mux_signal (f k) one (g k) else f k) (le-ltb k u l))
