-- Gates from a stage on that squashes ask for no squash by it.
use Rattle.std.proofs.Common.{◌≡◌, ◌<◌, ◌≤◌, ℕ, refl, sym, ap, ap₂, ◌∙◌, length, List, ◌++◌, arith}
use Rattle.std.specs.Prelude.{Option, Some, None, nat_lt, if◌then◌else◌}
use Rattle.std.proofs.lemmas.Bool.{le-ltb}
use Rattle.pdl_kit.specs.declared.seq.Seq.{Seq}
use Rattle.pdl_semantics.specs.Flat.{Stmt, Pipe}
use Rattle.pdl_semantics.specs.Stages.{stage_at, verify_stage}
use Rattle.pdl_semantics.specs.Updates.{update_stage, listed, squash_stages}
use Rattle.pdl_semantics.proofs.SquashStages.{update_before}
use Rattle.pdl_net.specs.declared.Net.{Net}
use Rattle.pdl_net.specs.Circuit.{Circuit}
use Rattle.pdl_net.specs.Signal.{Signal, mux_signal}
use Rattle.pdl_order.specs.declared.OrderRegs.{OrderRegs}
use Rattle.pdl_port.specs.Laws.{AnswerSignals}
use Rattle.pdl_law_parts.specs.Walk.{both, if_on, one, zero_bit, is_on}
use Rattle.pdl_law_parts.specs.Views.{View, way_on, moves_where}
use Rattle.pdl_law_sides.specs.Sides.{all_answered, unsquashed, barrier_open}
use Rattle.pdl_pipe_exprs.specs.Nets.{signals_in, signal_at}
use Rattle.pdl_pipe_answers.specs.Ports.{answers_in}
use Rattle.pdl_pipe_beside.specs.declared.ends.Squashes.{Squashes}
use Rattle.pdl_pipe_beside.specs.Squashed.{by_stage, squashes_in}
use Rattle.pdl_pipe_beside.proofs.SquashFolds.{verify_has, update_has}
use Rattle.pdl_pipe_nexts.specs.declared.line.StageLine.{StageLine}
use Rattle.pdl_pipe_nexts.specs.Lines.{line_pipe, line_views}
use Rattle.pdl_pipe_moves.specs.Gates.{kept_by, opens_by, turn_in}
use Rattle.pdl_pipe_moves.specs.Signs.{gate_by, signs_in}
use Rattle.pdl_pipe_moves.specs.Passed.{ArePassed, frees_at}

-- ---- two squashes

two : (o e : Option ℕ) (k : ℕ) (f g : Signal) → ((u v : ℕ) → e ≡ Some u → o ≡ Some v → u < v)
    → unsquashed (listed o ++ listed e) k (by_stage o f g) ≡ kept_by o k f (kept_by e k g one)
two None None k f g h = refl
two None (Some u) k f g h = refl
two (Some v) None k f g h = ap (λ x. if nat_lt k v then mux_signal x zero_bit one else one) (verify_has (Some v) v f g refl)
two (Some v) (Some u) k f g h =
    ap₂
    (λ x y. if nat_lt k v then mux_signal x zero_bit (if nat_lt k u then mux_signal y zero_bit one else one)
    else (if nat_lt k u then mux_signal y zero_bit one else one))
    (verify_has (Some v) v f g refl) (update_has (Some v) v u f g refl (h u v refl refl))

-- no squash keeps stage k where V's and U's don't
pub unsquashed_two : (xs : List Stmt) (k : ℕ) (f g : Signal)
    → unsquashed (squash_stages xs) k (by_stage (verify_stage xs) f g) ≡ kept_by (verify_stage xs) k f (kept_by (update_stage xs) k g one)
unsquashed_two xs k f g = two (verify_stage xs) (update_stage xs) k f g (update_before xs)

kept_late : (o : Option ℕ) (k : ℕ) (f r : Signal) → ((z : ℕ) → o ≡ Some z → z ≤ k) → kept_by o k f r ≡ r
kept_late None k f r h = refl
kept_late (Some z) k f r h = ap (λ b. if b then mux_signal f zero_bit r else r) (le-ltb k z (h z refl))

-- from V on a stage moves alike by any squashes
pub verified_late : (xs : List Stmt) (v k : ℕ) (f g f' g' : Signal) → verify_stage xs ≡ Some v → v ≤ k
    → unsquashed (squash_stages xs) k (by_stage (verify_stage xs) f g) ≡ unsquashed (squash_stages xs) k (by_stage (verify_stage xs) f' g')
verified_late xs v k f g f' g' e l = all f g ∙ sym (all f' g')
  where
    same : (z : ℕ) → verify_stage xs ≡ Some z → z ≤ k
    same z h = let i : (Some z) ≡ Some v = sym h ∙ e in let n : z ≡ v = cc i in omega (arith, n, l)

    early : (z : ℕ) → update_stage xs ≡ Some z → z ≤ k
    early z h = let n = update_before xs z v h e in omega (arith, n, l)

    all : (f g : Signal) → unsquashed (squash_stages xs) k (by_stage (verify_stage xs) f g) ≡ one
    all f g = unsquashed_two xs k f g ∙ kept_late (verify_stage xs) k f (kept_by (update_stage xs) k g one) same ∙ kept_late (update_stage xs) k g one early

-- from U on it moves alike by any squash of U
pub updated_late : (xs : List Stmt) (u k : ℕ) (f g g' : Signal) → update_stage xs ≡ Some u → u ≤ k
    → unsquashed (squash_stages xs) k (by_stage (verify_stage xs) f g) ≡ unsquashed (squash_stages xs) k (by_stage (verify_stage xs) f g')
updated_late xs u k f g g' e l = all g ∙ sym (all g')
  where
    same : (z : ℕ) → update_stage xs ≡ Some z → z ≤ k
    same z h = let i : (Some z) ≡ Some u = sym h ∙ e in let n : z ≡ u = cc i in omega (arith, n, l)

    all : (g : Signal) → unsquashed (squash_stages xs) k (by_stage (verify_stage xs) f g) ≡ kept_by (verify_stage xs) k f one
    all g = unsquashed_two xs k f g ∙ ap (kept_by (verify_stage xs) k f) (kept_late (update_stage xs) k g one same)

-- ---- barriers

-- from V on a barrier lets pass by any clear stages
pub barrier_late : (o : Option ℕ) (v k : ℕ) → o ≡ Some v → v ≤ k → (h f g : Signal) → barrier_open o k h f ≡ barrier_open o k h g
barrier_late o v k e l h f g =
    ap (λ p. barrier_open p k h f) e ∙ ap (λ b. if b then if_on h f else one) (le-ltb k v l)
    ∙ ap (λ b. if b then if_on h g else one) (sym (le-ltb k v l)) ∙ ap (λ p. barrier_open p k h g) (sym e)

-- and so it does where there is no V
pub barrier_none : (o : Option ℕ) (k : ℕ) → o ≡ None → (h f g : Signal) → barrier_open o k h f ≡ barrier_open o k h g
barrier_none o k e h f g = ap (λ p. barrier_open p k h f) e ∙ sym (ap (λ p. barrier_open p k h g) e)

-- ---- stages

gate_alike : (p : Pipe) (vs : ℕ → View) (answers : ℕ → ℕ → AnswerSignals) (turns : ℕ → ℕ → Signal) (f g : ℕ → Signal)
    (c d : ℕ → Signal) (frees : ℕ → Signal) (k : ℕ)
    → unsquashed (squash_stages p.stmts) k f ≡ unsquashed (squash_stages p.stmts) k g
    → barrier_open (verify_stage p.stmts) k (vs k).ended.barrier (c k) ≡ barrier_open (verify_stage p.stmts) k (vs k).ended.barrier (d k)
    → gate_by p vs (record { answers = answers; turns = turns; squash = f; clear = c }) frees k
    ≡ gate_by p vs (record { answers = answers; turns = turns; squash = g; clear = d }) frees k
gate_alike p vs answers turns f g c d frees k squash barrier =
    ap₂
    (λ h i. both (all_answered p answers k (length p.mems) 0)
    (both h (both (opens_by frees (vs k).ended.asks) (both i (way_on (stage_at p k).next (turns k) (vs k).ended)))))
    squash barrier

-- the stages from `low` on move alike by squashes and clear stages that are alike for them
pub passed_alike : (b : Circuit) (x : StageLine) (orders : List (Option OrderRegs)) (f g : Squashes) (c d : List Net)
    (nets : List Net) (opens : List (Seq Net)) (low : ℕ)
    → ((k : ℕ) → low ≤ k
    → unsquashed (squash_stages (line_pipe x).stmts) k (squashes_in b (line_pipe x) f)
    ≡ unsquashed (squash_stages (line_pipe x).stmts) k (squashes_in b (line_pipe x) g))
    → ((k : ℕ) (h : Signal) → low ≤ k
    → barrier_open (verify_stage (line_pipe x).stmts) k h (signal_at (signals_in b c) k)
    ≡ barrier_open (verify_stage (line_pipe x).stmts) k h (signal_at (signals_in b d) k))
    → ArePassed b x (signs_in b x orders f c) nets opens low → ArePassed b x (signs_in b x orders g d) nets opens low
passed_alike b x orders f g c d nets opens low squash barrier it = record {
  moves_count = it.moves_count;
  moves = it.moves;
  frees_count = it.frees_count;
  frees = it.frees;
  each = λ k l m.
      let h = it.each k l m in
      record {
        moves = λ s.
            h.moves s
            ∙ ap (λ (i : Signal). is_on (moves_where (line_pipe x) (line_views b x) (λ j. i) (signal_at (signals_in b nets)) k) s)
            (gate_alike (line_pipe x) (line_views b x) (answers_in b x.shared.now.ports.now)
            (turn_in b (line_pipe x) orders) (squashes_in b (line_pipe x) f) (squashes_in b (line_pipe x) g) (λ j. signal_at (signals_in b c) j)
            (λ j. signal_at (signals_in b d) j) (signal_at (signals_in b (frees_at opens k))) k (squash k l) (barrier k (line_views b x k).ended.barrier l));
        free = h.free;
      };
}
