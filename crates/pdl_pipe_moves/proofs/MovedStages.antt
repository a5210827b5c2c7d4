-- All moves of a pipe, by the squashes of the stages that may squash.
use Rattle.std.proofs.Common.{◌≡◌, ◌<◌, ℕ, refl, sym, ap, ◌∙◌, subst, length, List, arith}
use Rattle.std.specs.Prelude.{Option, Some, None}
use Rattle.pdl_word.specs.Each.{Each}
use Rattle.pdl_semantics.specs.Flat.{Stmt}
use Rattle.pdl_semantics.specs.Stages.{verify_stage}
use Rattle.pdl_semantics.specs.Updates.{update_stage}
use Rattle.pdl_semantics.proofs.SquashStages.{no_squash}
use Rattle.pdl_net.specs.declared.Net.{Net}
use Rattle.pdl_net.specs.Circuit.{Circuit}
use Rattle.pdl_net.specs.Signal.{Signal, mux_signal}
use Rattle.pdl_net.specs.Meaning.{signal}
use Rattle.pdl_net.specs.Growth.{Keeps}
use Rattle.pdl_squash.specs.Laws.{net_at}
use Rattle.pdl_order.specs.declared.OrderRegs.{OrderRegs}
use Rattle.pdl_law_parts.specs.Walk.{one}
use Rattle.pdl_pipe_exprs.specs.Conditions.{AreBits}
use Rattle.pdl_pipe_exprs.specs.Nets.{signals_in, signal_at}
use Rattle.pdl_pipe_exprs.proofs.NetLists.{length_signals}
use Rattle.pdl_pipe_answers.specs.Ports.{IsBit}
use Rattle.pdl_pipe_beside.specs.Squashed.{by_stage}
use Rattle.pdl_pipe_beside.proofs.SquashFolds.{verify_has, any_none, any_verify, any_both}
use Rattle.pdl_pipe_nexts.specs.declared.line.StageLine.{StageLine}
use Rattle.pdl_pipe_nexts.specs.Lines.{line_pipe}
use Rattle.pdl_pipe_moves.specs.declared.squash.StageSquash.{StageSquash}
use Rattle.pdl_pipe_moves.specs.declared.whole.MoveNets.{MoveNets}
use Rattle.pdl_pipe_moves.specs.declared.whole.Verified.{Verified}
use Rattle.pdl_pipe_moves.specs.Signs.{signs_in}
use Rattle.pdl_pipe_moves.specs.StageSquashes.{AreFilled, AreJoined, IsSquash}
use Rattle.pdl_pipe_moves.specs.Passed.{ArePassed, AreVerified, AreMoved}
use Rattle.pdl_pipe_moves.proofs.FreePorts.{net_signal}
use Rattle.pdl_pipe_moves.proofs.AllMoves.{zero_bits, filled_at, filled_bits, net_bit}
use Rattle.pdl_pipe_moves.proofs.SquashedGates.{barrier_none, passed_alike}
use Rattle.pdl_pipe_moves.proofs.StageSquashes.{laws_at, removes_none, removes_one, removes_both}

-- whether a thread moves is told by the same signal later, by the net that was found
pub move_later : (a b : Circuit) (first second : List Net) (q : ℕ) → Keeps a b → Each (IsBit a) first → q < length first → q < length second
    → net_at second q ≡ net_at first q → signal_at (signals_in a first) q ≡ signal_at (signals_in b second) q
move_later a b first second q e bits l m same =
    sym (net_signal a first q l)
    ∙ sym (e.kept (net_at first q) (net_bit a first q l bits).there)
    ∙ ap (signal b) (sym same)
    ∙ net_signal b second q m

squash_of_stage : (c : Circuit) (x : StageLine) (moves : ℕ → Signal) (z : StageSquash) (o : Option ℕ) (v : ℕ) → o ≡ Some v → IsSquash c x v (moves v) z
    → (w : ℕ) → o ≡ Some w → IsSquash c x w (moves w) z
squash_of_stage c x moves z o v e h w f =
    let i : (Some v) ≡ Some w = sym e ∙ f in
    let same : v ≡ w = cc i in subst (λ q. IsSquash c x q (moves q) z) same h

module _ (c : Circuit) (x : StageLine) (orders : List (Option OrderRegs)) where
  abbrev xs : List Stmt
  xs = (line_pipe x).stmts

  -- where V squashes alone
  pub moved_verified : (v : ℕ) (z : Verified) → verify_stage xs ≡ Some v → update_stage xs ≡ None → AreBits c x.shared.now.bits
      → AreVerified c x orders v 0 z
      → AreMoved c x orders
      (record {
        moves = z.found.moves;
        frees = z.found.frees;
        squash = z.squash.happens;
        squashes = record { verify = z.squash.happens; update = x.shared.now.bits.zero };
        kills = z.squash.removed;
        clear = z.squash.clear;
      })
  moved_verified v z e none bits h =
      let happens = signal c z.squash.happens in
      let zero = signal c x.shared.now.bits.zero in
      let removed = signal_at (signals_in c z.squash.removed.items) in
      let clear = signal_at (signals_in c z.squash.clear.items) in
      let moves = signal_at (signals_in c z.found.moves.items) in
      let no : StageSquash = record { happens = x.shared.now.bits.zero; removed = z.squash.removed; clear = z.squash.clear } in
      record {
        passed = h.passed;
        squash = h.squash.happens;
        squashes = record { verify = h.squash.happens; update = zero_bits c x.shared.now.bits bits };
        kills_count = h.squash.removed_count;
        kills = h.squash.removed;
        clear_count = h.squash.clear_count;
        clear = h.squash.clear;
        removed = by_stage (verify_stage xs) removed removed;
        cleared = by_stage (verify_stage xs) clear clear;
        law =
            laws_at c x moves z.squash no (squash_of_stage c x moves z.squash (verify_stage xs) v e h.squash)
            (λ u f. let i : None ≡ Some u = sym none ∙ f in absurd (cc i));
        cleared_is = λ w f. verify_has (verify_stage xs) w clear clear f;
        either = sym (any_verify xs v happens zero e none);
        joined = λ k l. sym (removes_one xs v removed removed k e none (λ m. h.squash.spared k m l));
      }

  -- where V or U squashes
  pub moved_updated : (z : MoveNets) (v u : ℕ) (first second : StageSquash) → verify_stage xs ≡ Some v → update_stage xs ≡ Some u
      → IsSquash c x v (signal_at (signals_in c z.moves.items) v) first → IsSquash c x u (signal_at (signals_in c z.moves.items) u) second
      → ArePassed c x (signs_in c x orders (record { verify = first.happens; update = second.happens }) first.clear.items) z.moves.items z.frees.items 0
      → IsBit c z.squash → signal c z.squash ≡ mux_signal (signal c first.happens) one (signal c second.happens) → Each (IsBit c) z.kills.items
      → AreJoined (signal_at (signals_in c first.removed.items)) (signal_at (signals_in c second.removed.items)) u (length first.removed.items)
      (signals_in c z.kills.items)
      → AreMoved c x orders (record z { squashes = record { verify = first.happens; update = second.happens }; clear = first.clear })
  moved_updated z v u first second e i h k passed bit either bits joined =
      let removed = signal_at (signals_in c first.removed.items) in
      let also = signal_at (signals_in c second.removed.items) in
      let clear = signal_at (signals_in c first.clear.items) in
      let moves = signal_at (signals_in c z.moves.items) in
      let long = length_signals c z.kills.items in
      let n = joined.count in
      let m = h.removed_count in
      record {
        passed = passed;
        squash = bit;
        squashes = record { verify = h.happens; update = k.happens };
        kills_count = omega (arith, long, n, m);
        kills = bits;
        clear_count = h.clear_count;
        clear = h.clear;
        removed = by_stage (verify_stage xs) removed also;
        cleared = by_stage (verify_stage xs) clear (signal_at (signals_in c second.clear.items));
        law =
            laws_at c x moves first second (squash_of_stage c x moves first (verify_stage xs) v e h)
            (squash_of_stage c x moves second (update_stage xs) u i k);
        cleared_is = λ w f. verify_has (verify_stage xs) w clear (signal_at (signals_in c second.clear.items)) f;
        either = either ∙ sym (any_both xs v u (signal c first.happens) (signal c second.happens) e i);
        joined = λ q l. joined.each q (omega (arith, l, m)) ∙ sym (removes_both xs v u removed also q e i (λ low. h.spared q low l));
      }

  -- where no stage squashes
  pub moved_certain : (z : MoveNets) (blank : List Net) → verify_stage xs ≡ None → AreBits c x.shared.now.bits
      → length x.stages.now ≡ length (line_pipe x).stages → AreFilled x.shared.now.bits.zero (length x.stages.now) z.kills.items
      → AreFilled x.shared.now.bits.zero (length x.stages.now) z.clear.items
      → ArePassed c x (signs_in c x orders (record { verify = x.shared.now.bits.zero; update = x.shared.now.bits.zero }) blank) z.moves.items z.frees.items 0
      → AreMoved c x orders
      (record z { squash = x.shared.now.bits.zero; squashes = record { verify = x.shared.now.bits.zero; update = x.shared.now.bits.zero } })
  moved_certain z blank none bits n kills clear passed =
      let zero = x.shared.now.bits.zero in
      let bit = zero_bits c x.shared.now.bits bits in
      let removed : ℕ → ℕ → Signal = λ q. signal_at (signals_in c z.kills.items) in
      let long = kills.count_is in
      record {
        passed =
            passed_alike c x orders (record { verify = zero; update = zero }) (record { verify = zero; update = zero }) blank z.clear.items
            z.moves.items z.frees.items 0 (λ k l. refl)
            (λ k h l. barrier_none (verify_stage xs) k none h (signal_at (signals_in c blank) k) (signal_at (signals_in c z.clear.items) k)) passed;
        squash = bit;
        squashes = record { verify = bit; update = bit };
        kills_count = kills.count_is ∙ n;
        kills = filled_bits c zero z.kills.items bit kills.each;
        clear_count = clear.count_is ∙ n;
        clear = filled_bits c zero z.clear.items bit clear.each;
        removed = removed;
        cleared = λ q. signal_at (signals_in c z.clear.items);
        law = λ q is. no_squash xs q none is;
        cleared_is = λ v e. refl;
        either = bits.zero.same ∙ sym (any_none xs (by_stage (verify_stage xs) (signal c zero) (signal c zero)) none);
        joined = λ k l.
            filled_at c zero z.kills.items k (omega (arith, l, n, long)) kills.each ∙ bits.zero.same ∙ sym (removes_none xs removed k none);
      }
