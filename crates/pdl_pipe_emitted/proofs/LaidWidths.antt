-- The stages of an emission, their moves and its squashes have one bit each.
use Rattle.std.proofs.Common.{◌≡◌, ap, ℕ, ◌<◌, length, arith}
use Rattle.pdl_law_parts.specs.Views.{View}
use Rattle.pdl_law_parts.specs.DeclaredMems.{AreBitsWide}
use Rattle.pdl_pipe_walk.specs.Locked.{Members}
use Rattle.pdl_pipe_registers.proofs.Lists.{view_at, some_stage}
use Rattle.pdl_pipe_nexts.specs.Lines.{line_pipe}
use Rattle.pdl_pipe_nexts.proofs.LineGrowth.{bit_one}
use Rattle.pdl_pipe_emitted.specs.Emitted.{Nets, Emission, views_of, moves_of, gates_of}

module _ {T : Type 0} (l : Members T) (n : Nets T) (em : Emission l n) where
  valid_one : (k : ℕ) → k < length n.line.stages.now → (views_of l n em k).valid.width ≡ 1
  valid_one k low = let (s, is) = some_stage n.line.stages.now k low in ap (λ (v : View). v.valid.width) (view_at em.c n.line.stages.now k s low is)

  -- whether each stage holds a thread, whether that moves, and whether there is a squash are bits
  pub bits_wide : AreBitsWide (views_of l n em) (gates_of l n em) (moves_of l n em) (length (line_pipe n.line).stages)
  bits_wide = record {
    stages = λ k low. (
      valid_one k (let count = em.line.count in omega (arith, low, count)),
      bit_one em.c n.line.moves.now k (let count = em.line.count in let moves = em.line.moves_count in omega (arith, low, count, moves)) em.line.moves,
    );
    squash = em.moved.squash.width;
  }
