-- Stages of which it is known whether their threads move.
use Rattle.std.specs.Prelude.{◌≡◌, ℕ, ◌<◌, ◌≤◌, List, [], length, Option, Some, slice_index_or, Contains}
use Rattle.pdl_word.specs.Each.{Each}
use Rattle.pdl_kit.specs.declared.seq.Seq.{Seq}
use Rattle.pdl_semantics.specs.Stages.{verify_stage}
use Rattle.pdl_semantics.specs.Updates.{squash_stages}
use Rattle.pdl_net.specs.declared.Net.{Net}
use Rattle.pdl_net.specs.Circuit.{Circuit}
use Rattle.pdl_net.specs.Signal.{Signal}
use Rattle.pdl_net.specs.Meaning.{signal}
use Rattle.pdl_port.specs.declared.PortRegs.{PortRegs}
use Rattle.pdl_port.specs.Laws.{FreeLaw}
use Rattle.pdl_port.specs.Places.{stands}
use Rattle.pdl_squash.specs.Laws.{SquashLaw}
use Rattle.pdl_order.specs.declared.OrderRegs.{OrderRegs}
use Rattle.pdl_machine_inflight.specs.Readings.{Reading, reading, places, place_at}
use Rattle.pdl_law_parts.specs.Views.{moves_where}
use Rattle.pdl_law_sides.specs.Sides.{any_of, any_removes}
use Rattle.pdl_law_sides.specs.HasSides.{squash_of}
use Rattle.pdl_pipe_exprs.specs.Nets.{signals_in, signal_at}
use Rattle.pdl_pipe_walk.specs.Locked.{some_at}
use Rattle.pdl_pipe_answers.specs.Ports.{IsBit, IsOnAs}
use Rattle.pdl_pipe_beside.specs.Squashed.{squashes_in, HasSquashes}
use Rattle.pdl_pipe_nexts.specs.declared.line.StageLine.{StageLine}
use Rattle.pdl_pipe_nexts.specs.Lines.{line_pipe, line_views, line_moves}
use Rattle.pdl_pipe_moves.specs.declared.passing.Passage.{Passage}
use Rattle.pdl_pipe_moves.specs.declared.passing.Passages.{Passages}
use Rattle.pdl_pipe_moves.specs.declared.whole.MoveNets.{MoveNets}
use Rattle.pdl_pipe_moves.specs.declared.whole.Verified.{Verified}
use Rattle.pdl_pipe_moves.specs.StageSquashes.{AreFilled, IsSquash}
use Rattle.pdl_pipe_moves.specs.Signs.{Signs, gate_by, signs_in}

-- ---- ports

-- whether a port is free for a thread of stage k that reads its memory, where threads move so
abbrev pub IsFreeBy : Circuit → StageLine → (ℕ → Signal) → ℕ → ℕ → Signal → Type 0
IsFreeBy c x moves k m free =
    (r : Reading) (q : PortRegs) → reading (line_pipe x) m ≡ Some r → r.stage ≡ k → some_at x.shared.now.ports.now m ≡ Some q
    → FreeLaw (stands q) (length (places (line_pipe x) r)) (signal c q.reply) (λ i. moves (place_at (line_pipe x) r i)) free

-- a net tells whether the port of memory m is free for stage k
pub record HasFree (c : Circuit) (x : StageLine) (k m : ℕ) (net : Net) : Type 0 where
  pub bit : IsBit c net
  pub free : IsFreeBy c x (line_moves c x) k m (signal c net)

-- nets tell of the first n memories whether their ports are free for stage k
pub record HaveFree (c : Circuit) (x : StageLine) (k : ℕ) (nets : List Net) (n : ℕ) : Type 0 where
  pub count : length nets ≡ n
  pub bits : Each (IsBit c) nets
  pub free : (m : ℕ) → m < n → IsFreeBy c x (line_moves c x) k m (signal_at (signals_in c nets) m)

-- ---- stages

-- the thread of stage k moves so, by the moves of later stages, and by free ports
abbrev pub IsMovedBy : Circuit → StageLine → Signs → (ℕ → Signal) → (ℕ → Signal) → ℕ → Signal → Type 0
IsMovedBy c x g frees moves k net = IsOnAs net (moves_where (line_pipe x) (line_views c x) (λ j. gate_by (line_pipe x) (line_views c x) g frees k) moves k)

-- the nets of stage k, where later stages move as the line has it
pub record IsPassage (c : Circuit) (x : StageLine) (g : Signs) (k : ℕ) (z : Passage) : Type 0 where
  pub bit : IsBit c z.moves
  pub frees : HaveFree c x k z.frees (length (line_pipe x).mems)
  pub moves : IsMovedBy c x g (signal_at (signals_in c z.frees)) (line_moves c x) k (signal c z.moves)

-- stage k, where all stages move by these nets, and ports are free for it by those
pub record IsPassed (c : Circuit) (x : StageLine) (g : Signs) (nets opens : List Net) (k : ℕ) : Type 0 where
  pub moves : IsMovedBy c x g (signal_at (signals_in c opens)) (signal_at (signals_in c nets)) k (signal_at (signals_in c nets) k)
  pub free : (m : ℕ) → m < length (line_pipe x).mems → IsFreeBy c x (signal_at (signals_in c nets)) k m (signal_at (signals_in c opens) m)

-- the nets that tell which ports are free for stage k
abbrev pub frees_at : List (Seq Net) → ℕ → List Net
frees_at xs k = slice_index_or xs k []

-- of each stage from this one on it is known whether its thread moves
pub record ArePassed (c : Circuit) (x : StageLine) (g : Signs) (nets : List Net) (opens : List (Seq Net)) (low : ℕ) : Type 0 where
  pub moves_count : length nets ≡ length (line_pipe x).stages
  pub moves : Each (IsBit c) nets
  pub frees_count : length opens ≡ length (line_pipe x).stages
  pub frees : Each (λ (fs : Seq Net). Each (IsBit c) fs) opens
  pub each : (k : ℕ) → low ≤ k → k < length (line_pipe x).stages → IsPassed c x g nets (frees_at opens k) k

-- ---- all stages

-- no stage is asked yet
pub record IsBlank (zero : Net) (count : ℕ) (z : Passages) : Type 0 where
  pub moves : AreFilled zero count z.moves.items
  pub frees_count : length z.frees.items ≡ count
  pub frees : Each (λ (fs : Seq Net). fs ≡ []) z.frees.items

-- the stages from `low` on have their moves, with the squash of stage V and none by another stage
pub record AreVerified (c : Circuit) (x : StageLine) (orders : List (Option OrderRegs)) (v low : ℕ) (z : Verified) : Type 0 where
  pub passed : ArePassed c x
      (signs_in c x orders (record { verify = z.squash.happens; update = x.shared.now.bits.zero }) z.squash.clear.items)
      z.found.moves.items z.found.frees.items low
  pub squash : IsSquash c x v (signal_at (signals_in c z.found.moves.items) v) z.squash

-- each stage has its move and each memory its free ports, by the squashes of the stages that may squash, each of which keeps its law, with these threads removed and these stages clear; of all of them a squash happens or removes where one does
pub record AreMoved (c : Circuit) (x : StageLine) (orders : List (Option OrderRegs)) (z : MoveNets) : Type 0 where
  pub passed : ArePassed c x (signs_in c x orders z.squashes z.clear.items) z.moves.items z.frees.items 0
  pub squash : IsBit c z.squash
  pub squashes : HasSquashes c z.squashes
  pub kills_count : length z.kills.items ≡ length (line_pipe x).stages
  pub kills : Each (IsBit c) z.kills.items
  pub clear_count : length z.clear.items ≡ length (line_pipe x).stages
  pub clear : Each (IsBit c) z.clear.items
  pub removed : ℕ → ℕ → Signal
  pub cleared : ℕ → ℕ → Signal
  pub law : (q : ℕ) → Contains (squash_stages (line_pipe x).stmts) q
      → SquashLaw (squash_of (line_views c x) (signal_at (signals_in c z.moves.items)) q) (squashes_in c (line_pipe x) z.squashes q) (removed q) (cleared q)
  pub cleared_is : (v : ℕ) → verify_stage (line_pipe x).stmts ≡ Some v → cleared v ≡ signal_at (signals_in c z.clear.items)
  pub either : signal c z.squash ≡ any_of (squash_stages (line_pipe x).stmts) (squashes_in c (line_pipe x) z.squashes)
  pub joined : (k : ℕ) → k < length (line_pipe x).stages
      → signal_at (signals_in c z.kills.items) k ≡ any_removes (squash_stages (line_pipe x).stmts) removed k
