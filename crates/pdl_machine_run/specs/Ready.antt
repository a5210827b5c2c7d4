-- Stages that are wide enough for the threads of a pipe, orders of forks that are long enough, and memories that can take what a cycle does to them.
use Rattle.std.specs.Prelude.{◌≡◌, ℕ, suc, ◌*◌, ◌<◌, ◌≤◌, List, [], ◌∷◌, IfSome, length, slice_index_or, vec_len, vec_capacity, ⊤}
use Rattle.pdl_semantics.specs.Moves.{Act}
use Rattle.pdl_semantics.specs.Cycle.{with_reserves, all_releases}
use Rattle.pdl_form.specs.Form.{Form}
use Rattle.pdl_machine_pending.specs.Memory.{Memory, AreWithin}
use Rattle.pdl_machine_run.specs.declared.stage.ThreadSlot as r_slot
use Rattle.pdl_machine_run.specs.declared.stage.Stage as r_stage
use Rattle.pdl_machine_run.specs.declared.beside.Order as r_order
use Rattle.pdl_machine_run.specs.Acts.{mover_of, both}
use Rattle.pdl_machine_run.specs.Room.{capacities, IsLarge}

-- a value for each variable, and room for advised ones, for a guess, and for as many reads as there are statements
pub record IsWide (f : Form) (s : r_slot.ThreadSlot) : Type 0 where
  pub count : length s.values.items ≡ length f.widths
  pub advice : 2 * length f.pipe.stmts ≤ vec_capacity s.advice
  pub guess : length f.pipe.start ≤ vec_capacity s.guess
  pub awaits : length f.pipe.stmts ≤ vec_capacity s.awaits
  pub kept : length f.pipe.stmts ≤ vec_capacity s.kept

-- a stage has a slot that is wide enough, a value for each variable, and room for the deeds of all statements
pub record IsStage (f : Form) (x : r_stage.Stage) : Type 0 where
  pub slot : IsWide f x.slot
  pub count : length x.deeds.values.items ≡ length f.widths
  pub deeds : IsLarge (length f.pipe.stmts) (length f.pipe.start) (length f.widths) (capacities x.deeds)

-- each of these stages is wide enough
abbrev pub AreStages : Form → List r_stage.Stage → Type 0
AreStages f xs = (k : ℕ) (d : r_stage.Stage) → k < length xs → IsStage f (slice_index_or xs k d)

-- room for what the thread that moves out of a stage asks for
abbrev pub HasAwaits : r_stage.Stage → Type 0
HasAwaits x = IfSome (mover_of x) (λ number. vec_len x.deeds.asks ≤ vec_capacity x.slot.awaits)

-- orders of forks with room for so many branches
abbrev pub AreOrders : ℕ → List r_order.Order → Type 0
AreOrders n os = (f : ℕ) (d : r_order.Order) → f < length os → n ≤ vec_capacity (slice_index_or os f d).branches

-- room for the reservations of these acts, a word for each pending write, and at most two releases
pub record CanStep (m : ℕ) (ms : List Act) (x : Memory) : Type 0 where
  pub room : length (with_reserves m ms x.pending) ≤ x.capacity
  pub within : AreWithin (length x.words) (both m ms x.pending)
  pub few : all_releases m ms ≤ 2

-- each of these memories, of which the first is m, can take what these acts do to it
abbrev pub AllCanStep : ℕ → List Act → List Memory → Type 0
AllCanStep m ms [] = ⊤
AllCanStep m ms (x ∷ xs) = CanStep m ms x × AllCanStep (suc m) ms xs
