-- What a machine begins with.
use Rattle.std.specs.Prelude.{◌≡◌, ℕ, zero, suc, ◌<◌, List, [], ◌∷◌, Option, Some, None, map, replicate, length, slice_index_or}
use Rattle.pdl_semantics.specs.Flat.{Pipe}
use Rattle.pdl_semantics.specs.Stages.{mem_at}
use Rattle.pdl_semantics.specs.Machine.{Thread, NoRequest}
use Rattle.pdl_semantics.specs.Cycle.{born_thread}
use Rattle.pdl_semantics.specs.SecondWrites.{all_twice}
use Rattle.pdl_machine_run.specs.declared.beside.Beside as r_beside
use Rattle.pdl_machine_run.specs.View.{request_view, order_views}
use Rattle.pdl_machine_run.specs.StageDeeds.{memory_at}
use Rattle.pdl_machine_run.specs.Ready.{AreOrders}
use Rattle.pdl_machine_run.specs.Running.{IsFirst}

-- of so many stages the first holds thread 1
abbrev pub seats_first : Pipe → ℕ → List (Option Thread)
seats_first p zero = []
seats_first p (suc n) = born_thread p 1 (Some p.start) ∷ replicate n None

-- memories with the words of an image, no request, and nobody inside a fork
pub record IsFirstBeside (p : Pipe) (image : List (List ℕ)) (b : r_beside.Beside) : Type 0 where
  pub count : length b.memories.items ≡ length p.mems
  pub each : (m : ℕ) → m < length p.mems → IsFirst (mem_at p m).lock (slice_index_or image m []) (memory_at b.memories.items m)
  pub twice : b.twice.items ≡ all_twice p.stmts 0 p.mems
  pub requests : map request_view b.requests.items ≡ replicate (length p.mems) NoRequest
  pub orders : order_views b.orders.items ≡ replicate (length p.stages) []
  pub long : AreOrders (length p.stages) b.orders.items
