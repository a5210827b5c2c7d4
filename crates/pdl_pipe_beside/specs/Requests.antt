-- What the netlist asks of delayed memories.
use Rattle.std.specs.Prelude.{◌≡◌, ℕ, ◌^◌, ◌<◌, ◌==◌, List, [], ◌∷◌, length, Option, Some, is_some, if◌then◌else◌}
use Rattle.pdl_semantics.specs.Flat.{Pipe, is_delayed}
use Rattle.pdl_semantics.specs.Stages.{mem_at}
use Rattle.pdl_net.specs.Circuit.{Circuit, State}
use Rattle.pdl_net.specs.Signal.{Signal, mux_signal}
use Rattle.pdl_net.specs.Meaning.{signal, IsThere}
use Rattle.pdl_net.specs.HasWidth.{HasWidth}
use Rattle.pdl_machine_inflight.specs.Readings.{reading}
use Rattle.pdl_law_parts.specs.Walk.{Ask, both}
use Rattle.pdl_law_sides.specs.WholeNetlist.{request_of}
use Rattle.pdl_pipe_walk.specs.declared.nets.AskNet.{AskNet}
use Rattle.pdl_pipe_walk.specs.Locked.{some_at}
use Rattle.pdl_pipe_beside.specs.declared.ends.StageEnd.{StageEnd}
use Rattle.pdl_pipe_beside.specs.declared.outside.RequestNets.{RequestNets}
use Rattle.pdl_pipe_beside.specs.Ends.{ends_in, moves_in}

-- the address of this request of a memory, where a thread moves that makes it, or else one of the rest
abbrev pub address_or : ℕ → Signal → Ask → Signal → Signal
address_or m moves q rest = if q.mem == m then mux_signal (both moves q.on) q.addr rest else rest

-- the address of one of these requests of a memory, where a thread moves that makes it, or else this one
abbrev pub address_from : ℕ → Signal → Signal → List Ask → Signal
address_from m moves none [] = none
address_from m moves none (q ∷ qs) = address_or m moves q (address_from m moves none qs)

-- a request's nets are there; its condition has 1 bit, and its address, where it is of this memory, so many
pub record IsAddressNet (c : Circuit) (m width : ℕ) (q : AskNet) : Type 0 where
  pub on : HasWidth c q.on 1
  pub addr_there : IsThere c q.addr
  pub addr_wide : q.mem ≡ m → (signal c q.addr).width ≡ width

-- these nets have the values of what the stages ask of a memory, and the address reaches each of its words and no more
pub record IsRequest (a c : Circuit) (p : Pipe) (es : List StageEnd) (m : ℕ) (x : RequestNets) : Type 0 where
  pub enable_bit : HasWidth c x.enable 1
  pub enable : signal c x.enable ≡ (request_of (ends_in a es) (moves_in a es) m (reading p m)).enable
  pub addr_there : IsThere c x.addr
  pub addr : (s : State) → (signal c x.addr).value s ≡ (request_of (ends_in a es) (moves_in a es) m (reading p m)).addr.value s
  pub reach : 2 ^ (signal c x.addr).width ≡ (mem_at p m).depth

-- a delayed memory has them, and no other
pub record HasRequest (a c : Circuit) (p : Pipe) (es : List StageEnd) (m : ℕ) (o : Option RequestNets) : Type 0 where
  pub some : is_some o ≡ is_delayed (mem_at p m).kind
  pub asks : (x : RequestNets) → o ≡ Some x → IsRequest a c p es m x

-- of the first n memories the delayed ones have the nets of what is asked of them
pub record AreRequests (a c : Circuit) (p : Pipe) (es : List StageEnd) (xs : List (Option RequestNets)) (n : ℕ) : Type 0 where
  pub count : length xs ≡ n
  pub each : (m : ℕ) → m < n → HasRequest a c p es m (some_at xs m)
