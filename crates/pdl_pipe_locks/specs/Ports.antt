-- The ports of a lock as the stages make them.
use Rattle.std.specs.Prelude.{◌≡◌, ℕ, ◌<◌, Bool, List, ◌++◌, if◌then◌else◌, map, length}
use Rattle.pdl_net.specs.Circuit.{Circuit}
use Rattle.pdl_net.specs.Signal.{Signal, mux_signal}
use Rattle.pdl_net.specs.Meaning.{IsThere, Means, signal}
use Rattle.pdl_net.specs.HasWidth.{HasWidth}
use Rattle.pdl_lockapi.specs.declared.Kind.TheVariants.{W}
use Rattle.pdl_lockapi.specs.declared.ReservePort.{ReservePort}
use Rattle.pdl_lockapi.specs.declared.TicketWrite.{TicketWrite}
use Rattle.pdl_lockapi.specs.declared.LockPorts.{LockPorts}
use Rattle.pdl_lockapi.specs.Laws.{ReserveSignal, TicketSignal, StepSignals, reserve_signal, ticket_signal}
use Rattle.pdl_pipe_exprs.specs.Nets.{NetsThere}
use Rattle.pdl_law_parts.specs.Walk.{Letting, zero_bit}
use Rattle.pdl_law_parts.specs.Views.{View}
use Rattle.pdl_law_parts.specs.Ports.{all_reserves, all_puts, release_moves, release_signal, second_moves, second_signal}
use Rattle.pdl_pipe_walk.specs.declared.nets.ReserveNet.{ReserveNet}
use Rattle.pdl_pipe_walk.specs.declared.nets.PutNet.{PutNet}
use Rattle.pdl_pipe_walk.specs.declared.nets.LettingNet.{LettingNet}
use Rattle.pdl_pipe_walk.specs.Parts.{MarkSignal, parts_in, IsThereWalk}
use Rattle.pdl_pipe_locks.specs.declared.deeds.StageDeeds.{StageDeeds}
use Rattle.pdl_pipe_locks.specs.declared.ports.ReleaseNets.{ReleaseNets}
use Rattle.pdl_pipe_locks.specs.Deeds.{views_in, moves_in}
use Rattle.pdl_word.specs.Each.{Each}

-- ---- what a stage brings for a memory's lock

-- a reservation that a stage makes: its nets are there, and its condition has 1 bit
pub record IsGivenReserve (c : Circuit) (r : ReserveNet) : Type 0 where
  pub on : HasWidth c r.on 1
  pub addr : IsThere c r.addr

-- a write that a stage makes: its nets are there, and its condition has 1 bit
pub record IsGivenPut (c : Circuit) (x : PutNet) : Type 0 where
  pub on : HasWidth c x.on 1
  pub value : IsThere c x.value

-- a release that a stage makes: its condition is there, with 1 bit
pub record IsGivenLetting (c : Circuit) (x : LettingNet) : Type 0 where
  pub on : HasWidth c x.on 1

-- what a stage does is there, conditions and marks with 1 bit, and it has a ticket of memory m
pub record IsGiven (c : Circuit) (m : ℕ) (d : StageDeeds) : Type 0 where
  pub moves : HasWidth c d.moves 1
  pub walk : IsThereWalk c d.ended.now
  pub marks : Each (λ (h : MarkSignal). h.signal.width ≡ 1) (parts_in c d.ended.now).marks
  pub reserves : Each (IsGivenReserve c) d.ended.now.reserves
  pub puts : Each (IsGivenPut c) d.ended.now.puts
  pub lettings : Each (IsGivenLetting c) d.ended.now.lettings
  pub low : m < length d.tickets.now
  pub tickets : NetsThere c d.tickets.now

-- ---- ports

-- the nets of a port that reserves for writing are there
pub record IsThereReserve (c : Circuit) (q : ReservePort) : Type 0 where
  pub kind : q.kind ≡ W
  pub enable : IsThere c q.enable
  pub addr : IsThere c q.addr

-- a write through a ticket, whose nets are there
pub record IsThereWrite (c : Circuit) (q : TicketWrite) : Type 0 where
  pub enable : IsThere c q.enable
  pub ticket : IsThere c q.ticket
  pub value : IsThere c q.value

-- ports that are there and mean this
pub record AreReserves (c : Circuit) (ps : List ReservePort) (fs : List ReserveSignal) : Type 0 where
  pub there : Each (IsThereReserve c) ps
  pub same : map (reserve_signal c) ps ≡ fs

-- ports that write are there and mean this
pub record AreWrites (c : Circuit) (ps : List TicketWrite) (fs : List TicketSignal) : Type 0 where
  pub there : Each (IsThereWrite c) ps
  pub same : map (ticket_signal c) ps ≡ fs

-- after what earlier ports mean stands this
abbrev pub AddsReserves : Circuit → Circuit → List ReservePort → List ReservePort → List ReserveSignal → Type 0
AddsReserves a b ps qs fs = AreReserves b qs (map (reserve_signal a) ps ++ fs)

-- after what earlier ports of writes mean stands this
abbrev pub AddsWrites : Circuit → Circuit → List TicketWrite → List TicketWrite → List TicketSignal → Type 0
AddsWrites a b ps qs fs = AreWrites b qs (map (ticket_signal a) ps ++ fs)

-- ---- releases

-- what is told of a memory's releases: whether one is made, and whether two are
pub record ReleaseSignals : Type 0 where
  pub first : Signal
  pub second : Signal

-- what nets tell of releases
abbrev pub releases_signal : Circuit → ReleaseNets → ReleaseSignals
releases_signal c x = record { first = signal c x.first; second = signal c x.second }

-- nets of 1 bit that tell of releases are there
pub record HaveReleases (c : Circuit) (x : ReleaseNets) : Type 0 where
  pub first : HasWidth c x.first 1
  pub second : HasWidth c x.second 1

-- nets that are there tell this of releases
pub record AreReleases (c : Circuit) (x : ReleaseNets) (t : ReleaseSignals) : Type 0 where
  pub first : Means c x.first t.first
  pub second : Means c x.second t.second

-- whether two releases are made, where this says whether one is made beside others; none is second where no path reserves the memory twice
abbrev pub second_with : Bool → Signal → ReleaseSignals → Signal
second_with twice on rest = if twice then mux_signal on rest.first rest.second else rest.second

-- what is told of releases with those of a stage, where its thread moves
abbrev pub releases_after : Bool → ℕ → Signal → List Letting → ReleaseSignals → ReleaseSignals
releases_after twice m moves ls rest = record {
  first = release_moves m moves ls rest.first;
  second = if twice then second_moves m moves ls rest.first rest.second else rest.second;
}

-- what is told of the releases of n stages, of which the first is k
abbrev pub releases_of : Bool → ℕ → (ℕ → View) → (ℕ → Signal) → ℕ → ℕ → ReleaseSignals
releases_of twice m vs moves n k = record {
  first = release_signal m vs moves n k;
  second = if twice then second_signal m vs moves n k else zero_bit;
}

-- ---- all ports

-- all ports of a step
pub record ArePorts (c : Circuit) (p : LockPorts) (f : StepSignals) : Type 0 where
  pub reserves : AreReserves c p.reserves f.reserves
  pub writes : AreWrites c p.writes f.writes
  pub release : Means c p.release f.release
  pub release2 : Means c p.release2 f.release2
  pub squash : Means c p.squash f.squash
  pub tail : Means c p.tail f.tail

-- what the stages do to the lock of memory m, where this says whether some path reserves it twice, with what a squash does to it
abbrev pub signals_of : Circuit → Bool → List StageDeeds → ℕ → Signal → Signal → StepSignals
signals_of c twice ds m squash tail =
    record {
      reserves = all_reserves m (views_in c ds) (moves_in c ds) (length ds) 0;
      writes = all_puts twice m (views_in c ds) (moves_in c ds) (length ds) 0;
      release = release_signal m (views_in c ds) (moves_in c ds) (length ds) 0;
      release2 = if twice then second_signal m (views_in c ds) (moves_in c ds) (length ds) 0 else zero_bit;
      squash = squash;
      tail = tail;
    }

-- the widths that a lock takes: of addresses, words and tickets
pub record SignalsFit (bits width tickets : ℕ) (f : StepSignals) : Type 0 where
  pub reserves : Each (λ (r : ReserveSignal). (r.enable.width ≡ 1) × (r.addr.width ≡ bits)) f.reserves
  pub writes : Each (λ (x : TicketSignal). (x.enable.width ≡ 1) × (x.ticket.width ≡ tickets) × (x.value.width ≡ width)) f.writes
  pub release : f.release.width ≡ 1
  pub release2 : f.release2.width ≡ 1
  pub squash : f.squash.width ≡ 1
  pub tail : f.tail.width ≡ tickets
