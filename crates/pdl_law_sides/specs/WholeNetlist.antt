-- The netlist of a pipe of the whole language, in signals, and what it shows with its delayed memories outside.
use Rattle.std.specs.Prelude.{◌≡◌, ℕ, suc, ◌+◌, ◌*◌, ◌-◌, ◌^◌, ◌<◌, true, false, List, [], ◌∷◌, ◌++◌, Option, Some, None, if◌then◌else◌, length, map, codes, slice_index_or}
use Rattle.pdl_kit.specs.declared.mem_info.MemInfo.{MemInfo}
use Rattle.pdl_semantics.specs.Flat.{Mem, Pipe, is_delayed, arrays_of}
use Rattle.pdl_semantics.specs.Stages.{mem_at, reply_place}
use Rattle.pdl_semantics.specs.SecondWrites.{reserves_twice}
use Rattle.pdl_semantics.specs.Cycle.{Turn, turns, for_mems}
use Rattle.pdl_net.specs.declared.Dir.TheVariants.{In}
use Rattle.pdl_net.specs.declared.Port.{Port}
use Rattle.pdl_net.specs.declared.Netlist.{Netlist}
use Rattle.pdl_net.specs.Circuit.{Circuit, State, Output, array_depth}
use Rattle.pdl_net.specs.Signal.{Signal, input_signal}
use Rattle.pdl_net.specs.declared.Net.{Net}
use Rattle.pdl_net.specs.Meaning.{IsThere, signal}
use Rattle.pdl_net.specs.Run.{delayed_mems, nports}
use Rattle.pdl_image.specs.Images.{IsImage}
use Rattle.pdl_lockapi.specs.Lock.{start}
use Rattle.pdl_lockapi.specs.Laws.{IsReset, HasImage, words_of}
pub use Rattle.pdl_machine_inflight.specs.Ports.{replies_of, request_values, all_request_values, whole_values}
use Rattle.pdl_law_parts.specs.Walk.{Locks, is_locked, zero_bit}
use Rattle.pdl_law_parts.specs.Places.{delayed_count, comb_place, net_place}
use Rattle.pdl_law_parts.specs.Views.{View, Gates}
use Rattle.pdl_law_parts.specs.Ports.{Shown, shown_signal, Commits, stages_shown, commits_shown}
use Rattle.pdl_law_parts.specs.Compiled.{Same, IsLaid, shown_in, port_in}
use Rattle.pdl_law_parts.specs.Runs.{Seen, seen_of}
use Rattle.pdl_machine_inflight.specs.Readings.{Reading, reading}
use Rattle.pdl_law_sides.specs.Sides.{Sides, asks_memory, asked_address}
use Rattle.pdl_law_sides.specs.HasSides.{HasSides}

-- ---- outside

-- what the netlist asks of a delayed memory: whether, and where
pub record Request : Type 0 where
  pub enable : Signal
  pub addr : Signal

-- what is asked of a memory: nothing without a delayed read, else what its reading stage asks
abbrev pub request_of : (ℕ → View) → (ℕ → Signal) → ℕ → Option Reading → Request
request_of vs moves m None = record { enable = zero_bit; addr = zero_bit }
request_of vs moves m (Some r) =
    record { enable = asks_memory m (moves r.stage) (vs r.stage).ended.asks; addr = asked_address m (moves r.stage) (vs r.stage).ended.asks }

-- the request of a memory has the values of what is asked, and the port of its reads takes its two inputs
pub record IsOutside (p : Pipe) (c : Circuit) (vs : ℕ → View) (moves : ℕ → Signal) (sides : Sides) (ask : Request) (m : ℕ) : Type 0 where
  pub enable : Same c ask.enable (request_of vs moves m (reading p m)).enable
  pub addr : Same c ask.addr (request_of vs moves m (reading p m)).addr
  pub reply : Same c (sides.port m).reply (input_signal 1 (2 * reply_place p m))
  pub word : Same c (sides.port m).word (input_signal (mem_at p m).width (2 * reply_place p m + 1))

-- a signal is that of a net
abbrev pub IsNet : Circuit → Signal → Type 0
IsNet c f = (x : Net) × IsThere c x × (signal c x ≡ f)

-- addresses that are asked, and words that are committed, are nets that fit a delayed memory
pub record FitsOutside (p : Pipe) (c : Circuit) (ask : Request) (commits : Commits) (m : ℕ) : Type 0 where
  pub addr : IsNet c ask.addr
  pub reach : 2 ^ ask.addr.width ≡ (mem_at p m).depth
  pub word : is_locked p m ≡ true → IsNet c commits.first.value × IsNet c commits.second.value
  pub wide : is_locked p m ≡ true → (commits.first.value.width ≡ (mem_at p m).width) × (commits.second.value.width ≡ (mem_at p m).width)

-- ---- the netlist

-- the two outputs of what is asked of a memory, by its name
abbrev pub request_shown : List ℕ → Request → List Shown
request_shown name q = shown_signal (codes "q_" ++ name) q.enable ∷ shown_signal (codes "qa_" ++ name) q.addr ∷ []

-- the outputs of what is asked of each delayed memory; the first memory has the number m
abbrev pub requests_shown : (ℕ → List ℕ) → (ℕ → Request) → ℕ → List Mem → List Shown
requests_shown names asks m [] = []
requests_shown names asks m (x ∷ xs) = (if is_delayed x.kind then request_shown (names m) (asks m) else []) ++ requests_shown names asks (suc m) xs

-- all outputs: of the stages, the commits and the requests, and the last two
abbrev pub whole_shown : Pipe → (ℕ → List ℕ) → (ℕ → Commits) → (ℕ → Request) → (ℕ → View) → Gates → (ℕ → Signal) → List Shown
whole_shown p names commits asks vs gates moves =
    stages_shown vs moves (length p.stages) 0
    ++ (commits_shown names (λ m. reserves_twice m p.stmts) commits 0 p.mems
    ++ (requests_shown names asks 0 p.mems ++ shown_signal (codes "ended") (moves (length p.stages - 1)) ∷ shown_signal (codes "squash") gates.squash ∷ []))

-- the inputs of the delayed memories
abbrev pub reply_ports : (ℕ → List ℕ) → ℕ → List Mem → List Port
reply_ports names m [] = []
reply_ports names m (x ∷ xs) =
    (if is_delayed x.kind
    then record { name = codes "p_" ++ names m; width = 1; dir = In } ∷ record { name = codes "pd_" ++ names m; width = x.width; dir = In } ∷ []
    else [])
    ++ reply_ports names (suc m) xs

-- a memory's lock at the start: its array, where the memory answers at once, has the image in front
pub record StartsLock (p : Pipe) (ls : Locks) (c : Circuit) (from to m : ℕ) : Type 0 where
  pub deep : is_delayed (mem_at p m).kind ≡ false → array_depth c (ls.array m) ≡ words_of (ls.kind m) (mem_at p m).depth
  pub starts : (s : State) (image : List ℕ) → IsReset c from to s → length image ≡ (mem_at p m).depth
      → (is_delayed (mem_at p m).kind ≡ false → HasImage (ls.kind m) (Some (ls.array m)) s image) → ls.stands m s (start image)

-- the whole netlist: stages and locks, what stands beside them, what delayed memories are asked, and all ports
pub record IsWhole (p : Pipe) (names : ℕ → List ℕ) (ls : Locks) (vs : ℕ → View) (gates : Gates) (moves : ℕ → Signal)
    (sides : Sides) (c : Circuit) : Type 0 where
  pub laid : IsLaid p ls vs gates moves c
  pub starts : (m : ℕ) → is_locked p m ≡ true → StartsLock p ls c (laid.owns m).from (laid.owns m).to m
  pub beside : HasSides p ls c vs gates moves sides
  pub asks : ℕ → Request
  pub outside : (m : ℕ) → m < length p.mems → is_delayed (mem_at p m).kind ≡ true → IsOutside p c vs moves sides (asks m) m
  pub fits : (m : ℕ) → m < length p.mems → is_delayed (mem_at p m).kind ≡ true → FitsOutside p c (asks m) (laid.commits m) m
  -- ports: the inputs of the delayed memories, and outputs
  pub outs : List Output
  pub ports : c.ports ≡ reply_ports names 0 p.mems ++ map (port_in c) outs
  pub shown : map (shown_in c) outs ≡ whole_shown p names laid.commits asks vs gates moves

-- ---- runs

-- an image for the netlist's memories, in the pipe's order
abbrev pub in_order : Pipe → List (List ℕ) → List (List ℕ)
in_order p image = for_mems (λ m. slice_index_or image (net_place p m) []) 0 p.mems

-- what the machine has in a cycle: the values of all ports, and whether it is a wait
abbrev pub whole_had : Pipe → Turn → Seen
whole_had p t = record { ports = whole_values p t.ports; wait = t.wait }

-- the names of the delayed ones among these, of which the first has the number m
abbrev pub names_delayed : (ℕ → List ℕ) → ℕ → List Mem → List (List ℕ)
names_delayed names m [] = []
names_delayed names m (x ∷ xs) = (if is_delayed x.kind then names m ∷ [] else []) ++ names_delayed names (suc m) xs

-- the netlist's memories are the pipe's, the delayed ones first, each with its width and depth
pub record HasWholeMems (p : Pipe) (names : ℕ → List ℕ) (ls : Locks) (n : Netlist) : Type 0 where
  pub named : map (λ (i : MemInfo). i.name) (delayed_mems n) ≡ names_delayed names 0 p.mems
  pub in_order : (m : ℕ) → m < length p.mems → is_delayed (mem_at p m).kind ≡ false → ls.array m ≡ comb_place p m
  pub count : length n.mems ≡ length p.mems
  pub depth : (m : ℕ) (d : MemInfo) → m < length p.mems → (slice_index_or n.mems (net_place p m) d).depth ≡ (mem_at p m).depth
  pub width : (m : ℕ) (d : MemInfo) → m < length p.mems → (slice_index_or n.mems (net_place p m) d).width ≡ (mem_at p m).width
  pub delayed : (m : ℕ) (d : MemInfo) → m < length p.mems → (slice_index_or n.mems (net_place p m) d).delayed ≡ is_delayed (mem_at p m).kind

-- from each image and with each schedule of replies each port of each cycle is the machine's
abbrev pub ShowsWhole : Pipe → Netlist → Type 0
ShowsWhole p n =
    (image : List (List ℕ)) (schedule : List ℕ)
    → IsImage n.mems image
    → map seen_of (nports n image schedule) ≡ map (whole_had p) (turns p (arrays_of (in_order p image)) (map (replies_of (delayed_count p)) schedule))
