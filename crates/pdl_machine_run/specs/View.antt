-- What values of the program stand for: what a thread holds, what a stage does, who stands in it, and what stands beside the stages.
use Rattle.std.specs.Prelude.{ℕ, Bool, true, false, List, map, Option, Some, None}
use Rattle.pdl_semantics.specs.Machine.{Awaited, Kept, Thread, HeldLocation, Blocked, Ask, Advised, Deeds, Request, NoRequest, Owned, Orphan}
use Rattle.pdl_machine_pending.specs.View.{reserved_view, written_view}
use Rattle.pdl_machine_run.specs.declared.place.LocationNumbers as r_place
use Rattle.pdl_machine_run.specs.declared.deeds.Blocked as r_blocked
use Rattle.pdl_machine_run.specs.declared.deeds.Ask as r_ask
use Rattle.pdl_machine_run.specs.declared.deeds.Advised as r_advised
use Rattle.pdl_machine_run.specs.declared.deeds.Deeds as r_deeds
use Rattle.pdl_machine_run.specs.declared.stage.Awaited as r_awaited
use Rattle.pdl_machine_run.specs.declared.stage.KeptWord as r_kept
use Rattle.pdl_machine_run.specs.declared.stage.ThreadSlot as r_slot
use Rattle.pdl_machine_run.specs.declared.stage.Stage as r_stage
use Rattle.pdl_machine_run.specs.declared.beside.Request as r_request
use Rattle.pdl_machine_run.specs.declared.beside.Request.TheVariants as r_requests
use Rattle.pdl_machine_run.specs.declared.beside.Order as r_order

-- WHAT A STAGE DOES

-- a held location: the memory and the variable
abbrev pub place_view : r_place.LocationNumbers → HeldLocation
place_view l = record { mem = l.mem; var = l.var }

-- a block: the memory, the address, and whether it is for writing
abbrev pub blocked_view : r_blocked.Blocked → Blocked
blocked_view b = record { mem = b.mem; address = b.address; writes = b.writes }

-- a request: the memory, the variable, the address
abbrev pub ask_view : r_ask.Ask → Ask
ask_view q = record { mem = q.mem; var = q.var; address = q.address }

-- a write of an advisory memory: the memory, the address, the value
abbrev pub advised_view : r_advised.Advised → Advised
advised_view w = record { mem = w.mem; address = w.address; value = w.value }

-- a word for a variable: the variable and the word
abbrev pub kept_view : r_kept.KeptWord → Kept
kept_view k = record { var = k.var; word = k.word }

-- the arguments of a call, if there was one
abbrev pub child_arguments : Bool → List ℕ → Option (List ℕ)
child_arguments false args = None
child_arguments true args = Some args

-- what a stage does
abbrev pub deeds_view : r_deeds.Deeds → Deeds
deeds_view r =
    record {
      env = r.values.items;
      advice = map kept_view r.advice.items;
      guess = r.guess.items;
      held = map place_view r.held.items;
      blocks = map blocked_view r.blocks.items;
      reserves = map reserved_view r.reserves.items;
      writes = map written_view r.writes.items;
      releases = r.releases.items;
      asks = map ask_view r.asks.items;
      advises = map advised_view r.advises.items;
      barrier = r.barrier;
      child = child_arguments r.called r.args.items;
      fails = r.fails;
    }

-- WHO STANDS IN A STAGE

-- a read that is awaited: the memory and the variable
abbrev pub awaited_view : r_awaited.Awaited → Awaited
awaited_view r = record { mem = r.mem; var = r.var }

-- the thread that stands there, of this number
abbrev pub thread_of : ℕ → r_slot.ThreadSlot → Thread
thread_of number s =
    record {
      number = number;
      env = s.values.items;
      advice = map kept_view s.advice.items;
      guess = s.guess.items;
      awaits = map awaited_view s.awaits.items;
      kept = map kept_view s.kept.items;
    }

-- the thread that stands there, if there is one
abbrev pub thread_if : Option ℕ → r_slot.ThreadSlot → Option Thread
thread_if None s = None
thread_if (Some number) s = Some (thread_of number s)

-- the thread that stands in a slot, if there is one
abbrev pub thread_in : r_slot.ThreadSlot → Option Thread
thread_in s = thread_if s.number s

-- who stands in each of these stages
abbrev pub seats : List r_stage.Stage → List (Option Thread)
seats xs = map (λ (x : r_stage.Stage). thread_in x.slot) xs

-- WHAT STANDS BESIDE THE STAGES

-- the outstanding request of a delayed memory
abbrev pub request_view : r_request.Request → Request
request_view r_requests.NoRequest = NoRequest
request_view (r_requests.Owned owner address) = Owned owner address
request_view (r_requests.Orphan address) = Orphan address

-- of each fork the branches of the threads inside, in their order
abbrev pub order_views : List r_order.Order → List (List Bool)
order_views os = map (λ (o : r_order.Order). o.branches.items) os
