-- What values of the program stand for.
use Rattle.std.specs.Prelude.{Option, Some, None}
use Rattle.pdl_semantics.specs.Locks as locks
use Rattle.pdl_semantics.specs.Machine.{Pending, Reserved, Written}
use Rattle.pdl_machine_pending.specs.declared.pending.Pending as r_pending
use Rattle.pdl_machine_pending.specs.declared.pending.Reserved as r_reserved
use Rattle.pdl_machine_pending.specs.declared.pending.Written as r_written
use Rattle.pdl_machine_pending.specs.declared.latest.Latest as r_latest
use Rattle.pdl_machine_pending.specs.declared.latest.Latest.TheVariants as r_latests

-- the pending write that an entry stands for
abbrev pub pending_view : r_pending.Pending → Pending
pending_view e = record { thread = e.thread; var = e.var; address = e.address; value = e.value }

-- an entry, if there is one
abbrev pub entry_view : Option r_pending.Pending → Option Pending
entry_view None = None
entry_view (Some e) = Some (pending_view e)

-- a reservation: the memory, its variable and the address
abbrev pub reserved_view : r_reserved.Reserved → Reserved
reserved_view r = record { mem = r.mem; var = r.var; address = r.address }

-- a write: the memory, its variable and the value
abbrev pub written_view : r_written.Written → Written
written_view w = record { mem = w.mem; var = w.var; value = w.value }

-- what the pending writes of older threads say of an address
abbrev pub latest_view : r_latest.Latest → locks.Latest
latest_view r_latests.Nothing = locks.Nothing
latest_view r_latests.Coming = locks.Coming
latest_view (r_latests.Known v) = locks.Known v
