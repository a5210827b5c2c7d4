-- Registers that drive a lock: they are there, with the widths of what they drive.
use Rattle.std.specs.Prelude.{ℕ}
use Rattle.pdl_net.specs.declared.Net.TheVariants.{Reg}
use Rattle.pdl_net.specs.Circuit.{Circuit}
use Rattle.pdl_net.specs.HasWidth.{HasWidth}
use Rattle.pdl_lockapi.specs.declared.Kind.TheVariants.{W}
use Rattle.pdl_lockapi.specs.declared.ReservePort.{ReservePort}
use Rattle.pdl_lockapi.specs.declared.TicketWrite.{TicketWrite}
use Rattle.pdl_tests_of_parts.specs.declared.drives.LookDrive.{LookDrive}
use Rattle.pdl_tests_of_parts.specs.declared.drives.ReserveDrive.{ReserveDrive}
use Rattle.pdl_tests_of_parts.specs.declared.drives.WriteDrive.{WriteDrive}
use Rattle.pdl_tests_of_parts.specs.declared.drives.EndDrive.{EndDrive}
use Rattle.pdl_tests_of_parts.specs.declared.drives.PortDrive.{PortDrive}

-- the registers of a look are there, with the bits of an address and of a ticket
pub record IsLook (c : Circuit) (bits tickets : ℕ) (d : LookDrive) : Type 0 where
  pub addr : HasWidth c (Reg d.addr) bits
  pub ticket : HasWidth c (Reg d.ticket) tickets

-- the registers of a reservation are there, with 1 bit and the bits of an address
pub record IsReserve (c : Circuit) (bits : ℕ) (d : ReserveDrive) : Type 0 where
  pub enable : HasWidth c (Reg d.enable) 1
  pub addr : HasWidth c (Reg d.addr) bits

-- the registers of a write are there, with 1 bit, the bits of a ticket, and the width of a word
pub record IsWrite (c : Circuit) (tickets width : ℕ) (d : WriteDrive) : Type 0 where
  pub enable : HasWidth c (Reg d.enable) 1
  pub ticket : HasWidth c (Reg d.ticket) tickets
  pub value : HasWidth c (Reg d.value) width

-- the registers of two releases and a squash are there, each of 1 bit, and that of the squash's tail with the bits of a ticket
pub record IsEnd (c : Circuit) (tickets : ℕ) (d : EndDrive) : Type 0 where
  pub release : HasWidth c (Reg d.release) 1
  pub release2 : HasWidth c (Reg d.release2) 1
  pub squash : HasWidth c (Reg d.squash) 1
  pub tail : HasWidth c (Reg d.tail) tickets

-- the registers of two reservations, two writes, two releases and a squash are there, with their widths
pub record AreDrivers (c : Circuit) (bits width tickets : ℕ) (d : PortDrive) : Type 0 where
  pub reserve : IsReserve c bits d.reserve
  pub reserve2 : IsReserve c bits d.reserve2
  pub write : IsWrite c tickets width d.write
  pub write2 : IsWrite c tickets width d.write2
  pub end : IsEnd c tickets d.end

-- the reserve port that these registers drive
abbrev pub reserve_of : ReserveDrive → ReservePort
reserve_of d = record { enable = Reg d.enable; kind = W; addr = Reg d.addr }

-- the write port that these registers drive
abbrev pub write_of : WriteDrive → TicketWrite
write_of d = record { enable = Reg d.enable; ticket = Reg d.ticket; value = Reg d.value }
