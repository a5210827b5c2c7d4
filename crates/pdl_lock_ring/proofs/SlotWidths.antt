-- A ticket has no more bits than there are slots.
use Rattle.std.proofs.Common.{ℕ, zero, suc, ◌-◌, ◌^◌, ◌<◌, ◌≤◌, arith}
use Rattle.std.proofs.Math.Nat.{two-pow-succ}
use Rattle.pdl_build.proofs.Extensions.{zext_width}
use Rattle.pdl_lock_ring.specs.declared.layout.RingLayout.{RingLayout}
use Rattle.pdl_lock_ring.specs.Slots.{IsSized}

-- a number is below its power of two
pub power_above : (n : ℕ) → n < 2 ^ n
power_above zero = omega arith
power_above (suc n) = let h = power_above n in let t = two-pow-succ n in omega (arith, h, t)

-- a ticket's bits are at most as many as the slots
pub ticket_fits : (l : RingLayout) → IsSized l → l.ticket ≤ l.size
ticket_fits l z = let h = power_above (l.ticket - 1) in omega (arith, h, z.power, z.ticket_low)

pub ruleset extending = (zext_width, ticket_fits)
