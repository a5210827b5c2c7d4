-- The memory of the tests suits each lock.
use Rattle.std.proofs.Common.{◌≡◌, ◌≤◌, ℕ, false, arith}
use Rattle.pdl_kit.specs.declared.mem_info.MemInfo.{MemInfo}
use Rattle.pdl_lock_ring.specs.Slots.{IsSize, Suits}
use Rattle.pdl_bypass.specs.declared.BypassLock.{BypassLock}
use Rattle.pdl_bypass.specs.Bypasses.{BypassSuits}
use Rattle.pdl_rename.specs.declared.RenameFile.{RenameFile}
use Rattle.pdl_rename.specs.Places.{RenameSuits}

-- a memory of 16 words of 8 bits
pub record IsMemory (m : MemInfo) : Type 0 where
  pub width : m.width ≡ 8
  pub depth : m.depth ≡ 16
  pub comb : m.delayed ≡ false

-- the memory of the tests suits a lock of size n
pub suits : (n : ℕ) (m : MemInfo) → IsSize n → IsMemory m → Suits n m
suits n m z h = record {
  size = z;
  width_low = omega (arith, h.width);
  width_high = omega (arith, h.width);
  depth = record { bits = 4; low = omega arith; high = omega arith; power = h.depth };
}

-- the memory of the tests suits a bypass lock
pub suits_bypass : (q : BypassLock) (m : MemInfo) → IsSize q.size → IsMemory m → BypassSuits q m
suits_bypass q m z h = record { sizes = suits q.size m z h; comb = h.comb }

-- the memory of the tests suits a renaming lock of at most 16 pending writes
pub suits_rename : (q : RenameFile) (m : MemInfo) → IsSize q.size → q.size ≤ 16 → IsMemory m → RenameSuits q m
suits_rename q m z few h = record { sizes = suits q.size m z h; comb = h.comb; shallow = omega (arith, h.depth); deep = omega (arith, h.depth, few) }
