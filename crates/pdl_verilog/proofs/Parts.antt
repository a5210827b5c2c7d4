-- The parts from which a kind of line may come.
use Rattle.std.proofs.Common.{◌≡◌, Some, codes, refl}
use Rattle.pdl_vread_text.specs.declared.part.Part.{Part}
use Rattle.pdl_vread_text.specs.declared.part.Part.TheVariants as part
use Rattle.pdl_vread_text.specs.declared.rule.VerilogRule.TheVariants as rule
use Rattle.pdl_vread_text.specs.Grammar.{chosen}

-- a block of a register or of an array, or the last line
pub record MayBlock (p : Part) : Type 0 where
  pub block : chosen p (codes "always") ≡ Some rule.BlockHead
  pub ending : chosen p (codes "endmodule") ≡ Some rule.Ending

-- the `assign` of an output, or what may stand after it
pub record MayDrive (p : Part) : Type 0 where
  pub output : chosen p (codes "assign") ≡ Some rule.OutputDriven
  pub blocks : MayBlock p

-- a cell, or what may stand after it
pub record MayCompute (p : Part) : Type 0 where
  pub cell : chosen p (codes "wire") ≡ Some rule.CellHead
  pub drives : MayDrive p

-- the part of blocks is one where a block or the last line may stand
pub at_blocks : MayBlock part.Blocks
unfolding chosen
at_blocks = record { block = refl; ending = refl }

-- the part of outputs is one where an output's `assign` may stand, or what comes after it
pub at_outputs : MayDrive part.Outputs
unfolding chosen
at_outputs = record { output = refl; blocks = record { block = refl; ending = refl } }

-- the part of cells is one where a cell may stand, or what comes after it
pub at_cells : MayCompute part.Cells
unfolding chosen
at_cells = record { cell = refl; drives = record { output = refl; blocks = record { block = refl; ending = refl } } }

-- after arrays a cell may stand, or what comes after it
pub at_arrays : MayCompute part.Arrays
unfolding chosen
at_arrays = record { cell = refl; drives = record { output = refl; blocks = record { block = refl; ending = refl } } }

-- after registers a cell may stand, or what comes after it
pub at_regs : MayCompute part.Regs
unfolding chosen
at_regs = record { cell = refl; drives = record { output = refl; blocks = record { block = refl; ending = refl } } }
