-- What is kept, with the new numbers.
use Rattle.pdl_net_needed.specs.declared.kept.Kept.TheInside.{Inside}
use Rattle.pdl_net_needed.specs.Needed.{Choice}
use Rattle.pdl_net_needed.specs.Marks.{AreNumbers}

-- what is kept, without the new numbers
abbrev pub choice_of_parts : Inside → Choice
choice_of_parts k = k.marks

-- the numbers are those of the marks
pub record IsNumbered (k : Inside) : Type 0 where
  pub regs : AreNumbers k.marks.regs k.reg_numbers.items
  pub cells : AreNumbers k.marks.cells k.cell_numbers.items
