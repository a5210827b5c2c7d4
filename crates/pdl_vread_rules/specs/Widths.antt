-- V3: widths, depths and constants, by the widths that are declared.
use Rattle.std.specs.Prelude.{ℕ, ◌+◌, ◌-◌, ◌*◌, ◌^◌, ◌==◌, Bool, ◌&&◌, nat_le, nat_lt, cond, List, [], ◌∷◌, ◌++◌, map, filter_map, slice_index, Option, Some, None}
use Rattle.std.specs.Int.{is_power_of_two}
use Rattle.pdl_net.specs.declared.Net.{Net}
use Rattle.pdl_net.specs.declared.Net.TheVariants.{Input, Reg as RegNet, Cell as CellNet}
use Rattle.pdl_net.specs.declared.Cell.{Cell}
use Rattle.pdl_net.specs.declared.Cell.TheVariants.{Const, Not, Bin, Mux, Slice, Cat, Rep, Read}
use Rattle.pdl_net.specs.declared.BinOp.{BinOp}
use Rattle.pdl_net.specs.Signal.{bin_width}
use Rattle.pdl_vread_text.specs.declared.file.File.{File}
use Rattle.pdl_vread_text.specs.declared.file.PortDecl.{PortDecl}
use Rattle.pdl_vread_text.specs.declared.file.RegDecl.{RegDecl}
use Rattle.pdl_vread_text.specs.declared.file.ArrayDecl.{ArrayDecl}
use Rattle.pdl_vread_text.specs.declared.file.CellDecl.{CellDecl}
use Rattle.pdl_vread_text.specs.declared.file.OutputDecl.{OutputDecl}
use Rattle.pdl_vread_text.specs.declared.file.RegBlock.{RegBlock}
use Rattle.pdl_vread_text.specs.declared.file.WriteDecl.{WriteDecl}
use Rattle.pdl_vread_text.specs.declared.file.ArrayBlock.{ArrayBlock}
use Rattle.pdl_vread_nets.specs.declared.wiring.OutputDrive.{OutputDrive}
use Rattle.pdl_vread_nets.specs.declared.wiring.RegDrive.{RegDrive}
use Rattle.pdl_vread_nets.specs.declared.wiring.ArrayWrite.{ArrayWrite}
use Rattle.pdl_vread_nets.specs.declared.wiring.Wiring.{Wiring}
use Rattle.pdl_vread_rules.specs.declared.table.Widths.{Widths}
use Rattle.pdl_vread_rules.specs.RuleQuestions.{Asked, asked, both, first_wrong}
use Rattle.pdl_word.specs.Words.{widest}

-- ---- declared widths

-- the bits of a range up to its highest one; 255 stands for 255 and more
abbrev pub bits : ℕ → ℕ
bits high = cond (nat_lt high 254) (high + 1) 255

-- the width of a port, if that is an input
abbrev pub input_width : PortDecl → Option ℕ
input_width p = cond p.input (Some (bits p.high)) None

-- the widths and depths that a file declares
abbrev pub widths_of : File → Widths
widths_of f = record {
  ports = map (λ p. bits p.high) f.ports;
  inputs = filter_map input_width f.ports;
  regs = map (λ d. bits d.high) f.regs;
  words = map (λ a. bits a.high) f.arrays;
  depths = map (λ a. a.last + 1) f.arrays;
  cells = map (λ d. bits d.high) f.cells;
}

-- the width of a net
abbrev pub net_width : Widths → Net → ℕ
net_width t (Input i) = slice_index t.inputs i
net_width t (RegNet r) = slice_index t.regs r
net_width t (CellNet k) = slice_index t.cells k

-- ---- what is right

-- 1 to widest bits
abbrev pub is_width : ℕ → Bool
is_width w = nat_le 1 w && nat_le w widest

-- a power of two from 2 to 131,072
abbrev pub is_depth : ℕ → Bool
is_depth d = nat_le 2 d && (nat_le d 131072 && is_power_of_two d)

-- an address of w bits reaches each of d words and no more
abbrev pub reaches : ℕ → ℕ → Bool
reaches w d = 2 ^ w == d

-- a constant fits its width
abbrev pub fits : ℕ → ℕ → Bool
fits v w = is_width w && nat_lt v (2 ^ w)

-- two operands of one width, and what the operator makes of them
abbrev pub fits_bin : Widths → BinOp → Net → Net → ℕ → Bool
fits_bin t op a b w = net_width t a == net_width t b && bin_width op (net_width t a) == w

-- the operands of a cell have the right widths, and its result has this one
abbrev pub fits_cell : Widths → Cell → ℕ → Bool
fits_cell t (Const own v) w = own == w && fits v own
fits_cell t (Not a) w = net_width t a == w
fits_cell t (Bin op a b) w = fits_bin t op a b w
fits_cell t (Mux x a b) w = net_width t x == 1 && (net_width t a == net_width t b && net_width t a == w)
fits_cell t (Slice a high low) w = nat_le low high && (nat_lt high (net_width t a) && high - low + 1 == w)
fits_cell t (Cat a b) w = net_width t a + net_width t b == w
fits_cell t (Rep k a) w = nat_le 1 k && k * net_width t a == w
fits_cell t (Read m a) w = reaches (net_width t a) (slice_index t.depths m) && slice_index t.words m == w

-- an output has the width of the net that drives it
abbrev pub fits_output : Widths → OutputDrive → Bool
fits_output t o = net_width t o.net == slice_index t.ports o.port

-- a register has the width of its constant and of the net that it takes
abbrev pub fits_reg : Widths → RegDrive → Bool
fits_reg t r = r.width == net_width t (RegNet r.reg) && (fits r.reset r.width && net_width t r.net == r.width)

-- a write has 1 bit, the bits of an address and the array's width
abbrev pub fits_write : Widths → ArrayWrite → Bool
fits_write t w =
    net_width t w.port.enable == 1
    && (reaches (net_width t w.port.addr) (slice_index t.depths w.array) && net_width t w.port.value == slice_index t.words w.array)

-- ---- in the order of the text

-- a port has 1 to widest bits
abbrev pub asked_port : PortDecl → Asked
asked_port p = asked p.line (is_width (bits p.high))

-- a register has 1 to widest bits
abbrev pub asked_reg : RegDecl → Asked
asked_reg r = asked r.line (is_width (bits r.high))

-- an array's words have 1 to widest bits, and its depth is a power of two from 2 to 131,072
abbrev pub asked_array : ArrayDecl → Asked
asked_array a = asked a.line (is_width (bits a.high) && is_depth (a.last + 1))

-- a cell has 1 to widest bits, and its operands and its result have the right widths
abbrev pub asked_cell : Widths → CellDecl → Cell → Asked
asked_cell t d g = asked d.line (is_width (bits d.high) && fits_cell t g (bits d.high))

-- what is asked of an `assign`: the output has the width of its net
abbrev pub asked_output : Widths → OutputDecl → OutputDrive → Asked
asked_output t d o = asked d.line (fits_output t o)

-- what is asked of a register's block: the register has the width of its constant and of its net
abbrev pub asked_block : Widths → RegBlock → RegDrive → Asked
asked_block t b r = asked b.line (fits_reg t r)

-- what is asked of a write: its nets have the widths of an enable, of an address and of a word
abbrev pub asked_write : Widths → WriteDecl → ArrayWrite → Asked
asked_write t d w = asked d.line (fits_write t w)

-- the writes of blocks
abbrev pub asked_writes : Widths → List ArrayBlock → List (List ArrayWrite) → List Asked
asked_writes t (b ∷ bs) (ws ∷ more) = both (asked_write t) b.writes ws ++ asked_writes t bs more
asked_writes t [] _ = []
asked_writes t (b ∷ bs) [] = []

-- what V3 asks of declarations: the reset has 1 bit, and each width and depth is right
abbrev pub declared_questions : File → List Asked
declared_questions f = asked f.reset_line (bits f.reset_high == 1) ∷ (map asked_port f.ports ++ (map asked_reg f.regs ++ map asked_array f.arrays))

-- what it asks of cells, `assign`s and blocks: each width and constant is right
abbrev pub driven_questions : File → Widths → Wiring → List Asked
driven_questions f t w =
    both (asked_cell t) f.cells w.cells
    ++ (both (asked_output t) f.outputs w.outputs ++ (both (asked_block t) f.reg_blocks w.regs ++ asked_writes t f.array_blocks w.blocks))

-- the line of the first place that breaks V3
unfoldable pub width_line : File → Wiring → Option ℕ
width_line f w = first_wrong (declared_questions f ++ driven_questions f (widths_of f) w)
