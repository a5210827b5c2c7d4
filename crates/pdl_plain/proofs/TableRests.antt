-- The tokens of a file's text from some place on.
use Rattle.std.proofs.Common.{◌≡◌, ◌≤◌, List, [], ◌∷◌, ◌++◌, append_assoc, length, codes, sym, ap, ◌∙◌, subst}
use Rattle.pdl_vread_text.specs.declared.file.PortDecl.{PortDecl}
use Rattle.pdl_vread_text.specs.declared.file.RegDecl.{RegDecl}
use Rattle.pdl_vread_text.specs.declared.file.ArrayDecl.{ArrayDecl}
use Rattle.pdl_vread_text.specs.declared.file.CellDecl.{CellDecl}
use Rattle.pdl_vread_text.specs.declared.file.OutputDecl.{OutputDecl}
use Rattle.pdl_vread_text.specs.declared.file.RegBlock.{RegBlock}
use Rattle.pdl_vread_text.specs.declared.file.ArrayBlock.{ArrayBlock}
use Rattle.pdl_vread_text.specs.declared.file.File.{File}
use Rattle.pdl_vread_text.specs.Grammar.{Row}
use Rattle.pdl_word.specs.Each.{Each}
use Rattle.pdl_plain.specs.NetlistTexts.{Piece, word, AreTokens, all_of, port_pieces, closing, reg_pieces, array_pieces, cell_pieces, output_pieces, reg_block_pieces, array_block_pieces}
use Rattle.pdl_plain.proofs.CellLines.{cell}
use Rattle.pdl_plain.proofs.BlockLines.{block}
use Rattle.pdl_plain.proofs.ItemTokens.{join}

-- the pieces of a file from its blocks of arrays on
abbrev pub from_array_blocks : File → List Piece
from_array_blocks h = all_of array_block_pieces h.array_blocks ++ word (codes "endmodule") ∷ []

-- the pieces of a file from its blocks of registers on
abbrev pub from_blocks : File → List Piece
from_blocks h = all_of reg_block_pieces h.reg_blocks ++ from_array_blocks h

-- the pieces of a file from its outputs on
abbrev pub from_outputs : File → List Piece
from_outputs h = all_of output_pieces h.outputs ++ from_blocks h

-- the pieces of a file from its cells on
abbrev pub from_cells : File → List Piece
from_cells h = all_of cell_pieces h.cells ++ from_outputs h

-- the pieces of a file from its arrays on
abbrev pub from_arrays : File → List Piece
from_arrays h = all_of array_pieces h.arrays ++ from_cells h

-- the pieces of a file from its registers on
abbrev pub from_regs : File → List Piece
from_regs h = all_of reg_pieces h.regs ++ from_arrays h

-- the pieces of a file from its ports on
abbrev pub from_ports : File → List Piece
from_ports h = all_of port_pieces h.ports ++ (closing ++ from_regs h)

-- tokens are, from some place on, those of a file
pub record Rest (from : File → List Piece) (ts : Row) : Type 0 where
  pub file : File
  pub written : Each (λ (b : ArrayBlock). 1 ≤ length b.writes) file.array_blocks
  pub tokens : AreTokens (from file) ts

-- the tokens of an item before those of the items after it
pub with_front : (ps pss qs : List Piece) (front back ts : Row) → ts ≡ front ++ back → AreTokens ps front → AreTokens (pss ++ qs) back
    → AreTokens ((ps ++ pss) ++ qs) ts
with_front ps pss qs front back ts e h k =
    subst (λ z. AreTokens z ts) (sym (append_assoc ps pss qs)) (subst (λ z. AreTokens (ps ++ (pss ++ qs)) z) (sym e) (join ps (pss ++ qs) front back h k))

-- one token more of what comes first
pub one_ahead : (front mid back ts us : Row) → ts ≡ front ++ us → us ≡ mid ++ back → ts ≡ (front ++ mid) ++ back
one_ahead front mid back ts us e g = e ∙ (ap (λ z. front ++ z) g ∙ sym (append_assoc front mid back))

-- one port more
pub more_ports : (p : PortDecl) (front back ts : Row) → ts ≡ front ++ back → AreTokens (port_pieces p) front → Rest from_ports back → Rest from_ports ts
more_ports p front back ts e h r = record {
  file = record r.file { ports = p ∷ r.file.ports };
  written = r.written;
  tokens = with_front (port_pieces p) (all_of port_pieces r.file.ports) (closing ++ from_regs r.file) front back ts e h r.tokens;
}

-- one register more
pub more_regs : (x : RegDecl) (front back ts : Row) → ts ≡ front ++ back → AreTokens (reg_pieces x) front → Rest from_regs back → Rest from_regs ts
more_regs x front back ts e h r = record {
  file = record r.file { regs = x ∷ r.file.regs };
  written = r.written;
  tokens = with_front (reg_pieces x) (all_of reg_pieces r.file.regs) (from_arrays r.file) front back ts e h r.tokens;
}

-- one array more
pub more_arrays : (x : ArrayDecl) (front back ts : Row) → ts ≡ front ++ back → AreTokens (array_pieces x) front → Rest from_arrays back → Rest from_arrays ts
more_arrays x front back ts e h r = record {
  file = record r.file { arrays = x ∷ r.file.arrays };
  written = r.written;
  tokens = with_front (array_pieces x) (all_of array_pieces r.file.arrays) (from_cells r.file) front back ts e h r.tokens;
}

-- one cell more
pub more_cells : (x : CellDecl) (front back ts : Row) → ts ≡ front ++ back → AreTokens (cell_pieces x) front → Rest from_cells back → Rest from_cells ts
more_cells x front back ts e h r = record {
  file = record r.file { cells = x ∷ r.file.cells };
  written = r.written;
  tokens = with_front (cell_pieces x) (all_of cell_pieces r.file.cells) (from_outputs r.file) front back ts e h r.tokens;
}

-- one output more
pub more_outputs : (x : OutputDecl) (front back ts : Row) → ts ≡ front ++ back → AreTokens (output_pieces x) front → Rest from_outputs back → Rest from_outputs ts
more_outputs x front back ts e h r = record {
  file = record r.file { outputs = x ∷ r.file.outputs };
  written = r.written;
  tokens = with_front (output_pieces x) (all_of output_pieces r.file.outputs) (from_blocks r.file) front back ts e h r.tokens;
}

-- one block of a register more
pub more_blocks : (x : RegBlock) (front back ts : Row) → ts ≡ front ++ back → AreTokens (reg_block_pieces x) front → Rest from_blocks back → Rest from_blocks ts
more_blocks x front back ts e h r = record {
  file = record r.file { reg_blocks = x ∷ r.file.reg_blocks };
  written = r.written;
  tokens = with_front (reg_block_pieces x) (all_of reg_block_pieces r.file.reg_blocks) (from_array_blocks r.file) front back ts e h r.tokens;
}

-- one block of an array more
pub more_array_blocks : (x : ArrayBlock) (front back ts : Row) → 1 ≤ length x.writes → ts ≡ front ++ back → AreTokens (array_block_pieces x) front
    → Rest from_array_blocks back → Rest from_array_blocks ts
more_array_blocks x front back ts l e h r = record {
  file = record r.file { array_blocks = x ∷ r.file.array_blocks };
  written = (l, r.written);
  tokens = with_front (array_block_pieces x) (all_of array_block_pieces r.file.array_blocks) (word (codes "endmodule") ∷ []) front back ts e h r.tokens;
}

-- no more blocks of registers
pub no_blocks : (ts : Row) → Rest from_array_blocks ts → Rest from_blocks ts
no_blocks ts r = record { file = record r.file { reg_blocks = [] }; written = r.written; tokens = r.tokens }

-- no more outputs
pub no_outputs : (ts : Row) → Rest from_blocks ts → Rest from_outputs ts
no_outputs ts r = record { file = record r.file { outputs = [] }; written = r.written; tokens = r.tokens }

-- no more cells
pub no_cells : (ts : Row) → Rest from_outputs ts → Rest from_cells ts
no_cells ts r = record { file = record r.file { cells = [] }; written = r.written; tokens = r.tokens }

-- no more arrays
pub no_arrays : (ts : Row) → Rest from_cells ts → Rest from_arrays ts
no_arrays ts r = record { file = record r.file { arrays = [] }; written = r.written; tokens = r.tokens }

-- no more registers
pub no_regs : (ts : Row) → Rest from_arrays ts → Rest from_regs ts
no_regs ts r = record { file = record r.file { regs = [] }; written = r.written; tokens = r.tokens }

-- no more ports
pub no_ports : (front back ts : Row) → ts ≡ front ++ back → AreTokens closing front → Rest from_regs back → Rest from_ports ts
no_ports front back ts e h r = record {
  file = record r.file { ports = [] };
  written = r.written;
  tokens = subst (λ z. AreTokens (closing ++ from_regs r.file) z) (sym e) (join closing (from_regs r.file) front back h r.tokens);
}
