-- What a scope tells.
use Rattle.std.specs.Prelude.{◌≡◌, ℕ, List, length, map, take}
use Rattle.pdl_vread_text.specs.declared.file.File.{File}
use Rattle.pdl_vread_nets.specs.declared.scope.Scope as r
use Rattle.pdl_vread_nets.specs.Wired.{port_nets}
use Rattle.pdl_vread_nets.specs.Places.{AreFirsts}

-- the names of a file's ports
abbrev pub port_names : File → List (List ℕ)
port_names f = map (λ p. p.name) f.ports

-- the names of a file's registers
abbrev pub reg_names : File → List (List ℕ)
reg_names f = map (λ r. r.name) f.regs

-- the names of a file's arrays
abbrev pub array_names : File → List (List ℕ)
array_names f = map (λ a. a.name) f.arrays

-- the names of the first k cells
abbrev pub cell_names : File → ℕ → List (List ℕ)
cell_names f k = map (λ d. d.name) (take k f.cells)

-- the scope tells the names of its file, of its cells those of the first few
pub record IsScope (s : r.Scope) : Type 0 where
  pub ports : AreFirsts (port_names s.file.now) s.ports
  pub nets : s.nets.items ≡ port_nets 0 s.file.now.ports
  pub regs : AreFirsts (reg_names s.file.now) s.regs
  pub arrays : AreFirsts (array_names s.file.now) s.arrays
  pub cells : AreFirsts (cell_names s.file.now s.cells.count) s.cells
