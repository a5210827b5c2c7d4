use Rattle.std.proofs.Common.{◌≡◌, drop}
use Rattle.pdl_system.specs.FilesInMemory.{found_in}
use Rattle.pdl_system.proofs.mem_files.find.Given as goal

-- none so far has the name
abbrev pub invariant-loop-file : goal.invariant-loop-file
invariant-loop-file l = found_in (drop l.file-index l.files) l.name ≡ found_in l.files l.name
