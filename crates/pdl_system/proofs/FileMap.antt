-- The files in memory as a map: searching the list in order finds what the map has.
use Rattle.std.proofs.Common.{◌≡◌, ℕ, List, [], ◌∷◌, Option, Some, cond, map, refl, sym, ap₂, ◌∙◌, Bool}
use Rattle.std.specs.Ordering.{nat_cmp}
use Rattle.std.specs.Cmp.Lexicographic.{slice_cmp, texts_ties}
use Rattle.std.specs.FinMap as fin
use Rattle.std.proofs.lemmas.Cmp.{nat_list_cmp_total}
use Rattle.pdl_system.specs.Files.{bytes_of}
use Rattle.pdl_system.specs.FilesInMemory.{held_of, found_in}
use Rattle.pdl_system.specs.declared.mem_file.MemFile.{MemFile}

found_is : (fs : List MemFile) (name : List ℕ) → fin.find (slice_cmp nat_cmp) name (map (λ f. (f.name, f.bytes)) fs) ≡ found_in fs name
found_is [] name = refl
found_is (f ∷ fs) name = ap₂ (λ (b : Bool) (o : Option (List ℕ)). cond b (Some f.bytes) o) (sym (texts_ties name f.name)) (found_is fs name)

-- what the map has of a name is what stands first in the list
pub held_is : (fs : List MemFile) (name : List ℕ) → bytes_of (held_of fs) name ≡ found_in fs name
held_is fs name = fin.get-from_entries nat_list_cmp_total (map (λ f. (f.name, f.bytes)) fs) name ∙ found_is fs name
