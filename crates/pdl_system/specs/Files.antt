-- What a read gives of the files that are held, and when it fails.
use Rattle.std.specs.Prelude.{◌≡◌, ℕ, List, [], ◌∷◌, Option, Some, None, Result, Err, ⊤}
use Rattle.std.specs.Ordering.{nat_cmp}
use Rattle.std.specs.Cmp.Lexicographic.{slice_cmp}
use Rattle.std.specs.FinMap as map
use Rattle.pdl_kit.specs.Counts.{Rose}
use Rattle.pdl_kit.specs.declared.files.ReadError.{ReadError}
use Rattle.pdl_kit.specs.declared.files.ReadError.TheVariants.{Failed}
use Rattle.pdl_system.specs.Answers.{Answer}

-- bytes by name
abbrev pub Held : Type 0
Held = map.FinMap (slice_cmp nat_cmp) (List ℕ)

-- the bytes of a name, if it is held
abbrev pub bytes_of : Held → List ℕ → Option (List ℕ)
bytes_of held name = map.get held name

-- where the files are told, these are the bytes of the name
abbrev pub Gives : Option Held → List ℕ → List ℕ → Type 0
Gives None name bytes = Unit {0}
Gives (Some held) name bytes = bytes_of held name ≡ Some bytes

-- where the files are told, what a read gave are the bytes of its name
abbrev pub IsTold : Option Held → List ℕ → Option (List ℕ) → Type 0
IsTold holds name None = ⊤
IsTold holds name (Some bytes) = Gives holds name bytes

-- so with each of these answers
abbrev pub AreTold : Option Held → List Answer → Type 0
AreTold holds [] = ⊤
AreTold holds (a ∷ rs) = IsTold holds a.name a.bytes × AreTold holds rs

-- the count rose where the answer is `Failed`
abbrev pub ReadHasCause : {T : Type 0} → ℕ → ℕ → Result T ReadError → Type 0
ReadHasCause before now (Err Failed) = Rose before now
ReadHasCause before now _ = ⊤
