-- What reads answered.
use Rattle.std.specs.Prelude.{◌≡◌, ℕ, List, ◌++◌, Option, Some, None}
use mathlib.Core.Path.{refl}
use Rattle.std.specs.Coded.{Coded, code_by, coded×, coded_ℕ, coded_list, coded_option}

-- the name that was asked, and the bytes of the file, or none where it wasn't read
pub record Answer : Type 0 where
  pub name : List ℕ
  pub bytes : Option (List ℕ)

-- a file of the name was read, and gave these bytes
abbrev pub gave : List ℕ → List ℕ → Answer
gave name bytes = record { name = name; bytes = Some bytes }

-- a file of the name wasn't read
abbrev pub failed : List ℕ → Answer
failed name = record { name = name; bytes = None }

-- there were reads since, whose answers stand after the others, and this is so of them
pub record Since (old new : List Answer) (P : List Answer → Type 0) : Type 0 where
  pub reads : List Answer
  pub since : new ≡ old ++ reads
  pub so : P reads

-- answers as the logic stores them
abbrev pub answers_coded : Coded (List Answer)
answers_coded =
    coded_list (code_by (List ℕ × Option (List ℕ)) (coded× (coded_list coded_ℕ) (coded_option (coded_list coded_ℕ)))
    (λ (a : Answer). (a.name, a.bytes)) (λ p. record { name = p.0; bytes = p.1 }) (λ _. refl))
