-- Answers that are what the files hold.
use Rattle.std.proofs.Common.{◌≡◌, ℕ, List, [], ◌∷◌, ◌++◌, Option, Some, None, sym, subst}
use Rattle.pdl_system.specs.Answers.{Answer, gave, failed}
use Rattle.pdl_system.specs.Files.{Held, Gives, IsTold, AreTold}

-- one answer more is what is held, where the others are
pub told_more : (holds : Option Held) (rs : List Answer) (name : List ℕ) (bytes : Option (List ℕ))
    → IsTold holds name bytes → AreTold holds rs → AreTold holds (rs ++ record { name = name; bytes = bytes } ∷ [])
told_more holds [] name bytes one all = (one, tt)
told_more holds (a ∷ rs) name bytes one all = (all.0, told_more holds rs name bytes one all.1)

-- so where these are the others with one more
pub told_on : (holds : Option Held) (old new : List Answer) (name : List ℕ) (bytes : Option (List ℕ))
    → new ≡ old ++ record { name = name; bytes = bytes } ∷ [] → IsTold holds name bytes → AreTold holds old → AreTold holds new
told_on holds old new name bytes e one all = subst (AreTold holds) (sym e) (told_more holds old name bytes one all)

-- of files that tell nothing each answer is as good
pub untold : (rs : List Answer) → AreTold None rs
untold [] = tt
untold (a ∷ rs) = (untold_one a.name a.bytes, untold rs)
  where
    untold_one : (name : List ℕ) (bytes : Option (List ℕ)) → IsTold None name bytes
    untold_one name None = tt
    untold_one name (Some bytes) = tt
