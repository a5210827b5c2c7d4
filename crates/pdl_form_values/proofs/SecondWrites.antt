-- Which memories are reserved twice, one memory more.
use Rattle.std.proofs.Common.{◌≡◌, sym, ap, ap₂, ◌∙◌, ℕ, suc, ◌+◌, ◌<◌, Bool, List, [], ◌∷◌, ◌++◌, drop, length, append_assoc, arith}
use Rattle.std.proofs.lemmas.List.{drop_more}
use Rattle.pdl_semantics.specs.Flat.{Stmt, Mem}
use Rattle.pdl_semantics.specs.Stages.{plain_mem}
use Rattle.pdl_semantics.specs.SecondWrites.{reserves_twice, all_twice}

-- with what is told of one memory more, those told and those left are all
pub next_twice : (xs : List Stmt) (ms : List Mem) (m : ℕ) (done now whole : List Bool) (r : Bool)
    → m < length ms → now ≡ done ++ r ∷ [] → r ≡ reserves_twice m xs → done ++ all_twice xs m (drop m ms) ≡ whole
    → now ++ all_twice xs (m + 1) (drop (m + 1) ms) ≡ whole
next_twice xs ms m done now whole r h e is inv =
    ap (λ l. l ++ all_twice xs (m + 1) (drop (m + 1) ms)) e
    ∙ append_assoc done (r ∷ []) (all_twice xs (m + 1) (drop (m + 1) ms))
    ∙ ap₂ (λ b n. done ++ b ∷ all_twice xs n (drop (m + 1) ms)) is (let one : m + 1 ≡ suc m = omega arith in one)
    ∙ sym (ap (λ l. done ++ all_twice xs m l) (drop_more ms m plain_mem h))
    ∙ inv
