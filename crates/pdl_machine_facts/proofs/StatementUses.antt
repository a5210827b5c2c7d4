-- Which statements of a stage a thread carries out, and whether it writes to a memory.
use Rattle.std.specs.Prelude.{◌≡◌, ℕ, Bool, List, [], ◌∷◌, if◌then◌else◌, ◌==◌}
use Rattle.pdl_semantics.specs.Flat.{Stmt, all_hold}
use Rattle.pdl_semantics.specs.Stages.{list_any}
use Rattle.pdl_semantics.specs.Machine.{Written, Deeds, deeds_after}

-- statements that are carried out just where a path takes them
abbrev pub IsAlong : List ℕ → (ℕ → ℕ → ℕ) → List Stmt → Deeds → Type 0
IsAlong path read [] d = Unit {0}
IsAlong path read (x ∷ xs) d =
    (all_hold x.guards d.env ≡ all_hold x.guards path) × IsAlong path read xs (if all_hold x.guards d.env then deeds_after read x.op d else d)

-- whether one of a thread's writes is to this memory
abbrev pub writes_to : ℕ → List Written → Bool
writes_to m ws = list_any (λ (w : Written). w.mem == m) ws
