-- The stages of reserves and releases, and the answer of a check.
use Rattle.std.specs.Prelude.{◌≡◌, ℕ, List, [], ◌∷◌, map, Option, Some, None, ⊤}
use Rattle.pdl_kit.specs.declared.rule.Rule.{Rule}
use Rattle.pdl_kit.specs.declared.rule.Rule.TheVariants.{L1, L2, L3, L4, L5, L6, L7, L8}
use Rattle.pdl_kit.specs.declared.refusal.Refusal.{Refusal}
use Rattle.pdl_kit.specs.declared.refusal.Refusal.TheVariants.{Refused, NoMemory}
use Rattle.pdl_semantics.specs.Tree.{Mem, Pipe}
use Rattle.pdl_rules.specs.Places.{places}
use Rattle.pdl_rules.specs.Stages.{first_stage, reserves_memory, releases_memory}
use Rattle.pdl_rules.specs.Refusal as rules
use Rattle.pdl_locks.specs.declared.plan.MemStages.{MemStages}

-- the stages of the reserves and of the releases of one memory
abbrev pub stages_of : Pipe → Mem → MemStages
stages_of p m =
    record { reserved = first_stage (reserves_memory m.name.name) [] (places p); released = first_stage (releases_memory m.name.name) [] (places p) }

-- the stages of the reserves and of the releases of each memory
abbrev pub plan_of : Pipe → List MemStages
plan_of p = map (stages_of p) p.mems

-- the stage of a memory's reserves, where the memory is there and has some
abbrev pub reserved_of : Option MemStages → Option ℕ
reserved_of None = None
reserved_of (Some m) = m.reserved

-- the stage of a memory's releases, where the memory is there and has some
abbrev pub released_of : Option MemStages → Option ℕ
released_of None = None
released_of (Some m) = m.released

-- the rules on locks, the lowest first
abbrev pub lock_rules : List Rule
lock_rules = L1 ∷ L2 ∷ L3 ∷ L4 ∷ L5 ∷ L6 ∷ L7 ∷ L8 ∷ []

-- the refusal tells the lowest of these rules that the pipe breaks, at its lowest place; want of memory tells nothing
abbrev pub Tells : List Rule → Pipe → Refusal → Type 0
Tells rs p (Refused rule line) = rules.first_broken rs p ≡ Some (record { rule = rule; line = line })
Tells rs p NoMemory = ⊤

-- the refusal is that by this rule in a line that is there
abbrev pub IsRefused : Rule → Option ℕ → Refusal → Type 0
IsRefused rule None e = ⊥
IsRefused rule (Some line) e = e ≡ Refused rule line
