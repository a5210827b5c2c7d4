-- Where stages lead.
use Rattle.std.specs.Prelude.{◌≡◌, ℕ, ◌<◌, true, length}
use Rattle.pdl_semantics.specs.Flat.{Pipe}
use Rattle.pdl_semantics.specs.Stages.{stage_at}
use Rattle.pdl_machine_facts.specs.Slots.{leads_to}

-- each stage leads to later stages of the pipe
abbrev pub LeadsInside : Pipe → Type 0
LeadsInside p = (k q : ℕ) → k < length p.stages → leads_to (stage_at p k).next q ≡ true → (k < q) × (q < length p.stages)
