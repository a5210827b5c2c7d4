-- What decides with the stages which threads move: the gate of each stage, of the ports of delayed memories, speculation and the order of forks.
use Rattle.std.specs.Prelude.{◌≡◌, ℕ, ◌<◌, Bool, true, List, length, ◌&&◌}
use Rattle.pdl_word.specs.Words.{bit}
use Rattle.pdl_semantics.specs.Flat.{Pipe}
use Rattle.pdl_semantics.specs.Machine as machine
use Rattle.pdl_semantics.specs.Machine.{Thread, deeds}
use Rattle.pdl_semantics.specs.Moves.{is_empty}
use Rattle.pdl_net.specs.Circuit.{State}
use Rattle.pdl_net.specs.Signal.{Signal}
use Rattle.pdl_machine_facts.specs.Slots.{later_acts, locks_ready, may_pass}
use Rattle.pdl_law_parts.specs.Views.{View, Gates}
use Rattle.pdl_law_parts.specs.Stands.{Follows, IsSeen}

-- the gate of a stage whose thread the locks let move says whether it may pass, where the later stages are as they seem
abbrev pub TellsGate : Pipe → (ℕ → View) → Gates → (ℕ → Signal) → State → machine.State → List Bool → ℕ → Thread → Type 0
TellsGate p vs gates moves s st bits k t =
    Follows p k s st t.number (vs k).ended (deeds p st k t) → locks_ready p st t.number (deeds p st k t) ≡ true
    → ((j : ℕ) → k < j → j < length p.stages → IsSeen p vs moves s st bits j)
    → (gates.gate k).value s ≡ bit (is_empty t.awaits && may_pass p st bits (later_acts p st bits k) k (deeds p st k t))
