-- The stages and the locks of an emission are laid out as the law of a netlist asks.
use Rattle.std.proofs.Common.{ℕ, ◌<◌, ◌∙◌, length, refl}
use Rattle.pdl_net.specs.Well.{IsWell}
use Rattle.pdl_law_parts.specs.Places.{comb_place}
use Rattle.pdl_law_parts.specs.Views.{moves_where}
use Rattle.pdl_law_parts.specs.Compiled.{Same, IsLaid}
use Rattle.pdl_pipe_walk.specs.Locked.{Members, some_at}
use Rattle.pdl_pipe_nexts.specs.Lines.{line_pipe}
use Rattle.pdl_pipe_locks.specs.Stepped.{own_of, commits_in}
use Rattle.pdl_pipe_locks.proofs.LockGrowth.{Stays}
use Rattle.pdl_pipe_emitted.specs.Emitted.{Nets, Emission, locks_of, views_of, moves_of, gates_of}
use Rattle.pdl_pipe_emitted.proofs.LaidGrowth.{keeps_ad, advised_after}
use Rattle.pdl_pipe_emitted.proofs.LaidDeeds.{advised_as}
use Rattle.pdl_pipe_emitted.proofs.LaidStages.{begins_made, stage_made}
use Rattle.pdl_pipe_emitted.proofs.LaidLocks.{goes_on}

module _ {T : Type 0} (l : Members T) (stays : Stays l) (n : Nets T) (em : Emission l n) (well : IsWell em.d)
    (leaves : (k : ℕ) → k < length (line_pipe n.line).stages
    → Same em.d (moves_of l n em k) (moves_where (line_pipe n.line) (views_of l n em) (gates_of l n em).gate (moves_of l n em) k)) where
  -- an emission is laid out, with the registers of each lock and what each memory commits
  abbrev pub laid : IsLaid (line_pipe n.line) (locks_of l n em) (views_of l n em) (gates_of l n em) (moves_of l n em) em.d
  laid = record {
    stages = λ k low. stage_made l n em well k low (leaves k low);
    begins = begins_made l n em well;
    owns = λ m. own_of (some_at n.locks m);
    commits = commits_in em.d n.commits;
    twice = λ m low. refl;
    locks = goes_on l stays n em;
    arrays = λ m low once. (keeps_ad l n em).has_array (comb_place (line_pipe n.line) m) (em.layout.locked.has_array m low once);
    deep = λ m low free once.
        (keeps_ad l n em).depth (comb_place (line_pipe n.line) m) (em.layout.locked.has_array m low once) ∙ em.layout.locked.depth m low free once;
    advised = λ m low free once. advised_after l n em m low free once ∙ advised_as l n em m;
  }
