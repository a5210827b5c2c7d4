-- The text of a view: in each cycle, where the threads stand in the stages of a pipe's machine, and which of them move.
use Rattle.std.specs.Prelude.{ℕ, List, map}
use Rattle.pdl_semantics.specs.Tree.{Pipe}
use Rattle.pdl_semantics.specs.Flatten.{flat}
use Rattle.pdl_semantics.specs.Lines.{view_lines}
use Rattle.pdl_machine_facts.specs.Ports.{delayed_count, replies_of}

-- the text of a view of the stated machine of a pipe from this image, with the reply bits of each cycle
abbrev pub view_text : Pipe → List (List ℕ) → List ℕ → List ℕ
view_text p image schedule = view_lines p image (map (replies_of (delayed_count (flat p))) schedule)
