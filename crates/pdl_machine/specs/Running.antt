-- A running machine, as callers see it.
use Rattle.std.specs.Prelude.{◌≡◌, ℕ, Bool, List, Option}
use Rattle.pdl_semantics.specs.Flat as flat
use Rattle.pdl_semantics.specs.Flat.{arrays_of}
use Rattle.pdl_semantics.specs.Flatten as flatten
use Rattle.pdl_semantics.specs.Machine.{Thread, Pending, Request, State}
use Rattle.pdl_semantics.specs.Cycle as stated
use Rattle.pdl_syntax_tree.specs.declared.tree.Pipe as r_pipe
use Rattle.pdl_syntax_tree.specs.View.{pipe_view}
use Rattle.pdl_machine_facts.specs.Ports.{delayed_count, replies_of}

-- its pipe; the thread in each stage; of each memory the words, the pending writes and the request; of each fork the branches of those inside; the next thread's number; how many cycles were run; what the ports showed in the last one, and whether it was a wait
pub record Running : Type 0 where
  pub pipe : r_pipe.Pipe
  pub stages : List (Option Thread)
  pub words : List (List ℕ)
  pub locks : List (List Pending)
  pub forks : List (List Bool)
  pub requests : List Request
  pub next : ℕ
  pub cycles : ℕ
  pub shown : List ℕ
  pub waited : Bool

-- the flat form of its pipe
abbrev pub flat_of : Running → flat.Pipe
flat_of r = flatten.flat (pipe_view r.pipe)

-- the state of a running machine
abbrev pub state_of : Running → State
state_of r =
    record {
      stages = r.stages;
      arrays = arrays_of r.words;
      locks = r.locks;
      forks = r.forks;
      requests = r.requests;
      next = r.next;
    }

-- the replies of a cycle with these bits, one for each delayed memory
abbrev pub replies_to : Running → ℕ → List Bool
replies_to r bits = replies_of (delayed_count (flat_of r)) bits

-- the state of a running machine is the one to which the stated machine comes from this image with these replies
abbrev pub HasRun : Running → List (List ℕ) → List (List Bool) → Type 0
HasRun r image schedule = state_of r ≡ stated.state_after (flat_of r) (stated.first (flat_of r) (arrays_of image)) schedule
