-- The netlist that is finished from all nets of an accepted pipe follows the pipe, and has its locks.
use Rattle.std.proofs.Common.{◌≡◌, refl, ◌∙◌, subst, ℕ, true, List, map}
use mathlib.Core.Path.{fun_ext}
use Rattle.std.specs.Prelude.{Option}
use Rattle.pdl_semantics.specs.Tree as tree
use Rattle.pdl_semantics.specs.Flatten.{flat}
use Rattle.pdl_rules.specs.Refusal.{KeepsRules}
use Rattle.pdl_source_paths.specs.Source.{is_source, is_named}
use Rattle.pdl_form.specs.Form.{form_of}
use Rattle.pdl_net.specs.declared.Netlist.{Netlist}
use Rattle.pdl_net.specs.Circuit.{circuit_of, shape_of, shapes_of}
use Rattle.pdl_net.specs.Signal.{Signal}
use Rattle.pdl_net.specs.Well.{IsWell}
use Rattle.pdl_law_parts.specs.Walk.{Locks}
use Rattle.pdl_law_parts.specs.Views.{View, Gates}
use Rattle.pdl_law_parts.specs.Ports.{Commits}
use Rattle.pdl_law_parts.specs.Compiled.{shown_in}
use Rattle.pdl_law_parts.specs.DeclaredMems.{mem_names}
use Rattle.pdl_law_sides.specs.Sides.{Sides}
use Rattle.pdl_law_sides.specs.WholeNetlist.{whole_shown}
use Rattle.pdl_pipe_walk.specs.declared.locks.MemLock.{MemLock}
use Rattle.pdl_pipe_walk.specs.Locked.{Members, locks_in}
use Rattle.pdl_pipe_locks.proofs.LockGrowth.{Stays}
use Rattle.pdl_law_follows.specs.Follows.{Follows, IsMade}
use Rattle.pdl_law_follows.specs.Memories.{net_infos}
use Rattle.pdl_law_follows.proofs.FollowsMade.{follows}
use Rattle.pdl_pipe_emitted.proofs.LockRuns.{stages_made, stands_made, seen_made}
use Rattle.pdl_pipe_emitted.proofs.LockCycles.{used_locks}
use Rattle.pdl_pipe_emitted.specs.Emitted.{views_of, moves_of, gates_of, sides_of}
use Rattle.pdl_pipe.specs.Emitted.{IsEmitted}
use Rattle.pdl_pipe.specs.Locks.{HasLocks}
use Rattle.pdl_pipe.specs.declared.names.NamedNet.{NamedNet}
use Rattle.pdl_pipe.specs.Names.{AreAllNames}
use Rattle.pdl_pipe.specs.NamedNets.{AreNamedIn}
use Rattle.pdl_pipe.proofs.MadeMemories.{same_names, same_shapes, commits_fit}
use Rattle.pdl_pipe.proofs.MadeLaw.{KeepsLaw, keeps_law}
use Rattle.pdl_pipe.proofs.ShownNames.{IsSeenAlways}
use Rattle.pdl_pipe.proofs.MadeNames.{all_names}

shapes_listed : (n : Netlist) → map shape_of n.arrays ≡ shapes_of (circuit_of n)
unfolding shapes_of
shapes_listed n = refl

module _ {T : Type 0} (l : Members T) (stays : Stays l) (p : tree.Pipe) (n : Netlist) (emitted : IsEmitted l (circuit_of n) (form_of p))
    (name : n.name ≡ p.name.name) (mems : n.mems ≡ net_infos p.mems) (well : IsWell (circuit_of n)) where
  abbrev locks : List (Option (MemLock T))
  locks = emitted.nets.locks

  abbrev ls : Locks
  ls = locks_in l (flat p) (circuit_of n) locks

  abbrev vs : ℕ → View
  vs = views_of l emitted.nets emitted.emission

  abbrev gates : Gates
  gates = gates_of l emitted.nets emitted.emission

  abbrev moves : ℕ → Signal
  moves = moves_of l emitted.nets emitted.emission

  abbrev sides : Sides
  sides = sides_of l emitted.nets emitted.emission

  law : KeepsLaw l (form_of p) (mem_names p.mems) ls vs gates moves sides (circuit_of n) locks emitted.nets.commits
  law =
      subst (λ (names : ℕ → List ℕ). KeepsLaw l (form_of p) names ls vs gates moves sides (circuit_of n) locks emitted.nets.commits)
      (fun_ext (same_names p.mems))
      (keeps_law l stays (circuit_of n) (form_of p) emitted well)

  made : IsMade p ls vs gates moves sides n
  made = record {
    name = name;
    compiled = law.compiled;
    well = well;
    wide = law.wide;
    commits = commits_fit law.compiled.laid.commits p.mems law.commits;
    requests = law.requests;
    in_order = law.in_order;
    mems = mems;
    arrays = shapes_listed n ∙ law.shapes ∙ same_shapes p.mems;
  }

  module _ (rules : KeepsRules p) (source : is_source p ≡ true) (named : is_named p ≡ true) where
    -- the netlist follows the pipe, where that is accepted
    pub follows_made : Follows p n
    follows_made = follows p rules source named ls vs gates moves sides n made

    -- in each cycle its stages are as the machine's, and its locks are used as the machine's threads use them
    pub locks_made : HasLocks l p n
    locks_made = record {
      locks = locks;
      locked = law.locked;
      lawful = law.lawful;
      views = vs;
      gates = gates;
      moves = moves;
      stages = law.compiled.laid.stages;
      commits = emitted.nets.commits;
      stepped = law.stepped;
      asks = law.compiled.asks;
      outs = law.compiled.outs;
      ports = law.compiled.ports;
      shown =
          subst
          (λ (cs : ℕ → Commits). map (shown_in (circuit_of n)) law.compiled.outs ≡ whole_shown (flat p) (mem_names p.mems) cs law.compiled.asks vs gates moves)
          law.told law.compiled.shown;
      alike = stages_made p rules source named ls vs gates moves sides n made;
      used = used_locks l p rules source named n (circuit_of n) locks law.locked.locked vs gates moves sides made;
    }

    always : IsSeenAlways p n ls vs moves
    always = record {
      stands = stands_made p rules source named ls vs gates moves sides n made;
      seen = seen_made p rules source named ls vs gates moves sides n made;
    }

    -- its nets that are named show what they are named for, and it has all names
    pub names_made : (names : List NamedNet) → AreNamedIn (circuit_of n) emitted.nets.line names → AreAllNames p n names
    names_made names in_line = all_names l p n emitted ls always names in_line
