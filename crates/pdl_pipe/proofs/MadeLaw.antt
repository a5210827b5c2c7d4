-- A circuit that all nets of a form are emitted into keeps the law of a netlist.
use Rattle.std.proofs.Common.{◌≡◌, refl, sym, subst, ℕ, ◌<◌, true, false, List, length, map}
use Rattle.std.specs.Prelude.{Option}
use Rattle.pdl_semantics.specs.Flat.{Pipe, is_delayed}
use Rattle.pdl_semantics.specs.Stages.{mem_at}
use Rattle.pdl_form.specs.Form.{Form}
use Rattle.pdl_net.specs.Circuit.{Circuit, shapes_of}
use Rattle.pdl_net.specs.Signal.{Signal}
use Rattle.pdl_net.specs.Growth.{ExtendsPorts}
use Rattle.pdl_net.specs.Well.{IsWell}
use Rattle.pdl_lockapi.specs.declared.LockNets.{LockNets}
use Rattle.pdl_law_parts.specs.Walk.{Locks, is_locked}
use Rattle.pdl_law_parts.specs.Views.{View, Gates}
use Rattle.pdl_law_parts.specs.Ports.{step_of}
use Rattle.pdl_law_parts.specs.Places.{comb_place}
use Rattle.pdl_law_parts.specs.Compiled.{port_in}
use Rattle.pdl_law_parts.specs.DeclaredMems.{AreBitsWide}
use Rattle.pdl_law_sides.specs.Sides.{Sides}
use Rattle.pdl_law_sides.specs.WholeNetlist.{IsWhole}
use Rattle.pdl_pipe_walk.specs.declared.locks.MemLock.{MemLock}
use Rattle.pdl_pipe_walk.specs.Locked.{Members, locks_in, AreLocked}
use Rattle.pdl_pipe_nexts.specs.Lines.{line_form, line_pipe}
use Rattle.pdl_pipe_locks.specs.Suited.{shapes_in}
use Rattle.pdl_pipe_locks.specs.Lawful.{AreLawful}
use Rattle.pdl_pipe_locks.specs.Stepped.{AreStepped, commits_in}
use Rattle.pdl_pipe_locks.proofs.LockGrowth.{Stays}
use Rattle.pdl_pipe_locks.proofs.Law.{BothFit}
use Rattle.pdl_pipe_ports.specs.declared.outputs.ShownNets.{ShownNets}
use Rattle.pdl_pipe_ports.specs.declared.outputs.OutNet.{OutNet}
use Rattle.pdl_pipe_ports.specs.ToldOutputs.{asks_in, output_of, OutsThere, ShowAll}
use Rattle.pdl_pipe_emitted.specs.Emitted.{Nets, Emission, name_in, locks_of, views_of, moves_of, gates_of, sides_of}
use Rattle.pdl_pipe_emitted.proofs.LaidNetlist.{laid}
use Rattle.pdl_pipe_emitted.proofs.LaidLocks.{locks_made, locked_made, lawful_made, stepped_made, starts_lock, fits_at}
use Rattle.pdl_pipe_emitted.proofs.LaidWidths.{bits_wide}
use Rattle.pdl_pipe_emitted.proofs.SidesHeld.{has_sides}
use Rattle.pdl_pipe_emitted.proofs.SidesLeaves.{leaves}
use Rattle.pdl_pipe.specs.Emitted.{AreShownOf, IsEmitted}
use Rattle.pdl_pipe.proofs.MadeOutputs.{shown_made, ports_made, shapes_made}
use Rattle.pdl_pipe.proofs.MadeRequests.{outside, request_one, fits_outside}

-- a circuit that keeps the law with these locks, whose steps have these nets: the widths of what it shows, the places and shapes of its arrays, and its locks, whose commits it shows
pub record KeepsLaw {T : Type 0} (l : Members T) (f : Form) (names : ℕ → List ℕ) (ls : Locks) (vs : ℕ → View) (gates : Gates) (moves : ℕ → Signal)
    (sides : Sides) (d : Circuit) (locks : List (Option (MemLock T))) (nets : List (Option LockNets)) : Type 1 where
  pub compiled : IsWhole f.pipe names ls vs gates moves sides d
  pub wide : AreBitsWide vs gates moves (length f.pipe.stages)
  pub commits : (m : ℕ) → is_locked f.pipe m ≡ true → BothFit (mem_at f.pipe m) (compiled.laid.commits m)
  pub requests : (m : ℕ) → m < length f.pipe.mems → is_delayed (mem_at f.pipe m).kind ≡ true → (compiled.asks m).enable.width ≡ 1
  pub in_order : (m : ℕ) → m < length f.pipe.mems → is_delayed (mem_at f.pipe m).kind ≡ false → ls.array m ≡ comb_place f.pipe m
  pub shapes : shapes_of d ≡ shapes_in f.names f.pipe.mems
  pub locked : AreLocked l d f.pipe locks
  pub lawful : AreLawful l d f.pipe locks
  pub stepped : AreStepped l d f.pipe (step_of f.pipe vs gates moves) locks nets (length f.pipe.mems)
  pub told : compiled.laid.commits ≡ commits_in d nets

-- ---- of an emission

module _ {T : Type 0} (l : Members T) (stays : Stays l) (n : Nets T) (em : Emission l n) (well : IsWell em.d)
    (stages : List ShownNets) (shown_of : AreShownOf n.line stages) (outs : List OutNet) (there : OutsThere em.i outs)
    (ports : ExtendsPorts em.i em.d (map (port_in em.i) (map output_of outs)))
    (shown : ShowAll em.i (line_form n.line) stages n.moves.squash n.commits n.requests outs) where
  abbrev p : Pipe
  p = line_pipe n.line

  abbrev f : Form
  f = line_form n.line

  abbrev vs : ℕ → View
  vs = views_of l n em

  abbrev gates : Gates
  gates = gates_of l n em

  abbrev moves : ℕ → Signal
  moves = moves_of l n em

  abbrev sides : Sides
  sides = sides_of l n em

  abbrev whole : IsWhole p (name_in f) (locks_of l n em) vs gates moves sides em.d
  whole = record {
    laid = laid l stays n em well (leaves l n em well);
    starts = starts_lock l stays n em;
    beside = has_sides l n em;
    asks = asks_in em.d n.requests;
    outside = outside l n em;
    fits = λ m low delayed. fits_outside l n em m low delayed stays;
    outs = map output_of outs;
    ports = ports_made l n em outs there ports;
    shown = shown_made l n em stages shown_of outs there shown;
  }

  emitted_keeps : KeepsLaw l f (name_in f) (locks_in l p em.d n.locks) vs gates moves sides em.d n.locks n.commits
  emitted_keeps =
      subst (λ (ls : Locks). KeepsLaw l f (name_in f) ls vs gates moves sides em.d n.locks n.commits) (sym (locks_made l stays n em))
      (record {
        compiled = whole;
        wide = bits_wide l n em;
        commits = fits_at l stays n em;
        requests = request_one l n em;
        in_order = λ m low once. refl;
        shapes = shapes_made l n em;
        locked = locked_made l stays n em;
        lawful = lawful_made l stays n em;
        stepped = stepped_made l stays n em;
        told = refl;
      })

-- ---- of all nets of a form

module _ {T : Type 0} (l : Members T) (stays : Stays l) (c : Circuit) (f : Form) (h : IsEmitted l c f) (well : IsWell c) where
  abbrev n : Nets T
  n = h.nets

  abbrev em : Emission l h.nets
  em = h.emission

  abbrev KeepsIt : Form → Circuit → Type 1
  KeepsIt g d =
      KeepsLaw l g (name_in g) (locks_in l g.pipe d n.locks) (views_of l n em) (gates_of l n em) (moves_of l n em) (sides_of l n em) d n.locks n.commits

  -- the circuit keeps the law of a netlist, with the nets of the form that were emitted into it
  pub keeps_law : KeepsIt f c
  keeps_law =
      subst (λ (g : Form). KeepsIt g c) h.form_is
      (subst (λ (d : Circuit). KeepsIt (line_form n.line) d) h.whole
      (emitted_keeps l stays n em (subst IsWell (sym h.whole) well) h.stages h.are_shown h.outs h.there
      (subst (λ (d : Circuit). ExtendsPorts em.i d (map (port_in em.i) (map output_of h.outs))) (sym h.whole) h.ports)
      (subst (λ (g : Form). ShowAll em.i g h.stages n.moves.squash n.commits n.requests h.outs) (sym h.form_is) h.shown)))
