-- The outputs of a netlist that is emitted: they show in it what they were told.
use Rattle.std.proofs.Common.{◌≡◌, refl, sym, ap, ap₂, ◌∙◌, ℕ, ◌<◌, ◌≤◌, ◌⊎◌, inl, inr, List, [], ◌∷◌, ◌++◌, map, length, arith}
use mathlib.Core.Path.{fun_ext}
use Rattle.std.specs.Prelude.{Option, Some, None, is_some}
use Rattle.std.proofs.lemmas.Bool.{cases_lt, false≢true}
use Rattle.std.proofs.lemmas.List.{get_or_past, get_or-map}
use Rattle.pdl_semantics.specs.Flat.{Mem, Pipe}
use Rattle.pdl_semantics.specs.Stages.{mem_at}
use Rattle.pdl_form.specs.Form.{Form}
use Rattle.pdl_net.specs.declared.Net.{Net}
use Rattle.pdl_net.specs.declared.Net.TheVariants.{Reg as RegNet}
use Rattle.pdl_net.specs.declared.Dir.TheVariants.{Out}
use Rattle.pdl_net.specs.declared.Port.{Port}
use Rattle.pdl_net.specs.Circuit.{Circuit, shapes_of}
use Rattle.pdl_net.specs.Signal.{Signal, no_signal}
use Rattle.pdl_net.specs.Meaning.{signal}
use Rattle.pdl_net.specs.Growth.{Keeps, ExtendsPorts}
use Rattle.pdl_net.proofs.Keeps.{keeps_trans}
use Rattle.pdl_lockapi.specs.declared.LockNets.{LockNets}
use Rattle.pdl_law_parts.specs.Views.{View, Gates}
use Rattle.pdl_law_parts.specs.Ports.{Shown, Commit, Commits}
use Rattle.pdl_law_parts.specs.Compiled.{port_in}
use Rattle.pdl_law_sides.specs.WholeNetlist.{Request, reply_ports, whole_shown}
use Rattle.pdl_pipe_walk.specs.declared.locks.MemLock.{MemLock}
use Rattle.pdl_pipe_walk.specs.Locked.{Members, some_at}
use Rattle.pdl_pipe_beside.specs.declared.outside.RequestNets.{RequestNets}
use Rattle.pdl_pipe_registers.proofs.Lists.{view_at, some_stage}
use Rattle.pdl_pipe_nexts.specs.Lines.{line_form, line_pipe}
use Rattle.pdl_pipe_nexts.proofs.LineGrowth as lines
use Rattle.pdl_pipe_locks.specs.Stepped.{FitsMemory, commit_of, commits_in}
use Rattle.pdl_pipe_locks.specs.Suited.{shapes_in}
use Rattle.pdl_pipe_ports.specs.declared.outputs.ShownNets.{ShownNets}
use Rattle.pdl_pipe_ports.specs.declared.outputs.OutNet.{OutNet}
use Rattle.pdl_pipe_ports.specs.ToldOutputs.{ask_of, asks_in, output_of, shown_by, valid_in, moves_in, AreOf, OutsThere, ShowAll}
use Rattle.pdl_pipe_emitted.specs.Emitted.{Nets, Emission, name_in, views_of, moves_of, gates_of}
use Rattle.pdl_pipe_emitted.proofs.LaidGrowth.{keeps_bc, keeps_cd, keeps_ch, keeps_hi}
use Rattle.pdl_pipe_emitted.proofs.SidesStages.{some_of, at_signal}
use Rattle.pdl_pipe.specs.Emitted.{AreShownOf}

-- ---- nets that are there show what they showed, and their ports are the same

shown_kept : (a c : Circuit) (os : List OutNet) → Keeps a c → OutsThere a os → shown_by c os ≡ shown_by a os
shown_kept a c [] k h = refl
shown_kept a c (o ∷ os) k h =
    ap₂ (λ (f : Signal) (rest : List Shown). record { name = o.name; signal = f } ∷ rest) (k.kept o.net h.0) (shown_kept a c os k h.1)

ports_kept : (a c : Circuit) (os : List OutNet) → Keeps a c → OutsThere a os
    → map (port_in c) (map output_of os) ≡ map (port_in a) (map output_of os)
ports_kept a c [] k h = refl
ports_kept a c (o ∷ os) k h =
    ap₂ (λ (f : Signal) (rest : List Port). record { name = o.name; width = f.width; dir = Out o.net } ∷ rest) (k.kept o.net h.0) (ports_kept a c os k h.1)

abbrev commit_by : Circuit → Net → Net → Net → Commit
commit_by c commit addr value = record { enable = signal c commit; addr = signal c addr; value = signal c value }

-- so do the nets of a commit
commit_kept : (a c : Circuit) (mem : Mem) (commit addr value : Net) → Keeps a c → FitsMemory a mem commit addr value
    → commit_by c commit addr value ≡ commit_by a commit addr value
commit_kept a c mem commit addr value k h =
    ap₂ (λ (q : Signal) (r : Signal × Signal). (let z : Commit = record { enable = q; addr = r.0; value = r.1 } in z))
    (k.kept commit h.commit.there)
    (ap₂ (λ (q r : Signal). (q, r)) (k.kept addr h.addr_there) (k.kept value h.value.there))

module _ {T : Type 0} (l : Members T) (n : Nets T) (em : Emission l n) where
  abbrev p : Pipe
  p = line_pipe n.line

  abbrev f : Form
  f = line_form n.line

  abbrev vs : ℕ → View
  vs = views_of l n em

  abbrev gates : Gates
  gates = gates_of l n em

  abbrev moves : ℕ → Signal
  moves = moves_of l n em

  keeps_ci : Keeps em.c em.i
  keeps_ci = keeps_trans em.c em.h em.i (keeps_ch l n em) (keeps_hi l n em)

  -- ---- what memories commit, and what is asked of the delayed ones

  commits_same : commits_in em.d n.commits ≡ commits_in em.i n.commits
  commits_same = fun_ext (λ m. at m (cases_lt m (length p.mems)))
    where
      by : (m : ℕ) → m < length p.mems → (o : Option LockNets) → some_at n.commits m ≡ o → (y : Option (MemLock T)) → some_at n.locks m ≡ y
          → commit_of em.d o ≡ commit_of em.i o
      by m low None e y g = refl
      by m low (Some x) e None g = absurd (false≢true (ap is_some (sym g) ∙ sym (em.stepped.each m low).has ∙ ap is_some e))
      by m low (Some x) e (Some y) g =
          let it = (em.stepped.each m low).lock y x g e in
          ap₂ (λ (q r : Commit). (let z : Commits = record { first = q; second = r } in z))
          (commit_kept em.i em.d (mem_at p m) x.commit x.addr x.value em.keeps it.nets)
          (commit_kept em.i em.d (mem_at p m) x.commit2 x.addr2 x.value2 em.keeps it.nets2)

      at : (m : ℕ) → (m < length p.mems) ⊎ (length p.mems ≤ m) → commits_in em.d n.commits m ≡ commits_in em.i n.commits m
      at m (inl low) = by m low (some_at n.commits m) refl (some_at n.locks m) refl
      at m (inr high) =
          let count = em.stepped.count in
          let past : some_at n.commits m ≡ None = get_or_past n.commits m None (omega (arith, high, count)) in
          ap (commit_of em.d) past ∙ ap (commit_of em.i) (sym past)

  asks_same : asks_in em.d n.requests ≡ asks_in em.i n.requests
  asks_same = fun_ext (λ m. at m (cases_lt m (length p.mems)))
    where
      by : (m : ℕ) → m < length p.mems → (o : Option RequestNets) → some_at n.requests m ≡ o → ask_of em.d o ≡ ask_of em.i o
      by m low None e = refl
      by m low (Some x) e =
          let it = (em.asked.each m low).asks x e in
          let after = keeps_ci in
          let later = keeps_cd l n em in
          ap₂ (λ (q r : Signal). (let z : Request = record { enable = q; addr = r } in z))
          (later.kept x.enable it.enable_bit.there ∙ sym (after.kept x.enable it.enable_bit.there))
          (later.kept x.addr it.addr_there ∙ sym (after.kept x.addr it.addr_there))

      at : (m : ℕ) → (m < length p.mems) ⊎ (length p.mems ≤ m) → asks_in em.d n.requests m ≡ asks_in em.i n.requests m
      at m (inl low) = by m low (some_at n.requests m) refl
      at m (inr high) =
          let count = em.asked.count in
          let past : some_at n.requests m ≡ None = get_or_past n.requests m None (omega (arith, high, count)) in
          ap (ask_of em.d) past ∙ ap (ask_of em.i) (sym past)

  -- ---- the outputs are told of these stages

  module _ (stages : List ShownNets) (shown_of : AreShownOf n.line stages) where
    valid_same : (k : ℕ) → k < length stages → (vs k).valid ≡ valid_in em.i stages k
    valid_same k low =
        let count = shown_of.count in
        let inside : k < length n.line.stages.now = omega (arith, low, count) in
        let (s, is) = some_stage n.line.stages.now k inside in
        let (y, here) = some_of stages k low in
        let reg = (em.line.stages k s inside is).registers.valid in
        ap (λ (v : View). v.valid) (view_at em.c n.line.stages.now k s inside is)
        ∙ sym reg.same
        ∙ sym (keeps_ci.kept (RegNet s.regs.valid) reg.there)
        ∙ ap (signal em.i) (sym (shown_of.valid k s y low is here))
        ∙ sym (get_or-map (λ (z : ShownNets). signal em.i z.valid) stages k y no_signal low ∙ ap (λ (z : ShownNets). signal em.i z.valid) here)

    moves_same : (k : ℕ) → k < length stages → moves k ≡ moves_in em.i stages k
    moves_same k low =
        let count = shown_of.count in
        let as_many = em.line.moves_count in
        let inside : k < length n.line.moves.now = omega (arith, low, count, as_many) in
        let (z, is) = some_of n.line.moves.now k inside in
        let (y, here) = some_of stages k low in
        sym (lines.moves_same em.c em.i n.line keeps_ci em.line k)
        ∙ sym (at_signal em.i n.line.moves.now k z inside is)
        ∙ ap (signal em.i) (sym (shown_of.moves k z y low is here))
        ∙ sym (get_or-map (λ (z : ShownNets). signal em.i z.moves) stages k y no_signal low ∙ ap (λ (z : ShownNets). signal em.i z.moves) here)

    are_of : AreOf em.i stages n.moves.squash f.names vs gates moves (name_in f)
    are_of = record {
      valid = valid_same;
      moves = moves_same;
      squash = sym ((keeps_trans em.b em.c em.i (keeps_bc l n em) keeps_ci).kept n.moves.squash em.moved.squash.there);
      names = λ m low. refl;
    }

    -- the outputs show the whole netlist, as its law asks
    pub shown_made : (outs : List OutNet) → OutsThere em.i outs → ShowAll em.i f stages n.moves.squash n.commits n.requests outs
        → shown_by em.d outs ≡ whole_shown p (name_in f) (commits_in em.d n.commits) (asks_in em.d n.requests) vs gates moves
    shown_made outs there shown =
        shown_kept em.i em.d outs em.keeps there
        ∙ shown vs gates moves (name_in f) are_of
        ∙ sym (ap₂ (λ (g : ℕ → Commits) (q : ℕ → Request). whole_shown p (name_in f) g q vs gates moves) commits_same asks_same)

  -- ---- ports and arrays

  -- the ports are the inputs first, then the outputs
  pub ports_made : (outs : List OutNet) → OutsThere em.i outs → ExtendsPorts em.i em.d (map (port_in em.i) (map output_of outs))
      → em.d.ports ≡ reply_ports (name_in f) 0 p.mems ++ map (port_in em.d) (map output_of outs)
  ports_made outs there added =
      added.ports
      ∙ ap (λ (ps : List Port). ps ++ map (port_in em.i) (map output_of outs))
      (em.to_locks.ports
      ∙ em.to_advice.ports
      ∙ em.to_orders.ports
      ∙ em.to_ports.ports
      ∙ em.to_tails.ports
      ∙ em.to_nexts.ports
      ∙ em.to_requests.ports
      ∙ em.to_moves.ports
      ∙ em.layout.inputs)
      ∙ ap (λ (ps : List Port). reply_ports (name_in f) 0 p.mems ++ ps) (sym (ports_kept em.i em.d outs em.keeps there))

  -- the arrays are those of the pipe's memories
  pub shapes_made : shapes_of em.d ≡ shapes_in f.names p.mems
  shapes_made =
      em.shapes
      ∙ em.to_locks.shapes
      ∙ em.to_advice.shapes
      ∙ em.to_orders.shapes
      ∙ em.to_ports.shapes
      ∙ em.to_tails.shapes
      ∙ em.to_nexts.shapes
      ∙ em.to_requests.shapes
      ∙ em.to_moves.shapes
      ∙ em.layout.shapes
