-- All names of a netlist that is finished from all nets of an accepted pipe.
use Rattle.std.proofs.Common.{◌≡◌, sym, subst, ℕ, List, ◌⊎◌, inl, inr, Result, Ok, Err, IfOk}
use Rattle.std.specs.Global.{Vec}
use Rattle.pdl_semantics.specs.Tree as tree
use Rattle.pdl_semantics.specs.Flatten.{flat}
use Rattle.pdl_form.specs.Form.{Form, form_of}
use Rattle.pdl_net.specs.declared.Net.{Net}
use Rattle.pdl_net.specs.declared.Netlist.{Netlist}
use Rattle.pdl_net.specs.Circuit.{Circuit, circuit_of}
use Rattle.pdl_net.specs.Signal.{Signal}
use Rattle.pdl_net.specs.Meaning.{signal}
use Rattle.pdl_law_parts.specs.Walk.{Locks}
use Rattle.pdl_law_parts.specs.Views.{View}
use Rattle.pdl_pipe_walk.specs.Locked.{Members}
use Rattle.pdl_pipe_registers.proofs.Lists.{each_map}
use Rattle.pdl_pipe_nexts.specs.declared.line.StageLine.{StageLine}
use Rattle.pdl_pipe_nexts.specs.Lines.{line_pipe, line_views, line_moves}
use Rattle.pdl_pipe_nexts.proofs.LineGrowth.{views_same, all_moves_same}
use Rattle.pdl_pipe_emitted.specs.Emitted.{views_of, moves_of}
use Rattle.pdl_pipe_emitted.proofs.LaidGrowth.{keeps_cd}
use Rattle.pdl_pipe.specs.declared.names.Role.{Role}
use Rattle.pdl_pipe.specs.declared.names.Role.TheVariants.{Holds, Moves, Keeps, Ends, Guess}
use Rattle.pdl_pipe.specs.declared.names.NamedNet.{NamedNet}
use Rattle.pdl_pipe.specs.Emitted.{IsEmitted}
use Rattle.pdl_pipe.specs.Names.{IsLive, IsName, IsNamed, IsPassed, AreAllNames}
use Rattle.pdl_pipe.specs.NamedNets.{IsSignalOf, IsNamedIn, IsPassedIn, MeansRole, AreNamedIn, IsNamedEmitted}
use Rattle.pdl_pipe.proofs.ShownNames.{IsSeenAlways, shows_role}

-- nets of one form in one circuit, with their names, are nets of the same form in the same circuit
pub named_as : {T : Type 0} (l : Members T) (b c : Circuit) (f g : Form) (names : List NamedNet) → b ≡ c → f ≡ g
    → IsNamedEmitted l b f names → IsNamedEmitted l c g names
named_as l b c f g names same is h =
    subst (λ (y : Circuit). IsNamedEmitted l y g names) same (subst (λ (e : Form). IsNamedEmitted l b e names) is h)

-- where all nets are emitted, and there is memory for their names, they are emitted with these
pub named_emitted : {T E : Type 0} (l : Members T) (c : Circuit) (f : Form) (h : IsEmitted l c f) (r : Result (Vec NamedNet) E)
    → IfOk r (λ ns. AreNamedIn c h.nets.line ns.items) → IfOk r (λ ns. IsNamedEmitted l c f ns.items)
named_emitted l c f h (Ok ns) named = record { emitted = h; named = named }
named_emitted l c f h (Err e) named = tt

module _ {T : Type 0} (l : Members T) (p : tree.Pipe) (n : Netlist) (emitted : IsEmitted l (circuit_of n) (form_of p)) (ls : Locks)
    (always : IsSeenAlways p n ls (views_of l emitted.nets emitted.emission) (moves_of l emitted.nets emitted.emission)) where
  abbrev x : StageLine
  x = emitted.nets.line

  abbrev vs : ℕ → View
  vs = views_of l emitted.nets emitted.emission

  abbrev moves : ℕ → Signal
  moves = moves_of l emitted.nets emitted.emission

  views_are : line_views (circuit_of n) x ≡ vs
  views_are =
      subst (λ (d : Circuit). line_views d x ≡ vs) emitted.whole
      (views_same emitted.emission.c emitted.emission.d x (keeps_cd l emitted.nets emitted.emission) emitted.emission.line)

  moves_are : line_moves (circuit_of n) x ≡ moves
  moves_are =
      subst (λ (d : Circuit). line_moves d x ≡ moves) emitted.whole
      (all_moves_same emitted.emission.c emitted.emission.d x (keeps_cd l emitted.nets emitted.emission) emitted.emission.line)

  -- what a net means in the finished circuit it means among the signals of the law
  means_same : (role : Role) (y : Net) → MeansRole (circuit_of n) x role y → IsSignalOf vs moves role (signal (circuit_of n) y)
  means_same role y e =
      subst (λ (ms : ℕ → Signal). IsSignalOf vs ms role (signal (circuit_of n) y)) moves_are
      (subst (λ (us : ℕ → View). IsSignalOf us (line_moves (circuit_of n) x) role (signal (circuit_of n) y)) views_are e)

  live_same : (role : Role) → IsLive (line_pipe x) role → IsLive (flat p) role
  live_same role live = subst (λ (f : Form). IsLive f.pipe role) emitted.form_is live

  live_back : (role : Role) → IsLive (flat p) role → IsLive (line_pipe x) role
  live_back role live = subst (λ (f : Form). IsLive f.pipe role) (sym emitted.form_is) live

  one_name : (y : NamedNet) → IsNamedIn (circuit_of n) x y → IsName p n y
  one_name y it = record {
    there = it.there;
    live = live_same y.role it.live;
    shows = shows_role p n ls vs moves always y.role y.net (live_same y.role it.live) (means_same y.role y.net it.means);
  }

  -- the nets that are named show what they are named for, and the stages have all names that they may have
  pub all_names : (names : List NamedNet) → AreNamedIn (circuit_of n) x names → AreAllNames p n names
  all_names names named = record {
    each = each_map (IsNamedIn (circuit_of n) x) (IsName p n) names one_name named.each;
    holds = λ k live. (named.stages k (live_back (Holds k) live)).holds;
    moves = λ k live. (named.stages k (live_back (Moves k) live)).moves;
    keeps = λ k v live. let back = live_back (Keeps k v) live in ((named.stages k back.0).vars v back).keeps;
    ends = λ k v live. let back = live_back (Keeps k v) live in ends_of k v live ((named.stages k back.0).vars v back).ends;
    guess = λ k i live. let back = live_back (Guess k i) live in (named.stages k back.0).guess i back;
  }
    where
      ends_of : (k v : ℕ) → IsLive (flat p) (Ends k v) → IsNamed names (Ends k v) ⊎ IsPassedIn (circuit_of n) x names k v
          → IsNamed names (Ends k v) ⊎ IsPassed p n names k v
      ends_of k v live (inl h) = inl h
      ends_of k v live (inr h) = inr (h.0, h.1, shows_role p n ls vs moves always (Ends k v) h.0 live (means_same (Ends k v) h.0 h.2))
