-- A netlist that is made of a pipe is well formed, and has the ports of a pipe.
use Rattle.std.proofs.Common.{◌≡◌, ◌≢◌, inl, inr, ℕ, ◌+◌, ◌<◌, ◌≤◌, Bool, true, false, List, length, get_or, map, AllPairs, refl, sym, ap, ap₂, ◌∙◌, subst, arith}
use Rattle.std.specs.Prelude.{◌++◌}
use Rattle.std.specs.Option.{is_some}
use Rattle.std.specs.List.{list_all}
use Rattle.std.proofs.lemmas.List.{length-map, length-append, get_or-map, map-append}
use Rattle.std.proofs.lemmas.List.Elements.{All-from_get_or}
use Rattle.pdl_semantics.specs.Tree.{Mem}
use Rattle.pdl_semantics.specs.Flat.{Pipe, is_delayed}
use Rattle.pdl_semantics.specs.Flatten.{mems_of}
use Rattle.pdl_semantics.specs.SecondWrites.{reserves_twice}
use Rattle.pdl_rules.specs.Memories.{info_of}
use Rattle.pdl_rules.specs.Refusal.{answers_at_once}
use Rattle.pdl_rules.specs.Typed.{AreDistinct, AreSized}
use Rattle.pdl_net.specs.declared.Netlist.{Netlist}
use Rattle.pdl_net.specs.Circuit.{Shape, shape_of, circuit_of, no_array}
use Rattle.pdl_net.specs.Signal.{Signal}
use Rattle.pdl_net.specs.Well.{IsWell}
use Rattle.pdl_net.specs.Pipe.{IsAddress, IsPipeArray, IsKept, IsPipe, IsWellFormed, head_of, pipe_ports}
use Rattle.pdl_law_parts.specs.Walk.{Locks}
use Rattle.pdl_law_parts.specs.Views.{Gates, View}
use Rattle.pdl_law_parts.specs.DeclaredMems.{port_mem, locked_of, mem_names, shape_of_mem, CommitsFit, AreBitsWide}
use Rattle.pdl_law_parts.proofs.WellFormedNames.{Among, name_of_mem, all_pairs, mem_names_differ}
use Rattle.pdl_law_parts.proofs.WellFormedPorts.{heads_of, head_shown}
use Rattle.pdl_law_parts.proofs.WellFormedMems.{Reaches, reaches_all, sized_among, IsAddressed, addressed}
use Rattle.pdl_law_parts.proofs.WellFormedArrays.{name_of_array, array_names_are, array_mem, mem_array, locked_all}
use Rattle.pdl_law_sides.specs.Sides.{Sides}
use Rattle.pdl_law_sides.specs.WholeNetlist.{IsWhole, reply_ports}
use Rattle.pdl_law_follows.specs.Memories.{delayed_of, comb_of, net_infos}
use Rattle.pdl_law_follows.proofs.Memories.{among_some, some_among, distinct_some, comb_delayed, as_many}
use Rattle.pdl_law_follows.proofs.PortNames.{port_names_differ}
use Rattle.pdl_law_follows.proofs.Ports.{AreAsked, by_kinds, shown_heads, replies_heads, names_are}
use Rattle.pdl_law_follows.proofs.Arrays.{delayed_all, delayed_contained, pipe_array, agree_all, infos_same}

-- memories that keep the rules on names, sizes and number
pub record AreDeclared (ms : List Mem) : Type 0 where
  pub distinct : AreDistinct ms
  pub sized : AreSized ms
  pub reach : list_all (λ (m : Mem). Rattle.pdl_rules.specs.Limits.is_depth m.depth.value) ms ≡ true
  pub few : length ms ≤ 16

module _ (p : Pipe) (ms : List Mem) (declared : AreDeclared ms) (same : p.mems ≡ mems_of ms)
    (some : 1 ≤ length p.stages) (most : length p.stages ≤ 64) (ls : Locks) (vs : ℕ → View) (gates : Gates)
    (moves : ℕ → Signal) (sides : Sides) (n : Netlist)
    (well : IsWell (circuit_of n)) (made : IsWhole p (mem_names ms) ls vs gates moves sides (circuit_of n))
    (shapes : map shape_of n.arrays ≡ map shape_of_mem (comb_of ms))
    (wide : AreBitsWide vs gates moves (length p.stages)) (fit : CommitsFit made.laid.commits 0 ms)
    (asked : AreAsked made.asks 0 ms) (mems : n.mems ≡ net_infos ms) where
  -- whether some path reserves a memory twice for writing
  abbrev twice : ℕ → Bool
  twice m = reserves_twice m p.stmts

  reach : (m : Mem) → Among m ms → Reaches m
  reach m h = reaches_all ms declared.reach m h

  size : (m : Mem) → Among m ms → IsAddressed m
  size m h = addressed m (reach m h) (sized_among ms declared.sized m h)

  -- the ports of the netlist are those of a pipe with these stages, delayed memories and locked memories
  pub ports : map head_of n.ports ≡ pipe_ports (length p.stages) (map (port_mem false) (delayed_of ms)) (locked_of twice 0 ms)
  ports =
      ap (map head_of) made.ports
      ∙ map-append head_of (reply_ports (mem_names ms) 0 p.mems) _
      ∙ ap₂ (λ a b. a ++ b) (replies_heads p ms same)
      (heads_of (circuit_of n) made.outs ∙ ap (map head_shown) made.shown
      ∙ shown_heads p ms same some made.laid.commits made.asks vs gates moves wide reach fit asked)
      ∙ sym (by_kinds (length p.stages) (map (port_mem false) (delayed_of ms)) (locked_of twice 0 ms))

  array_fits : (k : ℕ) → k < length n.arrays → IsPipeArray (map (port_mem false) (delayed_of ms)) (locked_of twice 0 ms) (get_or n.arrays k no_array)
  array_fits k l =
      let w = array_mem n.arrays (comb_of ms) shapes k no_array l in
      let a = among_some answers_at_once ms w.0 w.1.among in
      pipe_array twice ms (get_or n.arrays k no_array) w.0 declared.distinct reach (size w.0 a.0) a.0 (comb_delayed w.0 a.1) w.1.shape

  kept : (t : Bool) (m : Mem) → Among m ms → IsKept (map (port_mem false) (delayed_of ms)) n.arrays (port_mem t m)
  kept t m h = at (is_delayed m.kind) refl
    where
      at : (b : Bool) → is_delayed m.kind ≡ b → IsKept (map (port_mem false) (delayed_of ms)) n.arrays (port_mem t m)
      at true e = inl (delayed_contained ms m h e)
      at false e =
          let w = mem_array n.arrays (comb_of ms) shapes m (some_among answers_at_once ms m h (ap Rattle.std.proofs.Common.not e)) no_array in
          let low : w.0 < length n.arrays = w.1 in
          let many = length-map n.arrays name_of_array in
          inr (w.0, omega arith, get_or-map name_of_array n.arrays w.0 no_array m.name.name w.1 ∙ ap (λ (x : Shape). x.name) w.2.shape)

  is_pipe : IsPipe n
  is_pipe = record {
    stages = length p.stages;
    delayed = map (port_mem false) (delayed_of ms);
    locked = locked_of twice 0 ms;
    few = some;
    many = most;
    ports = ports;
    delayed_addresses = delayed_all IsAddress ms (λ m h d. record { low = (size m h).low; high = (size m h).high });
    locked_addresses = locked_all IsAddress twice 0 ms (λ t m h. record { low = (size m h).low; high = (size m h).high });
    agree = agree_all twice ms declared.distinct;
    arrays = All-from_get_or (IsPipeArray (map (port_mem false) (delayed_of ms)) (locked_of twice 0 ms)) n.arrays no_array array_fits;
    kept = locked_all (IsKept (map (port_mem false) (delayed_of ms)) n.arrays) twice 0 ms kept;
    mems = mems ∙ infos_same twice n.arrays ms declared.distinct reach shapes;
    count =
        let few = declared.few in
        let all = ap length mems ∙ length-append (map info_of (delayed_of ms)) (map info_of (comb_of ms)) in
        let delayed = length-map (delayed_of ms) info_of in
        let comb = length-map (comb_of ms) info_of in
        let both = as_many ms in
        omega (arith, few, all, delayed, comb, both);
  }

  -- the netlist breaks none of the rules of netlists
  pub well_formed : IsWellFormed n
  well_formed = record {
    well = well;
    port_names =
        subst (AllPairs (λ a b. a ≢ b))
        (sym (names_are n.ports (length p.stages) (map (port_mem false) (delayed_of ms)) (locked_of twice 0 ms) ports))
        (all_pairs _ (port_names_differ (length p.stages) twice ms most declared.distinct));
    array_names =
        subst (AllPairs (λ a b. a ≢ b)) (sym (array_names_are n.arrays (comb_of ms) shapes))
        (all_pairs (map name_of_mem (comb_of ms)) (mem_names_differ (comb_of ms) (distinct_some answers_at_once ms declared.distinct)));
    pipe = is_pipe;
  }
