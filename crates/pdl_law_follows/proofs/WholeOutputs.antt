-- The outputs of a whole netlist have the values of the machine's ports, and by their names what it commits and asks.
use Rattle.std.proofs.Common.{◌≡◌, refl, sym, ap, ap₂, ◌∙◌, subst, ℕ, suc, ◌+◌, ◌-◌, ◌<◌, ◌≤◌, Bool, true, false, ◌&&◌, List, [], ◌∷◌, ◌++◌, length, map, codes, decimal, bytes_eq, Option, Some, None, is_some, arith, ◌==◌}
use Rattle.std.specs.Prelude.{if◌then◌else◌, slice_index, slice_index_or, filter_map}
use Rattle.std.proofs.lemmas.List.{map-append, length-map, length-take}
use Rattle.std.proofs.lemmas.List.Elements.{filter_map-append}
use Rattle.pdl_word.specs.Words.{bit}
use Rattle.pdl_semantics.specs.Flat.{Mem, Pipe, has_lock, is_delayed}
use Rattle.pdl_semantics.specs.Stages.{plain_mem, mem_at}
use Rattle.pdl_semantics.specs.Machine as machine
use Rattle.pdl_semantics.specs.Machine.{Pending}
use Rattle.pdl_semantics.specs.Cycle.{PortWrite, all_releases, list_two, for_mems, taken_out, port_writes, asked_in}
use Rattle.pdl_semantics.specs.SecondWrites.{reserves_twice, all_twice}
use Rattle.pdl_net.specs.Circuit.{Circuit, State, Output, port_output, outputs_of}
use Rattle.pdl_net.specs.Signal.{Signal}
use Rattle.pdl_net.specs.Cycle.{net_value, output_values}
use Rattle.pdl_net.specs.Run.{port_value, commit_of, commit2_of, request_of}
use Rattle.pdl_net.specs.Well.{Suits}
use Rattle.pdl_machine_facts.specs.Slots.{moving}
use Rattle.pdl_machine_facts.specs.Ports.{stage_values, commit_values, shown_values, second_values, all_commit_values}
use Rattle.pdl_machine_facts.specs.Cycle.{ports_of}
use Rattle.pdl_law_parts.specs.Walk.{Locks, is_locked}
use Rattle.pdl_law_parts.specs.Views.{View, Gates}
use Rattle.pdl_law_parts.specs.Ports.{Shown, Commit, Commits, stages_shown, commit_shown, commits_shown, shown_signal}
use Rattle.pdl_law_parts.specs.Served.{at_most}
use Rattle.pdl_law_parts.specs.Compiled.{shown_in, port_in}
use Rattle.pdl_law_parts.specs.Stands.{StandsFor, IsSeen, IsSquashed}
use Rattle.pdl_law_parts.proofs.AnsweredThreads.{stood}
use Rattle.pdl_law_parts.proofs.LinesNames.{name_of_output}
use Rattle.pdl_law_parts.proofs.LinesPorts.{named_value, port_is, flag_of, addr_of, word_of, later, shown_is, second_is, put_in, put_cases}
use Rattle.pdl_law_parts.proofs.Outputs.{shown_value, outputs_all, values_shown, stages_are, all_words, commits_are, commit_laid}
use Rattle.pdl_law_sides.specs.Sides.{Sides}
use Rattle.pdl_law_follows.specs.StandingStates.{IsLawful, IsKnown}
use Rattle.pdl_law_sides.specs.WholeNetlist.{Request, IsWhole, request_shown, requests_shown, whole_shown, reply_ports, request_values, all_request_values, whole_values}
use Rattle.pdl_law_follows.proofs.PortsNext.{address_or}
use Rattle.pdl_law_follows.proofs.Requests as requests
use Rattle.pdl_law_follows.proofs.OutputNames.{look, Apart, past_stages, pick, pick_at, pick_not, HasPort, commits_look, commits_pass, flag_port, addr_port, word_port, flag2_port, addr2_port, word2_port, flag_passes, addr_passes, requests_look, requests_pass}

-- the ports of replies are no outputs
no_outputs : (names : ℕ → List ℕ) (m : ℕ) (xs : List Mem) → filter_map port_output (reply_ports names m xs) ≡ []
no_outputs names m [] = refl
no_outputs names m (x ∷ xs) = at (is_delayed x.kind) (no_outputs names (suc m) xs)
  where
    at : (b : Bool) → filter_map port_output (reply_ports names (suc m) xs) ≡ []
        → filter_map port_output
        ((if b
        then record { name = codes "p_" ++ names m; width = 1; dir = Rattle.pdl_net.specs.declared.Dir.TheVariants.In }
        ∷ record { name = codes "pd_" ++ names m; width = x.width; dir = Rattle.pdl_net.specs.declared.Dir.TheVariants.In }
        ∷ []
        else [])
        ++ reply_ports names (suc m) xs)
        ≡ []
    at false e = e
    at true e = e

-- values by names
named_look : (c : Circuit) (s : State) (outs : List Output) (x : List ℕ)
    → named_value (map name_of_output outs) (map (shown_value s) (map (shown_in c) outs)) x ≡ look s (map (shown_in c) outs) x
named_look c s [] x = refl
named_look c s (o ∷ outs) x = ap (λ n. if bytes_eq o.name x then (shown_in c o).signal.value s else n) (named_look c s outs x)

-- a commit's signals show the first of these writes, where there is one
pub record ShowsPut (s : State) (x : Commit) (ws : List PortWrite) : Type 0 where
  pub flag : x.enable.value s ≡ flag_of ws
  pub addr : x.addr.value s ≡ addr_of ws
  pub word : x.value.value s ≡ word_of ws

-- where the signals of commits have the values of writes, the first shows the first of them, and the second the next one
puts_shown : (s : State) (x : Commits) (twice : Bool) (ws : List PortWrite)
    → (x.first.enable.value s ∷ x.first.addr.value s ∷ x.first.value.value s ∷ [])
    ++ (if twice then x.second.enable.value s ∷ x.second.addr.value s ∷ x.second.value.value s ∷ [] else [])
    ≡ shown_values ws ++ (if twice then second_values ws else [])
    → ShowsPut s x.first ws × (twice ≡ true → ShowsPut s x.second (later ws))
puts_shown s x twice ws h = (
  record {
    flag = ap (λ l. slice_index l 0) all;
    addr = ap (λ l. slice_index l 1) all;
    word = ap (λ l. slice_index l 2) all;
  },
  λ t. (let both = sym (ap (λ b. first ++ (if b then second else [])) t) ∙ all ∙ ap (λ b. put ++ (if b then next else [])) t in
      record {
        flag = ap (λ l. slice_index l 3) both;
        addr = ap (λ l. slice_index l 4) both;
        word = ap (λ l. slice_index l 5) both;
      }),
)
  where
    first : List ℕ
    first = x.first.enable.value s ∷ x.first.addr.value s ∷ x.first.value.value s ∷ []

    second : List ℕ
    second = x.second.enable.value s ∷ x.second.addr.value s ∷ x.second.value.value s ∷ []

    put : List ℕ
    put = flag_of ws ∷ addr_of ws ∷ word_of ws ∷ []

    next : List ℕ
    next = flag_of (later ws) ∷ addr_of (later ws) ∷ word_of (later ws) ∷ []

    all : first ++ (if twice then second else []) ≡ put ++ (if twice then next else [])
    all = h ∙ ap₂ (λ a b. a ++ (if twice then b else [])) (shown_is ws) (second_is ws)

-- of at most one write none comes later
later_none : (es : List Pending) → length es ≤ 1 → later (port_writes es) ≡ []
later_none [] l = refl
later_none (e ∷ []) l = refl
later_none (e ∷ f ∷ es) l = absurd (omega (arith, l))

module _ (p : Pipe) (names : ℕ → List ℕ) (apart : Apart names (length p.mems)) (lawful : IsLawful p) (ls : Locks)
    (vs : ℕ → View) (gates : Gates) (moves : ℕ → Signal) (sides : Sides) (c : Circuit)
    (made : IsWhole p names ls vs gates moves sides c) where
  -- the circuit has just the outputs that it was made with
  pub outputs_made : outputs_of c ≡ made.outs
  outputs_made =
      ap (filter_map port_output) made.ports ∙ filter_map-append port_output (reply_ports names 0 p.mems) (map (port_in c) made.outs)
      ∙ ap₂ (λ a b. a ++ b) (no_outputs names 0 p.mems) (outputs_all c made.outs)

  abbrev shown : List Shown
  shown = whole_shown p names made.laid.commits made.asks vs gates moves

  outputs_are : (s : State) → output_values c s ≡ map (shown_value s) (whole_shown p names made.laid.commits made.asks vs gates moves)
  unfolding output_values
  outputs_are s = ap (map (λ (o : Output). net_value c s o.net)) outputs_made ∙ values_shown c s made.outs ∙ ap (map (shown_value s)) made.shown

  -- an output by its name
  named_is : (s : State) (x : List ℕ) → port_value c (output_values c s) x ≡ look s (whole_shown p names made.laid.commits made.asks vs gates moves) x
  named_is s x =
      port_is c (output_values c s) x
      (ap length (outputs_are s)
      ∙ length-map (whole_shown p names made.laid.commits made.asks vs gates moves) (shown_value s)
      ∙ ap length (sym made.shown) ∙ length-map made.outs (shown_in c) ∙ ap length (sym outputs_made))
      ∙ ap₂ (λ ns vals. named_value ns vals x) (ap (map name_of_output) outputs_made) (outputs_are s ∙ ap (map (shown_value s)) (sym made.shown))
      ∙ named_look c s made.outs x
      ∙ ap (λ fs. look s fs x) made.shown

  abbrev ends : List Shown
  ends = shown_signal (codes "ended") (moves (length p.stages - 1)) ∷ shown_signal (codes "squash") gates.squash ∷ []

  -- whether some path reserves a memory twice for writing
  abbrev twice : ℕ → Bool
  twice m = reserves_twice m p.stmts

  -- a port of commits by the memory's name, where no port of a stage or of a request has that name
  commit_port : (s : State) (x y : List ℕ) (on : ℕ → Bool) (value : ℕ → ℕ)
      → ((j : ℕ) → bytes_eq (codes "v_" ++ decimal j) x ≡ false) → ((j : ℕ) → bytes_eq (codes "g_" ++ decimal j) x ≡ false)
      → HasPort s names (λ m. reserves_twice m p.stmts) made.laid.commits x y on value
      → ((i : ℕ) (rest : List Shown) → look s (request_shown (names i) (made.asks i) ++ rest) x ≡ look s rest x) → look s ends x ≡ 0
      → port_value c (output_values c s) x ≡ pick (λ i z. has_lock z.lock && on i) value names 0 p.mems y 0
  commit_port s x y on value v g has passes none =
      named_is s x
      ∙ past_stages s vs moves x v g (length p.stages) 0 (commits_shown names twice made.laid.commits 0 p.mems ++ (requests_shown names made.asks 0 p.mems ++ ends))
      ∙ commits_look s names twice made.laid.commits x y on value has 0 p.mems (requests_shown names made.asks 0 p.mems ++ ends)
      ∙ ap (pick (λ i z. has_lock z.lock && on i) value names 0 p.mems y) (requests_pass s names made.asks x passes 0 p.mems ends ∙ none)

  -- a port of requests by the memory's name, where no port of a stage or of a commit has that name
  request_port : (s : State) (x y : List ℕ) (value : ℕ → ℕ)
      → ((j : ℕ) → bytes_eq (codes "v_" ++ decimal j) x ≡ false) → ((j : ℕ) → bytes_eq (codes "g_" ++ decimal j) x ≡ false)
      → ((i : ℕ) (rest : List Shown)
      → look s (commit_shown (names i) (reserves_twice i p.stmts) (made.laid.commits i) ++ rest) x ≡ look s rest x)
      → ((i : ℕ) (rest : List Shown)
      → look s (request_shown (names i) (made.asks i) ++ rest) x ≡ (if bytes_eq (names i) y then value i else look s rest x))
      → look s ends x ≡ 0
      → port_value c (output_values c s) x ≡ pick (λ i z. is_delayed z.kind) value names 0 p.mems y 0
  request_port s x y value v g passes has none =
      named_is s x
      ∙ past_stages s vs moves x v g (length p.stages) 0 (commits_shown names twice made.laid.commits 0 p.mems ++ (requests_shown names made.asks 0 p.mems ++ ends))
      ∙ commits_pass s names twice made.laid.commits x passes 0 p.mems (requests_shown names made.asks 0 p.mems ++ ends)
      ∙ requests_look s names made.asks x y value has 0 p.mems ends
      ∙ ap (pick (λ i z. is_delayed z.kind) value names 0 p.mems y) none

  -- whether, where and what a memory commits first
  flag_is : (s : State) (y : List ℕ)
      → port_value c (output_values c s) (codes "c_" ++ y)
      ≡ pick (λ i z. has_lock z.lock && true) (λ i. (made.laid.commits i).first.enable.value s) names 0 p.mems y 0
  flag_is s y =
      commit_port s (codes "c_" ++ y) y (λ i. true) (λ i. (made.laid.commits i).first.enable.value s) (λ j. refl) (λ j. refl)
      (flag_port s names twice made.laid.commits y) (λ i rest. refl) refl

  addr_is : (s : State) (y : List ℕ)
      → port_value c (output_values c s) (codes "ca_" ++ y)
      ≡ pick (λ i z. has_lock z.lock && true) (λ i. (made.laid.commits i).first.addr.value s) names 0 p.mems y 0
  addr_is s y =
      commit_port s (codes "ca_" ++ y) y (λ i. true) (λ i. (made.laid.commits i).first.addr.value s) (λ j. refl) (λ j. refl)
      (addr_port s names twice made.laid.commits y) (λ i rest. refl) refl

  word_is : (s : State) (y : List ℕ)
      → port_value c (output_values c s) (codes "cd_" ++ y)
      ≡ pick (λ i z. has_lock z.lock && true) (λ i. (made.laid.commits i).first.value.value s) names 0 p.mems y 0
  word_is s y =
      commit_port s (codes "cd_" ++ y) y (λ i. true) (λ i. (made.laid.commits i).first.value.value s) (λ j. refl) (λ j. refl)
      (word_port s names twice made.laid.commits y) (λ i rest. refl) refl

  -- and second, where some path reserves it twice
  flag2_is : (s : State) (y : List ℕ)
      → port_value c (output_values c s) (codes "c2_" ++ y)
      ≡ pick (λ i z. has_lock z.lock && reserves_twice i p.stmts) (λ i. (made.laid.commits i).second.enable.value s) names 0 p.mems y 0
  flag2_is s y =
      commit_port s (codes "c2_" ++ y) y twice (λ i. (made.laid.commits i).second.enable.value s) (λ j. refl) (λ j. refl)
      (flag2_port s names twice made.laid.commits y) (λ i rest. refl) refl

  addr2_is : (s : State) (y : List ℕ)
      → port_value c (output_values c s) (codes "ca2_" ++ y)
      ≡ pick (λ i z. has_lock z.lock && reserves_twice i p.stmts) (λ i. (made.laid.commits i).second.addr.value s) names 0 p.mems y 0
  addr2_is s y =
      commit_port s (codes "ca2_" ++ y) y twice (λ i. (made.laid.commits i).second.addr.value s) (λ j. refl) (λ j. refl)
      (addr2_port s names twice made.laid.commits y) (λ i rest. refl) refl

  word2_is : (s : State) (y : List ℕ)
      → port_value c (output_values c s) (codes "cd2_" ++ y)
      ≡ pick (λ i z. has_lock z.lock && reserves_twice i p.stmts) (λ i. (made.laid.commits i).second.value.value s) names 0 p.mems y 0
  word2_is s y =
      commit_port s (codes "cd2_" ++ y) y twice (λ i. (made.laid.commits i).second.value.value s) (λ j. refl) (λ j. refl)
      (word2_port s names twice made.laid.commits y) (λ i rest. refl) refl

  -- whether and where a delayed memory is asked
  ask_is : (s : State) (y : List ℕ)
      → port_value c (output_values c s) (codes "q_" ++ y) ≡ pick (λ i z. is_delayed z.kind) (λ i. (made.asks i).enable.value s) names 0 p.mems y 0
  ask_is s y =
      request_port s (codes "q_" ++ y) y (λ i. (made.asks i).enable.value s) (λ j. refl) (λ j. refl)
      (flag_passes s names twice made.laid.commits y) (λ i rest. refl) refl

  ask_addr_is : (s : State) (y : List ℕ)
      → port_value c (output_values c s) (codes "qa_" ++ y) ≡ pick (λ i z. is_delayed z.kind) (λ i. (made.asks i).addr.value s) names 0 p.mems y 0
  ask_addr_is s y =
      request_port s (codes "qa_" ++ y) y (λ i. (made.asks i).addr.value s) (λ j. refl) (λ j. refl)
      (addr_passes s names twice made.laid.commits y) (λ i rest. refl) refl

  module _ (s : State) (st : machine.State) (bits : List Bool) (suits : Suits c s) (known : IsKnown p st bits)
      (stands : StandsFor p ls vs s st) (seen : (j : ℕ) → j < length p.stages → IsSeen p vs moves s st bits j)
      (squashed : IsSquashed p ls vs gates s st bits) where
    -- what the machine commits of a memory
    abbrev written : ℕ → List PortWrite
    written m = port_writes (taken_out st (moving p st bits) m)

    -- the signals of a locked memory's commits have the values of what the machine commits
    commit_at : (m : ℕ) → is_locked p m ≡ true
        → all_words names s st (reserves_twice m p.stmts) (made.laid.commits m)
        ≡ commit_values (mem_at p m).lock (reserves_twice m p.stmts) (port_writes (taken_out st (moving p st bits) m))
    commit_at = commit_laid p names ls vs gates moves c made.laid s st bits stands known.used known.by seen (stood p st bits) squashed

    -- they show the first write, and the next one where some path reserves the memory twice
    pub puts_at : (m : ℕ) → is_locked p m ≡ true
        → ShowsPut s (made.laid.commits m).first (port_writes (taken_out st (moving p st bits) m))
        × (reserves_twice m p.stmts ≡ true
        → ShowsPut s (made.laid.commits m).second (later (port_writes (taken_out st (moving p st bits) m))))
    puts_at m e =
        puts_shown s (made.laid.commits m) (reserves_twice m p.stmts) (written m)
        (commit_at m e
        ∙ ap (λ (b : Bool). if b then shown_values (written m) ++ (if reserves_twice m p.stmts then second_values (written m) else []) else []) e)

    -- the signals of a delayed memory's request tell whether the machine asks it, and at which address
    pub request_at : (m : ℕ) → m < length p.mems → is_delayed (mem_at p m).kind ≡ true
        → ((made.asks m).enable.value s ≡ bit (is_some (asked_in (moving p st bits) m)))
        × ((made.asks m).addr.value s ≡ address_or (asked_in (moving p st bits) m))
    request_at m l d =
        requests.request_shown p lawful.reads st bits m c vs moves sides (made.asks m) (made.outside m l d) s suits known.by (λ r e. lawful.inside m r e) seen

    -- the value of a commit port of a memory with a lock, by its name
    picked : (on : ℕ → Bool) (value : ℕ → ℕ) (m : ℕ) → m < length p.mems → (is_locked p m && on m) ≡ true
        → pick (λ i z. has_lock z.lock && on i) value names 0 p.mems (names m) 0 ≡ value m
    picked on value m l e =
        let same : 0 + m ≡ m = omega arith in
        subst (λ j. pick (λ i z. has_lock z.lock && on i) value names 0 p.mems (names j) 0 ≡ value j) same
        (pick_at (λ i z. has_lock z.lock && on i) value names (length p.mems) 0 p.mems m 0 (omega arith) apart l
        (subst (λ j. (is_locked p m && on j) ≡ true) (sym same) e))

    -- of a memory without one, or for which the condition does not hold, it is 0
    unpicked : (on : ℕ → Bool) (value : ℕ → ℕ) (m : ℕ) → m < length p.mems → (is_locked p m && on m) ≡ false
        → pick (λ i z. has_lock z.lock && on i) value names 0 p.mems (names m) 0 ≡ 0
    unpicked on value m l e =
        pick_not (λ i z. has_lock z.lock && on i) value names (length p.mems) 0 p.mems m 0 (omega arith) apart l
        (λ j f. ap (λ i. has_lock (slice_index_or p.mems i plain_mem).lock && on m) (let z : j ≡ m = omega (arith, f) in z) ∙ e)

    -- what a memory commits, by its name
    pub commit_named : (m : ℕ) → m < length p.mems → is_locked p m ≡ true
        → commit_of c (output_values c s) (names m) ≡ put_in (port_writes (taken_out st (moving p st bits) m))
    commit_named m l e =
        let shows = (puts_at m e).0 in
        let there = ap (λ b. b && true) e in
        put_cases (written m) _ _ _
        (flag_is s (names m) ∙ picked (λ i. true) (λ i. (made.laid.commits i).first.enable.value s) m l there ∙ shows.flag)
        (addr_is s (names m) ∙ picked (λ i. true) (λ i. (made.laid.commits i).first.addr.value s) m l there ∙ shows.addr)
        (word_is s (names m) ∙ picked (λ i. true) (λ i. (made.laid.commits i).first.value.value s) m l there ∙ shows.word)

    -- without the port of this condition none is found
    none_named : (on : ℕ → Bool) (value : ℕ → ℕ) (m : ℕ) → m < length p.mems → (is_locked p m && on m) ≡ false
        → (f a w : ℕ) → f ≡ pick (λ i z. has_lock z.lock && on i) value names 0 p.mems (names m) 0
        → (if f == 1 then Some (a, w) else None) ≡ put_in []
    none_named on value m l e f a w h =
        let put : ℕ → Option (ℕ × ℕ) = λ n. if n == 1 then Some (a, w) else None in ap put (h ∙ unpicked on value m l e)

    -- what it commits second, by its name
    pub commit2_named : (m : ℕ) → m < length p.mems → is_locked p m ≡ true
        → commit2_of c (output_values c s) (names m) ≡ put_in (later (port_writes (taken_out st (moving p st bits) m)))
    commit2_named m l e = at (reserves_twice m p.stmts) refl
      where
        at : (t : Bool) → reserves_twice m p.stmts ≡ t → commit2_of c (output_values c s) (names m) ≡ put_in (later (written m))
        at true f =
            let shows = (puts_at m e).1 f in
            let there = ap₂ (λ a b. a && b) e f in
            put_cases (later (written m)) _ _ _
            (flag2_is s (names m) ∙ picked twice (λ i. (made.laid.commits i).second.enable.value s) m l there ∙ shows.flag)
            (addr2_is s (names m) ∙ picked twice (λ i. (made.laid.commits i).second.addr.value s) m l there ∙ shows.addr)
            (word2_is s (names m) ∙ picked twice (λ i. (made.laid.commits i).second.value.value s) m l there ∙ shows.word)
        at false f =
            let gone = all_releases m (moving p st bits) in
            let long = length-take gone (list_two st (moving p st bits) m) in
            let few = known.used.released m l in
            let most : at_most p m ≡ 1 = ap (λ b. if b then 2 else 1) f in
            none_named twice (λ i. (made.laid.commits i).second.enable.value s) m l (ap₂ (λ a b. a && b) e f) _ _ _ (flag2_is s (names m))
            ∙ sym (ap put_in (later_none (taken_out st (moving p st bits) m) (omega (arith, long, few, most))))

    -- a memory without lock has no commit by its name
    pub no_commit : (m : ℕ) → m < length p.mems → is_locked p m ≡ false → commit_of c (output_values c s) (names m) ≡ None
    no_commit m l e =
        none_named (λ i. true) (λ i. (made.laid.commits i).first.enable.value s) m l (ap (λ b. b && true) e) _ _ _ (flag_is s (names m))

    -- and no second one
    pub no_commit2 : (m : ℕ) → m < length p.mems → is_locked p m ≡ false → commit2_of c (output_values c s) (names m) ≡ None
    no_commit2 m l e =
        none_named twice (λ i. (made.laid.commits i).second.enable.value s) m l (ap (λ b. b && reserves_twice m p.stmts) e) _ _ _
        (flag2_is s (names m))

    -- the request that is found by a delayed memory's name is what the machine asks it
    pub request_named : (m : ℕ) → m < length p.mems → is_delayed (mem_at p m).kind ≡ true
        → request_of c (output_values c s) (names m) ≡ asked_in (moving p st bits) m
    request_named m l d =
        let value : (g : Request → Signal)
        → pick (λ i z. is_delayed z.kind) (λ i. (g (made.asks i)).value s) names 0 p.mems (names m) 0 ≡ (g (made.asks m)).value s =
        λ g. subst (λ j. pick (λ i z. is_delayed z.kind) (λ i. (g (made.asks i)).value s) names 0 p.mems (names j) 0 ≡ (g (made.asks j)).value s)
        (let z : 0 + m ≡ m = omega arith in z)
        (pick_at (λ i z. is_delayed z.kind) (λ i. (g (made.asks i)).value s) names (length p.mems) 0 p.mems m 0 (omega arith) apart l d) in
        ap₂ (λ f a. if f == 1 then Some a else None)
        (ask_is s (names m) ∙ value (λ (q : Request). q.enable) ∙ (request_at m l d).0)
        (ask_addr_is s (names m) ∙ value (λ (q : Request). q.addr) ∙ (request_at m l d).1)
        ∙ at (asked_in (moving p st bits) m)
      where
        at : (o : Option ℕ) → (if bit (is_some o) == 1 then Some (address_or o) else None) ≡ o
        at None = refl
        at (Some a) = refl

    -- ALL VALUES

    requests_are : (m : ℕ) (xs : List Mem)
        → ((i : ℕ) → i < length xs → is_delayed (slice_index_or xs i plain_mem).kind ≡ true
        → ((made.asks (m + i)).enable.value s ≡ bit (is_some (asked_in (moving p st bits) (m + i))))
        × ((made.asks (m + i)).addr.value s ≡ address_or (asked_in (moving p st bits) (m + i))))
        → map (shown_value s) (requests_shown names made.asks m xs) ≡ all_request_values xs (for_mems (λ i. asked_in (moving p st bits) i) m xs)
    requests_are m [] h = refl
    requests_are m (x ∷ xs) h =
        map-append (shown_value s) (if is_delayed x.kind then request_shown (names m) (made.asks m) else []) (requests_shown names made.asks (suc m) xs)
        ∙ ap₂ (λ a b. a ++ b) (mine (is_delayed x.kind) (λ e. h 0 (omega arith) e))
        (requests_are (suc m) xs
        (λ i l e.
        (let z : m + suc i ≡ suc m + i = omega arith in
        subst
        (λ j. ((made.asks j).enable.value s ≡ bit (is_some (asked_in (moving p st bits) j)))
        × ((made.asks j).addr.value s ≡ address_or (asked_in (moving p st bits) j))) z
        (h (suc i) (omega (arith, l)) e))))
      where
        values : (o : Option ℕ) → bit (is_some o) ∷ address_or o ∷ [] ≡ request_values o
        values None = refl
        values (Some a) = refl

        mine : (b : Bool)
            → (b ≡ true
            → ((made.asks (m + 0)).enable.value s ≡ bit (is_some (asked_in (moving p st bits) (m + 0))))
            × ((made.asks (m + 0)).addr.value s ≡ address_or (asked_in (moving p st bits) (m + 0))))
            → map (shown_value s) (if b then request_shown (names m) (made.asks m) else []) ≡ (if b then request_values (asked_in (moving p st bits) m) else [])
        mine false g = refl
        mine true g =
            let here =
            subst
            (λ j. ((made.asks j).enable.value s ≡ bit (is_some (asked_in (moving p st bits) j)))
            × ((made.asks j).addr.value s ≡ address_or (asked_in (moving p st bits) j)))
            (let z : m + 0 ≡ m = omega arith in z) (g refl) in
            ap₂ (λ a b. a ∷ b ∷ []) here.0 here.1 ∙ values (asked_in (moving p st bits) m)

    -- the outputs are the machine's ports
    pub whole_shows : output_values c s ≡ whole_values p (ports_of p st bits)
    whole_shows =
        let value = shown_value s in
        let n = length p.stages in
        let o = ports_of p st bits in
        let stages = stages_shown vs moves n 0 in
        let commits = commits_shown names twice made.laid.commits 0 p.mems in
        let asks = requests_shown names made.asks 0 p.mems in
        let valids = stages_are p vs moves s st bits seen n 0 p.stages (omega arith) refl ∙ ap₂ stage_values (sym known.by.valid) (sym known.by.moves) in
        let taken =
        commits_are names s st (moving p st bits) p.stmts made.laid.commits 0 p.mems
        (λ i l e.
        (let z : i ≡ 0 + i = omega arith in
        subst
        (λ j. all_words names s st (reserves_twice j p.stmts) (made.laid.commits j)
        ≡ commit_values (mem_at p i).lock (reserves_twice j p.stmts) (port_writes (taken_out st (moving p st bits) j))) z
        (commit_at i e)))
        ∙ ap (all_commit_values (all_twice p.stmts 0 p.mems) p.mems) (sym known.by.commits) in
        let asked =
        requests_are 0 p.mems
        (λ i l d.
        (let z : i ≡ 0 + i = omega arith in
        subst
        (λ j. ((made.asks j).enable.value s ≡ bit (is_some (asked_in (moving p st bits) j)))
        × ((made.asks j).addr.value s ≡ address_or (asked_in (moving p st bits) j))) z
        (request_at i l d)))
        ∙ ap (λ ms. all_request_values p.mems (for_mems (λ i. asked_in ms i) 0 p.mems)) (sym known.by.movers) in
        let ended = (seen (n - 1) (let z = lawful.some in omega (arith, z))).leaves ∙ ap bit (sym known.by.ended) in
        let squash : gates.squash.value s ≡ bit o.squash = squashed.squash ∙ ap bit (sym known.by.squash) in
        outputs_are s
        ∙ map-append value stages (commits ++ (asks ++ ends))
        ∙ ap₂ (λ a b. a ++ b) valids
        (map-append value commits (asks ++ ends)
        ∙ ap₂ (λ a b. a ++ b) taken (map-append value asks ends ∙ ap₂ (λ a b. a ++ b) asked (ap₂ (λ a b. a ∷ b ∷ []) ended squash)))
