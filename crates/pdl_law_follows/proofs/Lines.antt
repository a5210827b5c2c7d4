-- A netlist that follows an accepted source has the machine's lines: what its outputs say by their names and places is what the machine does.
use Rattle.std.proofs.Common.{◌≡◌, ℕ, suc, ◌-◌, ◌==◌, Bool, true, false, List, [], ◌∷◌, ◌++◌, length, map, codes, decimal, bytes_eq, refl, sym, ap, ap₂, ◌∙◌, subst, append_assoc}
use Rattle.std.specs.Prelude.{slice_index}
use Rattle.std.proofs.lemmas.List.{length-map}
use Rattle.pdl_word.specs.Words.{bit}
use Rattle.pdl_kit.specs.declared.mem_info.MemInfo.{MemInfo}
use Rattle.pdl_semantics.specs.Tree as tree
use Rattle.pdl_semantics.specs.Tree.{Mem}
use Rattle.pdl_semantics.specs.Flat.{Arrays, Pipe, arrays_of}
use Rattle.pdl_semantics.specs.Flat
use Rattle.pdl_semantics.specs.Flatten.{flat, mems_of}
use Rattle.pdl_semantics.specs.Machine.{State}
use Rattle.pdl_semantics.specs.Cycle.{PortWrite, Ports, Turn, turns, turns_from, first, cycle, state_after, for_mems}
use Rattle.pdl_semantics.specs.SecondWrites.{reserves_twice, all_twice}
use Rattle.pdl_semantics.specs.Lines.{Put, cycle_lines, lines_from, lines, columns, puts_for, puts_in, turn_cycle, turn_cycles}
use Rattle.pdl_rules.specs.Typed.{AreDistinct}
use Rattle.pdl_rules.specs.Refusal.{KeepsRules}
use Rattle.pdl_rules.specs.Memories.{info_of}
use Rattle.pdl_source_paths.specs.Source.{is_source, is_named}
use Rattle.pdl_source_paths.proofs.Memories.{mems_length}
use Rattle.pdl_net.specs.declared.Netlist.{Netlist}
use Rattle.pdl_net.specs.Circuit.{circuit_of, outputs_of}
use Rattle.pdl_net.specs.Run.{Shown, nports, commit_of, commit2_of, port_value}
use Rattle.pdl_machine_facts.specs.Ports.{stage_values, all_commit_values}
use Rattle.pdl_machine_facts.specs.Cycle.{ports_of, IsByStages}
use Rattle.pdl_law_parts.specs.Served.{IsServed}
use Rattle.pdl_law_parts.specs.DeclaredMems.{port_mem}
use Rattle.pdl_law_parts.specs.Runs.{Seen, seen_of, column_of, puts_of, output_count, cycle_by, cycle_of, commit_mems}
use Rattle.pdl_law_parts.specs.Runs.{puts_in as puts_by}
use Rattle.pdl_law_parts.proofs.WellFormedPorts.{stage_names}
use Rattle.pdl_law_parts.proofs.LinesMachine.{AreCommits, IsShaped, shaped}
use Rattle.pdl_law_parts.proofs.LinesNames.{name_of_output}
use Rattle.pdl_law_parts.proofs.LinesPorts.{named_value, port_is, past_stages, stages_same, found, flag_of, addr_of, word_of, later, put_in, put_cases, same_put, found_short, each_found}
use Rattle.pdl_law_parts.proofs.LinesColumns.{AreFound, locked_infos, locked_lines}
use Rattle.pdl_law_parts.proofs.LinesEnds.{map_same, bit_one, last_two, end_of, same_end}
use Rattle.pdl_law_parts.proofs.LinesEnds as line
use Rattle.pdl_law_sides.specs.WholeNetlist.{in_order, all_request_values, whole_values, whole_had}
use Rattle.pdl_law_follows.specs.StandingStates.{IsKnown}
use Rattle.pdl_law_follows.proofs.ShowsSource.{known_source}
use Rattle.pdl_law_follows.specs.Memories.{delayed_of, replies_in}
use Rattle.pdl_law_follows.specs.Follows.{Follows}
use Rattle.pdl_law_follows.specs.Runs.{ShowsTurns}
use Rattle.pdl_law_follows.proofs.PortNames.{commit_names, request_names, last_names, output_names}
use Rattle.pdl_law_follows.proofs.Ports.{outputs_are}
use Rattle.pdl_law_follows.proofs.LinesPorts.{locked_from, IsStep, flag_step, addr_step, word_step, flag2_step, addr2_step, word2_step, commits_then, requests_then, port_told, commits_same, past_requests, requests_same, locked_shown, net_found}
use Rattle.pdl_law_follows.proofs.FollowsMade.{declared}
use Rattle.pdl_semantics.proofs.Facts.{after_more}

-- ---- the machine's ports

-- as many ports as stages, commits, and requests as memories
pub record HasPorts (p : Pipe) (o : Ports) : Type 0 where
  pub shape : IsShaped p o
  pub requests : length o.requests ≡ length p.mems

abbrev AllHave : Pipe → List Turn → Type 0
AllHave p [] = Rattle.std.specs.Prelude.⊤
AllHave p (t ∷ ts) = HasPorts p t.ports × AllHave p ts

mems_long : {X : Type 0} (f : ℕ → X) (k : ℕ) (xs : List Flat.Mem) → length (for_mems f k xs) ≡ length xs
mems_long f k [] = refl
mems_long f k (x ∷ xs) = ap suc (mems_long f (suc k) xs)

has_ports : (p : Pipe) (st : State) (bits : List Bool) → IsByStages p st bits → IsServed p st bits → HasPorts p (ports_of p st bits)
has_ports p st bits by used = record { shape = shaped p st bits by used; requests = mems_long _ 0 p.mems }

turns_have : (p : Pipe) (image : Arrays)
    → ((before : List (List Bool)) (bits : List Bool) → IsKnown p (state_after p (first p image) before) bits)
    → (before : List (List Bool)) (st : State) (schedule : List (List Bool)) → st ≡ state_after p (first p image) before
    → AllHave p (turns_from p st schedule)
turns_have p image known before st [] e = tt
turns_have p image known before st (bits ∷ schedule) e = (
  subst (λ x. HasPorts p (ports_of p x bits)) (sym e) (let k = known before bits in has_ports p (state_after p (first p image) before) bits k.by k.used),
  turns_have p image known (before ++ bits ∷ []) (cycle p st bits) schedule (ap (λ x. cycle p x bits) e ∙ sym (after_more p (first p image) before bits)),
)

module _ (p : Pipe) (ms : List Mem) (same : p.mems ≡ mems_of ms) (n : Netlist) (distinct : AreDistinct ms)
    (there : AreFound ms n.mems)
    (named : map name_of_output (outputs_of (circuit_of n))
    ≡ output_names (length p.stages) (map (port_mem false) (delayed_of ms)) (locked_from p.stmts 0 ms)) where
  -- ---- one cycle

  module _ (o : Ports) (has : HasPorts p o) where
    abbrev last : List ℕ
    last = bit o.ended ∷ bit o.squash ∷ []

    -- the names and values after those of the stages, and after those of commits
    abbrev asked_names : List (List ℕ)
    asked_names = request_names (map (port_mem false) (delayed_of ms)) last_names

    abbrev asked : List ℕ
    asked = requests_then ms o.requests (bit o.ended ∷ bit o.squash ∷ [])

    abbrev rest : List ℕ
    rest = commits_then p.stmts 0 ms o.commits (requests_then ms o.requests (bit o.ended ∷ bit o.squash ∷ []))

    commits : AreCommits p.stmts 0 (mems_of ms) o.commits
    commits = subst (λ (l : List Flat.Mem). AreCommits p.stmts 0 l o.commits) same has.shape.commits

    requests : length o.requests ≡ length ms
    requests = has.requests ∙ ap length same ∙ mems_length ms

    asked_same : length (requests_then ms o.requests (bit o.ended ∷ bit o.squash ∷ []))
        ≡ length (request_names (map (port_mem false) (delayed_of ms)) last_names)
    asked_same = requests_same ms o.requests last_names (bit o.ended ∷ bit o.squash ∷ []) requests refl

    rest_same : length rest ≡ length (commit_names (locked_from p.stmts 0 ms) (request_names (map (port_mem false) (delayed_of ms)) last_names))
    rest_same = commits_same p.stmts 0 ms o.commits asked_names asked commits asked_same

    values : whole_values p o ≡ stage_values o.valid o.moves ++ rest
    values =
        ap
        (λ (l : List Flat.Mem). stage_values o.valid o.moves
        ++ (all_commit_values (all_twice p.stmts 0 l) l o.commits ++ (all_request_values l o.requests ++ bit o.ended ∷ bit o.squash ∷ []))) same

    count : length (whole_values p o) ≡ length (outputs_of (circuit_of n))
    count =
        ap length values
        ∙ stages_same 0 (length p.stages) (commit_names (locked_from p.stmts 0 ms) asked_names) o.valid o.moves rest has.shape.valid has.shape.moves rest_same
        ∙ ap length (sym named)
        ∙ length-map (outputs_of (circuit_of n)) name_of_output

    -- a port that is no stage's is looked up after those of the stages
    look : (x : List ℕ)
        → ((names : List (List ℕ)) (vals : List ℕ)
        → named_value (stage_names 0 (length p.stages) names) (stage_values o.valid o.moves ++ vals) x ≡ named_value names vals x)
        → port_value (circuit_of n) (whole_values p o) x ≡ named_value (commit_names (locked_from p.stmts 0 ms) asked_names) rest x
    look x pass =
        port_is (circuit_of n) (whole_values p o) x count
        ∙ ap₂ (λ names vals. named_value names vals x) named values
        ∙ pass (commit_names (locked_from p.stmts 0 ms) asked_names) rest

    -- a commit's is none after them
    none_after : (x : List ℕ) → ((y : List ℕ) → Rattle.std.specs.Prelude.bytes_eq (codes "q_" ++ y) x ≡ false)
        → ((y : List ℕ) → Rattle.std.specs.Prelude.bytes_eq (codes "qa_" ++ y) x ≡ false)
        → named_value last_names (bit o.ended ∷ bit o.squash ∷ []) x ≡ 0
        → named_value (request_names (map (port_mem false) (delayed_of ms)) last_names) (requests_then ms o.requests (bit o.ended ∷ bit o.squash ∷ [])) x ≡ 0
    none_after x f g z = past_requests x f g ms o.requests last_names (bit o.ended ∷ bit o.squash ∷ []) requests ∙ z

    -- what a commit's port tells, by its name
    told : (port : List ℕ → List ℕ) (g : List PortWrite → ℕ) → IsStep port g → g [] ≡ 0 → (m : List ℕ)
        → ((j : ℕ) → bytes_eq (codes "v_" ++ decimal j) (port m) ≡ false) → ((j : ℕ) → bytes_eq (codes "g_" ++ decimal j) (port m) ≡ false)
        → ((y : List ℕ) → bytes_eq (codes "q_" ++ y) (port m) ≡ false) → ((y : List ℕ) → bytes_eq (codes "qa_" ++ y) (port m) ≡ false)
        → named_value last_names (bit o.ended ∷ bit o.squash ∷ []) (port m) ≡ 0
        → port_value (circuit_of n) (whole_values p o) (port m) ≡ g (found ms o.commits m)
    told port g step none m v w q r z =
        look (port m) (λ names vals. past_stages (port m) v w 0 (length p.stages) names o.valid o.moves vals has.shape.valid has.shape.moves)
        ∙ port_told p.stmts port g step none 0 ms o.commits asked_names asked m distinct commits (none_after (port m) q r z)

    -- what a memory commits, by its name
    commit_found : (m : List ℕ) → commit_of (circuit_of n) (whole_values p o) m ≡ put_in (found ms o.commits m)
    commit_found m =
        put_cases (found ms o.commits m) (port_value (circuit_of n) (whole_values p o) (codes "c_" ++ m))
        (port_value (circuit_of n) (whole_values p o) (codes "ca_" ++ m))
        (port_value (circuit_of n) (whole_values p o) (codes "cd_" ++ m))
        (told (λ x. codes "c_" ++ x) flag_of flag_step refl m (λ j. refl) (λ j. refl) (λ y. refl) (λ y. refl) refl)
        (told (λ x. codes "ca_" ++ x) addr_of addr_step refl m (λ j. refl) (λ j. refl) (λ y. refl) (λ y. refl) refl)
        (told (λ x. codes "cd_" ++ x) word_of word_step refl m (λ j. refl) (λ j. refl) (λ y. refl) (λ y. refl) refl)

    -- and what it commits after that
    commit2_found : (m : List ℕ) → commit2_of (circuit_of n) (whole_values p o) m ≡ put_in (later (found ms o.commits m))
    commit2_found m =
        put_cases (later (found ms o.commits m)) (port_value (circuit_of n) (whole_values p o) (codes "c2_" ++ m))
        (port_value (circuit_of n) (whole_values p o) (codes "ca2_" ++ m))
        (port_value (circuit_of n) (whole_values p o) (codes "cd2_" ++ m))
        (told (λ x. codes "c2_" ++ x) (λ e. flag_of (later e)) flag2_step refl m (λ j. refl) (λ j. refl) (λ y. refl) (λ y. refl) refl)
        (told (λ x. codes "ca2_" ++ x) (λ e. addr_of (later e)) addr2_step refl m (λ j. refl) (λ j. refl) (λ y. refl) (λ y. refl) refl)
        (told (λ x. codes "cd2_" ++ x) (λ e. word_of (later e)) word2_step refl m (λ j. refl) (λ j. refl) (λ y. refl) (λ y. refl) refl)

    -- what a memory commits by its ports, and what it does
    abbrev by_ports : MemInfo → List Put
    by_ports m = puts_by n (whole_values p o) m.name

    abbrev by_turn : MemInfo → List Put
    by_turn m = puts_for (found ms o.commits m.name)

    by_name : (m : MemInfo) → by_ports m ≡ by_turn m
    by_name m =
        ap₂ (λ a b. puts_of a ++ puts_of b) (commit_found m.name) (commit2_found m.name)
        ∙ same_put (found ms o.commits m.name) (found_short p.stmts 0 ms o.commits m.name commits)

    -- and memory by memory
    commits_are : map by_ports (map info_of ms) ≡ puts_in o.commits
    commits_are = map_same by_ports by_turn by_name (map info_of ms) ∙ each_found p.stmts (found ms o.commits) 0 ms o.commits distinct commits (λ m a. refl)

    -- and as lines, by the commit ports in their order
    lines_are : (number : ℕ)
        → cycle_lines number (map column_of (commit_mems n)) (map by_ports (commit_mems n)) ≡ cycle_lines number (columns ms) (puts_in o.commits)
    lines_are number =
        ap (λ l. cycle_lines number (map column_of l) (map by_ports l)) (locked_shown n (λ m. reserves_twice m p.stmts) ms (length p.stages) named there)
        ∙ ap (cycle_lines number (map column_of (locked_infos ms))) (map_same by_ports by_turn by_name (locked_infos ms))
        ∙ locked_lines p.stmts (found ms o.commits) number 0 ms o.commits distinct commits (λ m a. refl)

    last_are : (slice_index (whole_values p o) (output_count n - 2) ≡ bit o.ended) × (slice_index (whole_values p o) (output_count n - 1) ≡ bit o.squash)
    last_are =
        subst
        (λ l. (slice_index l (output_count n - 2) ≡ bit o.ended) × (slice_index l (output_count n - 1) ≡ bit o.squash)) ends
        (last_two front (bit o.ended) (bit o.squash) (output_count n) (ap length ends ∙ count))
      where
        front : List ℕ
        front = stage_values o.valid o.moves ++ (all_commit_values (all_twice p.stmts 0 p.mems) p.mems o.commits ++ all_request_values p.mems o.requests)

        ends : (stage_values o.valid o.moves
            ++ (all_commit_values (all_twice p.stmts 0 p.mems) p.mems o.commits ++ all_request_values p.mems o.requests)) ++ bit o.ended ∷ bit o.squash ∷ []
            ≡ whole_values p o
        ends =
            append_assoc (stage_values o.valid o.moves)
            (all_commit_values (all_twice p.stmts 0 p.mems) p.mems o.commits ++ all_request_values p.mems o.requests)
            (bit o.ended ∷ bit o.squash ∷ [])
            ∙ ap (λ l. stage_values o.valid o.moves ++ l)
            (append_assoc (all_commit_values (all_twice p.stmts 0 p.mems) p.mems o.commits) (all_request_values p.mems o.requests)
            (bit o.ended ∷ bit o.squash ∷ []))

  -- what is seen of a cycle is the machine's
  cycle_is : (x : Shown) (t : Turn) → HasPorts p t.ports → seen_of x ≡ whole_had p t → cycle_by n (map info_of ms) x ≡ turn_cycle t
  cycle_is x t has e =
      let ports : x.ports ≡ whole_values p t.ports = ap (λ (s : Seen). s.ports) e in
      let wait : x.waited ≡ t.wait = ap (λ (s : Seen). s.wait) e in
      let last = last_are t.ports has in
      ap₂
      (λ ps w. line.cycle (map (λ (m : MemInfo). puts_by n ps m.name) (map info_of ms))
      (slice_index ps (output_count n - 2) == 1) w (slice_index ps (output_count n - 1) == 1)) ports wait
      ∙ ap
      (λ puts. line.cycle puts (slice_index (whole_values p t.ports) (output_count n - 2) == 1) t.wait
      (slice_index (whole_values p t.ports) (output_count n - 1) == 1))
      (commits_are t.ports has)
      ∙ ap₂ (λ a b. line.cycle (puts_in t.ports.commits) (a == 1) t.wait (b == 1)) last.0 last.1
      ∙ ap₂ (λ a b. line.cycle (puts_in t.ports.commits) a t.wait b) (bit_one t.ports.ended) (bit_one t.ports.squash)

  -- and so are its lines
  puts_are : (number : ℕ) (x : Shown) (t : Turn) → HasPorts p t.ports → seen_of x ≡ whole_had p t
      → cycle_lines number (map column_of (commit_mems n)) (cycle_of n x).puts ≡ cycle_lines number (columns ms) (turn_cycle t).puts
  puts_are number x t has e =
      let ports : x.ports ≡ whole_values p t.ports = ap (λ (s : Seen). s.ports) e in
      ap (λ ps. cycle_lines number (map column_of (commit_mems n)) (map (λ (m : MemInfo). puts_by n ps m.name) (commit_mems n))) ports
      ∙ lines_are t.ports has number

  -- ---- all cycles

  -- where each cycle shows what the machine has, the cycles by what the memories commit are the machine's cycles
  pub cycles_are : (xs : List Shown) (ts : List Turn) → AllHave p ts → map seen_of xs ≡ map (whole_had p) ts
      → map (cycle_by n (map info_of ms)) xs ≡ turn_cycles ts
  cycles_are [] [] h e = refl
  cycles_are [] (t ∷ ts) h e = absurd (cc e)
  cycles_are (x ∷ xs) [] h e = absurd (cc e)
  cycles_are (x ∷ xs) (t ∷ ts) h e =
      let one : seen_of x ≡ whole_had p t = cc e in
      let others : map seen_of xs ≡ map (whole_had p) ts = cc e in
      ap₂ (λ y ys. y ∷ ys) (cycle_is x t h.0 one) (cycles_are xs ts h.1 others)

  puts_lines : (number : ℕ) (xs : List Shown) (ts : List Turn) → AllHave p ts → map seen_of xs ≡ map (whole_had p) ts
      → lines_from number (map column_of (commit_mems n)) (map (cycle_of n) xs) ≡ lines_from number (columns ms) (turn_cycles ts)
  puts_lines number [] [] h e = refl
  puts_lines number [] (t ∷ ts) h e = absurd (cc e)
  puts_lines number (x ∷ xs) [] h e = absurd (cc e)
  puts_lines number (x ∷ xs) (t ∷ ts) h e =
      let one : seen_of x ≡ whole_had p t = cc e in
      let others : map seen_of xs ≡ map (whole_had p) ts = cc e in
      ap₂ (λ a b. a ++ b) (puts_are number x t h.0 one) (puts_lines (suc number) xs ts h.1 others)

  -- where each cycle shows what the machine has, all lines of the netlist are the machine's
  pub all_lines : (xs : List Shown) (ts : List Turn) → AllHave p ts → map seen_of xs ≡ map (whole_had p) ts
      → lines (map column_of (commit_mems n)) (map (cycle_of n) xs) ≡ lines (columns ms) (turn_cycles ts)
  all_lines xs ts h e =
      ap₂ (λ a b. a ++ b) (puts_lines 1 xs ts h e)
      (same_end n (commit_mems n) (map info_of ms) xs ∙ ap end_of (cycles_are xs ts h e))

-- a netlist that follows an accepted source has the turns of its machine
pub shows_turns : (p : tree.Pipe) → KeepsRules p → is_source p ≡ true → is_named p ≡ true → (n : Netlist) → Follows p n → ShowsTurns p n
shows_turns p rules source named n follows =
    let distinct = (declared p rules).distinct in
    let names =
    outputs_are (circuit_of n) (length (flat p).stages) (map (port_mem false) (delayed_of p.mems)) (locked_from (flat p).stmts 0 p.mems) follows.ports in
    let found = subst (AreFound p.mems) (sym follows.mems) (net_found p.mems distinct) in
    let have : (image : List (List ℕ)) (schedule : List (List Bool)) → AllHave (flat p) (turns (flat p) (arrays_of image) schedule) =
    λ image schedule. turns_have (flat p) (arrays_of image) (known_source p rules source named (arrays_of image)) []
    (first (flat p) (arrays_of image)) schedule refl in
    record {
      cycles =
          λ image schedule is_image. cycles_are (flat p) p.mems refl n distinct found names (nports n image schedule)
          (turns (flat p) (arrays_of (in_order (flat p) image)) (replies_in (flat p) schedule))
          (have (in_order (flat p) image) (replies_in (flat p) schedule)) (follows.shows image schedule is_image);
      lines =
          λ image schedule is_image. all_lines (flat p) p.mems refl n distinct found names (nports n image schedule)
          (turns (flat p) (arrays_of (in_order (flat p) image)) (replies_in (flat p) schedule))
          (have (in_order (flat p) image) (replies_in (flat p) schedule)) (follows.shows image schedule is_image);
    }
