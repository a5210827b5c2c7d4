-- The ports of a netlist that is made of a pipe: their names, directions and widths.
use Rattle.std.proofs.Common.{◌≡◌, inl, inr, ℕ, zero, suc, ◌+◌, ◌-◌, ◌^◌, ◌<◌, ◌≤◌, Bool, true, false, List, [], ◌∷◌, ◌++◌, length, map, codes, decimal, refl, sym, ap, ap₂, ◌∙◌, arith, append_assoc}
use Rattle.std.specs.Prelude.{if◌then◌else◌, flat_map, filter_map, slice_index_or}
use Rattle.std.specs.List.{range_with_len}
use Rattle.std.proofs.lemmas.List.{map-append}
use Rattle.pdl_semantics.specs.Tree.{Mem}
use Rattle.pdl_semantics.specs.Flat.{Pipe, is_delayed}
use Rattle.pdl_semantics.specs.Flatten.{mems_of}
use Rattle.pdl_semantics.specs.Stages.{plain_mem}
use Rattle.pdl_semantics.specs.SecondWrites.{reserves_twice}
use Rattle.pdl_net.specs.declared.Dir.{Dir}
use Rattle.pdl_net.specs.declared.Dir.TheVariants.{In, Out}
use Rattle.pdl_net.specs.declared.Port.{Port}
use Rattle.pdl_net.specs.Circuit.{Circuit, outputs_of, port_output}
use Rattle.pdl_net.specs.Pipe.{Head, PortMem, head_of, input, output, reply_ports, stage_ports, first_ports, second_ports, commit_ports, request_ports, pipe_ports}
use Rattle.pdl_net.specs.Signal.{Signal}
use Rattle.pdl_law_parts.specs.Views.{View, Gates}
use Rattle.pdl_law_parts.specs.DeclaredMems.{port_mem, locked_of, mem_names, CommitsFit, AreBitsWide}
use Rattle.pdl_law_parts.specs.Ports.{Commits, stages_shown, commits_shown}
use Rattle.pdl_law_parts.proofs.WellFormedNames.{Among}
use Rattle.pdl_law_parts.proofs.WellFormedMems.{Reaches, power_one}
use Rattle.pdl_law_parts.proofs.WellFormedPorts.{head_shown, stages_heads, commit_heads, last_heads, name_of_head, names_of_heads, stage_names}
use Rattle.pdl_law_parts.proofs.LinesNames.{name_of_output, second_names}
use Rattle.pdl_law_sides.specs.WholeNetlist as whole
use Rattle.pdl_law_sides.specs.WholeNetlist.{Request, request_shown, requests_shown, whole_shown}
use Rattle.pdl_law_follows.specs.Memories.{delayed_of}
use Rattle.pdl_law_follows.proofs.PortNames.{reply_names, commit_names, request_names, output_names, port_names}

-- ---- delayed memories

-- names by number
abbrev AreNamed : (ℕ → List ℕ) → ℕ → List Mem → Type 0
AreNamed names k ms = (i : ℕ) → i < length ms → names (k + i) ≡ mem_names ms i

first_named : (names : ℕ → List ℕ) (k : ℕ) (m : Mem) (ms : List Mem) → AreNamed names k (m ∷ ms) → names k ≡ m.name.name
first_named names k m ms h = ap names (let z : k ≡ k + 0 = omega arith in z) ∙ h 0 (omega arith)

rest_named : (names : ℕ → List ℕ) (k : ℕ) (m : Mem) (ms : List Mem) → AreNamed names k (m ∷ ms) → AreNamed names (suc k) ms
rest_named names k m ms h i l = ap names (let z : suc k + i ≡ k + suc i = omega arith in z) ∙ h (suc i) (omega (arith, l))

reply_heads : (names : ℕ → List ℕ) (k : ℕ) (ms : List Mem) → AreNamed names k ms
    → map head_of (whole.reply_ports names k (mems_of ms)) ≡ flat_map reply_ports (map (port_mem false) (delayed_of ms))
reply_heads names k [] h = refl
reply_heads names k (m ∷ ms) h = at (is_delayed m.kind) (reply_heads names (suc k) ms (rest_named names k m ms h))
  where
    at : (b : Bool) → map head_of (whole.reply_ports names (suc k) (mems_of ms)) ≡ flat_map reply_ports (map (port_mem false) (delayed_of ms))
        → map head_of
        ((if b
        then record { name = codes "p_" ++ names k; width = 1; dir = In } ∷ record { name = codes "pd_" ++ names k; width = m.width.value; dir = In } ∷ []
        else [])
        ++ whole.reply_ports names (suc k) (mems_of ms))
        ≡ flat_map reply_ports (map (port_mem false) (if b then m ∷ delayed_of ms else delayed_of ms))
    at true g = ap₂ (λ n l. input (codes "p_" ++ n) 1 ∷ input (codes "pd_" ++ n) m.width.value ∷ l) (first_named names k m ms h) g
    at false g = g

-- what is asked of each delayed memory has 1 bit, and addresses that reach each of its words and no more
abbrev pub AreAsked : (ℕ → Request) → ℕ → List Mem → Type 0
AreAsked asks k ms =
    (i : ℕ) → i < length ms → is_delayed (slice_index_or (mems_of ms) i plain_mem).kind ≡ true
    → ((asks (k + i)).enable.width ≡ 1) × (2 ^ (asks (k + i)).addr.width ≡ (slice_index_or (mems_of ms) i plain_mem).depth)

request_heads : (names : ℕ → List ℕ) (asks : ℕ → Request) (k : ℕ) (ms : List Mem) → AreNamed names k ms
    → ((m : Mem) → Among m ms → Reaches m) → AreAsked asks k ms
    → map head_shown (requests_shown names asks k (mems_of ms)) ≡ flat_map request_ports (map (port_mem false) (delayed_of ms))
request_heads names asks k [] h r f = refl
request_heads names asks k (m ∷ ms) h r f =
    at (is_delayed m.kind) refl
    (request_heads names asks (suc k) ms (rest_named names k m ms h) (λ x a. r x (inr a))
    (λ i l d. (let z : k + suc i ≡ suc k + i = omega arith in rw (sym z) (f (suc i) (omega (arith, l)) d))))
  where
    at : (b : Bool) → is_delayed m.kind ≡ b
        → map head_shown (requests_shown names asks (suc k) (mems_of ms)) ≡ flat_map request_ports (map (port_mem false) (delayed_of ms))
        → map head_shown ((if b then request_shown (names k) (asks k) else []) ++ requests_shown names asks (suc k) (mems_of ms))
        ≡ flat_map request_ports (map (port_mem false) (if b then m ∷ delayed_of ms else delayed_of ms))
    at false e g = g
    at true e g =
        let z : k + 0 ≡ k = omega arith in
        let w = f 0 (omega arith) e in
        let enable : (asks k).enable.width ≡ 1 = ap (λ j. (asks j).enable.width) (sym z) ∙ w.0 in
        let reach : 2 ^ (asks k).addr.width ≡ m.depth.value = ap (λ j. 2 ^ (asks j).addr.width) (sym z) ∙ w.1 in
        ap₂ (λ n l. output (codes "q_" ++ n) (asks k).enable.width ∷ output (codes "qa_" ++ n) (asks k).addr.width ∷ l) (first_named names k m ms h) g
        ∙ ap₂
        (λ v a. output (codes "q_" ++ m.name.name) v ∷ output (codes "qa_" ++ m.name.name) a
        ∷ flat_map request_ports (map (port_mem false) (delayed_of ms))) enable
        (power_one _ _ (reach ∙ sym (r m (inl refl))))

-- ---- all

-- the ports of a pipe, kind by kind
pub by_kinds : (k : ℕ) (delayed locked : List PortMem)
    → pipe_ports k delayed locked ≡ flat_map reply_ports delayed
    ++ (flat_map stage_ports (range_with_len 0 k) ++ (flat_map commit_ports locked ++ (flat_map request_ports delayed ++ last_heads)))
by_kinds k delayed locked =
    let replies = flat_map reply_ports delayed in
    let stages = flat_map stage_ports (range_with_len 0 k) in
    let commits = flat_map commit_ports locked in
    let requests = flat_map request_ports delayed in
    append_assoc ((replies ++ stages) ++ commits) requests last_heads
    ∙ append_assoc (replies ++ stages) commits (requests ++ last_heads)
    ∙ append_assoc replies stages (commits ++ (requests ++ last_heads))

-- what a whole netlist shows has the names, directions and widths of a pipe's outputs, kind by kind
pub shown_heads : (p : Pipe) (ms : List Mem)
    → p.mems ≡ mems_of ms → 1 ≤ length p.stages
    → (commits : ℕ → Commits) (asks : ℕ → Request) (vs : ℕ → View) (gates : Gates) (moves : ℕ → Signal)
    → AreBitsWide vs gates moves (length p.stages) → ((m : Mem) → Among m ms → Reaches m) → CommitsFit commits 0 ms
    → AreAsked asks 0 ms
    → map head_shown (whole_shown p (mem_names ms) commits asks vs gates moves) ≡ flat_map stage_ports (range_with_len 0 (length p.stages))
    ++ (flat_map commit_ports (locked_of (λ m. reserves_twice m p.stmts) 0 ms) ++ (flat_map request_ports (map (port_mem false) (delayed_of ms)) ++ last_heads))
shown_heads p ms same some commits asks vs gates moves wide r h f =
    let n = length p.stages in
    let twice = λ (m : ℕ). reserves_twice m p.stmts in
    let named : AreNamed (mem_names ms) 0 ms = λ i l. ap (mem_names ms) (let z : 0 + i ≡ i = omega arith in z) in
    map-append head_shown (stages_shown vs moves n 0) _
    ∙ ap₂ (λ a b. a ++ b) (stages_heads vs gates moves n n 0 (omega arith) wide)
    (map-append head_shown (commits_shown (mem_names ms) twice commits 0 p.mems) _
    ∙ ap₂ (λ a b. a ++ b)
    (ap (λ l. map head_shown (commits_shown (mem_names ms) twice commits 0 l)) same ∙ commit_heads (mem_names ms) twice commits 0 ms named r h)
    (map-append head_shown (requests_shown (mem_names ms) asks 0 p.mems) _
    ∙ ap₂ (λ a b. a ++ b) (ap (λ l. map head_shown (requests_shown (mem_names ms) asks 0 l)) same ∙ request_heads (mem_names ms) asks 0 ms named r f)
    (ap₂ (λ a b. output (codes "ended") a ∷ output (codes "squash") b ∷ []) (wide.stages (n - 1) (omega (arith, some))).1 wide.squash)))

-- the reply ports of a netlist have the names, directions and widths of those of a pipe
pub replies_heads : (p : Pipe) (ms : List Mem)
    → p.mems ≡ mems_of ms
    → map head_of (whole.reply_ports (mem_names ms) 0 p.mems) ≡ flat_map reply_ports (map (port_mem false) (delayed_of ms))
replies_heads p ms same =
    ap (λ l. map head_of (whole.reply_ports (mem_names ms) 0 l)) same
    ∙ reply_heads (mem_names ms) 0 ms (λ i l. ap (mem_names ms) (let z : 0 + i ≡ i = omega arith in z))

-- ---- names

reply_named : (ls : List PortMem) (hs : List Head) → map name_of_head (flat_map reply_ports ls ++ hs) ≡ reply_names ls (map name_of_head hs)
reply_named [] hs = refl
reply_named (l ∷ ls) hs = ap (λ n. (codes "p_" ++ l.name) ∷ (codes "pd_" ++ l.name) ∷ n) (reply_named ls hs)

-- the names of the outputs among these
abbrev outs_in : List Head → List (List ℕ)
outs_in [] = []
outs_in (h ∷ hs) = if h.input then outs_in hs else h.name ∷ outs_in hs

stages_out : (k n : ℕ) (hs : List Head) → outs_in (flat_map stage_ports (range_with_len k n) ++ hs) ≡ stage_names k n (outs_in hs)
stages_out k zero hs = refl
stages_out k (suc n) hs =
    let next : k + 1 ≡ suc k = omega arith in
    ap (λ l. (codes "v_" ++ decimal k) ∷ (codes "g_" ++ decimal k) ∷ l)
    (ap (λ j. outs_in (flat_map stage_ports (range_with_len j n) ++ hs)) next ∙ stages_out (suc k) n hs)

commits_out : (ls : List PortMem) (hs : List Head) → outs_in (flat_map commit_ports ls ++ hs) ≡ commit_names ls (outs_in hs)
commits_out [] hs = refl
commits_out (l ∷ ls) hs = at l.twice (commits_out ls hs)
  where
    at : (b : Bool) → outs_in (flat_map commit_ports ls ++ hs) ≡ commit_names ls (outs_in hs)
        → outs_in (((first_ports l ++ (if b then second_ports l else [])) ++ flat_map commit_ports ls) ++ hs)
        ≡ (codes "c_" ++ l.name) ∷ (codes "ca_" ++ l.name) ∷ (codes "cd_" ++ l.name) ∷ second_names b l.name (commit_names ls (outs_in hs))
    at true h =
        ap (λ n. (codes "c_" ++ l.name) ∷ (codes "ca_" ++ l.name) ∷ (codes "cd_" ++ l.name)
        ∷ (codes "c2_" ++ l.name) ∷ (codes "ca2_" ++ l.name) ∷ (codes "cd2_" ++ l.name) ∷ n) h
    at false h = ap (λ n. (codes "c_" ++ l.name) ∷ (codes "ca_" ++ l.name) ∷ (codes "cd_" ++ l.name) ∷ n) h

requests_out : (ls : List PortMem) (hs : List Head) → outs_in (flat_map request_ports ls ++ hs) ≡ request_names ls (outs_in hs)
requests_out [] hs = refl
requests_out (l ∷ ls) hs = ap (λ n. (codes "q_" ++ l.name) ∷ (codes "qa_" ++ l.name) ∷ n) (requests_out ls hs)

-- the ports after the inputs are all outputs
abbrev outs_of : ℕ → List PortMem → List PortMem → List Head
outs_of k delayed locked = flat_map stage_ports (range_with_len 0 k) ++ (flat_map commit_ports locked ++ (flat_map request_ports delayed ++ last_heads))

outs_named : (k : ℕ) (delayed locked : List PortMem) → outs_in (outs_of k delayed locked) ≡ output_names k delayed locked
outs_named k delayed locked = stages_out 0 k _ ∙ ap (stage_names 0 k) (commits_out locked _ ∙ ap (commit_names locked) (requests_out delayed last_heads))

none_in : (ls : List PortMem) (hs : List Head) → outs_in (flat_map reply_ports ls ++ hs) ≡ outs_in hs
none_in [] hs = refl
none_in (l ∷ ls) hs = none_in ls hs

stages_all : (k n : ℕ) (hs : List Head)
    → outs_in hs ≡ map name_of_head hs
    → outs_in (flat_map stage_ports (range_with_len k n) ++ hs) ≡ map name_of_head (flat_map stage_ports (range_with_len k n) ++ hs)
stages_all k zero hs e = e
stages_all k (suc n) hs e = ap (λ l. (codes "v_" ++ decimal k) ∷ (codes "g_" ++ decimal k) ∷ l) (stages_all (k + 1) n hs e)

commits_all : (ls : List PortMem) (hs : List Head)
    → outs_in hs ≡ map name_of_head hs
    → outs_in (flat_map commit_ports ls ++ hs) ≡ map name_of_head (flat_map commit_ports ls ++ hs)
commits_all [] hs e = e
commits_all (l ∷ ls) hs e = at l.twice (commits_all ls hs e)
  where
    at : (b : Bool) → outs_in (flat_map commit_ports ls ++ hs) ≡ map name_of_head (flat_map commit_ports ls ++ hs)
        → outs_in (((first_ports l ++ (if b then second_ports l else [])) ++ flat_map commit_ports ls) ++ hs)
        ≡ map name_of_head (((first_ports l ++ (if b then second_ports l else [])) ++ flat_map commit_ports ls) ++ hs)
    at true h =
        ap (λ n. (codes "c_" ++ l.name) ∷ (codes "ca_" ++ l.name) ∷ (codes "cd_" ++ l.name)
        ∷ (codes "c2_" ++ l.name) ∷ (codes "ca2_" ++ l.name) ∷ (codes "cd2_" ++ l.name) ∷ n) h
    at false h = ap (λ n. (codes "c_" ++ l.name) ∷ (codes "ca_" ++ l.name) ∷ (codes "cd_" ++ l.name) ∷ n) h

requests_all : (ls : List PortMem) (hs : List Head)
    → outs_in hs ≡ map name_of_head hs
    → outs_in (flat_map request_ports ls ++ hs) ≡ map name_of_head (flat_map request_ports ls ++ hs)
requests_all [] hs e = e
requests_all (l ∷ ls) hs e = ap (λ n. (codes "q_" ++ l.name) ∷ (codes "qa_" ++ l.name) ∷ n) (requests_all ls hs e)

-- the names of ports that are those of a pipe
pub names_are : (ps : List Port) (k : ℕ) (delayed locked : List PortMem)
    → map head_of ps ≡ pipe_ports k delayed locked → map (λ (p : Port). p.name) ps ≡ port_names k delayed locked
names_are ps k delayed locked e =
    names_of_heads ps ∙ ap (map name_of_head) (e ∙ by_kinds k delayed locked)
    ∙ reply_named delayed (outs_of k delayed locked)
    ∙ ap (reply_names delayed) (sym (stages_all 0 k _ (commits_all locked _ (requests_all delayed last_heads refl))) ∙ outs_named k delayed locked)

-- and of their outputs
outputs_in : (ps : List Port) → map name_of_output (filter_map port_output ps) ≡ outs_in (map head_of ps)
outputs_in [] = refl
outputs_in (p ∷ ps) = at p.dir refl (outputs_in ps)
  where
    at : (d : Dir) → p.dir ≡ d → map name_of_output (filter_map port_output ps) ≡ outs_in (map head_of ps)
        → map name_of_output (filter_map port_output (p ∷ ps)) ≡ outs_in (map head_of (p ∷ ps))
    at In e h = rw e h
    at (Out x) e h = rw e (ap (λ l. p.name ∷ l) h)

-- the outputs of a circuit whose ports are those of a pipe have the names of the pipe's outputs
pub outputs_are : (c : Circuit) (k : ℕ) (delayed locked : List PortMem)
    → map head_of c.ports ≡ pipe_ports k delayed locked
    → map name_of_output (outputs_of c) ≡ output_names k delayed locked
outputs_are c k delayed locked e =
    outputs_in c.ports ∙ ap outs_in (e ∙ by_kinds k delayed locked) ∙ none_in delayed (outs_of k delayed locked) ∙ outs_named k delayed locked
