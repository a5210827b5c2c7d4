-- The values of the ports of a pipe, in their order, and the replies of its delayed memories.
use Rattle.std.specs.Prelude.{ℕ, zero, suc, ◌/◌, ◌%◌, ◌==◌, Bool, if◌then◌else◌, List, [], ◌∷◌, ◌++◌, Option, Some, None, count_by}
use Rattle.pdl_word.specs.Words.{bit}
use Rattle.pdl_semantics.specs.Flat.{Lock, Mem, Pipe, has_lock, is_delayed}
use Rattle.pdl_semantics.specs.SecondWrites.{all_twice}
use Rattle.pdl_semantics.specs.Cycle.{PortWrite, Ports}

-- of each stage whether it holds a thread and whether that moves
abbrev pub stage_values : List Bool → List Bool → List ℕ
stage_values (v ∷ vs) (m ∷ ms) = bit v ∷ bit m ∷ stage_values vs ms
stage_values _ _ = []

-- whether there is a first commit, with address and value, and whether there is a second one; 0 where there is none
abbrev pub shown_values : List PortWrite → List ℕ
shown_values [] = 0 ∷ 0 ∷ 0 ∷ []
shown_values (w ∷ ws) = 1 ∷ w.address ∷ w.value ∷ []

-- the values of one commit after those of another
abbrev pub second_values : List PortWrite → List ℕ
second_values [] = 0 ∷ 0 ∷ 0 ∷ []
second_values (w ∷ ws) = shown_values ws

-- of a memory with a lock its commits: of the second one where some path reserves it twice for writing
abbrev pub commit_values : Lock → Bool → List PortWrite → List ℕ
commit_values l twice ws = if has_lock l then shown_values ws ++ (if twice then second_values ws else []) else []

-- of each memory with a lock its commits
abbrev pub all_commit_values : List Bool → List Mem → List (List PortWrite) → List ℕ
all_commit_values (t ∷ ts) (m ∷ ms) (e ∷ es) = commit_values m.lock t e ++ all_commit_values ts ms es
all_commit_values _ _ _ = []

-- how many memories are delayed
abbrev pub delayed_count : Pipe → ℕ
delayed_count p = count_by (λ (x : Mem). is_delayed x.kind) p.mems

-- the reply bits of a cycle for n delayed memories
abbrev pub replies_of : ℕ → ℕ → List Bool
replies_of zero b = []
replies_of (suc n) b = (b % 2 == 1) ∷ replies_of n (b / 2)

-- whether there is a request, and its address, 0 where there is none
abbrev pub request_values : Option ℕ → List ℕ
request_values None = 0 ∷ 0 ∷ []
request_values (Some a) = 1 ∷ a ∷ []

-- of each delayed memory its request
abbrev pub all_request_values : List Mem → List (Option ℕ) → List ℕ
all_request_values (m ∷ ms) (q ∷ qs) = (if is_delayed m.kind then request_values q else []) ++ all_request_values ms qs
all_request_values _ _ = []

-- the values of all ports, in the order of a netlist's outputs
abbrev pub whole_values : Pipe → Ports → List ℕ
whole_values p o =
    stage_values o.valid o.moves
    ++ (all_commit_values (all_twice p.stmts 0 p.mems) p.mems o.commits ++ (all_request_values p.mems o.requests ++ bit o.ended ∷ bit o.squash ∷ []))
