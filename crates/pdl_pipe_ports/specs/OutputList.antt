-- All outputs of a pipe, with their nets.
use Rattle.std.specs.Prelude.{ℕ, suc, Bool, List, [], ◌∷◌, ◌++◌, if◌then◌else◌, Option, Some, None, codes, decimal}
use Rattle.pdl_net.specs.declared.Net.{Net}
use Rattle.pdl_lockapi.specs.declared.LockNets.{LockNets}
use Rattle.pdl_pipe_beside.specs.declared.outside.RequestNets.{RequestNets}
use Rattle.pdl_pipe_ports.specs.declared.outputs.ShownNets.{ShownNets}
use Rattle.pdl_pipe_ports.specs.declared.outputs.OutNet.{OutNet}

-- an output of this name, with its net
abbrev pub out : List ℕ → Net → OutNet
out n x = record { name = n; net = x }

-- of each stage whether it holds a thread and whether that moves; the first has the number k
abbrev pub stages_outs : ℕ → List ShownNets → List OutNet
stages_outs k [] = []
stages_outs k (s ∷ ss) = out (codes "v_" ++ decimal k) s.valid ∷ out (codes "g_" ++ decimal k) s.moves ∷ stages_outs (suc k) ss

-- what a memory with a lock commits first
abbrev pub first_outs : List ℕ → LockNets → List OutNet
first_outs name n = out (codes "c_" ++ name) n.commit ∷ out (codes "ca_" ++ name) n.addr ∷ out (codes "cd_" ++ name) n.value ∷ []

-- what it commits second
abbrev pub second_outs : List ℕ → LockNets → List OutNet
second_outs name n = out (codes "c2_" ++ name) n.commit2 ∷ out (codes "ca2_" ++ name) n.addr2 ∷ out (codes "cd2_" ++ name) n.value2 ∷ []

-- what a memory with a lock commits: of a second commit where some path reserves it twice for writing
abbrev pub commit_outs : List ℕ → Bool → Option LockNets → List OutNet
commit_outs name twice None = []
commit_outs name twice (Some n) = first_outs name n ++ (if twice then second_outs name n else [])

-- what all memories with a lock commit
abbrev pub commits_outs : List (List ℕ) → List Bool → List (Option LockNets) → List OutNet
commits_outs (name ∷ names) (t ∷ ts) (n ∷ ns) = commit_outs name t n ++ commits_outs names ts ns
commits_outs _ _ _ = []

-- what is asked of a delayed memory
abbrev pub request_outs : List ℕ → Option RequestNets → List OutNet
request_outs name None = []
request_outs name (Some r) = out (codes "q_" ++ name) r.enable ∷ out (codes "qa_" ++ name) r.addr ∷ []

-- what is asked of all delayed memories
abbrev pub requests_outs : List (List ℕ) → List (Option RequestNets) → List OutNet
requests_outs (name ∷ names) (r ∷ rs) = request_outs name r ++ requests_outs names rs
requests_outs _ _ = []

-- whether a thread ends: that of the last stage moves
abbrev pub last_moves : List ShownNets → Net → Net
last_moves [] x = x
last_moves (s ∷ ss) x = last_moves ss s.moves

-- all outputs: of stages, of commits, of requests, whether a thread ends, and whether a squash happens
abbrev pub all_outs : List (List ℕ) → List Bool → List ShownNets → List (Option LockNets) → List (Option RequestNets) → Net → List OutNet
all_outs names ts ss ns rs squash =
    ((stages_outs 0 ss ++ commits_outs names ts ns) ++ requests_outs names rs) ++ out (codes "ended") (last_moves ss squash) ∷ out (codes "squash") squash ∷ []
