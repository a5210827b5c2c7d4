-- What ports tell of a pipe: its stages and memories, by the names that begin with a prefix.
use Rattle.std.specs.Prelude.{◌==◌, ℕ, suc, Bool, false, List, [], ◌∷◌, ◌++◌, length, drop, filter_map, slice_index, slice_index_or, cond, codes, Option, Some, None}
use Rattle.std.specs.Option.{is_some, option_map}
use Rattle.pdl_kit.specs.declared.mem_info.MemInfo.{MemInfo}
use Rattle.pdl_net.specs.declared.Netlist.{Netlist}
use Rattle.pdl_net.specs.Pipe.{Head, PortMem}
use Rattle.pdl_vread_pipe.specs.declared.shape.Shape.{Shape}

-- the netlist with these memories
abbrev pub with_mems : Netlist → List MemInfo → Netlist
with_mems n ms = record n { mems = ms }

-- what stands after a prefix, where a name begins with it
abbrev pub strip : List ℕ → List ℕ → Option (List ℕ)
strip [] x = Some x
strip (p ∷ ps) [] = None
strip (p ∷ ps) (c ∷ cs) = cond (p == c) (strip ps cs) None

-- of each port whose name begins with a prefix, what stands after it
abbrev pub names : List ℕ → List Head → List (List ℕ)
names prefix heads = filter_map (λ h. strip prefix h.name) heads

-- the widths of these ports
abbrev pub widths : List ℕ → List Head → List ℕ
widths prefix heads = filter_map (λ h. option_map (λ _. h.width) (strip prefix h.name)) heads

-- whether the first of some ports has a name that begins with `c2_`
abbrev pub begins_second : List Head → Bool
begins_second [] = false
begins_second (h ∷ hs) = is_some (strip (codes "c2_") h.name)

-- of a port before these, where its name begins with `c_`, whether the third of these has a name that begins with `c2_`
abbrev pub second_after : Head → List Head → List Bool
second_after h hs = cond (is_some (strip (codes "c_") h.name)) (begins_second (drop 2 hs) ∷ []) []

-- of each port whose name begins with `c_`, whether the third one after it has a name that begins with `c2_`
abbrev pub seconds : List Head → List Bool
seconds [] = []
seconds (h ∷ hs) = second_after h hs ++ seconds hs

-- the memories of names from the k-th on, with their widths and address bits, and whether a cycle may commit two writes
abbrev pub mems_from : ℕ → List (List ℕ) → List ℕ → List ℕ → List Bool → List PortMem
mems_from k [] ws bs ts = []
mems_from k (n ∷ ns) ws bs ts =
    record { name = n; width = slice_index ws k; bits = slice_index bs k; twice = slice_index_or ts k false } ∷ mems_from (suc k) ns ws bs ts

-- the memories with a port of one prefix, their words and addresses being told by ports of two others
abbrev pub mems : List ℕ → List ℕ → List ℕ → List Bool → List Head → List PortMem
mems prefix word address twice heads = mems_from 0 (names prefix heads) (widths word heads) (widths address heads) twice

-- the stages, the delayed memories, of which nothing tells two commits, and the locked ones
abbrev pub told : List Head → Shape
told heads = record {
  stages = length (names (codes "v_") heads);
  delayed = mems (codes "p_") (codes "pd_") (codes "qa_") [] heads;
  locked = mems (codes "c_") (codes "cd_") (codes "ca_") (seconds heads) heads;
}
