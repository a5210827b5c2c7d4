-- What the array of a renaming lock holds as a netlist runs.
use Rattle.std.specs.Prelude.{◌≡◌, ℕ, ◌+◌, ◌<◌, false, List, [], map, length, slice_index, slice_index_or, Some, None}
use Rattle.pdl_semantics.specs.Tree as tree
use Rattle.pdl_semantics.specs.Flat.{Pipe, Rename, is_delayed}
use Rattle.pdl_semantics.specs.Flatten.{flat}
use Rattle.pdl_semantics.specs.Stages.{mem_at}
use Rattle.pdl_semantics.specs.Machine.{Pending, State, lock_of}
use Rattle.pdl_net.specs.declared.Netlist.{Netlist}
use Rattle.pdl_net.specs.Run.{start}
use Rattle.pdl_image.specs.Images.{IsImage}
use Rattle.pdl_law_parts.specs.Places.{comb_place}
use Rattle.pdl_law_parts.specs.States.{held_after}
use Rattle.pdl_law_follows.specs.Refined.{machine_after}

-- an array holds the word of each address, and the value of each pending write once that has one, all at different places
pub record HoldsApart (array : List ℕ) (depth : ℕ) (words : ℕ → ℕ) (pending : List Pending) : Type 0 where
  -- where the word of each address is, and behind the addresses where each pending write is, the oldest first
  pub place : ℕ → ℕ
  pub within : (i : ℕ) → i < depth + length pending → place i < length array
  pub apart : (i j : ℕ) → i < depth + length pending → j < depth + length pending → place i ≡ place j → i ≡ j
  pub word : (a : ℕ) → a < depth → slice_index array (place a) ≡ words a
  pub value : (k v : ℕ) → slice_index_or (map (λ e. e.value) pending) k None ≡ Some v → slice_index array (place (depth + k)) ≡ v

-- so the array of memory m does in this state of the machine, if the memory answers at once and has a renaming lock
abbrev pub IsHeldApart : Pipe → State → List (List ℕ) → ℕ → Type 0
IsHeldApart p st arrays m =
    (size : ℕ) → is_delayed (mem_at p m).kind ≡ false → (mem_at p m).lock ≡ Rename size
    → HoldsApart (slice_index_or arrays (comb_place p m) []) (mem_at p m).depth (st.arrays m) (lock_of st m)

-- as each cycle of each run begins, from each image and with each schedule of replies, the arrays hold the machine's words and pending writes so
abbrev pub KeepsPlaces : tree.Pipe → Netlist → Type 0
KeepsPlaces p n =
    (image : List (List ℕ)) (schedule : List ℕ) (m : ℕ) → IsImage n.mems image → m < length (flat p).mems
    → IsHeldApart (flat p) (machine_after (flat p) image schedule) (held_after n (start n image) schedule).arrays m
