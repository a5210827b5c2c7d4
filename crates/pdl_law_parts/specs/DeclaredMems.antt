-- The memories of a netlist as a pipe declares them: the names of ports and arrays, and their sizes.
use Rattle.std.specs.Prelude.{◌≡◌, ℕ, zero, suc, ◌+◌, ◌^◌, ◌<◌, ◌≤◌, Bool, true, false, List, [], ◌∷◌, ◌++◌, if◌then◌else◌, length, Option, Some, None}
use Rattle.std.specs.Option.{is_some}
use Rattle.std.specs.List.{list_all}
use Rattle.pdl_semantics.specs.Tree.{LockDecl, Mem}
use Rattle.pdl_lockapi.specs.Laws.{words_of}
use Rattle.pdl_rules.specs.Refusal.{answers_at_once}
use Rattle.pdl_rules.specs.Typed.{AreDistinct, AreSized}
use Rattle.pdl_rules.specs.Widths.{address_bits}
use Rattle.pdl_net.specs.Circuit.{Shape}
use Rattle.pdl_net.specs.Pipe.{PortMem}
use Rattle.pdl_net.specs.Signal.{Signal}
use Rattle.pdl_law_parts.specs.Ports.{Commit, Commits}
use Rattle.pdl_law_parts.specs.Views.{View, Gates}

-- the name of a memory by its number
abbrev pub mem_names : List Mem → ℕ → List ℕ
mem_names [] k = []
mem_names (m ∷ ms) zero = m.name.name
mem_names (m ∷ ms) (suc k) = mem_names ms k

-- whether the memory of a number has a lock
abbrev pub has_lock : List Mem → ℕ → Bool
has_lock [] m = false
has_lock (x ∷ xs) zero = is_some x.lock
has_lock (x ∷ xs) (suc m) = has_lock xs m

-- how many words a memory's array has: as many as its lock keeps
abbrev pub array_words : Option LockDecl → ℕ → ℕ
array_words None d = d
array_words (Some l) d = words_of l.kind d

-- the shape of a memory's array, with as many words as its lock keeps
abbrev pub shape_of_mem : Mem → Shape
shape_of_mem m = record { name = m.name.name; width = m.width.value; depth = array_words m.lock m.depth.value }

-- a memory as its ports tell it, where this says whether some path reserves it twice for writing
abbrev pub port_mem : Bool → Mem → PortMem
port_mem twice m = record { name = m.name.name; width = m.width.value; bits = address_bits m.depth.value; twice = twice }

-- what stands for a memory in a list of the locked ones
abbrev pub if_locked : {X : Type 0} → Mem → List X → List X
if_locked m xs = if is_some m.lock then xs else []

-- the memories with a lock, in order, where this says of each memory by its number whether some path reserves it twice; the first has the number k
abbrev pub locked_of : (ℕ → Bool) → ℕ → List Mem → List PortMem
locked_of twice k [] = []
locked_of twice k (m ∷ ms) = if_locked m (port_mem (twice k) m ∷ []) ++ locked_of twice (suc k) ms

-- memories that keep the rules on names and sizes, of which none is delayed
pub record AreDeclared (ms : List Mem) : Type 0 where
  pub distinct : AreDistinct ms
  pub sized : AreSized ms
  pub reach : list_all (λ (m : Mem). Rattle.pdl_rules.specs.Limits.is_depth m.depth.value) ms ≡ true
  pub comb : list_all answers_at_once ms ≡ true
  pub few : length ms ≤ 16

-- what the m-th memory commits has 1 bit, addresses that reach each of its words and no more, and a word's width; the first has the number k
pub record FitsMem (m : Mem) (x : Commit) : Type 0 where
  pub enable : x.enable.width ≡ 1
  pub reach : 2 ^ x.addr.width ≡ m.depth.value
  pub value : x.value.width ≡ m.width.value

-- what each of these memories that has a lock commits fits it; the first has the number k
abbrev pub CommitsFit : (ℕ → Commits) → ℕ → List Mem → Type 0
CommitsFit commits k [] = Rattle.std.specs.Prelude.⊤
CommitsFit commits k (m ∷ ms) =
    (is_some m.lock ≡ true → FitsMem m (commits k).first × FitsMem m (commits k).second) × CommitsFit commits (suc k) ms

-- each stage's outputs have one bit, and so has that of squashes
pub record AreBitsWide (vs : ℕ → View) (gates : Gates) (moves : ℕ → Signal) (n : ℕ) : Type 0 where
  pub stages : (k : ℕ) → k < n → ((vs k).valid.width ≡ 1) × ((moves k).width ≡ 1)
  pub squash : gates.squash.width ≡ 1
