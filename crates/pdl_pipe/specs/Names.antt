-- What the nets of a netlist stand for: what each shows of the machine's threads, in each cycle of each run.
use Rattle.std.specs.Prelude.{◌≡◌, ℕ, ◌<◌, Bool, true, List, [], ◌∷◌, length, slice_index, cond, Contains, ◌⊎◌, Some, is_some, ⊤}
use Rattle.pdl_word.specs.Each.{Each}
use Rattle.pdl_word.specs.Words.{bit}
use Rattle.pdl_semantics.specs.Tree as tree
use Rattle.pdl_semantics.specs.Flat.{Pipe}
use Rattle.pdl_semantics.specs.Flatten.{flat}
use Rattle.pdl_semantics.specs.Machine as machine
use Rattle.pdl_semantics.specs.Machine.{Thread, deeds, with_kept, all_values}
use Rattle.pdl_net.specs.declared.Net.{Net}
use Rattle.pdl_net.specs.declared.Netlist.{Netlist}
use Rattle.pdl_net.specs.Circuit.{circuit_of}
use Rattle.pdl_net.specs.Meaning.{IsThere}
use Rattle.pdl_net.specs.Cycle.{net_value}
use Rattle.pdl_net.specs.Run.{start, state_in}
use Rattle.pdl_net_needed.specs.Needed.{Choice, KeepsNeeded, is_kept}
use Rattle.pdl_net_needed.specs.Pruned.{moved_net, pruned}
use Rattle.pdl_image.specs.Images.{IsImage}
use Rattle.pdl_law_sides.specs.Slots.{slot, here, locks_ready, stage_moves}
use Rattle.pdl_law_parts.specs.Places.{delayed_count}
use Rattle.pdl_law_parts.specs.Lives.{lives_from, verifies_from}
use Rattle.pdl_law_parts.specs.States.{held_after}
use Rattle.pdl_law_sides.specs.WholeNetlist.{replies_of}
use Rattle.pdl_law_follows.specs.Refined.{machine_after}
use Rattle.pdl_pipe.specs.declared.names.Role.{Role}
use Rattle.pdl_pipe.specs.declared.names.Role.TheVariants.{Holds, Moves, Keeps, Ends, Guess, Marked, Ticket, Lock, Port, Order, Tail}
use Rattle.pdl_pipe.specs.declared.names.NamedNet.{NamedNet}

-- ---- one name

-- the value of a net of a netlist after a schedule, in a cycle with these reply bits
abbrev pub value_after : Netlist → List (List ℕ) → List ℕ → ℕ → Net → ℕ
value_after n image schedule bits x = net_value (circuit_of n) (state_in (held_after n (start n image) schedule) bits) x

-- a role speaks of a stage of the pipe, and of what its threads still need there
abbrev pub IsLive : Pipe → Role → Type 0
IsLive p (Holds k) = k < length p.stages
IsLive p (Moves k) = k < length p.stages
IsLive p (Keeps k x) = (k < length p.stages) × (x < p.vars) × (lives_from p k x ≡ true)
IsLive p (Ends k x) = (k < length p.stages) × (x < p.vars) × (lives_from p k x ≡ true)
IsLive p (Guess k i) = (k < length p.stages) × (i < length p.start) × (verifies_from p k ≡ true)
IsLive p (Marked k h m a) = ⊤
IsLive p (Ticket k m) = ⊤
IsLive p (Lock m i) = ⊤
IsLive p (Port m i) = ⊤
IsLive p (Order k i) = ⊤
IsLive p (Tail k m) = ⊤

-- a number is what a role says of a state of the machine with these replies: whether a stage holds a thread, and whether that moves; a variable of the thread as it was kept, and, where the locks let the thread move, after the statements of its stage; an argument of its guess. Of the registers of marks, tickets, locks, ports, orders and tails nothing is said
abbrev pub IsShown : Pipe → machine.State → List Bool → Role → ℕ → Type 0
IsShown p st bits (Holds k) v = v ≡ bit (is_some (slot st k))
IsShown p st bits (Moves k) v = v ≡ bit (stage_moves p st bits k)
IsShown p st bits (Keeps k x) v = (t : Thread) → slot st k ≡ Some t → v ≡ slice_index (with_kept t.advice (with_kept t.kept t.env)) x
IsShown p st bits (Ends k x) v =
    (t : Thread) → here p st bits k ≡ Some t → locks_ready p st t.number (deeds p st k t) ≡ true → v ≡ slice_index (all_values (deeds p st k t)) x
IsShown p st bits (Guess k i) v = (t : Thread) → slot st k ≡ Some t → length t.guess ≡ length p.start → v ≡ slice_index t.guess i
IsShown p st bits (Marked k h m a) v = ⊤
IsShown p st bits (Ticket k m) v = ⊤
IsShown p st bits (Lock m i) v = ⊤
IsShown p st bits (Port m i) v = ⊤
IsShown p st bits (Order k i) v = ⊤
IsShown p st bits (Tail k m) v = ⊤

-- in each cycle of each run, from each image and with each schedule of replies, a net shows what its role says
abbrev pub ShowsRole : tree.Pipe → Netlist → Role → Net → Type 0
ShowsRole p n role x =
    (image : List (List ℕ)) (schedule : List ℕ) (bits : ℕ) → IsImage n.mems image
    → IsShown (flat p) (machine_after (flat p) image schedule) (replies_of (delayed_count (flat p)) bits) role (value_after n image schedule bits x)

-- a net of a netlist is named for what it shows
pub record IsName (p : tree.Pipe) (n : Netlist) (x : NamedNet) : Type 0 where
  pub there : IsThere (circuit_of n) x.net
  pub live : IsLive (flat p) x.role
  pub shows : ShowsRole p n x.role x.net

-- ---- all names

-- some net is named for a role
abbrev pub IsNamed : List NamedNet → Role → Type 0
IsNamed names role = (y : Net) × Contains names (record { net = y; role = role })

-- what the net that keeps a variable shows is the variable after the stage's statements too
abbrev pub IsPassed : tree.Pipe → Netlist → List NamedNet → ℕ → ℕ → Type 0
IsPassed p n names k x = (y : Net) × Contains names (record { net = y; role = Keeps k x }) × ShowsRole p n (Ends k x) y

-- each net that has a name shows what it is named for, and each stage has names for whether it holds a thread, whether that moves, each variable that lives on, as it is kept and after the statements, and each argument of a guess that is still verified
pub record AreAllNames (p : tree.Pipe) (n : Netlist) (names : List NamedNet) : Type 0 where
  pub each : Each (IsName p n) names
  pub holds : (k : ℕ) → IsLive (flat p) (Holds k) → IsNamed names (Holds k)
  pub moves : (k : ℕ) → IsLive (flat p) (Moves k) → IsNamed names (Moves k)
  pub keeps : (k x : ℕ) → IsLive (flat p) (Keeps k x) → IsNamed names (Keeps k x)
  pub ends : (k x : ℕ) → IsLive (flat p) (Ends k x) → IsNamed names (Ends k x) ⊎ IsPassed p n names k x
  pub guess : (k i : ℕ) → IsLive (flat p) (Guess k i) → IsNamed names (Guess k i)

-- the names of the nets that are kept, by their new numbers
abbrev pub names_kept : Choice → List NamedNet → List NamedNet
names_kept k [] = []
names_kept k (x ∷ xs) = cond (is_kept k x.net) (record { net = moved_net k x.net; role = x.role } ∷ names_kept k xs) (names_kept k xs)

-- the names of the needed part of a netlist that has all names: each net that has one shows in each cycle what it is named for, and none is missing but of nets that nothing needs
pub record AreNames (p : tree.Pipe) (n : Netlist) (names : List NamedNet) : Type 0 where
  pub each : Each (IsName p n) names
  pub whole : Netlist
  pub all : List NamedNet
  pub are_all : AreAllNames p whole all
  pub kept : Choice
  pub needed : KeepsNeeded (circuit_of whole) kept
  pub part : n ≡ pruned kept whole
  pub found : names ≡ names_kept kept all
