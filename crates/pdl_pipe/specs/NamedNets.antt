-- What the nets of a pipe's stages stand for, as they are named when all nets are made.
use Rattle.std.specs.Prelude.{◌≡◌, ℕ, ◌<◌, List, length, Contains, ◌⊎◌, ⊤}
use Rattle.pdl_word.specs.Each.{Each}
use Rattle.pdl_form.specs.Form.{Form}
use Rattle.pdl_net.specs.declared.Net.{Net}
use Rattle.pdl_net.specs.Circuit.{Circuit}
use Rattle.pdl_net.specs.Signal.{Signal}
use Rattle.pdl_net.specs.Meaning.{IsThere, signal}
use Rattle.pdl_law_parts.specs.Views.{View}
use Rattle.pdl_pipe_exprs.specs.Nets.{signal_at}
use Rattle.pdl_pipe_walk.specs.Locked.{Members}
use Rattle.pdl_pipe_nexts.specs.declared.line.StageLine.{StageLine}
use Rattle.pdl_pipe_nexts.specs.Lines.{line_pipe, line_views, line_moves}
use Rattle.pdl_pipe.specs.declared.names.Role.{Role}
use Rattle.pdl_pipe.specs.declared.names.Role.TheVariants.{Holds, Moves, Keeps, Ends, Guess, Marked, Ticket, Lock, Port, Order, Tail}
use Rattle.pdl_pipe.specs.declared.names.NamedNet.{NamedNet}
use Rattle.pdl_pipe.specs.Emitted.{IsEmitted}
use Rattle.pdl_pipe.specs.Names.{IsLive, IsNamed}

-- ---- one name

-- a signal is the one that a role speaks of, among those of stages with these views and moves: whether a stage holds a thread, whether that moves, a variable as it is kept or after the statements, an argument of the guess as the stage begins; of another role nothing is asked
abbrev pub IsSignalOf : (ℕ → View) → (ℕ → Signal) → Role → Signal → Type 0
IsSignalOf vs moves (Holds k) f = f ≡ (vs k).valid
IsSignalOf vs moves (Moves k) f = f ≡ moves k
IsSignalOf vs moves (Keeps k x) f = f ≡ (vs k).kept x
IsSignalOf vs moves (Ends k x) f = f ≡ (vs k).ended.vars x
IsSignalOf vs moves (Guess k i) f = f ≡ signal_at (vs k).begun.guess i
IsSignalOf vs moves (Marked k h m a) f = ⊤
IsSignalOf vs moves (Ticket k m) f = ⊤
IsSignalOf vs moves (Lock m i) f = ⊤
IsSignalOf vs moves (Port m i) f = ⊤
IsSignalOf vs moves (Order k i) f = ⊤
IsSignalOf vs moves (Tail k m) f = ⊤

-- a role of which nothing is asked
abbrev pub IsUntold : Role → Type 0
IsUntold (Holds k) = ⊥
IsUntold (Moves k) = ⊥
IsUntold (Keeps k x) = ⊥
IsUntold (Ends k x) = ⊥
IsUntold (Guess k i) = ⊥
IsUntold (Marked k h m a) = ⊤
IsUntold (Ticket k m) = ⊤
IsUntold (Lock m i) = ⊤
IsUntold (Port m i) = ⊤
IsUntold (Order k i) = ⊤
IsUntold (Tail k m) = ⊤

-- a net of a circuit with a line of stages means what a role speaks of
abbrev pub MeansRole : Circuit → StageLine → Role → Net → Type 0
MeansRole c x role y = IsSignalOf (line_views c x) (line_moves c x) role (signal c y)

-- it is named for what it is there
pub record IsNamedIn (c : Circuit) (x : StageLine) (n : NamedNet) : Type 0 where
  pub there : IsThere c n.net
  pub live : IsLive (line_pipe x) n.role
  pub means : MeansRole c x n.role n.net

-- ---- all names

-- a variable leaves a stage as it is kept there: the net that is named for the one is the other too
abbrev pub IsPassedIn : Circuit → StageLine → List NamedNet → ℕ → ℕ → Type 0
IsPassedIn c x names k v = (y : Net) × Contains names (record { net = y; role = Keeps k v }) × MeansRole c x (Ends k v) y

-- a variable of a stage has its names
pub record HasVarNames (c : Circuit) (x : StageLine) (names : List NamedNet) (k v : ℕ) : Type 0 where
  pub keeps : IsNamed names (Keeps k v)
  pub ends : IsNamed names (Ends k v) ⊎ IsPassedIn c x names k v

-- a stage has all names that it may have
pub record HasStageNames (c : Circuit) (x : StageLine) (names : List NamedNet) (k : ℕ) : Type 0 where
  pub holds : IsNamed names (Holds k)
  pub moves : IsNamed names (Moves k)
  pub vars : (v : ℕ) → IsLive (line_pipe x) (Keeps k v) → HasVarNames c x names k v
  pub guess : (i : ℕ) → IsLive (line_pipe x) (Guess k i) → IsNamed names (Guess k i)

-- names are added: each name that was there stays, and each new one is of a net of this circuit for what it is
pub record AddsNames (c : Circuit) (x : StageLine) (old new : List NamedNet) : Type 0 where
  pub each : Each (IsNamedIn c x) old → Each (IsNamedIn c x) new
  pub stays : (y : NamedNet) → Contains old y → Contains new y

-- each net that has a name is what it is named for, and the stages have all names that they may have
pub record AreNamedIn (c : Circuit) (x : StageLine) (names : List NamedNet) : Type 0 where
  pub each : Each (IsNamedIn c x) names
  pub stages : (k : ℕ) → k < length (line_pipe x).stages → HasStageNames c x names k

-- all nets of a form, with its outputs, and the names of its nets
pub record IsNamedEmitted {T : Type 0} (l : Members T) (c : Circuit) (f : Form) (names : List NamedNet) : Type 0 where
  pub emitted : IsEmitted l c f
  pub named : AreNamedIn c emitted.nets.line names
