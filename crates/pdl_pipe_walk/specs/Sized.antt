-- Widths of what stands in a stage, and the statements of which nets are made.
use Rattle.std.specs.Prelude.{◌≡◌, ℕ, ◌^◌, ◌<◌, List, length, take}
use Rattle.pdl_semantics.specs.Flat.{Stmt, Pipe}
use Rattle.pdl_semantics.specs.Stages.{mem_at}
use Rattle.pdl_form.specs.Form.{Form, stmt_at}
use Rattle.pdl_form_types.specs.Stmts.{IsTypedStmt}
use Rattle.pdl_net.specs.Circuit.{Circuit}
use Rattle.pdl_pipe_exprs.specs.Nets.{widths_of}
use Rattle.pdl_law_parts.specs.Walk.{Reservation, Put, Letting, Birth, Ask, Advising}
use Rattle.pdl_law_parts.specs.Rows.{HasRow, IsUnlocked}
use Rattle.pdl_pipe_walk.specs.declared.nets.WalkNets.{WalkNets}
use Rattle.pdl_pipe_walk.specs.Parts.{MarkSignal, Parts, parts_in, IsThereWalk}
use Rattle.pdl_word.specs.Each.{Each}

-- a reservation's condition has 1 bit, and its address reaches each word of its memory and no more
abbrev pub IsSizedReserve : Pipe → Reservation → Type 0
IsSizedReserve p r = (r.mem < length p.mems) × (r.on.width ≡ 1) × (2 ^ r.addr.width ≡ (mem_at p r.mem).depth)

-- a write's condition has 1 bit, and its value the width of its memory's words
abbrev pub IsSizedPut : Pipe → Put → Type 0
IsSizedPut p x = (x.mem < length p.mems) × (x.on.width ≡ 1) × (x.value.width ≡ (mem_at p x.mem).width)

-- a call's arguments have the widths of the first variables
abbrev pub IsSizedBirth : Pipe → List ℕ → Birth → Type 0
IsSizedBirth p ws x = (x.on.width ≡ 1) × (widths_of x.args ≡ take (length p.start) ws)

-- a request's condition has 1 bit, and its address reaches each word of its memory and no more
abbrev pub IsSizedAsk : Pipe → Ask → Type 0
IsSizedAsk p x = (x.mem < length p.mems) × (x.on.width ≡ 1) × (2 ^ x.addr.width ≡ (mem_at p x.mem).depth)

-- an advisory write's condition has 1 bit, its memory answers at once and has no lock, its address reaches each word of this and no more, and its value has the width of the words
pub record IsSizedAdvising (p : Pipe) (x : Advising) : Type 0 where
  pub low : x.mem < length p.mems
  pub unlocked : IsUnlocked p x.mem
  pub on : x.on.width ≡ 1
  pub reach : 2 ^ x.addr.width ≡ (mem_at p x.mem).depth
  pub value : x.value.width ≡ (mem_at p x.mem).width

-- the variables have these widths
pub record IsSized (p : Pipe) (ws : List ℕ) (w : Parts) : Type 0 where
  pub vars : widths_of w.vars ≡ ws
  pub marks : Each (λ (h : MarkSignal). h.signal.width ≡ 1) w.marks
  pub ready : w.ready.width ≡ 1
  pub reserves : Each (IsSizedReserve p) w.reserves
  pub puts : Each (IsSizedPut p) w.puts
  pub lettings : Each (λ (x : Letting). x.on.width ≡ 1) w.lettings
  pub births : Each (IsSizedBirth p ws) w.births
  pub asks : Each (IsSizedAsk p) w.asks
  pub advises : Each (IsSizedAdvising p) w.advises
  pub guess : widths_of w.guess ≡ take (length p.start) ws
  pub fails : w.fails.width ≡ 1
  pub barrier : w.barrier.width ≡ 1

-- a stage's nets are there, with their widths
pub record IsWalk (c : Circuit) (p : Pipe) (ws : List ℕ) (w : WalkNets) : Type 0 where
  pub there : IsThereWalk c w
  pub sized : IsSized p ws (parts_in c w)

-- the nets of a stage of a flat form are there, with their widths
abbrev pub IsWalkOf : Form → Circuit → WalkNets → Type 0
IsWalkOf f c w = IsWalk c f.pipe f.widths w

-- ---- statements

-- a typed statement for which a row stands
abbrev pub IsWalked : Form → Stmt → Type 0
IsWalked f x = IsTypedStmt f x × HasRow f.pipe x.op

-- nets can be made of each of these statements: it is typed, and a row stands for it
abbrev pub AreWalked : Form → List Stmt → Type 0
AreWalked f xs = Each (IsWalked f) xs

-- each of these numbers is that of such a statement
abbrev pub AreWalkedRows : Form → List Stmt → List ℕ → Type 0
AreWalkedRows f xs is = Each (λ (i : ℕ). (i < length xs) × IsWalked f (stmt_at xs i)) is
