-- Threads and deeds whose values, advised ones, answers, reservations, writes, requests and arguments have their widths; memories of the widths and kinds of a pipe.
use Rattle.std.specs.Prelude.{◌≡◌, ℕ, suc, ◌+◌, ◌^◌, ◌<◌, ◌≤◌, List, [], ◌∷◌, length, slice_index, IfSome, if◌then◌else◌, nat_lt, ⊤}
use Rattle.pdl_semantics.specs.Flat.{Stmt, Pipe}
use Rattle.pdl_semantics.specs.Stages.{mem_at}
use Rattle.pdl_semantics.specs.Machine.{Awaited, Kept, Thread, Ask, Advised, Deeds, Reserved, Written}
use Rattle.pdl_form.specs.Form.{Form}
use Rattle.pdl_form_types.specs.Stmts.{param_widths}
use Rattle.pdl_form_values.specs.Widths.{Fit}
use Rattle.pdl_machine_pending.specs.Memory.{Memory}
use Rattle.pdl_machine_pending.specs.KeptWords.{IsKept}
use Rattle.pdl_machine_run.specs.StageDeeds.{memory_at}

-- reservations of words that are there, and values of the width of their memory
abbrev pub AreReserved : Pipe → List Reserved → Type 0
AreReserved p [] = ⊤
AreReserved p (r ∷ rs) = (r.address < (mem_at p r.mem).depth) × AreReserved p rs

-- values of the width of their memory
abbrev pub AreWritten : Pipe → List Written → Type 0
AreWritten p [] = ⊤
AreWritten p (w ∷ ws) = (w.value < 2 ^ (mem_at p w.mem).width) × AreWritten p ws

-- writes of words that are there, with values of the width of their memory
abbrev pub AreAdvised : Pipe → List Advised → Type 0
AreAdvised p [] = ⊤
AreAdvised p (w ∷ ws) = (w.mem < length p.mems) × (w.address < (mem_at p w.mem).depth) × (w.value < 2 ^ (mem_at p w.mem).width) × AreAdvised p ws

-- a variable of the width of a memory's words
pub record IsReadInto (f : Form) (x m : ℕ) : Type 0 where
  pub there : x < length f.widths
  pub width : slice_index f.widths x ≡ (mem_at f.pipe m).width

-- delayed reads of variables of the width of their memory
abbrev pub AreAsked : Form → List Ask → Type 0
AreAsked f [] = ⊤
AreAsked f (q ∷ qs) = IsReadInto f q.var q.mem × AreAsked f qs

-- reads that are awaited, of variables of the width of their memory
abbrev pub AreAwaited : Form → List Awaited → Type 0
AreAwaited f [] = ⊤
AreAwaited f (r ∷ rs) = IsReadInto f r.var r.mem × AreAwaited f rs

-- words of the width of their variable
abbrev pub AreWords : Form → List Kept → Type 0
AreWords f [] = ⊤
AreWords f (k ∷ ks) = (k.var < length f.widths) × (k.word < 2 ^ slice_index f.widths k.var) × AreWords f ks

-- how many of these statements stand before a stage
abbrev pub count_before : ℕ → List Stmt → ℕ
count_before k [] = 0
count_before k (x ∷ xs) = if nat_lt x.stage k then suc (count_before k xs) else count_before k xs

-- a thread in a stage, whose values, guess and answers fit, and that has no more advised values than there are statements before the stage, and no more reads than there are statements
pub record IsFine (f : Form) (k : ℕ) (t : Thread) : Type 0 where
  pub env : Fit f.widths t.env
  pub advice : AreWords f t.advice
  pub advised : length t.advice ≤ count_before k f.pipe.stmts
  pub guess : length t.guess ≤ length f.pipe.start
  pub awaits : AreAwaited f t.awaits
  pub kept : AreWords f t.kept
  pub few : length t.kept + length t.awaits ≤ length f.pipe.stmts

-- deeds whose values, advised ones, reservations, writes, requests and arguments have their widths
pub record AreFit (f : Form) (d : Deeds) : Type 0 where
  pub env : Fit f.widths d.env
  pub advice : AreWords f d.advice
  pub guess : length d.guess ≤ length f.pipe.start
  pub reserves : AreReserved f.pipe d.reserves
  pub writes : AreWritten f.pipe d.writes
  pub asks : AreAsked f d.asks
  pub advises : AreAdvised f.pipe d.advises
  pub child : IfSome d.child (λ args. Fit (param_widths f) args)

-- a memory for each of the pipe, of its width, depth and kind of lock
pub record AreMemories (p : Pipe) (xs : List Memory) : Type 0 where
  pub count : length xs ≡ length p.mems
  pub kept : (m : ℕ) → m < length p.mems → IsKept (2 ^ (mem_at p m).width) (mem_at p m).depth (memory_at xs m)
  pub kinds : (m : ℕ) → (mem_at p m).lock ≡ (memory_at xs m).lock
