-- Images, and turns, of a pipe whose words and values have their widths.
use Rattle.std.specs.Prelude.{◌≡◌, ℕ, ◌^◌, ◌<◌, ◌≤◌, List, length, slice_index}
use Rattle.std.specs.List.{All}
use Rattle.pdl_semantics.specs.Flat.{Pipe, Commit, word_at}
use Rattle.pdl_semantics.specs.Stages.{mem_at}
use Rattle.pdl_semantics.specs.Sequential.{Run}
use Rattle.pdl_form.specs.Form.{Form}
use Rattle.pdl_form_values.specs.Widths.{Fit}
use Rattle.pdl_seq.specs.declared.commit.Write as r_write
use Rattle.pdl_seq.specs.declared.turn.Turn as r_turn
use Rattle.pdl_seq.specs.Turns.{list_at, run_view}

-- for each memory of the pipe as many words as it has, of its width
pub record IsImageFor (p : Pipe) (lists : List (List ℕ)) : Type 0 where
  pub count : length lists ≡ length p.mems
  pub depth : (m : ℕ) → m < length p.mems → length (list_at lists m) ≡ (mem_at p m).depth
  pub words : (m a : ℕ) → m < length p.mems → slice_index (list_at lists m) a < 2 ^ (mem_at p m).width

-- a word that is there, with a value of its width
abbrev pub IsWord : Pipe → ℕ → ℕ → ℕ → Type 0
IsWord p m a v = (m < length p.mems) × (a < (mem_at p m).depth) × (v < 2 ^ (mem_at p m).width)

-- each of these commits is to a word that is there, with a value of its width
abbrev pub AreCommits : Pipe → List Commit → Type 0
AreCommits p cs = All (λ (c : Commit). IsWord p c.mem c.address c.value) cs

-- each of these numbered writes is to a word that is there, with a value of its width
abbrev pub AreWrites : Pipe → List r_write.Write → Type 0
AreWrites p ws = All (λ (w : r_write.Write). IsWord p w.mem w.addr w.value) ws

-- arguments that fit the first variables, or fewer
pub record AreArgs (f : Form) (args : List ℕ) : Type 0 where
  pub few : length args ≤ length f.pipe.start
  pub below : (x : ℕ) → slice_index args x < 2 ^ slice_index f.widths x

-- for each memory of the pipe as many words as it has
pub record IsShaped (p : Pipe) (lists : List (List ℕ)) : Type 0 where
  pub count : length lists ≡ length p.mems
  pub depth : (m : ℕ) → m < length p.mems → length (list_at lists m) ≡ (mem_at p m).depth

-- words, values, arguments and writes of their widths
pub record AreFitting (f : Form) (r : Run) : Type 0 where
  pub words : (m a : ℕ) → m < length f.pipe.mems → word_at r.arrays m a < 2 ^ (mem_at f.pipe m).width
  pub values : Fit f.widths r.env
  pub next_args : AreArgs f r.next
  pub commits : AreCommits f.pipe r.writes

-- words, values, arguments and writes of a turn have their numbers and their widths
pub record IsFit (f : Form) (t : r_turn.Turn) : Type 0 where
  pub shaped : IsShaped f.pipe t.memories.items
  pub fitting : AreFitting f (run_view t)
