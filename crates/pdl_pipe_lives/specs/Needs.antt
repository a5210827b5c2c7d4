-- What the statements from a stage on still need, part by part.
use Rattle.std.specs.Prelude.{◌≡◌, ℕ, suc, ◌<◌, Bool, false, ◌&&◌, ◌||◌, List, length, Option, Some, None, nat_le, slice_index_or}
use Rattle.pdl_semantics.specs.Flat.{Stmt, Stage, Pipe}
use Rattle.pdl_semantics.specs.Stages.{list_any, is_verify, reserve_stage, commit_stage}
use Rattle.pdl_form.specs.Form.{Form}
use Rattle.pdl_law_parts.specs.declared.Mark.{Mark}
use Rattle.pdl_law_parts.specs.Lives.{row_uses, forks_by, asks_mark, lives_from, verifies_from}
use Rattle.pdl_law_parts.specs.Walk.{is_locked}
use Rattle.pdl_pipe_lives.specs.declared.needs.Needs.{Needs}

-- a row of a stage from k on uses the variable
abbrev pub rows_use : ℕ → ℕ → List Stmt → Bool
rows_use k x rows = list_any (λ (r : Stmt). nat_le k r.stage && row_uses r x) rows

-- one of these stages forks by the variable
abbrev pub any_forks_by : ℕ → List Stage → Bool
any_forks_by x stages = list_any (λ (s : Stage). forks_by s.next x) stages

-- a row of a stage from k on asks for the mark of the location
abbrev pub rows_ask : ℕ → Mark → ℕ → ℕ → List Stmt → Bool
rows_ask k mark m a rows = list_any (λ (r : Stmt). nat_le k r.stage && asks_mark mark r.op m a) rows

-- a row of a stage from k on verifies the guess
abbrev pub rows_verify : ℕ → List Stmt → Bool
rows_verify k rows = list_any (λ (r : Stmt). nat_le k r.stage && is_verify r.op) rows

-- a thread keeps its ticket of a lock in stage k: after the stage of the reserves, up to that of the releases
abbrev pub goes_with : Pipe → ℕ → ℕ → Bool
goes_with p k m = is_locked p m && (nat_le (suc (reserve_stage p m)) k && nat_le k (commit_stage p m))

-- whether a last stage, where there is one, is stage k or a later one
abbrev pub lasts : ℕ → Option ℕ → Bool
lasts k None = false
lasts k (Some s) = nat_le k s

-- whether the last stage of a variable is stage k or a later one, where each variable has this last stage
abbrev pub lasts_at : List (Option ℕ) → ℕ → ℕ → Bool
lasts_at last k x = lasts k (slice_index_or last x None)

-- the later one of stage s and the last stage so far
abbrev pub IsLater : Option ℕ → ℕ → ℕ → Type 0
IsLater last s t = (k : ℕ) → nat_le k t ≡ (lasts k last || nat_le k s)

-- the last stages became these by what is used from each stage on
pub record AreNoted (old new : List (Option ℕ)) (uses : ℕ → ℕ → Bool) : Type 0 where
  pub count : length new ≡ length old
  pub last : (k x : ℕ) → x < length old → lasts_at new k x ≡ (lasts_at old k x || uses k x)

-- the last stages became these by what stage s uses
abbrev pub IsNoted : List (Option ℕ) → List (Option ℕ) → ℕ → (ℕ → Bool) → Type 0
IsNoted old new s uses = AreNoted old new (λ k x. nat_le k s && uses x)

-- the last stages on the way to what the whole is: what is left to be noted is the rest
pub record AreNotedBut (old now : List (Option ℕ)) (rest whole : ℕ → ℕ → Bool) : Type 0 where
  pub count : length now ≡ length old
  pub last : (k x : ℕ) → x < length old → (lasts_at now k x || rest k x) ≡ (lasts_at old k x || whole k x)

-- what threads of a pipe need: where the last stage that uses each variable is, and the last one that verifies the guess
pub record AreNeeds (f : Form) (n : Needs) : Type 0 where
  pub count : length n.uses.items ≡ length f.widths
  pub lives : (k x : ℕ) → x < length f.widths → lasts_at n.uses.items k x ≡ lives_from f.pipe k x
  pub verifies : (k : ℕ) → lasts k n.verifies ≡ verifies_from f.pipe k
