-- Facts of the stage graph: where a thread goes from a stage, and how the branches of forks lie between their fork and their merge. A fork may stand in a branch of another, so what is said of the trunk is said of the stages of each branch too.
use Rattle.std.specs.Prelude.{◌≡◌, ℕ, suc, ◌≤◌, ◌<◌, ◌⊎◌, Bool, true, false, not, List, [], ◌∷◌, ◌++◌, length, Option, Some, None, ◌==◌, nat_lt, if◌then◌else◌, slice_index}
use Rattle.pdl_theory_turns.specs.semantics.Flat.{Pipe, Branch, Next, Ends, Goes, Forks}
use Rattle.pdl_theory_turns.specs.semantics.Stages.{stage_at, is_inside, goes_to, commit_stage, reserve_stage}

-- a stage stands in just these branches, the innermost first
abbrev pub Home : Pipe → List Branch → ℕ → Type 0
Home p c s = (stage_at p s).branches ≡ c

-- it stands in these branches and perhaps further inside
abbrev pub Within : Pipe → List Branch → ℕ → Type 0
Within p c s = (inner : List Branch) × ((stage_at p s).branches ≡ inner ++ c)

-- it stands in no branch
abbrev pub Trunk : Pipe → ℕ → Type 0
Trunk p r = Home p [] r

-- the stage that a thread goes to, past the last where it ends
abbrev pub stage_or : ℕ → Option ℕ → ℕ
stage_or end None = end
stage_or end (Some n) = n

-- the stage that these values lead to from stage s, past the last where a thread ends
abbrev pub next_of : Pipe → ℕ → List ℕ → ℕ
next_of p s env = stage_or (length p.stages) (goes_to (stage_at p s).next env)

-- a thread in stage s stands behind one in the stage bound: each stage of just these branches that it has reached is one that the other has left
abbrev pub Below : Pipe → List Branch → ℕ → ℕ → Type 0
Below p c bound s = (r : ℕ) → Home p c r → r ≤ s → r < bound

-- the stage graph
pub record Graph (p : Pipe) : Type 0 where
  pub some_stage : 0 < length p.stages
  pub trunk_start : Trunk p 0
  pub trunk_past : (r : ℕ) → length p.stages ≤ r → Trunk p r
  pub trunk_reserve : (m : ℕ) → Trunk p (reserve_stage p m)
  pub trunk_commit : (m : ℕ) → Trunk p (commit_stage p m)
  pub leaves : (s : ℕ) (env : List ℕ) → s < length p.stages
      → goes_to (stage_at p s).next env ≡ (if nat_lt (next_of p s env) (length p.stages) then Some (next_of p s env) else None)
  pub up : (s : ℕ) (env : List ℕ) → s < length p.stages → s < next_of p s env
  pub inside : (s : ℕ) (env : List ℕ) → s < length p.stages → next_of p s env ≤ length p.stages
  -- inside a branch no stage of just this branch is passed over, nor is one of the trunk
  pub jump : (c : List Branch) (s : ℕ) (env : List ℕ) (r : ℕ)
      → s < length p.stages → Within p c s → Home p c r → s < r → r ≤ next_of p s env → r ≡ next_of p s env
  pub last : (s : ℕ) (env : List ℕ) → s < length p.stages → next_of p s env ≡ length p.stages → Trunk p s × (suc s ≡ length p.stages)
  -- what stands in a branch between its stages that were reached and its next one stands inside the fork that this one merges
  pub between : (c : List Branch) (s : ℕ) (env : List ℕ) (b : ℕ) → s < length p.stages → Within p c s → Home p c (next_of p s env)
      → next_of p s env < length p.stages → Below p c b s → Within p c b → b < next_of p s env
      → (f : ℕ) × ((stage_at p (next_of p s env)).merges ≡ Some f) × (is_inside p f b ≡ true)

-- whether these values lead to this side of a fork
abbrev pub on_side : Next → Bool → List ℕ → Bool
on_side Ends first env = false
on_side (Goes to) first env = false
on_side (Forks x a b) first env = if first then slice_index env x == 1 else not (slice_index env x == 1)

-- whether these values lead into this branch
abbrev pub goes_by : Pipe → Branch → List ℕ → Bool
goes_by p c env = on_side (stage_at p c.fork).next c.first env

-- a way from one stage to another stays in the same branches, enters one more from its fork, or leaves the innermost one, into the fork's merge
abbrev pub Way : Pipe → ℕ → ℕ → Type 0
Way p s q =
    ((stage_at p q).branches ≡ (stage_at p s).branches)
    ⊎ (((x : Branch) × ((stage_at p q).branches ≡ x ∷ (stage_at p s).branches) × (x.fork ≡ s))
    ⊎ ((x : Branch) × ((stage_at p s).branches ≡ x ∷ (stage_at p q).branches) × ((stage_at p q).merges ≡ Some x.fork)))

-- the branches of the stage graph
pub record Branches (p : Pipe) : Type 0 where
  -- a fork stands before its branches, in the branches around it
  pub fork : (x : Branch) (c : List Branch) (s : ℕ) → Within p (x ∷ c) s → Home p c x.fork × (x.fork < s)
  pub way : (s : ℕ) (env : List ℕ) → s < length p.stages → Way p s (next_of p s env)
  -- a branch is entered in its first stage, and only on the fork's side
  pub side : (x : Branch) (c : List Branch) (env : List ℕ) → x.fork < length p.stages → Home p (x ∷ c) (next_of p x.fork env) → goes_by p x env ≡ true
  pub entry : (x : Branch) (c : List Branch) (env : List ℕ) (r : ℕ)
      → x.fork < length p.stages → Home p (x ∷ c) (next_of p x.fork env) → Within p (x ∷ c) r → next_of p x.fork env ≤ r
  -- a merge stands in the branches around its fork, and is entered from this or from the last stage of a branch
  pub merge : (s : ℕ) (env : List ℕ) (f : ℕ) → s < length p.stages → (stage_at p (next_of p s env)).merges ≡ Some f
      → ((s ≡ f) × ((stage_at p (next_of p s env)).branches ≡ (stage_at p s).branches))
      ⊎
      ((x : Branch) × ((stage_at p s).branches ≡ x ∷ (stage_at p (next_of p s env)).branches) × (x.fork ≡ f)
      × ((b : ℕ) → Within p (x ∷ (stage_at p (next_of p s env)).branches) b → b ≤ s))
