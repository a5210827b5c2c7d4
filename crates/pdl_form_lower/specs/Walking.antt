-- A walk over the statements of a pipe: what it has made, and how the stages that it has begun are closed.
use Rattle.std.specs.Prelude.{◌≡◌, ℕ, zero, suc, ◌≤◌, Bool, true, false, List, [], ◌∷◌, ◌++◌, Some, length, slice_index_or}
use Rattle.pdl_semantics.specs.Tree.{Stmt, Separator, CombRead, Bind, SpecCall, DelayedRead, Write, Reserve, Block, Release, If, Call, Verify, Update, SpecCheck, SpecBarrier}
use Rattle.pdl_semantics.specs.Flat.{Next, Stage}
use Rattle.pdl_semantics.specs.Flatten.{Position, Graph, with_merge}
use Rattle.pdl_semantics.specs.Stages.{last_stage}
use Rattle.pdl_form_lower.specs.declared.walk.Walk.{Walk}

-- where a walk is
abbrev pub place_of : Walk → Position
place_of w = record { vars = w.vars.vars; stage = w.stage; begun = w.begun }

-- each stage that has begun stands in its list, and the walk is in one of them
pub record IsWhole (w : Walk) : Type 0 where
  pub begun : length w.stages.items ≡ suc w.begun
  pub stage : w.stage ≤ w.begun

-- the stages, where stage k leads elsewhere
abbrev pub leading : ℕ → Next → List Stage → List Stage
leading k n [] = []
leading zero n (x ∷ xs) = record x { next = n } ∷ xs
leading (suc k) n (x ∷ xs) = x ∷ leading k n xs

-- the stages, where stage k is the merge of this fork
abbrev pub with_merge_at : ℕ → ℕ → List Stage → List Stage
with_merge_at k f [] = []
with_merge_at zero f (x ∷ xs) = record x { merges = Some f } ∷ xs
with_merge_at (suc k) f (x ∷ xs) = x ∷ with_merge_at k f xs

-- where stage k leads
abbrev pub next_at : ℕ → List Stage → Next
next_at k xs = (slice_index_or xs k last_stage).next

-- these stages, of which k is the last one of its list of statements, with what the later statements give; where a fork stands in k, its way on is known, and the next stage of the list is the merge
abbrev pub closed_stages : ℕ → Bool → List Stage → Graph → List Stage
closed_stages k false xs g = leading k g.next xs ++ g.later
closed_stages k true xs g = xs ++ with_merge k g.later

-- the stages after both branches of an `if` in stage k, which led so before; where a stage has begun after the first n + 1, the `if` is a fork, and where a fork stood in k before, the first of these new stages is its merge
abbrev pub settled_stages : Bool → Bool → ℕ → ℕ → Next → Next → List Stage → List Stage
settled_stages true forked k n before fork xs = leading k before xs
settled_stages false false k n before fork xs = leading k fork xs
settled_stages false true k n before fork xs = with_merge_at (suc n) k (leading k before xs)

-- a statement that is neither a separator nor an `if`
abbrev pub is_plain : Stmt → Bool
is_plain (Separator _) = false
is_plain (CombRead _ _ _) = true
is_plain (Bind _ _ _) = true
is_plain (SpecCall _ _ _) = true
is_plain (DelayedRead _ _ _) = true
is_plain (Write _ _ _) = true
is_plain (Reserve _ _ _) = true
is_plain (Block _ _) = true
is_plain (Release _ _) = true
is_plain (If _ _ _ _) = false
is_plain (Call _ _) = true
is_plain (Verify _ _ _) = true
is_plain (Update _ _ _) = true
is_plain (SpecCheck _) = true
is_plain (SpecBarrier _) = true

-- one of these that binds nothing
abbrev pub is_act : Stmt → Bool
is_act (Separator _) = false
is_act (CombRead _ _ _) = false
is_act (Bind _ _ _) = false
is_act (SpecCall _ _ _) = true
is_act (DelayedRead _ _ _) = false
is_act (Write _ _ _) = true
is_act (Reserve _ _ _) = true
is_act (Block _ _) = true
is_act (Release _ _) = true
is_act (If _ _ _ _) = false
is_act (Call _ _) = true
is_act (Verify _ _ _) = true
is_act (Update _ _ _) = true
is_act (SpecCheck _) = true
is_act (SpecBarrier _) = true
