-- What it means that both machines do the same.
use Rattle.std.specs.Prelude.{◌≡◌, ℕ, zero, suc, Bool, ◌&&◌, List, [], ◌∷◌, if◌then◌else◌, ◌==◌, slice_index_or}
use Rattle.pdl_semantics.specs.Flat.{Op, Pipe, of_mem}
use Rattle.pdl_semantics.specs.Stages.{list_any, onpath, in_stage}
use Rattle.pdl_semantics.specs.Sound.{is_spec_call}
use Rattle.pdl_semantics.specs.Updates.{is_update}
use Rattle.pdl_semantics.specs.Cycle.{for_mems, commits_shown}
use Rattle.pdl_semantics.specs.Cycle
use Rattle.pdl_semantics.specs.Machine.{State}
use Rattle.pdl_semantics.specs.Moves.{Act, all_acts}
use Rattle.pdl_theory_turns.specs.Derived.{Hint, no_hint, find_ask}
use Rattle.pdl_theory_turns.specs.Derived

-- whether a thread's stage has such a statement on its path
abbrev pub has_here : (Op → Bool) → Pipe → Act → Bool
has_here test p a = list_any (λ x. test x.op) (onpath a.does.env (in_stage a.stage p.stmts))

-- what the thread of this number then guesses, where it moves from a stage with such a statement in a cycle, else `rest`
abbrev pub said_in : (Op → Bool) → Pipe → List Act → ℕ → List ℕ → List ℕ
said_in test p [] n rest = rest
said_in test p (a ∷ these) n rest =
    if (a.thread.number == n) && (a.moves && has_here test p a) then a.does.guess else said_in test p these n rest

-- what it then guesses in a run of the stated machine from this state on, nothing where it never does
abbrev pub said_of : (Op → Bool) → Pipe → State → List (List Bool) → ℕ → List ℕ
said_of test p st [] n = []
said_of test p st (bits ∷ schedule) n = said_in test p (all_acts p st bits) n (said_of test p (Cycle.cycle p st bits) schedule n)

-- what a thread says in that run where it guesses, and where it updates its guess
abbrev pub hint_of : Pipe → State → List (List Bool) → ℕ → Hint
hint_of p st schedule n = record { guess = said_of is_spec_call p st schedule n; update = said_of is_update p st schedule n }

-- what the threads say that are made in each cycle of that run
abbrev pub made_hints : Pipe → State → List (List Bool) → ℕ → Hint
made_hints p st [] n = no_hint
made_hints p st (bits ∷ schedule) zero = hint_of p (Cycle.cycle p st bits) schedule st.next
made_hints p st (bits ∷ schedule) (suc n) = made_hints p (Cycle.cycle p st bits) schedule n

-- and before them what the first thread says
abbrev pub hints_of : Pipe → State → List (List Bool) → ℕ → Hint
hints_of p st schedule zero = hint_of p st schedule 1
hints_of p st schedule (suc n) = made_hints p st schedule n

-- the ports of a cycle of each machine
pub record SameTurn (p : Pipe) (a : Cycle.Turn) (b : Derived.Turn) : Type 0 where
  pub valid : a.ports.valid ≡ b.ports.valid
  pub moves : a.ports.moves ≡ b.ports.moves
  pub commits : (m : ℕ) → commits_shown m (slice_index_or a.ports.commits m []) ≡ of_mem m b.ports.commits
  pub requests : a.ports.requests ≡ for_mems (λ m. find_ask b.ports.requests m) 0 p.mems
  pub ended : a.ports.ended ≡ b.ports.ended
  pub squash : a.ports.squash ≡ b.ports.squash
  pub wait : a.wait ≡ b.wait

-- as many cycles of each machine have the same ports, one after another
abbrev pub SameTurns : Pipe → List Cycle.Turn → List Derived.Turn → Type 0
SameTurns p [] [] = Unit {0}
SameTurns p (a ∷ these) (b ∷ bs) = SameTurn p a b × SameTurns p these bs
SameTurns p _ _ = ⊥
