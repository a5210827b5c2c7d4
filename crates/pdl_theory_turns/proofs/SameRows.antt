-- The machine that the proofs use, computed on written pipes: it has the ports of the stated machine in every cycle, and prints the same lines.
use Rattle.std.proofs.Common.{◌≡◌, refl, ℕ, suc, Bool, true, false, ◌&&◌, ◌||◌, not, List, [], ◌∷◌, Option, Some, None, ◌==◌, bytes_eq}
use Rattle.std.specs.Fmt.{digits}
use Rattle.pdl_semantics.specs.Words.{add, slice, zext, complement}
use Rattle.pdl_semantics.specs.Tree
use Rattle.pdl_semantics.specs.Tree.{Queue, Bypass}
use Rattle.pdl_semantics.specs.Flat.{Commit, of_mem, arrays_of}
use Rattle.pdl_semantics.specs.Flatten.{flat}
use Rattle.pdl_semantics.specs.Lines.{Column, columns, lines, by_mem, run_lines}
use Rattle.pdl_semantics.specs.Lines
use Rattle.pdl_semantics.specs.Machine.{Ask}
use Rattle.pdl_semantics.specs.Cycle.{PortWrite, commits_shown, turns}
use Rattle.pdl_semantics.specs.Cycle
use Rattle.pdl_semantics.proofs.Pipes.{two_writes, two_writes_apart, one_stage, two_stages, under_guard, shared_guard, count_queue, count_bypass, count_rename, count_late, guess, guess_learnt, update_learnt, guess_kept, guess_reserved, copy, copy_guessed, two_branches, one_branch, count_slow, barrier, far_barrier}
use Rattle.pdl_semantics.proofs.Texts.{variable}
use Rattle.pdl_semantics.proofs.MachineRows.{zeros, idle, bits, copied}
use Rattle.pdl_theory_turns.specs.Derived
use Rattle.pdl_theory_turns.specs.Simulation.{hints_of}

-- PORTS

abbrev alike : Bool → Bool → Bool
alike a b = (a && b) || (not a && not b)

abbrev all_alike : List Bool → List Bool → Bool
all_alike [] [] = true
all_alike (a ∷ xs) (b ∷ ys) = alike a b && all_alike xs ys
all_alike _ _ = false

abbrev same_commits : List Commit → List Commit → Bool
same_commits [] [] = true
same_commits (a ∷ xs) (b ∷ ys) = (a.mem == b.mem) && (a.address == b.address) && (a.value == b.value) && same_commits xs ys
same_commits _ _ = false

-- memory by memory
abbrev each_commits : ℕ → List (List PortWrite) → List Commit → Bool
each_commits m [] cs = true
each_commits m (x ∷ xs) cs = same_commits (commits_shown m x) (of_mem m cs) && each_commits (suc m) xs cs

abbrev same_requests : ℕ → List (Option ℕ) → List Ask → Bool
same_requests m [] [] = true
same_requests m [] (q ∷ qs) = false
same_requests m (None ∷ xs) qs = same_requests (suc m) xs qs
same_requests m (Some a ∷ xs) [] = false
same_requests m (Some a ∷ xs) (q ∷ qs) = (q.mem == m) && (q.address == a) && same_requests (suc m) xs qs

abbrev agree : List Cycle.Turn → List Derived.Turn → Bool
agree [] [] = true
agree (a ∷ ts) (b ∷ us) =
    all_alike a.ports.valid b.ports.valid && all_alike a.ports.moves b.ports.moves && each_commits 0 a.ports.commits b.ports.commits
    && same_requests 0 a.ports.requests b.ports.requests && alike a.ports.ended b.ports.ended && alike a.ports.squash b.ports.squash
    && alike a.wait b.wait && agree ts us
agree _ _ = false

abbrev both_agree : Tree.Pipe → List (List ℕ) → List (List Bool) → Bool
both_agree p image schedule =
    agree (turns (flat p) (arrays_of image) schedule)
    (Derived.turns (flat p) (arrays_of image) (hints_of (flat p) (Cycle.first (flat p) (arrays_of image)) schedule) schedule)

-- some replies late, some prompt
abbrev mixed : List (List Bool)
mixed = bits (0 ∷ 1 ∷ 1 ∷ 0 ∷ 0 ∷ 1 ∷ 1 ∷ 1 ∷ 0 ∷ 1 ∷ 0 ∷ 1 ∷ [])

-- on all of these
abbrev all_true : List Bool → Bool
all_true [] = true
all_true (b ∷ bs) = b && all_true bs

trunk_ports : all_true (both_agree one_stage (zeros ∷ []) (idle 6) ∷ both_agree two_stages (zeros ∷ []) (idle 8) ∷ both_agree under_guard (zeros ∷ []) (idle 8)
    ∷ both_agree shared_guard (zeros ∷ []) (idle 8) ∷ both_agree (count_queue 1) (zeros ∷ []) (idle 12) ∷ both_agree (count_bypass 4) (zeros ∷ []) (idle 12)
    ∷ both_agree (two_writes (variable "n")) (zeros ∷ []) (idle 4) ∷ both_agree (two_writes_apart Bypass 4) (zeros ∷ []) (idle 12)
    ∷ both_agree (two_writes_apart Queue 2) (zeros ∷ []) (idle 12)
    ∷ both_agree (count_rename 2) (zeros ∷ []) (idle 12) ∷ both_agree count_late (zeros ∷ []) (idle 12) ∷ []) ≡ true
unfolding add slice zext complement
trunk_ports = refl

guess_ports : all_true
    (both_agree (guess 1) (zeros ∷ []) (idle 12) ∷ both_agree (guess 2) (zeros ∷ []) (idle 12) ∷ both_agree (guess_reserved 2) (zeros ∷ []) (idle 12)
    ∷ both_agree barrier (zeros ∷ []) (idle 6) ∷ both_agree far_barrier (zeros ∷ []) (idle 12) ∷ []) ≡ true
unfolding add slice zext
guess_ports = refl

advice_ports : all_true (both_agree guess_learnt (zeros ∷ zeros ∷ []) (idle 14) ∷ both_agree guess_learnt ((2 ∷ 0 ∷ 2 ∷ 0 ∷ []) ∷ zeros ∷ [])
    (idle 12) ∷ both_agree guess_kept (zeros ∷ zeros ∷ []) (idle 14) ∷ both_agree guess_kept ((2 ∷ 0 ∷ 0 ∷ 0 ∷ []) ∷ zeros ∷ []) (idle 12)
    ∷ both_agree update_learnt (zeros ∷ zeros ∷ []) (idle 14) ∷ both_agree update_learnt ((2 ∷ 0 ∷ 2 ∷ 0 ∷ []) ∷ zeros ∷ []) (idle 12) ∷ []) ≡ true
unfolding add slice zext
advice_ports = refl

delayed_ports : all_true (both_agree copy copied mixed ∷ both_agree copy_guessed copied mixed ∷ both_agree count_slow ((0 ∷ 0 ∷ []) ∷ []) mixed ∷ [])
    ≡ true
unfolding add slice zext
delayed_ports = refl

fork_ports : all_true (both_agree two_branches (zeros ∷ []) (idle 12) ∷ both_agree one_branch (zeros ∷ []) (idle 12) ∷ []) ≡ true
unfolding add slice zext
fork_ports = refl

-- LINES

abbrev derived_cycle : List Column → Derived.Turn → Lines.Cycle
derived_cycle ms t = record { puts = by_mem 0 ms t.ports.commits; ended = t.ports.ended; wait = t.wait; squash = t.ports.squash }

abbrev derived_cycles : List Column → List Derived.Turn → List Lines.Cycle
derived_cycles ms [] = []
derived_cycles ms (t ∷ ts) = derived_cycle ms t ∷ derived_cycles ms ts

abbrev derived_lines : Tree.Pipe → List (List ℕ) → List (List Bool) → List ℕ
derived_lines p image schedule =
    lines (columns p.mems)
    (derived_cycles (columns p.mems) (Derived.turns (flat p) (arrays_of image) (hints_of (flat p) (Cycle.first (flat p) (arrays_of image)) schedule) schedule))

abbrev prints_alike : Tree.Pipe → List (List ℕ) → List (List Bool) → Bool
prints_alike p image schedule = bytes_eq (derived_lines p image schedule) (run_lines p image schedule)

trunk_lines : all_true
    (prints_alike one_stage (zeros ∷ []) (idle 17) ∷ prints_alike (count_queue 4) (zeros ∷ []) (idle 10)
    ∷ prints_alike (count_bypass 4) (zeros ∷ []) (idle 8) ∷ prints_alike (count_rename 4) (zeros ∷ []) (idle 8)
    ∷ prints_alike two_stages (zeros ∷ []) (idle 3) ∷ prints_alike (count_queue 1) (zeros ∷ []) (idle 8)
    ∷ prints_alike under_guard (zeros ∷ []) (idle 4) ∷ [])
    ≡ true
unfolding digits add slice zext
trunk_lines = refl

guess_lines : all_true
    (prints_alike (guess 1) (zeros ∷ []) (idle 5) ∷ prints_alike (guess 2) (zeros ∷ []) (idle 9)
    ∷ prints_alike (guess_reserved 2) (zeros ∷ []) (idle 9) ∷ prints_alike barrier (zeros ∷ []) (idle 3) ∷ [])
    ≡ true
unfolding digits add slice zext
guess_lines = refl

delayed_lines : all_true
    (prints_alike copy copied (bits (0 ∷ 0 ∷ 0 ∷ 1 ∷ 1 ∷ 1 ∷ []))
    ∷ prints_alike copy_guessed copied (bits (1 ∷ 1 ∷ 0 ∷ 0 ∷ 1 ∷ 1 ∷ 1 ∷ []))
    ∷ prints_alike copy_guessed copied (bits (1 ∷ 1 ∷ 0 ∷ 1 ∷ 1 ∷ 1 ∷ []))
    ∷ prints_alike count_slow ((0 ∷ 0 ∷ []) ∷ []) (bits (1 ∷ 1 ∷ 1 ∷ 1 ∷ 1 ∷ 1 ∷ [])) ∷ [])
    ≡ true
unfolding digits add slice zext
delayed_lines = refl

fork_lines : all_true (prints_alike two_branches (zeros ∷ []) (idle 8) ∷ prints_alike one_branch (zeros ∷ []) (idle 11) ∷ []) ≡ true
unfolding digits add slice zext
fork_lines = refl
