use Rattle.std.proofs.Common.{◌≡◌, ◌<◌, ◌≤◌, ◌^◌, ℕ, true, List, length, get_or, if◌then◌else◌}
use Rattle.pdl_rules.specs.Places.{Guard, on_path}
use Rattle.pdl_paths.specs.Actions.{place_view}
use Rattle.pdl_paths.specs.Masks.{IsMasked, are_distinct, path_of}
use Rattle.pdl_rules_names.proofs.passed.separator_passed.Given as goal

-- the paths so far have the number if they lead through the place, and else the old one
abbrev pub invariant-loop-b : goal.invariant-loop-b
invariant-loop-b l =
    (length l.new.items ≡ l.b)
    × ((gs : List Guard) → IsMasked gs l.place → are_distinct gs ≡ true → length gs ≤ 10 → length l.last ≡ 2 ^ length gs
    → (j : ℕ) → j < l.b → get_or l.new.items j 0 ≡ (if on_path (path_of gs j) (place_view l.place) then l.k else get_or l.last j 0))
