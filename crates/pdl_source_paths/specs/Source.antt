-- What holds of each tree that is read from a source, besides the rules: where its `if`s begin, and that its names have letters.
use Rattle.std.specs.Prelude.{ℕ, Bool, true, false, not, ◌&&◌, List, [], ◌∷◌, Option, Some, None}
use Rattle.std.specs.List.{list_any}
use Rattle.pdl_semantics.specs.Tree.{Pipe}
use Rattle.pdl_rules.specs.Names.{OfVariable, defines_use}
use Rattle.pdl_rules.specs.Places.{Place, Guard, Shared, Own, at_statement, guard_of, same_guard, places}
use Rattle.pdl_rules.specs.Forms.{of_if}

-- whether a place is an `if` on an expression that begins at byte n
abbrev pub begins_at : ℕ → Place → Bool
begins_at n x = at_statement false (λ s bs. of_if false (λ from c. same_guard (Own n) (guard_of from c)) s) x

-- where an `if` on an expression begins
abbrev pub start_of : Guard → Option ℕ
start_of (Shared x) = None
start_of (Own n) = Some n

-- the byte at which an `if` on an expression begins, where the place is one
abbrev pub own_start : Place → Option ℕ
own_start x = at_statement None (λ s bs. of_if None (λ from c. start_of (guard_of from c)) s) x

-- none of these places is an `if` on an expression that begins at this byte, where there is one
abbrev pub is_new : Option ℕ → List Place → Bool
is_new None xs = true
is_new (Some n) xs = not (list_any (begins_at n) xs)

-- no two of them begin at one byte
abbrev pub are_apart : List Place → Bool
are_apart [] = true
are_apart (x ∷ xs) = is_new (own_start x) xs && are_apart xs

-- no two `if`s on expressions of a source begin at one byte
abbrev pub is_source : Pipe → Bool
is_source p = are_apart (places p)

-- no variable has the empty name, which the guard of an `if` on an expression has in the flat form
abbrev pub is_named : Pipe → Bool
is_named p = not (list_any (defines_use (OfVariable [])) (places p))
