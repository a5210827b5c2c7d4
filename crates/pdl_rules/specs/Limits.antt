-- The limits of a source: rules Z1 to Z7. Of each number it is the first place over the limit that breaks the rule.
use Rattle.std.specs.Prelude.{ℕ, Bool, true, false, not, ◌&&◌, ◌||◌, ◌==◌, nat_lt, nat_le, List, [], ◌∷◌, length, count_by}
use Rattle.std.specs.List.{list_any}
use Rattle.std.specs.Option.{is_some}
use Rattle.pdl_semantics.specs.Tree.{Literal, Stmt, Mem, LockKind, Queue, Bypass, Rename, LockDecl}
use Rattle.pdl_semantics.specs.Flat.{is_delayed, is_advisory}
use Rattle.pdl_rules.specs.Places.{Guard, Place, Parameter, Memory, Statement, End, StartClause, at_statement, guard_of, is_among, guards}
use Rattle.pdl_rules.specs.Forms.{of_if, separates}
use Rattle.pdl_rules.specs.Parts.{parts_of, some_literal, is_some_and}
use Rattle.pdl_semantics.specs.Words.{widest}

-- Z1: a source of more than 1,048,576 bytes
abbrev pub is_too_long : List ℕ → Bool
is_too_long source = nat_lt 1048576 (length source)

-- whether a place is a statement
abbrev pub is_statement : Place → Bool
is_statement x = at_statement false (λ s bs. true) x

-- Z2 at a place: a statement with 1,024 statements before it
abbrev pub breaks_z2 : List Place → Place → Bool
breaks_z2 before x = is_statement x && (count_by is_statement before == 1024)

-- whether a place is a separator
abbrev pub is_separator : Place → Bool
is_separator x = at_statement false (λ s bs. separates s) x

-- Z3 at a place: a separator with 63 separators before it
abbrev pub breaks_z3 : List Place → Place → Bool
breaks_z3 before x = is_separator x && (count_by is_separator before == 63)

-- whether a place is a memory
abbrev pub is_memory : Place → Bool
is_memory (Parameter _) = false
is_memory (Memory _) = true
is_memory (Statement _ _) = false
is_memory (End _) = false
is_memory (StartClause _) = false

-- Z4 at a place: a memory with 16 memories before it
abbrev pub breaks_z4 : List Place → Place → Bool
breaks_z4 before x = is_memory x && (count_by is_memory before == 16)

-- whether a statement binds a variable or makes a guess
abbrev pub binds_name : Stmt → Bool
binds_name s = is_some (parts_of s).variable || is_some (parts_of s).guess

-- whether a place defines a parameter, a variable or a guess
abbrev pub is_binding : Place → Bool
is_binding (Parameter _) = true
is_binding (Memory _) = false
is_binding (Statement s _) = binds_name s
is_binding (End _) = false
is_binding (StartClause _) = false

-- Z5 at a place: a parameter, variable or guess with 512 of these before it
abbrev pub breaks_z5 : List Place → Place → Bool
breaks_z5 before x = is_binding x && (count_by is_binding before == 512)

-- whether a guard is not one of the ten before it
abbrev pub adds_guard : List Place → Guard → Bool
adds_guard before g = not (is_among g (guards before)) && (length (guards before) == 10)

-- Z6 at a place: an `if` whose guard is not one of the ten before it
abbrev pub breaks_z6 : List Place → Place → Bool
breaks_z6 before x = at_statement false (λ s bs. of_if false (λ from c. adds_guard before (guard_of from c)) s) x

-- whether a number is an allowed width, from 1 to widest
abbrev pub is_width : ℕ → Bool
is_width w = nat_le 1 w && nat_le w widest

-- the depths of memories: the powers of two from 2 to 65,536
abbrev pub depths : List ℕ
depths = 2 ∷ 4 ∷ 8 ∷ 16 ∷ 32 ∷ 64 ∷ 128 ∷ 256 ∷ 512 ∷ 1024 ∷ 2048 ∷ 4096 ∷ 8192 ∷ 16384 ∷ 32768 ∷ 65536 ∷ []

-- whether a number is an allowed depth
abbrev pub is_depth : ℕ → Bool
is_depth d = list_any (λ n. n == d) depths

-- whether a number is an allowed size of a lock: how many writes may be pending
abbrev pub is_size : ℕ → Bool
is_size s = list_any (λ n. n == s) (1 ∷ 2 ∷ 4 ∷ 8 ∷ 16 ∷ [])

-- whether a memory of this depth that isn't advisory, delayed or not, can have the kind of lock with this size
abbrev pub allows_lock : ℕ → Bool → LockKind → ℕ → Bool
allows_lock d delayed Queue s = true
allows_lock d delayed Bypass s = not delayed
allows_lock d delayed Rename s = not delayed && (nat_le d 64 && nat_le s d)

-- whether a lock has no allowed size, or is none that this memory can have
abbrev pub is_wrong_lock : Mem → LockDecl → Bool
is_wrong_lock m l = is_advisory m.kind || not (is_size l.size.value && allows_lock m.depth.value (is_delayed m.kind) l.kind l.size.value)

-- whether a memory has a width, a depth or a lock that is not allowed
abbrev pub is_wrong_memory : Mem → Bool
is_wrong_memory m = not (is_width m.width.value && is_depth m.depth.value) || is_some_and (is_wrong_lock m) m.lock

-- whether a literal's width is not from 1 to widest
abbrev pub is_wrong_literal : Literal → Bool
is_wrong_literal l = not (is_width l.width)

-- Z7 at a place: a width that is not from 1 to widest, or a depth, lock or size that is not allowed
abbrev pub breaks_z7 : Place → Bool
breaks_z7 (Parameter a) = not (is_width a.width.value)
breaks_z7 (Memory m) = is_wrong_memory m
breaks_z7 (Statement s bs) = some_literal is_wrong_literal (Statement s bs)
breaks_z7 (End s) = some_literal is_wrong_literal (End s)
breaks_z7 (StartClause s) = some_literal is_wrong_literal (StartClause s)
