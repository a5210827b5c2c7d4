-- Pipes on which the definitions are computed, as trees.
use Rattle.std.specs.Prelude.{ℕ, List, [], ◌∷◌, ◌++◌, None}
use Rattle.pdl_semantics.specs.Tree.{Not, ZeroExtend, R, W, LockKind, Queue, Bypass, Rename, Expr, Stmt, Pipe}
use Rattle.pdl_semantics.proofs.Texts.{number, constant, variable, slice, plus, separator, bind, comb_read, delayed_read, write, reserve, block, release, call, spec_call, verify, spec_check, spec_barrier, if_else, lock, comb, slow, pipe, update, advisory}

-- one stage: each thread writes its argument
abbrev pub one_stage : Pipe
one_stage =
    pipe 4 (comb "m" 4 (lock Queue 1) ∷ [])
    (bind "a" (slice "n" 1 0) ∷ bind "v" (ZeroExtend (variable "n") (number 8)) ∷ reserve "m" "a" W ∷ block "m" "a"
    ∷ write "m" "a" (variable "v") ∷ release "m" "a" ∷ call (plus (variable "n") (constant 4 1)) ∷ [])

-- the same with a second stage, from which the next thread is made
abbrev pub two_stages : Pipe
two_stages =
    pipe 4 (comb "m" 4 (lock Queue 1) ∷ [])
    (bind "a" (slice "n" 1 0) ∷ bind "v" (ZeroExtend (variable "n") (number 8)) ∷ reserve "m" "a" W ∷ block "m" "a"
    ∷ write "m" "a" (variable "v") ∷ release "m" "a" ∷ separator ∷ call (plus (variable "n") (constant 4 1)) ∷ [])

-- one stage: each thread writes two words, whose addresses are its argument and this
abbrev pub two_writes : Expr → Pipe
two_writes b =
    pipe 2 (comb "m" 4 (lock Queue 2) ∷ [])
    (bind "b" b ∷ bind "z" (ZeroExtend (variable "n") (number 8)) ∷ reserve "m" "n" W ∷ reserve "m" "b" W ∷ block "m" "n"
    ∷ block "m" "b" ∷ write "m" "n" (variable "z") ∷ write "m" "b" (plus (variable "z") (constant 8 4)) ∷ release "m" "n"
    ∷ release "m" "b" ∷ call (plus (variable "n") (constant 2 2)) ∷ [])

-- three stages with room for two or three: the second write is released first in the text, and both are waited for
abbrev pub two_writes_apart : LockKind → ℕ → Pipe
two_writes_apart kind size =
    pipe 2 (comb "m" 4 (lock kind size) ∷ [])
    (bind "a" (constant 2 0) ∷ bind "b" (constant 2 0) ∷ bind "c"
    (plus (variable "n") (constant 2 1)) ∷ reserve "m" "a" R ∷ reserve "m" "b" W ∷ reserve "m" "c" W
    ∷ call (plus (variable "n") (constant 2 1)) ∷ separator ∷ block "m" "a" ∷ comb_read "x" "m" "a" ∷ block "m" "b"
    ∷ write "m" "b" (plus (variable "x") (constant 8 1)) ∷ separator ∷ block "m" "c" ∷ write "m" "c" (plus (variable "x") (constant 8 16))
    ∷ release "m" "c" ∷ release "m" "a" ∷ release "m" "b" ∷ [])

-- the same word is written twice, and read by the next thread: through a lock with room for both
abbrev pub two_writes_read : Pipe
two_writes_read =
    pipe 2 (comb "m" 4 (lock Bypass 2) ∷ [])
    (bind "a" (constant 2 0) ∷ bind "b" (constant 2 0) ∷ bind "c" (constant 2 0) ∷ reserve "m" "a" R ∷ block "m" "a"
    ∷ comb_read "x" "m" "a" ∷ reserve "m" "b" W ∷ reserve "m" "c" W ∷ block "m" "b" ∷ block "m" "c"
    ∷ write "m" "b" (plus (variable "x") (constant 8 1)) ∷ write "m" "c" (plus (variable "x") (constant 8 2))
    ∷ release "m" "a" ∷ release "m" "b" ∷ release "m" "c" ∷ call (plus (variable "n") (constant 2 1)) ∷ [])

-- every other thread reserves twice, with room for two
abbrev pub one_write_or_two : Pipe
one_write_or_two =
    pipe 2 (comb "m" 4 (lock Bypass 2) ∷ [])
    (bind "g" (slice "n" 0 0) ∷ bind "b" (plus (variable "n") (constant 2 1)) ∷ bind "z" (ZeroExtend (variable "n") (number 8))
    ∷ if_else (variable "g") (reserve "m" "n" W ∷ []) [] ∷ reserve "m" "b" W ∷ call (plus (variable "n") (constant 2 1)) ∷ separator
    ∷ if_else (variable "g") (block "m" "n" ∷ write "m" "n" (variable "z") ∷ []) [] ∷ block "m" "b"
    ∷ write "m" "b" (plus (variable "z") (constant 8 4)) ∷ separator
    ∷ if_else (variable "g") (release "m" "n" ∷ []) [] ∷ release "m" "b" ∷ [])

-- every other thread writes
abbrev pub under_guard : Pipe
under_guard =
    pipe 2 (comb "m" 4 (lock Queue 1) ∷ [])
    (bind "g" (slice "n" 0 0)
    ∷ if_else (variable "g") (reserve "m" "n" W ∷ block "m" "n" ∷ write "m" "n" (constant 8 5) ∷ release "m" "n" ∷ []) []
    ∷ call (plus (variable "n") (constant 2 1)) ∷ [])

-- two `if`s on one variable share its guard; the next thread is made in either branch of a third
abbrev pub shared_guard : Pipe
shared_guard =
    pipe 2 (comb "m" 4 (lock Queue 1) ∷ [])
    (bind "g" (slice "n" 0 0) ∷ bind "h" (slice "n" 1 1)
    ∷ if_else (variable "g") (reserve "m" "n" W ∷ block "m" "n" ∷ write "m" "n" (constant 8 1) ∷ []) []
    ∷ if_else (variable "g") (release "m" "n" ∷ []) []
    ∷ if_else (Not (variable "h")) (call (plus (variable "n") (constant 2 1)) ∷ []) (call (plus (variable "n") (constant 2 3)) ∷ []) ∷ [])

-- four stages: each thread adds 1 to word 0; n writes may be pending
abbrev count_after : List Stmt → LockKind → ℕ → Pipe
count_after gap kind n =
    pipe 2 (comb "m" 4 (lock kind n) ∷ [])
    (bind "a" (constant 2 0) ∷ bind "b" (constant 2 0) ∷ reserve "m" "a" R ∷ reserve "m" "b" W
    ∷ call (plus (variable "n") (constant 2 1)) ∷ separator ∷ (gap ++ block "m" "a" ∷ comb_read "x" "m" "a" ∷ separator ∷ block "m" "b"
    ∷ write "m" "b" (plus (variable "x") (constant 8 1)) ∷ separator ∷ release "m" "a" ∷ release "m" "b" ∷ []))

-- the same with nothing before the read, through a lock of this kind
abbrev pub count_up : LockKind → ℕ → Pipe
count_up kind n = count_after [] kind n

-- through each kind of lock
abbrev pub count_queue : ℕ → Pipe
count_queue n = count_up Queue n

-- the same through a bypass lock of size n
abbrev pub count_bypass : ℕ → Pipe
count_bypass n = count_up Bypass n

-- the same through a renaming lock of size n
abbrev pub count_rename : ℕ → Pipe
count_rename n = count_up Rename n

-- with an empty stage before the read
abbrev pub count_late : Pipe
count_late = count_after (separator ∷ []) Bypass 4

-- each thread guesses that the next one's argument is one more, where it is k more
abbrev pub guess : ℕ → Pipe
guess k =
    pipe 8 (comb "m" 4 (lock Queue 1) ∷ [])
    (spec_check ∷ spec_call "s" (plus (variable "n") (constant 8 1)) ∷ separator ∷ bind "t" (plus (variable "n") (constant 8 k))
    ∷ separator ∷ verify "s" (variable "t") ∷ bind "a" (slice "n" 1 0) ∷ reserve "m" "a" W ∷ block "m" "a"
    ∷ write "m" "a" (variable "n") ∷ release "m" "a" ∷ [])

-- the same with the reservation before the guess
abbrev pub guess_reserved : ℕ → Pipe
guess_reserved k =
    pipe 8 (comb "m" 4 (lock Queue 2) ∷ [])
    (spec_check ∷ bind "a" (slice "n" 1 0) ∷ reserve "m" "a" W ∷ spec_call "s" (plus (variable "n") (constant 8 1)) ∷ separator
    ∷ bind "t" (plus (variable "n") (constant 8 k)) ∷ separator ∷ verify "s" (variable "t") ∷ block "m" "a"
    ∷ write "m" "a" (variable "n") ∷ release "m" "a" ∷ [])

-- two stages after the first the guess is verified; before, this may replace it
abbrev pub guess_again : List Stmt → Pipe
guess_again second =
    pipe 8 (comb "m" 4 (lock Queue 1) ∷ [])
    (spec_check ∷ spec_call "s" (plus (variable "n") (constant 8 1)) ∷ separator ∷ bind "u" (plus (variable "n") (constant 8 2))
    ∷ (second ++ separator ∷ separator ∷ verify "s" (variable "u") ∷ bind "a" (slice "n" 1 0) ∷ reserve "m" "a" W ∷ block "m" "a"
    ∷ write "m" "a" (variable "n") ∷ release "m" "a" ∷ []))

-- by a guess that is j more
abbrev pub updated : ℕ → Pipe
updated j = guess_again (update "s" (plus (variable "n") (constant 8 j)) ∷ [])

-- the same with a guess that is learnt: word a of an advisory memory is how much more the next one's argument is after argument a
abbrev pub guess_learnt : Pipe
guess_learnt =
    pipe 8 (advisory "t" 4 ∷ comb "m" 4 (lock Queue 1) ∷ [])
    (spec_check ∷ bind "a" (slice "n" 1 0) ∷ comb_read "g" "t" "a" ∷ spec_call "s" (plus (variable "n") (variable "g")) ∷ separator
    ∷ bind "u" (plus (variable "n") (constant 8 2)) ∷ separator ∷ verify "s" (variable "u") ∷ write "t" "a" (constant 8 2)
    ∷ reserve "m" "a" W ∷ block "m" "a" ∷ write "m" "a" (variable "n") ∷ release "m" "a" ∷ [])

-- with an advised variable between, and writes of one advisory word from two stages: the first stage writes back what it found
abbrev pub guess_kept : Pipe
guess_kept =
    pipe 8 (advisory "t" 4 ∷ comb "m" 4 (lock Queue 1) ∷ [])
    (spec_check ∷ bind "z" (constant 2 0) ∷ comb_read "g" "t" "z" ∷ bind "h" (variable "g") ∷ write "t" "z" (variable "h")
    ∷ spec_call "s" (plus (variable "n") (variable "h")) ∷ separator ∷ bind "u" (plus (variable "n") (constant 8 2)) ∷ separator
    ∷ verify "s" (variable "u") ∷ write "t" "z" (constant 8 7) ∷ bind "a" (slice "n" 1 0)
    ∷ reserve "m" "a" W ∷ block "m" "a" ∷ write "m" "a" (variable "n") ∷ release "m" "a" ∷ [])

-- a guess that is one more, replaced by what is learnt: word a of the advisory memory is how much more the next one's argument is
abbrev pub update_learnt : Pipe
update_learnt =
    pipe 8 (advisory "t" 4 ∷ comb "m" 4 (lock Queue 1) ∷ [])
    (spec_check ∷ spec_call "s" (plus (variable "n") (constant 8 1)) ∷ separator ∷ bind "u" (plus (variable "n") (constant 8 2))
    ∷ bind "a" (slice "n" 1 0) ∷ comb_read "g" "t" "a" ∷ update "s" (plus (variable "n") (variable "g")) ∷ separator ∷ separator
    ∷ verify "s" (variable "u") ∷ write "t" "a" (constant 8 2)
    ∷ reserve "m" "a" W ∷ block "m" "a" ∷ write "m" "a" (variable "n") ∷ release "m" "a" ∷ [])

-- a delayed memory is copied
abbrev pub copy : Pipe
copy =
    pipe 2 (slow "d" 4 None ∷ comb "m" 4 (lock Queue 1) ∷ [])
    (delayed_read "x" "d" "n" ∷ call (plus (variable "n") (constant 2 1)) ∷ separator ∷ reserve "m" "n" W ∷ block "m" "n"
    ∷ write "m" "n" (variable "x") ∷ release "m" "n" ∷ [])

-- every other word of a delayed memory is copied, with wrong guesses
abbrev pub copy_guessed : Pipe
copy_guessed =
    pipe 2 (slow "d" 4 None ∷ comb "m" 4 (lock Queue 1) ∷ [])
    (spec_check ∷ delayed_read "x" "d" "n" ∷ spec_call "s" (plus (variable "n") (constant 2 1)) ∷ separator
    ∷ bind "t" (plus (variable "n") (constant 2 2)) ∷ bind "y" (variable "x") ∷ separator ∷ verify "s" (variable "t")
    ∷ reserve "m" "n" W ∷ block "m" "n" ∷ write "m" "n" (variable "y") ∷ release "m" "n" ∷ [])

-- a fork with these branches between a write's reservation and its release
abbrev pub forked : List Stmt → List Stmt → Pipe
forked first second =
    pipe 2 (comb "m" 4 (lock Bypass 4) ∷ [])
    (bind "g" (slice "n" 0 0) ∷ bind "z" (ZeroExtend (variable "n") (number 8)) ∷ reserve "m" "n" W
    ∷ call (plus (variable "n") (constant 2 1)) ∷ if_else (variable "g") first second ∷ separator ∷ block "m" "n"
    ∷ write "m" "n" (variable "z") ∷ release "m" "n" ∷ [])

-- a short branch and a long one
abbrev pub two_branches : Pipe
two_branches = forked (separator ∷ []) (separator ∷ separator ∷ separator ∷ [])

-- a way straight to the merge, and a long branch
abbrev pub one_branch : Pipe
one_branch = forked [] (separator ∷ separator ∷ separator ∷ [])

-- a fork on h with these branches, in the second branch of one on g
abbrev pub forked_twice : List Stmt → List Stmt → Pipe
forked_twice first second =
    pipe 2 (comb "m" 4 (lock Bypass 8) ∷ [])
    (bind "g" (slice "n" 0 0) ∷ bind "h" (slice "n" 1 1) ∷ bind "z" (ZeroExtend (variable "n") (number 8)) ∷ reserve "m" "n" W
    ∷ call (plus (variable "n") (constant 2 1))
    ∷ if_else (variable "g") (separator ∷ []) (separator ∷ if_else (variable "h") first second ∷ separator ∷ []) ∷ separator
    ∷ block "m" "n" ∷ write "m" "n" (variable "z") ∷ release "m" "n" ∷ [])

-- both have stages
abbrev pub nested : Pipe
nested = forked_twice (separator ∷ []) (separator ∷ separator ∷ [])

-- a way straight to the inner merge
abbrev pub nested_straight : Pipe
nested_straight = forked_twice [] (separator ∷ separator ∷ separator ∷ [])

-- a fork whose first branch holds these statements
abbrev around_fork : List Stmt → List Stmt
around_fork inner = if_else (variable "g") (separator ∷ inner) (separator ∷ separator ∷ []) ∷ separator ∷ []

-- forks of four levels, each in the first branch of the one around it
abbrev pub four_levels : Pipe
four_levels =
    pipe 2 (comb "m" 4 (lock Bypass 8) ∷ [])
    (bind "g" (slice "n" 0 0) ∷ bind "z" (ZeroExtend (variable "n") (number 8)) ∷ reserve "m" "n" W
    ∷ call (plus (variable "n") (constant 2 1)) ∷ (around_fork (around_fork (around_fork (around_fork [])))
    ++ block "m" "n" ∷ write "m" "n" (variable "z") ∷ release "m" "n" ∷ []))

-- guesses, all wrong, over a fork inside another
abbrev pub nested_guess : Pipe
nested_guess =
    pipe 2 (comb "m" 4 (lock Queue 4) ∷ [])
    (spec_check ∷ bind "g" (slice "n" 0 0) ∷ bind "h" (slice "n" 1 1) ∷ spec_call "s" (plus (variable "n") (constant 2 1))
    ∷ if_else (variable "g") (separator ∷ []) (separator ∷ if_else (variable "h") (separator ∷ []) [] ∷ separator ∷ separator ∷ []) ∷ separator
    ∷ verify "s" (plus (variable "n") (constant 2 2)) ∷ reserve "m" "n" W ∷ block "m" "n"
    ∷ write "m" "n" (constant 8 9) ∷ release "m" "n" ∷ [])

-- a delayed memory with a lock
abbrev pub count_slow : Pipe
count_slow =
    pipe 1 (slow "m" 2 (lock Queue 2) ∷ [])
    (bind "a" (constant 1 0) ∷ bind "b" (constant 1 0) ∷ reserve "m" "a" R ∷ reserve "m" "b" W
    ∷ call (plus (variable "n") (constant 1 1)) ∷ separator ∷ block "m" "a" ∷ delayed_read "x" "m" "a" ∷ separator
    ∷ bind "y" (plus (variable "x") (constant 8 1)) ∷ block "m" "b" ∷ write "m" "b" (variable "y")
    ∷ release "m" "a" ∷ release "m" "b" ∷ [])

-- a barrier before a release
abbrev pub barrier : Pipe
barrier =
    pipe 2 (comb "m" 4 (lock Queue 2) ∷ [])
    (spec_barrier ∷ reserve "m" "n" W ∷ spec_call "s" (plus (variable "n") (constant 2 1)) ∷ block "m" "n"
    ∷ write "m" "n" (constant 8 7) ∷ release "m" "n" ∷ separator ∷ verify "s" (plus (variable "n") (constant 2 1)) ∷ [])

-- a barrier three stages before the verify, and guesses that are all wrong
abbrev pub far_barrier : Pipe
far_barrier =
    pipe 2 (comb "m" 4 (lock Queue 2) ∷ [])
    (spec_barrier ∷ reserve "m" "n" W ∷ spec_call "s" (plus (variable "n") (constant 2 1)) ∷ block "m" "n"
    ∷ write "m" "n" (constant 8 7) ∷ release "m" "n" ∷ separator ∷ separator ∷ separator
    ∷ verify "s" (plus (variable "n") (constant 2 2)) ∷ [])

-- the same with a check in place of the barrier, which isn't accepted
abbrev pub without_barrier : Pipe
without_barrier =
    pipe 2 (comb "m" 4 (lock Queue 2) ∷ [])
    (spec_check ∷ reserve "m" "n" W ∷ spec_call "s" (plus (variable "n") (constant 2 1)) ∷ block "m" "n"
    ∷ write "m" "n" (constant 8 7) ∷ release "m" "n" ∷ separator ∷ separator ∷ separator
    ∷ verify "s" (plus (variable "n") (constant 2 2)) ∷ [])

-- all at once: a guess, a fork with a delayed read in its first branch, and after the merge a verify, a reserve and a release
abbrev pub everything : Pipe
everything =
    pipe 2 (slow "d" 4 None ∷ comb "m" 4 (lock Bypass 4) ∷ [])
    (spec_check ∷ bind "g" (slice "n" 0 0) ∷ spec_call "s" (plus (variable "n") (constant 2 1))
    ∷ if_else (variable "g") (delayed_read "x" "d" "n" ∷ separator ∷ bind "y" (variable "x") ∷ separator ∷ []) (separator ∷ separator ∷ separator ∷ [])
    ∷ separator ∷ verify "s" (plus (variable "n") (constant 2 2))
    ∷ reserve "m" "n" W ∷ block "m" "n" ∷ write "m" "n" (constant 8 7) ∷ release "m" "n" ∷ [])

-- a delayed read on no path, after the stage of the releases
abbrev pub dead_read : Pipe
dead_read =
    pipe 2 (slow "m" 4 (lock Queue 1) ∷ [])
    (bind "g" (slice "n" 0 0) ∷ reserve "m" "n" R ∷ block "m" "n" ∷ release "m" "n" ∷ call (plus (variable "n") (constant 2 1))
    ∷ separator ∷ if_else (variable "g") (if_else (variable "g") [] (delayed_read "x" "m" "n" ∷ []) ∷ []) [] ∷ separator ∷ [])
