-- Pipes that tell the definitions of the machine from wrong ones, each with what it tells apart.
use Rattle.std.specs.Prelude.{[], ◌∷◌, None}
use Rattle.pdl_semantics.specs.Tree.{Sub, And, Less, Binary, Cat, ZeroExtend, SignExtend, Choose, R, W, Queue, Bypass, Pipe}
use Rattle.pdl_semantics.proofs.Texts.{number, constant, variable, slice, plus, separator, bind, comb_read, delayed_read, write, reserve, block, release, call, spec_call, verify, spec_check, spec_barrier, if_else, lock, comb, slow, pipe}

-- a write through a queue waits until no older write of its address is pending
abbrev pub queue_write_waits : Pipe
queue_write_waits =
    pipe 2 (comb "m" 4 (lock Queue 2) ∷ [])
    (bind "a" (constant 2 1) ∷ bind "z" (ZeroExtend (variable "n") (number 8)) ∷ reserve "m" "a" W
    ∷ call (plus (variable "n") (constant 2 1)) ∷ separator ∷ block "m" "a" ∷ write "m" "a" (variable "z")
    ∷ separator ∷ release "m" "a" ∷ [])

-- a read finds the youngest of several older pending writes
abbrev pub youngest_write_is_read : Pipe
youngest_write_is_read =
    pipe 2 (comb "m" 4 (lock Bypass 4) ∷ [])
    (bind "a" (constant 2 0) ∷ bind "b" (constant 2 0) ∷ reserve "m" "a" R ∷ reserve "m" "b" W
    ∷ call (plus (variable "n") (constant 2 1)) ∷ separator ∷ block "m" "a" ∷ comb_read "x" "m" "a" ∷ block "m" "b"
    ∷ write "m" "b" (plus (variable "x") (constant 8 1)) ∷ separator ∷ separator ∷ release "m" "a"
    ∷ release "m" "b" ∷ [])

-- a block or release is of the kind for which its path reserved the location
abbrev pub kind_by_path : Pipe
kind_by_path =
    pipe 2 (comb "m" 4 (lock Bypass 4) ∷ [])
    (bind "g" (slice "n" 0 0) ∷ if_else (variable "g") (reserve "m" "n" W ∷ []) (reserve "m" "n" R ∷ [])
    ∷ call (plus (variable "n") (constant 2 1)) ∷ separator ∷ block "m" "n"
    ∷ if_else (variable "g") (write "m" "n" (constant 8 5) ∷ []) [] ∷ separator ∷ release "m" "n" ∷ [])

-- the reply bits count the delayed memories alone
abbrev pub bits_by_delayed : Pipe
bits_by_delayed =
    pipe 2 (comb "m" 4 (lock Queue 1) ∷ slow "d" 4 None ∷ [])
    (delayed_read "x" "d" "n" ∷ call (plus (variable "n") (constant 2 1)) ∷ separator ∷ reserve "m" "n" W
    ∷ block "m" "n" ∷ write "m" "n" (variable "x") ∷ release "m" "n" ∷ [])

-- a port isn't free while the owner of its answered request stands
abbrev pub port_of_a_stalled_owner : Pipe
port_of_a_stalled_owner =
    pipe 2 (slow "d" 4 None ∷ comb "m" 4 (lock Queue 4) ∷ [])
    (bind "a" (constant 2 0) ∷ delayed_read "x" "d" "n" ∷ reserve "m" "a" W
    ∷ call (plus (variable "n") (constant 2 1)) ∷ separator ∷ block "m" "a" ∷ write "m" "a" (variable "x")
    ∷ separator ∷ release "m" "a" ∷ [])

-- an answer that comes while its owner stands is kept
abbrev pub kept_answer : Pipe
kept_answer =
    pipe 2 (slow "d" 4 None ∷ comb "m" 4 (lock Queue 4) ∷ [])
    (bind "a" (constant 2 0) ∷ reserve "m" "a" W ∷ delayed_read "x" "d" "n"
    ∷ call (plus (variable "n") (constant 2 1)) ∷ separator ∷ block "m" "a" ∷ bind "y" (variable "x")
    ∷ write "m" "a" (variable "y") ∷ separator ∷ separator ∷ release "m" "a" ∷ [])

-- operators of each kind
abbrev pub expressions : Pipe
expressions =
    pipe 2 (comb "m" 4 (lock Queue 1) ∷ record (comb "w" 4 (lock Queue 1)) { width = number 9 } ∷ [])
    (bind "c" (Cat (Cat (variable "n") (Binary Less (variable "n") (constant 2 2))) (constant 1 1))
    ∷ bind "e" (Binary Less (Binary Sub (variable "n") (constant 2 1)) (variable "n"))
    ∷ bind "f" (Choose (variable "e") (SignExtend (variable "n") (number 8)) (ZeroExtend (variable "n") (number 8)))
    ∷ bind "h" (Cat (ZeroExtend (variable "c") (number 5)) (variable "c"))
    ∷ bind "v" (Binary And (Binary Less (variable "n") (constant 2 2)) (variable "e"))
    ∷ bind "u" (Choose (variable "v") (constant 8 1) (variable "f")) ∷ reserve "m" "n" W ∷ block "m" "n"
    ∷ write "m" "n" (plus (variable "u") (variable "f")) ∷ release "m" "n" ∷ reserve "w" "n" W ∷ block "w" "n"
    ∷ write "w" "n" (variable "h") ∷ release "w" "n" ∷ call (plus (variable "n") (constant 2 1)) ∷ [])

-- two forks on one variable go the same way; the depth counts consistent paths
abbrev pub two_forks_on_one_guard : Pipe
two_forks_on_one_guard =
    pipe 2 (comb "m" 4 (lock Bypass 4) ∷ [])
    (bind "g" (slice "n" 0 0) ∷ bind "z" (ZeroExtend (variable "n") (number 8)) ∷ reserve "m" "n" W
    ∷ call (plus (variable "n") (constant 2 1)) ∷ if_else (variable "g") (separator ∷ separator ∷ []) []
    ∷ separator ∷ if_else (variable "g") [] (separator ∷ separator ∷ separator ∷ []) ∷ separator ∷ block "m" "n"
    ∷ write "m" "n" (variable "z") ∷ release "m" "n" ∷ [])

-- a squash empties the list of a fork that merges no later than V
abbrev pub squash_empties_lists : Pipe
squash_empties_lists =
    pipe 2 (comb "m" 4 (lock Queue 4) ∷ [])
    (spec_check ∷ bind "g" (slice "n" 0 0) ∷ spec_call "s" (plus (variable "n") (constant 2 1))
    ∷ if_else (variable "g") (separator ∷ separator ∷ []) (separator ∷ []) ∷ separator
    ∷ verify "s" (plus (variable "n") (constant 2 2)) ∷ reserve "m" "n" W ∷ block "m" "n"
    ∷ write "m" "n" (constant 8 9) ∷ release "m" "n" ∷ [])

-- a squash keeps the list of a fork after V
abbrev pub squash_keeps_later_lists : Pipe
squash_keeps_later_lists =
    pipe 2 (comb "m" 4 (lock Queue 4) ∷ [])
    (spec_check ∷ bind "g" (slice "n" 0 0) ∷ spec_call "s" (plus (variable "n") (constant 2 1)) ∷ separator
    ∷ verify "s" (plus (variable "n") (constant 2 3))
    ∷ if_else (variable "g") (separator ∷ separator ∷ separator ∷ separator ∷ []) (separator ∷ separator ∷ separator ∷ [])
    ∷ separator ∷ reserve "m" "n" W ∷ block "m" "n" ∷ write "m" "n" (ZeroExtend (variable "n") (number 8))
    ∷ release "m" "n" ∷ [])

-- a port is free where its owner moves in a later stage
abbrev pub port_of_an_owner_in_the_other_branch : Pipe
port_of_an_owner_in_the_other_branch =
    pipe 2 (slow "d" 4 None ∷ comb "m" 4 (lock Queue 4) ∷ [])
    (bind "g" (slice "n" 0 0) ∷ bind "a" (constant 2 0) ∷ reserve "m" "a" W ∷ delayed_read "x" "d" "n"
    ∷ call (plus (variable "n") (constant 2 1))
    ∷ if_else (variable "g") (separator ∷ []) (separator ∷ block "m" "a" ∷ []) ∷ separator
    ∷ if_else (variable "g") (block "m" "a" ∷ []) [] ∷ write "m" "a" (variable "x") ∷ separator ∷ separator
    ∷ release "m" "a" ∷ [])

-- a barrier looks as far as V, and no further
abbrev pub barrier_up_to_v : Pipe
barrier_up_to_v =
    pipe 2 (comb "m" 4 (lock Queue 4) ∷ [])
    (spec_barrier ∷ reserve "m" "n" W ∷ spec_call "s" (plus (variable "n") (constant 2 1)) ∷ separator
    ∷ verify "s" (plus (variable "n") (constant 2 1)) ∷ separator ∷ separator ∷ block "m" "n"
    ∷ write "m" "n" (constant 8 3) ∷ release "m" "n" ∷ [])

-- in a pipe without verify it holds nobody up
abbrev pub barrier_without_v : Pipe
barrier_without_v =
    pipe 2 (comb "m" 4 (lock Queue 4) ∷ [])
    (spec_barrier ∷ reserve "m" "n" W ∷ call (plus (variable "n") (constant 2 1)) ∷ separator ∷ separator
    ∷ block "m" "n" ∷ write "m" "n" (constant 8 3) ∷ release "m" "n" ∷ [])
