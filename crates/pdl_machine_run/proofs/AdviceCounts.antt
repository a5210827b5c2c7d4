-- How many advised values a thread has: no more than there are statements in the stages that it has been in.
use Rattle.std.proofs.Common.{◌≡◌, refl, ℕ, suc, ◌+◌, ◌≤◌, Bool, true, false, if◌then◌else◌, ◌==◌, nat_lt, List, [], ◌∷◌, length, length-append, Some, slice_index, arith}
use Rattle.std.proofs.lemmas.Bool.{eqb-true, eqb-false, ltb-true, ltb-false}
use Rattle.pdl_semantics.specs.Flat.{Op, Bind, CombRead, DelayedRead, Write, ReserveRead, ReserveWrite, Block, Release, Call, SpecCall, Verify, SpecCheck, SpecBarrier, AdviceBind, AdviceRead, AdviceWrite, Stmt, all_hold, value_of}
use Rattle.pdl_semantics.specs.Stages.{in_stage}
use Rattle.pdl_semantics.specs.Machine.{Deeds, all_values, same_args, deeds_after, deeds_after_all, checked_args}
use Rattle.pdl_machine_run.specs.Typed.{count_before}

-- STATEMENTS BEFORE A STAGE

one_stage : (k : ℕ) (x : Stmt) (ys : List Stmt) (low high : ℕ) → low + length ys ≡ high
    → (a b c : Bool) → nat_lt x.stage k ≡ a → (x.stage == k) ≡ b → nat_lt x.stage (suc k) ≡ c
    → (if a then suc low else low) + length (if b then x ∷ ys else ys) ≡ (if c then suc high else high)
one_stage k x ys low high h true true c ea eb ec =
    let less = ltb-true x.stage k ea in let same = eqb-true x.stage k eb in absurd (omega (arith, less, same))
one_stage k x ys low high h true false true ea eb ec = omega (arith, h)
one_stage k x ys low high h true false false ea eb ec =
    let less = ltb-true x.stage k ea in let past = ltb-false x.stage (suc k) ec in absurd (omega (arith, less, past))
one_stage k x ys low high h false true true ea eb ec = omega (arith, h)
one_stage k x ys low high h false true false ea eb ec =
    let same = eqb-true x.stage k eb in let past = ltb-false x.stage (suc k) ec in absurd (omega (arith, same, past))
one_stage k x ys low high h false false true ea eb ec =
    let here = ltb-false x.stage k ea in
    let less = ltb-true x.stage (suc k) ec in
    let apart = eqb-false x.stage k eb in
    absurd (apart (omega (arith, here, less)))
one_stage k x ys low high h false false false ea eb ec = h

-- the statements before a stage and those in it are those before the next
pub count_next : (k : ℕ) (xs : List Stmt) → count_before k xs + length (in_stage k xs) ≡ count_before (suc k) xs
count_next k [] = omega arith
count_next k (x ∷ xs) =
    one_stage k x (in_stage k xs) (count_before k xs) (count_before (suc k) xs) (count_next k xs)
    (nat_lt x.stage k) (x.stage == k) (nat_lt x.stage (suc k)) refl refl refl

one_later : (k q : ℕ) (x : Stmt) (low high : ℕ) → k ≤ q → low ≤ high
    → (a b : Bool) → nat_lt x.stage k ≡ a → nat_lt x.stage q ≡ b
    → (if a then suc low else low) ≤ (if b then suc high else high)
one_later k q x low high up h true true ea eb = omega (arith, h)
one_later k q x low high up h true false ea eb =
    let less = ltb-true x.stage k ea in let past = ltb-false x.stage q eb in absurd (omega (arith, less, past, up))
one_later k q x low high up h false true ea eb = omega (arith, h)
one_later k q x low high up h false false ea eb = h

-- no more statements stand before a stage than before a later one
pub count_later : (k q : ℕ) (xs : List Stmt) → k ≤ q → count_before k xs ≤ count_before q xs
count_later k q [] up = omega arith
count_later k q (x ∷ xs) up =
    one_later k q x (count_before k xs) (count_before q xs) up (count_later k q xs up) (nat_lt x.stage k) (nat_lt x.stage q) refl refl

one_few : (b : Bool) (n most : ℕ) → n ≤ most → (if b then suc n else n) ≤ suc most
one_few true n most h = omega arith
one_few false n most h = omega arith

-- no more statements stand before a stage than there are
pub count_few : (k : ℕ) (xs : List Stmt) → count_before k xs ≤ length xs
count_few k [] = omega arith
count_few k (x ∷ xs) = one_few (nat_lt x.stage k) (count_before k xs) (length xs) (count_few k xs)

-- ADVISED VALUES

advised_verify : (b : Bool) (args : List ℕ) (d : Deeds)
    → length (if b then d else record d { child = Some args; guess = args; fails = true }).advice ≡ length d.advice
advised_verify true args d = refl
advised_verify false args d = refl

advised_op : (read : ℕ → ℕ → ℕ) (op : Op) (d : Deeds) → length (deeds_after read op d).advice ≤ suc (length d.advice)
advised_op read (Bind x e) d = omega arith
advised_op read (CombRead x m a) d = omega arith
advised_op read (DelayedRead x m a) d = omega arith
advised_op read (Write m a e) d = omega arith
advised_op read (ReserveRead m a) d = omega arith
advised_op read (ReserveWrite m a) d = omega arith
advised_op read (Block m a) d = omega arith
advised_op read (Release m a) d = omega arith
advised_op read (Call args) d = omega arith
advised_op read (SpecCall args) d = omega arith
advised_op read (Verify last args) d =
    let same = advised_verify (same_args (checked_args last args d) d.guess) (checked_args last args d) d in omega (arith, same)
advised_op read SpecCheck d = omega arith
advised_op read SpecBarrier d = omega arith
advised_op read (AdviceBind x e) d = let sum = length-append d.advice (record { var = x; word = value_of e (all_values d) } ∷ []) in omega (arith, sum)
advised_op read (AdviceRead x m a) d =
    let sum = length-append d.advice (record { var = x; word = read m (slice_index (all_values d) a) } ∷ []) in omega (arith, sum)
advised_op read (AdviceWrite m a e) d = omega arith

advised_if : (read : ℕ → ℕ → ℕ) (b : Bool) (op : Op) (d : Deeds) → length (if b then deeds_after read op d else d).advice ≤ suc (length d.advice)
advised_if read true op d = advised_op read op d
advised_if read false op d = omega arith

-- each statement advises one value or none
pub advised_few : (read : ℕ → ℕ → ℕ) (ss : List Stmt) (d : Deeds) → length (deeds_after_all read ss d).advice ≤ length d.advice + length ss
advised_few read [] d = omega arith
advised_few read (x ∷ ss) d =
    let next : Deeds = if all_hold x.guards d.env then deeds_after read x.op d else d in
    let one = advised_if read (all_hold x.guards d.env) x.op d in
    let rest = advised_few read ss next in
    omega (arith, one, rest)
