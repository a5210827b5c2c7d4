-- Where a netlist has the memories of a pipe: the delayed ones first, then those that answer at once.
use Rattle.std.proofs.Common.{◌≡◌, refl, sym, ap, ◌∙◌, ℕ, zero, suc, ◌+◌, ◌<◌, Bool, true, false, List, [], ◌∷◌, ◌++◌, length, take, arith, cond}
use Rattle.std.specs.Prelude.{if◌then◌else◌, slice_index_or, count_by}
use Rattle.std.proofs.lemmas.List.Sums.{sum_by-cons}
use Rattle.std.proofs.lemmas.List.{length-map}
use Rattle.pdl_kit.specs.declared.mem_info.MemInfo.{MemInfo}
use Rattle.pdl_semantics.specs.Flat.{Mem, Pipe, is_delayed}
use Rattle.pdl_semantics.specs.Stages.{mem_at, plain_mem, reply_place}
use Rattle.pdl_theory_simulation.proofs.PerMemory.{at_mem}
use Rattle.pdl_net.specs.declared.Netlist.{Netlist}
use Rattle.pdl_net.specs.Run.{delayed_mems}
use Rattle.pdl_law_parts.specs.Walk.{Locks}
use Rattle.pdl_law_parts.specs.Places.{delayed_count, comb_place, net_place}
use Rattle.pdl_law_sides.specs.WholeNetlist.{names_delayed, in_order, HasWholeMems}

-- ---- COUNTS

-- a memory before others that passes the test makes the count one more
pub count_yes : (test : Mem → Bool) (x : Mem) (xs : List Mem) → test x ≡ true → count_by test (x ∷ xs) ≡ suc (count_by test xs)
count_yes test x xs e =
    sum_by-cons (λ y. cond (test y) 1 0) x xs ∙ ap (λ b. cond b 1 0 + count_by test xs) e
    ∙ (let z : 1 + count_by test xs ≡ suc (count_by test xs) = omega arith in z)

-- a memory before others that doesn't pass the test leaves the count
pub count_no : (test : Mem → Bool) (x : Mem) (xs : List Mem) → test x ≡ false → count_by test (x ∷ xs) ≡ count_by test xs
count_no test x xs e =
    sum_by-cons (λ y. cond (test y) 1 0) x xs ∙ ap (λ b. cond b 1 0 + count_by test xs) e ∙ (let z : 0 + count_by test xs ≡ count_by test xs = omega arith in z)

-- before one that passes the test fewer do than in all
pub fewer_before : (test : Mem → Bool) (xs : List Mem) (i : ℕ)
    → i < length xs → test (slice_index_or xs i plain_mem) ≡ true → count_by test (take i xs) < count_by test xs
fewer_before test [] i l e = absurd (omega (arith, l))
fewer_before test (x ∷ xs) zero l e = let c = count_yes test x xs e in omega (arith, c)
fewer_before test (x ∷ xs) (suc i) l e = at (test x) refl (fewer_before test xs i (omega (arith, l)) e)
  where
    at : (b : Bool) → test x ≡ b → count_by test (take i xs) < count_by test xs → count_by test (x ∷ take i xs) < count_by test (x ∷ xs)
    at true f h = let c = count_yes test x xs f in let d = count_yes test x (take i xs) f in omega (arith, c, d, h)
    at false f h = let c = count_no test x xs f in let d = count_no test x (take i xs) f in omega (arith, c, d, h)

-- a memory is delayed
abbrev pub answers_late : Mem → Bool
answers_late x = is_delayed x.kind

-- a memory answers at once
abbrev pub answers_at_once : Mem → Bool
answers_at_once x = if is_delayed x.kind then false else true

-- each memory is one or the other
count_both : (xs : List Mem) → count_by answers_late xs + count_by answers_at_once xs ≡ length xs
count_both [] = omega arith
count_both (x ∷ xs) = at (is_delayed x.kind) refl (count_both xs)
  where
    at : (b : Bool) → is_delayed x.kind ≡ b → count_by answers_late xs + count_by answers_at_once xs ≡ length xs
        → count_by answers_late (x ∷ xs) + count_by answers_at_once (x ∷ xs) ≡ suc (length xs)
    at true f h =
        let c = count_yes answers_late x xs f in
        let d = count_no answers_at_once x xs (ap (λ b. if b then false else true) f) in
        omega (arith, c, d, h)
    at false f h =
        let c = count_no answers_late x xs f in
        let d = count_yes answers_at_once x xs (ap (λ b. if b then false else true) f) in
        omega (arith, c, d, h)

-- ---- PLACES

-- each place is one of as many as there are memories
pub place_low : (p : Pipe) (m : ℕ) → m < length p.mems → net_place p m < length p.mems
place_low p m l = at (is_delayed (mem_at p m).kind) refl
  where
    all : count_by answers_late p.mems + count_by answers_at_once p.mems ≡ length p.mems
    all = count_both p.mems

    at : (b : Bool) → is_delayed (mem_at p m).kind ≡ b → (if b then reply_place p m else delayed_count p + comb_place p m) < length p.mems
    at true e = let h = fewer_before answers_late p.mems m l e in omega (arith, all, h)
    at false e = let h = fewer_before answers_at_once p.mems m l (ap (λ b. if b then false else true) e) in omega (arith, all, h)

-- the place of a delayed memory in the netlist is that among the delayed ones
pub place_delayed : (p : Pipe) (m : ℕ) → is_delayed (mem_at p m).kind ≡ true → net_place p m ≡ reply_place p m
place_delayed p m e = ap (λ b. if b then reply_place p m else delayed_count p + comb_place p m) e

-- a memory that answers at once stands after the delayed ones, in the order of such memories
pub place_comb : (p : Pipe) (m : ℕ) → is_delayed (mem_at p m).kind ≡ false → net_place p m ≡ delayed_count p + comb_place p m
place_comb p m e = ap (λ b. if b then reply_place p m else delayed_count p + comb_place p m) e

-- the place of a delayed memory among the delayed ones is below their count
pub reply_low : (p : Pipe) (m : ℕ) → m < length p.mems → is_delayed (mem_at p m).kind ≡ true → reply_place p m < delayed_count p
reply_low p m l e = fewer_before answers_late p.mems m l e

-- the words of a memory in an image of the netlist's memories
pub part_is : (p : Pipe) (image : List (List ℕ)) (m : ℕ)
    → m < length p.mems → slice_index_or (in_order p image) m [] ≡ slice_index_or image (net_place p m) []
part_is p image m l =
    at_mem (λ i. slice_index_or image (net_place p i) []) 0 p.mems m [] l
    ∙ ap (λ i. slice_index_or image (net_place p i) []) (let z : 0 + m ≡ m = omega arith in z)

-- ---- THE NETLIST'S

named_count : (names : ℕ → List ℕ) (m : ℕ) (xs : List Mem) → length (names_delayed names m xs) ≡ count_by answers_late xs
named_count names m [] = refl
named_count names m (x ∷ xs) = at (is_delayed x.kind) refl (named_count names (suc m) xs)
  where
    at : (b : Bool) → is_delayed x.kind ≡ b → length (names_delayed names (suc m) xs) ≡ count_by answers_late xs
        → length ((if b then names m ∷ [] else []) ++ names_delayed names (suc m) xs) ≡ count_by answers_late (x ∷ xs)
    at true f h = ap suc h ∙ sym (count_yes answers_late x xs f)
    at false f h = h ∙ sym (count_no answers_late x xs f)

-- the netlist has as many delayed memories as the pipe
pub delayed_as_many : (p : Pipe) (names : ℕ → List ℕ) (ls : Locks) (n : Netlist) → HasWholeMems p names ls n
    → length (delayed_mems n) ≡ delayed_count p
delayed_as_many p names ls n mems = sym (length-map (delayed_mems n) (λ (i : MemInfo). i.name)) ∙ ap length mems.named ∙ named_count names 0 p.mems
