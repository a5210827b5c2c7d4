-- The request of a delayed memory after a cycle.
use Rattle.std.proofs.Common.{◌≡◌, ℕ, suc, ◌+◌, ◌<◌, arith, ap, refl, ◌∙◌, Bool, true, false, List, [], ◌∷◌, ◌++◌, length, slice_index_or, Some, None}
use Rattle.std.specs.Prelude.{zero, Option, if◌then◌else◌}
use Rattle.pdl_semantics.specs.Flat.{Mem}
use Rattle.pdl_semantics.specs.Machine.{Ask, Request, NoRequest, Owned, Orphan, request_of, is_answered}
use Rattle.pdl_semantics.specs.Moves.{Act, movers}
use Rattle.pdl_semantics.specs.Cycle.{for_mems, squasher, asked_of, asked_by, request_next, request_left}
use Rattle.pdl_plain.specs.Requests.{New, made_by, made, is_removed, of_thread, request_after, LeavesRequest}

-- what stands for each memory at its number
at_mem : {X : Type 0} (f : ℕ → X) (none : X) (k i : ℕ) (xs : List Mem) → i < length xs → slice_index_or (for_mems f k xs) i none ≡ f (k + i)
at_mem f none k i [] h = absurd (omega arith)
at_mem f none k zero (x ∷ xs) h = ap f (omega arith)
at_mem f none k (suc i) (x ∷ xs) h = at_mem f none (suc k) i xs (omega arith) ∙ ap f (omega arith)

at_its_mem : {X : Type 0} (f : ℕ → X) (none : X) (i : ℕ) (xs : List Mem) → i < length xs → slice_index_or (for_mems f 0 xs) i none ≡ f i
at_its_mem f none i xs h = at_mem f none 0 i xs h ∙ ap f (omega arith)

-- the request of the first of these, if there is one
abbrev first_new : List New → Request → Request
first_new [] old = old
first_new (n ∷ ns) old = Owned n.thread n.address

first_append : (xs ys : List New) (old : Request) → first_new xs (first_new ys old) ≡ first_new (xs ++ ys) old
first_append [] ys old = refl
first_append (x ∷ xs) ys old = refl

asked_is : (m thread : ℕ) (qs : List Ask) (old : Request) → asked_of m thread qs old ≡ first_new (made_by m thread qs) old
asked_is m thread [] old = refl
asked_is m thread (q ∷ qs) old = grind (arith, asked_is m thread qs old)

all_asked : (m : ℕ) (ms : List Act) (old : Request) → asked_by m ms old ≡ first_new (made m ms) old
all_asked m [] old = refl
all_asked m (a ∷ ms) old =
    asked_is m a.thread.number a.does.asks (asked_by m ms old)
    ∙ ap (first_new (made_by m a.thread.number a.does.asks)) (all_asked m ms old)
    ∙ first_append (made_by m a.thread.number a.does.asks) (made m ms) old

left_owned : (sq : Option ℕ) (t a : ℕ) → request_left sq (Owned t a) ≡ of_thread (is_removed sq) t a
left_owned None t a = refl
left_owned (Some q) t a = grind arith

-- the request that is left is that by cases
by_cases : (sq : Option ℕ) (old : Request) (bit : Bool) (new : List New)
    → request_left sq (first_new new (if bit then NoRequest else old)) ≡ request_after old bit new (is_removed sq)
by_cases sq old bit (n ∷ ns) = left_owned sq n.thread n.address
by_cases sq old true [] = refl
by_cases sq NoRequest false [] = refl
by_cases sq (Owned t a) false [] = left_owned sq t a
by_cases sq (Orphan a) false [] = refl

-- what a cycle leaves of a request is told by cases
pub leaves : LeavesRequest
leaves p st bits these m h =
    at_its_mem (λ k. request_left (squasher (movers these)) (request_next p st bits (movers these) k)) NoRequest m p.mems h
    ∙ ap (request_left (squasher (movers these))) (all_asked m (movers these) (if is_answered p bits m then NoRequest else request_of st m))
    ∙ by_cases (squasher (movers these)) (request_of st m) (is_answered p bits m) (made m (movers these))
