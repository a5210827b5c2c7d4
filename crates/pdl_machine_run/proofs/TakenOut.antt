-- What one and two releases take out of a memory.
use Rattle.std.proofs.Common.{◌≡◌, refl, subst, sym, ℕ, ◌<◌, List, [], ◌∷◌, None, length, take, drop}
use Rattle.std.specs.Prelude.{IfSome}
use Rattle.std.proofs.lemmas.List.{length-set}
use Rattle.pdl_semantics.specs.Locks.{commit_value}
use Rattle.pdl_semantics.specs.Machine.{Pending}
use Rattle.pdl_semantics.specs.Cycle.{port_writes}
use Rattle.pdl_machine_facts.specs.Ports.{shown_values, second_values}
use Rattle.pdl_machine_pending.specs.Memory.{oldest, committed_to, all_committed_to, AreWithin}
use Rattle.pdl_machine_run.specs.Acts.{entries_of, given_by}

-- the oldest pending write has its word
pub oldest_in : (n : ℕ) (es : List Pending) → AreWithin n es → IfSome (oldest es) (λ e. e.address < n)
oldest_in n [] h = tt
oldest_in n (e ∷ es) h = h.0

-- after it is taken out the others have theirs
pub rest_in : (ws : List ℕ) (es : List Pending) → AreWithin (length ws) es → AreWithin (length (committed_to ws (oldest es))) (drop 1 es)
rest_in ws [] h = tt
rest_in ws (e ∷ es) h = subst (λ n. AreWithin n es) (sym (length-set ws e.address (commit_value e.value))) h.1

-- the words, the pending writes that are left, and those that are taken out, after one release
pub one_word : (ws : List ℕ) (es : List Pending) → committed_to ws (oldest es) ≡ all_committed_to ws (take 1 es)
one_word ws [] = refl
one_word ws (e ∷ es) = refl

pub one_out : (es : List Pending) → given_by (oldest es) None ≡ take 1 es
one_out [] = refl
one_out (e ∷ es) = refl

-- and after two
pub two_words : (ws : List ℕ) (es : List Pending) → committed_to (committed_to ws (oldest es)) (oldest (drop 1 es)) ≡ all_committed_to ws (take 2 es)
two_words ws [] = refl
two_words ws (e ∷ []) = refl
two_words ws (e ∷ f ∷ es) = refl

pub two_left : (es : List Pending) → drop 1 (drop 1 es) ≡ drop 2 es
two_left [] = refl
two_left (e ∷ []) = refl
two_left (e ∷ f ∷ es) = refl

pub two_out : (es : List Pending) → given_by (oldest es) (oldest (drop 1 es)) ≡ take 2 es
two_out [] = refl
two_out (e ∷ []) = refl
two_out (e ∷ f ∷ es) = refl

-- WHAT IS SHOWN

-- the first of them is shown first
pub first_shown : (es : List Pending) → shown_values (port_writes es) ≡ shown_values (port_writes (entries_of (oldest es)))
first_shown [] = refl
first_shown (e ∷ es) = refl

-- the second one after it
pub second_shown : (es : List Pending) → second_values (port_writes es) ≡ shown_values (port_writes (entries_of (oldest (drop 1 es))))
second_shown [] = refl
second_shown (e ∷ []) = refl
second_shown (e ∷ f ∷ es) = refl
