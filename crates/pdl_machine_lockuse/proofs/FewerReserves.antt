-- Room for reservations is room for those before the last one.
use Rattle.std.proofs.Common.{◌≡◌, refl, subst, ap₂, ℕ, suc, ◌≤◌, Bool, true, false, ◌&&◌, List, [], ◌∷◌, ◌++◌, length, ◌==◌, cond, arith}
use Rattle.pdl_semantics.specs.Flat.{Pipe, list_all}
use Rattle.pdl_semantics.specs.Stages.{mem_at}
use Rattle.pdl_semantics.specs.Locks.{has_room}
use Rattle.pdl_semantics.specs.Machine.{State, Deeds, Reserved, reserves_of, lock_of}
use Rattle.pdl_semantics.specs.Moves.{have_room}
use Rattle.pdl_semantics.proofs.Readiness.{room_fewer}
use Rattle.pdl_theory_turns.proofs.Writes.{and_left, and_right}

count_front : (m : ℕ) (rs : List Reserved) (r : Reserved) → reserves_of m rs ≤ reserves_of m (rs ++ r ∷ [])
count_front m [] r = omega arith
count_front m (q ∷ rs) r = at (q.mem == m) (count_front m rs r)
  where
    at : (b : Bool) → reserves_of m rs ≤ reserves_of m (rs ++ r ∷ [])
        → cond b (suc (reserves_of m rs)) (reserves_of m rs) ≤ cond b (suc (reserves_of m (rs ++ r ∷ []))) (reserves_of m (rs ++ r ∷ []))
    at true h = omega (arith, h)
    at false h = h

front_all : (P Q : Reserved → Bool) → ((q : Reserved) → P q ≡ true → Q q ≡ true) → (rs : List Reserved) (r : Reserved)
    → list_all P (rs ++ r ∷ []) ≡ true → list_all Q rs ≡ true
front_all P Q f [] r h = refl
front_all P Q f (q ∷ rs) r h = ap₂ (λ a b. a && b) (f q (and_left _ _ h)) (front_all P Q f rs r (and_right (P q) _ h))

-- where there is room for some reservations, there is room for those before the last one
pub room_before : (p : Pipe) (st : State) (d e : Deeds) (r : Reserved) → e.reserves ≡ d.reserves ++ r ∷ [] → have_room p st e ≡ true → have_room p st d ≡ true
room_before p st d e r is h =
    front_all (λ q. has_room (mem_at p q.mem).lock (reserves_of q.mem (d.reserves ++ r ∷ [])) (length (lock_of st q.mem)))
    (λ q. has_room (mem_at p q.mem).lock (reserves_of q.mem d.reserves) (length (lock_of st q.mem)))
    (λ q k. room_fewer (mem_at p q.mem).lock _ _ _ (count_front q.mem d.reserves r) k) d.reserves r
    (subst (λ rs. list_all (λ (q : Reserved). has_room (mem_at p q.mem).lock (reserves_of q.mem rs) (length (lock_of st q.mem))) rs ≡ true) is h)
