-- Tickets after reservations, one after the other.
use Rattle.std.proofs.Common.{◌≡◌, ◌≢◌, refl, sym, ap, ap₂, ◌∙◌, subst, ℕ, zero, suc, ◌+◌, ◌%◌, ◌^◌, ◌<◌, ◌==◌, Bool, true, false, List, [], ◌∷◌, ◌++◌, map, length, take, get_or, arith}
use Rattle.std.specs.Prelude.{if◌then◌else◌}
use Rattle.std.proofs.lemmas.Bool.{eq-eqb, ne_eqb}
use Rattle.std.proofs.lemmas.List.{length-append, take_more, map-append}
use Rattle.pdl_word.specs.Words.{bit}
use Rattle.pdl_word.specs.Each.{Each}
use Rattle.pdl_word.proofs.Each.{each_get}
use Rattle.pdl_net.specs.declared.Net.{Net}
use Rattle.pdl_net.specs.Circuit.{Circuit, State}
use Rattle.pdl_net.specs.Signal.{Signal}
use Rattle.pdl_net.specs.Meaning.{signal, IsThere}
use Rattle.pdl_net.specs.Growth.{Keeps}
use Rattle.pdl_net.proofs.KeptWidths.{width_keeps}
use Rattle.pdl_lockapi.specs.Laws.{ReserveSignal, asked_addresses}
use Rattle.pdl_law_parts.specs.Walk.{Reservation, both}
use Rattle.pdl_law_parts.specs.Views.{View}
use Rattle.pdl_law_parts.specs.Ports.{one_more, reserves_to, all_reserves}
use Rattle.pdl_law_parts.proofs.Tickets.{one_more_is}
use Rattle.pdl_law_parts.proofs.LockPorts.{asked_append}
use Rattle.pdl_semantics.specs.Flat.{Pipe}
use Rattle.pdl_pipe_walk.specs.declared.nets.ReserveNet.{ReserveNet}
use Rattle.pdl_pipe_walk.specs.Parts.{reservation_in}
use Rattle.pdl_pipe_walk.specs.Sized.{IsSizedReserve}
use Rattle.pdl_pipe_tails.specs.Reserved.{IsReserve, IsAfter}

-- ---- how many are asked

asked_count : (s : State) (xs ys : List ReserveSignal)
    → length (asked_addresses s (xs ++ ys)) ≡ length (asked_addresses s xs) + length (asked_addresses s ys)
asked_count s xs ys = ap length (asked_append s xs ys) ∙ length-append (asked_addresses s xs) (asked_addresses s ys)

reserves_append : (m : ℕ) (moves : Signal) (xs ys : List Reservation)
    → reserves_to m moves (xs ++ ys) ≡ reserves_to m moves xs ++ reserves_to m moves ys
reserves_append m moves [] ys = refl
reserves_append m moves (x ∷ xs) ys = at (x.mem == m) (reserves_append m moves xs ys)
  where
    at : (b : Bool) → reserves_to m moves (xs ++ ys) ≡ reserves_to m moves xs ++ reserves_to m moves ys
        → (if b then record { enable = both moves x.on; addr = x.addr } ∷ reserves_to m moves (xs ++ ys) else reserves_to m moves (xs ++ ys))
        ≡ (if b then record { enable = both moves x.on; addr = x.addr } ∷ reserves_to m moves xs else reserves_to m moves xs) ++ reserves_to m moves ys
    at true e = ap (λ rs. record { enable = both moves x.on; addr = x.addr } ∷ rs) e
    at false e = e

-- by one stage more
all_count : (s : State) (m : ℕ) (vs : ℕ → View) (moves : ℕ → Signal) (n k : ℕ)
    → length (asked_addresses s (all_reserves m vs moves (suc n) k))
    ≡ length (asked_addresses s (all_reserves m vs moves n k)) + length (asked_addresses s (reserves_to m (moves (k + n)) (vs (k + n)).ended.reserves))
all_count s m vs moves zero k =
    let here = ap (λ j. length (asked_addresses s (reserves_to m (moves j) (vs j).ended.reserves))) (let e : k ≡ k + 0 = omega arith in e) in
    omega (arith, here)
all_count s m vs moves (suc n) k =
    let front = asked_count s (all_reserves m vs moves (suc n) (suc k)) (reserves_to m (moves k) (vs k).ended.reserves) in
    let back = asked_count s (all_reserves m vs moves n (suc k)) (reserves_to m (moves k) (vs k).ended.reserves) in
    let more = all_count s m vs moves n (suc k) in
    let last = ap (λ j. length (asked_addresses s (reserves_to m (moves j) (vs j).ended.reserves))) (let e : suc k + n ≡ k + suc n = omega arith in e) in
    omega (arith, front, back, more, last)

-- ---- tickets

-- after no reservations the ticket is what it was
pub after_none : (f : Signal) → IsAfter f f []
after_none f = record { wide = refl; holds = λ s t e. e ∙ ap (λ n. n % 2 ^ f.width) (let z : t ≡ t + 0 = omega arith in z) }

-- by as many of others
after_as : (f g : Signal) (xs ys : List ReserveSignal)
    → ((s : State) → length (asked_addresses s xs) ≡ length (asked_addresses s ys)) → IsAfter f g xs → IsAfter f g ys
after_as f g xs ys same h = record { wide = h.wide; holds = λ s t e. h.holds s t e ∙ ap (λ n. (t + n) % 2 ^ f.width) (same s) }

after_then : (f g h : Signal) (xs ys : List ReserveSignal) → IsAfter f g xs → IsAfter g h ys → IsAfter f h (xs ++ ys)
after_then f g h xs ys a b = record {
  wide = b.wide ∙ a.wide;
  holds = λ s t e.
      let one = length (asked_addresses s xs) in
      let two = length (asked_addresses s ys) in
      let here = subst (λ w. g.value s ≡ (t + one) % 2 ^ w) (sym a.wide) (a.holds s t e) in
      let there = subst (λ w. h.value s ≡ (t + one + two) % 2 ^ w) a.wide (b.holds s (t + one) here) in
      there
      ∙ ap (λ n. n % 2 ^ f.width)
      (let n = asked_count s xs ys in let z : t + one + two ≡ t + length (asked_addresses s (xs ++ ys)) = omega (arith, n) in z);
}

-- one reservation
after_one : (on f addr : Signal) → IsAfter f (one_more on f) (record { enable = on; addr = addr } ∷ [])
after_one on f addr = record {
  wide = refl;
  holds = λ s t e. one_more_is s on f f.width t refl e ∙ ap (λ n. (t + n) % 2 ^ f.width) (asked (addr.value s) (on.value s == 1));
}
  where
    asked : (a : ℕ) (b : Bool) → bit b ≡ length (if b then a ∷ [] else [])
    asked a true = refl
    asked a false = refl

-- after a reservation of this memory, by a thread that moves, the ticket is the one after it
pub after_own : (m : ℕ) (moves f : Signal) (r : Reservation)
    → r.mem ≡ m → IsAfter f (one_more (both moves r.on) f) (reserves_to m moves (r ∷ []))
after_own m moves f r e =
    subst (λ b. IsAfter f (one_more (both moves r.on) f) (if b then record { enable = both moves r.on; addr = r.addr } ∷ [] else []))
    (sym (eq-eqb r.mem m e)) (after_one (both moves r.on) f r.addr)

-- after a reservation of another memory the ticket is what it was
pub after_other : (m : ℕ) (moves f : Signal) (r : Reservation) → r.mem ≢ m → IsAfter f f (reserves_to m moves (r ∷ []))
after_other m moves f r ne =
    subst (λ b. IsAfter f f (if b then record { enable = both moves r.on; addr = r.addr } ∷ [] else [])) (sym (ne_eqb r.mem m ne)) (after_none f)

-- ---- the reservations of a stage

-- the nets of reservations stay in a circuit that keeps what stands in theirs
pub reserves_keep : (a b : Circuit) (rs : List ReserveNet) → Keeps a b → Each (IsReserve a) rs → Each (IsReserve b) rs
reserves_keep a b [] e h = tt
reserves_keep a b (r ∷ rs) e h =
    ((width_keeps a b r.on 1 e h.0.0, e.there r.addr h.0.1), reserves_keep a b rs e h.1)

-- the nets of sized reservations are there, their conditions with 1 bit
pub reserves_of : (c : Circuit) (p : Pipe) (rs : List ReserveNet)
    → Each (λ (r : ReserveNet). IsThere c r.on × IsThere c r.addr) rs
    → Each (IsSizedReserve p) (map (reservation_in c) rs) → Each (IsReserve c) rs
reserves_of c p [] h k = tt
reserves_of c p (r ∷ rs) h k = ((record { there = h.0.0; width = k.0.1 }, h.0.1), reserves_of c p rs h.1 k.1)

reservation_keep : (a b : Circuit) (r : ReserveNet) → Keeps a b → IsReserve a r → reservation_in b r ≡ reservation_in a r
reservation_keep a b r e h = ap₂ (λ f g. record { mem = r.mem; var = r.var; on = f; addr = g }) (e.kept r.on h.0.there) (e.kept r.addr h.1)

-- after one reservation more of a stage, the ticket is the one after the reservations so far
pub stage_more : (a b d : Circuit) (m : ℕ) (moves : Net) (f g h : Signal) (rs : List ReserveNet) (i : ℕ) (r : ReserveNet)
    → Keeps a b → IsThere a moves → Each (IsReserve a) rs → i < length rs
    → IsAfter f g (reserves_to m (signal a moves) (map (reservation_in a) (take i rs)))
    → IsAfter g h (reserves_to m (signal b moves) (reservation_in b (get_or rs i r) ∷ []))
    → IsAfter f h (reserves_to m (signal a moves) (map (reservation_in a) (take (i + 1) rs)))
stage_more a b d m moves f g h rs i r e t each low old new =
    let it = get_or rs i r in
    let own = each_get (IsReserve a) rs i r low each in
    let now =
    subst (λ (q : Reservation). IsAfter g h (reserves_to m (signal a moves) (q ∷ [])))
    (reservation_keep a b it e own)
    (subst (λ u. IsAfter g h (reserves_to m u (reservation_in b it ∷ []))) (e.kept moves t) new) in
    let both_of = after_then f g h _ _ old now in
    let split = ap (map (reservation_in a)) (take_more rs i r low) ∙ map-append (reservation_in a) (take i rs) (it ∷ []) in
    subst (IsAfter f h)
    (sym
    (ap (reserves_to m (signal a moves)) split
    ∙ reserves_append m (signal a moves) (map (reservation_in a) (take i rs)) (reservation_in a it ∷ []))) both_of

-- ---- those of all stages

-- the ticket after the reservations of one stage more than the first k
pub stages_more : (m : ℕ) (vs : ℕ → View) (moves : ℕ → Signal) (f g h : Signal) (k : ℕ)
    → IsAfter f g (all_reserves m vs moves k 0) → IsAfter g h (reserves_to m (moves k) (vs k).ended.reserves)
    → IsAfter f h (all_reserves m vs moves (k + 1) 0)
stages_more m vs moves f g h k old new =
    after_as f h (all_reserves m vs moves k 0 ++ reserves_to m (moves k) (vs k).ended.reserves) (all_reserves m vs moves (k + 1) 0)
    (λ s.
    let split = asked_count s (all_reserves m vs moves k 0) (reserves_to m (moves k) (vs k).ended.reserves) in
    let more = all_count s m vs moves k 0 in
    let same = ap (λ n. length (asked_addresses s (all_reserves m vs moves n 0))) (let e : suc k ≡ k + 1 = omega arith in e) in
    let last = ap (λ j. length (asked_addresses s (reserves_to m (moves j) (vs j).ended.reserves))) (let e : 0 + k ≡ k = omega arith in e) in
    omega (arith, split, more, same, last))
    (after_then f g h (all_reserves m vs moves k 0) (reserves_to m (moves k) (vs k).ended.reserves) old new)
