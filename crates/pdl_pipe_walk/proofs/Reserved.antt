-- Reservations of one memory in a stage, one after another from the last one on, and what follows an earlier one.
use Rattle.std.proofs.Common.{◌≡◌, ℕ, ◌+◌, ◌-◌, ◌<◌, ◌≤◌, ◌==◌, Bool, true, false, List, [], ◌∷◌, map, length, drop, get_or, refl, sym, ap, ap₂, ◌∙◌, subst, arith}
use Rattle.std.specs.Prelude.{if◌then◌else◌}
use Rattle.std.proofs.lemmas.List.{drop_more, drop_all}
use Rattle.pdl_semantics.specs.Flat.{Pipe}
use Rattle.pdl_net.specs.declared.Net.{Net}
use Rattle.pdl_net.specs.Circuit.{Circuit}
use Rattle.pdl_net.specs.Signal.{Signal, mux_signal}
use Rattle.pdl_net.specs.Meaning.{signal, IsThere, Means}
use Rattle.pdl_net.specs.HasWidth.{HasWidth}
use Rattle.pdl_net.specs.Growth.{Keeps}
use Rattle.pdl_law_parts.specs.declared.Mark.TheVariants.{Late}
use Rattle.pdl_law_parts.specs.Walk.{Locks, Reservation, one, zero_bit, reserved_signal}
use Rattle.pdl_pipe_walk.specs.declared.nets.ReserveNet.{ReserveNet}
use Rattle.pdl_pipe_walk.specs.Parts.{Parts, reservation_in}
use Rattle.pdl_pipe_walk.specs.Sized.{IsSizedReserve}
use Rattle.pdl_pipe_walk.specs.Steps.{reserved_or, with_mark, with_wait, with_second, with_room}
use Rattle.pdl_pipe_walk.proofs.Lists.{each_at}
use Rattle.pdl_word.specs.Each.{Each}

-- whether a memory is reserved is told by 1 bit
pub reserved_one : (m : ℕ) (rs : List Reservation) → (reserved_signal m rs).width ≡ 1
reserved_one m [] = refl
reserved_one m (r ∷ rs) = at (r.mem == m) (reserved_one m rs)
  where
    at : (b : Bool) → (reserved_signal m rs).width ≡ 1 → (if b then mux_signal r.on one (reserved_signal m rs) else reserved_signal m rs).width ≡ 1
    at true h = refl
    at false h = h

-- the conditions of a stage's reservations are there, with 1 bit
pub reserves_given : (c : Circuit) (p : Pipe) (rs : List ReserveNet) → Each (λ (r : ReserveNet). IsThere c r.on × IsThere c r.addr) rs
    → Each (IsSizedReserve p) (map (reservation_in c) rs) → Each (λ (r : ReserveNet). HasWidth c r.on 1) rs
reserves_given c p [] t s = tt
reserves_given c p (r ∷ rs) t s = (record { there = t.0.0; width = s.0.1 }, reserves_given c p rs t.1 s.1)

-- before the reservations a net that is always 0 tells whether the memory is reserved
pub reserved_begin : (a : Circuit) (m : ℕ) (rs : List ReserveNet) (zero : Net) → Means a zero zero_bit
    → Means a zero (reserved_signal m (map (reservation_in a) (drop (length rs - 0) rs)))
reserved_begin a m rs zero h = record {
  there = h.there;
  same = h.same ∙ sym (ap (λ (xs : List ReserveNet). reserved_signal m (map (reservation_in a) xs)) (drop_all (length rs - 0) rs (omega arith)));
}

-- past the reservations, the net tells of all of them whether one reserves the memory
pub reserved_end : (a b : Circuit) (m : ℕ) (rs : List ReserveNet) (i : ℕ) (net : Net)
    → length rs ≤ i → Means b net (reserved_signal m (map (reservation_in a) (drop (length rs - i) rs)))
    → Means b net (reserved_signal m (map (reservation_in a) rs))
reserved_end a b m rs i net l h = let z : length rs - i ≡ 0 = omega (arith, l) in
    subst (λ k. Means b net (reserved_signal m (map (reservation_in a) (drop k rs)))) z h

-- with one reservation more, the net tells of the last i + 1 reservations whether one reserves the memory
pub reserved_more : (a b c : Circuit) (m : ℕ) (rs : List ReserveNet) (i : ℕ) (r : ReserveNet) (net y : Net)
    → Keeps a b → i < length rs → r ≡ get_or rs (length rs - 1 - i) r → Each (λ (x : ReserveNet). HasWidth a x.on 1) rs
    → Means b net (reserved_signal m (map (reservation_in a) (drop (length rs - i) rs)))
    → Means c y (reserved_or m (reservation_in b r) (signal b net))
    → Means c y (reserved_signal m (map (reservation_in a) (drop (length rs - (i + 1)) rs)))
reserved_more a b c m rs i r net y k l e given h z =
    let n = length rs in
    let j = n - 1 - i in
    let low : j < n = omega (arith, l) in
    let P : ReserveNet → Type 0 = λ x. HasWidth a x.on 1 in
    let it = subst P (sym e) (each_at P rs j r low given) in
    let back = reserved_signal m (map (reservation_in a) (drop (j + 1) rs)) in
    let before : n - i ≡ j + 1 = omega (arith, l) in
    let now : j ≡ n - (i + 1) = omega (arith, l) in
    let all : List ReserveNet → Signal = λ xs. reserved_signal m (map (reservation_in a) xs) in
    let one_more : reserved_or m (reservation_in a r) back ≡ all (drop j rs) =
    ap (λ (x : ReserveNet). reserved_or m (reservation_in a x) back) e ∙ sym (ap all (drop_more rs j r low)) in
    let after : signal b net ≡ back = h.same ∙ ap (λ i. all (drop i rs)) before in
    let same : reserved_or m (reservation_in b r) (signal b net) ≡ reserved_or m (reservation_in a r) back =
    ap₂ (λ (u v : Signal). if r.mem == m then mux_signal u one v else v) (k.kept r.on it.there) after in
    record { there = z.there; same = z.same ∙ same ∙ one_more ∙ ap (λ i. all (drop i rs)) now }

-- ---- what parts become

-- a location that becomes late and a wait for room for two make what follows an earlier reservation
pub second_made : (m a : ℕ) (q4 q3 q2 q1 q0 : Parts) (o1 o3 on before free room room2 : Signal)
    → q4 ≡ with_wait o3 free q3 → q3 ≡ q2 → q2 ≡ with_mark Late m a o1 before q1 → q1 ≡ q0 → o1 ≡ on → o3 ≡ on
    → before ≡ reserved_signal m q0.reserves → free ≡ mux_signal (reserved_signal m q0.reserves) room2 room
    → q4 ≡ with_second m a on room room2 q0
second_made m a q4 q3 q2 q1 q0 o1 o3 on before free room room2 h4 h3 h2 h1 e1 e3 eb ef = rw (h4, h3, h2, h1, e1, e3, ef, eb) refl

-- where some path reserves a memory twice that is what waiting for room makes
pub room_twice : (ls : Locks) (m a : ℕ) (on room room2 : Signal) (q w : Parts) → ls.twice m ≡ true → room ≡ ls.room m → room2 ≡ ls.room2 m
    → q ≡ with_second m a on room room2 w → q ≡ with_room ls m a on w
room_twice ls m a on room room2 q w e er e2 h =
    h ∙ ap₂ (λ f g. with_second m a on f g w) er e2
    ∙ sym (ap (λ (b : Bool). if b then with_second m a on (ls.room m) (ls.room2 m) w else with_wait on (ls.room m) w) e)

-- where none does it is a wait for room
pub room_once : (ls : Locks) (m a : ℕ) (on room : Signal) (q w : Parts) → ls.twice m ≡ false → room ≡ ls.room m
    → q ≡ with_wait on room w → q ≡ with_room ls m a on w
room_once ls m a on room q w e er h =
    h ∙ ap (λ f. with_wait on f w) er
    ∙ sym (ap (λ (b : Bool). if b then with_second m a on (ls.room m) (ls.room2 m) w else with_wait on (ls.room m) w) e)
