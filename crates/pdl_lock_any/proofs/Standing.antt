-- Reservations that stand for pending writes, one for one.
use Rattle.std.proofs.Common.{◌≡◌, refl, sym, ap, ◌∙◌, subst, ℕ, zero, suc, ◌+◌, ◌-◌, ◌<◌, ◌≤◌, ◌⊎◌, inl, inr, ⊎_elim, Bool, true, false, cond, List, [], ◌∷◌, ◌++◌, length, map, take, drop, set, get_or, filter, is_some, arith, lt-ltb, le-ltb}
use Rattle.std.specs.Prelude.{nat_lt, if◌then◌else◌, ⊤}
use Rattle.std.specs.List.{range_with_len}
use Rattle.pdl_lockapi.specs.Lock.{Entry, WriteAct, act_at, entry_at, with_entry_value, with_write, with_writes, fresh}
use Rattle.pdl_lock_any.specs.History.{Reservation, numbered}

-- the tickets of the reservations follow one another from b on, each has a pending write at its place, and of those with V this one has a value
abbrev pub Stand : (Reservation → Type 0) → ℕ → List Reservation → List Entry → Type 0
Stand V b [] [] = ⊤
Stand V b [] (e ∷ es) = ⊥
Stand V b (r ∷ rs) [] = ⊥
Stand V b (r ∷ rs) (e ∷ es) = (r.ticket ≡ b) × (V r → is_some e.value ≡ true) × Stand V (suc b) rs es

-- there are as many of both
pub stand_length : (V : Reservation → Type 0) (b : ℕ) (rs : List Reservation) (es : List Entry) → Stand V b rs es → length rs ≡ length es
stand_length V b [] [] s = refl
stand_length V b [] (e ∷ es) s = absurd s
stand_length V b (r ∷ rs) [] s = absurd s
stand_length V b (r ∷ rs) (e ∷ es) s = ap suc (stand_length V (suc b) rs es s.2)

-- what tells less of the values stands too
pub stand_map : (V W : Reservation → Type 0) (b : ℕ) (rs : List Reservation) (es : List Entry)
    → ((r : Reservation) → W r → V r) → Stand V b rs es → Stand W b rs es
stand_map V W b [] [] f s = tt
stand_map V W b [] (e ∷ es) f s = absurd s
stand_map V W b (r ∷ rs) [] f s = absurd s
stand_map V W b (r ∷ rs) (e ∷ es) f s = (s.0, λ w. s.1 (f r w), stand_map V W (suc b) rs es f s.2)

-- more reservations with the next tickets stand behind
pub stand_append : (V : Reservation → Type 0) (b c : ℕ) (rs qs : List Reservation) (es fs : List Entry)
    → c ≡ b + length rs → Stand V b rs es → Stand V c qs fs → Stand V b (rs ++ qs) (es ++ fs)
stand_append V b c [] qs [] fs e s t = let f : c ≡ b = omega (arith, e) in subst (λ n. Stand V n qs fs) f t
stand_append V b c [] qs (x ∷ es) fs e s t = absurd s
stand_append V b c (r ∷ rs) qs [] fs e s t = absurd s
stand_append V b c (r ∷ rs) qs (x ∷ es) fs e s t = (s.0, s.1, stand_append V (suc b) c rs qs es fs (omega (arith, e)) s.2 t)

-- new reservations, of which V holds of none, stand for pending writes without values
pub stand_fresh : (V : Reservation → Type 0) (c b : ℕ) (addresses : List ℕ)
    → ((t : ℕ) → V (record { cycle = c; ticket = t }) → ⊥) → Stand V b (numbered c b addresses) (map fresh addresses)
stand_fresh V c b [] f = tt
stand_fresh V c b (a ∷ addresses) f = (refl, λ v. absurd (f b v), stand_fresh V c (suc b) addresses f)

-- what is left after the oldest were taken out stands
pub stand_drop : (V : Reservation → Type 0) (b c k : ℕ) (rs : List Reservation) (es : List Entry)
    → c ≡ b + k → k ≤ length rs → Stand V b rs es → Stand V c (drop k rs) (drop k es)
stand_drop V b c zero rs es e h s = let f : b ≡ c = omega (arith, e) in subst (λ n. Stand V n rs es) f s
stand_drop V b c (suc k) [] es e h s = absurd (omega (arith, h))
stand_drop V b c (suc k) (r ∷ rs) [] e h s = absurd s
stand_drop V b c (suc k) (r ∷ rs) (x ∷ es) e h s = stand_drop V (suc b) c k rs es (omega (arith, e)) (omega (arith, h)) s.2

-- a number below every ticket leaves none
pub none_below : (V : Reservation → Type 0) (t b : ℕ) (rs : List Reservation) (es : List Entry)
    → t ≤ b → Stand V b rs es → filter (λ r. nat_lt r.ticket t) rs ≡ []
none_below V t b [] es h s = refl
none_below V t b (r ∷ rs) [] h s = absurd s
none_below V t b (r ∷ rs) (x ∷ es) h s =
    let n : t ≤ r.ticket = omega (arith, h, s.0) in
    let rest : filter (λ q. nat_lt q.ticket t) rs ≡ [] = none_below V t (suc b) rs es (omega (arith, h)) s.2 in
    ap (λ o. cond o (r ∷ filter (λ q. nat_lt q.ticket t) rs) (filter (λ q. nat_lt q.ticket t) rs)) (le-ltb r.ticket t n) ∙ rest

-- the reservations with tickets below t stand for the pending writes before it
stand_below : (V : Reservation → Type 0) (t b i : ℕ) (rs : List Reservation) (es : List Entry)
    → t ≡ b + i → Stand V b rs es → Stand V b (filter (λ r. nat_lt r.ticket t) rs) (take i es)
stand_below V t b zero rs es e s =
    subst (λ (qs : List Reservation). Stand V b qs []) (sym (none_below V t b rs es (omega (arith, e)) s)) tt
stand_below V t b (suc i) [] [] e s = tt
stand_below V t b (suc i) [] (x ∷ es) e s = absurd s
stand_below V t b (suc i) (r ∷ rs) [] e s = absurd s
stand_below V t b (suc i) (r ∷ rs) (x ∷ es) e s =
    let h : r.ticket < t = omega (arith, e, s.0) in
    subst
    (λ (o : Bool). Stand V b (cond o (r ∷ filter (λ q. nat_lt q.ticket t) rs) (filter (λ q. nat_lt q.ticket t) rs)) (x ∷ take i es))
    (sym (lt-ltb r.ticket t h))
    (s.0, s.1, stand_below V t (suc b) i rs es (omega (arith, e)) s.2)

-- a test that leaves all
pub all_left : (rs : List Reservation) → filter (λ r. true) rs ≡ rs
all_left [] = refl
all_left (r ∷ rs) = ap (λ qs. r ∷ qs) (all_left rs)

-- what a squash leaves, where there is one, stands
pub stand_squash : (V : Reservation → Type 0) (o : Bool) (t b : ℕ) (rs : List Reservation) (es : List Entry)
    → (o ≡ true → b ≤ t) → Stand V b rs es
    → Stand V b (filter (λ r. if o then nat_lt r.ticket t else true) rs) (if o then take (t - b) es else es)
stand_squash V true t b rs es h s = let i : b ≤ t = h refl in stand_below V t b (t - b) rs es (omega (arith, i)) s
stand_squash V false t b rs es h s = subst (λ (qs : List Reservation). Stand V b qs es) (sym (all_left rs)) s

take_long : (i : ℕ) (es : List Entry) → i ≤ length es → length (take i es) ≡ i
take_long zero es h = refl
take_long (suc i) [] h = absurd (omega (arith, h))
take_long (suc i) (e ∷ es) h = ap suc (take_long i es (omega (arith, h)))

-- the next ticket is behind what a squash leaves
pub next_squash : (V : Reservation → Type 0) (o : Bool) (t g b : ℕ) (rs : List Reservation) (es : List Entry)
    → (o ≡ true → (b ≤ t) × (t ≤ b + length rs)) → g ≡ b + length rs → Stand V b rs es
    → (if o then t else g) ≡ b + length (filter (λ r. if o then nat_lt r.ticket t else true) rs)
next_squash V true t g b rs es f e s =
    let h : b ≤ t = (f refl).0 in
    let k : t ≤ b + length rs = (f refl).1 in
    let l : length rs ≡ length es = stand_length V b rs es s in
    let i : t ≡ b + (t - b) = omega (arith, h) in
    let m : length (filter (λ r. nat_lt r.ticket t) rs) ≡ length (take (t - b) es) =
    stand_length V b (filter (λ r. nat_lt r.ticket t) rs) (take (t - b) es) (stand_below V t b (t - b) rs es i s) in
    i ∙ ap (λ n. b + n) (sym (m ∙ take_long (t - b) es (omega (arith, h, k, l))))
next_squash V false t g b rs es f e s = e ∙ ap (λ qs. b + length qs) (sym (all_left rs))

-- the first has a value where V holds of it
pub has_first : (V : Reservation → Type 0) (b : ℕ) (r : Reservation) (rs : List Reservation) (es : List Entry)
    → Stand V b (r ∷ rs) es → V r → is_some (entry_at es 0).value ≡ true
has_first V b r rs [] s v = absurd s
has_first V b r rs (e ∷ es) s v = s.1 v

-- and the second
pub has_second : (V : Reservation → Type 0) (b : ℕ) (q r : Reservation) (rs : List Reservation) (es : List Entry)
    → Stand V b (q ∷ r ∷ rs) es → V r → is_some (entry_at es 1).value ≡ true
has_second V b q r rs [] s v = absurd s
has_second V b q r rs (e ∷ es) s v = has_first V (suc b) r rs es s.2 v

-- the ticket at a place
pub ticket_at : (V : Reservation → Type 0) (b : ℕ) (rs : List Reservation) (es : List Entry) → Stand V b rs es
    → (k d : ℕ) → k < length (map (λ (r : Reservation). r.ticket) rs)
    → (get_or (map (λ (r : Reservation). r.ticket) rs) k d ≡ b + k) × (k < length es)
ticket_at V b [] es s k d h = absurd (omega (arith, h))
ticket_at V b (r ∷ rs) [] s k d h = absurd s
ticket_at V b (r ∷ rs) (x ∷ es) s zero d h = let e : b ≡ b + 0 = omega arith in (s.0 ∙ e, omega arith)
ticket_at V b (r ∷ rs) (x ∷ es) s (suc k) d h =
    let i = ticket_at V (suc b) rs es s.2 k d (omega (arith, h)) in
    let e : suc b + k ≡ b + suc k = omega arith in
    (i.0 ∙ e, omega (arith, i.1))

-- the tickets are as many numbers as there are pending writes
pub tickets_are : (V : Reservation → Type 0) (b : ℕ) (rs : List Reservation) (es : List Entry) → Stand V b rs es
    → map (λ (r : Reservation). r.ticket) rs ≡ range_with_len b (length es)
tickets_are V b [] [] s = refl
tickets_are V b [] (x ∷ es) s = absurd s
tickets_are V b (r ∷ rs) [] s = absurd s
tickets_are V b (r ∷ rs) (x ∷ es) s =
    let e : suc b ≡ b + 1 = omega arith in
    ap (λ (t : ℕ). t ∷ map (λ (q : Reservation). q.ticket) rs) s.0
    ∙ ap (λ (ts : List ℕ). b ∷ ts) (tickets_are V (suc b) rs es s.2 ∙ ap (λ n. range_with_len n (length es)) e)

-- some of these writes goes through a ticket
abbrev pub Goes : List WriteAct → ℕ → Type 0
Goes ws t = (k : ℕ) × (k < length ws) × ((act_at ws k).on ≡ true) × ((act_at ws k).ticket ≡ t)

-- a value for a lower ticket tells nothing of these
stand_later : (V : Reservation → Type 0) (t b : ℕ) (rs : List Reservation) (es : List Entry)
    → t < b → Stand V b rs es → Stand (λ r. (t ≡ r.ticket) ⊎ V r) b rs es
stand_later V t b [] [] h s = tt
stand_later V t b [] (x ∷ es) h s = absurd s
stand_later V t b (r ∷ rs) [] h s = absurd s
stand_later V t b (r ∷ rs) (x ∷ es) h s = (
  s.0,
  λ o. ⊎_elim (λ (e : t ≡ r.ticket). absurd (omega (arith, e, h, s.0))) (λ (v : V r). s.1 v) o,
  stand_later V t (suc b) rs es (omega (arith, h)) s.2,
)

-- a value for a ticket is that of its reservation
stand_put : (V : Reservation → Type 0) (t v b i : ℕ) (rs : List Reservation) (es : List Entry) → t ≡ b + i → Stand V b rs es
    → Stand (λ r. (t ≡ r.ticket) ⊎ V r) b rs (set es i (with_entry_value (entry_at es i) v))
stand_put V t v b i [] [] e s = tt
stand_put V t v b i [] (x ∷ es) e s = absurd s
stand_put V t v b i (r ∷ rs) [] e s = absurd s
stand_put V t v b zero (r ∷ rs) (x ∷ es) e s = (s.0, λ o. refl, stand_later V t (suc b) rs es (omega (arith, e)) s.2)
stand_put V t v b (suc i) (r ∷ rs) (x ∷ es) e s = (
  s.0,
  λ o. ⊎_elim (λ (f : t ≡ r.ticket). absurd (omega (arith, e, f, s.0))) (λ (w : V r). s.1 w) o,
  stand_put V t v (suc b) i rs es (omega (arith, e)) s.2,
)

stand_write : (V : Reservation → Type 0) (w : WriteAct) (o : Bool) (b : ℕ) (rs : List Reservation) (es : List Entry)
    → (o ≡ true → b ≤ w.ticket) → Stand V b rs es
    → Stand (λ r. ((o ≡ true) × (w.ticket ≡ r.ticket)) ⊎ V r) b rs
    (if o then set es (w.ticket - b) (with_entry_value (entry_at es (w.ticket - b)) w.value) else es)
stand_write V w true b rs es h s =
    let i : b ≤ w.ticket = h refl in
    stand_map (λ r. (w.ticket ≡ r.ticket) ⊎ V r) (λ r. ((true ≡ true) × (w.ticket ≡ r.ticket)) ⊎ V r) b rs
    (set es (w.ticket - b) (with_entry_value (entry_at es (w.ticket - b)) w.value))
    (λ r o. ⊎_elim (λ (p : (true ≡ true) × (w.ticket ≡ r.ticket)). inl p.1) (λ (v : V r). inr v) o)
    (stand_put V w.ticket w.value b (w.ticket - b) rs es (omega (arith, i)) s)
stand_write V w false b rs es h s =
    stand_map V (λ r. ((false ≡ true) × (w.ticket ≡ r.ticket)) ⊎ V r) b rs es
    (λ r o. ⊎_elim (λ (p : (false ≡ true) × (w.ticket ≡ r.ticket)). absurd (cc p.0)) (λ (v : V r). v) o) s

first_or_later : (w : WriteAct) (ws : List WriteAct) (t k : ℕ) → k < length (w ∷ ws) → (act_at (w ∷ ws) k).on ≡ true
    → (act_at (w ∷ ws) k).ticket ≡ t → Goes ws t ⊎ ((w.on ≡ true) × (w.ticket ≡ t))
first_or_later w ws t zero l o e = inr (o, e)
first_or_later w ws t (suc k) l o e = inl (k, omega (arith, l), o, e)

one_of_both : (V : Reservation → Type 0) (w : WriteAct) (ws : List WriteAct) (r : Reservation) → Goes (w ∷ ws) r.ticket ⊎ V r
    → Goes ws r.ticket ⊎ (((w.on ≡ true) × (w.ticket ≡ r.ticket)) ⊎ V r)
one_of_both V w ws r o =
    ⊎_elim
    (λ (g : Goes (w ∷ ws) r.ticket).
    ⊎_elim
    (λ (l : Goes ws r.ticket). inl l)
    (λ (p : (w.on ≡ true) × (w.ticket ≡ r.ticket)). inr (inl p))
    (first_or_later w ws r.ticket g.0 g.1 g.2 g.3))
    (λ (v : V r). inr (inr v))
    o

-- after a cycle's writes those with a write through their ticket have a value too
pub stand_writes : (V : Reservation → Type 0) (b : ℕ) (ws : List WriteAct) (rs : List Reservation) (es : List Entry)
    → ((k : ℕ) → k < length ws → (act_at ws k).on ≡ true → b ≤ (act_at ws k).ticket) → Stand V b rs es
    → Stand (λ r. Goes ws r.ticket ⊎ V r) b rs (with_writes b ws es)
stand_writes V b [] rs es h s =
    stand_map V (λ r. Goes [] r.ticket ⊎ V r) b rs es
    (λ r o. ⊎_elim (λ (g : Goes [] r.ticket). absurd (omega (arith, g.1))) (λ (v : V r). v) o) s
stand_writes V b (w ∷ ws) rs es h s =
    stand_map (λ r. Goes ws r.ticket ⊎ (((w.on ≡ true) × (w.ticket ≡ r.ticket)) ⊎ V r)) (λ r. Goes (w ∷ ws) r.ticket ⊎ V r)
    b rs (with_writes b ws (with_write b w es)) (λ r o. one_of_both V w ws r o)
    (stand_writes (λ r. ((w.on ≡ true) × (w.ticket ≡ r.ticket)) ⊎ V r) b ws rs (with_write b w es)
    (λ k l. h (suc k) (omega (arith, l))) (stand_write V w w.on b rs es (h 0 (omega arith)) s))
