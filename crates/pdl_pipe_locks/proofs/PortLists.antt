-- Ports of a lock, one after another, while the circuit grows.
use Rattle.std.proofs.Common.{◌≡◌, ℕ, ◌+◌, ◌<◌, ◌≤◌, ◌==◌, Bool, true, false, List, [], ◌∷◌, ◌++◌, map, length, drop, get_or, refl, sym, ap, ap₂, ◌∙◌, append-nil, append_assoc}
use Rattle.std.specs.Prelude.{if◌then◌else◌}
use Rattle.std.proofs.lemmas.List.{map-append, drop_more, drop_all}
use Rattle.pdl_net.specs.declared.Net.{Net}
use Rattle.pdl_net.specs.Circuit.{Circuit}
use Rattle.pdl_net.specs.Signal.{Signal}
use Rattle.pdl_net.specs.Meaning.{signal, IsThere, Means}
use Rattle.pdl_net.specs.Growth.{Keeps, Extends}
use Rattle.pdl_net.proofs.Keeps.{extends_keeps}
use Rattle.pdl_net.proofs.KeptWidths.{width_keeps}
use Rattle.pdl_lockapi.specs.declared.Kind.TheVariants.{W}
use Rattle.pdl_lockapi.specs.declared.ReservePort.{ReservePort}
use Rattle.pdl_lockapi.specs.declared.TicketWrite.{TicketWrite}
use Rattle.pdl_lockapi.specs.Laws.{ReserveSignal, TicketSignal, enabled_reserve, reserve_signal, ticket_signal}
use Rattle.pdl_law_parts.specs.Walk.{Reservation, Put, both}
use Rattle.pdl_law_parts.specs.Ports.{reserves_to, puts_to}
use Rattle.pdl_pipe_walk.specs.declared.nets.ReserveNet.{ReserveNet}
use Rattle.pdl_pipe_walk.specs.declared.nets.PutNet.{PutNet}
use Rattle.pdl_pipe_walk.specs.declared.nets.LettingNet.{LettingNet}
use Rattle.pdl_pipe_walk.specs.Parts.{reservation_in, put_in, letting_in}
use Rattle.pdl_pipe_walk.proofs.Lists.{map_each}
use Rattle.pdl_pipe_locks.specs.Ports.{IsGivenReserve, IsGivenPut, IsGivenLetting, IsThereReserve, IsThereWrite, AreReserves, AreWrites, AddsReserves, AddsWrites}
use Rattle.pdl_word.specs.Each.{Each}
use Rattle.pdl_word.proofs.Each.{each_weaker, each_push}

-- ---- what is kept

module _ (a b : Circuit) (k : Keeps a b) where
  reserve_kept : (q : ReservePort) → IsThereReserve a q → IsThereReserve b q
  reserve_kept q t = record { kind = t.kind; enable = k.there q.enable t.enable; addr = k.there q.addr t.addr }

  reserve_same : (q : ReservePort) → IsThereReserve a q → reserve_signal b q ≡ reserve_signal a q
  reserve_same q t = ap₂ (λ f g. record { enable = enabled_reserve q.kind f; addr = g }) (k.kept q.enable t.enable) (k.kept q.addr t.addr)

  -- ports that reserve stay there
  pub reserves_kept : (ps : List ReservePort) → Each (IsThereReserve a) ps → Each (IsThereReserve b) ps
  reserves_kept ps t = each_weaker (IsThereReserve a) (IsThereReserve b) reserve_kept ps t

  -- ports that reserve mean what they meant
  pub reserves_same : (ps : List ReservePort) → Each (IsThereReserve a) ps → map (reserve_signal b) ps ≡ map (reserve_signal a) ps
  reserves_same ps t = map_each (reserve_signal b) (reserve_signal a) (IsThereReserve a) reserve_same ps t

  write_kept : (q : TicketWrite) → IsThereWrite a q → IsThereWrite b q
  write_kept q t = record { enable = k.there q.enable t.enable; ticket = k.there q.ticket t.ticket; value = k.there q.value t.value }

  write_same : (q : TicketWrite) → IsThereWrite a q → ticket_signal b q ≡ ticket_signal a q
  write_same q t = cc (k.kept q.enable t.enable, k.kept q.ticket t.ticket, k.kept q.value t.value)

  -- ports that write stay there
  pub writes_kept : (ps : List TicketWrite) → Each (IsThereWrite a) ps → Each (IsThereWrite b) ps
  writes_kept ps t = each_weaker (IsThereWrite a) (IsThereWrite b) write_kept ps t

  -- ports that write mean what they meant
  pub writes_same : (ps : List TicketWrite) → Each (IsThereWrite a) ps → map (ticket_signal b) ps ≡ map (ticket_signal a) ps
  writes_same ps t = map_each (ticket_signal b) (ticket_signal a) (IsThereWrite a) write_same ps t

  -- ports that reserve stay there and mean the same signals
  pub are_reserves_kept : (ps : List ReservePort) (fs : List ReserveSignal) → AreReserves a ps fs → AreReserves b ps fs
  are_reserves_kept ps fs h = record { there = reserves_kept ps h.there; same = reserves_same ps h.there ∙ h.same }

  -- ports that write stay there and mean the same signals
  pub are_writes_kept : (ps : List TicketWrite) (fs : List TicketSignal) → AreWrites a ps fs → AreWrites b ps fs
  are_writes_kept ps fs h = record { there = writes_kept ps h.there; same = writes_same ps h.there ∙ h.same }

  -- what a stage brings
  given_reserve : (r : ReserveNet) → IsGivenReserve a r → IsGivenReserve b r
  given_reserve r g = record { on = width_keeps a b r.on 1 k g.on; addr = k.there r.addr g.addr }

  -- the reservations of a stage stay there, with conditions of 1 bit
  pub given_reserves : (rs : List ReserveNet) → Each (IsGivenReserve a) rs → Each (IsGivenReserve b) rs
  given_reserves rs g = each_weaker (IsGivenReserve a) (IsGivenReserve b) given_reserve rs g

  -- the reservations of a stage mean what they meant
  pub reservations_same : (rs : List ReserveNet) → Each (IsGivenReserve a) rs → map (reservation_in b) rs ≡ map (reservation_in a) rs
  reservations_same rs g =
      map_each (reservation_in b) (reservation_in a) (IsGivenReserve a)
      (λ r t. ap₂ (λ f h. record { mem = r.mem; var = r.var; on = f; addr = h }) (k.kept r.on t.on.there) (k.kept r.addr t.addr)) rs g

  given_put : (x : PutNet) → IsGivenPut a x → IsGivenPut b x
  given_put x g = record { on = width_keeps a b x.on 1 k g.on; value = k.there x.value g.value }

  -- the writes of a stage stay there, with conditions of 1 bit
  pub given_puts : (xs : List PutNet) → Each (IsGivenPut a) xs → Each (IsGivenPut b) xs
  given_puts xs g = each_weaker (IsGivenPut a) (IsGivenPut b) given_put xs g

  -- the writes of a stage mean what they meant
  pub puts_same : (xs : List PutNet) → Each (IsGivenPut a) xs → map (put_in b) xs ≡ map (put_in a) xs
  puts_same xs g =
      map_each (put_in b) (put_in a) (IsGivenPut a)
      (λ x t. ap₂ (λ f h. record { mem = x.mem; var = x.var; on = f; value = h }) (k.kept x.on t.on.there) (k.kept x.value t.value)) xs g

  given_letting : (x : LettingNet) → IsGivenLetting a x → IsGivenLetting b x
  given_letting x g = record { on = width_keeps a b x.on 1 k g.on }

  -- the releases of a stage stay there, with conditions of 1 bit
  pub given_lettings : (xs : List LettingNet) → Each (IsGivenLetting a) xs → Each (IsGivenLetting b) xs
  given_lettings xs g = each_weaker (IsGivenLetting a) (IsGivenLetting b) given_letting xs g

  -- the releases of a stage mean what they meant
  pub lettings_same : (xs : List LettingNet) → Each (IsGivenLetting a) xs → map (letting_in b) xs ≡ map (letting_in a) xs
  lettings_same xs g = map_each (letting_in b) (letting_in a) (IsGivenLetting a) (λ x t. ap (λ f. record { mem = x.mem; on = f }) (k.kept x.on t.on.there)) xs g

-- ---- reservations

-- a reservation port for writing is added after ports that are there
pub adds_one : (a b : Circuit) (ps : List ReservePort) (x y : Net) (f g : Signal) → Extends a b
    → Each (IsThereReserve a) ps → Means b x f → IsThere a y → signal a y ≡ g
    → AddsReserves a b ps (ps ++ record { enable = x; kind = W; addr = y } ∷ []) (record { enable = f; addr = g } ∷ [])
adds_one a b ps x y f g e t m h q =
    let k = extends_keeps a b e in
    record {
      there =
          each_push (IsThereReserve b) ps (record { enable = x; kind = W; addr = y }) (reserves_kept a b k ps t)
          (record { kind = refl; enable = m.there; addr = e.there y h });
      same = map-append (reserve_signal b) ps (record { enable = x; kind = W; addr = y } ∷ [])
          ∙ ap₂ (λ (fs gs : List ReserveSignal). fs ++ gs) (reserves_same a b k ps t)
          (ap₂ (λ u v. record { enable = u; addr = v } ∷ []) m.same (e.kept y h ∙ q));
    }

-- one after another
reserves_split : (m : ℕ) (f : Signal) (r : Reservation) (rs : List Reservation)
    → reserves_to m f (r ∷ rs) ≡ reserves_to m f (r ∷ []) ++ reserves_to m f rs
reserves_split m f r rs = at (r.mem == m)
  where
    at : (b : Bool)
        → (if b then record { enable = both f r.on; addr = r.addr } ∷ reserves_to m f rs else reserves_to m f rs)
        ≡ (if b then record { enable = both f r.on; addr = r.addr } ∷ [] else []) ++ reserves_to m f rs
    at true = refl
    at false = refl

-- ---- writes

-- a port that writes by ticket is added after ports that are there
pub adds_write : (a b : Circuit) (ps : List TicketWrite) (x y z : Net) (f g h : Signal) → Extends a b
    → Each (IsThereWrite a) ps → Means b x f → Means b y g → IsThere a z → signal a z ≡ h
    → AddsWrites a b ps (ps ++ record { enable = x; ticket = y; value = z } ∷ []) (record { enable = f; ticket = g; value = h } ∷ [])
adds_write a b ps x y z f g h e t m u v q =
    let k = extends_keeps a b e in
    record {
      there =
          each_push (IsThereWrite b) ps (record { enable = x; ticket = y; value = z }) (writes_kept a b k ps t)
          (record { enable = m.there; ticket = u.there; value = e.there z v });
      same = map-append (ticket_signal b) ps (record { enable = x; ticket = y; value = z } ∷ [])
          ∙ ap₂ (λ (fs gs : List TicketSignal). fs ++ gs) (writes_same a b k ps t) (cc (m.same, u.same, e.kept z v ∙ q));
    }

-- the port of one write with this ticket, where it is to the memory
abbrev one_port : ℕ → Signal → Put → Signal → List TicketSignal
one_port m f x t = if x.mem == m then record { enable = both f x.on; ticket = t; value = x.value } ∷ [] else []

puts_split : (m : ℕ) (f : Signal) (t : ℕ → Signal) (x : Put) (xs : List Put) → puts_to m f t (x ∷ xs) ≡ puts_to m f t (x ∷ []) ++ puts_to m f t xs
puts_split m f t x xs = at (x.mem == m)
  where
    at : (b : Bool)
        → (if b then record { enable = both f x.on; ticket = t x.var; value = x.value } ∷ puts_to m f t xs else puts_to m f t xs)
        ≡ (if b then record { enable = both f x.on; ticket = t x.var; value = x.value } ∷ [] else []) ++ puts_to m f t xs
    at true = refl
    at false = refl

-- ---- on the way through a list

-- the ports of the first i reservations of a stage are there, and with those that are left they make all that are to be added
pub record ReservesUpTo (a b : Circuit) (ps qs : List ReservePort) (m : ℕ) (moves : Net) (rs : List ReserveNet) (i : ℕ) : Type 0 where
  pub there : Each (IsThereReserve b) qs
  pub same : map (reserve_signal b) qs ++ reserves_to m (signal a moves) (map (reservation_in a) (drop i rs))
      ≡ map (reserve_signal a) ps ++ reserves_to m (signal a moves) (map (reservation_in a) rs)

-- the ports of the first i writes of a stage are there, and with those that are left they make all that are to be added
pub record WritesUpTo (a b : Circuit) (ps qs : List TicketWrite) (m : ℕ) (moves : Net) (tickets : ℕ → Signal) (xs : List PutNet) (i : ℕ) : Type 0 where
  pub there : Each (IsThereWrite b) qs
  pub same : map (ticket_signal b) qs ++ puts_to m (signal a moves) tickets (map (put_in a) (drop i xs))
      ≡ map (ticket_signal a) ps ++ puts_to m (signal a moves) tickets (map (put_in a) xs)

-- with the ports of one reservation more, those of the first i + 1 of a stage are added
pub reserves_step : (a b c : Circuit) (ps qs us : List ReservePort) (m : ℕ) (moves : Net) (rs : List ReserveNet) (i : ℕ) (d r : ReserveNet)
    → Keeps a b → IsThere a moves → i < length rs → r ≡ get_or rs i d → IsGivenReserve a r
    → ReservesUpTo a b ps qs m moves rs i
    → AddsReserves b c qs us (reserves_to m (signal b moves) (reservation_in b r ∷ []))
    → ReservesUpTo a c ps us m moves rs (i + 1)
reserves_step a b c ps qs us m moves rs i d r k t l e g h x =
    let f = signal a moves in
    let back = map (reservation_in a) (drop (i + 1) rs) in
    let same : reserves_to m (signal b moves) (reservation_in b r ∷ []) ≡ reserves_to m f (reservation_in a r ∷ []) =
    ap₂ (λ u (v : Reservation). reserves_to m u (v ∷ [])) (k.kept moves t)
    (ap₂ (λ u v. record { mem = r.mem; var = r.var; on = u; addr = v }) (k.kept r.on g.on.there) (k.kept r.addr g.addr)) in
    let split : map (reservation_in a) (drop i rs) ≡ reservation_in a r ∷ back =
    ap (map (reservation_in a)) (drop_more rs i d l) ∙ ap (λ (y : ReserveNet). reservation_in a y ∷ back) (sym e) in
    let front = map (reserve_signal b) qs in
    record {
      there = x.there;
      same = ap (λ ys. ys ++ reserves_to m f back) (x.same ∙ ap (λ ys. front ++ ys) same)
          ∙ append_assoc front (reserves_to m f (reservation_in a r ∷ [])) (reserves_to m f back)
          ∙ ap (λ ys. front ++ ys) (sym (reserves_split m f (reservation_in a r) back) ∙ ap (reserves_to m f) (sym split))
          ∙ h.same;
    }

-- with the ports of one write more, those of the first i + 1 of a stage are added
pub writes_step : (a b c : Circuit) (ps qs us : List TicketWrite) (m : ℕ) (moves : Net) (u now : ℕ → Signal) (xs : List PutNet) (i : ℕ) (d y : PutNet)
    → Keeps a b → IsThere a moves → now y.var ≡ u y.var → i < length xs → y ≡ get_or xs i d → IsGivenPut a y
    → WritesUpTo a b ps qs m moves u xs i
    → AddsWrites b c qs us (puts_to m (signal b moves) now (put_in b y ∷ []))
    → WritesUpTo a c ps us m moves u xs (i + 1)
writes_step a b c ps qs us m moves u now xs i d y k t q l e g h x =
    let f = signal a moves in
    let back = map (put_in a) (drop (i + 1) xs) in
    let put : put_in b y ≡ put_in a y = ap₂ (λ u v. record { mem = y.mem; var = y.var; on = u; value = v }) (k.kept y.on g.on.there) (k.kept y.value g.value) in
    let same : puts_to m (signal b moves) now (put_in b y ∷ []) ≡ puts_to m f u (put_in a y ∷ []) =
    ap₂ (λ v (w : Put). puts_to m v now (w ∷ [])) (k.kept moves t) put ∙ ap (one_port m f (put_in a y)) q in
    let split : map (put_in a) (drop i xs) ≡ put_in a y ∷ back = ap (map (put_in a)) (drop_more xs i d l) ∙ ap (λ (z : PutNet). put_in a z ∷ back) (sym e) in
    let front = map (ticket_signal b) qs in
    record {
      there = x.there;
      same = ap (λ ys. ys ++ puts_to m f u back) (x.same ∙ ap (λ ys. front ++ ys) same)
          ∙ append_assoc front (puts_to m f u (put_in a y ∷ [])) (puts_to m f u back)
          ∙ ap (λ ys. front ++ ys) (sym (puts_split m f u (put_in a y) back) ∙ ap (puts_to m f u) (sym split))
          ∙ h.same;
    }

-- past its last one the ports of all reservations of a stage are added
pub reserves_end : (a b : Circuit) (ps qs : List ReservePort) (m : ℕ) (moves : Net) (rs : List ReserveNet) (i : ℕ)
    → length rs ≤ i → ReservesUpTo a b ps qs m moves rs i
    → AddsReserves a b ps qs (reserves_to m (signal a moves) (map (reservation_in a) rs))
reserves_end a b ps qs m moves rs i l h = record {
  there = h.there;
  same =
      sym (append-nil (map (reserve_signal b) qs))
      ∙ sym (ap (λ (xs : List ReserveNet). map (reserve_signal b) qs ++ reserves_to m (signal a moves) (map (reservation_in a) xs)) (drop_all i rs l))
      ∙ h.same;
}

-- past its last one the ports of all writes of a stage are added
pub writes_end : (a b : Circuit) (ps qs : List TicketWrite) (m : ℕ) (moves : Net) (u : ℕ → Signal) (xs : List PutNet) (i : ℕ)
    → length xs ≤ i → WritesUpTo a b ps qs m moves u xs i
    → AddsWrites a b ps qs (puts_to m (signal a moves) u (map (put_in a) xs))
writes_end a b ps qs m moves u xs i l h = record {
  there = h.there;
  same =
      sym (append-nil (map (ticket_signal b) qs))
      ∙ sym (ap (λ (ys : List PutNet). map (ticket_signal b) qs ++ puts_to m (signal a moves) u (map (put_in a) ys)) (drop_all i xs l))
      ∙ h.same;
}
