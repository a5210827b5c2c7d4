-- The ports of all stages, one stage after another from the last one on.
use Rattle.std.proofs.Common.{◌≡◌, ℕ, zero, suc, ◌+◌, ◌-◌, ◌<◌, Bool, true, false, List, [], ◌∷◌, ◌++◌, map, length, get_or, refl, sym, ap, ap₂, ◌∙◌, subst, arith}
use Rattle.std.proofs.lemmas.List.{get_or-map}
use Rattle.pdl_net.specs.declared.Net.{Net}
use Rattle.pdl_net.specs.Circuit.{Circuit}
use Rattle.pdl_net.specs.Signal.{Signal, no_signal}
use Rattle.pdl_net.specs.Meaning.{signal, IsThere, Means}
use Rattle.pdl_net.specs.Growth.{Keeps}
use Rattle.pdl_net.proofs.KeptWidths.{width_keeps}
use Rattle.pdl_lockapi.specs.declared.ReservePort.{ReservePort}
use Rattle.pdl_lockapi.specs.declared.TicketWrite.{TicketWrite}
use Rattle.pdl_lockapi.specs.Laws.{ReserveSignal, TicketSignal}
use Rattle.pdl_pipe_exprs.specs.Nets.{NetsThere, signal_at}
use Rattle.pdl_pipe_exprs.proofs.NetLists.{there_keeps, there_at, signal_of, signals_keep}
use Rattle.pdl_law_parts.specs.declared.Mark.TheVariants.{Late}
use Rattle.pdl_law_parts.specs.Walk.{Walk}
use Rattle.pdl_law_parts.specs.Views.{View}
use Rattle.pdl_law_parts.specs.Ports.{reserves_to, all_reserves, one_more, ticket_at, tickets_to, puts_to, all_puts}
use Rattle.pdl_pipe_walk.specs.Parts.{MarkSignal, Parts, mark_of, reservation_in, put_in, parts_in, walk_of, IsThereWalk}
use Rattle.pdl_pipe_walk.proofs.NetGrowth.{parts_keep, there_walk}
use Rattle.pdl_pipe_locks.specs.declared.deeds.StageDeeds.{StageDeeds}
use Rattle.pdl_pipe_locks.specs.Deeds.{view_in, view_with, views_in, moves_in, no_parts}
use Rattle.pdl_pipe_locks.specs.Ports.{IsGiven, AreReserves, AreWrites, AddsReserves, AddsWrites, ReleaseSignals, releases_after, releases_of}
use Rattle.pdl_pipe_locks.proofs.PortLists.{given_reserves, reservations_same, given_puts, given_lettings}
use Rattle.pdl_word.specs.Each.{Each}
use Rattle.pdl_pipe_locks.proofs.StageSteps.{one_further}

-- ---- the stage of a number

-- what holds of each element of a list holds of its k-th one
pub each_at : {X : Type 0} (P : X → Type 0) (xs : List X) (k : ℕ) (d : X) → k < length xs → d ≡ get_or xs k d → Each P xs → P d
each_at P [] k d l e h = absurd (omega (arith, l))
each_at P (x ∷ xs) zero d l e h = subst P (sym e) h.0
each_at P (x ∷ xs) (suc k) d l e h = each_at P xs k d (omega (arith, l)) e h.1

-- the view of number k is that of the k-th stage
pub view_is : (c : Circuit) (ds : List StageDeeds) (k : ℕ) (d : StageDeeds)
    → k < length ds → d ≡ get_or ds k d → views_in c ds k ≡ view_in c d
view_is c ds k d l e = get_or-map (view_in c) ds k d (view_with (λ m. no_signal) (walk_of no_parts)) l ∙ ap (view_in c) (sym e)

-- whether the thread of stage k moves is told by the net of that stage
pub moves_is : (c : Circuit) (ds : List StageDeeds) (k : ℕ) (d : StageDeeds)
    → k < length ds → d ≡ get_or ds k d → moves_in c ds k ≡ signal c d.moves
moves_is c ds k d l e = get_or-map (λ (x : StageDeeds). signal c x.moves) ds k d no_signal l ∙ ap (λ (x : StageDeeds). signal c x.moves) (sym e)

-- a stage whose nets are there is the same view in a circuit that grew
pub view_same : (a b : Circuit) (d : StageDeeds) → Keeps a b → NetsThere a d.tickets.now → IsThereWalk a d.ended.now → view_in b d ≡ view_in a d
view_same a b d k t w =
    ap₂ (λ (fs : List Signal) (v : Parts). view_with (λ m. signal_at fs m) (walk_of v)) (signals_keep a b d.tickets.now k t) (parts_keep a b k d.ended.now w)

-- what a stage brings for a memory's lock stays there
pub given_kept : (a b : Circuit) (k : Keeps a b) (m : ℕ) (d : StageDeeds) → IsGiven a m d → IsGiven b m d
given_kept a b k m d g = record {
  moves = width_keeps a b d.moves 1 k g.moves;
  walk = there_walk a b k d.ended.now g.walk;
  marks = subst (λ (w : Parts). Each (λ (h : MarkSignal). h.signal.width ≡ 1) w.marks) (sym (parts_keep a b k d.ended.now g.walk)) g.marks;
  reserves = given_reserves a b k d.ended.now.reserves g.reserves;
  puts = given_puts a b k d.ended.now.puts g.puts;
  lettings = given_lettings a b k d.ended.now.lettings g.lettings;
  low = g.low;
  tickets = there_keeps a b d.tickets.now k g.tickets;
}

-- what all stages bring for a memory's lock stays there
pub given_all : (a b : Circuit) (k : Keeps a b) (m : ℕ) (ds : List StageDeeds) → Each (IsGiven a m) ds → Each (IsGiven b m) ds
given_all a b k m [] g = tt
given_all a b k m (d ∷ ds) g = (given_kept a b k m d g.0, given_all a b k m ds g.1)

-- ---- reservations

reserves_next : (m : ℕ) (vs : ℕ → View) (moves : ℕ → Signal) (n i k : ℕ) → i < n → k ≡ n - 1 - i
    → all_reserves m vs moves (i + 1) (n - (i + 1)) ≡ all_reserves m vs moves i (n - i) ++ reserves_to m (moves k) (vs k).ended.reserves
reserves_next m vs moves n i k l e = let f = one_further (all_reserves m vs moves) n i k l e in
    f.0 ∙ ap (λ xs. xs ++ reserves_to m (moves k) (vs k).ended.reserves) f.1

-- the reservation ports of the last i + 1 stages, where those of the last i are made
pub reserves_more : (a b c : Circuit) (m : ℕ) (ds : List StageDeeds) (i : ℕ) (d : StageDeeds) (ps qs : List ReservePort)
    → Keeps a b → i < length ds → d ≡ get_or ds (length ds - 1 - i) d → Each (IsGiven a m) ds
    → AreReserves b ps (all_reserves m (views_in a ds) (moves_in a ds) i (length ds - i))
    → AddsReserves b c ps qs (reserves_to m (signal b d.moves) (map (reservation_in b) d.ended.now.reserves))
    → AreReserves c qs (all_reserves m (views_in a ds) (moves_in a ds) (i + 1) (length ds - (i + 1)))
reserves_more a b c m ds i d ps qs k l e g h x =
    let n = length ds in
    let j = n - 1 - i in
    let low : j < n = omega (arith, l) in
    let given = each_at (IsGiven a m) ds j d low e g in
    let front = all_reserves m (views_in a ds) (moves_in a ds) i (n - i) in
    let moves : signal b d.moves ≡ moves_in a ds j = k.kept d.moves given.moves.there ∙ sym (moves_is a ds j d low e) in
    let reserves : map (reservation_in b) d.ended.now.reserves ≡ (views_in a ds j).ended.reserves =
    reservations_same a b k d.ended.now.reserves given.reserves ∙ sym (ap (λ (v : View). v.ended.reserves) (view_is a ds j d low e)) in
    record {
      there = x.there;
      same = x.same
          ∙ ap₂ (λ (fs gs : List ReserveSignal). fs ++ gs) h.same (ap₂ (reserves_to m) moves reserves)
          ∙ sym (reserves_next m (views_in a ds) (moves_in a ds) n i j l refl);
    }

-- ---- writes

puts_next : (twice : Bool) (m : ℕ) (vs : ℕ → View) (moves : ℕ → Signal) (n i k : ℕ) → i < n → k ≡ n - 1 - i
    → all_puts twice m vs moves (i + 1) (n - (i + 1))
    ≡ all_puts twice m vs moves i (n - i) ++ puts_to m (moves k) (tickets_to twice m (vs k)) (vs k).ended.puts
puts_next twice m vs moves n i k l e = let f = one_further (all_puts twice m vs moves) n i k l e in
    f.0 ∙ ap (λ xs. xs ++ puts_to m (moves k) (tickets_to twice m (vs k)) (vs k).ended.puts) f.1

-- the net of a stage's ticket of memory m is there
pub ticket_there : (c : Circuit) (m : ℕ) (d : StageDeeds) (t : Net) → t ≡ get_or d.tickets.now m t → IsGiven c m d → IsThere c t
ticket_there c m d t e g = subst (IsThere c) (sym e) (there_at c d.tickets.now m t g.low g.tickets)

-- it means the stage's ticket of the memory
ticket_means : (c : Circuit) (m : ℕ) (d : StageDeeds) (t : Net) → t ≡ get_or d.tickets.now m t → IsGiven c m d → signal c t ≡ (view_in c d).tickets m
ticket_means c m d t e g = ap (signal c) e ∙ signal_of c d.tickets.now m t g.low

-- where no path reserves the memory twice, the stage's ticket is that of each location
pub own_ticket : (c : Circuit) (m : ℕ) (d : StageDeeds) (twice : Bool) (a : ℕ) (t : Net)
    → twice ≡ false → t ≡ get_or d.tickets.now m t → IsGiven c m d → Means c t (tickets_to twice m (view_in c d) a)
own_ticket c m d twice a t no_second e g =
    subst (λ (b : Bool). Means c t (tickets_to b m (view_in c d) a)) (sym no_second)
    (record { there = ticket_there c m d t e g; same = ticket_means c m d t e g })

-- where some path does, the ticket of a location is the one after the stage's where the location is late
pub late_ticket : (c e : Circuit) (m : ℕ) (d : StageDeeds) (twice : Bool) (a : ℕ) (t late x : Net)
    → twice ≡ true → t ≡ get_or d.tickets.now m t → IsGiven c m d → Means c late (mark_of (parts_in c d.ended.now).marks Late m a)
    → Means e x (one_more (signal c late) (signal c t)) → Means e x (tickets_to twice m (view_in c d) a)
late_ticket c e m d twice a t late x second q g l h =
    subst (λ (b : Bool). Means e x (tickets_to b m (view_in c d) a)) (sym second)
    (record { there = h.there; same = h.same ∙ ap₂ one_more l.same (ticket_means c m d t q g) })

-- the write ports of the last i + 1 stages, where those of the last i are made
pub writes_more : (twice : Bool) (a b c : Circuit) (m : ℕ) (ds : List StageDeeds) (i : ℕ) (d : StageDeeds) (ps qs : List TicketWrite)
    → Keeps a b → i < length ds → d ≡ get_or ds (length ds - 1 - i) d
    → Each (IsGiven a m) ds → AreWrites b ps (all_puts twice m (views_in a ds) (moves_in a ds) i (length ds - i))
    → AddsWrites b c ps qs (puts_to m (signal b d.moves) (tickets_to twice m (view_in b d)) (map (put_in b) d.ended.now.puts))
    → AreWrites c qs (all_puts twice m (views_in a ds) (moves_in a ds) (i + 1) (length ds - (i + 1)))
writes_more twice a b c m ds i d ps qs k l e g h x =
    let n = length ds in
    let j = n - 1 - i in
    let low : j < n = omega (arith, l) in
    let given = each_at (IsGiven a m) ds j d low e g in
    let view : view_in b d ≡ views_in a ds j = view_same a b d k given.tickets given.walk ∙ sym (view_is a ds j d low e) in
    let moves : signal b d.moves ≡ moves_in a ds j = k.kept d.moves given.moves.there ∙ sym (moves_is a ds j d low e) in
    let same : puts_to m (signal b d.moves) (tickets_to twice m (view_in b d)) (map (put_in b) d.ended.now.puts)
    ≡ puts_to m (moves_in a ds j) (tickets_to twice m (views_in a ds j)) (views_in a ds j).ended.puts =
    ap₂ (λ (f : Signal) (v : View). puts_to m f (tickets_to twice m v) v.ended.puts) moves view in
    record {
      there = x.there;
      same = x.same
          ∙ ap₂ (λ (fs gs : List TicketSignal). fs ++ gs) h.same same
          ∙ sym (puts_next twice m (views_in a ds) (moves_in a ds) n i j l refl);
    }

-- ---- where the stages do the same, so do all ports

-- stages that make the same reservations and move alike reserve alike at a memory's lock
pub same_reserves : (m : ℕ) (vs us : ℕ → View) (f g : ℕ → Signal) (n k : ℕ)
    → ((j : ℕ) → j < k + n → f j ≡ g j) → ((j : ℕ) → j < k + n → (vs j).ended.reserves ≡ (us j).ended.reserves)
    → all_reserves m vs f n k ≡ all_reserves m us g n k
same_reserves m vs us f g zero k h r = refl
same_reserves m vs us f g (suc n) k h r =
    ap₂ (λ (xs ys : List ReserveSignal). xs ++ ys)
    (same_reserves m vs us f g n (suc k) (λ j l. h j (omega (arith, l))) (λ j l. r j (omega (arith, l))))
    (ap₂ (reserves_to m) (h k (omega arith)) (r k (omega arith)))

-- stages that have the same tickets, marks and writes and move alike write alike at a memory's lock
pub same_puts : (twice : Bool) (m : ℕ) (vs us : ℕ → View) (f g : ℕ → Signal) (n k : ℕ)
    → ((j : ℕ) → j < k + n → f j ≡ g j) → ((j : ℕ) → j < k + n → (vs j).tickets m ≡ (us j).tickets m)
    → ((j : ℕ) → j < k + n → (vs j).ended ≡ (us j).ended) → all_puts twice m vs f n k ≡ all_puts twice m us g n k
same_puts twice m vs us f g zero k h t r = refl
same_puts twice m vs us f g (suc n) k h t r =
    let F = λ (x y : Signal) (w : Walk). puts_to m x (ticket_at twice (w.marks Late m) y) w.puts in
    let here : puts_to m (f k) (tickets_to twice m (vs k)) (vs k).ended.puts ≡ puts_to m (g k) (tickets_to twice m (us k)) (us k).ended.puts =
    ap (λ (x : Signal). F x ((vs k).tickets m) (vs k).ended) (h k (omega arith)) ∙ ap₂ (F (g k)) (t k (omega arith)) (r k (omega arith)) in
    ap₂ (λ (xs ys : List TicketSignal). xs ++ ys)
    (same_puts twice m vs us f g n (suc k) (λ j l. h j (omega (arith, l))) (λ j l. t j (omega (arith, l))) (λ j l. r j (omega (arith, l)))) here

-- what is told of the releases of one stage more
pub releases_step : (twice : Bool) (m : ℕ) (vs : ℕ → View) (moves : ℕ → Signal) (n k : ℕ)
    → releases_of twice m vs moves (suc n) k ≡ releases_after twice m (moves k) (vs k).ended.lettings (releases_of twice m vs moves n (suc k))
releases_step true m vs moves n k = refl
releases_step false m vs moves n k = refl

-- stages that do the same and move alike release a memory alike
pub same_released : (twice : Bool) (m : ℕ) (vs us : ℕ → View) (f g : ℕ → Signal) (n k : ℕ)
    → ((j : ℕ) → j < k + n → f j ≡ g j) → ((j : ℕ) → j < k + n → (vs j).ended ≡ (us j).ended)
    → releases_of twice m vs f n k ≡ releases_of twice m us g n k
same_released twice m vs us f g zero k h r = refl
same_released twice m vs us f g (suc n) k h r =
    let F = λ (x : Signal) (w : Walk) (t : ReleaseSignals). releases_after twice m x w.lettings t in
    let rest = same_released twice m vs us f g n (suc k) (λ j l. h j (omega (arith, l))) (λ j l. r j (omega (arith, l))) in
    releases_step twice m vs f n k
    ∙ (ap (λ (x : Signal). F x (vs k).ended (releases_of twice m vs f n (suc k))) (h k (omega arith)) ∙ ap₂ (F (g k)) (r k (omega arith)) rest)
    ∙ sym (releases_step twice m us g n k)

module _ (twice : Bool) (a b : Circuit) (k : Keeps a b) (m : ℕ) where
  -- whether the thread of stage j moves is told by the same signal
  pub kept_moves : (ds : List StageDeeds) (j : ℕ) → Each (IsGiven a m) ds → moves_in b ds j ≡ moves_in a ds j
  kept_moves [] j g = refl
  kept_moves (d ∷ ds) zero g = k.kept d.moves g.0.moves.there
  kept_moves (d ∷ ds) (suc j) g = kept_moves ds j g.1

  kept_views : (ds : List StageDeeds) (j : ℕ) → Each (IsGiven a m) ds → views_in b ds j ≡ views_in a ds j
  kept_views [] j g = refl
  kept_views (d ∷ ds) zero g = view_same a b d k g.0.tickets g.0.walk
  kept_views (d ∷ ds) (suc j) g = kept_views ds j g.1

  kept_ended : (ds : List StageDeeds) (j : ℕ) → Each (IsGiven a m) ds → (views_in b ds j).ended ≡ (views_in a ds j).ended
  kept_ended ds j g = ap (λ (v : View). v.ended) (kept_views ds j g)

  -- the write ports of n stages are the same signals
  pub all_puts_kept : (ds : List StageDeeds) (n : ℕ) → Each (IsGiven a m) ds
      → all_puts twice m (views_in b ds) (moves_in b ds) n 0 ≡ all_puts twice m (views_in a ds) (moves_in a ds) n 0
  all_puts_kept ds n g =
      same_puts twice m (views_in b ds) (views_in a ds) (moves_in b ds) (moves_in a ds) n 0 (λ j l. kept_moves ds j g)
      (λ j l. ap (λ (v : View). v.tickets m) (kept_views ds j g)) (λ j l. kept_ended ds j g)

  -- what is told of the releases of n stages is told by the same signals
  pub released_kept : (ds : List StageDeeds) (n : ℕ) → Each (IsGiven a m) ds
      → releases_of twice m (views_in b ds) (moves_in b ds) n 0 ≡ releases_of twice m (views_in a ds) (moves_in a ds) n 0
  released_kept ds n g =
      same_released twice m (views_in b ds) (views_in a ds) (moves_in b ds) (moves_in a ds) n 0 (λ j l. kept_moves ds j g) (λ j l. kept_ended ds j g)
