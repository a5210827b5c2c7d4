-- What a lock takes of the stages' nets: they are there, with the widths of its memory.
use Rattle.std.proofs.Common.{◌≡◌, ℕ, zero, suc, ◌^◌, ◌<◌, Bool, true, false, List, [], ◌∷◌, map, length, refl, sym, ap, ◌∙◌, subst, arith, inl, inr}
use Rattle.std.specs.Prelude.{Option, Some}
use Rattle.std.proofs.lemmas.Bool.Decides.{eqb_tells}
use Rattle.pdl_semantics.specs.Flat.{Pipe}
use Rattle.pdl_semantics.specs.Stages.{mem_at}
use Rattle.pdl_net.specs.declared.Net.{Net}
use Rattle.pdl_net.specs.Circuit.{Circuit}
use Rattle.pdl_net.specs.Signal.{Signal, no_signal}
use Rattle.pdl_net.specs.Meaning.{signal, IsThere}
use Rattle.pdl_law_parts.specs.declared.Mark.TheVariants.{Late}
use Rattle.pdl_law_parts.specs.Walk.{Reservation, Put, Letting}
use Rattle.pdl_law_parts.specs.Places.{comb_place}
use Rattle.pdl_law_parts.specs.Views.{View}
use Rattle.pdl_law_parts.specs.Ports.{reserves_to, all_reserves, ticket_at, tickets_to, puts_to, all_puts}
use Rattle.pdl_pipe_walk.specs.declared.nets.ReserveNet.{ReserveNet}
use Rattle.pdl_pipe_walk.specs.declared.nets.PutNet.{PutNet}
use Rattle.pdl_pipe_walk.specs.declared.nets.LettingNet.{LettingNet}
use Rattle.pdl_pipe_walk.specs.declared.locks.MemLock.{MemLock}
use Rattle.pdl_pipe_walk.specs.Parts.{reservation_in, put_in, letting_in, walk_of}
use Rattle.pdl_pipe_walk.specs.Sized.{IsSizedReserve, IsSizedPut}
use Rattle.pdl_pipe_walk.specs.Locked.{Members, some_at, IsLockIn, tickets_in}
use Rattle.pdl_pipe_locks.specs.declared.deeds.StageDeeds.{StageDeeds}
use Rattle.pdl_pipe_locks.specs.Deeds.{no_parts, view_with, view_in, views_in, moves_in, IsDeed, AreSquashNets}
use Rattle.pdl_pipe_locks.specs.Ports.{IsGivenReserve, IsGivenPut, IsGivenLetting, IsGiven, SignalsFit, signals_of}
use Rattle.pdl_pipe_locks.proofs.Releases.{released_one}
use Rattle.pdl_law_parts.proofs.WellFormedMems.{power_one}
use Rattle.pdl_pipe_locks.proofs.PortsFit.{WriteFits, ReserveFits}
use Rattle.pdl_word.specs.Each.{Each}
use Rattle.pdl_word.proofs.Each.{each_append}

-- ---- the nets are there

reserves_given : (c : Circuit) (p : Pipe) (rs : List ReserveNet)
    → Each (λ (r : ReserveNet). IsThere c r.on × IsThere c r.addr) rs
    → Each (IsSizedReserve p) (map (reservation_in c) rs) → Each (IsGivenReserve c) rs
reserves_given c p [] t s = tt
reserves_given c p (r ∷ rs) t s = (record { on = record { there = t.0.0; width = s.0.1 }; addr = t.0.1 }, reserves_given c p rs t.1 s.1)

puts_given : (c : Circuit) (p : Pipe) (xs : List PutNet) → Each (λ (x : PutNet). IsThere c x.on × IsThere c x.value) xs
    → Each (IsSizedPut p) (map (put_in c) xs) → Each (IsGivenPut c) xs
puts_given c p [] t s = tt
puts_given c p (x ∷ xs) t s = (record { on = record { there = t.0.0; width = s.0.1 }; value = t.0.1 }, puts_given c p xs t.1 s.1)

lettings_given : (c : Circuit) (xs : List LettingNet) → Each (λ (x : LettingNet). IsThere c x.on) xs
    → Each (λ (x : Letting). x.on.width ≡ 1) (map (letting_in c) xs) → Each (IsGivenLetting c) xs
lettings_given c [] t s = tt
lettings_given c (x ∷ xs) t s = (record { on = record { there = t.0; width = s.0 } }, lettings_given c xs t.1 s.1)

-- ---- their widths

reserves_fit : (p : Pipe) (m bits : ℕ) (f : Signal) (rs : List Reservation)
    → 2 ^ bits ≡ (mem_at p m).depth → Each (IsSizedReserve p) rs → Each (ReserveFits bits) (reserves_to m f rs)
reserves_fit p m bits f [] d s = tt
reserves_fit p m bits f (r ∷ rs) d s =
    let rest = reserves_fit p m bits f rs d s.1 in
    elim (eqb_tells r.mem m) [
      | inl e ↦ rw (e.0) ((s.0.1, power_one r.addr.width bits (s.0.2 ∙ ap (λ k. (mem_at p k).depth) e.1 ∙ sym d)), rest)
      | inr e ↦ rw (e.0) rest
    ]

puts_fit : (p : Pipe) (m tickets : ℕ) (f : Signal) (t : ℕ → Signal) (xs : List Put)
    → ((a : ℕ) → (t a).width ≡ tickets) → Each (IsSizedPut p) xs → Each (WriteFits (mem_at p m).width tickets) (puts_to m f t xs)
puts_fit p m tickets f t [] w s = tt
puts_fit p m tickets f t (x ∷ xs) w s =
    let rest = puts_fit p m tickets f t xs w s.1 in
    elim (eqb_tells x.mem m) [
      | inl e ↦ rw (e.0) ((s.0.1, w x.var, s.0.2 ∙ ap (λ k. (mem_at p k).width) e.1), rest)
      | inr e ↦ rw (e.0) rest
    ]

all_reserves_fit : (m bits : ℕ) (vs : ℕ → View) (moves : ℕ → Signal) (n k : ℕ)
    → ((j : ℕ) → Each (ReserveFits bits) (reserves_to m (moves j) (vs j).ended.reserves))
    → Each (ReserveFits bits) (all_reserves m vs moves n k)
all_reserves_fit m bits vs moves zero k h = tt
all_reserves_fit m bits vs moves (suc n) k h =
    each_append (ReserveFits bits) (all_reserves m vs moves n (suc k)) (reserves_to m (moves k) (vs k).ended.reserves)
    (all_reserves_fit m bits vs moves n (suc k) h) (h k)

-- the ticket of each location is as wide as its thread's
ticket_fits : (twice : Bool) (late : ℕ → Signal) (t : Signal) (a : ℕ) → (ticket_at twice late t a).width ≡ t.width
ticket_fits true late t a = refl
ticket_fits false late t a = refl

all_puts_fit : (twice : Bool) (m width tickets : ℕ) (vs : ℕ → View) (moves : ℕ → Signal) (n k : ℕ)
    → ((j : ℕ) → Each (WriteFits width tickets) (puts_to m (moves j) (tickets_to twice m (vs j)) (vs j).ended.puts))
    → Each (WriteFits width tickets) (all_puts twice m vs moves n k)
all_puts_fit twice m width tickets vs moves zero k h = tt
all_puts_fit twice m width tickets vs moves (suc n) k h =
    each_append (WriteFits width tickets) (all_puts twice m vs moves n (suc k))
    (puts_to m (moves k) (tickets_to twice m (vs k)) (vs k).ended.puts) (all_puts_fit twice m width tickets vs moves n (suc k) h) (h k)

-- what holds of each stage, and of one that does nothing, holds at each number
views_have : (c : Circuit) (P : View → Type 0) (ds : List StageDeeds) (k : ℕ)
    → P (view_with (λ m. no_signal) (walk_of no_parts)) → Each (λ d. P (view_in c d)) ds → P (views_in c ds k)
views_have c P [] k n h = n
views_have c P (d ∷ ds) zero n h = h.0
views_have c P (d ∷ ds) (suc k) n h = views_have c P ds k n h.1

module _ {T : Type 0} (l : Members T) (c : Circuit) (p : Pipe) (ws : List ℕ) (xs : List (Option (MemLock T))) where
  -- what one stage brings for the lock of memory m is there, with its ticket
  pub given_of : (m : ℕ) (d : StageDeeds) → m < length xs → IsDeed l c p ws xs d → IsGiven c m d
  given_of m d low h = record {
    moves = h.moves;
    walk = h.walk.there;
    marks = h.walk.sized.marks;
    reserves = reserves_given c p d.ended.now.reserves h.walk.there.reserves h.walk.sized.reserves;
    puts = puts_given c p d.ended.now.puts h.walk.there.puts h.walk.sized.puts;
    lettings = lettings_given c d.ended.now.lettings h.walk.there.lettings h.walk.sized.lettings;
    low = omega (arith, low, h.tickets.count);
    tickets = h.tickets.there;
  }

  -- what all stages bring for the lock of memory m is there, with their tickets
  pub all_given : (m : ℕ) (ds : List StageDeeds) → m < length xs → Each (IsDeed l c p ws xs) ds → Each (IsGiven c m) ds
  all_given m [] low h = tt
  all_given m (d ∷ ds) low h = (given_of m d low h.0, all_given m ds low h.1)

  views_reserve : (m bits : ℕ) (f : Signal) (ds : List StageDeeds) → 2 ^ bits ≡ (mem_at p m).depth
      → Each (IsDeed l c p ws xs) ds
      → Each (λ d. Each (ReserveFits bits) (reserves_to m f (view_in c d).ended.reserves)) ds
  views_reserve m bits f [] e h = tt
  views_reserve m bits f (d ∷ ds) e h =
      (reserves_fit p m bits f (map (reservation_in c) d.ended.now.reserves) e h.0.walk.sized.reserves, views_reserve m bits f ds e h.1)

  views_put : (twice : Bool) (m : ℕ) (x : MemLock T) (f : Signal) (ds : List StageDeeds) → m < length xs → some_at xs m ≡ Some x
      → Each (IsDeed l c p ws xs) ds
      → Each (λ d. Each (WriteFits (mem_at p m).width (l.tickets x.lock)) (puts_to m f (tickets_to twice m (view_in c d)) (view_in c d).ended.puts)) ds
  views_put twice m x f [] low e h = tt
  views_put twice m x f (d ∷ ds) low e h = (
    puts_fit p m (l.tickets x.lock) f (tickets_to twice m (view_in c d)) (map (put_in c) d.ended.now.puts)
        (λ a. ticket_fits twice ((view_in c d).ended.marks Late m) ((view_in c d).tickets m) a ∙ h.0.tickets.wide m x low e) h.0.walk.sized.puts,
    views_put twice m x f ds low e h.1,
  )

  -- what the stages do to a memory's lock has the widths that the lock takes
  pub signals_fit : (twice : Bool) (m : ℕ) (x : MemLock T) (ds : List StageDeeds) → m < length xs → some_at xs m ≡ Some x
      → IsLockIn l c (comb_place p m) (mem_at p m) x → Each (IsDeed l c p ws xs) ds → (squash : Net) (tails : List Net)
      → AreSquashNets l c xs squash tails
      → SignalsFit x.regs.bits x.regs.width (l.tickets x.lock) (signals_of c twice ds m (signal c squash) (tickets_in c tails m))
  signals_fit twice m x ds low e i h squash tails s = record {
    reserves = all_reserves_fit m x.regs.bits (views_in c ds) (moves_in c ds) (length ds) 0
        (λ j. views_have c
        (λ v. Each (ReserveFits x.regs.bits) (reserves_to m (moves_in c ds j) v.ended.reserves)) ds j tt
        (views_reserve m x.regs.bits (moves_in c ds j) ds i.bits h));
    writes = subst (λ w. Each (WriteFits w (l.tickets x.lock)) (all_puts twice m (views_in c ds) (moves_in c ds) (length ds) 0)) (sym i.wide)
        (all_puts_fit twice m (mem_at p m).width (l.tickets x.lock) (views_in c ds) (moves_in c ds) (length ds) 0
        (λ j. views_have c
        (λ v. Each (WriteFits (mem_at p m).width (l.tickets x.lock)) (puts_to m (moves_in c ds j) (tickets_to twice m v) v.ended.puts)) ds j tt
        (views_put twice m x (moves_in c ds j) ds low e h)));
    release = (released_one twice m (views_in c ds) (moves_in c ds) (length ds) 0).0;
    release2 = (released_one twice m (views_in c ds) (moves_in c ds) (length ds) 0).1;
    squash = s.squash.width;
    tail = s.tails.wide m x low e;
  }
