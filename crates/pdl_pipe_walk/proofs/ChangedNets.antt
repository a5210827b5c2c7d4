-- The nets of a walk after each change, as the changes make them.
use Rattle.std.proofs.Common.{◌≡◌, ℕ, ◌<◌, ◌^◌, List, [], ◌∷◌, ◌++◌, length, refl, sym, ap, ap₂, ◌∙◌, subst}
use Rattle.std.specs.Prelude.{take, slice_index, slice_set, Result, Ok, Err, OnOk}
use Rattle.pdl_kit.specs.declared.no_memory.NoMemory.{NoMemory}
use Rattle.pdl_semantics.specs.Flat.{Pipe}
use Rattle.pdl_semantics.specs.Stages.{mem_at}
use Rattle.pdl_net.specs.declared.Net.{Net}
use Rattle.pdl_net.specs.Circuit.{Circuit}
use Rattle.pdl_net.specs.Signal.{Signal, mux_signal}
use Rattle.pdl_net.specs.Meaning.{signal, IsThere, Means}
use Rattle.pdl_net.specs.Growth.{Extends}
use Rattle.pdl_net.proofs.Keeps.{extends_keeps}
use Rattle.pdl_pipe_exprs.specs.Nets.{NetsThere, signals_in, signal_at, widths_of}
use Rattle.pdl_law_parts.specs.declared.Mark.{Mark}
use Rattle.pdl_law_parts.specs.declared.Mark.TheVariants.{Held}
use Rattle.pdl_law_parts.specs.Walk.{Locks, one, both, if_on}
use Rattle.pdl_law_parts.specs.Rows.{IsUnlocked}
use Rattle.pdl_pipe_walk.specs.declared.nets.MarkNet.{MarkNet}
use Rattle.pdl_pipe_walk.specs.declared.nets.ReserveNet.{ReserveNet}
use Rattle.pdl_pipe_walk.specs.declared.nets.PutNet.{PutNet}
use Rattle.pdl_pipe_walk.specs.declared.nets.LettingNet.{LettingNet}
use Rattle.pdl_pipe_walk.specs.declared.nets.BirthNet.{BirthNet}
use Rattle.pdl_pipe_walk.specs.declared.nets.AskNet.{AskNet}
use Rattle.pdl_pipe_walk.specs.declared.nets.AdvisingNet.{AdvisingNet}
use Rattle.pdl_pipe_walk.specs.declared.nets.WalkNets.{WalkNets}
use Rattle.pdl_pipe_walk.specs.Parts.{Parts, mark_of, reservation_in, letting_in, ask_in, advising_in, parts_in, IsThereWalk}
use Rattle.pdl_pipe_walk.specs.Frames.{SameRest}
use Rattle.pdl_pipe_walk.specs.Sized.{IsSized, IsWalk}
use Rattle.pdl_pipe_walk.specs.Steps.{with_var, with_put, with_mark, with_room, with_reservation, with_reserve, with_call, with_ask, with_advising}
use Rattle.pdl_pipe_walk.proofs.Lists.{there_set}
use Rattle.pdl_pipe_walk.proofs.NetGrowth.{there_walk}
use Rattle.pdl_pipe_walk.proofs.Updates.{there_rest, vars_parts, ready_parts, marks_parts, reserve_parts, put_parts, letting_parts, ask_parts, advising_parts, birth_parts, fails_parts, barrier_parts, guess_parts, sized_var, sized_ready, sized_mark, sized_put, sized_reserve, sized_letting, sized_ask, sized_advising, sized_fails, sized_barrier, sized_guess, sized_call}
use Rattle.pdl_word.specs.Each.{Each}
use Rattle.pdl_word.proofs.Each.{each_push}

-- a part of what an equal value has
as_sized : (p : Pipe) (ws : List ℕ) (q r : Parts) → q ≡ r → IsSized p ws r → IsSized p ws q
as_sized p ws q r e h = subst (IsSized p ws) (sym e) h

module _ (a b : Circuit) (e : Extends a b) (p : Pipe) (ws : List ℕ) (w : WalkNets) (h : IsWalk a p ws w) where
  there : IsThereWalk b w
  there = there_walk a b (extends_keeps a b e) w h.there

  -- another variable
  module _ (new : WalkNets) (x : ℕ) (n : Net) (on f : Signal) (m : Means b n (mux_signal on f (signal_at (signals_in a w.vars.items) x)))
      (e1 : new.vars.items ≡ slice_set w.vars.items x n) (e2 : new.marks ≡ w.marks) (e3 : new.births ≡ w.births) (rest : SameRest w new) where
    -- the walk's signals are those before, with the new one for the variable where the condition is 1
    pub set_parts : parts_in b new ≡ with_var x on f (parts_in a w)
    set_parts = vars_parts a b (extends_keeps a b e) w h.there new x n (mux_signal on f (signal_at (signals_in a w.vars.items) x)) m.same e1 e2 e3 rest

    -- the nets of the walk with another variable are there, with their widths
    pub set_walk : f.width ≡ slice_index ws x → IsWalk b p ws new
    set_walk k = record {
      there =
          there_rest b w new there rest (subst (λ (l : List Net). NetsThere b l) (sym e1) (there_set b w.vars.items x n there.vars m.there))
          (subst (λ l. Each (λ (y : MarkNet). IsThere b y.net) l.items) (sym e2) there.marks)
          (subst (λ l. Each (λ (y : BirthNet). IsThere b y.on × NetsThere b y.args) l.items) (sym e3) there.births);
      sized = as_sized p ws (parts_in b new) (with_var x on f (parts_in a w)) set_parts (sized_var p ws (parts_in a w) h.sized x on f k);
    }

  -- another ready net
  module _ (n : Net) (on f : Signal) (t : IsThere b n) (s : signal b n ≡ both (parts_in a w).ready (if_on on f)) where
    -- the walk's signals are those before, and where the condition is 1 the thread waits for one bit more
    pub wait_parts : parts_in b (record w { ready = n }) ≡ record (parts_in a w) { ready = both (parts_in a w).ready (if_on on f) }
    wait_parts = ready_parts a b (extends_keeps a b e) w h.there n (both (parts_in a w).ready (if_on on f)) s

    -- the nets of the walk with another ready net are there, with their widths
    pub wait_walk : f.width ≡ 1 → IsWalk b p ws (record w { ready = n })
    wait_walk k = record {
      there =
          record {
            vars = there.vars;
            marks = there.marks;
            ready = t;
            reserves = there.reserves;
            puts = there.puts;
            lettings = there.lettings;
            births = there.births;
            asks = there.asks;
            advises = there.advises;
            guess = there.guess;
            fails = there.fails;
            barrier = there.barrier;
          };
      sized =
          as_sized p ws (parts_in b (record w { ready = n }))
          (record (parts_in a w) { ready = both (parts_in a w).ready (if_on on f) }) wait_parts (sized_ready p ws (parts_in a w) h.sized on f k);
    }

  -- another net of whether a verify fails, or of a barrier, and other nets of the guess
  module _ (n : Net) (f : Signal) (t : IsThere b n) (s : signal b n ≡ f) (k : f.width ≡ 1) where
    -- the nets of the walk with another net of whether a verify fails are there, with their widths
    pub fails_walk : IsWalk b p ws (record w { fails = n })
    fails_walk = record {
      there =
          record {
            vars = there.vars;
            marks = there.marks;
            ready = there.ready;
            reserves = there.reserves;
            puts = there.puts;
            lettings = there.lettings;
            births = there.births;
            asks = there.asks;
            advises = there.advises;
            guess = there.guess;
            fails = t;
            barrier = there.barrier;
          };
      sized =
          as_sized p ws (parts_in b (record w { fails = n })) (record (parts_in a w) { fails = f })
          (fails_parts a b (extends_keeps a b e) w h.there n f s) (sized_fails p ws (parts_in a w) h.sized f k);
    }

    -- the nets of the walk with another barrier are there, with their widths
    pub barrier_walk : IsWalk b p ws (record w { barrier = n })
    barrier_walk = record {
      there =
          record {
            vars = there.vars;
            marks = there.marks;
            ready = there.ready;
            reserves = there.reserves;
            puts = there.puts;
            lettings = there.lettings;
            births = there.births;
            asks = there.asks;
            advises = there.advises;
            guess = there.guess;
            fails = there.fails;
            barrier = t;
          };
      sized =
          as_sized p ws (parts_in b (record w { barrier = n })) (record (parts_in a w) { barrier = f })
          (barrier_parts a b (extends_keeps a b e) w h.there n f s) (sized_barrier p ws (parts_in a w) h.sized f k);
    }

  -- the nets of the walk with other nets of the guess are there, with their widths
  pub guess_walk : (ns : List Net) (fs : List Signal) → NetsThere b ns → signals_in b ns ≡ fs
      → widths_of fs ≡ take (length p.start) ws → IsWalk b p ws (record w { guess = ns })
  guess_walk ns fs t s k = record {
    there =
        record {
          vars = there.vars;
          marks = there.marks;
          ready = there.ready;
          reserves = there.reserves;
          puts = there.puts;
          lettings = there.lettings;
          births = there.births;
          asks = there.asks;
          advises = there.advises;
          guess = t;
          fails = there.fails;
          barrier = there.barrier;
        };
    sized =
        as_sized p ws (parts_in b (record w { guess = ns })) (record (parts_in a w) { guess = fs })
        (guess_parts a b (extends_keeps a b e) w h.there ns fs s) (sized_guess p ws (parts_in a w) h.sized fs k);
  }

  -- one more mark
  module _ (new : WalkNets) (mark : Mark) (mem var : ℕ) (n : Net) (on bit : Signal)
      (m : Means b n (mux_signal on bit (mark_of (parts_in a w).marks mark mem var)))
      (e1 : new.marks.items ≡ record { mark = mark; mem = mem; var = var; net = n } ∷ w.marks.items) (e2 : new.vars ≡ w.vars)
      (e3 : new.births ≡ w.births) (rest : SameRest w new) where
    -- the walk's signals are those before, with the new one for the mark where the condition is 1
    pub mark_parts : parts_in b new ≡ with_mark mark mem var on bit (parts_in a w)
    mark_parts =
        marks_parts a b (extends_keeps a b e) w h.there new mark mem var n
        (mux_signal on bit (mark_of (parts_in a w).marks mark mem var)) m.same e1 e2 e3 rest

    -- the nets of the walk with one more mark are there, with their widths
    pub mark_walk : bit.width ≡ 1 → IsWalk b p ws new
    mark_walk k = record {
      there =
          there_rest b w new there rest (subst (λ l. NetsThere b l.items) (sym e2) there.vars)
          (subst (λ (l : List MarkNet). Each (λ (y : MarkNet). IsThere b y.net) l) (sym e1) (m.there, there.marks))
          (subst (λ l. Each (λ (y : BirthNet). IsThere b y.on × NetsThere b y.args) l.items) (sym e3) there.births);
      sized =
          as_sized p ws (parts_in b new) (with_mark mark mem var on bit (parts_in a w)) mark_parts
          (sized_mark p ws (parts_in a w) h.sized mark mem var on bit k);
    }

-- one more of each kind, in the same circuit
module _ (b : Circuit) (p : Pipe) (ws : List ℕ) (w : WalkNets) (h : IsWalk b p ws w) where
  -- the nets of the walk with one more write are there, with their widths
  pub put_walk : (m a : ℕ) (on value : Net) → IsThere b on → IsThere b value → m < length p.mems → (signal b on).width ≡ 1
      → (signal b value).width ≡ (mem_at p m).width
      → IsWalk b p ws (record w { puts = w.puts ++ record { mem = m; var = a; on = on; value = value } ∷ [] })
  put_walk m a on value t u l o k = let n : PutNet = record { mem = m; var = a; on = on; value = value } in let s = h.there in record {
    there =
        record {
          vars = s.vars;
          marks = s.marks;
          ready = s.ready;
          reserves = s.reserves;
          lettings = s.lettings;
          births = s.births;
          asks = s.asks;
          advises = s.advises;
          guess = s.guess;
          fails = s.fails;
          barrier = s.barrier;
          puts = each_push (λ (y : PutNet). IsThere b y.on × IsThere b y.value) w.puts n s.puts (t, u);
        };
    sized =
        as_sized p ws (parts_in b (record w { puts = w.puts ++ n ∷ [] }))
        (with_put m a (signal b on) (signal b value) (parts_in b w)) (put_parts b w n)
        (sized_put p ws (parts_in b w) h.sized m a (signal b on) (signal b value) l o k);
  }

  -- the nets of the walk with one more reservation are there, with their widths
  pub reserve_walk : (m a : ℕ) (on addr : Net) → IsThere b on → IsThere b addr → m < length p.mems
      → (signal b on).width ≡ 1 → 2 ^ (signal b addr).width ≡ (mem_at p m).depth
      → IsWalk b p ws (record w { reserves = w.reserves ++ record { mem = m; var = a; on = on; addr = addr } ∷ [] })
  reserve_walk m a on addr t u l o k = let n : ReserveNet = record { mem = m; var = a; on = on; addr = addr } in let s = h.there in record {
    there =
        record {
          vars = s.vars;
          marks = s.marks;
          ready = s.ready;
          puts = s.puts;
          lettings = s.lettings;
          births = s.births;
          asks = s.asks;
          advises = s.advises;
          guess = s.guess;
          fails = s.fails;
          barrier = s.barrier;
          reserves = each_push (λ (y : ReserveNet). IsThere b y.on × IsThere b y.addr) w.reserves n s.reserves (t, u);
        };
    sized =
        as_sized p ws (parts_in b (record w { reserves = w.reserves ++ n ∷ [] }))
        (record (parts_in b w) { reserves = (parts_in b w).reserves ++ reservation_in b n ∷ [] }) (reserve_parts b w n)
        (sized_reserve p ws (parts_in b w) h.sized m a (signal b on) (signal b addr) l o k);
  }

  -- the nets of the walk with one more release are there, with their widths
  pub letting_walk : (m : ℕ) (on : Net) → IsThere b on → (signal b on).width ≡ 1
      → IsWalk b p ws (record w { lettings = w.lettings ++ record { mem = m; on = on } ∷ [] })
  letting_walk m on t o = let n : LettingNet = record { mem = m; on = on } in let s = h.there in record {
    there =
        record {
          vars = s.vars;
          marks = s.marks;
          ready = s.ready;
          reserves = s.reserves;
          puts = s.puts;
          births = s.births;
          asks = s.asks;
          advises = s.advises;
          guess = s.guess;
          fails = s.fails;
          barrier = s.barrier;
          lettings = each_push (λ (y : LettingNet). IsThere b y.on) w.lettings n s.lettings t;
        };
    sized =
        as_sized p ws (parts_in b (record w { lettings = w.lettings ++ n ∷ [] }))
        (record (parts_in b w) { lettings = (parts_in b w).lettings ++ letting_in b n ∷ [] }) (letting_parts b w n)
        (sized_letting p ws (parts_in b w) h.sized m (signal b on) o);
  }

  -- the nets of the walk with one more request are there, with their widths
  pub ask_walk : (m x : ℕ) (on addr : Net) → IsThere b on → IsThere b addr → m < length p.mems → (signal b on).width ≡ 1
      → 2 ^ (signal b addr).width ≡ (mem_at p m).depth
      → IsWalk b p ws (record w { asks = w.asks ++ record { mem = m; var = x; on = on; addr = addr } ∷ [] })
  ask_walk m x on addr t u l o k = let n : AskNet = record { mem = m; var = x; on = on; addr = addr } in let s = h.there in record {
    there =
        record {
          vars = s.vars;
          marks = s.marks;
          ready = s.ready;
          reserves = s.reserves;
          puts = s.puts;
          lettings = s.lettings;
          births = s.births;
          guess = s.guess;
          fails = s.fails;
          barrier = s.barrier;
          advises = s.advises;
          asks = each_push (λ (y : AskNet). IsThere b y.on × IsThere b y.addr) w.asks n s.asks (t, u);
        };
    sized =
        as_sized p ws (parts_in b (record w { asks = w.asks ++ n ∷ [] }))
        (record (parts_in b w) { asks = (parts_in b w).asks ++ ask_in b n ∷ [] }) (ask_parts b w n)
        (sized_ask p ws (parts_in b w) h.sized m x (signal b on) (signal b addr) l o k);
  }

  -- the nets of the walk with one more advisory write are there, with their widths
  pub advising_walk : (m : ℕ) (on addr value : Net) → IsThere b on → IsThere b addr → IsThere b value → m < length p.mems → IsUnlocked p m
      → (signal b on).width ≡ 1 → 2 ^ (signal b addr).width ≡ (mem_at p m).depth → (signal b value).width ≡ (mem_at p m).width
      → IsWalk b p ws (record w { advises = w.advises ++ record { mem = m; on = on; addr = addr; value = value } ∷ [] })
  advising_walk m on addr value t u v l free o k j =
      let n : AdvisingNet = record { mem = m; on = on; addr = addr; value = value } in
      let s = h.there in record {
        there =
            record {
              vars = s.vars;
              marks = s.marks;
              ready = s.ready;
              reserves = s.reserves;
              puts = s.puts;
              lettings = s.lettings;
              births = s.births;
              asks = s.asks;
              guess = s.guess;
              fails = s.fails;
              barrier = s.barrier;
              advises = each_push (λ (y : AdvisingNet). IsThere b y.on × IsThere b y.addr × IsThere b y.value) w.advises n s.advises (t, u, v);
            };
        sized =
            as_sized p ws (parts_in b (record w { advises = w.advises ++ n ∷ [] }))
            (record (parts_in b w) { advises = (parts_in b w).advises ++ advising_in b n ∷ [] }) (advising_parts b w n)
            (sized_advising p ws (parts_in b w) h.sized (advising_in b n) (record { low = l; unlocked = free; on = o; reach = k; value = j }));
      }

-- ---- what equal parts make of equal changes

-- equal parts in which a variable is set to equal signals under equal conditions are equal again
pub var_same : (x : ℕ) (o o' f f' : Signal) (q q' : Parts) → o ≡ o' → f ≡ f' → q ≡ q' → with_var x o f q ≡ with_var x o' f' q'
var_same x o o' f f' q q' e g h = ap₂ (λ i k. with_var x i k q) e g ∙ ap (with_var x o' f') h

-- equal parts with one write more, of equal signals under equal conditions, are equal again
pub put_same : (m a : ℕ) (o o' f f' : Signal) (q q' : Parts) → o ≡ o' → f ≡ f' → q ≡ q' → with_put m a o f q ≡ with_put m a o' f' q'
put_same m a o o' f f' q q' e g h = ap₂ (λ i k. with_put m a i k q) e g ∙ ap (with_put m a o' f') h

-- a choice between a new net and the old one
pub set_means : (a b : Circuit) (n : Net) (on f old known : Signal)
    → old ≡ known → Means b n (mux_signal on f old) → Means b n (mux_signal on f known)
set_means a b n on f old known e m = record { there = m.there; same = m.same ∙ ap (mux_signal on f) e }

-- the ready net after a wait tells that the one before is 1, and the bit is where the condition is 1
pub wait_signal : (a b1 b2 : Circuit) (ready asked r bit : Net) (on f : Signal) → Extends a b1 → IsThere a ready
    → signal a bit ≡ one → Means b1 asked (mux_signal on f (signal a bit))
    → Means b2 r (both (signal b1 ready) (signal b1 asked)) → signal b2 r ≡ both (signal a ready) (if_on on f)
wait_signal a b1 b2 ready asked r bit on f e t o m n = n.same ∙ ap₂ both (e.kept ready t) (m.same ∙ ap (mux_signal on f) o)

-- a result that goes well where both did
pub birth_made : (b : Circuit) (r : Result (Unit {0}) NoMemory) (p : Pipe) (ws : List ℕ) (w new : WalkNets) (on : Net) (args : List Net)
    → IsWalk b p ws w → IsThere b on → (signal b on).width ≡ 1 → NetsThere b args
    → widths_of (signals_in b args) ≡ take (length p.start) ws
    → OnOk r (new.births.items ≡ record { on = on; args = args } ∷ w.births.items) → new.vars ≡ w.vars
    → new.marks ≡ w.marks → SameRest w new
    → OnOk r (IsWalk b p ws new × (parts_in b new ≡ with_call (signal b on) (signals_in b args) (parts_in b w)))
birth_made b (Err x) p ws w new on args h t o u k e1 e2 e3 rest = e1
birth_made b (Ok x) p ws w new on args h t o u k e1 e2 e3 rest =
    let same = birth_parts b w new (record { on = on; args = args }) e1 e2 e3 rest in
    let s = h.there in (
      record {
        there =
            there_rest b w new s rest (subst (λ l. NetsThere b l.items) (sym e2) s.vars)
            (subst (λ l. Each (λ (y : MarkNet). IsThere b y.net) l.items) (sym e3) s.marks)
            (subst (λ (l : List BirthNet). Each (λ (y : BirthNet). IsThere b y.on × NetsThere b y.args) l) (sym e1) ((t, u), s.births));
        sized =
            as_sized p ws (parts_in b new)
            (with_call (signal b on) (signals_in b args) (parts_in b w)) same (sized_call p ws (parts_in b w) h.sized (signal b on) (signals_in b args) o k);
      },
      same,
    )

-- equal parts with one call more, of equal arguments under equal conditions, are equal again
pub call_same : (o o' : Signal) (f f' : List Signal) (q q' : Parts) → o ≡ o' → f ≡ f' → q ≡ q' → with_call o f q ≡ with_call o' f' q'
call_same o o' f f' q q' e g h = ap₂ (λ i k. with_call i k q) e g ∙ ap (with_call o' f') h

-- equal parts with one wait more, under equal conditions, are equal again
pub ready_same : (o o' f : Signal) (q q' : Parts)
    → o ≡ o' → q ≡ q' → record q { ready = both q.ready (if_on o f) } ≡ record q' { ready = both q'.ready (if_on o' f) }
ready_same o o' f q q' e h = ap₂ (λ i (k : Parts). record k { ready = both k.ready (if_on i f) }) e h

-- equal parts with one release more, of equal signals, are equal again
pub release_same : (m a : ℕ) (o o' z : Signal) (lets lets' : Signal) (q q' : Parts)
    → o ≡ o' → lets ≡ lets' → q ≡ q'
    → record (with_mark Held m a o z q) { lettings = q.lettings ++ record { mem = m; on = lets } ∷ [] }
    ≡ record (with_mark Held m a o' z q') { lettings = q'.lettings ++ record { mem = m; on = lets' } ∷ [] }
release_same m a o o' z lets lets' q q' e l h =
    ap (λ i. record (with_mark Held m a i z q) { lettings = q.lettings ++ record { mem = m; on = lets } ∷ [] }) e
    ∙ ap₂ (λ i (k : Parts). record (with_mark Held m a o' z k) { lettings = k.lettings ++ record { mem = m; on = i } ∷ [] }) l h

-- a held location, a wait for room and one more reservation make a reserve
pub reserve_made : (ls : Locks) (m a : ℕ) (q3 q2 q1 q0 : Parts) (o1 o2 o3 on bit addr : Signal)
    → q3 ≡ with_room ls m a o2 q2 → q2 ≡ with_mark Held m a o1 bit q1 → q1 ≡ q0 → o1 ≡ on → o2 ≡ on → o3 ≡ on → bit ≡ one
    → addr ≡ signal_at q0.vars a
    → with_reservation (record { mem = m; var = a; on = o3; addr = addr }) q3 ≡ with_reserve ls m a on q0
reserve_made ls m a q3 q2 q1 q0 o1 o2 o3 on bit addr h3 h2 h1 e1 e2 e3 eb ea = rw (h3, h2, h1, e1, e2, e3, eb, ea) refl

-- one more request with the address of a location makes a delayed read
pub ask_made : (m x a : ℕ) (q q' : Parts) (o o' f : Signal)
    → q ≡ q' → o ≡ o' → f ≡ signal_at q'.vars a
    → record q { asks = q.asks ++ record { mem = m; var = x; on = o; addr = f } ∷ [] } ≡ with_ask m x a o' q'
ask_made m x a q q' o o' f e g k =
    ap (λ (r : Parts). record r { asks = r.asks ++ record { mem = m; var = x; on = o; addr = f } ∷ [] }) e
    ∙ ap₂ (λ i j. record q' { asks = q'.asks ++ record { mem = m; var = x; on = i; addr = j } ∷ [] }) g k

-- one more advisory write with the address of a location makes a write of an advisory memory
pub advising_made : (m a : ℕ) (q q' : Parts) (o o' f v v' : Signal)
    → q ≡ q' → o ≡ o' → f ≡ signal_at q'.vars a → v ≡ v'
    → record q { advises = q.advises ++ record { mem = m; on = o; addr = f; value = v } ∷ [] } ≡ with_advising m a o' v' q'
advising_made m a q q' o o' f v v' e g k l = rw (e, g, k, l) refl
