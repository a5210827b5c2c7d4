-- The nets of a walk after a change.
use Rattle.std.proofs.Common.{◌≡◌, ℕ, ◌<◌, ◌^◌, List, [], ◌∷◌, ◌++◌, map, length, sym, ap, ap₂, ◌∙◌, subst}
use Rattle.std.specs.Prelude.{take, slice_index, slice_set}
use Rattle.std.proofs.lemmas.List.{map-append, map-set}
use Rattle.pdl_semantics.specs.Flat.{Pipe}
use Rattle.pdl_semantics.specs.Stages.{mem_at}
use Rattle.pdl_net.specs.declared.Net.{Net}
use Rattle.pdl_net.specs.Circuit.{Circuit}
use Rattle.pdl_net.specs.Signal.{Signal, mux_signal}
use Rattle.pdl_net.specs.Meaning.{signal, IsThere}
use Rattle.pdl_net.specs.Growth.{Keeps}
use Rattle.pdl_pipe_exprs.specs.Nets.{NetsThere, signals_in, signal_at, widths_of}
use Rattle.pdl_law_parts.specs.declared.Mark.{Mark}
use Rattle.pdl_law_parts.specs.Walk.{Birth, Letting, Advising, both, if_on}
use Rattle.pdl_pipe_walk.specs.declared.nets.MarkNet.{MarkNet}
use Rattle.pdl_pipe_walk.specs.declared.nets.ReserveNet.{ReserveNet}
use Rattle.pdl_pipe_walk.specs.declared.nets.PutNet.{PutNet}
use Rattle.pdl_pipe_walk.specs.declared.nets.LettingNet.{LettingNet}
use Rattle.pdl_pipe_walk.specs.declared.nets.BirthNet.{BirthNet}
use Rattle.pdl_pipe_walk.specs.declared.nets.AskNet.{AskNet}
use Rattle.pdl_pipe_walk.specs.declared.nets.AdvisingNet.{AdvisingNet}
use Rattle.pdl_pipe_walk.specs.declared.nets.WalkNets.{WalkNets}
use Rattle.pdl_pipe_walk.specs.Parts.{MarkSignal, Parts, mark_in, reservation_in, put_in, letting_in, birth_in, ask_in, advising_in, parts_in, IsThereWalk}
use Rattle.pdl_pipe_walk.specs.Frames.{SameRest}
use Rattle.pdl_pipe_walk.specs.Sized.{IsSized, IsSizedReserve, IsSizedPut, IsSizedAsk, IsSizedAdvising}
use Rattle.pdl_pipe_walk.specs.Steps.{with_var, with_put, with_mark, with_call}
use Rattle.pdl_pipe_walk.proofs.Lists.{widths_set}
use Rattle.pdl_pipe_walk.proofs.NetGrowth.{parts_keep, var_width}
use Rattle.pdl_word.specs.Each.{Each}
use Rattle.pdl_word.proofs.Each.{each_push}

-- ---- parts by their lists

-- all but the three of a walk that has the rest of another one
same_rest : (b : Circuit) (w new : WalkNets) (vars : List Signal) (marks : List MarkSignal) (births : List Birth)
    → signals_in b new.vars.items ≡ vars → map (mark_in b) new.marks.items ≡ marks
    → map (birth_in b) new.births.items ≡ births → SameRest w new
    → parts_in b new ≡ record (parts_in b w) { vars = vars; marks = marks; births = births }
same_rest b w new vars marks births e1 e2 e3 r =
    cc (
      e1,
      e2,
      e3,
      ap (signal b) r.ready,
      ap (map (reservation_in b)) r.reserves,
      ap (map (put_in b)) r.puts,
      ap (map (letting_in b)) r.lettings,
      ap (map (ask_in b)) r.asks,
      ap (map (advising_in b)) r.advises,
      ap (signals_in b) r.guess,
      ap (signal b) r.fails,
      ap (signal b) r.barrier,
    )

-- the nets of a walk that has the rest of another one are there
pub there_rest : (b : Circuit) (w new : WalkNets) → IsThereWalk b w → SameRest w new → NetsThere b new.vars.items
    → Each (λ (y : MarkNet). IsThere b y.net) new.marks.items
    → Each (λ (y : BirthNet). IsThere b y.on × NetsThere b y.args) new.births.items → IsThereWalk b new
there_rest b w new t r vars marks births = record {
  vars = vars;
  marks = marks;
  ready = subst (IsThere b) (sym r.ready) t.ready;
  reserves = subst (λ (l : List ReserveNet). Each (λ (y : ReserveNet). IsThere b y.on × IsThere b y.addr) l) (sym r.reserves) t.reserves;
  puts = subst (λ (l : List PutNet). Each (λ (y : PutNet). IsThere b y.on × IsThere b y.value) l) (sym r.puts) t.puts;
  lettings = subst (λ (l : List LettingNet). Each (λ (y : LettingNet). IsThere b y.on) l) (sym r.lettings) t.lettings;
  births = births;
  asks = subst (λ (l : List AskNet). Each (λ (y : AskNet). IsThere b y.on × IsThere b y.addr) l) (sym r.asks) t.asks;
  advises =
      subst (λ (l : List AdvisingNet). Each (λ (y : AdvisingNet). IsThere b y.on × IsThere b y.addr × IsThere b y.value) l) (sym r.advises) t.advises;
  guess = subst (λ (l : List Net). NetsThere b l) (sym r.guess) t.guess;
  fails = subst (IsThere b) (sym r.fails) t.fails;
  barrier = subst (IsThere b) (sym r.barrier) t.barrier;
}

-- as they stand in an earlier circuit, with other variables, another ready net, more marks
module _ (a b : Circuit) (e : Keeps a b) (w : WalkNets) (t : IsThereWalk a w) where
  kept : parts_in b w ≡ parts_in a w
  kept = parts_keep a b e w t

  -- with another net for a variable, its signal alone is another
  pub vars_parts : (new : WalkNets) (x : ℕ) (n : Net) (f : Signal) → signal b n ≡ f
      → new.vars.items ≡ slice_set w.vars.items x n → new.marks ≡ w.marks → new.births ≡ w.births → SameRest w new
      → parts_in b new ≡ record (parts_in a w) { vars = slice_set (signals_in a w.vars.items) x f }
  vars_parts new x n f m v h k r =
      same_rest b w new (slice_set (signals_in b w.vars.items) x f) (parts_in b w).marks (parts_in b w).births
      (ap (signals_in b) v ∙ map-set (signal b) w.vars.items x n ∙ ap (λ g. slice_set (signals_in b w.vars.items) x g) m)
      (ap (λ h. map (mark_in b) h.items) h) (ap (λ h. map (birth_in b) h.items) k) r
      ∙ ap (λ (q : Parts). record q { vars = slice_set q.vars x f }) kept

  -- with another ready net, the ready signal alone is another
  pub ready_parts : (n : Net) (f : Signal) → signal b n ≡ f → parts_in b (record w { ready = n }) ≡ record (parts_in a w) { ready = f }
  ready_parts n f m = ap₂ (λ (q : Parts) g. record q { ready = g }) kept m

  -- with one more mark, it comes in front of the marks and nothing else changes
  pub marks_parts : (new : WalkNets) (k : Mark) (m v : ℕ) (n : Net) (f : Signal) → signal b n ≡ f
      → new.marks.items ≡ record { mark = k; mem = m; var = v; net = n } ∷ w.marks.items → new.vars ≡ w.vars → new.births ≡ w.births
      → SameRest w new
      → parts_in b new ≡ record (parts_in a w) { marks = record { mark = k; mem = m; var = v; signal = f } ∷ (parts_in a w).marks }
  marks_parts new k m v n f s h h1 h2 r =
      same_rest b w new (parts_in b w).vars (record { mark = k; mem = m; var = v; signal = f } ∷ (parts_in b w).marks) (parts_in b w).births
      (ap (λ h. signals_in b h.items) h1)
      (ap (map (mark_in b)) h ∙ ap (λ g. record { mark = k; mem = m; var = v; signal = g } ∷ (parts_in b w).marks) s)
      (ap (λ h. map (birth_in b) h.items) h2) r
      ∙ ap (λ (q : Parts). record q { marks = record { mark = k; mem = m; var = v; signal = f } ∷ q.marks }) kept

  -- with another net of whether a verify fails, its signal alone is another
  pub fails_parts : (n : Net) (f : Signal) → signal b n ≡ f → parts_in b (record w { fails = n }) ≡ record (parts_in a w) { fails = f }
  fails_parts n f m = ap₂ (λ (q : Parts) g. record q { fails = g }) kept m

  -- with another net of the barrier, its signal alone is another
  pub barrier_parts : (n : Net) (f : Signal) → signal b n ≡ f → parts_in b (record w { barrier = n }) ≡ record (parts_in a w) { barrier = f }
  barrier_parts n f m = ap₂ (λ (q : Parts) g. record q { barrier = g }) kept m

  -- with other nets of the guess, its signals alone are others
  pub guess_parts : (ns : List Net) (fs : List Signal) → signals_in b ns ≡ fs → parts_in b (record w { guess = ns }) ≡ record (parts_in a w) { guess = fs }
  guess_parts ns fs m = ap₂ (λ (q : Parts) gs. record q { guess = gs }) kept m

-- in the same circuit, with one more of each kind
module _ (b : Circuit) (w : WalkNets) where
  -- with one reservation more, it comes after the reservations and nothing else changes
  pub reserve_parts : (n : ReserveNet)
      → parts_in b (record w { reserves = w.reserves ++ n ∷ [] }) ≡ record (parts_in b w) { reserves = (parts_in b w).reserves ++ reservation_in b n ∷ [] }
  reserve_parts n = ap (λ l. record (parts_in b w) { reserves = l }) (map-append (reservation_in b) w.reserves (n ∷ []))

  -- with one write more, it comes after the writes and nothing else changes
  pub put_parts : (n : PutNet) → parts_in b (record w { puts = w.puts ++ n ∷ [] }) ≡ record (parts_in b w) { puts = (parts_in b w).puts ++ put_in b n ∷ [] }
  put_parts n = ap (λ l. record (parts_in b w) { puts = l }) (map-append (put_in b) w.puts (n ∷ []))

  -- with one release more, it comes after the releases and nothing else changes
  pub letting_parts : (n : LettingNet)
      → parts_in b (record w { lettings = w.lettings ++ n ∷ [] }) ≡ record (parts_in b w) { lettings = (parts_in b w).lettings ++ letting_in b n ∷ [] }
  letting_parts n = ap (λ l. record (parts_in b w) { lettings = l }) (map-append (letting_in b) w.lettings (n ∷ []))

  -- with one request more, it comes after the requests and nothing else changes
  pub ask_parts : (n : AskNet) → parts_in b (record w { asks = w.asks ++ n ∷ [] }) ≡ record (parts_in b w) { asks = (parts_in b w).asks ++ ask_in b n ∷ [] }
  ask_parts n = ap (λ l. record (parts_in b w) { asks = l }) (map-append (ask_in b) w.asks (n ∷ []))

  -- with one advisory write more, it comes after the advisory writes and nothing else changes
  pub advising_parts : (n : AdvisingNet)
      → parts_in b (record w { advises = w.advises ++ n ∷ [] }) ≡ record (parts_in b w) { advises = (parts_in b w).advises ++ advising_in b n ∷ [] }
  advising_parts n = ap (λ l. record (parts_in b w) { advises = l }) (map-append (advising_in b) w.advises (n ∷ []))

  -- with one call more, it comes in front of the calls and nothing else changes
  pub birth_parts : (new : WalkNets) (n : BirthNet) → new.births.items ≡ n ∷ w.births.items → new.vars ≡ w.vars → new.marks ≡ w.marks → SameRest w new
      → parts_in b new ≡ record (parts_in b w) { births = birth_in b n ∷ (parts_in b w).births }
  birth_parts new n h h1 h2 r =
      same_rest b w new (parts_in b w).vars (parts_in b w).marks (birth_in b n ∷ (parts_in b w).births)
      (ap (λ h. signals_in b h.items) h1) (ap (λ h. map (mark_in b) h.items) h2) (ap (map (birth_in b)) h) r

-- ---- widths after a change

module _ (p : Pipe) (ws : List ℕ) (w : Parts) (s : IsSized p ws w) where
  -- the widths stay as they should where a variable is set to a signal of its width
  pub sized_var : (x : ℕ) (on f : Signal) → f.width ≡ slice_index ws x → IsSized p ws (with_var x on f w)
  sized_var x on f e = record {
    vars = widths_set w.vars x (mux_signal on f (signal_at w.vars x)) (e ∙ sym (var_width p ws w x s)) ∙ s.vars;
    marks = s.marks;
    ready = s.ready;
    reserves = s.reserves;
    puts = s.puts;
    lettings = s.lettings;
    births = s.births;
    asks = s.asks;
    advises = s.advises;
    guess = s.guess;
    fails = s.fails;
    barrier = s.barrier;
  }

  -- the widths stay as they should where the thread waits for a bit more
  pub sized_ready : (on f : Signal) → f.width ≡ 1 → IsSized p ws (record w { ready = both w.ready (if_on on f) })
  sized_ready on f e =
      record {
        vars = s.vars;
        marks = s.marks;
        ready = e;
        reserves = s.reserves;
        puts = s.puts;
        lettings = s.lettings;
        births = s.births;
        asks = s.asks;
        advises = s.advises;
        guess = s.guess;
        fails = s.fails;
        barrier = s.barrier;
      }

  -- the widths stay as they should where a location has a mark as a bit says
  pub sized_mark : (k : Mark) (m a : ℕ) (on bit : Signal) → bit.width ≡ 1 → IsSized p ws (with_mark k m a on bit w)
  sized_mark k m a on bit e =
      record {
        vars = s.vars;
        marks = (e, s.marks);
        ready = s.ready;
        reserves = s.reserves;
        puts = s.puts;
        lettings = s.lettings;
        births = s.births;
        asks = s.asks;
        advises = s.advises;
        guess = s.guess;
        fails = s.fails;
        barrier = s.barrier;
      }

  -- the widths stay as they should with one write more, of a word's width
  pub sized_put : (m a : ℕ) (on f : Signal) → m < length p.mems → on.width ≡ 1 → f.width ≡ (mem_at p m).width → IsSized p ws (with_put m a on f w)
  sized_put m a on f l o e = record {
    vars = s.vars;
    marks = s.marks;
    ready = s.ready;
    reserves = s.reserves;
    lettings = s.lettings;
    births = s.births;
    asks = s.asks;
    advises = s.advises;
    guess = s.guess;
    fails = s.fails;
    barrier = s.barrier;
    puts = each_push (IsSizedPut p) w.puts (record { mem = m; var = a; on = on; value = f }) s.puts (l, o, e);
  }

  -- the widths stay as they should with one reservation more, whose address reaches each word and no more
  pub sized_reserve : (m a : ℕ) (on f : Signal) → m < length p.mems → on.width ≡ 1 → 2 ^ f.width ≡ (mem_at p m).depth
      → IsSized p ws (record w { reserves = w.reserves ++ record { mem = m; var = a; on = on; addr = f } ∷ [] })
  sized_reserve m a on f l o e = record {
    vars = s.vars;
    marks = s.marks;
    ready = s.ready;
    puts = s.puts;
    lettings = s.lettings;
    births = s.births;
    asks = s.asks;
    advises = s.advises;
    guess = s.guess;
    fails = s.fails;
    barrier = s.barrier;
    reserves = each_push (IsSizedReserve p) w.reserves (record { mem = m; var = a; on = on; addr = f }) s.reserves (l, o, e);
  }

  -- the widths stay as they should with one release more, whose condition has 1 bit
  pub sized_letting : (m : ℕ) (on : Signal) → on.width ≡ 1 → IsSized p ws (record w { lettings = w.lettings ++ record { mem = m; on = on } ∷ [] })
  sized_letting m on o = record {
    vars = s.vars;
    marks = s.marks;
    ready = s.ready;
    reserves = s.reserves;
    puts = s.puts;
    births = s.births;
    asks = s.asks;
    advises = s.advises;
    guess = s.guess;
    fails = s.fails;
    barrier = s.barrier;
    lettings = each_push (λ (x : Letting). x.on.width ≡ 1) w.lettings (record { mem = m; on = on }) s.lettings o;
  }

  -- the widths stay as they should with one request more, whose address reaches each word and no more
  pub sized_ask : (m x : ℕ) (on f : Signal) → m < length p.mems → on.width ≡ 1 → 2 ^ f.width ≡ (mem_at p m).depth
      → IsSized p ws (record w { asks = w.asks ++ record { mem = m; var = x; on = on; addr = f } ∷ [] })
  sized_ask m x on f l o e = record {
    vars = s.vars;
    marks = s.marks;
    ready = s.ready;
    reserves = s.reserves;
    puts = s.puts;
    lettings = s.lettings;
    births = s.births;
    guess = s.guess;
    fails = s.fails;
    barrier = s.barrier;
    advises = s.advises;
    asks = each_push (IsSizedAsk p) w.asks (record { mem = m; var = x; on = on; addr = f }) s.asks (l, o, e);
  }

  -- the widths stay as they should with one advisory write more, that has them
  pub sized_advising : (x : Advising) → IsSizedAdvising p x → IsSized p ws (record w { advises = w.advises ++ x ∷ [] })
  sized_advising x h = record {
    vars = s.vars;
    marks = s.marks;
    ready = s.ready;
    reserves = s.reserves;
    puts = s.puts;
    lettings = s.lettings;
    births = s.births;
    asks = s.asks;
    guess = s.guess;
    fails = s.fails;
    barrier = s.barrier;
    advises = each_push (IsSizedAdvising p) w.advises x s.advises h;
  }

  -- the widths stay as they should with another bit of whether a verify fails
  pub sized_fails : (f : Signal) → f.width ≡ 1 → IsSized p ws (record w { fails = f })
  sized_fails f e =
      record {
        vars = s.vars;
        marks = s.marks;
        ready = s.ready;
        reserves = s.reserves;
        puts = s.puts;
        lettings = s.lettings;
        births = s.births;
        asks = s.asks;
        advises = s.advises;
        guess = s.guess;
        fails = e;
        barrier = s.barrier;
      }

  -- the widths stay as they should with another bit of the barrier
  pub sized_barrier : (f : Signal) → f.width ≡ 1 → IsSized p ws (record w { barrier = f })
  sized_barrier f e =
      record {
        vars = s.vars;
        marks = s.marks;
        ready = s.ready;
        reserves = s.reserves;
        puts = s.puts;
        lettings = s.lettings;
        births = s.births;
        asks = s.asks;
        advises = s.advises;
        guess = s.guess;
        fails = s.fails;
        barrier = e;
      }

  -- the widths stay as they should with another guess, of the parameters' widths
  pub sized_guess : (fs : List Signal) → widths_of fs ≡ take (length p.start) ws → IsSized p ws (record w { guess = fs })
  sized_guess fs e =
      record {
        vars = s.vars;
        marks = s.marks;
        ready = s.ready;
        reserves = s.reserves;
        puts = s.puts;
        lettings = s.lettings;
        births = s.births;
        asks = s.asks;
        advises = s.advises;
        guess = e;
        fails = s.fails;
        barrier = s.barrier;
      }

  -- the widths stay as they should with one call more, whose arguments have the parameters' widths
  pub sized_call : (on : Signal) (args : List Signal) → on.width ≡ 1 → widths_of args ≡ take (length p.start) ws → IsSized p ws (with_call on args w)
  sized_call on args o k =
      record {
        vars = s.vars;
        marks = s.marks;
        ready = s.ready;
        reserves = s.reserves;
        puts = s.puts;
        lettings = s.lettings;
        births = ((o, k), s.births);
        asks = s.asks;
        advises = s.advises;
        guess = s.guess;
        fails = s.fails;
        barrier = s.barrier;
      }
