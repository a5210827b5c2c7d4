-- What the nets of a stage mean in a circuit.
use Rattle.std.specs.Prelude.{ℕ, ◌==◌, ◌&&◌, List, [], ◌∷◌, map, if◌then◌else◌}
use Rattle.pdl_form.specs.declared.form.FlatExpr as r_expr
use Rattle.pdl_form.specs.declared.form.FlatGuard as r_guard
use Rattle.pdl_form.specs.View.{guards_view, expr_view, exprs_view}
use Rattle.pdl_net.specs.Circuit.{Circuit}
use Rattle.pdl_net.specs.Signal.{Signal}
use Rattle.pdl_net.specs.Meaning.{signal, IsThere}
use Rattle.pdl_pipe_exprs.specs.Nets.{NetsThere, signals_in, signal_at}
use Rattle.pdl_pipe_exprs.specs.Conditions.{taken_signal}
use Rattle.pdl_pipe_exprs.specs.Values.{value_signal, value_signals}
use Rattle.pdl_law_parts.specs.declared.Mark.{Mark}
use Rattle.pdl_law_parts.specs.Walk.{Reservation, Put, Letting, Birth, Ask, Advising, Walk, zero_bit, same_mark}
use Rattle.pdl_pipe_walk.specs.declared.nets.MarkNet.{MarkNet}
use Rattle.pdl_pipe_walk.specs.declared.nets.ReserveNet.{ReserveNet}
use Rattle.pdl_pipe_walk.specs.declared.nets.PutNet.{PutNet}
use Rattle.pdl_pipe_walk.specs.declared.nets.LettingNet.{LettingNet}
use Rattle.pdl_pipe_walk.specs.declared.nets.BirthNet.{BirthNet}
use Rattle.pdl_pipe_walk.specs.declared.nets.AskNet.{AskNet}
use Rattle.pdl_pipe_walk.specs.declared.nets.AdvisingNet.{AdvisingNet}
use Rattle.pdl_pipe_walk.specs.declared.nets.WalkNets.{WalkNets}
use Rattle.pdl_word.specs.Each.{Each}

-- a mark of a location with the signal of whether the location has it
pub record MarkSignal : Type 0 where
  pub mark : Mark
  pub mem : ℕ
  pub var : ℕ
  pub signal : Signal

-- a walk whose variables and marks are lists
pub record Parts : Type 0 where
  pub vars : List Signal
  pub marks : List MarkSignal
  pub ready : Signal
  pub reserves : List Reservation
  pub puts : List Put
  pub lettings : List Letting
  pub births : List Birth
  pub asks : List Ask
  pub advises : List Advising
  pub guess : List Signal
  pub fails : Signal
  pub barrier : Signal

-- of two entries of one mark of a location the first counts
abbrev pub mark_of : List MarkSignal → Mark → ℕ → ℕ → Signal
mark_of [] k m a = zero_bit
mark_of (h ∷ hs) k m a = if same_mark h.mark k && ((h.mem == m) && (h.var == a)) then h.signal else mark_of hs k m a

-- the walk of such parts, with variables and marks of locations by their numbers
abbrev pub walk_of : Parts → Walk
walk_of w =
    record {
      vars = λ x. signal_at w.vars x;
      marks = mark_of w.marks;
      ready = w.ready;
      reserves = w.reserves;
      puts = w.puts;
      lettings = w.lettings;
      births = w.births;
      asks = w.asks;
      advises = w.advises;
      guess = w.guess;
      fails = w.fails;
      barrier = w.barrier;
    }

-- ---- nets

-- a mark of a location by its net in a circuit
abbrev pub mark_in : Circuit → MarkNet → MarkSignal
mark_in c h = record { mark = h.mark; mem = h.mem; var = h.var; signal = signal c h.net }

-- a reservation by its nets in a circuit
abbrev pub reservation_in : Circuit → ReserveNet → Reservation
reservation_in c r = record { mem = r.mem; var = r.var; on = signal c r.on; addr = signal c r.addr }

-- a write by its nets in a circuit
abbrev pub put_in : Circuit → PutNet → Put
put_in c x = record { mem = x.mem; var = x.var; on = signal c x.on; value = signal c x.value }

-- a release by its net in a circuit
abbrev pub letting_in : Circuit → LettingNet → Letting
letting_in c x = record { mem = x.mem; on = signal c x.on }

-- a call by its nets in a circuit
abbrev pub birth_in : Circuit → BirthNet → Birth
birth_in c x = record { on = signal c x.on; args = signals_in c x.args }

-- a request of a delayed memory by its nets in a circuit
abbrev pub ask_in : Circuit → AskNet → Ask
ask_in c x = record { mem = x.mem; var = x.var; on = signal c x.on; addr = signal c x.addr }

-- a write of an advisory memory by its nets in a circuit
abbrev pub advising_in : Circuit → AdvisingNet → Advising
advising_in c x = record { mem = x.mem; on = signal c x.on; addr = signal c x.addr; value = signal c x.value }

-- all parts of a walk by their nets in a circuit
abbrev pub parts_in : Circuit → WalkNets → Parts
parts_in c w =
    record {
      vars = signals_in c w.vars.items;
      marks = map (mark_in c) w.marks.items;
      ready = signal c w.ready;
      reserves = map (reservation_in c) w.reserves;
      puts = map (put_in c) w.puts;
      lettings = map (letting_in c) w.lettings;
      births = map (birth_in c) w.births.items;
      asks = map (ask_in c) w.asks;
      advises = map (advising_in c) w.advises;
      guess = signals_in c w.guess;
      fails = signal c w.fails;
      barrier = signal c w.barrier;
    }

-- the walk of a stage's nets
abbrev pub walk_in : Circuit → WalkNets → Walk
walk_in c w = walk_of (parts_in c w)

-- whether guards are taken, and the values of expressions, by a stage's variables
abbrev pub taken_by : Circuit → WalkNets → List r_guard.FlatGuard → Signal
taken_by c w gs = taken_signal (signals_in c w.vars.items) (guards_view gs)

-- the value of an expression, by a stage's variables
abbrev pub value_by : Circuit → WalkNets → r_expr.FlatExpr → Signal
value_by c w e = value_signal (signals_in c w.vars.items) (expr_view e)

-- the values of some expressions, by a stage's variables
abbrev pub values_by : Circuit → WalkNets → List r_expr.FlatExpr → List Signal
values_by c w es = value_signals (signals_in c w.vars.items) (exprs_view es)

-- the nets of a walk are there
pub record IsThereWalk (c : Circuit) (w : WalkNets) : Type 0 where
  pub vars : NetsThere c w.vars.items
  pub marks : Each (λ (h : MarkNet). IsThere c h.net) w.marks.items
  pub ready : IsThere c w.ready
  pub reserves : Each (λ (r : ReserveNet). IsThere c r.on × IsThere c r.addr) w.reserves
  pub puts : Each (λ (x : PutNet). IsThere c x.on × IsThere c x.value) w.puts
  pub lettings : Each (λ (x : LettingNet). IsThere c x.on) w.lettings
  pub births : Each (λ (x : BirthNet). IsThere c x.on × NetsThere c x.args) w.births.items
  pub asks : Each (λ (x : AskNet). IsThere c x.on × IsThere c x.addr) w.asks
  pub advises : Each (λ (x : AdvisingNet). IsThere c x.on × IsThere c x.addr × IsThere c x.value) w.advises
  pub guess : NetsThere c w.guess
  pub fails : IsThere c w.fails
  pub barrier : IsThere c w.barrier
