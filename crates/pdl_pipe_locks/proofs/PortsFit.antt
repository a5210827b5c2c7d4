-- The ports of a lock as its step takes them.
use Rattle.std.proofs.Common.{◌≡◌, ℕ, ◌<◌, List, [], ◌∷◌, map, length, get_or, refl, sym, ap, ◌∙◌, subst}
use Rattle.std.specs.Prelude.{Option, Some, None}
use Rattle.pdl_net.specs.Circuit.{Circuit, HasArray}
use Rattle.pdl_net.specs.Signal.{Signal}
use Rattle.pdl_net.specs.Meaning.{signal}
use Rattle.pdl_net.specs.Growth.{Extends}
use Rattle.pdl_lockapi.specs.declared.Kind.{Kind}
use Rattle.pdl_lockapi.specs.declared.Kind.TheVariants.{W}
use Rattle.pdl_lockapi.specs.declared.ReservePort.{ReservePort}
use Rattle.pdl_lockapi.specs.declared.TicketWrite.{TicketWrite}
use Rattle.pdl_lockapi.specs.declared.LockPorts.{LockPorts}
use Rattle.pdl_lockapi.specs.Laws.{ReserveSignal, TicketSignal, StepSignals, HasNoPorts, PortsThere, PortsFit, step_signals, enabled_reserve, reserve_signal, ticket_signal}
use Rattle.pdl_pipe_locks.specs.Ports.{IsThereReserve, IsThereWrite, ArePorts, SignalsFit}
use Rattle.pdl_pipe_locks.proofs.PortStages.{each_at}
use Rattle.pdl_word.specs.Each.{Each}

-- what holds of each image holds of each element
of_map : {X Y : Type 0} (f : X → Y) (P : Y → Type 0) (xs : List X) → Each P (map f xs) → Each (λ x. P (f x)) xs
of_map f P [] h = tt
of_map f P (x ∷ xs) h = (h.0, of_map f P xs h.1)

-- the ports of a step are there, where they mean these signals
pub ports_there : (c : Circuit) (p : LockPorts) (f : StepSignals) → ArePorts c p f → PortsThere c p
ports_there c p f h = record {
  ask = λ k q l e. (each_at (IsThereReserve c) p.reserves k q l (sym e) h.reserves.there).enable;
  addr = λ k q l e. (each_at (IsThereReserve c) p.reserves k q l (sym e) h.reserves.there).addr;
  enable = λ k q l e. (each_at (IsThereWrite c) p.writes k q l (sym e) h.writes.there).enable;
  ticket = λ k q l e. (each_at (IsThereWrite c) p.writes k q l (sym e) h.writes.there).ticket;
  value = λ k q l e. (each_at (IsThereWrite c) p.writes k q l (sym e) h.writes.there).value;
  release = h.release.there;
  release2 = h.release2.there;
  squash = h.squash.there;
  tail = h.tail.there;
}

-- the ports of a step mean just these signals
pub ports_mean : (c : Circuit) (p : LockPorts) (f : StepSignals) → ArePorts c p f → step_signals c p ≡ f
unfolding step_signals
ports_mean c p f h =
    let F =
    λ (r : List ReserveSignal) (w : List TicketSignal)
    (x u y z : Signal). (let s : StepSignals = record { reserves = r; writes = w; release = x; release2 = u; squash = y; tail = z } in s) in
    let same : F (map (reserve_signal c) p.reserves) (map (ticket_signal c) p.writes) (signal c p.release)
    (signal c p.release2) (signal c p.squash) (signal c p.tail)
    ≡ F f.reserves f.writes f.release f.release2 f.squash f.tail =
    cc (h.reserves.same, h.writes.same, h.release.same, h.release2.same, h.squash.same, h.tail.same) in
    same

-- a reservation is told by 1 bit, and its address has so many bits
abbrev pub ReserveFits : ℕ → ReserveSignal → Type 0
ReserveFits bits r = (r.enable.width ≡ 1) × (r.addr.width ≡ bits)

-- a write is told by 1 bit, and its ticket and its value have so many bits
abbrev pub WriteFits : ℕ → ℕ → TicketSignal → Type 0
WriteFits width tickets x = (x.enable.width ≡ 1) × (x.ticket.width ≡ tickets) × (x.value.width ≡ width)

-- the ports of a step have the widths that the lock takes, where their signals do
pub ports_fit : (c : Circuit) (bits width tickets : ℕ) (p : LockPorts) (f : StepSignals) → ArePorts c p f
    → SignalsFit bits width tickets f → PortsFit c bits width tickets p
ports_fit c bits width tickets p f h w = record {
  ask_one = λ k q l e. ap (λ (u : Kind). (enabled_reserve u (signal c q.enable)).width) (sym (kind k q l e)) ∙ (reserve k q l e).0;
  addr_width = λ k q l e. (reserve k q l e).1;
  one = λ k q l e. (write k q l e).0;
  ticket_width = λ k q l e. (write k q l e).1;
  value_width = λ k q l e. (write k q l e).2;
  release_one = ap (λ (g : Signal). g.width) h.release.same ∙ w.release;
  release2_one = ap (λ (g : Signal). g.width) h.release2.same ∙ w.release2;
  squash_one = ap (λ (g : Signal). g.width) h.squash.same ∙ w.squash;
  tail_width = ap (λ (g : Signal). g.width) h.tail.same ∙ w.tail;
}
  where
    kind : (k : ℕ) (q : ReservePort) → k < length p.reserves → get_or p.reserves k q ≡ q → q.kind ≡ W
    kind k q l e = (each_at (IsThereReserve c) p.reserves k q l (sym e) h.reserves.there).kind

    reserve : (k : ℕ) (q : ReservePort) → k < length p.reserves → get_or p.reserves k q ≡ q → ReserveFits bits (reserve_signal c q)
    reserve k q l e =
        each_at (λ (q : ReservePort). ReserveFits bits (reserve_signal c q)) p.reserves k q l (sym e)
        (of_map (reserve_signal c) (ReserveFits bits) p.reserves (subst (Each (ReserveFits bits)) (sym h.reserves.same) w.reserves))

    write : (k : ℕ) (q : TicketWrite) → k < length p.writes → get_or p.writes k q ≡ q → WriteFits width tickets (ticket_signal c q)
    write k q l e =
        each_at (λ (q : TicketWrite). WriteFits width tickets (ticket_signal c q)) p.writes k q l (sym e)
        (of_map (ticket_signal c) (WriteFits width tickets) p.writes (subst (Each (WriteFits width tickets)) (sym h.writes.same) w.writes))

-- nothing writes a lock's array while its ports are made
pub unwritten_still : (o : Option ℕ) (a b : Circuit) → Extends a b → ((i : ℕ) → o ≡ Some i → HasArray a i) → HasNoPorts o a → HasNoPorts o b
unwritten_still None a b x has h = h
unwritten_still (Some i) a b x has h = x.writes i (has i refl) ∙ h
