-- What a lock takes next, and what is said of its ports, stays the same when more is added.
use Rattle.std.proofs.Common.{◌≡◌, ℕ, suc, ◌<◌, ◌≤◌, ◌∙◌, List, [], ◌∷◌, length, map, get_or, refl, ap, arith}
use Rattle.std.specs.Prelude.{Option, Some, None}
use Rattle.pdl_net.specs.declared.Port.{Port}
use Rattle.pdl_net.specs.Circuit.{Circuit}
use Rattle.pdl_net.specs.Signal.{Signal}
use Rattle.pdl_net.specs.Meaning.{signal}
use Rattle.pdl_net.specs.Growth.{Keeps, ExtendsPorts, Own}
use Rattle.pdl_net.proofs.Keeps.{extends_keeps}
use Rattle.pdl_lockapi.specs.declared.LockRegs.{LockRegs}
use Rattle.pdl_lockapi.specs.declared.LockPorts.{LockPorts}
use Rattle.pdl_lockapi.specs.declared.ReservePort.{ReservePort}
use Rattle.pdl_lockapi.specs.declared.TicketWrite.{TicketWrite}
use Rattle.pdl_lockapi.specs.Laws.{IsFragment, OwnKept, own, first_array, end_array, PortsThere, PortsFit, reserve_signal, ticket_signal, step_signals}

-- a lock's registers and array stay a fragment in a circuit that keeps what it had
pub fragment_kept : (a b c : Circuit) (r : LockRegs) → IsFragment a b r → Keeps b c → IsFragment a c r
fragment_kept a b c r f e = record {
  some = f.some;
  listed = f.listed;
  above = f.above;
  has_reg = λ k lo hi. e.has_reg k (f.has_reg k lo hi);
  array_above = f.array_above;
  has_array = λ m h. e.has_array m (f.has_array m h);
}

-- the one array of a range
array_between : (a : Option ℕ) (m : ℕ) → first_array a ≤ m → m < end_array a → a ≡ Some m
array_between None m lo hi = absurd (omega arith)
array_between (Some n) m lo hi = let e : n ≡ m = omega arith in ap Some e

-- a fragment keeps what it takes next
pub own_here : (a b : Circuit) (r : LockRegs) → IsFragment a b r → OwnKept (own r) b b
own_here a b r f = record {
  has_reg = f.has_reg;
  nexts = λ k lo hi. refl;
  has_array = λ m lo hi. f.has_array m (array_between r.array m lo hi);
  writes = λ m lo hi. refl;
}

-- a fragment takes next what it took where ports are added
pub own_kept_ports : (o : Own) (a b c : Circuit) (added : List Port) → OwnKept o a b → ExtendsPorts b c added → OwnKept o a c
own_kept_ports o a b c added x e = record {
  has_reg = λ k lo hi. e.has_reg k (x.has_reg k lo hi);
  nexts = λ k lo hi. e.nexts k (x.has_reg k lo hi) ∙ x.nexts k lo hi;
  has_array = λ m lo hi. e.has_array m (x.has_array m lo hi);
  writes = λ m lo hi. e.writes m (x.has_array m lo hi) ∙ x.writes m lo hi;
}

-- a step's ports

-- the nets of a step's ports are there in a circuit that keeps what it had
pub ports_there : (a b : Circuit) (p : LockPorts) → PortsThere a p → Keeps a b → PortsThere b p
ports_there a b p x y = record {
  ask = λ k q h e. y.there q.enable (x.ask k q h e);
  addr = λ k q h e. y.there q.addr (x.addr k q h e);
  enable = λ k q h e. y.there q.enable (x.enable k q h e);
  ticket = λ k q h e. y.there q.ticket (x.ticket k q h e);
  value = λ k q h e. y.there q.value (x.value k q h e);
  release = y.there p.release x.release;
  release2 = y.there p.release2 x.release2;
  squash = y.there p.squash x.squash;
  tail = y.there p.tail x.tail;
}

-- the nets of a step's ports, which are there, have their widths in a circuit that keeps what it had
pub ports_fit : (a b : Circuit) (bits width w : ℕ) (p : LockPorts) → PortsThere a p → PortsFit a bits width w p
    → Keeps a b → PortsFit b bits width w p
ports_fit a b bits width w p x z y = record {
  ask_one = λ k q h e. ap (λ (g : Signal). g.width) (y.kept q.enable (x.ask k q h e)) ∙ z.ask_one k q h e;
  addr_width = λ k q h e. ap (λ (g : Signal). g.width) (y.kept q.addr (x.addr k q h e)) ∙ z.addr_width k q h e;
  one = λ k q h e. ap (λ (g : Signal). g.width) (y.kept q.enable (x.enable k q h e)) ∙ z.one k q h e;
  ticket_width = λ k q h e. ap (λ (g : Signal). g.width) (y.kept q.ticket (x.ticket k q h e)) ∙ z.ticket_width k q h e;
  value_width = λ k q h e. ap (λ (g : Signal). g.width) (y.kept q.value (x.value k q h e)) ∙ z.value_width k q h e;
  release_one = ap (λ (g : Signal). g.width) (y.kept p.release x.release) ∙ z.release_one;
  release2_one = ap (λ (g : Signal). g.width) (y.kept p.release2 x.release2) ∙ z.release2_one;
  squash_one = ap (λ (g : Signal). g.width) (y.kept p.squash x.squash) ∙ z.squash_one;
  tail_width = ap (λ (g : Signal). g.width) (y.kept p.tail x.tail) ∙ z.tail_width;
}

-- a list of signals stays the same where each does
same_map : {X Y : Type 0} (f g : X → Y) → (xs : List X)
    → ((k : ℕ) (q : X) → k < length xs → get_or xs k q ≡ q → f q ≡ g q) → map f xs ≡ map g xs
same_map f g [] h = refl
same_map f g (x ∷ xs) h = cc (h 0 x (omega arith) refl, same_map f g xs (λ k q l e. h (suc k) q (omega arith) e))

same_reserve : (a b : Circuit) (q : ReservePort)
    → signal b q.enable ≡ signal a q.enable → signal b q.addr ≡ signal a q.addr
    → reserve_signal b q ≡ reserve_signal a q
same_reserve a b q e f = cc

same_ticket : (a b : Circuit) (q : TicketWrite)
    → signal b q.enable ≡ signal a q.enable → signal b q.ticket ≡ signal a q.ticket
    → signal b q.value ≡ signal a q.value → ticket_signal b q ≡ ticket_signal a q
same_ticket a b q e f g = cc

-- the nets of a step's ports, which are there, mean the same in a circuit that keeps what it had
pub same_signals : (a b : Circuit) (p : LockPorts) → PortsThere a p → Keeps a b → step_signals b p ≡ step_signals a p
unfolding step_signals
same_signals a b p x y =
    let e1 =
    same_map (reserve_signal b)
    (reserve_signal a) p.reserves (λ k q h e. same_reserve a b q (y.kept q.enable (x.ask k q h e)) (y.kept q.addr (x.addr k q h e))) in
    let e2 =
    same_map (ticket_signal b)
    (ticket_signal a) p.writes
    (λ k q h e. same_ticket a b q (y.kept q.enable (x.enable k q h e)) (y.kept q.ticket (x.ticket k q h e)) (y.kept q.value (x.value k q h e))) in
    cc (e1, e2, y.kept p.release x.release, y.kept p.release2 x.release2, y.kept p.squash x.squash, y.kept p.tail x.tail)

-- what carries the ports of a lock over to a grown circuit
pub ruleset ports = (extends_keeps, ports_there, ports_fit, same_signals)
