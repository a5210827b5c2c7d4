-- The next tickets of the locks as nets.
use Rattle.std.proofs.Common.{◌≡◌, ℕ, suc, ◌<◌, List, [], ◌∷◌, map, length, refl, sym, ap, ap₂, ◌∙◌, arith}
use Rattle.std.proofs.lemmas.List.{get_or-map, length-map}
use Rattle.std.specs.Prelude.{slice_index, Option, Some, None}
use Rattle.pdl_semantics.specs.Flat.{Pipe}
use Rattle.pdl_net.specs.declared.Net.{Net}
use Rattle.pdl_net.specs.Circuit.{Circuit}
use Rattle.pdl_net.specs.Signal.{Signal, no_signal}
use Rattle.pdl_net.specs.Meaning.{signal, IsThere, Means}
use Rattle.pdl_net.specs.Growth.{Keeps}
use Rattle.pdl_pipe_exprs.specs.Nets.{NetsThere, signals_in, signal_at, widths_of}
use Rattle.pdl_pipe_exprs.proofs.NetLists.{width_at, length_widths, length_signals}
use Rattle.pdl_law_parts.specs.Walk.{zero_bit}
use Rattle.pdl_pipe_walk.specs.declared.locks.MemLock.{MemLock}
use Rattle.pdl_pipe_walk.specs.Locked.{Members, of_lock, some_at, locks_in, AreLocked, AreTickets}
use Rattle.pdl_pipe_registers.specs.Begun.{ticket_net}
use Rattle.pdl_pipe_registers.specs.Staged.{next_signals}

module _ {T : Type 0} (l : Members T) (b : Circuit) (p : Pipe) (none : Net) (zero_is : Means b none zero_bit) where
  there_from : (xs : List (Option (MemLock T)))
      → ((m : ℕ) (x : MemLock T) → m < length xs → some_at xs m ≡ Some x → IsThere b x.regs.ticket)
      → NetsThere b (map (ticket_net none) xs)
  there_from [] h = tt
  there_from (None ∷ xs) h = (zero_is.there, there_from xs (λ m x q e. h (suc m) x (omega (arith, q)) e))
  there_from (Some y ∷ xs) h = (h 0 y (omega arith) refl, there_from xs (λ m x q e. h (suc m) x (omega (arith, q)) e))

  signals_from : (xs : List (Option (MemLock T))) → signals_in b (map (ticket_net none) xs) ≡ next_signals b xs
  signals_from [] = refl
  signals_from (None ∷ xs) = ap₂ (λ (f : Signal) fs. f ∷ fs) zero_is.same (signals_from xs)
  signals_from (Some y ∷ xs) = ap (λ fs. signal b y.regs.ticket ∷ fs) (signals_from xs)

  -- the nets of the locks' next tickets are there
  pub next_there : (xs : List (Option (MemLock T))) → AreLocked l b p xs → NetsThere b (map (ticket_net none) xs)
  next_there xs h = there_from xs (λ m x q e. (h.locks m x (let n = h.count in omega (arith, q, n)) e).ticket.there)

  -- the nets mean the locks' next tickets, and 0 where a memory has no lock
  pub next_are : (xs : List (Option (MemLock T))) → signals_in b (map (ticket_net none) xs) ≡ next_signals b xs
  next_are xs = signals_from xs

-- tickets of a stage have the widths of the locks' tickets
pub tickets_fit : {T : Type 0} (l : Members T) (a b : Circuit) (p : Pipe) (xs : List (Option (MemLock T))) (ts : List Net)
    → AreLocked l a p xs → NetsThere b ts → widths_of (signals_in b ts) ≡ widths_of (next_signals a xs)
    → AreTickets l b xs ts
tickets_fit l a b p xs ts h there wide = record {
  there = there;
  count =
      sym (length_signals b ts) ∙ sym (length_widths (signals_in b ts)) ∙ ap length wide
      ∙ length_widths (next_signals a xs) ∙ length-map xs (of_lock (λ x. signal a x.regs.ticket) zero_bit);
  wide = λ m x low e.
      sym (width_at (signals_in b ts) m)
      ∙ ap (λ ws. slice_index ws m) wide
      ∙ width_at (next_signals a xs) m
      ∙ ap (λ (f : Signal). f.width)
      (get_or-map (of_lock (λ y. signal a y.regs.ticket) zero_bit) xs m None no_signal low ∙ ap (of_lock (λ y. signal a y.regs.ticket) zero_bit) e)
      ∙ (h.locks m x (let n = h.count in omega (arith, low, n)) e).ticket.width;
}

-- they stay while the circuit grows
module _ {T : Type 0} (l : Members T) (a b : Circuit) (e : Keeps a b) where
  same_from : (xs : List (Option (MemLock T)))
      → ((m : ℕ) (x : MemLock T) → m < length xs → some_at xs m ≡ Some x → IsThere a x.regs.ticket)
      → next_signals b xs ≡ next_signals a xs
  same_from [] h = refl
  same_from (None ∷ xs) h = ap (λ fs. zero_bit ∷ fs) (same_from xs (λ m x q s. h (suc m) x (omega (arith, q)) s))
  same_from (Some y ∷ xs) h =
      ap₂ (λ (f : Signal) fs. f ∷ fs) (e.kept y.regs.ticket (h 0 y (omega arith) refl)) (same_from xs (λ m x q s. h (suc m) x (omega (arith, q)) s))

  -- the next tickets of the locks are the same signals
  pub next_same : (p : Pipe) (xs : List (Option (MemLock T))) → AreLocked l a p xs → next_signals b xs ≡ next_signals a xs
  next_same p xs h = same_from xs (λ m x q s. (h.locks m x (let n = h.count in omega (arith, q, n)) s).ticket.there)

-- the next ticket of a lock is that of the locks
pub next_at : {T : Type 0} (l : Members T) (a : Circuit) (p : Pipe) (xs : List (Option (MemLock T)))
    → AreLocked l a p xs → (m : ℕ) → m < length p.mems → signal_at (next_signals a xs) m ≡ (locks_in l p a xs).ticket m
next_at l a p xs h m low = get_or-map (of_lock (λ y. signal a y.regs.ticket) zero_bit) xs m None no_signal (let n = h.count in omega (arith, low, n))
