-- What ports, orders and locks are told of the stages is there.
use Rattle.std.proofs.Common.{◌≡◌, ◌<◌, ℕ, zero, suc, refl, sym, ap, ◌∙◌, subst, length, List, [], ◌∷◌, arith}
use Rattle.std.specs.Prelude.{Option, slice_index_or}
use Rattle.pdl_word.specs.Each.{Each}
use Rattle.pdl_net.specs.declared.Net.{Net}
use Rattle.pdl_net.specs.Circuit.{Circuit}
use Rattle.pdl_pipe_exprs.specs.Nets.{signals_in, widths_of}
use Rattle.pdl_pipe_walk.specs.declared.locks.MemLock.{MemLock}
use Rattle.pdl_pipe_walk.specs.Locked.{Members, AreLocked, AreTickets}
use Rattle.pdl_pipe_walk.specs.Sized.{IsWalk}
use Rattle.pdl_pipe_registers.specs.Staged.{next_signals}
use Rattle.pdl_pipe_registers.proofs.TicketsMade.{tickets_fit}
use Rattle.pdl_pipe_answers.specs.Ports.{IsBit}
use Rattle.pdl_pipe_beside.specs.declared.ends.StageEnd.{StageEnd}
use Rattle.pdl_pipe_beside.specs.Ends.{IsEnd, AreEnds}
use Rattle.pdl_pipe_nexts.specs.declared.line.StageLine.{StageLine}
use Rattle.pdl_pipe_nexts.specs.Lines.{line_form, line_pipe, IsLineIn}
use Rattle.pdl_pipe_locks.specs.declared.deeds.StageDeeds.{StageDeeds}
use Rattle.pdl_pipe_locks.specs.Deeds.{IsDeed, AreDeeds}
use Rattle.pdl_pipe_emitted.specs.Emitted.{AreEndsOf, AreDeedsOf}
use Rattle.pdl_pipe_emitted.proofs.SidesStages.{some_of}

each_from : {X : Type 0} (P : X → Type 0) (xs : List X) → ((k : ℕ) (x : X) → k < length xs → slice_index_or xs k x ≡ x → P x) → Each P xs
each_from P [] h = tt
each_from P (x ∷ xs) h = (h 0 x (omega arith) refl, each_from P xs (λ k y l is. h (suc k) y (omega (arith, l)) is))

-- a net in a list of nets of 1 bit each is there, with 1 bit
pub at_bit : (c : Circuit) (xs : List Net) (k : ℕ) (x : Net) → k < length xs → slice_index_or xs k x ≡ x → Each (IsBit c) xs → IsBit c x
at_bit c [] k x l is h = absurd (omega (arith, l))
at_bit c (y ∷ ys) zero x l is h = subst (IsBit c) is h.0
at_bit c (y ∷ ys) (suc k) x l is h = at_bit c ys k x (omega (arith, l)) is h.1

-- what the locks are told of the stages of a line is there, with its widths
pub deeds_there : {T : Type 0} (l : Members T) (c : Circuit) (x : StageLine) (xs : List (Option (MemLock T))) (ds : List StageDeeds)
    → IsLineIn c x → AreLocked l c (line_pipe x) xs → signals_in c x.shared.now.next ≡ next_signals c xs
    → AreDeedsOf x ds → AreDeeds l c (line_pipe x) (line_form x).widths xs ds
deeds_there l c x xs ds line locked next told =
    record { count = told.count ∙ line.count; each = each_from (IsDeed l c (line_pipe x) (line_form x).widths xs) ds each }
  where
    each : (k : ℕ) (d : StageDeeds) → k < length ds → slice_index_or ds k d ≡ d → IsDeed l c (line_pipe x) (line_form x).widths xs d
    each k d low is =
        let n = told.count in
        let m = line.moves_count in
        let there : k < length x.stages.now = omega (arith, low, n) in
        let some = some_of x.stages.now k there in
        let s = some.0 in
        let now = line.stages k s there some.1 in
        let move = some_of x.moves.now k (omega (arith, low, n, m)) in
        let bit = subst (IsBit c) (sym (told.moves k move.0 d low move.1 is)) (at_bit c x.moves.now k move.0 (omega (arith, low, n, m)) move.1 line.moves) in
        record {
          moves = bit;
          walk = subst (IsWalk c (line_pipe x) (line_form x).widths) (sym (told.ended k s d low some.1 is)) now.walk;
          tickets =
              subst (AreTickets l c xs) (sym (told.tickets k s d low some.1 is))
              (tickets_fit l c c (line_pipe x) xs s.tickets locked now.nets.tickets (now.nets.tickets_wide ∙ ap widths_of next));
        }

-- what ports and orders are told of the stages of a line is there, with its widths
pub ends_there : (c : Circuit) (x : StageLine) (es : List StageEnd) → IsLineIn c x → AreEndsOf x es → AreEnds c (line_form x) es
ends_there c x es line told = record { count = told.count ∙ line.count; each = each_from (IsEnd c (line_form x)) es each }
  where
    each : (k : ℕ) (e : StageEnd) → k < length es → slice_index_or es k e ≡ e → IsEnd c (line_form x) e
    each k e low is =
        let n = told.count in
        let m = line.moves_count in
        let i = line.kills_count in
        let there : k < length x.stages.now = omega (arith, low, n) in
        let some = some_of x.stages.now k there in
        let s = some.0 in
        let now = line.stages k s there some.1 in
        let move = some_of x.moves.now k (omega (arith, low, n, m)) in
        let kill = some_of x.kills.now k (omega (arith, low, n, i)) in
        let bit = subst (IsBit c) (sym (told.moves k move.0 e low move.1 is)) (at_bit c x.moves.now k move.0 (omega (arith, low, n, m)) move.1 line.moves) in
        let gone = subst (IsBit c) (sym (told.killed k kill.0 e low kill.1 is)) (at_bit c x.kills.now k kill.0 (omega (arith, low, n, i)) kill.1 line.kills) in
        record {
          walk = subst (IsWalk c (line_pipe x) (line_form x).widths) (sym (told.ended k s e low some.1 is)) now.walk;
          moves = bit;
          killed = gone;
        }
