-- What the outputs are told is there.
use Rattle.std.proofs.Common.{◌≡◌, ◌<◌, ℕ, suc, refl, sym, ap, ◌∙◌, subst, length, List, [], ◌∷◌, arith}
use Rattle.std.specs.Prelude.{Option, Some, None, is_some, slice_index_or}
use Rattle.std.proofs.lemmas.Bool.{false≢true}
use Rattle.pdl_semantics.specs.Flat.{Pipe}
use Rattle.pdl_net.specs.Circuit.{Circuit}
use Rattle.pdl_net.specs.Meaning.{IsThere}
use Rattle.pdl_net.specs.Growth.{Keeps}
use Rattle.pdl_lockapi.specs.declared.LockNets.{LockNets}
use Rattle.pdl_lockapi.specs.Laws.{StepSignals}
use Rattle.pdl_pipe_walk.specs.declared.locks.MemLock.{MemLock}
use Rattle.pdl_pipe_walk.specs.Locked.{Members, some_at, AreLocked}
use Rattle.pdl_pipe_beside.specs.declared.outside.RequestNets.{RequestNets}
use Rattle.pdl_pipe_nexts.specs.declared.line.StageLine.{StageLine}
use Rattle.pdl_pipe_nexts.specs.Lines.{IsLineIn}
use Rattle.pdl_pipe_locks.specs.Stepped.{AreStepped}
use Rattle.pdl_pipe_ports.specs.declared.outputs.ShownNets.{ShownNets}
use Rattle.pdl_pipe_ports.specs.ToldOutputs.{AreThereStages, AreCommits, AreAsked, IsThereCommit, IsThereRequest}
use Rattle.pdl_pipe_emitted.proofs.SidesStages.{some_of}
use Rattle.pdl_pipe.specs.Emitted.{AreShownOf}
use Rattle.pdl_pipe.proofs.DeedNets.{at_bit}

stages_from : (c : Circuit) (ss : List ShownNets)
    → ((k : ℕ) (y : ShownNets) → k < length ss → slice_index_or ss k y ≡ y → IsThere c y.valid × IsThere c y.moves)
    → AreThereStages c ss
stages_from c [] h = tt
stages_from c (s ∷ ss) h = let x = h 0 s (omega arith) refl in (x.0, x.1, stages_from c ss (λ k y l is. h (suc k) y (omega (arith, l)) is))

-- the nets that show of each stage of a line whether it holds a thread and whether that moves are there
pub shown_there : (c : Circuit) (x : StageLine) (ss : List ShownNets) → IsLineIn c x → AreShownOf x ss → AreThereStages c ss
shown_there c x ss line told = stages_from c ss each
  where
    each : (k : ℕ) (y : ShownNets) → k < length ss → slice_index_or ss k y ≡ y → IsThere c y.valid × IsThere c y.moves
    each k y low is =
        let n = told.count in
        let m = line.moves_count in
        let there : k < length x.stages.now = omega (arith, low, n) in
        let some = some_of x.stages.now k there in
        let move = some_of x.moves.now k (omega (arith, low, n, m)) in (
          subst (IsThere c) (sym (told.valid k some.0 y low some.1 is)) (line.stages k some.0 there some.1).registers.valid.there,
          subst (IsThere c) (sym (told.moves k move.0 y low move.1 is)) (at_bit c x.moves.now k move.0 (omega (arith, low, n, m)) move.1 line.moves).there,
        )

-- the nets of what memories with a lock commit are there
pub commits_there : {T : Type 0} (l : Members T) (a c : Circuit) (p : Pipe) (f : ℕ → StepSignals)
    (xs : List (Option (MemLock T))) (ns : List (Option LockNets))
    → AreLocked l a p xs → AreStepped l c p f xs ns (length p.mems) → AreCommits c p ns
commits_there {T} l a c p f xs ns locked stepped = record {
  count = stepped.count;
  locked = λ m low. (stepped.each m low).has ∙ locked.locked m low;
  there = λ m low. there m low (some_at ns m) refl (some_at xs m) refl;
}
  where
    there : (m : ℕ) → m < length p.mems → (n : Option LockNets) → some_at ns m ≡ n → (y : Option (MemLock T)) → some_at xs m ≡ y → IsThereCommit c n
    there m low None e y g = tt
    there m low (Some n) e None g = absurd (false≢true (ap is_some (sym g) ∙ sym (stepped.each m low).has ∙ ap is_some e))
    there m low (Some n) e (Some y) g = let it = (stepped.each m low).lock y n g e in
        (it.nets.commit.there, it.nets.addr_there, it.nets.value.there, it.nets2.commit.there, it.nets2.addr_there, it.nets2.value.there)

-- what is asked of delayed memories stays there
pub asked_kept : (a b : Circuit) (p : Pipe) (rs : List (Option RequestNets)) → Keeps a b → AreAsked a p rs → AreAsked b p rs
asked_kept a b p rs e h = record { count = h.count; delayed = h.delayed; there = λ m low. at (slice_index_or rs m None) (h.there m low) }
  where
    at : (o : Option RequestNets) → IsThereRequest a o → IsThereRequest b o
    at None t = tt
    at (Some r) t = (e.there r.enable t.0, e.there r.addr t.1)
