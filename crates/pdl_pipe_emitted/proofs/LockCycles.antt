-- The lock of a memory in a cycle of a run, as its module speaks of it.
use Rattle.std.proofs.Common.{◌≡◌, ℕ, ◌<◌, Bool, true, List, length, ap, sym, ◌∙◌, subst}
use Rattle.std.specs.Prelude.{Option, Some, is_some}
use Rattle.pdl_semantics.specs.Tree as tree
use Rattle.pdl_semantics.specs.Flat.{Pipe}
use Rattle.pdl_semantics.specs.Flatten.{flat}
use Rattle.pdl_semantics.specs.Machine as machine
use Rattle.pdl_rules.specs.Refusal.{KeepsRules}
use Rattle.pdl_source_paths.specs.Source.{is_source, is_named}
use Rattle.pdl_net.specs.declared.Netlist.{Netlist}
use Rattle.pdl_net.specs.Circuit.{Circuit, State}
use Rattle.pdl_net.specs.Signal.{Signal}
use Rattle.pdl_net.specs.Run.{start, state_in}
use Rattle.pdl_image.specs.Images.{IsImage}
use Rattle.pdl_lockapi.specs.Lock.{LockState}
use Rattle.pdl_law_parts.specs.Walk.{Locks, is_locked}
use Rattle.pdl_law_parts.specs.Views.{View, Gates}
use Rattle.pdl_law_parts.specs.Ports.{step_of}
use Rattle.pdl_law_parts.specs.Places.{delayed_count}
use Rattle.pdl_law_parts.specs.States.{held_after}
use Rattle.pdl_law_sides.specs.Sides.{Sides}
use Rattle.pdl_law_sides.specs.WholeNetlist.{replies_of}
use Rattle.pdl_law_follows.specs.Follows.{IsMade}
use Rattle.pdl_law_follows.specs.Refined.{machine_after}
use Rattle.pdl_pipe_walk.specs.declared.locks.MemLock.{MemLock}
use Rattle.pdl_pipe_walk.specs.Locked.{Members, some_at, of_lock, locks_in}
use Rattle.pdl_pipe_emitted.specs.Used.{IsUsedAs, IsUsedLock, IsUsed}
use Rattle.pdl_pipe_emitted.proofs.LockRuns.{used_made}

-- the lock of a memory, used where it is known by the memory's number, is used as a lock of its lock module
pub used_lock : {T : Type 0} (l : Members T) (p : Pipe) (c : Circuit) (xs : List (Option (MemLock T))) (vs : ℕ → View)
    (gates : Gates) (moves : ℕ → Signal) (m : ℕ) (y : MemLock T) (s : State) (st : machine.State) (replies : List Bool)
    → some_at xs m ≡ Some y → IsUsedLock p (locks_in l p c xs) vs gates moves s st replies m
    → IsUsed l p m y (step_of p vs gates moves m) s st replies
used_lock {T} l p c xs vs gates moves m y s st replies e used =
    let ls : Locks = locks_in l p c xs in
    let stands : ls.stands m ≡ l.stands y.lock y.regs = ap (of_lock (λ (z : MemLock T). l.stands z.lock z.regs) (λ s z. Unit {0})) e in
    let size : ls.size m ≡ l.size y.lock = ap (of_lock (λ (z : MemLock T). l.size z.lock) 1) e in
    let bits : ls.bits m ≡ l.tickets y.lock = ap (of_lock (λ (z : MemLock T). l.tickets z.lock) 1) e in
    let f = step_of p vs gates moves m in
    subst (λ (g : State → LockState → Type 0). IsUsedAs g (l.size y.lock) (l.tickets y.lock) p m f s st replies) stands
    (subst (λ n. IsUsedAs (ls.stands m) n (l.tickets y.lock) p m f s st replies) size
    (subst (λ w. IsUsedAs (ls.stands m) (ls.size m) w p m f s st replies) bits used))

-- so it is of each lock of a netlist that is made of an accepted source, where each memory that asks for a lock has one
pub used_locks : {T : Type 0} (l : Members T) (p : tree.Pipe) → KeepsRules p
    → is_source p ≡ true → is_named p ≡ true → (n : Netlist) (c : Circuit) (locks : List (Option (MemLock T)))
    → ((m : ℕ) → m < length (flat p).mems → is_some (some_at locks m) ≡ is_locked (flat p) m)
    → (views : ℕ → View) (gates : Gates) (moves : ℕ → Signal) (sides : Sides)
    → IsMade p (locks_in l (flat p) c locks) views gates moves sides n
    → (image : List (List ℕ)) (schedule : List ℕ) (bits m : ℕ) (x : MemLock T) → IsImage n.mems image
    → m < length (flat p).mems → some_at locks m ≡ Some x
    → IsUsed l (flat p) m x (step_of (flat p) views gates moves m)
    (state_in (held_after n (start n image) schedule) bits) (machine_after (flat p) image schedule)
    (replies_of (delayed_count (flat p)) bits)
used_locks l p rules source named n c locks locked views gates moves sides made image schedule bits m x is_image low e =
    used_lock l (flat p) c locks views gates moves m x (state_in (held_after n (start n image) schedule) bits)
    (machine_after (flat p) image schedule) (replies_of (delayed_count (flat p)) bits) e
    (used_made p rules source named
    (locks_in l (flat p) c locks) views gates moves sides n made image schedule bits m is_image
    (sym (locked m low) ∙ ap is_some e))
