-- The nets of a netlist that is made of an accepted source show what they are named for.
use Rattle.std.proofs.Common.{◌≡◌, refl, sym, ap, ◌∙◌, ℕ, zero, suc, ◌<◌, List, [], ◌∷◌, length}
use Rattle.std.specs.Prelude.{Bool, slice_index}
use Rattle.pdl_semantics.specs.Tree as tree
use Rattle.pdl_semantics.specs.Flat.{Pipe}
use Rattle.pdl_semantics.specs.Flatten.{flat}
use Rattle.pdl_semantics.specs.Machine as machine
use Rattle.pdl_net.specs.declared.Netlist.{Netlist}
use Rattle.pdl_net.specs.declared.Net.{Net}
use Rattle.pdl_net.specs.Circuit.{State, circuit_of}
use Rattle.pdl_net.specs.Signal.{Signal}
use Rattle.pdl_net.specs.Meaning.{signal}
use Rattle.pdl_net.specs.Run.{start, state_in}
use Rattle.pdl_image.specs.Images.{IsImage}
use Rattle.pdl_law_parts.specs.Walk.{Locks, values_at}
use Rattle.pdl_law_parts.specs.Views.{View}
use Rattle.pdl_law_parts.specs.Places.{delayed_count}
use Rattle.pdl_law_parts.specs.States.{held_after}
use Rattle.pdl_law_parts.specs.Stands.{StandsFor, IsSeen}
use Rattle.pdl_law_sides.specs.WholeNetlist.{replies_of}
use Rattle.pdl_law_follows.specs.Refined.{machine_after}
use Rattle.pdl_pipe_exprs.specs.Nets.{signal_at}
use Rattle.pdl_pipe.specs.declared.names.Role.{Role}
use Rattle.pdl_pipe.specs.declared.names.Role.TheVariants.{Holds, Moves, Keeps, Ends, Guess, Marked, Ticket, Lock, Port, Order, Tail}
use Rattle.pdl_pipe.specs.Names.{IsLive, IsShown, ShowsRole}
use Rattle.pdl_pipe.specs.NamedNets.{IsSignalOf}

-- ---- a cycle

values_get : (s : State) (fs : List Signal) (i : ℕ) → slice_index (values_at s fs) i ≡ (signal_at fs i).value s
values_get s [] i = refl
values_get s (f ∷ fs) zero = refl
values_get s (f ∷ fs) (suc i) = values_get s fs i

-- in a state that stands for the machine's, whose stages are seen, the signal that a role speaks of has the value that it says
pub shown_here : (p : Pipe) (ls : Locks) (vs : ℕ → View) (moves : ℕ → Signal) (s : State) (st : machine.State) (bits : List Bool)
    → StandsFor p ls vs s st → ((k : ℕ) → k < length p.stages → IsSeen p vs moves s st bits k)
    → (role : Role) (f : Signal) → IsLive p role → IsSignalOf vs moves role f → IsShown p st bits role (f.value s)
shown_here p ls vs moves s st bits stand seen (Holds k) f live e = ap (λ (g : Signal). g.value s) e ∙ stand.valid k live
shown_here p ls vs moves s st bits stand seen (Moves k) f live e = ap (λ (g : Signal). g.value s) e ∙ (seen k live).leaves
shown_here p ls vs moves s st bits stand seen (Keeps k x) f live e =
    λ t is. ap (λ (g : Signal). g.value s) e ∙ sym (stand.env k t is x live.2)
shown_here p ls vs moves s st bits stand seen (Ends k x) f live e =
    λ t is ready. ap (λ (g : Signal). g.value s) e ∙ sym ((((seen k live.0).follows t is).so ready).env x live.2)
shown_here p ls vs moves s st bits stand seen (Guess k i) f live e =
    λ t is long. ap (λ (g : Signal). g.value s) e ∙ sym (values_get s (vs k).begun.guess i)
    ∙ ap (λ args. slice_index args i) (sym (stand.guess k t is live.2 long))
shown_here p ls vs moves s st bits stand seen (Marked k h m a) f live e = tt
shown_here p ls vs moves s st bits stand seen (Ticket k m) f live e = tt
shown_here p ls vs moves s st bits stand seen (Lock m i) f live e = tt
shown_here p ls vs moves s st bits stand seen (Port m i) f live e = tt
shown_here p ls vs moves s st bits stand seen (Order k i) f live e = tt
shown_here p ls vs moves s st bits stand seen (Tail k m) f live e = tt

-- ---- runs

-- in each cycle of each run the state of a netlist stands for the machine's, and its stages are seen
pub record IsSeenAlways (p : tree.Pipe) (n : Netlist) (ls : Locks) (vs : ℕ → View) (moves : ℕ → Signal) : Type 0 where
  pub stands : (image : List (List ℕ)) (schedule : List ℕ) (bits : ℕ) → IsImage n.mems image
      → StandsFor (flat p) ls vs (state_in (held_after n (start n image) schedule) bits) (machine_after (flat p) image schedule)
  pub seen : (image : List (List ℕ)) (schedule : List ℕ) (bits k : ℕ) → IsImage n.mems image → k < length (flat p).stages
      → IsSeen (flat p) vs moves (state_in (held_after n (start n image) schedule) bits)
      (machine_after (flat p) image schedule) (replies_of (delayed_count (flat p)) bits) k

module _ (p : tree.Pipe) (n : Netlist) (ls : Locks) (vs : ℕ → View) (moves : ℕ → Signal) (always : IsSeenAlways p n ls vs moves) where
  -- a net whose signal is that of a role shows what the role says
  pub shows_role : (role : Role) (x : Net) → IsLive (flat p) role → IsSignalOf vs moves role (signal (circuit_of n) x) → ShowsRole p n role x
  shows_role role x live e = λ image schedule bits is_image.
      shown_here (flat p) ls vs moves (state_in (held_after n (start n image) schedule) bits)
      (machine_after (flat p) image schedule) (replies_of (delayed_count (flat p)) bits)
      (always.stands image schedule bits is_image) (λ k low. always.seen image schedule bits k is_image low)
      role (signal (circuit_of n) x) live e
