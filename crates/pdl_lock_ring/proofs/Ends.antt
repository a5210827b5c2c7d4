-- What head and tail take next.
use Rattle.std.proofs.Common.{◌≡◌, refl}
use Rattle.pdl_net.specs.declared.BinOp.TheVariants.{Add}
use Rattle.pdl_net.specs.Circuit.{Circuit}
use Rattle.pdl_net.specs.Signal.{const_signal, bin_signal, mux_signal}
use Rattle.pdl_net.specs.Meaning.{signal}
use Rattle.pdl_lockapi.specs.declared.LockPorts.{LockPorts}
use Rattle.pdl_lockapi.specs.Laws.{StepSignals, step_signals}
use Rattle.pdl_lock_ring.specs.declared.layout.RingLayout.{RingLayout}
use Rattle.pdl_lock_ring.specs.Looks.{head_signal, tail_signal, second_ticket}
use Rattle.pdl_lock_ring.specs.Steps.{pushes, pushes2, next_head, head_after, tail_after}

-- the squash of a step is the signal of the squash port's net
pub squash_is : (c : Circuit) (p : LockPorts) → (step_signals c p).squash ≡ signal c p.squash
unfolding step_signals
squash_is c p = refl

-- the tail that a squash gives is the signal of the tail port's net
pub tail_is : (c : Circuit) (p : LockPorts) → (step_signals c p).tail ≡ signal c p.tail
unfolding step_signals
tail_is c p = refl

-- the release of a step is the signal of the release port's net
pub release_is : (c : Circuit) (p : LockPorts) → (step_signals c p).release ≡ signal c p.release
unfolding step_signals
release_is c p = refl

-- the second release of a step is the signal of the second release port's net
pub release2_is : (c : Circuit) (p : LockPorts) → (step_signals c p).release2 ≡ signal c p.release2
unfolding step_signals
release2_is c p = refl

-- the head goes one ticket on with a release, two with a second one, and else stays
pub head_is : (l : RingLayout) (f : StepSignals)
    → head_after l f
    ≡ mux_signal f.release2 (bin_signal Add (next_head l) (const_signal l.ticket 1)) (mux_signal f.release (next_head l) (head_signal l))
unfolding head_after
head_is l f = refl

-- the tail takes what a squash gives, else goes on by one ticket for each of up to two reservations
pub tail_after_is : (l : RingLayout) (f : StepSignals)
    → tail_after l f
    ≡ mux_signal f.squash f.tail
    (mux_signal (pushes2 f) (bin_signal Add (second_ticket l) (const_signal l.ticket 1)) (mux_signal (pushes f) (second_ticket l) (tail_signal l)))
unfolding tail_after
tail_after_is l f = refl

pub ruleset releases = (release_is, release2_is)

pub ruleset afters = (release_is, release2_is, squash_is, tail_is, head_is, tail_after_is)
